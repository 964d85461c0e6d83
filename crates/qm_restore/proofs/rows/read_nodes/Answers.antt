use Rattle.std.proofs.Common.{◌<◌, ◌∙◌, ℕ, List, [], sym, length, get_or, arith, lit<}
use Rattle.std.proofs.lemmas.Option.{slice_get-get_or}
use Rattle.qm_restore.proofs.Beginning.{if_ok, none_is_unlawful, of_named, unnamed_is_first, unnamed_is_judged, unread_is_judged, is_first}
use Rattle.qm_restore.proofs.Going.{if_err}
use Rattle.qm_restore.proofs.rows.read_nodes.Goals as goal

pub returns-then-count-eq0-clause-judged : goal.returns-then-count-eq0-clause-judged
returns-then-count-eq0-clause-judged g c = (none_is_unlawful (g.B.Bodies.bodies c.args.log.now) (sym c.count.ensures ∙ c.if-count-eq0.true), lit< tt)

pub returns-in-Err-clause-judged : goal.returns-in-Err-clause-judged
returns-in-Err-clause-judged g c =
    let inside : 0 < length (g.B.Bodies.bodies c.args.log.now) = omega arith in
    let body : List ℕ = get_or (g.B.Bodies.bodies c.args.log.now) 0 [] in
    let there = slice_get-get_or (g.B.Bodies.bodies c.args.log.now) 0 [] inside in
    unread_is_judged (g.B.Bodies.bodies c.args.log.now) body c.in-Err.fault there c.in-Err.ensures.place c.in-Err.ensures.only

pub returns-in-Err-clause-first : goal.returns-in-Err-clause-first
returns-in-Err-clause-first g c = is_first c.in-Err.fault c.in-Err.ensures.place

pub returns-clause-nodes : goal.returns-clause-nodes
returns-clause-nodes g c =
    let bodies = g.B.Bodies.bodies c.args.log.now in
    let inside : 0 < length (g.B.Bodies.bodies c.args.log.now) = omega arith in
    let body : List ℕ = get_or (g.B.Bodies.bodies c.args.log.now) 0 [] in
    let there = slice_get-get_or (g.B.Bodies.bodies c.args.log.now) 0 [] inside in
    let fits = (c.in-Ok.ensures.found body there).fits in
    if_ok c.nodes_in-nodes.result (λ nodes named. of_named bodies c.in-Ok.record nodes.items inside fits c.in-Ok.ensures.only named) c.nodes_in-nodes.ensures.nodes

pub returns-clause-judged : goal.returns-clause-judged
returns-clause-judged g c =
    if_err c.nodes_in-nodes.result (λ fault none. unnamed_is_judged (g.B.Bodies.bodies c.args.log.now) c.in-Ok.record fault c.in-Ok.ensures.only none) c.nodes_in-nodes.ensures.none

pub returns-clause-first : goal.returns-clause-first
returns-clause-first g c = if_err c.nodes_in-nodes.result (unnamed_is_first c.in-Ok.record.body) c.nodes_in-nodes.ensures.none
