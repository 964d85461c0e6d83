use Rattle.std.proofs.Common.{◌∷◌, ◌++◌, ◌∙◌, [], codes, ap, refl}
use Rattle.qm_node.proofs.Fronts.{front_of_prefix}
use Rattle.qm_disk.specs.Faults.{counted}
use Rattle.qm_cluster.specs.Printing.{turns_line, words_of}
use Rattle.qm_cluster.proofs.Writing.{failed, front_more, front_on, then_writes, two_texts}
use Rattle.qm_cluster.proofs.print.print_last.Goals as goal

pub returns-in_err-write_whole : goal.returns-in_err-write_whole
returns-in_err-write_whole g c =
    let old = g.O.Sink.taken c.args.sink.now in
    let new = g.O.Sink.taken c.write_whole.new.sink in
    failed c.from_residual.result old new (g.O.Sink.faults c.args.sink.now) (g.O.Sink.faults c.write_whole.new.sink) (turns_line c.args.names.now c.args.turns.now) c.from_residual.ensures.0
    (front_more old new (codes "turns:") (words_of c.args.names.now c.args.turns.now ++ 10 ∷ []) (front_of_prefix old new (codes "turns:") (codes "turns:") refl c.in_err-write_whole.ensures.prefix))
    c.in_err-write_whole.ensures.cause

pub returns-in_err-print_turns : goal.returns-in_err-print_turns
returns-in_err-print_turns g c =
    let old = g.O.Sink.taken c.args.sink.now in
    let mid = g.O.Sink.taken c.write_whole.new.sink in
    let new = g.O.Sink.taken c.print_turns.new.sink in
    let words = words_of c.args.names.now c.args.turns.now in
    failed c.from_residual-in_err-print_turns.result old new (g.O.Sink.faults c.args.sink.now) (g.O.Sink.faults c.print_turns.new.sink) (turns_line c.args.names.now c.args.turns.now)
    c.from_residual-in_err-print_turns.ensures.0 (front_on old mid new (codes "turns:") (words ++ 10 ∷ []) c.in_ok-write_whole.ensures.all (front_more mid new words (10 ∷ []) c.in_err-print_turns.ensures.0))
    (c.in_err-print_turns.ensures.1 ∙ ap counted c.in_ok-write_whole.ensures.quiet)

pub returns : goal.returns
returns g c =
    let last = c.write_whole-2 in
    let old = g.O.Sink.taken c.args.sink.now in
    let mid = g.O.Sink.taken c.write_whole.new.sink in
    let then = g.O.Sink.taken c.print_turns.new.sink in
    let new = g.O.Sink.taken last.new.sink in
    let words = words_of c.args.names.now c.args.turns.now in
    then_writes last.result old mid new (g.O.Sink.faults c.args.sink.now) (g.O.Sink.faults c.write_whole.new.sink) (g.O.Sink.faults last.new.sink) (codes "turns:") (words ++ 10 ∷ [])
    c.in_ok-write_whole.ensures.all c.in_ok-write_whole.ensures.quiet
    (two_texts last.result mid then new (g.O.Sink.faults c.write_whole.new.sink) (g.O.Sink.faults c.print_turns.new.sink) (g.O.Sink.faults last.new.sink) words (10 ∷ []) (10 ∷ []) refl c.in_ok-print_turns.ensures.0
    c.in_ok-print_turns.ensures.1 last.ensures.all last.ensures.prefix last.ensures.quiet last.ensures.cause)
