use Rattle.std.proofs.Common.{◌∙◌, drop, map, subst, sym}
use Rattle.std.specs.Io.KnownBytes.{Appends}
use Rattle.qm_node.proofs.Fronts.{front_of_prefix}
use Rattle.qm_history.specs.Ends.{cuts_text, texts_printed}
use Rattle.qm_cluster.specs.Driving.{node_end}
use Rattle.qm_cluster.specs.Gathered.{text_left}
use Rattle.qm_cluster.specs.Printing.{Writes, turns_line}
use Rattle.qm_cluster.proofs.Writing.{behind_first, failed, front_of_first, printed_from, rest_whole, then_writes}
use Rattle.qm_cluster.proofs.print.+print_all.Goals as goal

pub returns-in_err-write_whole-in-len1-up : goal.returns-in_err-write_whole-in-len1-up
returns-in_err-write_whole-in-len1-up g t c =
    let old = g.O.Sink.taken c.args.sink.now in
    let new = g.O.Sink.taken c.write_whole.new.sink in
    let before = g.O.Sink.faults c.args.sink.now in
    let now = g.O.Sink.faults c.write_whole.new.sink in
    let last = turns_line c.args.names.now c.args.turns.now in
    let first = c.first-item.result in
    let text = first.text.taken in
    subst (λ l. Writes c.from_residual.result old new before now l) (sym (printed_from text_left last c.args.texts.now first c.in-len1-up.len_at_least c.first-item.is))
    (failed c.from_residual.result old new before now _ c.from_residual.ensures.0
    (front_of_first last text (cuts_text (node_end first.end)) (texts_printed last (map text_left (drop 1 c.args.texts.now))) old new
    (front_of_prefix old new _ text c.held.ensures c.in_err-write_whole-in-len1-up.ensures.prefix))
    c.in_err-write_whole-in-len1-up.ensures.cause)

pub returns-else-cuts_text : goal.returns-else-cuts_text
returns-else-cuts_text g t c =
    let old = g.O.Sink.taken c.args.sink.now in
    let mid = g.O.Sink.taken c.write_whole.new.sink in
    let new = g.O.Sink.taken c.print_all.new.sink in
    let before = g.O.Sink.faults c.args.sink.now in
    let between = g.O.Sink.faults c.write_whole.new.sink in
    let now = g.O.Sink.faults c.print_all.new.sink in
    let last = turns_line c.args.names.now c.args.turns.now in
    let first = c.first-item.result in
    let text = first.text.taken in
    let more = texts_printed last (map text_left (drop 1 c.args.texts.now)) in
    let took = subst (λ l. Appends old mid l) c.held.ensures c.in_ok-write_whole-in-len1-up.ensures.all in
    subst (λ l. Writes c.print_all.result old new before now l) (sym (printed_from text_left last c.args.texts.now first c.in-len1-up.len_at_least c.first-item.is))
    (behind_first last text (cuts_text (node_end first.end)) more c.print_all.result old new before now (sym c.cuts_text.ensures ∙ c.if-cuts_text.false)
    (then_writes c.print_all.result old mid new before between now text more took c.in_ok-write_whole-in-len1-up.ensures.quiet
    (subst (λ l. Writes c.print_all.result mid new between now (texts_printed last (map text_left l))) (rest_whole c.args.texts.now) c.print_all.ensures)))
