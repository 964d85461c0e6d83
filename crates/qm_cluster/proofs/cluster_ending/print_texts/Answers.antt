use Rattle.std.proofs.Common.{◌∙◌, ap, map, refl, sym}
use Rattle.qm_history.specs.Ends.{texts_printed, worse}
use Rattle.qm_cluster.specs.Gathered.{text_left}
use Rattle.qm_cluster.specs.Printing.{turns_line}
use Rattle.qm_cluster.specs.Ends.{serving_end}
use Rattle.qm_cluster.specs.ClusterEnding.{lacks_text, worst_of}
use Rattle.qm_cluster.proofs.Told.{failed_told, none_told, whole_told}
use Rattle.qm_cluster.proofs.cluster_ending.print_texts.Goals as goal

pub returns-then-lacks_text : goal.returns-then-lacks_text
returns-then-lacks_text g c =
    none_told (worst_of (map text_left c.args.texts.now)) (g.O.Sink.taken c.args.sink.now) (g.O.Sink.taken c.args.sink.now) (g.O.Sink.faults c.args.sink.now) (g.O.Sink.faults c.args.sink.now)
    (texts_printed (turns_line c.args.names.now c.args.turns.now) (map text_left c.args.texts.now)) c.args.turns.now (serving_end c.worst_end-worst.result)
    (ap lacks_text (sym c.worst_end-worst.ensures) ∙ sym c.lacks_text.ensures ∙ c.if-lacks_text.true) refl refl c.worst_end-worst.ensures

pub returns-in-Ok : goal.returns-in-Ok
returns-in-Ok g c =
    whole_told (worst_of (map text_left c.args.texts.now)) (g.O.Sink.taken c.args.sink.now) (g.O.Sink.taken c.print_all.new.sink) (g.O.Sink.faults c.args.sink.now) (g.O.Sink.faults c.print_all.new.sink)
    (texts_printed (turns_line c.args.names.now c.args.turns.now) (map text_left c.args.texts.now)) c.args.turns.now (serving_end c.worse.result)
    (ap lacks_text (sym c.worst_end-worst.ensures) ∙ sym c.lacks_text.ensures ∙ c.if-lacks_text.false) c.in-Ok.ensures.0 c.in-Ok.ensures.1
    (c.worse.ensures ∙ ap (λ s. worse s (serving_end c.end_of_turns.result)) c.worst_end-worst.ensures ∙ ap (worse (worst_of (map text_left c.args.texts.now))) c.end_of_turns.ensures)

pub returns-in-Err : goal.returns-in-Err
returns-in-Err g c =
    failed_told (worst_of (map text_left c.args.texts.now)) (g.O.Sink.taken c.args.sink.now) (g.O.Sink.taken c.print_all.new.sink) (g.O.Sink.faults c.args.sink.now) (g.O.Sink.faults c.print_all.new.sink)
    (texts_printed (turns_line c.args.names.now c.args.turns.now) (map text_left c.args.texts.now)) c.args.turns.now _
    (ap lacks_text (sym c.worst_end-worst.ensures) ∙ sym c.lacks_text.ensures ∙ c.if-lacks_text.false) c.in-Err.ensures.0 c.in-Err.ensures.1 refl
