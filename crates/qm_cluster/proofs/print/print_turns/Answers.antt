use Rattle.std.proofs.Common.{◌∙◌}
use Rattle.qm_cluster.specs.Printing.{words_of}
use Rattle.qm_cluster.proofs.Writing.{failed}
use Rattle.qm_cluster.proofs.Words.{goes, stops}
use Rattle.qm_cluster.proofs.print.print_turns.Goals as goal

pub pieces-preserved : goal.pieces-preserved
pieces-preserved g c =
    goes c.args.names.now c.args.turns.now (g.O.Sink.taken c.args.sink.now) (g.O.Sink.faults c.args.sink.now) c.pieces.rest.now c.split_at.result.0.now c.split_at.result.1.now (g.O.Sink.taken c.pieces.sink)
    (g.O.Sink.taken c.write_whole.new.sink) (g.O.Sink.faults c.pieces.sink) (g.O.Sink.faults c.write_whole.new.sink) c.pieces.invariant c.min.result c.split_at.ensures.front c.split_at.ensures.back c.deref.result.now
    (c.deref.ensures.0 ∙ c.piece_of.ensures) c.in_ok-write_whole.ensures.all c.in_ok-write_whole.ensures.quiet

pub returns-in_err-write_whole : goal.returns-in_err-write_whole
returns-in_err-write_whole g c =
    let is = stops c.args.names.now c.args.turns.now (g.O.Sink.taken c.args.sink.now) (g.O.Sink.faults c.args.sink.now) c.pieces.rest.now c.split_at.result.0.now c.split_at.result.1.now (g.O.Sink.taken c.pieces.sink)
    (g.O.Sink.taken c.write_whole.new.sink) (g.O.Sink.faults c.pieces.sink) (g.O.Sink.faults c.write_whole.new.sink) c.pieces.invariant c.min.result c.split_at.ensures.front c.split_at.ensures.back c.deref.result.now
    (c.deref.ensures.0 ∙ c.piece_of.ensures) c.in_err-write_whole.ensures.prefix c.in_err-write_whole.ensures.cause in
    failed c.from_residual.result (g.O.Sink.taken c.args.sink.now) (g.O.Sink.taken c.write_whole.new.sink) (g.O.Sink.faults c.args.sink.now) (g.O.Sink.faults c.write_whole.new.sink) (words_of c.args.names.now c.args.turns.now)
    c.from_residual.ensures.0 is.0 is.1
