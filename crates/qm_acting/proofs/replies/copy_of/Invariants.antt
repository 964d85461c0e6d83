use Rattle.std.specs.Prelude.{◌≡◌, take, vec_capacity}
use Rattle.qm_acting.proofs.replies.copy_of.Given as goal

abbrev pub invariant-loop-start : goal.invariant-loop-start
invariant-loop-start l = record { items : l.started.items ≡ take l.start-index l.start-items; room : vec_capacity l.started ≡ vec_capacity l.fn.room; whole : l.start-items ≡ l.fn.reply.started }
