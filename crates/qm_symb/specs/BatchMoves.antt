-- What a move means, and where it leads.
use Rattle.std.specs.Prelude.{◌≤◌, ◌&&◌, nat_lt, if◌then◌else◌, ℕ, List, [], ◌∷◌, ◌++◌, length, Option, None, Some}
use Rattle.qm_kinds.specs.declared.work.Work.{Work}
use Rattle.qm_model.specs.Batch.{BatchMove}
use Rattle.qm_model.specs.Batch as batch
use Rattle.qm_symb.specs.BatchCursors.{IsInText}
use Rattle.qm_symb.specs.declared.batch.moves.Move.{Move}
use Rattle.qm_symb.specs.declared.batch.moves.Move.TheVariants as made

-- a move, as the definitions have it
abbrev pub move_meaning : Move → BatchMove
move_meaning (made.GoOn next) = batch.GoOn next.line
move_meaning (made.Output text next) = batch.Output (text.now ++ 10 ∷ []) next.line
move_meaning (made.SaveMark text next) = batch.SaveMark text.now next.line
move_meaning (made.EndRun status) = batch.EndRun status

-- a run that goes on does so in its text; what it writes isn't longer than that, and a mark isn't too long
abbrev pub StaysWithin : List ℕ → Move → Type 0
StaysWithin text (made.GoOn next) = IsInText text next
StaysWithin text (made.Output block next) = (length block.now ≤ length text) × IsInText text next
StaysWithin text (made.SaveMark mark next) = (length mark.now ≤ 255) × IsInText text next
StaysWithin text (made.EndRun status) = Unit {0}

-- the label at which a job that runs again goes on: its mark, unless that is empty
abbrev pub restart_label : Work → Option (List ℕ)
restart_label w = if w.again && nat_lt 0 (length w.mark) then Some w.mark else None
