-- One turn of a node at the turnstile: what its pass then knows.
-- This site's own: turns, and their notes.
use Rattle.std.specs.Prelude.{◌≡◌, ◌-◌, ◌^◌, ◌<◌, ◌≤◌, ℕ, Bool, IsTrue, List, [], ◌∷◌, ◌++◌, length, option_to_list}
use Rattle.atomic_table.specs.Seated.{TableId}
use Rattle.qm_history.specs.declared.call.Answer.{Answer}
use Rattle.qm_history.specs.declared.call.Answer.TheVariants as answer
use Rattle.qm_history.specs.declared.call.Call.{Call}
use Rattle.qm_history.specs.declared.world.World.{World}
use Rattle.qm_history.specs.Chest.{IsMadeFor, is_unread}
use Rattle.qm_history.specs.Common.{IsLegal, after_turns, IsAnswered}
use Rattle.qm_turn.specs.History.{notes_by}
use Rattle.qm_turn.specs.Turns.{Known}
use Rattle.qm_cluster.specs.declared.noted.Noted.{Noted}
use Rattle.qm_cluster.specs.Passes.{turns_in}
use Rattle.qm_cluster.specs.CallServing.{LeavesTurn}

-- the pass is of this turnstile and this node, and can make one turn more
pub record CanPass (place : TableId) (node : ℕ) (pass : Known Noted) : Type 0 where
  pub here : pass.place ≡ place
  pub number : pass.number ≡ node
  pub room : length pass.mine < 2 ^ 32 - 1

-- The pass had its turn with the call of this node, at this reading: it has then seen the turns up to that, which found the others.
-- Where the disks tell, all of them are legal from each world on in which it may have begun, and the call was told what its turn says, and of no damaged file.
pub record IsTurnMade (tells : Bool) (may_begin : World → Type 0) (most : ℕ) (old new : Known Noted) (node now : ℕ) (asked : Call) (told : Answer) : Type 0 where
  pub between : List (ℕ × Noted)
  pub note : Noted
  pub seen : new.seen ≡ (old.seen ++ between) ++ (old.number, note) ∷ []
  pub mine : new.mine ≡ old.mine ++ note ∷ []
  pub all_mine : notes_by new.number new.seen ≡ new.mine
  pub number : new.number ≡ old.number
  pub took : new.took ≡ old.took
  pub place : new.place ≡ old.place
  pub asks : note.asked ≡ asked
  pub unread : note.unread ≡ is_unread note.turn told
  pub made : IsMadeFor node now asked note.turn
  pub leaves : LeavesTurn most (turns_in (old.seen ++ between)) note.turn told
  pub few : length (turns_in (old.seen ++ between) ++ option_to_list note.turn) ≤ most
  pub legal : IsTrue tells → (w : World) → may_begin w → IsLegal w (turns_in (old.seen ++ between))
  pub answered : IsTrue tells → (w : World) → may_begin w → IsAnswered (after_turns w (turns_in (old.seen ++ between))) asked note.turn told
  pub undamaged : IsTrue tells → (file place : ℕ) → told ≡ answer.Damaged file place → ⊥
