-- What is known once the passes of all nodes are joined.
-- This site's own: turns, passes and their notes.
use Rattle.std.specs.Prelude.{◌≡◌, ◌≤◌, ℕ, List, [], length, map}
use Rattle.std.specs.List.{AllByRecursion}
use mathlib.Core.List.{IsPrefix}
use Rattle.qm_turn.specs.History.{Agrees, notes, notes_by}
use Rattle.qm_turn.specs.Turns.{Known}
use Rattle.qm_cluster.specs.Driving.{node_end}
use Rattle.qm_cluster.specs.declared.noted.Noted.{Noted}
use Rattle.qm_history.specs.Ends.{NodeText}
use Rattle.qm_history.specs.Serving.{Meaning}
use Rattle.qm_cluster.specs.Sharing.{StandsSince}
use Rattle.qm_cluster.specs.Through.{AtTurnstile, is_at}
use Rattle.atomic_table.specs.Seated.{TableId}
use Rattle.qm_cluster.specs.declared.place.TurnstileSeat.{TurnstileSeat}
use Rattle.qm_cluster.specs.declared.shared.Shared.{Shared}
use Rattle.qm_cluster.specs.declared.join.LeftText.{LeftText}

-- the number of a pass, and the notes of its own turns
abbrev pub pair_of : Known Noted → ℕ × List Noted
pair_of pass = (pass.number, pass.mine)

-- The value stands for one history, with which begins what each pass has seen; in it each pass's number has the notes of its pass, and
-- no further number has any.
pub record AreGathered {V : Type 0} (stands : V → List Noted → Type 0) (passes : List (Known Noted)) (value : V) : Type 0 where
  pub log : List (ℕ × Noted)
  pub value_stands : stands value (notes log)
  pub seen : AllByRecursion (λ (pass : Known Noted). IsPrefix pass.seen log) passes
  pub agrees : Agrees log (map pair_of passes)
  pub no_others : (number : ℕ) → length passes ≤ number → notes_by number log ≡ []

-- how a node's turns ended, and their text
abbrev pub text_at : AtTurnstile → NodeText
text_at at = record { end = at.end; printed = at.text }

abbrev pub text_left : LeftText → NodeText
text_left left = record { end = node_end left.end; printed = left.text.taken }

abbrev pub all_left : List LeftText → List NodeText
all_left texts = map text_left texts

module _ {S J : Type 0} where
  -- the passes of nodes at a turnstile, and their numbers
  abbrev pub passes_of : List (TurnstileSeat S J) → List (Known Noted)
  passes_of seats = map (λ (s : TurnstileSeat S J). s.pass) seats

  abbrev pub numbers_at : List (TurnstileSeat S J) → List ℕ
  numbers_at seats = map (λ (s : TurnstileSeat S J). s.pass.number) seats

  -- how their turns ended, and their texts
  abbrev pub texts_at : List (TurnstileSeat S J) → List NodeText
  texts_at seats = map (λ (s : TurnstileSeat S J). text_at (is_at s)) seats

  -- they sit at this turnstile, and took no other pass in
  abbrev pub AreHere : TableId → List (TurnstileSeat S J) → Type 0
  AreHere place seats = AllByRecursion (λ (s : TurnstileSeat S J). (s.pass.place ≡ place) × (s.pass.took ≡ [])) seats

  -- what stands behind the turnstile stands for the notes of all calls since it began so
  abbrev pub SharedStands : Meaning S → List S → Shared S J → List Noted → Type 0
  SharedStands m began shared notes = StandsSince m began shared.manager notes
