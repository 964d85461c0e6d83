-- What comes of a request that the rules accept.
use Rattle.std.proofs.Common.{◌≡◌, ℕ, true, false, [], ◌∷◌, refl, ap, Some, Result, Ok, Err, IsOk}
use Rattle.qm_history.specs.Common.{Refusal, Request, Accepted}
use Rattle.qm_history.specs.declared.event.Event.{Event}
use Rattle.qm_history.specs.declared.event.Event.TheVariants as event
use Rattle.qm_history.specs.Turn.{IsDecided}
use Rattle.qm_chest.specs.Steps.{is_recorded, is_step}

pub recorded_step : (e : Event) → is_recorded (Some e) ≡ true → is_step e ≡ true
recorded_step (event.Done n m r told) is = refl
recorded_step (event.Doubt n m r) is = refl
recorded_step (event.Refused n m i refusal) is = refl
recorded_step (event.Shown n m i) is = refl
recorded_step (event.Full n need cap) is = refl
recorded_step (event.Fenced n held current) is = refl
recorded_step (event.NoManager n) is = cc
recorded_step (event.Took n m epoch gone up may kept) is = cc
recorded_step (event.TakeDoubt n tried kept) is = cc
recorded_step (event.Stopped n) is = cc
recorded_step (event.Left n) is = cc
recorded_step (event.Started n) is = cc
recorded_step (event.Compacted n epoch file) is = cc
recorded_step (event.CompactDoubt n) is = cc

-- its record is there, in doubt, or has no room
pub full_alone : (res : Result Accepted Refusal) (node moment : ℕ) (wanted : Request) (e : Event) → IsOk res → is_recorded (Some e) ≡ false → IsDecided node moment wanted res (e ∷ [])
    → (need : ℕ) × (cap : ℕ) × (e ≡ event.Full node need cap)
full_alone (Err refusal) node moment wanted e ok recorded decided = cc
full_alone (Ok a) node moment wanted (event.Full n need cap) ok recorded decided = (need, cap, ap (λ (x : ℕ). event.Full x need cap) decided)
full_alone (Ok a) node moment wanted (event.Done n m r told) ok recorded decided = cc
full_alone (Ok a) node moment wanted (event.Doubt n m r) ok recorded decided = cc
full_alone (Ok a) node moment wanted (event.Refused n m i refusal) ok recorded decided = absurd decided
full_alone (Ok a) node moment wanted (event.Shown n m i) ok recorded decided = absurd decided
full_alone (Ok a) node moment wanted (event.Fenced n held current) ok recorded decided = absurd decided
full_alone (Ok a) node moment wanted (event.NoManager n) ok recorded decided = absurd decided
full_alone (Ok a) node moment wanted (event.Took n m epoch gone up may kept) ok recorded decided = absurd decided
full_alone (Ok a) node moment wanted (event.TakeDoubt n tried kept) ok recorded decided = absurd decided
full_alone (Ok a) node moment wanted (event.Stopped n) ok recorded decided = absurd decided
full_alone (Ok a) node moment wanted (event.Left n) ok recorded decided = absurd decided
full_alone (Ok a) node moment wanted (event.Started n) ok recorded decided = absurd decided
full_alone (Ok a) node moment wanted (event.Compacted n epoch file) ok recorded decided = absurd decided
full_alone (Ok a) node moment wanted (event.CompactDoubt n) ok recorded decided = absurd decided
