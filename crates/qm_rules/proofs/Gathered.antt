-- What refuses a change of an entry, gathered.
use Rattle.std.proofs.Common.{◌≡◌, not, ◌&&◌, [], ◌∷◌, Option, option_and_then}
use Rattle.qm_model.specs.Common.{Entry, Refusal, EntryChange, System, is_pending, is_waiting, first_refusal, refused_where, refused_form, refused_characteristics}
use Rattle.qm_kinds.specs.declared.refusal.Refusal.TheVariants.{EntryBusy, NotHeld, WrongKind}
use Rattle.qm_model.specs.Entries.{refused_queue, is_entry_of_other_kind, entry_change_refusal}

pub gathered : (s : System) (change : EntryChange) (e : Entry) (busy held queue wrong form characteristics : Option Refusal)
    → busy ≡ refused_where (not (is_waiting e.state)) (EntryBusy e.state)
    → held ≡ refused_where (change.release && is_pending e.state) NotHeld
    → queue ≡ option_and_then (refused_queue s) change.queue
    → wrong ≡ refused_where (is_entry_of_other_kind s e change) WrongKind
    → form ≡ option_and_then (refused_form s) change.form
    → characteristics ≡ option_and_then (refused_characteristics s.characteristics) change.characteristics
    → first_refusal (busy ∷ held ∷ queue ∷ wrong ∷ form ∷ characteristics ∷ []) ≡ entry_change_refusal s change e
gathered s change e busy held queue wrong form characteristics eb eh eq ew ef ec = λ t. first_refusal (eb t ∷ eh t ∷ eq t ∷ ew t ∷ ef t ∷ ec t ∷ [])
