-- What isn't due at a moment stays as it is.
use Rattle.std.proofs.Common.{◌≡◌, ℕ, Bool, true, false, cond, not, List, [], ◌∷◌, refl, ◌∙◌, ap, Some, filter, map, All}
use Rattle.std.proofs.lemmas.List.Elements.{All-head, All-tail}
use Rattle.qm_model.specs.Common.{Entry, EntryState, Pending, Timed, Retained, System}
use Rattle.qm_model.specs.Due.{state_at, is_over, is_due, entry_at, due}

kept : (f : Entry → Entry) (e : Entry) (es : List Entry) (b : Bool) → b ≡ false → map f (cond (not b) (e ∷ es) es) ≡ f e ∷ map f es
kept f e es true h = cc
kept f e es false h = refl

-- what isn't due isn't over and stays
not_over : (now : ℕ) (state : EntryState) → is_due now state ≡ false → is_over now state ≡ false
not_over now (Retained status (Some until)) h = h
not_over now _ h = refl

stays_at : (now : ℕ) (state : EntryState) → is_due now state ≡ false → state_at now state ≡ state
stays_at now (Timed at) h = ap (λ (b : Bool). cond b Pending (Timed at)) h
stays_at now _ h = refl

same_at : (now : ℕ) (e : Entry) → is_due now e.state ≡ false → entry_at now e ≡ e
same_at now e h = ap (λ (state : EntryState). record e { state = state }) (stays_at now e.state h)

abbrev StaysAt : ℕ → Entry → Type 0
StaysAt now e = is_due now e.state ≡ false

pub entries_stay : (now : ℕ) (es : List Entry) → All (λ (e : Entry). is_due now e.state ≡ false) es → map (entry_at now) es ≡ es
entries_stay now [] h = refl
entries_stay now (e ∷ es) h =
    ap (λ (x : Entry). x ∷ map (entry_at now) es) (same_at now e (All-head (StaysAt now) e es h))
    ∙ ap (λ (xs : List Entry). e ∷ xs) (entries_stay now es (All-tail (StaysAt now) e es h))

all_stay : (now : ℕ) (es : List Entry) → All (λ (e : Entry). is_due now e.state ≡ false) es
    → map (entry_at now) (filter (λ e. not (is_over now e.state)) es) ≡ es
all_stay now [] h = refl
all_stay now (e ∷ es) h =
    kept (entry_at now) e (filter (λ e. not (is_over now e.state)) es) (is_over now e.state) (not_over now e.state (All-head (StaysAt now) e es h))
    ∙ ap (λ (x : Entry). x ∷ map (entry_at now) (filter (λ e. not (is_over now e.state)) es)) (same_at now e (All-head (StaysAt now) e es h))
    ∙ ap (λ (xs : List Entry). e ∷ xs) (all_stay now es (All-tail (StaysAt now) e es h))

pub nothing_due : (s : System) (now : ℕ) → All (λ (e : Entry). is_due now e.state ≡ false) s.entries → due now s ≡ s
nothing_due s now h = ap (λ (es : List Entry). record s { entries = es }) (all_stay now s.entries h)
