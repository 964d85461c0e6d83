-- What one call more on record makes of each file.
use Rattle.std.proofs.Common.{◌≡◌, ◌≢◌, ◌⊎◌, inl, inr, refl, sym, ◌∙◌, ap, subst, ℕ, ◌≤◌, ◌==◌, Bool, true, false, if◌then◌else◌, List, [], ◌∷◌, ◌++◌, length, Option, Vec, arith, length-append, MatchBool, Result, Ok, Err, is_ok, OnOk}
use Rattle.std.proofs.lemmas.Bool.{cases_eq, eq-eqb, ne_eqb}
use Rattle.std.specs.declared.alloc.Global.{Global}
use Rattle.qm_disk.specs.Disk.{CrashState, IsLeft, Follows, Torn, Cut}
use Rattle.qm_disk.specs.Calls.{changed, replayed, Outcome, first_of, reading_of, LeftOf, LeftSince, ReadsOthers, Notes, IsWrite, IsTruncate, Syncs}
use Rattle.qm_disk.specs.Crash.{torn_none, cut_none, reads_left}
use Rattle.qm_disk.proofs.Later.{replayed-push, Outcomes-push, push-Outcomes, nothing_else, keeps}
use Rattle.qm_disk.specs.declared.calls.Change.{Change}
use Rattle.qm_disk.specs.declared.calls.Change.TheVariants.{Write, Truncate, Sync}
use Rattle.qm_disk.specs.declared.calls.Call.{Call}

abbrev pub call_of : ℕ → Change → Call
call_of file change = record { file = file; change = change }

-- a call of this file joined the record, or none did
abbrev pub MayJoin : ℕ → List Call → List Call → Type 0
MayJoin file old new = ((change : Change) × (new ≡ old ++ call_of file change ∷ [])) ⊎ (new ≡ old)

-- what each file reads is what its calls make of it
abbrev pub Replays : List (Vec ℕ Global) → List (Option (Vec ℕ Global)) → List Call → Type 0
Replays first changed_to calls = (f : ℕ) → f ≤ 2 → reading_of first changed_to f ≡ replayed f calls (first_of first f)

chosen : {X : Type 0} (b : Bool) (x y : X) → b ≡ false → (if b then x else y) ≡ y
chosen false x y is = refl
chosen true x y is = cc

module _ (first : List (Vec ℕ Global)) (old : List Call) (file : ℕ) (change : Change) where
  abbrev now : List Call
  now = old ++ call_of file change ∷ []

  -- what a crash may leave of the file
  pub left_here : (c : List ℕ) → LeftOf first now file c → Outcome change (replayed file old (first_of first file)) (LeftOf first old file) c
  left_here c left =
      let after = Outcomes-push file old (call_of file change) (first_of first file) (λ d. d ≡ first_of first file) c left in
      subst (λ (b : Bool). MatchBool b (Outcome change (replayed file old (first_of first file)) (LeftOf first old file) c) (LeftOf first old file c)) (eq-eqb file file refl) after

  -- and of another one
  pub left_there : (f : ℕ) → f ≢ file → (c : List ℕ) → LeftOf first now f c → LeftOf first old f c
  left_there f other c left =
      let after = Outcomes-push f old (call_of file change) (first_of first f) (λ d. d ≡ first_of first f) c left in
      subst (λ (b : Bool). MatchBool b (Outcome change (replayed f old (first_of first f)) (LeftOf first old f) c) (LeftOf first old f c)) (ne_eqb file f (λ e. other (sym e))) after

  pub there_left : (f : ℕ) → f ≢ file → (c : List ℕ) → LeftOf first old f c → LeftOf first now f c
  there_left f other c left =
      push-Outcomes f old (call_of file change) (first_of first f) (λ d. d ≡ first_of first f) c
      (subst (λ (b : Bool). MatchBool b (Outcome change (replayed f old (first_of first f)) (LeftOf first old f) c) (LeftOf first old f c)) (sym (ne_eqb file f (λ e. other (sym e)))) left)

  pub here_left : (c : List ℕ) → Outcome change (replayed file old (first_of first file)) (LeftOf first old file) c → LeftOf first now file c
  here_left c left =
      push-Outcomes file old (call_of file change) (first_of first file) (λ d. d ≡ first_of first file) c
      (subst (λ (b : Bool). MatchBool b (Outcome change (replayed file old (first_of first file)) (LeftOf first old file) c) (LeftOf first old file c)) (sym (eq-eqb file file refl)) left)

  -- the file reads what the change makes of it
  pub replays_on : (before after : List (Option (Vec ℕ Global))) → Replays first before old → file ≤ 2 → reading_of first after file ≡ changed change (reading_of first before file)
      → ReadsOthers file first before after → Replays first after now
  replays_on before after was within here others f le = elim (cases_eq f file) [
    | inl same ↦ subst (λ (g : ℕ). reading_of first after g ≡ replayed g now (first_of first g)) (sym same)
        (here ∙ ap (λ (l : List ℕ). changed change l) (was file within)
        ∙ sym (replayed-push file old (call_of file change) (first_of first file)
        ∙ ap (λ (b : Bool). if b then changed change (replayed file old (first_of first file)) else replayed file old (first_of first file)) (eq-eqb file file refl)))
    | inr other ↦ others f le other ∙ was f le
        ∙ sym (replayed-push f old (call_of file change) (first_of first f)
        ∙ chosen (file == f) (changed change (replayed f old (first_of first f))) (replayed f old (first_of first f)) (ne_eqb file f (λ e. other (sym e))))
  ]

-- what a crash may leave of the other files stays
pub others_no_more : (first : List (Vec ℕ Global)) (old new : List Call) (file : ℕ) → MayJoin file old new → (f : ℕ) → f ≢ file → (c : List ℕ) → LeftOf first new f c → LeftOf first old f c
others_no_more first old new file (inl join) f other c left = left_there first old file join.0 f other c (subst (λ (l : List Call). LeftOf first l f c) join.1 left)
others_no_more first old new file (inr none) f other c left = subst (λ (l : List Call). LeftOf first l f c) none left

pub others_no_fewer : (first : List (Vec ℕ Global)) (old new : List Call) (file : ℕ) → MayJoin file old new → (f : ℕ) → f ≢ file → (c : List ℕ) → LeftOf first old f c → LeftOf first new f c
others_no_fewer first old new file (inl join) f other c left = subst (λ (l : List Call). LeftOf first l f c) (sym join.1) (there_left first old file join.0 f other c left)
others_no_fewer first old new file (inr none) f other c left = subst (λ (l : List Call). LeftOf first l f c) (sym none) left

-- time goes on
pub record Time (first : List (Vec ℕ Global)) (old new : List Call) : Type 0 where
  pub later : length old ≤ length new
  pub nothing_else : (t : ℕ) (crashed : CrashState) → t ≤ length old → LeftSince first new t crashed → LeftSince first old t crashed ⊎ IsLeft (LeftOf first new) crashed
  pub keeps : (t : ℕ) (crashed : CrashState) → t ≤ length old → LeftSince first old t crashed → LeftSince first new t crashed

pub time_of : (first : List (Vec ℕ Global)) (old new : List Call) (file : ℕ) → MayJoin file old new → Time first old new
time_of first old new file (inl join) = subst (Time first old) (sym join.1) (record {
  later = omega (arith, length-append old (call_of file join.0 ∷ []));
  nothing_else = nothing_else first old (call_of file join.0);
  keeps = keeps first old (call_of file join.0);
})
time_of first old new file (inr none) = subst (Time first old) (sym none) (record {
  later = omega arith;
  nothing_else = λ t crashed le left. inl left;
  keeps = λ t crashed le left. left;
})

-- a call that changes nothing joined the record, or none did
abbrev pub MayNote : Change → ℕ → List Call → List Call → Type 0
MayNote change file old new = (new ≡ old) ⊎ (new ≡ old ++ call_of file change ∷ [])

pub may_join : (change : Change) (file : ℕ) (old new : List Call) → MayNote change file old new → MayJoin file old new
may_join change file old new (inl none) = inr none
may_join change file old new (inr joined) = inl (change, joined)

module _ (first : List (Vec ℕ Global)) (file : ℕ) (within : file ≤ 2) (change : Change) where
  pub quiet_replays : (old new : List Call) (changed_to : List (Option (Vec ℕ Global))) → ((l : List ℕ) → changed change l ≡ l) → Replays first changed_to old → MayNote change file old new → Replays first changed_to new
  quiet_replays old new changed_to same was (inl none) = subst (Replays first changed_to) (sym none) was
  quiet_replays old new changed_to same was (inr joined) =
      subst (Replays first changed_to) (sym joined) (replays_on first old file change changed_to changed_to was within (sym (same (reading_of first changed_to file))) (λ f le other. refl))

  pub quiet_no_more : (old new : List Call) → ((content : List ℕ) (P : List ℕ → Type 0) (c : List ℕ) → Outcome change content P c → P c) → MayNote change file old new
      → (f : ℕ) (c : List ℕ) → LeftOf first new f c → LeftOf first old f c
  quiet_no_more old new same (inl none) f c left = subst (λ (l : List Call). LeftOf first l f c) none left
  quiet_no_more old new same (inr joined) f c left =
      let now : LeftOf first (old ++ call_of file change ∷ []) f c = subst (λ (l : List Call). LeftOf first l f c) joined left in
      elim (cases_eq f file) [
        | inl is ↦ subst (λ (g : ℕ). LeftOf first old g c) (sym is)
            (same (replayed file old (first_of first file)) (LeftOf first old file) c (left_here first old file change c (subst (λ (g : ℕ). LeftOf first (old ++ call_of file change ∷ []) g c) is now)))
        | inr other ↦ left_there first old file change f other c now
      ]

  pub quiet_no_fewer : (old new : List Call) → ((content : List ℕ) (P : List ℕ → Type 0) (c : List ℕ) → P c → Outcome change content P c) → MayNote change file old new
      → (f : ℕ) (c : List ℕ) → LeftOf first old f c → LeftOf first new f c
  quiet_no_fewer old new same (inl none) f c left = subst (λ (l : List Call). LeftOf first l f c) (sym none) left
  quiet_no_fewer old new same (inr joined) f c left = subst (λ (l : List Call). LeftOf first l f c) (sym joined) (elim (cases_eq f file) [
    | inl is ↦ subst (λ (g : ℕ). LeftOf first (old ++ call_of file change ∷ []) g c) (sym is)
        (here_left first old file change c (same (replayed file old (first_of first file)) (LeftOf first old file) c (subst (λ (g : ℕ). LeftOf first old g c) is left)))
    | inr other ↦ there_left first old file change f other c left
  ])

pub joins_noted : (P : Change → Type 0) (file : ℕ) (old new : List Call) (before after : List ℕ) → Notes P file old new before after → MayJoin file old new
joins_noted P file old new before after (inl noted) = inl (noted.0, noted.2)
joins_noted P file old new before after (inr none) = inr none.0

pub replays_noted : (P : Change → Type 0) (first : List (Vec ℕ Global)) (file : ℕ) → file ≤ 2 → (old new : List Call) (before after : List (Option (Vec ℕ Global)))
    → Replays first before old → ReadsOthers file first before after → Notes P file old new (reading_of first before file) (reading_of first after file) → Replays first after new
replays_noted P first file within old new before after was others (inl noted) =
    subst (Replays first after) (sym noted.2) (replays_on first old file noted.0 before after was within noted.3 others)
replays_noted P first file within old new before after was others (inr none) = subst (Replays first after) (sym none.0) (λ f le. elim (cases_eq f file) [
  | inl same ↦ subst (λ (g : ℕ). reading_of first after g ≡ replayed g old (first_of first g)) (sym same) (none.1 ∙ was file within)
  | inr other ↦ others f le other ∙ was f le
])

-- a write on record leaves torn outcomes, and none on record leaves them as they were
pub write_follows : (at : ℕ) (bytes : List ℕ) (first : List (Vec ℕ Global)) (file : ℕ) (old new : List Call) (before after : List ℕ) → Notes (IsWrite at bytes) file old new before after
    → Follows (Torn at (length bytes)) (LeftOf first old file) (LeftOf first new file)
write_follows at bytes first file old new before after (inl noted) c left =
    let w = noted.1 in
    let joined : new ≡ old ++ call_of file (Write at w.0 w.1) ∷ [] = noted.2 ∙ ap (λ (k : Change). old ++ call_of file k ∷ []) w.3 in
    let from = left_here first old file (Write at w.0 w.1) c (subst (λ (l : List Call). LeftOf first l file c) joined left) in
    (from.0, from.1, subst (λ (b : List ℕ). Torn at (length b) from.0 c) w.2 from.2)
write_follows at bytes first file old new before after (inr none) c left =
    (c, subst (λ (l : List Call). LeftOf first l file c) none.0 left, torn_none at (length bytes) c)

pub cut_follows : (size : ℕ) (first : List (Vec ℕ Global)) (file : ℕ) (old new : List Call) (before after : List ℕ) → Notes (IsTruncate size) file old new before after
    → Follows (Cut size) (LeftOf first old file) (LeftOf first new file)
cut_follows size first file old new before after (inl noted) c left =
    let t = noted.1 in
    let joined : new ≡ old ++ call_of file (Truncate size t.0) ∷ [] = noted.2 ∙ ap (λ (k : Change). old ++ call_of file k ∷ []) t.1 in
    left_here first old file (Truncate size t.0) c (subst (λ (l : List Call). LeftOf first l file c) joined left)
cut_follows size first file old new before after (inr none) c left =
    (c, subst (λ (l : List Call). LeftOf first l file c) none.0 left, cut_none size c)

module _ (first : List (Vec ℕ Global)) (file : ℕ) (within : file ≤ 2) (changed_to : List (Option (Vec ℕ Global))) where
  pub sync_joins : (held : Bool) (old new : List Call) → Syncs file held old new → MayJoin file old new
  sync_joins true old new joined = inl (Sync true, joined)
  sync_joins false old new noted = may_join (Sync false) file old new noted

  pub sync_replays : (held : Bool) (old new : List Call) → Replays first changed_to old → Syncs file held old new → Replays first changed_to new
  sync_replays true old new was joined =
      subst (Replays first changed_to) (sym joined) (replays_on first old file (Sync true) changed_to changed_to was within refl (λ f le other. refl))
  sync_replays false old new was noted = quiet_replays first file within (Sync false) old new changed_to (λ l. refl) was noted

  -- a crash leaves what a read gives
  pub sync_durable : (old new : List Call) → Replays first changed_to old → Syncs file true old new → (c : List ℕ) → LeftOf first new file c → c ≡ reading_of first changed_to file
  sync_durable old new was joined c left =
      left_here first old file (Sync true) c (subst (λ (l : List Call). LeftOf first l file c) joined left) ∙ sym (was file within)

  pub sync_crash : (held : Bool) (old new : List Call) → Replays first changed_to old → Syncs file held old new → (c : List ℕ) → LeftOf first new file c → LeftOf first old file c
  sync_crash true old new was joined c left =
      subst (LeftOf first old file) (sym (sync_durable old new was joined c left)) (reads_left first changed_to old file (was file within))
  sync_crash false old new was noted c left = quiet_no_more first file within (Sync false) old new (λ content P d is. is) noted file c left

pub on_ok_from : {T E : Type 0} (r : Result T E) (P : Type 0) → (is_ok r ≡ true → P) → OnOk r P
on_ok_from (Ok x) P h = h refl
on_ok_from (Err e) P h = tt
