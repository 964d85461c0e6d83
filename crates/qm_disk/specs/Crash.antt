-- Laws that a disk in memory states as a disk: what the files read is one of the things that a crash may leave.
use Rattle.std.proofs.Common.{inl, inr, refl, sym, ◌∙◌, ap, subst, arith, length-append, length-take, length-drop, ◌≡◌, ◌⊎◌, ℕ, ◌+◌, ◌-◌, ◌≤◌, ◌==◌, min, max, Bool, true, false, if◌then◌else◌, List, [], ◌∷◌, ◌++◌, length, take, drop, replicate, Option, Vec, MatchBool, IsTrue}
use Rattle.std.proofs.lemmas.List.{length-replicate, append-nil, take-append-le, take-take, take_all, drop_all, drop-drop, drop_at, append_assoc}
use Rattle.std.proofs.lemmas.Bool.{cases_lt}
use Rattle.std.specs.declared.alloc.Global.{Global}
use Rattle.qm_disk.specs.Disk.{CrashState, spliced, Torn, Cut, IsLeft}
use Rattle.qm_disk.specs.Calls.{padded, changed, content_after, replayed, Outcome, Outcomes, first_of, reading_of, LeftOf, LeftSince}
use Rattle.qm_disk.specs.declared.calls.Change.{Change}
use Rattle.qm_disk.specs.declared.calls.Change.TheVariants.{Look, Write, Truncate, Sync}
use Rattle.qm_disk.specs.declared.calls.Call.{Call}

-- a write may leave nothing
pub torn_none : (at n : ℕ) (c : List ℕ) → Torn at n c c
torn_none at n c = record { before = refl; after = refl; no_shorter = omega arith; no_longer = omega arith }

pub cut_none : (size : ℕ) (c : List ℕ) → Cut size c c
cut_none size c = record { before = refl; no_longer = omega arith }

pub cut_whole : (size : ℕ) (c : List ℕ) → Cut size c (take size c)
cut_whole size c = record { before = take-take size size c (omega arith); no_longer = omega (arith, length-take size c) }

pub length-padded : (at : ℕ) (d : List ℕ) → length (padded at d) ≡ max (length d) at
length-padded at d =
    let zeros : length (replicate {A = ℕ} (at - length d) 0) ≡ at - length d = length-replicate {A = ℕ} (at - length d) 0 in
    omega (arith, length-append d (replicate {A = ℕ} (at - length d) 0), zeros)

pub length-spliced : (at : ℕ) (b p : List ℕ) → at ≤ length p → length (spliced at b p) ≡ max (at + length b) (length p)
length-spliced at b p le = omega (arith, length-append (take at p ++ b) (drop (at + length b) p), length-append (take at p) b, length-take at p, length-drop (at + length b) p)

pub padded_within : (at : ℕ) (d : List ℕ) → at ≤ length d → padded at d ≡ d
padded_within at d le = let none : at - length d ≡ 0 = omega arith in ap (λ (k : ℕ). d ++ replicate {A = ℕ} k 0) none ∙ append-nil d

drop_padded : (at j : ℕ) (d : List ℕ) → at ≤ j → drop j (padded at d) ≡ drop j d
drop_padded at j d le = elim (cases_lt (length d) at) [
  | inr within ↦ ap (λ (l : List ℕ). drop j l) (padded_within at d within)
  | inl past ↦ drop_all j (padded at d) (omega (arith, length-padded at d)) ∙ sym (drop_all j d (omega arith))
]

-- a write may leave the bytes or a part of them
pub torn_spliced : (at n : ℕ) (b d : List ℕ) → length b ≤ n → Torn at n d (spliced at b (padded at d))
torn_spliced at n b d small =
    let p : List ℕ = padded at d in
    let long : length p ≡ max (length d) at = length-padded at d in
    let whole : length (spliced at b p) ≡ max (at + length b) (length p) = length-spliced at b p (omega arith) in
    record {
      before = front;
      after = back;
      no_shorter = omega arith;
      no_longer = omega arith;
    }
  where
    front : take (min at (length d)) (spliced at b (padded at d)) ≡ take (min at (length d)) d
    front =
        let p : List ℕ = padded at d in
        let m : ℕ = min at (length d) in
        let short : m ≤ length (take at p) = omega (arith, length-take at p, length-padded at d) in
        let below : m ≤ at = omega arith in
        let within : m ≤ length d = omega arith in
        let grouped : spliced at b p ≡ take at p ++ (b ++ drop (at + length b) p) = append_assoc (take at p) b (drop (at + length b) p) in
        ap (λ (l : List ℕ). take m l) grouped
        ∙ take-append-le m (take at p) (b ++ drop (at + length b) p) short
        ∙ take-take m at p below
        ∙ take-append-le m d (replicate (at - length d) 0) within

    back : drop (at + n) (spliced at b (padded at d)) ≡ drop (at + n) d
    back =
        let p : List ℕ = padded at d in
        let a : List ℕ = take at p ++ b in
        let size : length a ≡ at + length b = omega (arith, length-append (take at p) b, length-take at p, length-padded at d) in
        let k : ℕ = n - length b in
        let split : at + length b + k ≡ at + n = omega arith in
        let split' : length b + k ≡ n = omega arith in
        subst (λ (j : ℕ). drop j (a ++ drop (at + length b) p) ≡ drop j d) split
        (sym (drop-drop k (at + length b) (a ++ drop (at + length b) p))
        ∙ ap (λ (l : List ℕ). drop k l) (drop_at a (drop (at + length b) p) (at + length b) size)
        ∙ drop-drop k (at + length b) p
        ∙ drop_padded at (at + length b + k) d (omega arith))

-- what a crash may leave after one call more
abbrev pub AfterCall : ℕ → Call → List ℕ → (List ℕ → Type 0) → List ℕ → Type 0
AfterCall f call content old c = MatchBool (call.file == f) (Outcome call.change content old c) (old c)

-- what the file reads is one of the outcomes
changed_is_left : (change : Change) (content : List ℕ) (old : List ℕ → Type 0) → old content → Outcome change content old (changed change content)
changed_is_left Look content old was = was
changed_is_left (Write at bytes true) content old was = (content, was, torn_spliced at (length bytes.items) bytes.items content (omega arith))
changed_is_left (Write at bytes false) content old was = (content, was, torn_none at (length bytes.items) content)
changed_is_left (Truncate size true) content old was = (content, was, cut_whole size content)
changed_is_left (Truncate size false) content old was = (content, was, cut_none size content)
changed_is_left (Sync true) content old was = refl
changed_is_left (Sync false) content old was = was

after_is_left : (b : Bool) (change : Change) (content : List ℕ) (old : List ℕ → Type 0) → old content
    → MatchBool b (Outcome change content old (if b then changed change content else content)) (old (if b then changed change content else content))
after_is_left true change content old was = changed_is_left change content old was
after_is_left false change content old was = was

pub replayed_is_left : (f : ℕ) (calls : List Call) (content : List ℕ) (old : List ℕ → Type 0) → old content → Outcomes f calls content old (replayed f calls content)
replayed_is_left f [] content old was = was
replayed_is_left f (call ∷ calls) content old was =
    replayed_is_left f calls (content_after f content call) (AfterCall f call content old) (after_is_left (call.file == f) call.change content old was)

-- the laws of the moment
pub left_now : (first : List (Vec ℕ Global)) (calls : List Call) (t : ℕ) (crashed : CrashState) → t ≤ length calls → IsLeft (LeftOf first calls) crashed → LeftSince first calls t crashed
left_now first calls t crashed le left =
    (length calls, le, omega arith, subst (λ (l : List Call). IsLeft (LeftOf first l) crashed) (sym (take_all (length calls) calls (omega arith))) left)

pub left_only_now : (first : List (Vec ℕ Global)) (calls : List Call) (crashed : CrashState) → LeftSince first calls (length calls) crashed → IsLeft (LeftOf first calls) crashed
left_only_now first calls crashed left =
    let all : length calls ≤ left.0 = omega (arith, left.1) in
    subst (λ (l : List Call). IsLeft (LeftOf first l) crashed) (take_all left.0 calls all) left.3

pub reads_left : (first : List (Vec ℕ Global)) (changed_to : List (Option (Vec ℕ Global))) (calls : List Call) (f : ℕ)
    → reading_of first changed_to f ≡ replayed f calls (first_of first f) → LeftOf first calls f (reading_of first changed_to f)
reads_left first changed_to calls f same =
    subst (LeftOf first calls f) (sym same) (replayed_is_left f calls (first_of first f) (λ c. c ≡ first_of first f) refl)

-- a disk that doesn't tell its contents
pub untold : {P : Type 0} → IsTrue false → P
untold told = absurd (cc told)
