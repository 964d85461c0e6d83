-- Elements one after the other, as loops read and write them.
use Rattle.std.proofs.Common.{◌≡◌, ℕ, suc, ◌-◌, ◌+◌, ◌≤◌, ◌<◌, List, [], ◌∷◌, ◌++◌, length, take, get_or, Option, None, Some, Result, Ok, Err, refl, sym, ap, ◌∙◌, append_assoc, take_all, arith}
use Rattle.std.specs.List.{AllByRecursion}
use Rattle.std.proofs.lemmas.List.{append-nil, take_more}
use Rattle.qm_bytes.specs.Reading.{Reader, onward, pure, repeat_at, IsThere, GivesKept}
use Rattle.qm_bytes.specs.Spelling.{each}
use Rattle.qm_record.specs.declared.kind.RecordKind.{RecordKind}
use Rattle.qm_record.specs.Spelling.{front as front_text, fields_in, text_of}

-- what was read before, and what is still read
abbrev pub with_front : {A : Type 0} → List A → Result (List A × List ℕ) ℕ → Result (List A × List ℕ) ℕ
with_front front read = onward read (λ xs. pure (front ++ xs))

regroup : {A : Type 0} (front : List A) (x : A) (read : Result (List A × List ℕ) ℕ)
    → with_front front (onward read (λ xs. pure (x ∷ xs))) ≡ with_front (front ++ x ∷ []) read
regroup {A} front x (Ok xs) = ap (λ (ys : List A). Ok (ys, xs.1)) (sym (append_assoc front (x ∷ []) xs.0))
regroup front x (Err left) = refl

pub starts : {A : Type 0} (read : Result (List A × List ℕ) ℕ) → with_front [] read ≡ read
starts (Ok xs) = refl
starts (Err left) = refl

pub goes_on : {A : Type 0} (read : Reader A) (front : List A) {count i : ℕ} {bytes : List ℕ} {x : A} {after : List ℕ}
    {total : Result (List A × List ℕ) ℕ}
    → i < count → read bytes ≡ Ok (x, after)
    → with_front front (repeat_at read (count - i) bytes) ≡ total
    → with_front (front ++ x ∷ []) (repeat_at read (count - (i + 1)) after) ≡ total
unfolding repeat_at
goes_on {A} read front {count} {i} {bytes} {x} {after} {total} lt h so_far =
    let k : count - i ≡ suc (count - (i + 1)) = omega (arith, lt) in
    let one : with_front front (repeat_at read (count - i) bytes) ≡ with_front (front ++ x ∷ []) (repeat_at read (count - (i + 1)) after) =
    rw (k, h) (regroup front x (repeat_at read (count - (i + 1)) after)) in
    sym one ∙ so_far

pub ends : {A : Type 0} {left : ℕ} (read : Reader A) (front : List A) {count i : ℕ} {bytes : List ℕ}
    {total : Result (List A × List ℕ) ℕ}
    → i < count → read bytes ≡ Err left
    → with_front front (repeat_at read (count - i) bytes) ≡ total → total ≡ Err left
unfolding repeat_at
ends {A} {left} read front {count} {i} {bytes} {total} lt h so_far =
    let k : count - i ≡ suc (count - (i + 1)) = omega (arith, lt) in
    let one : with_front front (repeat_at read (count - i) bytes) ≡ Err left = rw (k, h) refl in
    sym so_far ∙ one

pub is_done : {A : Type 0} (read : Reader A) (front : List A) {count i : ℕ} {bytes : List ℕ} {total : Result (List A × List ℕ) ℕ}
    → count ≤ i → with_front front (repeat_at read (count - i) bytes) ≡ total → total ≡ Ok (front, bytes)
unfolding repeat_at
is_done {A} read front {count} {i} {bytes} {total} le so_far =
    let k : count - i ≡ 0 = omega (arith, le) in
    let one : with_front front (repeat_at read (count - i) bytes) ≡ Ok (front, bytes) =
    rw k (ap (λ (xs : List A). Ok (xs, bytes)) (append-nil front)) in
    sym so_far ∙ one

-- elements that are passed over

pub ends_later : {A : Type 0} {left : ℕ} (front : List A) {read total : Result (List A × List ℕ) ℕ} → read ≡ Err left
    → with_front front read ≡ total → total ≡ Err left
ends_later front h so_far = sym so_far ∙ ap (with_front front) h

pub is_there : {A : Type 0} (front : List A) {read total : Result (List A × List ℕ) ℕ} {rest : List ℕ} → IsThere rest read
    → with_front front read ≡ total → IsThere rest total
is_there front there so_far = (front ++ there.0, sym so_far ∙ ap (with_front front) there.1)

-- the elements up to here, whichever they are, and those that are still read
pub record Passed {A : Type 0} (read : Reader A) (count i : ℕ) (bytes : List ℕ) (total : Result (List A × List ℕ) ℕ)
    : Type 0 where
  pub front : List A
  pub so_far : with_front front (repeat_at read (count - i) bytes) ≡ total

pub passed_none : {A : Type 0} (read : Reader A) (count : ℕ) (bytes : List ℕ)
    → Passed read count 0 bytes (repeat_at read count bytes)
passed_none read count bytes =
    let whole : count - 0 ≡ count = omega arith in
    record { front = []; so_far = ap (λ n. with_front [] (repeat_at read n bytes)) whole ∙ starts (repeat_at read count bytes) }

-- what was kept or not
pub kept_is_there : {A E : Type 0} (kept : Result A E) (rest : List ℕ) (read : Result (A × List ℕ) ℕ)
    → GivesKept (Ok kept) rest read → IsThere rest read
kept_is_there (Ok x) rest read h = (x, h)
kept_is_there (Err e) rest read h = h

-- ---- writing

each_more : {A : Type 0} (spelling : A → List ℕ) (xs : List A) (x : A)
    → each spelling (xs ++ x ∷ []) ≡ each spelling xs ++ spelling x
each_more spelling [] x = append-nil (spelling x)
each_more spelling (y ∷ xs) x =
    ap (λ (text : List ℕ). spelling y ++ text) (each_more spelling xs x)
    ∙ sym (append_assoc (spelling y) (each spelling xs) (spelling x))

all_more : {A : Type 0} (Fits : A → Type 0) (xs : List A) (x : A) → AllByRecursion Fits xs → Fits x
    → AllByRecursion Fits (xs ++ x ∷ [])
all_more Fits [] x all fits = (fits, tt)
all_more Fits (y ∷ xs) x all fits = (all.0, all_more Fits xs x all.1 fits)

-- the bytes that were written, for the elements up to here
pub record Written {A : Type 0} (Fits : A → Type 0) (spelling : A → List ℕ) (old new : List ℕ) (xs : List A) : Type 0 where
  pub text : new ≡ old ++ each spelling xs
  pub all : AllByRecursion Fits xs

pub written_none : {A : Type 0} (Fits : A → Type 0) (spelling : A → List ℕ) (old : List ℕ) (xs : List A)
    → Written Fits spelling old old (take 0 xs)
written_none Fits spelling old xs = record { text = sym (append-nil old); all = tt }

pub written_all : {A : Type 0} (Fits : A → Type 0) (spelling : A → List ℕ) (old new : List ℕ) (xs : List A) {i : ℕ}
    → length xs ≤ i → Written Fits spelling old new (take i xs) → Written Fits spelling old new xs
written_all Fits spelling old new xs {i} le so_far =
    rw (take_all i xs le) at so_far

pub written_more : {A : Type 0} (Fits : A → Type 0) (spelling : A → List ℕ) (old new newer : List ℕ) (xs : List A) (i : ℕ) (x : A)
    → i < length xs → x ≡ get_or xs i x → Written Fits spelling old new (take i xs) → newer ≡ new ++ spelling x → Fits x
    → Written Fits spelling old newer (take (i + 1) xs)
written_more Fits spelling old new newer xs i x lt is so_far more fits =
    let taken : take (i + 1) xs ≡ take i xs ++ x ∷ [] = take_more xs i x lt ∙ ap (λ y. take i xs ++ y ∷ []) (sym is) in
    rw taken (record {
      text = more ∙ ap (λ (text : List ℕ). text ++ spelling x) so_far.text
          ∙ append_assoc old (each spelling (take i xs)) (spelling x)
          ∙ ap (λ (text : List ℕ). old ++ text) (sym (each_more spelling (take i xs) x));
      all = all_more Fits (take i xs) x so_far.all fits;
    })

-- ---- fields that are written one after the other

pub finish : (old text : List ℕ) {final : List ℕ} → final ≡ old ++ text → final ≡ old ++ (text ++ [])
finish old text e = e ∙ ap (λ (x : List ℕ). old ++ x) (sym (append-nil text))

pub before : (older text rest : List ℕ) {old final : List ℕ} → old ≡ older ++ text → final ≡ old ++ rest
    → final ≡ older ++ (text ++ rest)
before older text rest e f = f ∙ ap (λ (x : List ℕ). x ++ rest) e ∙ append_assoc older text rest

kind_in : RecordKind → Option (RecordKind × List ℕ) → RecordKind
kind_in k None = k
kind_in k (Some parts) = parts.0

-- what stands before the fields, and they, are the text
pub parts_text : (m n : ℕ) (k : RecordKind) (o : Option (RecordKind × List ℕ)) → o ≡ Some (k, fields_in o)
    → front_text k m n ++ fields_in o ≡ text_of m n o
unfolding kind_in
parts_text m n k None e = absurd cc
parts_text m n k (Some (other, text)) e = let same : other ≡ k = ap (kind_in k) e in rw same refl
