-- What holds of two halves of two lists holds of the whole.
use Rattle.std.proofs.Common.{◌≡◌, ⊎_elim, ◌+◌, ◌-◌, ◌<◌, ◌≤◌, ℕ, zero, suc, List, [], ◌∷◌, ◌++◌, length, refl, sym, ◌∙◌, ap, subst, Some, arith, zero-add, suc-add, slice_get, slice_index_or, length-append}
use Rattle.std.proofs.lemmas.Bool.{cases_lt}
use Rattle.qm_turn.specs.Each.{CanBeWorkedOn, IsWorkedOn}

pub get_front : {X : Type 0} (xs ys : List X) (k : ℕ) → k < length xs → slice_get (xs ++ ys) k ≡ slice_get xs k
get_front [] ys k low = absurd (omega arith)
get_front (x ∷ xs) ys zero low = refl
get_front (x ∷ xs) ys (suc k) low = get_front xs ys k (omega arith)

pub get_back : {X : Type 0} (xs ys : List X) (k : ℕ) → slice_get (xs ++ ys) (length xs + k) ≡ slice_get ys k
get_back [] ys k = ap (slice_get ys) (zero-add k)
get_back (x ∷ xs) ys k = ap (slice_get (x ∷ xs ++ ys)) (suc-add (length xs) k) ∙ get_back xs ys k

pub get_past : {X : Type 0} (xs ys : List X) (k : ℕ) → length xs ≤ k → slice_get (xs ++ ys) k ≡ slice_get ys (k - length xs)
get_past xs ys k high = subst (λ (n : ℕ). slice_get (xs ++ ys) n ≡ slice_get ys (k - length xs)) {x = length xs + (k - length xs)} (omega arith) (get_back xs ys (k - length xs))

pub get_below : {X : Type 0} (xs : List X) (k : ℕ) (x : X) → slice_get xs k ≡ Some x → k < length xs
get_below [] k x is = cc
get_below (y ∷ xs) zero x is = omega arith
get_below (y ∷ xs) (suc k) x is = let low = get_below xs k x is in omega arith

-- what stands first
pub get_first : {X : Type 0} (xs : List X) (d : X) → 0 < length xs → slice_get xs 0 ≡ Some (slice_index_or xs 0 d)
get_first [] d some = absurd (omega arith)
get_first (x ∷ xs) d some = refl

module _ {A B : Type 0} (can : ℕ → A → B → Type 0) (place other : ℕ) (all xs ys : List A) (whole us vs : List B) (firsts : all ≡ xs ++ ys) (seconds : whole ≡ us ++ vs) (same : length us ≡ length xs) (next : other ≡ place + length xs)
    (ready : CanBeWorkedOn can place all whole)
  where
    long : length all ≡ length xs + length ys
    long = ap length firsts ∙ length-append xs ys

    wide : length whole ≡ length us + length vs
    wide = ap length seconds ∙ length-append us vs

    pub can_front : CanBeWorkedOn can place xs us
    can_front =
        record {
          both = same;
          room = (let room = ready.room in omega (arith, room, long));
          each = λ k first second at_first at_second.
              let low = get_below xs k first at_first in
              ready.each k first second (ap (λ (l : List A). slice_get l k) firsts ∙ get_front xs ys k low ∙ at_first)
              (ap (λ (l : List B). slice_get l k) seconds ∙ get_front us vs k (omega (arith, low, same)) ∙ at_second);
        }

    pub can_back : CanBeWorkedOn can other ys vs
    can_back =
        record {
          both = (let both = ready.both in omega (arith, both, long, wide, same));
          room = (let room = ready.room in omega (arith, room, long, next));
          each = λ k first second at_first at_second.
              subst (λ (n : ℕ). can n first second) {x = place + (length xs + k)} (omega (arith, next))
              (ready.each (length xs + k) first second (ap (λ (l : List A). slice_get l (length xs + k)) firsts ∙ get_back xs ys k ∙ at_first)
              (ap (λ (l : List B). slice_get l (length xs + k)) seconds ∙ ap (λ (n : ℕ). slice_get (us ++ vs) (n + k)) (sym same) ∙ get_back us vs k ∙ at_second));
        }

module _ {A B : Type 0} (works : ℕ → A → B → A → B → Type 0) (place other : ℕ) (all xs ys xs' ys' : List A) (whole us vs us' vs' : List B) (firsts_are : all ≡ xs ++ ys) (seconds_are : whole ≡ us ++ vs)
    (same : length us ≡ length xs) (next : other ≡ place + length xs)
  where
    pub worked_both : IsWorkedOn works place xs us xs' us' → IsWorkedOn works other ys vs ys' vs' → IsWorkedOn works place all whole (xs' ++ ys') (us' ++ vs')
    worked_both low high =
        let firsts = low.firsts_stay in
        let seconds = low.seconds_stay in
        record {
          firsts_stay = (let more = high.firsts_stay in let a = length-append xs' ys' in let b = ap length firsts_are ∙ length-append xs ys in omega (arith, a, b, firsts, more));
          seconds_stay = (let more = high.seconds_stay in let a = length-append us' vs' in let b = ap length seconds_are ∙ length-append us vs in omega (arith, a, b, seconds, more));
          each = λ k first second first' second' at_first at_second at_first' at_second'.
              let here = sym (ap (λ (l : List A). slice_get l k) firsts_are) ∙ at_first in
              let beside = sym (ap (λ (l : List B). slice_get l k) seconds_are) ∙ at_second in
              ⊎_elim
              (λ (less : k < length xs).
              low.each k first second first' second' (sym (get_front xs ys k less) ∙ here) (sym (get_front us vs k (omega (arith, less, same))) ∙ beside)
              (sym (get_front xs' ys' k (omega (arith, less, firsts))) ∙ at_first') (sym (get_front us' vs' k (omega (arith, less, same, seconds))) ∙ at_second'))
              (λ (more : length xs ≤ k).
              let m = k - length xs in
              subst (λ (n : ℕ). works n first second first' second') {x = other + m} (omega (arith, next, more))
              (high.each m first second first' second' (sym (get_past xs ys k more) ∙ here)
              (ap (λ (n : ℕ). slice_get vs (k - n)) (sym same) ∙ sym (get_past us vs k (omega (arith, more, same))) ∙ beside)
              (ap (λ (n : ℕ). slice_get ys' (k - n)) (sym firsts) ∙ sym (get_past xs' ys' k (omega (arith, more, firsts))) ∙ at_first')
              (ap (λ (n : ℕ). slice_get vs' (k - n)) (sym same ∙ sym seconds) ∙ sym (get_past us' vs' k (omega (arith, more, same, seconds))) ∙ at_second')))
              (cases_lt k (length xs));
        }
