-- Timers in an order: where one belongs, and what its insertion gives.
use Rattle.std.proofs.Common.{◌≡◌, ◌≢◌, ℕ, zero, suc, ◌<◌, nat_le, Bool, true, false, if◌then◌else◌, List, [], ◌∷◌, length, get_or, take, refl, sym, ap, subst, inl, inr, arith, All, insert, filter}
use Rattle.std.specs.List.Sorted.{IsPartitionedBy}
use Rattle.std.proofs.lemmas.Bool.{cases_lt}
use Rattle.std.proofs.lemmas.Bool.Decides.{nat_tests}
use Rattle.std.proofs.lemmas.List.Elements.{All-nil, All-cons, All-head, All-tail, All-weaker, All-filter}
use Rattle.qm_tables.specs.Timers.{is_before, IsRising, inserted_by}
use Rattle.qm_tables.specs.TimersKept.{has_less, Parts}

-- of each list but its first timer
pub Parts-tail : (test : (ℕ × ℕ) → Bool) (u : ℕ × ℕ) (us : List (ℕ × ℕ)) (i : ℕ) → Parts test (u ∷ us) (suc i) → Parts test us i
Parts-tail test u us i parts = record {
  within = omega (arith, parts.within);
  before = λ k d low below. parts.before (suc k) d (omega arith) (omega arith);
  behind = λ k d low below. parts.behind (suc k) d (omega arith) (omega arith);
}

-- at place 0 the first timer doesn't pass
pub Parts-first : (test : (ℕ × ℕ) → Bool) (u : ℕ × ℕ) (us : List (ℕ × ℕ)) → Parts test (u ∷ us) 0 → test u ≡ false
Parts-first test u us parts = parts.behind 0 u (omega arith) (omega arith)

-- at a later place it does
pub Parts-later : (test : (ℕ × ℕ) → Bool) (u : ℕ × ℕ) (us : List (ℕ × ℕ)) (i : ℕ) → Parts test (u ∷ us) (suc i) → test u ≡ true
Parts-later test u us i parts = parts.before 0 u (omega arith) (omega arith)

-- the order of moments
pub before-trans : (a b c : ℕ × ℕ) → is_before a b ≡ true → is_before b c ≡ true → is_before a c ≡ true
before-trans a b c first second = grind (arith, nat_tests)

pub before-itself : (a : ℕ × ℕ) → is_before a a ≡ false
before-itself a = grind (arith, nat_tests)

pub before-other : (a b : ℕ × ℕ) → b.1 ≢ a.1 → is_before b a ≡ false → is_before a b ≡ true
before-other a b other not_before = grind (arith, nat_tests)

-- the order of numbers
pub less-trans : (a b c : ℕ × ℕ) → has_less a b ≡ true → has_less b c ≡ true → has_less a c ≡ true
less-trans a b c first second = grind (arith, nat_tests)

pub less-other : (a b : ℕ × ℕ) → b.1 ≢ a.1 → has_less b a ≡ false → has_less a b ≡ true
less-other a b other not_less = grind (arith, nat_tests)

-- none passes
none_pass : (test : (ℕ × ℕ) → Bool) (ts : List (ℕ × ℕ)) → All (λ t. test t ≡ false) ts → filter test ts ≡ []
none_pass test [] none = refl
none_pass test (t ∷ ts) none = rw (All-head (λ u. test u ≡ false) t ts none) (none_pass test ts (All-tail (λ u. test u ≡ false) t ts none))

-- those before the place are those that pass
pub take_passing : (test : (ℕ × ℕ) → Bool) (ts : List (ℕ × ℕ)) (i : ℕ) → Parts test ts i → take i ts ≡ filter test ts
take_passing test [] zero parts = refl
take_passing test [] (suc i) parts = absurd (omega (arith, parts.within))
take_passing test (u ∷ us) zero parts = sym (none_pass test (u ∷ us) (λ k d within. parts.behind k d (omega arith) within))
take_passing test (u ∷ us) (suc i) parts =
    rw (Parts-later test u us i parts) (ap (λ (r : List (ℕ × ℕ)). u ∷ r) (take_passing test us i (Parts-tail test u us i parts)))

-- a timer that comes before another has no later moment
no_later : (a b : ℕ × ℕ) (now : ℕ) → is_before a b ≡ true → nat_le b.0 now ≡ true → nat_le a.0 now ≡ true
no_later a b now before come = grind (arith, nat_tests)

module _ (comes_before : (ℕ × ℕ) → (ℕ × ℕ) → Bool) where
  -- an insertion at the place is the one in order
  pub insert-is : (ts : List (ℕ × ℕ)) (t : ℕ × ℕ) (i : ℕ) → Parts (λ u. comes_before u t) ts i → insert ts i t ≡ inserted_by comes_before t ts
  insert-is [] t zero parts = refl
  insert-is [] t (suc i) parts = absurd (omega (arith, parts.within))
  insert-is (u ∷ us) t zero parts = rw (Parts-first (λ v. comes_before v t) u us parts) refl
  insert-is (u ∷ us) t (suc i) parts =
      rw (Parts-later (λ v. comes_before v t) u us i parts) (ap (λ (r : List (ℕ × ℕ)). u ∷ r) (insert-is us t i (Parts-tail (λ v. comes_before v t) u us i parts)))

  -- what holds of each timer and of the new one
  pub All-inserted : (P : (ℕ × ℕ) → Type 0) (t : ℕ × ℕ) (ts : List (ℕ × ℕ)) → P t → All P ts → All P (inserted_by comes_before t ts)
  All-inserted P t [] here all = All-cons P t [] here all
  All-inserted P t (u ∷ us) here all =
      let others : All P (inserted_by comes_before t us) = All-inserted P t us here (All-tail P u us all) in
      elim (comes_before u t) as (λ b. All P (if b then u ∷ inserted_by comes_before t us else t ∷ u ∷ us)) [
        | true ↦ All-cons P u (inserted_by comes_before t us) (All-head P u us all) others
        | false ↦ All-cons P t (u ∷ us) here all
      ]

  -- a filter keeps the order
  pub IsRising-filter : (test : (ℕ × ℕ) → Bool) (ts : List (ℕ × ℕ)) → IsRising comes_before ts → IsRising comes_before (filter test ts)
  IsRising-filter test [] rising = tt
  IsRising-filter test (t ∷ ts) rising =
      let others : IsRising comes_before (filter test ts) = IsRising-filter test ts rising.1 in
      elim (test t) as (λ b. IsRising comes_before (if b then t ∷ filter test ts else filter test ts)) [
        | true ↦ (All-filter test (λ u. comes_before t u ≡ true) ts rising.0, others)
        | false ↦ others
      ]

  module _ (follows : (a b c : ℕ × ℕ) → comes_before a b ≡ true → comes_before b c ≡ true → comes_before a c ≡ true) where
    -- a timer comes before one that stands behind it
    rises : (ts : List (ℕ × ℕ)) (i j : ℕ) (d : ℕ × ℕ) → IsRising comes_before ts → i < j → j < length ts → comes_before (get_or ts i d) (get_or ts j d) ≡ true
    rises [] i j d rising less within = absurd (omega arith)
    rises (t ∷ ts) i zero d rising less within = absurd (omega arith)
    rises (t ∷ ts) zero (suc j) d rising less within = rising.0 j d (omega arith)
    rises (t ∷ ts) (suc i) (suc j) d rising less within = rises ts i j d rising.1 (omega arith) (omega arith)

    -- those that come before a timer stand before those that don't
    pub parted : (ts : List (ℕ × ℕ)) (t : ℕ × ℕ) → IsRising comes_before ts → IsPartitionedBy (λ u. comes_before u t) ts
    parted ts t rising i j d le within passes = elim (cases_lt i j) [
      | inl less ↦ follows (get_or ts i d) (get_or ts j d) t (rises ts i j d rising less within) passes
      | inr same ↦ let one : j ≡ i = omega arith in subst (λ (k : ℕ). comes_before (get_or ts k d) t ≡ true) one passes
    ]

    -- the order stays
    pub IsRising-inserted : (t : ℕ × ℕ) (ts : List (ℕ × ℕ)) → All (λ u. comes_before u t ≡ false → comes_before t u ≡ true) ts → IsRising comes_before ts → IsRising comes_before (inserted_by comes_before t ts)
    IsRising-inserted t [] total rising = (All-nil (λ u. comes_before t u ≡ true), tt)
    IsRising-inserted t (u ∷ us) total rising =
        let others : IsRising comes_before (inserted_by comes_before t us) =
        IsRising-inserted t us (All-tail (λ v. comes_before v t ≡ false → comes_before t v ≡ true) u us total) rising.1 in
        step (comes_before u t) refl others
      where
        step : (b : Bool) → comes_before u t ≡ b → IsRising comes_before (inserted_by comes_before t us) → IsRising comes_before (if b then u ∷ inserted_by comes_before t us else t ∷ u ∷ us)
        step true is others = (All-inserted (λ v. comes_before u v ≡ true) t us is rising.0, others)
        step false is others =
            let first : comes_before t u ≡ true = All-head (λ v. comes_before v t ≡ false → comes_before t v ≡ true) u us total is in
            (All-cons (λ v. comes_before t v ≡ true) u us first (All-weaker (λ v. comes_before u v ≡ true) (λ v. comes_before t v ≡ true) (λ v less. follows t u v first less) us rising.0), rising)

-- those whose moment has come stand before the others
pub due_parted : (ts : List (ℕ × ℕ)) (now : ℕ) → IsRising is_before ts → IsPartitionedBy (λ t. nat_le t.0 now) ts
due_parted ts now rising i j d le within come = elim (cases_lt i j) [
  | inl less ↦ no_later (get_or ts i d) (get_or ts j d) now (rises is_before before-trans ts i j d rising less within) come
  | inr same ↦ let one : j ≡ i = omega arith in subst (λ (k : ℕ). nat_le (get_or ts k d).0 now ≡ true) one come
]
