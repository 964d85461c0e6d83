-- The order of keys.
use Rattle.std.proofs.Common.{◌≡◌, ◌≢◌, ℕ, true, false, List, get_or, inl, inr, subst, arith, AllPairs}
use Rattle.std.specs.Cmp.{IsStrictWeakOrder}
use Rattle.std.specs.List.Sorted.{IsPartitionedBy}
use Rattle.std.proofs.lemmas.Bool.{cases_lt}
use Rattle.std.proofs.lemmas.Bool.Decides.{nat_tests}
use Rattle.qm_match.specs.declared.order.Key.{Key}
use Rattle.qm_match.specs.declared.order.Schedule.{Schedule}
use Rattle.qm_match.specs.declared.order.Schedule.TheVariants.{BySize, ByNumber}
use Rattle.qm_match.specs.Keys.{comes_before}

pub before-itself : (s : Schedule) (a : Key) → comes_before s a a ≡ false
before-itself BySize a = grind (arith, nat_tests)
before-itself ByNumber a = grind (arith, nat_tests)

pub before-trans : (s : Schedule) (a b c : Key) → comes_before s a b ≡ true → comes_before s b c ≡ true → comes_before s a c ≡ true
before-trans BySize a b c first second = grind (arith, nat_tests)
before-trans ByNumber a b c first second = grind (arith, nat_tests)

-- of two keys of different numbers one comes first
pub before-other : (s : Schedule) (a b : Key) → a.number ≢ b.number → comes_before s b a ≡ false → comes_before s a b ≡ true
before-other BySize a b other not_before = grind (arith, nat_tests)
before-other ByNumber a b other not_before = grind (arith, nat_tests)

pub before-one_way : (s : Schedule) (a b : Key) → comes_before s a b ≡ true → comes_before s b a ≡ false
before-one_way BySize a b before = grind (arith, nat_tests)
before-one_way ByNumber a b before = grind (arith, nat_tests)

before-chain : (s : Schedule) (a b c : Key) → comes_before s a b ≡ false → comes_before s b c ≡ false → comes_before s a c ≡ false
before-chain BySize a b c first second = grind (arith, nat_tests)
before-chain ByNumber a b c first second = grind (arith, nat_tests)

pub before-weak : (s : Schedule) → IsStrictWeakOrder (comes_before s)
before-weak s = record { one_way = before-one_way s; chain = before-chain s }

-- the keys of a row that come before one stand in front of those that don't
pub parted : (s : Schedule) (keys : List Key) (key : Key) → AllPairs (λ a b. comes_before s a b ≡ true) keys → IsPartitionedBy (λ k. comes_before s k key) keys
parted s keys key order i j d le within passes = elim (cases_lt i j) [
  | inl less ↦ before-trans s (get_or keys i d) (get_or keys j d) key (order i j d less within) passes
  | inr same ↦ let one : j ≡ i = omega arith in subst (λ (n : ℕ). comes_before s (get_or keys n d) key ≡ true) one passes
]
