-- What the place of a name says of each queue.
use Rattle.std.proofs.Common.{◌≡◌, ◌∙◌, ℕ, ◌==◌, ◌<◌, true, false, inl, inr, List, length, get_or, Some, Ok, refl, sym, ap, arith, slice_get, bytes_eq, Ordering, Less, Equal, Greater}
use Rattle.std.specs.Ordering.{is_eq, ordering_reverse}
use Rattle.std.proofs.lemmas.Bool.{cases_lt}
use Rattle.std.proofs.lemmas.Bool.Decides.{nat_tests}
use Rattle.std.proofs.lemmas.Cmp.{nat_list_cmp_total}
use Rattle.std.proofs.lemmas.Map.Text.{is_eq-slice_cmp}
use Rattle.std.proofs.lemmas.Option.{slice_get_cases, get_or_from_slice_get}
use Rattle.qm_model.specs.Common.{Queue, IsInOrder, name_cmp}
use Rattle.qm_keyed.specs.Places.{StandsAt, BelongsAt}
use Rattle.qm_keyed.proofs.Searches.{place_from_search}

name_of : Queue → List ℕ
name_of q = q.name

same_reversed : (o : Ordering) → is_eq (ordering_reverse o) ≡ is_eq o
same_reversed Less = refl
same_reversed Equal = refl
same_reversed Greater = refl

-- a name is the other one by either order
is_same : (a b : List ℕ) → bytes_eq a b ≡ is_eq (name_cmp b a)
is_same a b = sym (is_eq-slice_cmp a b) ∙ ap is_eq (nat_list_cmp_total.antisymm a b) ∙ same_reversed (name_cmp b a)

differs_below : (k i : ℕ) → k < i → (k == i) ≡ false
differs_below k i less = grind (arith, nat_tests)

differs_above : (k i : ℕ) → i < k → (k == i) ≡ false
differs_above k i more = grind (arith, nat_tests)

same_place : (k i : ℕ) → k ≡ i → (k == i) ≡ true
same_place k i same = grind (arith, nat_tests)

pub place_within : {X : Type 0} (xs : List X) (k : ℕ) (x : X) → slice_get xs k ≡ Some x → k < length xs
place_within xs k x is = elim ((slice_get_cases xs k).1) [
  | inl there ↦ there.1
  | inr past ↦ absurd (cc (is, past.1))
]

module _ (queues : List Queue) (name : List ℕ) (k : ℕ) (q : Queue) (there : slice_get queues k ≡ Some q) where
  read : get_or queues k q ≡ q
  read = get_or_from_slice_get queues k q q there

  told : (o : Ordering) → name_cmp (get_or queues k q).name name ≡ o → bytes_eq name q.name ≡ is_eq o
  told o is = is_same name q.name ∙ ap is_eq (ap (λ (p : Queue). name_cmp p.name name) (sym read) ∙ is)

  -- the queue of a name alone has it
  pub named_there : (i : ℕ) → StandsAt name_cmp (λ (p : Queue). p.name) name queues i → bytes_eq name q.name ≡ (k == i)
  named_there i stands = elim (cases_lt k i) [
    | inl less ↦ told Less (stands.before k q (omega arith) less) ∙ sym (differs_below k i less)
    | inr least ↦ elim (cases_lt i k) [
      | inl more ↦ told Greater (stands.behind k q (omega (arith, more)) (place_within queues k q there)) ∙ sym (differs_above k i more)
      | inr most ↦
          let same : k ≡ i = omega (arith, least, most) in
          told Equal (ap (λ (j : ℕ). name_cmp (get_or queues j q).name name) same ∙ stands.here q) ∙ sym (same_place k i same)
    ]
  ]

  -- and where there is none, no queue has it
  pub named_nowhere : (i : ℕ) → BelongsAt name_cmp (λ (p : Queue). p.name) name queues i → bytes_eq name q.name ≡ false
  named_nowhere i belongs = elim (cases_lt k i) [
    | inl less ↦ told Less (belongs.before k q (omega arith) less)
    | inr more ↦ told Greater (belongs.behind k q (omega (arith, more)) (place_within queues k q there))
  ]

is_equal : (o : Ordering) → is_eq o ≡ true → o ≡ Equal
is_equal Less is = let clash : false ≡ true = is in cc
is_equal Equal is = refl
is_equal Greater is = let clash : false ≡ true = is in cc

-- where the queue of a name is found, each other queue has another name
module _ (queues : List Queue) (name : List ℕ) (order : IsInOrder name_cmp (λ (p : Queue). p.name) queues) (i : ℕ) (within : i < length queues)
    (found : (d : Queue) → bytes_eq (get_or queues i d).name name ≡ true) where
  equal : (d : Queue) → name_cmp (get_or queues i d).name name ≡ Equal
  equal d = is_equal (name_cmp (get_or queues i d).name name) (is_eq-slice_cmp (get_or queues i d).name name ∙ found d)

  pub named_at : (k : ℕ) (q : Queue) → slice_get queues k ≡ Some q → bytes_eq name q.name ≡ (k == i)
  named_at k q there = named_there queues name k q there i (place_from_search nat_list_cmp_total (λ (p : Queue). p.name) name queues order (Ok i) within equal)
