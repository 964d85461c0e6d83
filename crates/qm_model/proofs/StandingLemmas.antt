-- Each entry stands in one queue.
use Rattle.std.proofs.Common.{◌≡◌, ℕ, ◌+◌, Bool, true, false, cond, List, [], ◌∷◌, count_by, refl, sym, ◌∙◌, arith, Option, None, Some, All, find, IfSome, IsSome, unwrap_or, bytes_eq, Less}
use Rattle.std.proofs.lemmas.List.Elements.{All-head, All-tail, All-weaker}
use Rattle.std.proofs.lemmas.List.Sums.{sum_by-cons}
use Rattle.std.proofs.lemmas.Slice.Eq.{bytes_eq-Decides}
use Rattle.qm_model.specs.Common.{Entry, JobKind, Queue, System, name_cmp, queue_named, runs_in, stands_in}
use Rattle.qm_model.specs.Consistent.{IsConsistent, IsEntry, IsExecutionQueue}
use Rattle.qm_model.proofs.ListLemmas.{Pairs, pairs_of}
use Rattle.qm_model.proofs.SoundLemmas.{name_not_below}

module _ {X : Type 0} (p : X → Bool) where
  one_more : (x : X) (xs : List X) → count_by p (x ∷ xs) ≡ cond (p x) 1 0 + count_by p xs
  one_more x xs = sum_by-cons (λ y. cond (p y) 1 0) x xs

  none_at : (b : Bool) (n : ℕ) → b ≡ false → n ≡ 0 → cond b 1 0 + n ≡ 0
  none_at true n fails later = cc
  none_at false n fails later = omega (arith, later)

  none_counted : (xs : List X) → All (λ x. p x ≡ false) xs → count_by p xs ≡ 0
  none_counted [] fail = refl
  none_counted (x ∷ xs) fail =
      one_more x xs ∙ none_at (p x) (count_by p xs) (All-head (λ y. p y ≡ false) x xs fail) (none_counted xs (All-tail (λ y. p y ≡ false) x xs fail))

  one_at : (x : X) (xs : List X) (b : Bool) → p x ≡ b → All (λ y. p x ≡ true → p y ≡ false) xs → IsSome (cond b (Some x) (find p xs)) → (IsSome (find p xs) → count_by p xs ≡ 1)
      → cond b 1 0 + count_by p xs ≡ 1
  one_at x xs true is apart found later = omega (arith, none_counted xs (All-weaker (λ y. p x ≡ true → p y ≡ false) (λ y. p y ≡ false) (λ y k. k is) xs apart))
  one_at x xs false is apart found later = omega (arith, later found)

  -- where one is found and is the only one of its kind, there is one
  one_counted : (xs : List X) → Pairs (λ x y. p x ≡ true → p y ≡ false) xs → IsSome (find p xs) → count_by p xs ≡ 1
  one_counted [] apart found = cc
  one_counted (x ∷ xs) apart found = one_more x xs ∙ one_at x xs (p x) refl apart.0 found (one_counted xs apart.1)

module _ (name : List ℕ) where
  named_apart_at : (q p : Queue) (b : Bool) → bytes_eq p.name name ≡ b → name_cmp q.name p.name ≡ Less → bytes_eq q.name name ≡ true → b ≡ false
  named_apart_at q p true also less is = absurd (name_not_below q.name p.name ((bytes_eq-Decides q.name name).0 is ∙ sym ((bytes_eq-Decides p.name name).0 also)) less)
  named_apart_at q p false also less is = refl

  named_apart : (qs : List Queue) → Pairs (λ (a b : Queue). name_cmp a.name b.name ≡ Less) qs → Pairs (λ (a b : Queue). bytes_eq a.name name ≡ true → bytes_eq b.name name ≡ false) qs
  named_apart [] order = tt
  named_apart (q ∷ qs) order = (
    All-weaker (λ (p : Queue). name_cmp q.name p.name ≡ Less) (λ (p : Queue). bytes_eq q.name name ≡ true → bytes_eq p.name name ≡ false)
        (λ p less is. named_apart_at q p (bytes_eq p.name name) refl less is) qs order.0,
    named_apart qs order.1,
  )

-- the queue where an entry runs is there, and its home is
there : (kind : JobKind) (qs : List Queue) (home : List ℕ) (queue : Option (List ℕ)) → IsSome (queue_named home qs) → IfSome queue (IsExecutionQueue kind qs)
    → IsSome (queue_named (unwrap_or queue home) qs)
there kind qs home None at_home runs = at_home
there kind qs home (Some name) at_home runs = runs.0

pub stand_in_one_queue : (s : System) → IsConsistent s → All (λ (e : Entry). count_by (λ (q : Queue). bytes_eq q.name (stands_in e)) s.queues ≡ 1) s.entries
stand_in_one_queue s h =
    let order : Pairs (λ (a b : Queue). name_cmp a.name b.name ≡ Less) s.queues = pairs_of (λ (a b : Queue). name_cmp a.name b.name ≡ Less) s.queues h.queues.order in
    All-weaker (IsEntry s) (λ (e : Entry). count_by (λ (q : Queue). bytes_eq q.name (stands_in e)) s.queues ≡ 1)
    (λ e k. one_counted (λ (q : Queue). bytes_eq q.name (stands_in e)) s.queues (named_apart (stands_in e) s.queues order)
    (there e.kind s.queues e.home (runs_in e.state) k.home.0 k.queue))
    s.entries h.entries.each
