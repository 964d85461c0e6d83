-- How far settling has come.
use Rattle.std.proofs.Common.{◌≡◌, ℕ, ◌+◌, ◌≤◌, Bool, true, false, cond, not, ◌&&◌, List, [], ◌∷◌, ◌++◌, length, refl, sym, ◌∙◌, ap, subst, arith, lit≤, Option, None, Some, All, find, count_by, nat_cmp, is_lt, Ordering, Less, Equal, Greater}
use Rattle.std.specs.Cmp.Lexicographic.{nat_list_cmp_total}
use Rattle.std.proofs.lemmas.List.Recursion.{is_count_by}
use Rattle.qm_model.specs.Common.{Queue, Start, System, name_cmp, IsInOrder, AreStarts, start_of, settled, has_run_numbers, is_open, is_free, is_generic}
use Rattle.qm_model.proofs.SettlingLemmas.{with_queue_of}
use Rattle.qm_model.proofs.SoundLemmas.{find_in, name_not_below}
use Rattle.qm_model.proofs.ListLemmas.{Pairs, pairs_of, in_all}
use Rattle.qm_tables.specs.Queues.{comes_after, queue_after}
use Rattle.qm_parts.specs.Tables.{Tables, with_tables}
use Rattle.qm_sched.specs.Choosing.{next_start, IsNextStart, takes_jobs, execution_queues}
use Rattle.qm_sched.proofs.FewStarts.{one_if}
use Rattle.qm_sched.proofs.Steps.{step, pushed, within_settled, all_started}
use Rattle.qm_sched.proofs.Walk.{IsNext, next_is, ArePassed, starts_at_first, chosen_next, none_behind, goes_on, stays_passed}
use Rattle.qm_sched.proofs.Starting.{is_next_start}

-- these starts lead from the one tables to the others, and no queue up to the name can start a job
pub record Progress (from t : Tables) (out : List Start) (behind : Option (List ℕ)) : Type 0 where
  pub starts : (s : System) → AreStarts (with_tables s from) out (with_tables s t)
  pub passed : (s : System) → ArePassed (with_tables s t) behind

pub begun : (t : Tables) → Progress t t [] None
begun t = record { starts = λ s. refl; passed = λ s. starts_at_first (with_tables s t) }

module _ (from t : Tables) (out : List Start) (behind : Option (List ℕ)) (h : Progress from t out behind) where
  pub ended : queue_after behind t.queues ≡ None → (s : System) → settled (with_tables s from) ≡ record { system = with_tables s t; started = out }
  ended none s = all_started (with_tables s from) out (with_tables s t) (h.starts s) (none_behind (with_tables s t) behind (h.passed s) none)

  module _ (q : Queue) (found : queue_after behind t.queues ≡ Some q) where
    pub passed_by : IsInOrder name_cmp (λ p. p.name) t.queues → ((s : System) → None ≡ next_start (with_tables s t) q) → Progress from t out (Some q.name)
    passed_by order none = record {
      starts = h.starts;
      passed = λ s. goes_on (with_tables s t) behind q order (h.passed s) found (sym (none s));
    }

    module _ (start : Start) (some : (s : System) → Some start ≡ next_start (with_tables s t) q) where
      next : (s : System) → IsNext (with_tables s t) q start
      next s = next_is (with_tables s t) q start (sym (some s))

      pub starts_next : (s : System) → IsNextStart (with_tables s t) start
      starts_next s =
          let n = next s in
          is_next_start (with_tables s t) (with_queue_of q n.entry) start (chosen_next (with_tables s t) behind q start (h.passed s) found n) n.is

      pub has_room : (s : System) → length out + 1 ≤ length (settled (with_tables s from)).started
      has_room s =
          let n = next s in
          within_settled (with_tables s from) out (with_tables s t) (with_queue_of q n.entry) (h.starts s)
          (chosen_next (with_tables s t) behind q start (h.passed s) found n)

  module _ (start : Start) (u : Tables) (one : (s : System) → AreStarts (with_tables s t) (start ∷ []) (with_tables s u))
      (order : IsInOrder nat_cmp (λ e. e.number) t.entries) where
    module _ (s : System) where
      more_starts : AreStarts (with_tables s from) (out ++ start ∷ []) (with_tables s u)
      more_starts =
          let k = step (with_tables s t) start [] (with_tables s u) (one s) in
          subst (λ (x : Start). AreStarts (with_tables s from) (out ++ x ∷ []) (with_tables s u)) (sym k.start)
          (subst (λ (m : System). AreStarts (with_tables s from) (out ++ start_of (with_tables s t) k.choice ∷ []) m) (sym k.later)
          (pushed (with_tables s from) out (with_tables s t) k.choice (h.starts s) k.is))

      still_passed : ArePassed (with_tables s u) behind
      still_passed =
          let k = step (with_tables s t) start [] (with_tables s u) (one s) in
          subst (λ (m : System). ArePassed m behind) (sym k.later) (stays_passed (with_tables s t) k.choice k.is order behind (h.passed s))

    pub one_more : Progress from u (out ++ start ∷ []) behind
    one_more = record { starts = more_starts; passed = still_passed }

-- ---- fewer queues stand behind

one_counted : (b : Bool) (k : ℕ) → one_if b + k ≡ cond b (1 + k) k
one_counted true k = refl
one_counted false k = omega arith

less_of : (o : Ordering) → is_lt o ≡ true → o ≡ Less
less_of Less h = refl
less_of Equal h = cc
less_of Greater h = cc

module _ (behind : Option (List ℕ)) (q : Queue) where
  -- what comes behind the queue comes behind what the queue comes behind
  behind_both : (o : Option (List ℕ)) (x : Queue) → comes_after o q ≡ true → comes_after (Some q.name) x ≡ true → comes_after o x ≡ true
  behind_both None x h k = refl
  behind_both (Some name) x h k =
      ap is_lt (nat_list_cmp_total.trans name q.name x.name (less_of (name_cmp name q.name) h) (less_of (name_cmp q.name x.name) k))

  not_itself : comes_after (Some q.name) q ≡ true → ⊥
  not_itself h = name_not_below q.name q.name refl (less_of (name_cmp q.name q.name) h)

  not_before : (x : Queue) → name_cmp x.name q.name ≡ Less → comes_after (Some q.name) x ≡ true → ⊥
  not_before x less h = name_not_below q.name q.name refl (nat_list_cmp_total.trans q.name x.name q.name (less_of (name_cmp q.name x.name) h) less)

-- ---- fewer of those queues that pass a test stand behind

module _ (p : Queue → Bool) where
  abbrev number_of : Option (List ℕ) → List Queue → ℕ
  number_of behind [] = 0
  number_of behind (q ∷ qs) = one_if (comes_after behind q && p q) + number_of behind qs

  number_of_is : (behind : Option (List ℕ)) (qs : List Queue) → number_of behind qs ≡ count_by (λ q. comes_after behind q && p q) qs
  number_of_is behind qs =
      is_count_by (number_of behind) (λ q. comes_after behind q && p q) refl (λ x xs. one_counted (comes_after behind x && p x) (number_of behind xs)) qs

  never_one : (a b : Bool) → a ≡ false → one_if (a && b) ≡ 0
  never_one true b h = absurd (cc)
  never_one false b h = refl

  always_one : (a b : Bool) → a ≡ true → one_if (a && b) ≡ one_if b
  always_one true b h = refl
  always_one false b h = absurd (cc)

  and_at_most : (a b c : Bool) → (a ≡ true → b ≡ true) → one_if (a && c) ≤ one_if (b && c)
  and_at_most true b c h = rw (h refl) (omega arith)
  and_at_most false b c h = omega arith

  module _ (behind : Option (List ℕ)) (q : Queue) where
    fewer_all_of : comes_after behind q ≡ true → (qs : List Queue) → number_of (Some q.name) qs ≤ number_of behind qs
    fewer_all_of h [] = lit≤ tt
    fewer_all_of h (x ∷ xs) = omega (arith, and_at_most (comes_after (Some q.name) x) (comes_after behind x) (p x) (behind_both behind q behind x h), fewer_all_of h xs)

    false_of : (b : Bool) → (b ≡ true → ⊥) → b ≡ false
    false_of true never = absurd (never refl)
    false_of false never = refl

    fewer_of_at : (y : Queue) (ys : List Queue) (b : Bool) → comes_after behind y ≡ b → cond b (Some y) (find (comes_after behind) ys) ≡ Some q
        → All (λ x. name_cmp y.name x.name ≡ Less) ys → (find (comes_after behind) ys ≡ Some q → number_of (Some q.name) ys + one_if (p q) ≤ number_of behind ys)
        → number_of (Some q.name) (y ∷ ys) + one_if (p q) ≤ number_of behind (y ∷ ys)
    fewer_of_at y ys true is h order later =
        let same : y ≡ q = cc in
        let here : comes_after behind q ≡ true = ap (comes_after behind) (sym same) ∙ is in
        let none : one_if (comes_after (Some q.name) y && p y) ≡ 0 = ap (λ (z : Queue). one_if (comes_after (Some q.name) z && p z)) same ∙ never_one (comes_after (Some q.name) q) (p q) (false_of (comes_after (Some q.name) q) (not_itself behind q)) in
        let one : one_if (comes_after behind y && p y) ≡ one_if (p q) = ap (λ (z : Queue). one_if (comes_after behind z && p z)) same ∙ always_one (comes_after behind q) (p q) here in
        omega (arith, fewer_all_of here ys, none, one)
    fewer_of_at y ys false is h order later =
        let less : name_cmp y.name q.name ≡ Less = in_all (λ (z : Queue). name_cmp y.name z.name ≡ Less) q ys order (find_in (comes_after behind) q ys h) in
        let none : one_if (comes_after (Some q.name) y && p y) ≡ 0 = never_one (comes_after (Some q.name) y) (p y) (false_of (comes_after (Some q.name) y) (not_before behind q y less)) in
        omega (arith, later h, none)

    fewer_of : (qs : List Queue) → Pairs (λ a b. name_cmp a.name b.name ≡ Less) qs → find (comes_after behind) qs ≡ Some q → number_of (Some q.name) qs + one_if (p q) ≤ number_of behind qs
    fewer_of [] order h = cc
    fewer_of (y ∷ ys) order h = fewer_of_at y ys (comes_after behind y) refl h order.0 (fewer_of ys order.1)

    pub fewer_pass : (qs : List Queue) → IsInOrder name_cmp (λ x. x.name) qs → queue_after behind qs ≡ Some q
        → count_by (λ x. comes_after (Some q.name) x && p x) qs + one_if (p q) ≤ count_by (λ x. comes_after behind x && p x) qs
    fewer_pass qs order h =
        omega (arith, fewer_of qs (pairs_of (λ (a b : Queue). name_cmp a.name b.name ≡ Less) qs order) h, number_of_is (Some q.name) qs, number_of_is behind qs)

-- ---- looks at rows

abbrev pub runs_jobs : Queue → Bool
runs_jobs q = not (is_generic q.kind)

-- the execution queues that stand behind a name
abbrev pub execution_behind : Option (List ℕ) → List Queue → ℕ
execution_behind behind qs = count_by (λ q. comes_after behind q && runs_jobs q) qs

pub all_behind : (qs : List Queue) → execution_behind None qs ≡ execution_queues qs
all_behind qs = refl

-- only an execution queue is looked at, and once
pub one_look : (s : System) (q : Queue) → cond (takes_jobs s q) 1 0 ≤ one_if (runs_jobs q)
one_look s q = step (runs_jobs q) (is_open s q) (has_run_numbers s && is_free s q)
  where
    step : (a b c : Bool) → cond ((a && b) && c) 1 0 ≤ one_if a
    step true true true = omega arith
    step true true false = omega arith
    step true false c = omega arith
    step false b c = omega arith

pub at_most_one : (b : Bool) → cond b 1 0 ≤ 1
at_most_one true = omega arith
at_most_one false = omega arith

pub fewer_executing : (behind : Option (List ℕ)) (q : Queue) (qs : List Queue) → IsInOrder name_cmp (λ x. x.name) qs → queue_after behind qs ≡ Some q
    → execution_behind (Some q.name) qs + one_if (runs_jobs q) ≤ execution_behind behind qs
fewer_executing behind q qs order h = fewer_pass runs_jobs behind q qs order h
