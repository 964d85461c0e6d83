-- What the counts beside runs say of them, and what keeps them.
use Rattle.std.proofs.Common.{◌≡◌, ◌∙◌, ℕ, zero, suc, ◌+◌, ◌<◌, ◌≤◌, Bool, true, false, cond, if◌then◌else◌, List, [], ◌∷◌, ◌++◌, length, get_or, set, take, drop, sum_by, Result, Ok, Err, OnErr, refl, sym, ap, arith, All, insert, remove, is_eq, bytes_eq}
use Rattle.std.specs.Cmp.Lexicographic.{nat_list_cmp_total, texts_ties}
use Rattle.std.proofs.lemmas.List.Elements.{All-head, All-tail, All-append, All-cons, All-take, All-drop, All-set}
use Rattle.std.proofs.lemmas.List.Sums.{sum_by-cons, sum_by-insert, sum_by-remove, sum_by_push, get_or-le-sum_by}
use Rattle.std.proofs.lemmas.Slice.Eq.{bytes_eq-Decides}
use Rattle.qm_model.specs.Common.{Run, name_cmp}
use Rattle.qm_keyed.specs.Places.{StandsAt, BelongsAt}
use Rattle.qm_keyed.proofs.Rows.{PassesAt, passes, fails}
use Rattle.qm_keyed.proofs.Orders.{order_around, order_removed, order_set}
use Rattle.qm_tables.specs.declared.runs.counts.RunCount.{RunCount}
use Rattle.qm_tables.specs.Runs.{places_in_use}
use Rattle.qm_tables.specs.RunsCounted.{Counts, counted, counted_for, AreByQueue, IsOneMore, AreCounted}

abbrev pub queue_of : RunCount → List ℕ
queue_of c = c.queue

-- what a count adds for a queue
abbrev pub weight : List ℕ → RunCount → ℕ
weight queue c = if bytes_eq c.queue queue then c.runs else 0

module _ (queue : List ℕ) where
  own : (c : RunCount) → bytes_eq c.queue queue ≡ true → weight queue c ≡ c.runs
  own c same = ap (λ (b : Bool). if b then c.runs else 0) same

  other : (c : RunCount) → bytes_eq c.queue queue ≡ false → weight queue c ≡ 0
  other c differs = ap (λ (b : Bool). if b then c.runs else 0) differs

  none : (counts : List RunCount) → All (λ c. bytes_eq c.queue queue ≡ false) counts → counted_for queue counts ≡ 0
  none [] differ = refl
  none (c ∷ counts) differ =
      let here = other c (All-head (λ (x : RunCount). bytes_eq x.queue queue ≡ false) c counts differ) in
      let rest = none counts (All-tail (λ (x : RunCount). bytes_eq x.queue queue ≡ false) c counts differ) in
      omega (arith, sum_by-cons (weight queue) c counts, here, rest)

  one : (counts : List RunCount) (i : ℕ) (d : RunCount) → PassesAt (λ (c : RunCount). bytes_eq c.queue queue) counts i → counted_for queue counts ≡ (get_or counts i d).runs
  one [] i d at = absurd (omega (arith, at.within))
  one (c ∷ counts) zero d at =
      let rest = none counts (λ k e within. at.behind (suc k) e (omega arith) (omega (arith, within))) in
      omega (arith, sum_by-cons (weight queue) c counts, own c (at.here d), rest)
  one (c ∷ counts) (suc i) d at =
      let rest = one counts i d (record {
        within = omega (arith, at.within);
        before = λ k e low below. at.before (suc k) e (omega arith) (omega (arith, below));
        here = λ e. at.here e;
        behind = λ k e low below. at.behind (suc k) e (omega (arith, low)) (omega (arith, below));
      }) in
      omega (arith, sum_by-cons (weight queue) c counts, other c (at.before 0 c (omega arith) (omega arith)), rest)

-- where the count of a queue stands, it is what is counted for the queue
pub counted_there : (counts : List RunCount) (queue : List ℕ) (i : ℕ) (d : RunCount) → StandsAt name_cmp queue_of queue counts i → counted_for queue counts ≡ (get_or counts i d).runs
counted_there counts queue i d stands = one queue counts i d (passes queue_of queue (λ (c : RunCount). bytes_eq c.queue queue) (λ c. texts_ties c.queue queue) counts i stands)

-- where one would belong, nothing is
pub counted_nowhere : (counts : List RunCount) (queue : List ℕ) (i : ℕ) → BelongsAt name_cmp queue_of queue counts i → counted_for queue counts ≡ 0
counted_nowhere counts queue i belongs = none queue counts (fails queue_of queue (λ (c : RunCount). bytes_eq c.queue queue) (λ c. texts_ties c.queue queue) counts i belongs)

pub queue_there : (counts : List RunCount) (queue : List ℕ) (i : ℕ) (d : RunCount) → StandsAt name_cmp queue_of queue counts i → (get_or counts i d).queue ≡ queue
queue_there counts queue i d stands =
    (bytes_eq-Decides (get_or counts i d).queue queue).0 (texts_ties (get_or counts i d).queue queue ∙ ap is_eq (stands.here d))

module _ (queue : List ℕ) (old new : List RunCount) (y : RunCount) (is : y.queue ≡ queue) where
  -- the count of the queue is one more
  module _ (x : RunCount) (was : x.queue ≡ queue) (more : y.runs ≡ x.runs + 1) where
    weighs_more : (name : List ℕ) → weight name y ≡ weight name x + (if bytes_eq queue name then 1 else 0)
    weighs_more name =
        ap (λ (q : List ℕ). if bytes_eq q name then y.runs else 0) is
        ∙ by (bytes_eq queue name)
        ∙ ap (λ (q : List ℕ). (if bytes_eq q name then x.runs else 0) + (if bytes_eq queue name then 1 else 0)) (sym was)
      where
        by : (b : Bool) → (if b then y.runs else 0) ≡ (if b then x.runs else 0) + (if b then 1 else 0)
        by true = more
        by false = refl

    pub more_there : ((f : RunCount → ℕ) → sum_by f new + f x ≡ sum_by f old + f y) → IsOneMore queue old new
    more_there sums = record {
      each = λ name. omega (arith, sums (weight name), weighs_more name);
      all = omega (arith, sums (λ (c : RunCount). c.runs), more);
    }

  -- the queue had no count, and has the count 1
  pub first_there : y.runs ≡ 1 → ((f : RunCount → ℕ) → sum_by f new ≡ sum_by f old + f y) → IsOneMore queue old new
  first_there one sums = record {
    each = λ name.
        let weighs : weight name y ≡ (if bytes_eq queue name then 1 else 0) = ap (λ (q : List ℕ). if bytes_eq q name then y.runs else 0) is ∙ ap (λ (n : ℕ). if bytes_eq queue name then n else 0) one in
        omega (arith, sums (weight name), weighs);
    all = omega (arith, sums (λ (c : RunCount). c.runs), one);
  }

-- each queue with a count has a run
pub few_queues : (counts : List RunCount) → All (λ c. 0 < c.runs) counts → length counts ≤ counted counts
few_queues [] some = omega arith
few_queues (c ∷ counts) some =
    let here = All-head (λ (x : RunCount). 0 < x.runs) c counts some in
    let rest = few_queues counts (All-tail (λ (x : RunCount). 0 < x.runs) c counts some) in
    omega (arith, sum_by-cons (λ (x : RunCount). x.runs) c counts, here, rest)

-- each change keeps the counts by queue
module _ (counts : List RunCount) (kept : AreByQueue counts) (i : ℕ) where
  pub by_queue_put : (y : RunCount) → 0 < y.runs → BelongsAt name_cmp queue_of y.queue counts i → AreByQueue (insert counts i y)
  by_queue_put y some belongs = record {
    order = order_around nat_list_cmp_total queue_of counts kept.order i i y (omega arith) belongs.before belongs.behind;
    some = All-append (λ (c : RunCount). 0 < c.runs) (take i counts) (y ∷ drop i counts) (All-take (λ (c : RunCount). 0 < c.runs) i counts kept.some) (All-cons (λ (c : RunCount). 0 < c.runs) y (drop i counts) some (All-drop (λ (c : RunCount). 0 < c.runs) i counts kept.some));
  }

  pub by_queue_removed : AreByQueue (remove counts i)
  by_queue_removed = record {
    order = order_removed nat_list_cmp_total queue_of counts kept.order i;
    some = All-append (λ (c : RunCount). 0 < c.runs) (take i counts) (drop (suc i) counts) (All-take (λ (c : RunCount). 0 < c.runs) i counts kept.some) (All-drop (λ (c : RunCount). 0 < c.runs) (suc i) counts kept.some);
  }

  pub by_queue_set : (y d : RunCount) → i < length counts → 0 < y.runs → y.queue ≡ (get_or counts i d).queue → AreByQueue (set counts i y)
  by_queue_set y d within some same = record {
    order = order_set nat_list_cmp_total queue_of counts kept.order i y d within same;
    some = All-set (λ (c : RunCount). 0 < c.runs) counts i y some kept.some;
  }

abbrev one_if : Bool → ℕ
one_if b = cond b 1 0

-- a run takes a place of its queue
module _ (runs : List Run) (i : ℕ) where
  pub places_put : (run : Run) (name : List ℕ) → places_in_use name (insert runs i run) ≡ places_in_use name runs + (if bytes_eq run.queue name then 1 else 0)
  places_put run name = sum_by-insert (λ (r : Run). cond (bytes_eq r.queue name) 1 0) runs i run

  pub places_removed : (d : Run) (name : List ℕ) → i < length runs → places_in_use name (remove runs i) + (if bytes_eq (get_or runs i d).queue name then 1 else 0) ≡ places_in_use name runs
  places_removed d name within = sum_by-remove (λ (r : Run). cond (bytes_eq r.queue name) 1 0) runs i d within

  pub place_taken : (d : Run) → i < length runs → 0 < places_in_use (get_or runs i d).queue runs
  place_taken d within =
      let own : one_if (bytes_eq (get_or runs i d).queue (get_or runs i d).queue) ≡ one_if true = ap one_if ((bytes_eq-Decides (get_or runs i d).queue (get_or runs i d).queue).1 refl) in
      omega (arith, get_or-le-sum_by (λ (r : Run). cond (bytes_eq r.queue (get_or runs i d).queue) 1 0) runs i d within, own)

pub places_started : (runs : List Run) (run : Run) (name : List ℕ) → places_in_use name (runs ++ run ∷ []) ≡ places_in_use name runs + (if bytes_eq run.queue name then 1 else 0)
places_started runs run name = sum_by_push (λ (r : Run). cond (bytes_eq r.queue name) 1 0) runs run

-- a run that ends is counted, and takes its place with it
module _ (runs : List Run) (i : ℕ) (d : Run) (queue : List ℕ) (within : i < length runs) (is : queue ≡ (get_or runs i d).queue) where
  pub ended_counted : (kept : Counts) → AreCounted runs kept → 0 < counted_for queue kept.counts
  ended_counted kept are = rw is (omega (arith, are.each (get_or runs i d).queue, place_taken runs i d within))

  pub places_ended : (name : List ℕ) → places_in_use name (remove runs i) + (if bytes_eq queue name then 1 else 0) ≡ places_in_use name runs
  places_ended name = rw is (places_removed runs i d name within)

module _ (runs after : List Run) (kept now : Counts) (queue : List ℕ) (are : AreCounted runs kept) (few : length now.counts ≤ counted now.counts) (room : length after ≤ now.room) where
  -- one run more, and one more counted
  pub counted_more : IsOneMore queue kept.counts now.counts → ((name : List ℕ) → places_in_use name after ≡ places_in_use name runs + (if bytes_eq queue name then 1 else 0)) → length after ≡ length runs + 1 → AreCounted after now
  counted_more more places size = record {
    each = λ name. omega (arith, are.each name, more.each name, places name);
    all = omega (arith, are.all, more.all, size);
    few = omega (arith, are.all, more.all, size, few);
    room = room;
  }

  -- one run less, and one less counted
  pub counted_less : IsOneMore queue now.counts kept.counts → ((name : List ℕ) → places_in_use name after + (if bytes_eq queue name then 1 else 0) ≡ places_in_use name runs) → length after + 1 ≡ length runs → AreCounted after now
  counted_less less places size = record {
    each = λ name. omega (arith, are.each name, less.each name, places name);
    all = omega (arith, are.all, less.all, size);
    few = omega (arith, are.all, less.all, size, few);
    room = room;
  }

pub on_err : {X E : Type 0} (result : Result X E) (P : Type 0) → P → OnErr result P
on_err (Ok x) P holds = tt
on_err (Err e) P holds = holds
