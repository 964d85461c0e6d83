-- Which queue and which job are chosen, and what it means that none is.
use Rattle.std.proofs.Common.{◌≡◌, ◌<◌, Bool, true, false, cond, ◌&&◌, List, [], ◌∷◌, ◌++◌, refl, ap, subst, Option, None, Some, All, Contains, find, option_map, option_and_then, Less}
use Rattle.std.specs.List.{list_any}
use Rattle.std.specs.Cmp.Lexicographic.{nat_list_cmp_total}
use Rattle.std.proofs.lemmas.Bool.Decides.{Decides-ltb}
use Rattle.std.proofs.lemmas.List.Elements.{All-cons, All-nil, All-weaker}
use Rattle.qm_model.specs.Common.{Entry, END_OF_RUNS, Queue, System, name_cmp, IsInOrder, fits, is_free}
use Rattle.qm_model.specs.Settling.{Choice, can_start, next_queue, next_job, next_choice, has_run_numbers}
use Rattle.qm_model.specs.Starting.{HasNoneToStart, IsFirstToStart}
use Rattle.qm_model.proofs.SettlingLemmas.{and_left, with_queue_of, none_can_start}
use Rattle.qm_model.proofs.ListLemmas.{Pairs, pairs_of, contains_in}
use Rattle.qm_model.proofs.SoundLemmas.{choice_is, name_not_below}
use Rattle.qm_model.proofs.InsertLemmas.{none_any}

-- ---- the first of a list that passes a test

module _ {X : Type 0} (p : X → Bool) where
  -- it stands behind some that fail
  pub record IsFirst (x : X) (xs : List X) : Type 0 where
    pub earlier : List X
    pub later : List X
    pub place : xs ≡ earlier ++ x ∷ later
    pub fail : All (λ y. p y ≡ false) earlier
    pub passes : p x ≡ true

  first_at : (x y : X) (ys : List X) (b : Bool) → p y ≡ b → cond b (Some y) (find p ys) ≡ Some x → (find p ys ≡ Some x → IsFirst x ys) → IsFirst x (y ∷ ys)
  first_at x y ys true is h later =
      let same : y ≡ x = cc in
      record { earlier = []; later = ys; place = ap (λ z. z ∷ ys) same; fail = All-nil (λ z. p z ≡ false); passes = subst (λ z. p z ≡ true) same is }
  first_at x y ys false is h later =
      let rest = later h in
      record { earlier = y ∷ rest.earlier; later = rest.later; place = ap (λ l. y ∷ l) rest.place; fail = All-cons (λ z. p z ≡ false) y rest.earlier is rest.fail; passes = rest.passes }

  pub found_first : (x : X) (xs : List X) → find p xs ≡ Some x → IsFirst x xs
  found_first x [] h = cc
  found_first x (y ∷ ys) h = first_at x y ys (p y) refl h (found_first x ys)

-- ---- the queue that is chosen

queue_of_map : (q : Queue) (c : Choice) (o : Option Entry) → option_map (with_queue_of q) o ≡ Some c → q ≡ c.queue
queue_of_map q c None h = cc
queue_of_map q c (Some e) h = let same : with_queue_of q e ≡ c = cc in ap (λ (d : Choice). d.queue) same

queue_at : (s : System) (c : Choice) (b : Bool) (o : Option Queue) → next_queue s ≡ o → cond b (option_and_then (λ q. option_map (with_queue_of q) (next_job s q)) o) None ≡ Some c
    → next_queue s ≡ Some c.queue
queue_at s c true None found h = cc
queue_at s c true (Some q) found h = subst (λ (p : Queue). next_queue s ≡ Some p) (queue_of_map q c (next_job s q) h) found
queue_at s c false o found h = cc

chosen_queue : (s : System) (c : Choice) → next_choice s ≡ Some c → IsFirst (can_start s) c.queue s.queues
chosen_queue s c h = found_first (can_start s) c.queue s.queues (queue_at s c (has_run_numbers s) (next_queue s) refl h)

second_fails : (a b : Bool) → (a && b) ≡ false → a ≡ true → b ≡ false
second_fails true b h k = h
second_fails false b h k = cc

-- a queue that can't start a job has no place, or no job fits it
pub none_to_start : (s : System) (q : Queue) → can_start s q ≡ false → HasNoneToStart s q
none_to_start s q h free = none_any (λ e. fits s e q) s.entries (second_fails (is_free s q) (list_any (λ e. fits s e q) s.entries) h free)

pub choice_is_free : (s : System) (c : Choice) → next_choice s ≡ Some c → is_free s c.queue ≡ true
choice_is_free s c h = and_left (is_free s c.queue) (list_any (λ e. fits s e c.queue) s.entries) (chosen_queue s c h).passes

pub choice_has_number : (s : System) (c : Choice) → next_choice s ≡ Some c → s.next_run < END_OF_RUNS
choice_has_number s c h = (Decides-ltb s.next_run END_OF_RUNS).0 (choice_is s c h).numbers

pub entry_is_there : (s : System) (c : Choice) → next_choice s ≡ Some c → Contains s.entries c.entry
entry_is_there s c h = contains_in c.entry s.entries (choice_is s c h).entry

pub queue_is_there : (s : System) (c : Choice) → next_choice s ≡ Some c → Contains s.queues c.queue
queue_is_there s c h = contains_in c.queue s.queues (choice_is s c h).queue

pub queue_is_first : (s : System) (c : Choice) → next_choice s ≡ Some c → IsFirstToStart s c.queue
queue_is_first s c h =
    let first = chosen_queue s c h in
    record {
      earlier = first.earlier;
      later = first.later;
      place = first.place;
      none = All-weaker (λ q. can_start s q ≡ false) (HasNoneToStart s) (none_to_start s) first.earlier first.fail;
    }

-- ---- by name

module _ (s : System) where
  -- none of a lesser name has a job to start
  abbrev NoneBefore : Queue → Queue → Type 0
  NoneBefore q p = name_cmp p.name q.name ≡ Less → HasNoneToStart s p

  not_both : (q p : Queue) → name_cmp q.name p.name ≡ Less → name_cmp p.name q.name ≡ Less → ⊥
  not_both q p less also = name_not_below q.name q.name refl (nat_list_cmp_total.trans q.name p.name q.name less also)

  first_by_name_at : (q p : Queue) (qs : List Queue) (b : Bool) → can_start s p ≡ b → All (λ x. name_cmp p.name x.name ≡ Less) qs
      → cond b (Some p) (find (can_start s) qs) ≡ Some q → (find (can_start s) qs ≡ Some q → All (NoneBefore q) qs) → All (NoneBefore q) (p ∷ qs)
  first_by_name_at q p qs true is below h later =
      let same : p ≡ q = cc in
      subst (λ (z : Queue). All (NoneBefore z) (p ∷ qs)) same
      (All-cons (NoneBefore p) p qs (λ less. absurd (name_not_below p.name p.name refl less))
      (All-weaker (λ x. name_cmp p.name x.name ≡ Less) (NoneBefore p) (λ x above less. absurd (not_both p x above less)) qs below))
  first_by_name_at q p qs false is below h later = All-cons (NoneBefore q) p qs (λ less. none_to_start s p is) (later h)

  first_by_name : (q : Queue) (qs : List Queue) → Pairs (λ a b. name_cmp a.name b.name ≡ Less) qs → find (can_start s) qs ≡ Some q → All (NoneBefore q) qs
  first_by_name q [] order h = All-nil (NoneBefore q)
  first_by_name q (p ∷ qs) order h = first_by_name_at q p qs (can_start s p) refl order.0 h (first_by_name q qs order.1)

pub queue_is_first_by_name : (s : System) (c : Choice) → IsInOrder name_cmp (λ q. q.name) s.queues → next_choice s ≡ Some c
    → All (λ q. name_cmp q.name c.queue.name ≡ Less → HasNoneToStart s q) s.queues
queue_is_first_by_name s c order h =
    first_by_name s c.queue s.queues (pairs_of (λ (a b : Queue). name_cmp a.name b.name ≡ Less) s.queues order)
    (queue_at s c (has_run_numbers s) (next_queue s) refl h)

-- ---- where nothing is chosen

pub none_left : (s : System) → next_choice s ≡ None → s.next_run < END_OF_RUNS → All (HasNoneToStart s) s.queues
none_left s none numbers =
    All-weaker (λ q. can_start s q ≡ false) (HasNoneToStart s) (none_to_start s) s.queues
    (none_any (can_start s) s.queues (none_can_start s none ((Decides-ltb s.next_run END_OF_RUNS).1 numbers)))
