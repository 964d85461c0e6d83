-- What is known of a start that is the next one.
use Rattle.std.proofs.Common.{◌≡◌, ℕ, ◌+◌, ◌<◌, ◌^◌, inl, inr, Bool, true, false, cond, List, [], ◌∷◌, refl, sym, ◌∙◌, ap, subst, arith, Option, None, Some, ◌==◌, IfSome, IsSome, unwrap_or, option_map, nat_cmp, bytes_eq, Less}
use Rattle.std.proofs.lemmas.Bool.Decides.{nat_tests, Decides-eqb}
use Rattle.std.proofs.lemmas.Slice.Eq.{bytes_eq-Decides}
use Rattle.qm_model.specs.Common.{Entry, EntryState, Queue, Start, Node, System, name_cmp, queue_named, entry_numbered, IsInOrder, with_entry, is_started, is_up, is_pending}
use Rattle.qm_kinds.specs.declared.entry.EntryState.TheVariants as entry
use Rattle.qm_model.specs.Settling.{Choice, AreStarts, next_choice, start_of}
use Rattle.qm_model.proofs.SettlingLemmas.{IsIn, and_left, and_right, fits_pending}
use Rattle.qm_model.proofs.SoundLemmas.{choice_is, name_not_below}
use Rattle.qm_model.proofs.ChoiceLemmas.{choice_has_number}
use Rattle.qm_model.proofs.ListLemmas.{Pairs, pairs_of, in_all}
use Rattle.qm_sched.specs.Choosing.{IsNextStart}
use Rattle.qm_sched.proofs.Steps.{first_step}

-- a system of nothing, where any will do
abbrev pub blank : System
blank = record { nodes = []; may = []; forms = []; characteristics = []; files = []; queues = []; entries = []; next_entry = 0; next_run = 0; last = 0 }

-- ---- what stands in order is found

not_same : (a b : List ℕ) → name_cmp a b ≡ Less → (bytes_eq a b ≡ true) → ⊥
not_same a b less same = name_not_below a b ((bytes_eq-Decides a b).0 same) less

never : (b : Bool) → (b ≡ true → ⊥) → b ≡ false
never true h = absurd (h refl)
never false h = refl

pub queue_found : (q : Queue) (qs : List Queue) → Pairs (λ a b. name_cmp a.name b.name ≡ Less) qs → IsIn q qs → queue_named q.name qs ≡ Some q
queue_found q [] order among = absurd among
queue_found q (p ∷ qs) order (inl here) =
    let is : bytes_eq p.name q.name ≡ true = (bytes_eq-Decides p.name q.name).1 (ap (λ (z : Queue). z.name) (sym here)) in
    ap (λ b. cond b (Some p) (queue_named q.name qs)) is ∙ ap (λ z. Some z) (sym here)
queue_found q (p ∷ qs) order (inr among) =
    let less : name_cmp p.name q.name ≡ Less = in_all (λ (z : Queue). name_cmp p.name z.name ≡ Less) q qs order.0 among in
    ap (λ b. cond b (Some p) (queue_named q.name qs)) (never (bytes_eq p.name q.name) (not_same p.name q.name less)) ∙ queue_found q qs order.1 among

number_differs : (m n : ℕ) → nat_cmp m n ≡ Less → (m == n) ≡ false
number_differs m n h = grind (arith, nat_tests)

pub entry_found : (e : Entry) (es : List Entry) → Pairs (λ a b. nat_cmp a.number b.number ≡ Less) es → IsIn e es → entry_numbered e.number es ≡ Some e
entry_found e [] order among = absurd among
entry_found e (x ∷ es) order (inl here) =
    let is : (x.number == e.number) ≡ true = (Decides-eqb x.number e.number).1 (ap (λ (z : Entry). z.number) (sym here)) in
    ap (λ b. cond b (Some x) (entry_numbered e.number es)) is ∙ ap (λ z. Some z) (sym here)
entry_found e (x ∷ es) order (inr among) =
    let less : nat_cmp x.number e.number ≡ Less = in_all (λ (z : Entry). nat_cmp x.number z.number ≡ Less) e es order.0 among in
    ap (λ b. cond b (Some x) (entry_numbered e.number es)) (number_differs x.number e.number less) ∙ entry_found e es order.1 among

-- ---- the choice behind a start

record Chosen (s : System) (start : Start) : Type 0 where
  choice : Choice
  is : next_choice s ≡ Some choice
  start_is : start ≡ start_of s choice

chosen_at : (s : System) (start : Start) (o : Option Choice) → next_choice s ≡ o → IsSome o × IfSome o (λ c. start ≡ start_of s c) → Chosen s start
chosen_at s start None is h = let some = h.0 in cc
chosen_at s start (Some c) is h = record { choice = c; is = is; start_is = h.1 }

chosen : (s : System) (start : Start) → IsNextStart s start → Chosen s start
chosen s start h = chosen_at s start (next_choice s) refl h

pub is_next_start : (s : System) (c : Choice) (start : Start) → next_choice s ≡ Some c → start ≡ start_of s c → IsNextStart s start
is_next_start s c start is same = subst (λ (o : Option Choice). IsSome o × IfSome o (λ d. start ≡ start_of s d)) (sym is) (refl, same)

pending_state : (state : EntryState) → is_pending state ≡ true → state ≡ entry.Pending
pending_state entry.Pending h = refl
pending_state entry.Holding h = cc
pending_state (entry.Timed at) h = cc
pending_state (entry.Running queue node run) h = cc
pending_state (entry.Aborting queue node run fate) h = cc
pending_state (entry.Retained status until) h = cc

has_node : (nodes : List Node) (o : Option (List ℕ)) → is_up nodes o ≡ true → o ≡ Some (unwrap_or o [])
has_node nodes None h = cc
has_node nodes (Some name) h = refl

module _ (s : System) (start : Start) (h : IsNextStart s start) where
  pub has_number : s.next_run < 2 ^ 63
  has_number = let k = chosen s start h in choice_has_number s k.choice k.is

  -- its queue is found, and stands on a node
  pub record ItsQueue : Type 0 where
    pub queue : Queue
    pub node : List ℕ
    pub found : queue_named start.queue s.queues ≡ Some queue
    pub stands : queue.node ≡ Some node
    pub starts : (end : System) → end ≡ record s {
      entries = with_entry start.entry (λ e. Some (record e { state = entry.Running start.queue node s.next_run })) s.entries;
      next_run = s.next_run + 1;
    } → AreStarts s (start ∷ []) end

  pub its_queue : IsInOrder name_cmp (λ q. q.name) s.queues → ItsQueue
  its_queue order =
      let k = chosen s start h in
      let choice = choice_is s k.choice k.is in
      let name : start.queue ≡ k.choice.queue.name = ap (λ (x : Start). x.queue) k.start_is in
      let number : start.entry ≡ k.choice.entry.number = ap (λ (x : Start). x.entry) k.start_is in
      let up : is_up s.nodes k.choice.queue.node ≡ true =
      and_right (is_started k.choice.queue.state) (is_up s.nodes k.choice.queue.node)
      (and_right _ _ (and_left _ _ (and_left _ _ (and_left _ _ (and_left _ _ choice.fit))))) in
      let node : List ℕ = unwrap_or k.choice.queue.node [] in
      let after : ℕ → List ℕ → System = λ n q. record s {
        entries = with_entry n (λ e. Some (record e { state = entry.Running q node s.next_run })) s.entries;
        next_run = s.next_run + 1;
      } in
      record {
        queue = k.choice.queue;
        node = node;
        found =
            ap (λ n. queue_named n s.queues) name
            ∙ queue_found k.choice.queue s.queues (pairs_of (λ (a b : Queue). name_cmp a.name b.name ≡ Less) s.queues order) choice.queue;
        stands = has_node s.nodes k.choice.queue.node up;
        starts = λ end ends.
            subst (λ (x : Start). AreStarts s (x ∷ []) end) (sym k.start_is)
            (first_step s k.choice [] end k.is (ends ∙ ap (λ n. after n start.queue) number ∙ ap (after k.choice.entry.number) name));
      }

  pub its_state : IsInOrder nat_cmp (λ e. e.number) s.entries → option_map (λ (e : Entry). e.state) (entry_numbered start.entry s.entries) ≡ Some entry.Pending
  its_state order =
      let k = chosen s start h in
      let choice = choice_is s k.choice k.is in
      let number : start.entry ≡ k.choice.entry.number = ap (λ (x : Start). x.entry) k.start_is in
      let found : entry_numbered k.choice.entry.number s.entries ≡ Some k.choice.entry =
      entry_found k.choice.entry s.entries (pairs_of (λ (a b : Entry). nat_cmp a.number b.number ≡ Less) s.entries order) choice.entry in
      ap (λ n. option_map (λ (e : Entry). e.state) (entry_numbered n s.entries)) number
      ∙ ap (option_map (λ (e : Entry). e.state)) found
      ∙ ap (λ z. Some z) (pending_state k.choice.entry.state (fits_pending s k.choice.entry k.choice.queue choice.fit))
