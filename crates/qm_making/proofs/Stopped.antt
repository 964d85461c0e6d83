-- What a stop makes of the queue of a name.
use Rattle.std.proofs.Common.{◌≡◌, ◌∙◌, ℕ, suc, Bool, true, false, cond, List, [], ◌∷◌, get_or, Some, None, refl, sym, ap, arith, All, bytes_eq, Less, Equal}
use Rattle.std.specs.Cmp.{tied_itself}
use Rattle.std.specs.Cmp.Lexicographic.{nat_list_cmp_total}
use Rattle.std.proofs.lemmas.List.Elements.{All-tail}
use Rattle.std.proofs.lemmas.Slice.Eq.{bytes_eq-Decides}
use Rattle.qm_model.specs.Common.{Entry, Queue, QueueState, StopMode, Pause, Next, Reset, IsInOrder, name_cmp, queue_named, with_queue, state_on_stop, stopped_queue, entries_on_stop}
use Rattle.qm_tables.specs.Spool.{Counted}
use Rattle.qm_tables.specs.SpoolCounts.{CountsOf}
use Rattle.qm_making.proofs.Entries.{timers_reset, counts_reset}
use Rattle.qm_image.specs.Timers.{AreTimersOf}

module _ (name : List ℕ) where
  abbrev named : Queue → Bool
  named q = bytes_eq q.name name

  -- none has the name
  pub none_changed : (f : Queue → Queue) (qs : List Queue) → All (λ q. named q ≡ false) qs → with_queue name f qs ≡ qs
  none_changed f [] none = refl
  none_changed f (q ∷ qs) none =
      ap (λ (b : Bool). cond b (f q) q ∷ with_queue name f qs) (none 0 q (omega arith))
      ∙ ap (λ (xs : List Queue). q ∷ xs) (none_changed f qs (All-tail (λ x. named x ≡ false) q qs none))

  none_found : (qs : List Queue) → queue_named name qs ≡ None → (f : Queue → Queue) → with_queue name f qs ≡ qs
  none_found [] none f = refl
  none_found (q ∷ qs) none f = step (named q) refl none (λ rest. none_found qs rest f)
    where
      step : (b : Bool) → named q ≡ b → cond b (Some q) (queue_named name qs) ≡ None → (queue_named name qs ≡ None → with_queue name f qs ≡ qs) → with_queue name f (q ∷ qs) ≡ q ∷ qs
      step true is h later = absurd (cc)
      step false is h later = ap (λ (b : Bool). cond b (f q) q ∷ with_queue name f qs) is ∙ ap (λ (xs : List Queue). q ∷ xs) (later h)

  others : (q : Queue) (qs : List Queue) → IsInOrder name_cmp (λ x. x.name) (q ∷ qs) → named q ≡ true → All (λ x. named x ≡ false) qs
  others q qs order is k d within = apart (get_or qs k d) (named (get_or qs k d)) refl (order 0 (suc k) d (omega arith) (omega (arith, within)))
    where
      apart : (x : Queue) (b : Bool) → named x ≡ b → name_cmp q.name x.name ≡ Less → named x ≡ false
      apart x false at less = at
      apart x true at less =
          let same : x.name ≡ q.name = (bytes_eq-Decides x.name name).0 at ∙ sym ((bytes_eq-Decides q.name name).0 is) in
          let tie : name_cmp q.name x.name ≡ Equal = ap (name_cmp q.name) same ∙ tied_itself nat_list_cmp_total q.name in
          let clash : Less ≡ Equal = sym less ∙ tie in
          cc

  -- what becomes of the queues is settled by what becomes of the one of the name
  module _ (f g : Queue → Queue) (it : Queue) (same : f it ≡ g it) where
    agree : (qs : List Queue) → IsInOrder name_cmp (λ x. x.name) qs → queue_named name qs ≡ Some it → with_queue name f qs ≡ with_queue name g qs
    agree [] order found = refl
    agree (q ∷ qs) order found = step (named q) refl found (λ rest. agree qs (λ i j d low within. order (suc i) (suc j) d (omega (arith, low)) (omega (arith, within))) rest)
      where
        step : (b : Bool) → named q ≡ b → cond b (Some q) (queue_named name qs) ≡ Some it → (queue_named name qs ≡ Some it → with_queue name f qs ≡ with_queue name g qs) → with_queue name f (q ∷ qs) ≡ with_queue name g (q ∷ qs)
        step true is h later =
            let this : q ≡ it = cc in
            let fg : f q ≡ g q = ap f this ∙ same ∙ sym (ap g this) in
            let none = others q qs order is in
            ap (λ (b : Bool). cond b (f q) q ∷ with_queue name f qs) is
            ∙ ap (λ (x : Queue). x ∷ with_queue name f qs) fg
            ∙ ap (λ (xs : List Queue). g q ∷ xs) (none_changed f qs none ∙ sym (none_changed g qs none))
            ∙ sym (ap (λ (b : Bool). cond b (g q) q ∷ with_queue name g qs) is)
        step false is h later =
            ap (λ (b : Bool). cond b (f q) q ∷ with_queue name f qs) is
            ∙ ap (λ (xs : List Queue). q ∷ xs) (later h)
            ∙ sym (ap (λ (b : Bool). cond b (g q) q ∷ with_queue name g qs) is)

-- no queue has the name
pub stop_none : (name : List ℕ) (how : StopMode) (qs : List Queue) → None ≡ queue_named name qs → qs ≡ with_queue name (stopped_queue how) qs
stop_none name how qs none = sym (none_found name qs (sym none) (stopped_queue how))

-- the state that the queue gets is that which a stop leaves
pub stop_one : (name : List ℕ) (how : StopMode) (state : QueueState) (qs : List Queue) (it : Queue) → IsInOrder name_cmp (λ x. x.name) qs → Some it ≡ queue_named name qs → state ≡ state_on_stop how it.state
    → with_queue name (λ q. record q { state = state }) qs ≡ with_queue name (stopped_queue how) qs
stop_one name how state qs it order found is =
    agree name (λ (q : Queue). record q { state = state }) (stopped_queue how) it (ap (λ (st : QueueState). record it { state = st }) is) qs order (sym found)

-- what holds of the entries still, once a reset may have cut jobs short
pub timers_on_stop : (how : StopMode) (name : List ℕ) (es : List Entry) (timers : List (ℕ × ℕ)) → AreTimersOf es timers → AreTimersOf (entries_on_stop how name es) timers
timers_on_stop Pause name es timers are = are
timers_on_stop Next name es timers are = are
timers_on_stop Reset name es timers are = timers_reset name es timers are

pub counts_on_stop : (how : StopMode) (name : List ℕ) (es : List Entry) (counts : List Counted) → CountsOf es counts → CountsOf (entries_on_stop how name es) counts
counts_on_stop Pause name es counts of = of
counts_on_stop Next name es counts of = of
counts_on_stop Reset name es counts of = counts_reset name es counts of
