-- What is due leaves a system consistent.
use Rattle.std.proofs.Common.{◌≡◌, ℕ, ◌<◌, ◌≤◌, length, Bool, true, false, cond, not, List, [], ◌∷◌, refl, sym, ◌∙◌, ap, subst, Option, None, All, Contains, filter, map, nat_le, IfSome, bytes_eq}
use Rattle.std.specs.Option.{option_map_or}
use Rattle.qm_model.specs.Common.{Entry, EntryState, Pending, Timed, Node, System, run_of, runs_in, runs_on, state_at, is_over, entry_at, due}
use Rattle.qm_model.specs.Consistent.{IsConsistent, IsEntry, IsExecutionQueue}
use Rattle.qm_model.proofs.ListLemmas.{Becomes, none, gone, turned, becomes_shorter, becomes_all}
use Rattle.qm_model.proofs.SoundLemmas.{still_consistent, apart_at, entry_in_state}

module _ {X : Type 0} (f : EntryState → Option X) (pending : f Pending ≡ None) (timed : (at : ℕ) → f (Timed at) ≡ None) where
  of_either : (b : Bool) (at : ℕ) → f (cond b Pending (Timed at)) ≡ f (Timed at)
  of_either true at = pending ∙ sym (timed at)
  of_either false at = refl

  same_at : (now : ℕ) (state : EntryState) → f (state_at now state) ≡ f state
  same_at now (Timed at) = of_either (nat_le at now) at
  same_at now _ = refl

pub same_run : (now : ℕ) (state : EntryState) → run_of (state_at now state) ≡ run_of state
same_run = same_at run_of refl (λ at. refl)

pub same_queue : (now : ℕ) (state : EntryState) → runs_in (state_at now state) ≡ runs_in state
same_queue = same_at runs_in refl (λ at. refl)

same_node : (now : ℕ) (state : EntryState) → runs_on (state_at now state) ≡ runs_on state
same_node = same_at runs_on refl (λ at. refl)

over_has_no_run : (now : ℕ) (test : List ℕ → Bool) (state : EntryState) → is_over now state ≡ true → option_map_or test (runs_in state) false ≡ true → ⊥
over_has_no_run now test Pending over h = cc
over_has_no_run now test _ over h = cc

module _ (s : System) (now : ℕ) (sound : IsConsistent s) where
  Over : Entry → Type 0
  Over x = is_over now x.state ≡ true

  Turned : Entry → Entry → Type 0
  Turned x y = y ≡ entry_at now x

  becomes_at : (x : Entry) (xs : List Entry) (b : Bool) → is_over now x.state ≡ b
      → Becomes Over Turned xs (map (entry_at now) (filter (λ e. not (is_over now e.state)) xs))
      → Becomes Over Turned (x ∷ xs) (map (entry_at now) (cond (not b) (x ∷ filter (λ e. not (is_over now e.state)) xs) (filter (λ e. not (is_over now e.state)) xs)))
  unfolding Over Turned
  becomes_at x xs true is later = gone is later
  becomes_at x xs false is later = turned refl later

  becomes : (xs : List Entry) → Becomes Over Turned xs (map (entry_at now) (filter (λ e. not (is_over now e.state)) xs))
  becomes [] = none
  becomes (x ∷ xs) = becomes_at x xs (is_over now x.state) refl (becomes xs)

  entry_stays : (x : Entry) → IsEntry s x → IsEntry (due now s) (entry_at now x)
  entry_stays x h =
      entry_in_state s (due now s).entries s.next_run x (state_at now x.state) x.mark x.again h
      (subst (λ (o : Option (List ℕ)). IfSome o (IsExecutionQueue x.kind s.queues)) (sym (same_queue now x.state)) h.queue)
      (subst (λ (o : Option (List ℕ)). IfSome o (Contains (map (λ (n : Node). n.name) s.nodes))) (sym (same_node now x.state)) h.node)
      (subst (λ (o : Option ℕ). IfSome o (λ run. (0 < run) × (run < s.next_run))) (sym (same_run now x.state)) h.run)

  pub due_all : (P : Entry → Type 0) → ((x : Entry) → P x → P (entry_at now x)) → All P s.entries → All P (due now s).entries
  unfolding Over Turned
  due_all P keeps h = becomes_all Over Turned P P (λ x y is k. subst P (sym is) (keeps x k)) (becomes s.entries) h

  pub due_shorter : length (due now s).entries ≤ length s.entries
  due_shorter = becomes_shorter Over Turned (becomes s.entries)

  pub due_is_consistent : IsConsistent (due now s)
  unfolding Over Turned
  due_is_consistent = still_consistent s sound (map (entry_at now) (filter (λ e. not (is_over now e.state)) s.entries)) s.next_run Over Turned (becomes s.entries)
      (λ x y is h. subst (λ z. IsEntry (due now s) z) (sym is) (entry_stays x h))
      (λ x y u v is also h. apart_at x.number y.number u.number v.number (run_of x.state) (run_of y.state) (run_of u.state) (run_of v.state)
      (ap (λ (z : Entry). z.number) (sym is)) (ap (λ (z : Entry). z.number) (sym also))
      (sym (ap (λ (z : Entry). run_of z.state) is ∙ same_run now x.state)) (sym (ap (λ (z : Entry). run_of z.state) also ∙ same_run now u.state)) h)
      (λ q x over h. over_has_no_run now (λ name. bytes_eq name q) x.state over h)
      (λ q x y is h. ap (λ (o : Option (List ℕ)). option_map_or (λ name. bytes_eq name q) o false) (ap (λ (z : Entry). runs_in z.state) is ∙ same_queue now x.state) ∙ h)
      sound.next_run.0 sound.next_run.1
