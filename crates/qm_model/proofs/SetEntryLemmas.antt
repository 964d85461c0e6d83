-- A changed entry leaves a sound system.
use Rattle.std.proofs.Common.{◌≡◌, ℕ, ◌⊎◌, inl, inr, Bool, true, false, cond, not, ◌||◌, ◌&&◌, List, [], ◌∷◌, ◌++◌, refl, sym, ◌∙◌, ap, subst, arith, Option, None, Some, All, find, ◌==◌, nat_le, is_some, is_none, IfSome, IsSome, unwrap_or, nat_cmp, Less}
use Rattle.std.specs.Option.{option_map, option_map_or, option_and_then, option_or, option_to_list}
use Rattle.std.proofs.lemmas.Bool.Decides.{nat_tests, Decides-eqb}
use Rattle.std.proofs.lemmas.List.Elements.{All-cons, All-nil, All-head, All-tail, All-weaker}
use Rattle.qm_model.specs.Common.{Entry, EntryState, Pending, Holding, Timed, Running, Aborting, Retained, JobKind, Form, Queue, Refusal, EntryIs, NameOrNumber, Name, System, queue_named, entry_numbered, form_wanted, run_of, is_pending, is_waiting, refused_where, refused_form, refused_characteristics, form_named, characteristics_of, EntryChange, replied, with_entry, state_at, entry_at}
use Rattle.qm_kinds.specs.declared.entry.JobKind.TheVariants as job
use Rattle.qm_kinds.specs.declared.form.CharacteristicSet.{CharacteristicSet}
use Rattle.qm_kinds.specs.declared.refusal.Refusal.TheVariants.{NoSuchEntry, EntryBusy, NotHeld, NoSuchQueue, NoSuchForm, WrongKind}
use Rattle.qm_model.specs.Consistent.{IsEntry, HasForm, AreDefined}
use Rattle.qm_model.specs.Kinds.{job_kind, is_print, is_other_kind}
use Rattle.qm_model.specs.Entries.{refused_queue, is_entry_of_other_kind, entry_change_refusal, set_entry_refusal, with_fields, changed_entry, entry_set_to, entry_set}
use Rattle.qm_model.proofs.ListLemmas.{Becomes, none, turned, Pairs, pairs_of}
use Rattle.qm_model.proofs.SoundLemmas.{AreApart, one_outcome}
use Rattle.qm_model.proofs.ChangeLemmas.{IsSound, of_entries}
use Rattle.qm_model.proofs.RefusalLemmas.{not_false, none_first, not_refused, is_there, of_kind, or_false_left, or_false_right}
use Rattle.qm_model.proofs.SubmitLemmas.{no_run, no_queue, no_node, if_none, found_form, set_is_defined}
use Rattle.qm_model.proofs.MoveLemmas.{Same, entries_turn}

-- ---- the entry that is meant

not_same : (m n : ℕ) → nat_cmp m n ≡ Less → (m == n) ≡ false
not_same m n h = grind (arith, nat_tests)

abbrev numbered : ℕ → Entry → Bool
numbered number e = e.number == number

found_first : (number : ℕ) (es : List Entry) → Pairs AreApart es → All (λ (x : Entry). x.number ≡ number → find (numbered number) es ≡ Some x) es
found_first number [] h = All-nil _
found_first number (e ∷ es) h =
    All-cons (λ (x : Entry). x.number ≡ number → find (numbered number) (e ∷ es) ≡ Some x) e es
    (λ is. ap (λ (b : Bool). cond b (Some e) (find (numbered number) es)) ((Decides-eqb e.number number).1 is))
    (λ k d within is.
    ap (λ (b : Bool). cond b (Some e) (find (numbered number) es)) (ap (λ (n : ℕ). e.number == n) (sym is) ∙ not_same _ _ (h.0 k d within).0)
    ∙ found_first number es h.1 k d within is)

-- what is known of an entry that may be changed so
abbrev pub CanChange : List Queue → List Form → EntryChange → Entry → Type 0
CanChange qs fs change x =
    (is_waiting x.state ≡ true)
    × (option_and_then (λ name. refused_where (is_none (queue_named name qs)) (NoSuchQueue name)) change.queue ≡ None)
    × ((option_map_or (is_other_kind x.kind) (option_and_then (λ name. queue_named name qs) change.queue) false || (not (is_print x.kind) && is_some change.form)) ≡ false)
    × (option_and_then (λ wanted. refused_where (is_none (form_wanted wanted fs)) (NoSuchForm wanted)) change.form ≡ None)

can_change : (s : System) (change : EntryChange) (x : Entry) → entry_change_refusal s change x ≡ None → CanChange s.queues s.forms change x
can_change s change x clear =
    let busy : Option Refusal = refused_where (not (is_waiting x.state)) (EntryBusy x.state) in
    let held : Option Refusal = refused_where (change.release && is_pending x.state) NotHeld in
    let queue : Option Refusal = option_and_then (refused_queue s) change.queue in
    let wrong : Option Refusal = refused_where (is_entry_of_other_kind s x change) WrongKind in
    let form : Option Refusal = option_and_then (refused_form s) change.form in
    let characteristics : Option Refusal = option_and_then (refused_characteristics s.characteristics) change.characteristics in
    let r1 = none_first busy (held ∷ queue ∷ wrong ∷ form ∷ characteristics ∷ []) clear in
    let r2 = none_first held (queue ∷ wrong ∷ form ∷ characteristics ∷ []) r1.1 in
    let r3 = none_first queue (wrong ∷ form ∷ characteristics ∷ []) r2.1 in
    let r4 = none_first wrong (form ∷ characteristics ∷ []) r3.1 in
    let r5 = none_first form (characteristics ∷ []) r4.1 in
    (not_false (is_waiting x.state) (not_refused (not (is_waiting x.state)) (EntryBusy x.state) r1.0), r3.0, not_refused (is_entry_of_other_kind s x change) WrongKind r4.0, r5.0)

-- each entry of the number may be changed so
pub may_change : (s : System) (number : ℕ) (change : EntryChange) → Pairs AreApart s.entries → set_entry_refusal s number change ≡ None
    → All (λ (x : Entry). x.number ≡ number → CanChange s.queues s.forms change x) s.entries
may_change s number change apart clear =
    let missing : Option Refusal = refused_where (is_none (entry_numbered number s.entries)) (NoSuchEntry number) in
    let refused : Option Refusal = option_and_then (entry_change_refusal s change) (entry_numbered number s.entries) in
    let r1 = none_first missing (refused ∷ []) clear in
    let r2 = none_first refused [] r1.1 in
    All-weaker (λ (x : Entry). x.number ≡ number → find (numbered number) s.entries ≡ Some x) (λ (x : Entry). x.number ≡ number → CanChange s.queues s.forms change x)
    (λ x found is. can_change s change x (subst (λ (o : Option Entry). option_and_then (entry_change_refusal s change) o ≡ None) (found is) r2.0)) s.entries (found_first number s.entries apart)

pub waiting_at : (now : ℕ) (state : EntryState) → is_waiting state ≡ true → is_waiting (state_at now state) ≡ true
waiting_at now Pending h = refl
waiting_at now Holding h = refl
waiting_at now (Timed at) h = waiting_timed (nat_le at now)
  where
    waiting_timed : (b : Bool) → is_waiting (cond b Pending (Timed at)) ≡ true
    waiting_timed true = refl
    waiting_timed false = refl
waiting_at now _ h = h

pub still_may : (qs : List Queue) (fs : List Form) (number now : ℕ) (change : EntryChange) (x : Entry) → (x.number ≡ number → CanChange qs fs change x) → (entry_at now x).number ≡ number → CanChange qs fs change (entry_at now x)
still_may qs fs number now change x h is = let k = h is in (waiting_at now x.state k.0, k.1, k.2, k.3)

waiting_has_no_run : (state : EntryState) → is_waiting state ≡ true → run_of state ≡ None
waiting_has_no_run (Running queue node run) h = cc
waiting_has_no_run (Aborting queue node run fate) h = cc
waiting_has_no_run (Retained status until) h = cc
waiting_has_no_run _ h = refl

-- ---- what it becomes

new_home : (qs : List Queue) (kind : JobKind) (home : List ℕ) (o : Option (List ℕ)) → option_and_then (λ name. refused_where (is_none (queue_named name qs)) (NoSuchQueue name)) o ≡ None
    → option_map_or (is_other_kind kind) (option_and_then (λ name. queue_named name qs) o) false ≡ false
    → IsSome (queue_named home qs) × IfSome (queue_named home qs) (λ q. job_kind q.kind ≡ kind)
    → IsSome (queue_named (unwrap_or o home) qs) × IfSome (queue_named (unwrap_or o home) qs) (λ q. job_kind q.kind ≡ kind)
new_home qs kind home None there alike h = h
new_home qs kind home (Some name) there alike h =
    let found : IsSome (queue_named name qs) = is_there (queue_named name qs) (not_refused (is_none (queue_named name qs)) (NoSuchQueue name) there) in
    (found, of_kind kind (queue_named name qs) found alike)

pub or_found : (fs : List Form) (o form : Option (List ℕ)) → IsSome o × IfSome o (λ name. IsSome (form_wanted (Name name) fs)) → IsSome (option_or o form) × IfSome (option_or o form) (λ name. IsSome (form_wanted (Name name) fs))
or_found fs None form h = cc
or_found fs (Some name) form h = h

new_form : (fs : List Form) (kind : JobKind) (form : Option (List ℕ)) (o : Option NameOrNumber) → (not (is_print kind) && is_some o) ≡ false
    → option_and_then (λ wanted. refused_where (is_none (form_wanted wanted fs)) (NoSuchForm wanted)) o ≡ None → HasForm fs kind form → HasForm fs kind (option_or (option_and_then (form_named fs) o) form)
new_form fs job.Batch form o free there h = tt
new_form fs job.Print form None free there h = h
new_form fs job.Print form (Some wanted) free there h =
    or_found fs (form_named fs wanted) form (found_form fs wanted (form_wanted wanted fs) refl (is_there (form_wanted wanted fs) (not_refused (is_none (form_wanted wanted fs)) (NoSuchForm wanted) there)))

pub new_set : (s : System) (set : CharacteristicSet) (o : Option (List NameOrNumber)) → AreDefined set.0 s.characteristics → AreDefined (option_map_or (characteristics_of s) o set).0 s.characteristics
new_set s set None h = h
new_set s set (Some wanted) h = set_is_defined s.characteristics wanted

module _ (s : System) (now number : ℕ) (change : EntryChange) where
  Changed : Entry → Entry → Type 0
  Changed x y = (y ≡ x) ⊎ (CanChange s.queues s.forms change x × (y ≡ changed_entry s now change x))

  changed_list : List Entry
  changed_list = with_entry number (λ e. Some (changed_entry s now change e)) s.entries

  one_changed_at : (x : Entry) (xs ys : List Entry) (b : Bool) → (x.number == number) ≡ b → (x.number ≡ number → CanChange s.queues s.forms change x) → Becomes (λ (x : Entry). Unit {0}) Changed xs ys
      → Becomes (λ (x : Entry). Unit {0}) Changed (x ∷ xs) (cond b (option_to_list (Some (changed_entry s now change x))) (x ∷ []) ++ ys)
  unfolding Changed
  one_changed_at x xs ys true is can later = turned (inr (can ((Decides-eqb x.number number).0 is), refl)) later
  one_changed_at x xs ys false is can later = turned (inl refl) later

  one_changed : (xs : List Entry) → All (λ (x : Entry). x.number ≡ number → CanChange s.queues s.forms change x) xs
      → Becomes (λ (x : Entry). Unit {0}) Changed xs (with_entry number (λ e. Some (changed_entry s now change e)) xs)
  one_changed [] can = none
  one_changed (x ∷ xs) can =
      let P : Entry → Type 0 = λ x. x.number ≡ number → CanChange s.queues s.forms change x in
      one_changed_at x xs _ (x.number == number) refl (All-head P x xs can) (one_changed xs (All-tail P x xs can))

  abbrev with_entries : System → List Entry → System
  with_entries t es = record t { entries = es }

  state_is_new : (x : Entry) → CanChange s.queues s.forms change x → run_of (changed_entry s now change x).state ≡ run_of x.state
  state_is_new x can = no_run (with_fields s change x).held (with_fields s change x).after now ∙ sym (waiting_has_no_run x.state can.0)

  same : (x y : Entry) → Changed x y → Same x y
  unfolding Changed
  same x y (inl is) = subst (λ z. Same x z) (sym is) (record { number = refl; run = refl })
  same x y (inr p) = subst (λ z. Same x z) (sym p.1) (record { number = refl; run = state_is_new x p.0 })

  changed_is_entry : (es : List Entry) (x : Entry) → CanChange s.queues s.forms change x → IsEntry s x → IsEntry (of_entries s es) (changed_entry s now change x)
  changed_is_entry es x can h =
      let f = with_fields s change x in
      let queue_part = or_false_left (option_map_or (is_other_kind x.kind) (option_and_then (λ name. queue_named name s.queues) change.queue) false) (not (is_print x.kind) && is_some change.form) can.2 in
      let form_part = or_false_right (option_map_or (is_other_kind x.kind) (option_and_then (λ name. queue_named name s.queues) change.queue) false) (not (is_print x.kind) && is_some change.form) can.2 in
      record {
        number = h.number;
        home = new_home s.queues x.kind x.home change.queue can.1 queue_part h.home;
        file = h.file;
        form = new_form s.forms x.kind x.form change.form form_part can.3 h.form;
        characteristics = new_set s x.characteristics change.characteristics h.characteristics;
        queue = if_none _ _ (no_queue f.held f.after now);
        node = if_none _ _ (no_node f.held f.after now);
        run = if_none _ _ (no_run f.held f.after now);
      }

  old_is_entry : (es : List Entry) (x : Entry) → IsEntry s x → IsEntry (of_entries s es) x
  old_is_entry es x h = record { number = h.number; home = h.home; file = h.file; form = h.form; characteristics = h.characteristics; queue = h.queue; node = h.node; run = h.run }

  each : (es : List Entry) (x y : Entry) → Changed x y → IsEntry s x → IsEntry (of_entries s es) y
  unfolding Changed
  each es x y (inl is) h = subst (λ z. IsEntry (of_entries s es) z) (sym is) (old_is_entry es x h)
  each es x y (inr p) h = subst (λ z. IsEntry (of_entries s es) z) (sym p.1) (changed_is_entry es x p.0 h)

  apart : IsSound s → Pairs AreApart s.entries
  apart h = pairs_of AreApart s.entries (λ i j d below within. (h.entries.order i j d below within, h.entries.runs i j d below within))

  each_set : IsSound s → All (λ (x : Entry). x.number ≡ number → CanChange s.queues s.forms change x) s.entries → IsSound (with_entries s (with_entry number (λ e. Some (changed_entry s now change e)) s.entries))
  each_set h can = entries_turn s (with_entry number (λ e. Some (changed_entry s now change e)) s.entries) Changed h same (each (with_entry number (λ e. Some (changed_entry s now change e)) s.entries)) (one_changed s.entries can)

  -- the entry that is found is the one of its number
  found_is : (e : Entry) → IsSound s → find (numbered number) s.entries ≡ Some e → All (λ (x : Entry). x.number ≡ number → Some (changed_entry s now change x) ≡ Some (changed_entry s now change e)) s.entries
  found_is e h found =
      All-weaker (λ (x : Entry). x.number ≡ number → find (numbered number) s.entries ≡ Some x) (λ (x : Entry). x.number ≡ number → Some (changed_entry s now change x) ≡ Some (changed_entry s now change e))
      (λ x k is. let same : ◌≡◌ {A = Option Entry} (Some x) (Some e) = sym (k is) ∙ found in ap (option_map (changed_entry s now change)) same) s.entries (found_first number s.entries (apart h))

  set_found : (o : Option Entry) → find (numbered number) s.entries ≡ o → IsSound s → All (λ (x : Entry). x.number ≡ number → CanChange s.queues s.forms change x) s.entries
      → IsSound (option_map_or (λ e. entry_set_to s number (changed_entry s now change e)) o (replied s (EntryIs number Pending))).system
  set_found None found h can = h
  set_found (Some e) found h can =
      subst (λ (es : List Entry). IsSound (with_entries s es)) (one_outcome number (λ x. Some (changed_entry s now change x)) (Some (changed_entry s now change e)) s.entries (found_is e h found)) (each_set h can)

  pub entry_set_sound : IsSound s → All (λ (x : Entry). x.number ≡ number → CanChange s.queues s.forms change x) s.entries → IsSound (entry_set s now number change).system
  entry_set_sound h can = set_found (entry_numbered number s.entries) refl h can
