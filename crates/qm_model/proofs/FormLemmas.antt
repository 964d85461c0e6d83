-- Forms that are defined or deleted leave a sound system.
use Rattle.std.proofs.Common.{◌≡◌, ◌≢◌, ℕ, ◌+◌, ◌≤◌, Bool, true, false, not, ◌||◌, List, [], ◌∷◌, refl, sym, ap, subst, Option, None, Some, All, filter, ◌==◌, nat_lt, nat_le, is_some, is_none, IfSome, IsSome, nat_cmp, bytes_eq, Less}
use Rattle.std.proofs.lemmas.List.Elements.{All-weaker, All-filter}
use Rattle.std.proofs.lemmas.List.Kept.{AllPairs-filter}
use Rattle.std.proofs.lemmas.Slice.Eq.{bytes_eq-Decides}
use Rattle.qm_model.specs.Common.{Entry, JobKind, Form, Queue, QueueKind, Refusal, Name, Number, System, default_form, is_form, form_wanted, refused_where, with_form, refused_by_queue, refused_by_entry}
use Rattle.qm_kinds.specs.declared.entry.JobKind.TheVariants as job
use Rattle.qm_kinds.specs.declared.limits.TheConstants.{LAST_FORM}
use Rattle.qm_kinds.specs.declared.queue.QueueKind.TheVariants.{Print}
use Rattle.qm_kinds.specs.declared.refusal.Holder.TheVariants.{Always}
use Rattle.qm_kinds.specs.declared.refusal.Refusal.TheVariants.{BadValue, DuplicateForm, NoSuchForm, Referenced}
use Rattle.qm_model.specs.Consistent.{IsShort, IsDefinable, HasRoom, IsProperForm, AreForms, IsMounted, HasForm, IsEntry}
use Rattle.qm_model.specs.Forms.{is_bad_form, is_form_taken, define_form_refusal, form_defined, is_named, delete_form_refusal, form_deleted}
use Rattle.qm_model.proofs.ListLemmas.{pairs_of, all_pairs_of}
use Rattle.qm_model.proofs.InsertLemmas.{all_inserted, order_inserted, apart_inserted, missed, there_inserted, not_found, found_kept}
use Rattle.qm_model.proofs.ChangeLemmas.{IsSound, IsSoundQueue, sound_of_definitions}
use Rattle.qm_model.proofs.CharacteristicLemmas.{numbers_trans, lower_number, higher_number, nothing_there, other_name}
use Rattle.qm_model.proofs.RefusalLemmas.{at_most, none_by_queue, none_by_entry, none_first, not_refused, or_false_left, or_false_right, not_at_least}

-- ---- other forms

module _ (s : System) (fs : List Form) where
  abbrev pub of_forms : System
  of_forms = record s { forms = fs }

  forms_change : IsSound s → AreForms fs → All (λ (q : Queue). IsMounted fs q.kind q.mounted) s.queues → All (λ (x : Entry). HasForm fs x.kind x.form) s.entries → IsSound of_forms
  forms_change h new of_queues of_entries =
      sound_of_definitions s fs s.characteristics h new h.characteristics
      (λ i d within. (of_queues i d within, (h.queues i d within).characteristics))
      (λ i d within. (of_entries i d within, (h.entries.each i d within).characteristics))

pub if_some_more : {X : Type 0} (P Q : X → Type 0) (o : Option X) → ((x : X) → o ≡ Some x → P x → Q x) → IfSome o P → IfSome o Q
if_some_more P Q None more h = tt
if_some_more P Q (Some x) more h = more x refl h

-- a form that is mounted or asked for is still there
still_mounted : (fs gs : List Form) (kind : QueueKind) (mounted : Option (List ℕ)) → ((n : List ℕ) → mounted ≡ Some n → IsSome (form_wanted (Name n) fs) → IsSome (form_wanted (Name n) gs)) → IsMounted fs kind mounted → IsMounted gs kind mounted
still_mounted fs gs Print mounted more h = (h.0, if_some_more (λ n. IsSome (form_wanted (Name n) fs)) (λ n. IsSome (form_wanted (Name n) gs)) mounted more h.1)
still_mounted fs gs _ mounted more h = h

still_has_form : (fs gs : List Form) (kind : JobKind) (form : Option (List ℕ)) → ((n : List ℕ) → form ≡ Some n → IsSome (form_wanted (Name n) fs) → IsSome (form_wanted (Name n) gs)) → HasForm fs kind form → HasForm gs kind form
still_has_form fs gs job.Batch form more h = h
still_has_form fs gs job.Print form more h = (h.0, if_some_more (λ n. IsSome (form_wanted (Name n) fs)) (λ n. IsSome (form_wanted (Name n) gs)) form more h.1)

-- ---- a form is defined

abbrev in_front : Form → Form → Bool
in_front f g = nat_lt f.number g.number

Lower : Form → Form → Type 0
Lower a b = nat_cmp a.number b.number ≡ Less

Other : Form → Form → Type 0
Other a b = a.name ≢ b.name

missing_at : (a b : List ℕ) (fs : List Form) (c : Bool) → bytes_eq a b ≡ c → form_wanted (Name a) fs ≡ None → IsSome (form_wanted (Name b) fs) → c ≡ false
missing_at a b fs true is missing there =
    let nothing : form_wanted (Name b) fs ≡ None = subst (λ (n : List ℕ). form_wanted (Name n) fs ≡ None) ((bytes_eq-Decides a b).0 is) missing in
    let so : is_some (form_wanted (Name b) fs) ≡ false = ap (λ (o : Option Form). is_some o) nothing in
    cc
missing_at a b fs false is missing there = refl

-- a name that a form has isn't one that no form has
missing_differs : (a b : List ℕ) (fs : List Form) → form_wanted (Name a) fs ≡ None → IsSome (form_wanted (Name b) fs) → bytes_eq a b ≡ false
missing_differs a b fs missing there = missing_at a b fs (bytes_eq a b) refl missing there

has_room : (f : Form) → is_bad_form f ≡ false → HasRoom f.shape × (f.number ≤ LAST_FORM)
has_room f fine =
    let lines = nat_le f.shape.length (f.shape.top + f.shape.bottom) in
    let columns = nat_le f.shape.width (f.shape.left + f.shape.right) in
    let rest = or_false_left (lines || columns) (nat_lt LAST_FORM f.number) fine in (
      record { lines = not_at_least f.shape.length (f.shape.top + f.shape.bottom) (or_false_left lines columns rest); columns = not_at_least f.shape.width (f.shape.left + f.shape.right) (or_false_right lines columns rest) },
      at_most LAST_FORM f.number (or_false_right (lines || columns) (nat_lt LAST_FORM f.number) fine),
    )

defined_forms : (f : Form) (fs : List Form) → AreForms fs → IsProperForm f → is_form_taken fs f ≡ false → AreForms (with_form f fs)
unfolding Lower Other
defined_forms f fs h new free =
    let missing : form_wanted (Name f.name) fs ≡ None = nothing_there _ (or_false_left (is_some (form_wanted (Name f.name) fs)) (is_some (form_wanted (Number f.number) fs)) free) in
    let by_name = not_found (is_form (Name f.name)) fs missing in
    let by_number = not_found (is_form (Number f.number)) fs (nothing_there _ (or_false_right (is_some (form_wanted (Name f.name) fs)) (is_some (form_wanted (Number f.number) fs)) free)) in
    let same : form_wanted (Name default_form) (with_form f fs) ≡ form_wanted (Name default_form) fs = missed in_front f (is_form (Name default_form)) fs (missing_differs f.name default_form fs missing h.default.1) in
    record {
      each = all_inserted in_front f IsProperForm fs new h.each;
      order = all_pairs_of Lower (with_form f fs)
          (order_inserted in_front f Lower (λ a b d p q. numbers_trans a.number b.number d.number p q) fs
          (All-weaker (λ (g : Form). (g.number == f.number) ≡ false) (λ (g : Form). (nat_lt f.number g.number ≡ true → Lower f g) × (nat_lt f.number g.number ≡ false → Lower g f))
          (λ g k. (λ is. lower_number f.number g.number is, λ is. higher_number f.number g.number is k)) fs by_number)
          (pairs_of Lower fs h.order));
      distinct = all_pairs_of Other (with_form f fs)
          (apart_inserted in_front f Other fs
          (All-weaker (λ (g : Form). bytes_eq g.name f.name ≡ false) (λ (g : Form). Other f g) (λ g k same. other_name g.name f.name k (sym same)) fs by_name)
          (All-weaker (λ (g : Form). bytes_eq g.name f.name ≡ false) (λ (g : Form). Other g f) (λ g k same. other_name g.name f.name k same) fs by_name)
          (pairs_of Other fs h.distinct));
      default = subst (λ (o : Option Form). IfSome o (λ g. g.number ≡ 0) × IsSome o) (sym same) h.default;
    }

pub form_defined_sound : (before s : System) (f : Form) → IsSound s → s.forms ≡ before.forms → IsDefinable f.name → IsShort f.stock → define_form_refusal before f ≡ None → IsSound (form_defined s f).system
form_defined_sound before s f h same label stock clear =
    let bad : Option Refusal = refused_where (is_bad_form f) BadValue in
    let taken : Option Refusal = refused_where (is_form_taken before.forms f) DuplicateForm in
    let r1 = none_first bad (taken ∷ []) clear in
    let r2 = none_first taken [] r1.1 in
    let fine = has_room f (not_refused (is_bad_form f) BadValue r1.0) in
    let free = subst (λ (gs : List Form). is_form_taken gs f ≡ false) (sym same) (not_refused (is_form_taken before.forms f) DuplicateForm r2.0) in
    let fs = with_form f s.forms in
    forms_change s fs h
    (defined_forms f s.forms h.forms (record { number = fine.1; name = label; stock = stock; shape = fine.0 }) free)
    (All-weaker (IsSoundQueue s) (λ (q : Queue). IsMounted fs q.kind q.mounted)
    (λ q k. still_mounted s.forms fs q.kind q.mounted (λ n is there. there_inserted in_front f (is_form (Name n)) s.forms there) k.mounted) s.queues h.queues)
    (All-weaker (IsEntry s) (λ (x : Entry). HasForm fs x.kind x.form)
    (λ x k. still_has_form s.forms fs x.kind x.form (λ n is there. there_inserted in_front f (is_form (Name n)) s.forms there) k.form) s.entries h.entries.each)

-- ---- a form is deleted

abbrev pub other_than : List ℕ → Form → Bool
other_than name f = not (bytes_eq f.name name)

pub differs_through : (a b c : List ℕ) → bytes_eq a b ≡ true → bytes_eq c b ≡ false → not (bytes_eq a c) ≡ true
differs_through a b c same other = at (bytes_eq a c) refl
  where
    at : (d : Bool) → bytes_eq a c ≡ d → not d ≡ true
    at true is = let no : bytes_eq c b ≡ true = subst (λ (n : List ℕ). bytes_eq n b ≡ true) ((bytes_eq-Decides a c).0 is) same in cc
    at false is = refl

still_found : (name n : List ℕ) (fs : List Form) → bytes_eq name n ≡ false → form_wanted (Name n) (filter (other_than name) fs) ≡ form_wanted (Name n) fs
still_found name n fs other = found_kept (is_form (Name n)) (other_than name) (λ f is. differs_through f.name n name is other) fs

unnamed_is_other : (name n : List ℕ) (o : Option (List ℕ)) → is_named name o ≡ false → o ≡ Some n → bytes_eq name n ≡ false
unnamed_is_other name n o free is = subst (λ (p : Option (List ℕ)). is_named name p ≡ false) is free

pub form_deleted_sound : (before s : System) (name : List ℕ) → IsSound s → s.queues ≡ before.queues → delete_form_refusal before name ≡ None
    → (All (λ (x : Entry). is_named name x.form ≡ false) before.entries → All (λ (x : Entry). is_named name x.form ≡ false) s.entries) → IsSound (form_deleted s name).system
form_deleted_sound before s name h same clear keeps =
    let missing : Option Refusal = refused_where (is_none (form_wanted (Name name) before.forms)) (NoSuchForm (Name name)) in
    let always : Option Refusal = refused_where (bytes_eq name default_form) (Referenced Always) in
    let by_queue : Option Refusal = refused_by_queue (λ q. is_named name q.mounted) before.queues in
    let by_entry : Option Refusal = refused_by_entry (λ e. is_named name e.form) before.entries in
    let r1 = none_first missing (always ∷ by_queue ∷ by_entry ∷ []) clear in
    let r2 = none_first always (by_queue ∷ by_entry ∷ []) r1.1 in
    let r3 = none_first by_queue (by_entry ∷ []) r2.1 in
    let r4 = none_first by_entry [] r3.1 in
    let of_queues : All (λ (q : Queue). is_named name q.mounted ≡ false) s.queues = subst (λ (qs : List Queue). All (λ (q : Queue). is_named name q.mounted ≡ false) qs) (sym same) (none_by_queue (λ q. is_named name q.mounted) before.queues r3.0) in
    let of_entries : All (λ (x : Entry). is_named name x.form ≡ false) s.entries = keeps (none_by_entry (λ e. is_named name e.form) before.entries r4.0) in
    let fs = filter (other_than name) s.forms in
    let stays : (n : List ℕ) → bytes_eq name n ≡ false → IsSome (form_wanted (Name n) s.forms) → IsSome (form_wanted (Name n) fs) =
    λ n other there. subst (λ (o : Option Form). IsSome o) (sym (still_found name n s.forms other)) there in
    let default = still_found name default_form s.forms (not_refused (bytes_eq name default_form) (Referenced Always) r2.0) in
    forms_change s fs h
    (record {
      each = All-filter (other_than name) IsProperForm s.forms h.forms.each;
      order = AllPairs-filter (λ (a b : Form). nat_cmp a.number b.number ≡ Less) (other_than name) s.forms h.forms.order;
      distinct = AllPairs-filter (λ (a b : Form). a.name ≢ b.name) (other_than name) s.forms h.forms.distinct;
      default = subst (λ (o : Option Form). IfSome o (λ g. g.number ≡ 0) × IsSome o) (sym default) h.forms.default;
    })
    (λ i d within. still_mounted s.forms fs _ _ (λ n is there. stays n (unnamed_is_other name n _ (of_queues i d within) is) there) (h.queues i d within).mounted)
    (λ i d within. still_has_form s.forms fs _ _ (λ n is there. stays n (unnamed_is_other name n _ (of_entries i d within) is) there) (h.entries.each i d within).form)
