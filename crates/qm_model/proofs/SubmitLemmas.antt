-- A submitted job leaves a sound system.
use Rattle.std.proofs.Common.{◌≡◌, ◌≢◌, ℕ, ◌+◌, ◌*◌, ◌<◌, ◌≤◌, ◌^◌, inl, inr, max, Bool, true, false, cond, List, [], ◌∷◌, ◌++◌, length, get_or, refl, sym, ◌∙◌, ap, subst, arith, length-append, Option, None, Some, Contains, find, map, ◌==◌, nat_lt, nat_le, is_none, IfSome, IsSome, IsBitSet, bit_and, bit_or, fold, option_map, option_and_then, nat_cmp, bytes_eq, Less}
use Rattle.std.specs.Int.{bit_at}
use Rattle.std.specs.Int.Bits.{and_zero_l}
use Rattle.std.proofs.lemmas.Nat.Bits.{and_pow, bit_at_or, bit_at-pow_other}
use Rattle.std.proofs.lemmas.Bool.Decides.{nat_tests, Decides-eqb}
use Rattle.std.proofs.lemmas.List.Elements.{All-push, All-weaker}
use Rattle.std.proofs.lemmas.List.Quantifiers.{all_pairs_push}
use Rattle.std.proofs.lemmas.Slice.Eq.{bytes_eq-Decides}
use Rattle.qm_model.specs.Common.{Entry, EntryState, Holding, Pending, Timed, JobKind, Characteristic, Form, File, ENTRIES_LIMIT, Queue, Refusal, NameOrNumber, Name, System, file_named, queue_named, is_form, form_wanted, is_characteristic, characteristic_wanted, run_of, runs_in, runs_on, job_kind, refused_where, Job}
use Rattle.qm_kinds.specs.declared.entry.JobKind.TheVariants as job
use Rattle.qm_kinds.specs.declared.refusal.Refusal.TheVariants.{BadValue, NoSuchForm, EntriesFull, NumbersSpent}
use Rattle.qm_model.specs.Consistent.{AreDefined, AreForms, HasForm, IsEntry}
use Rattle.qm_model.specs.Wanted.{refused_form, refused_characteristics, with_characteristic, set_of}
use Rattle.qm_model.specs.Submitting.{has_bad_value, submit_refusal, state_of, form_of, entry_of, submitted}
use Rattle.qm_model.proofs.SettlingLemmas.{IsIn}
use Rattle.qm_model.proofs.ListLemmas.{contains_in}
use Rattle.qm_model.proofs.SoundLemmas.{find_in}
use Rattle.qm_model.proofs.ChangeLemmas.{IsSound, sound_aside}
use Rattle.qm_model.proofs.RefusalLemmas.{none_first, not_refused, is_there, of_kind, not_at_least}

-- ---- characteristics that are defined

same_bit : (a k n : ℕ) → n ≢ k → bit_and (bit_or a (2 ^ k)) (2 ^ n) ≡ bit_and a (2 ^ n)
same_bit a k n other =
    and_pow (bit_or a (2 ^ k)) n
    ∙ ap (λ b. b * 2 ^ n) (bit_at_or a (2 ^ k) n ∙ ap (λ b. max (bit_at a n) b) (bit_at-pow_other k n other) ∙ omega arith)
    ∙ sym (and_pow a n)

pub number_in : (c : Characteristic) (defined : List Characteristic) → IsIn c defined → IsIn c.number (map (λ (d : Characteristic). d.number) defined)
number_in c [] among = absurd among
number_in c (d ∷ ds) (inl same) = inl (ap (λ (x : Characteristic). x.number) same)
number_in c (d ∷ ds) (inr among) = inr (number_in c ds among)

one_more_at : (set : ℕ) (defined : List Characteristic) (c : Characteristic) → IsIn c defined → AreDefined set defined → (n : ℕ) → IsBitSet (bit_or set (2 ^ c.number)) n
    → (b : Bool) → (n == c.number) ≡ b → Contains (map (λ (d : Characteristic). d.number) defined) n
one_more_at set defined c among h n is true same = subst (λ m. Contains (map (λ (d : Characteristic). d.number) defined) m) (sym ((Decides-eqb n c.number).0 same)) (contains_in c.number (map (λ (d : Characteristic). d.number) defined) (number_in c defined among))
one_more_at set defined c among h n is false differs =
    let other : n ≢ c.number = λ e. let yes : (n == c.number) ≡ true = (Decides-eqb n c.number).1 e in cc in
    h n (λ zero. is (same_bit set c.number n other ∙ zero))

one_more : (set : ℕ) (defined : List Characteristic) (c : Characteristic) → IsIn c defined → AreDefined set defined → AreDefined (bit_or set (2 ^ c.number)) defined
one_more set defined c among h n is = one_more_at set defined c among h n is (n == c.number) refl

found_more : (set : ℕ) (defined : List Characteristic) (wanted : NameOrNumber) (o : Option Characteristic) → find (is_characteristic wanted) defined ≡ o → AreDefined set defined → AreDefined (with_characteristic set o) defined
found_more set defined wanted None found h = h
found_more set defined wanted (Some c) found h = one_more set defined c (find_in (is_characteristic wanted) c defined found) h

all_defined : (defined : List Characteristic) (wanted : List NameOrNumber) (set : ℕ) → AreDefined set defined
    → AreDefined (fold (λ set w. with_characteristic set (characteristic_wanted w defined)) set wanted) defined
all_defined defined [] set h = h
all_defined defined (w ∷ ws) set h = all_defined defined ws (with_characteristic set (characteristic_wanted w defined)) (found_more set defined w (characteristic_wanted w defined) refl h)

pub none_set : (defined : List Characteristic) → AreDefined 0 defined
none_set defined n is = absurd (is (and_zero_l (2 ^ n)))

pub set_is_defined : (defined : List Characteristic) (wanted : List NameOrNumber) → AreDefined (set_of defined wanted) defined
set_is_defined defined wanted = all_defined defined wanted 0 (none_set defined)

-- ---- forms that are defined

by_its_name_at : (f g : Form) (gs : List Form) (b : Bool) → bytes_eq g.name f.name ≡ b → (IsIn f gs → IsSome (find (is_form (Name f.name)) gs)) → IsIn f (g ∷ gs)
    → IsSome (cond b (Some g) (find (is_form (Name f.name)) gs))
by_its_name_at f g gs true is later m = refl
by_its_name_at f g gs false is later (inl same) = let yes : bytes_eq g.name f.name ≡ true = (bytes_eq-Decides g.name f.name).1 (ap (λ (x : Form). x.name) (sym same)) in cc
by_its_name_at f g gs false is later (inr m) = later m

by_its_name : (f : Form) (forms : List Form) → IsIn f forms → IsSome (find (is_form (Name f.name)) forms)
by_its_name f [] among = absurd among
by_its_name f (g ∷ gs) among = by_its_name_at f g gs (bytes_eq g.name f.name) refl (by_its_name f gs) among

pub found_form : (forms : List Form) (wanted : NameOrNumber) (o : Option Form) → find (is_form wanted) forms ≡ o → IsSome o
    → IsSome (option_map (λ (f : Form). f.name) o) × IfSome (option_map (λ (f : Form). f.name) o) (λ name. IsSome (form_wanted (Name name) forms))
found_form forms wanted None found there = cc
found_form forms wanted (Some f) found there = (refl, by_its_name f forms (find_in (is_form wanted) f forms found))

has_form : (s : System) (kind : JobKind) (wanted : Option NameOrNumber) → AreForms s.forms → option_and_then (refused_form s) wanted ≡ None → HasForm s.forms kind (form_of s kind wanted)
has_form s job.Batch wanted h none = tt
has_form s job.Print None h none = (refl, h.default.1)
has_form s job.Print (Some wanted) h none = found_form s.forms wanted (form_wanted wanted s.forms) refl (is_there (form_wanted wanted s.forms) (not_refused _ _ none))

-- ---- one more entry

-- what is said of running jobs is said of no new one
module _ {X : Type 0} (f : EntryState → Option X) (holding : f Holding ≡ None) (pending : f Pending ≡ None) (timed : (at : ℕ) → f (Timed at) ≡ None) where
  none_at : (at : ℕ) (b : Bool) → f (cond b (Timed at) Pending) ≡ None
  none_at at true = timed at
  none_at at false = pending

  none_yet : (hold : Bool) (after : Option ℕ) (now : ℕ) → f (state_of hold after now) ≡ None
  none_yet true after now = holding
  none_yet false None now = pending
  none_yet false (Some at) now = none_at at (nat_lt now at)

pub no_run : (hold : Bool) (after : Option ℕ) (now : ℕ) → run_of (state_of hold after now) ≡ None
no_run = none_yet run_of refl refl (λ at. refl)

pub no_queue : (hold : Bool) (after : Option ℕ) (now : ℕ) → runs_in (state_of hold after now) ≡ None
no_queue = none_yet runs_in refl refl (λ at. refl)

pub no_node : (hold : Bool) (after : Option ℕ) (now : ℕ) → runs_on (state_of hold after now) ≡ None
no_node = none_yet runs_on refl refl (λ at. refl)

pub if_none : {X : Type 0} (P : X → Type 0) (o : Option X) → o ≡ None → IfSome o P
if_none P o h = subst (λ x. IfSome x P) (sym h) tt

module _ (s : System) (e : Entry) where
  abbrev pub with_one : System
  with_one = record s { entries = s.entries ++ e ∷ []; next_entry = s.next_entry + 1 }

  old_entry : (x : Entry) → IsEntry s x → IsEntry with_one x
  old_entry x h =
      let number : (0 < x.number) × (x.number < s.next_entry + 1) = (h.number.0, omega (arith, h.number.1)) in
      record { number = number; home = h.home; file = h.file; form = h.form; characteristics = h.characteristics; queue = h.queue; node = h.node; run = h.run }

  below : (m n : ℕ) → m < n → nat_cmp m n ≡ Less
  below m n h = grind (arith, nat_tests)

  differs : (o p : Option ℕ) → p ≡ None → IfSome o (λ run. p ≢ Some run)
  differs None p h = tt
  differs (Some run) p h = λ is. let no : ◌≡◌ {A = Option ℕ} None (Some run) = sym h ∙ is in cc

  pub pushed_sound : IsSound s → IsEntry with_one e → e.number ≡ s.next_entry → run_of e.state ≡ None → length s.entries < ENTRIES_LIMIT → IsSound with_one
  pushed_sound h new number idle room =
      sound_aside s s.may s.files (s.entries ++ e ∷ []) (s.next_entry + 1) s.next_run s.last h h.may h.files
      (record {
        few = omega (arith, room, length-append s.entries (e ∷ []));
        each = All-push (IsEntry with_one) s.entries e (All-weaker (IsEntry s) (IsEntry with_one) old_entry s.entries h.entries.each) new;
        order = all_pairs_push (λ (a b : Entry). nat_cmp a.number b.number ≡ Less) s.entries e h.entries.order
            (λ k d within. below (get_or s.entries k d).number e.number (omega (arith, number, (h.entries.each k d within).number.1)));
        runs = all_pairs_push (λ (a b : Entry). IfSome (run_of a.state) (λ run. run_of b.state ≢ Some run)) s.entries e h.entries.runs
            (λ k d within. differs (run_of (get_or s.entries k d).state) (run_of e.state) idle);
      })
      (omega arith) h.next_run

pub submitted_sound : (s t : System) (now : ℕ) (j : Job) → IsSound t → t.queues ≡ s.queues → t.files ≡ s.files → t.forms ≡ s.forms → length t.entries ≤ length s.entries → submit_refusal s j ≡ None
    → IsSound (submitted t now j).system
submitted_sound s t now j h queues files forms shorter none =
    let r1 = none_first _ _ none in
    let r2 = none_first _ _ r1.1 in
    let r3 = none_first _ _ r2.1 in
    let bad : Option Refusal = refused_where (has_bad_value j) BadValue in
    let full : Option Refusal = refused_where (nat_le ENTRIES_LIMIT (length s.entries)) EntriesFull in
    let spent : Option Refusal = refused_where (s.next_entry == 4294967295) NumbersSpent in
    let no_form : Option Refusal = option_and_then (refused_form s) j.form in
    let no_characteristic : Option Refusal = refused_characteristics s.characteristics j.characteristics in
    let r4 = none_first bad (no_form ∷ no_characteristic ∷ full ∷ spent ∷ []) r3.1 in
    let r5 = none_first no_form (no_characteristic ∷ full ∷ spent ∷ []) r4.1 in
    let r6 = none_first (refused_characteristics s.characteristics j.characteristics) (full ∷ spent ∷ []) r5.1 in
    let r7 = none_first full (spent ∷ []) r6.1 in
    let queue_there : IsSome (queue_named j.queue s.queues) = is_there (queue_named j.queue s.queues) (not_refused _ _ r1.0) in
    let home = of_kind j.kind (queue_named j.queue s.queues) queue_there (not_refused _ _ r2.0) in
    let file_there : IsSome (file_named j.file s.files) = is_there (file_named j.file s.files) (not_refused _ _ r3.0) in
    let form : option_and_then (λ wanted. refused_where (is_none (form_wanted wanted t.forms)) (NoSuchForm wanted)) j.form ≡ None =
    subst (λ (fs : List Form). option_and_then (λ wanted. refused_where (is_none (form_wanted wanted fs)) (NoSuchForm wanted)) j.form ≡ None) (sym forms) r5.0 in
    let room : length s.entries < ENTRIES_LIMIT = not_at_least ENTRIES_LIMIT (length s.entries) (not_refused (nat_le ENTRIES_LIMIT (length s.entries)) EntriesFull r7.0) in
    let e = entry_of t now j in
    pushed_sound t e h
    (record {
      number = (h.next_entry, omega arith);
      home = subst (λ (qs : List Queue). IsSome (queue_named j.queue qs) × IfSome (queue_named j.queue qs) (λ q. job_kind q.kind ≡ j.kind)) (sym queues) (queue_there, home);
      file = subst (λ (fs : List File). IsSome (file_named j.file fs)) (sym files) file_there;
      form = has_form t j.kind j.form h.forms form;
      characteristics = set_is_defined t.characteristics j.characteristics;
      queue = if_none _ _ (no_queue j.hold j.after now);
      node = if_none _ _ (no_node j.hold j.after now);
      run = if_none _ _ (no_run j.hold j.after now);
    })
    refl (no_run j.hold j.after now) (omega (arith, shorter, room))
