-- What holds of a job that nothing refuses, and of the bytes of a file.
use Rattle.std.proofs.Common.{◌≡◌, ℕ, ◌≤◌, ◌<◌, ◌+◌, ◌==◌, nat_le, nat_lt, Bool, true, false, cond, List, [], ◌∷◌, length, Option, None, Some, refl, sym, subst, arith, is_none, is_some, IsSome}
use Rattle.std.specs.Option.{option_map, option_map_or, option_and_then}
use Rattle.std.proofs.lemmas.Bool.Decides.{nat_tests}
use Rattle.std.proofs.lemmas.Option.{same_Some}
use Rattle.qm_model.specs.Common.{Pending, Timed, File, FileName, ENTRIES_LIMIT, FILE_LIMIT, Refusal, Job, System, AreFiles, queue_named, file_named, same_file_name, run_of, is_other_kind, first_refusal, refused_where, refused_form, refused_characteristics}
use Rattle.qm_kinds.specs.declared.refusal.Refusal.TheVariants.{NoSuchQueue, WrongKind, NoSuchFile, BadValue, EntriesFull, NumbersSpent}
use Rattle.qm_model.specs.Submitting.{has_bad_value, submit_refusal, state_of}
use Rattle.qm_image.proofs.Found.{found_all}
use Rattle.qm_rules.proofs.Refusing.{none_first, none_where}

-- a file that is there has at most so many bytes
bytes_at : (name : FileName) (files : List File) (bytes : List ℕ) (o : Option File) → AreFiles files → file_named name files ≡ o → Some bytes ≡ option_map (λ (f : File). f.bytes) o → length bytes ≤ FILE_LIMIT
bytes_at name files bytes None are is same = cc
bytes_at name files bytes (Some f) are is same =
    subst (λ (b : List ℕ). length b ≤ FILE_LIMIT) (sym (same_Some bytes f.bytes same)) (found_all (λ (x : File). length x.bytes ≤ FILE_LIMIT) (λ x. same_file_name x.name name) files f are.each is)

pub bytes_fit : (name : FileName) (files : List File) (bytes : List ℕ) → AreFiles files → Some bytes ≡ option_map (λ (f : File). f.bytes) (file_named name files) → length bytes ≤ FILE_LIMIT
bytes_fit name files bytes are same = bytes_at name files bytes (file_named name files) are refl same

pub is_there : (o : Option File) → is_some (option_map (λ (f : File). f.bytes) o) ≡ is_some o
is_there None = refl
is_there (Some f) = refl

-- nothing refuses the job: its file is there, there are fewer entries than can be, and a number is left
pub record IsAccepted (s : System) (j : Job) : Type 0 where
  pub there : IsSome (file_named j.file s.files)
  pub few : length s.entries < ENTRIES_LIMIT
  pub number : (s.next_entry == 4294967295) ≡ false

some_is : (o : Option File) → is_none o ≡ false → IsSome o
some_is None h = cc
some_is (Some f) h = refl

few_are : (n : ℕ) → nat_le ENTRIES_LIMIT n ≡ false → n < ENTRIES_LIMIT
few_are n h = grind (arith, nat_tests)

pub accepted : (s : System) (j : Job) → submit_refusal s j ≡ None → IsAccepted s j
accepted s j clear =
    let r1 = none_first (refused_where (is_none (queue_named j.queue s.queues)) (NoSuchQueue j.queue)) _ clear in
    let r2 = none_first (refused_where (option_map_or (is_other_kind j.kind) (queue_named j.queue s.queues) false) WrongKind) _ r1.1 in
    let r3 = none_first (refused_where (is_none (file_named j.file s.files)) NoSuchFile) _ r2.1 in
    let r4 = none_first (refused_where (has_bad_value j) BadValue) _ r3.1 in
    let r5 = none_first (option_and_then (refused_form s) j.form) _ r4.1 in
    let r6 = none_first (refused_characteristics s.characteristics j.characteristics) _ r5.1 in
    let r7 = none_first (refused_where (nat_le ENTRIES_LIMIT (length s.entries)) EntriesFull) _ r6.1 in
    let r8 = none_first (refused_where (s.next_entry == 4294967295) NumbersSpent) _ r7.1 in
    record {
      there = some_is (file_named j.file s.files) (none_where (is_none (file_named j.file s.files)) NoSuchFile r3.0);
      few = few_are (length s.entries) (none_where (nat_le ENTRIES_LIMIT (length s.entries)) EntriesFull r7.0);
      number = none_where (s.next_entry == 4294967295) NumbersSpent r8.0;
    }

pub number_left : (n : ℕ) → n < 4294967296 → (n == 4294967295) ≡ false → n + 1 < 4294967296
number_left n fits left = grind (arith, nat_tests)

-- a job that is submitted has no run
pub waits_at_first : (hold : Bool) (after : Option ℕ) (now : ℕ) → run_of (state_of hold after now) ≡ None
waits_at_first true after now = refl
waits_at_first false None now = refl
waits_at_first false (Some at) now = either (nat_lt now at)
  where
    either : (b : Bool) → run_of (cond b (Timed at) Pending) ≡ None
    either true = refl
    either false = refl

-- the refusals that were found, in the model's order
pub gathered : (s : System) (j : Job) (q k f v o c n m : Option Refusal)
    → q ≡ refused_where (is_none (queue_named j.queue s.queues)) (NoSuchQueue j.queue)
    → k ≡ refused_where (option_map_or (is_other_kind j.kind) (queue_named j.queue s.queues) false) WrongKind
    → f ≡ refused_where (is_none (file_named j.file s.files)) NoSuchFile
    → v ≡ refused_where (has_bad_value j) BadValue
    → o ≡ option_and_then (refused_form s) j.form
    → c ≡ refused_characteristics s.characteristics j.characteristics
    → n ≡ refused_where (nat_le ENTRIES_LIMIT (length s.entries)) EntriesFull
    → m ≡ refused_where (s.next_entry == 4294967295) NumbersSpent
    → first_refusal (q ∷ k ∷ f ∷ v ∷ o ∷ c ∷ n ∷ m ∷ []) ≡ submit_refusal s j
gathered s j q k f v o c n m eq ek ef ev eo ec en em = λ t. first_refusal (eq t ∷ ek t ∷ ef t ∷ ev t ∷ eo t ∷ ec t ∷ en t ∷ em t ∷ [])
