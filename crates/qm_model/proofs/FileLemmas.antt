-- A file that is made or grows leaves a sound system.
use Rattle.std.proofs.Common.{◌≡◌, ℕ, ◌+◌, ◌≤◌, Bool, true, false, cond, ◌||◌, ◌&&◌, List, [], ◌∷◌, ◌++◌, length, refl, sym, ◌∙◌, ap, subst, arith, length-append, Option, None, Some, All, nat_lt, nat_le, is_some, is_none, IsSome, bytes_eq, Ordering, Less, Equal, Greater}
use Rattle.std.specs.Option.{option_map_or, option_eq, option_cmp}
use Rattle.std.specs.Ordering.{ordering_then, match_ordering, is_eq}
use Rattle.std.specs.Cmp.{IsTotalOrder, then_total, on_total}
use Rattle.std.specs.Cmp.Lexicographic.{nat_list_cmp_total, options_total, texts_ties}
use Rattle.std.proofs.lemmas.List.Elements.{All-cons, All-nil, All-head, All-tail, All-weaker}
use Rattle.std.proofs.lemmas.List.Sums.{sum_by-cons}
use Rattle.std.proofs.lemmas.Slice.Eq.{bytes_eq-Decides}
use Rattle.qm_model.specs.Common.{File, FileName, System, name_cmp, file_name_cmp, same_file_name, file_named, AreFiles, spooled, refused_where}
use Rattle.qm_kinds.specs.declared.limits.TheConstants.{FILES_LIMIT, FILE_LIMIT, SPOOL_LIMIT}
use Rattle.qm_kinds.specs.declared.refusal.Refusal.TheVariants.{SpoolFull}
use Rattle.qm_model.specs.Appending.{bytes_of, with_file, refused_as_named, is_spool_full, append_refusal, appended}
use Rattle.qm_model.proofs.SettlingLemmas.{and_left, and_right}
use Rattle.qm_model.proofs.ListLemmas.{Pairs, pairs_of, all_pairs_of}
use Rattle.qm_model.proofs.ChangeLemmas.{IsSound, sound_of_files}
use Rattle.qm_model.proofs.RefusalLemmas.{at_most, none_first, not_refused, or_false_left, or_false_right}

-- ---- the order of file names

order : IsTotalOrder file_name_cmp
order = then_total (on_total (λ (f : FileName). f.name) nat_list_cmp_total) (on_total (λ (f : FileName). f.extension) (options_total nat_list_cmp_total))

pub names_equal : (a b : List ℕ) → name_cmp a b ≡ Equal → a ≡ b
names_equal a b h = (bytes_eq-Decides a b).0 (texts_ties a b ∙ ap is_eq h)

first_equal : (a b : Ordering) → ordering_then a b ≡ Equal → (a ≡ Equal) × (b ≡ Equal)
first_equal Less b h = cc
first_equal Equal b h = (refl, h)
first_equal Greater b h = cc

types_equal : (a b : Option (List ℕ)) → option_cmp name_cmp a b ≡ Equal → a ≡ b
types_equal None None h = refl
types_equal None (Some b) h = cc
types_equal (Some a) None h = cc
types_equal (Some a) (Some b) h = ap (λ (n : List ℕ). Some n) (names_equal a b h)

parts_equal : (a b : FileName) → a.name ≡ b.name → a.extension ≡ b.extension → a ≡ b
parts_equal a b p q = ap (λ (n : List ℕ). record a { name = n }) p ∙ ap (λ (x : Option (List ℕ)). record b { extension = x }) q

equal_names : (a b : FileName) → file_name_cmp a b ≡ Equal → a ≡ b
equal_names a b h =
    let parts = first_equal (name_cmp a.name b.name) (option_cmp name_cmp a.extension b.extension) h in
    parts_equal a b (names_equal a.name b.name parts.0) (types_equal a.extension b.extension parts.1)

same_type : (a b : Option (List ℕ)) → option_eq bytes_eq a b ≡ true → a ≡ b
same_type None None h = refl
same_type None (Some b) h = cc
same_type (Some a) None h = cc
same_type (Some a) (Some b) h = ap (λ (n : List ℕ). Some n) ((bytes_eq-Decides a b).0 h)

pub same_name : (a b : FileName) → same_file_name a b ≡ true → a ≡ b
same_name a b h = parts_equal a b ((bytes_eq-Decides a.name b.name).0 (and_left _ _ h)) (same_type a.extension b.extension (and_right (bytes_eq a.name b.name) (option_eq bytes_eq a.extension b.extension) h))

type_itself : (a : Option (List ℕ)) → option_eq bytes_eq a a ≡ true
type_itself None = refl
type_itself (Some a) = (bytes_eq-Decides a a).1 refl

both : (a b : Bool) → a ≡ true → b ≡ true → (a && b) ≡ true
both true b p q = q
both false b p q = cc

pub name_itself : (a : FileName) → same_file_name a a ≡ true
name_itself a = both (bytes_eq a.name a.name) (option_eq bytes_eq a.extension a.extension) ((bytes_eq-Decides a.name a.name).1 refl) (type_itself a.extension)

not_itself : (a : FileName) → file_name_cmp a a ≡ Less → ⊥
not_itself a h = let other = order.antisymm a a in cc

false_unless : (b : Bool) → (b ≡ true → ⊥) → b ≡ false
false_unless true h = absurd (h refl)
false_unless false h = refl

turned_round : (a b : FileName) → file_name_cmp a b ≡ Greater → file_name_cmp b a ≡ Less
turned_round a b h = let other = order.antisymm b a in cc

less_differs : (a b : FileName) → file_name_cmp a b ≡ Less → same_file_name b a ≡ false
less_differs a b h = false_unless (same_file_name b a) (λ is. not_itself a (subst (λ x. file_name_cmp a x ≡ Less) (same_name b a is) h))

greater_differs : (a b : FileName) → file_name_cmp a b ≡ Greater → same_file_name b a ≡ false
greater_differs a b h = false_unless (same_file_name b a) (λ is. not_itself a (subst (λ x. file_name_cmp x a ≡ Less) (same_name b a is) (turned_round a b h)))

-- ---- a file in its place

Below : File → File → Type 0
Below a b = file_name_cmp a.name b.name ≡ Less

abbrev placed : Ordering → File → File → List File → List File
placed o file f fs = match_ordering o (file ∷ f ∷ fs) (file ∷ fs) (f ∷ with_file file fs)

all_at : (P : File → Type 0) (o : Ordering) (file f : File) (fs : List File) → P file → All P (f ∷ fs) → (All P fs → All P (with_file file fs)) → All P (placed o file f fs)
all_at P Less file f fs p h later = All-cons P file (f ∷ fs) p h
all_at P Equal file f fs p h later = All-cons P file fs p (All-tail P f fs h)
all_at P Greater file f fs p h later = All-cons P f (with_file file fs) (All-head P f fs h) (later (All-tail P f fs h))

all_with : (P : File → Type 0) (file : File) (fs : List File) → P file → All P fs → All P (with_file file fs)
all_with P file [] p h = All-cons P file [] p h
all_with P file (f ∷ fs) p h = all_at P (file_name_cmp file.name f.name) file f fs p h (all_with P file fs p)

order_at : (o : Ordering) (file f : File) (fs : List File) → file_name_cmp file.name f.name ≡ o → Pairs Below (f ∷ fs) → (Pairs Below fs → Pairs Below (with_file file fs)) → Pairs Below (placed o file f fs)
unfolding Below
order_at Less file f fs is h later =
    (All-cons (Below file) f fs is (All-weaker (Below f) (Below file) (λ g k. order.trans file.name f.name g.name is k) fs h.0), h)
order_at Equal file f fs is h later =
    (subst (λ (n : FileName). All (λ (g : File). file_name_cmp n g.name ≡ Less) fs) (sym (equal_names file.name f.name is)) h.0, h.1)
order_at Greater file f fs is h later = (all_with (Below f) file fs (turned_round file.name f.name is) h.0, later h.1)

order_with : (file : File) (fs : List File) → Pairs Below fs → Pairs Below (with_file file fs)
order_with file [] h = (All-nil (Below file), tt)
order_with file (f ∷ fs) h = order_at (file_name_cmp file.name f.name) file f fs refl h (order_with file fs)

unnamed : (name : FileName) (fs : List File) → All (λ (g : File). file_name_cmp name g.name ≡ Less) fs → file_named name fs ≡ None
unnamed name [] h = refl
unnamed name (f ∷ fs) h =
    let P : File → Type 0 = λ g. file_name_cmp name g.name ≡ Less in
    ap (λ (b : Bool). cond b (Some f) (file_named name fs)) (less_differs name f.name (All-head P f fs h)) ∙ unnamed name fs (All-tail P f fs h)

abbrev one_if : Bool → ℕ
one_if b = cond b 1 0

-- how long the list is, and how many bytes there are
pub record Grows (file : File) (fs : List File) (result : List File) : Type 0 where
  pub long : length result + one_if (is_some (file_named file.name fs)) ≡ length fs + 1
  pub bytes : spooled result + length (bytes_of file.name fs) ≡ spooled fs + length file.bytes

abbrev found_when : Bool → FileName → File → List File → Option File
found_when b name f fs = cond b (Some f) (file_named name fs)

abbrev bytes_when : Option File → ℕ
bytes_when o = length (option_map_or (λ (f : File). f.bytes) o [])

spooled_cons : (f : File) (fs : List File) → spooled (f ∷ fs) ≡ length f.bytes + spooled fs
spooled_cons f fs = sum_by-cons (λ (g : File). length g.bytes) f fs

grows_at : (o : Ordering) (file f : File) (fs : List File) → file_name_cmp file.name f.name ≡ o → Pairs Below (f ∷ fs) → (Pairs Below fs → Grows file fs (with_file file fs))
    → Grows file (f ∷ fs) (placed o file f fs)
unfolding Below
grows_at Less file f fs is h later =
    let after : All (Below file) fs = All-weaker (Below f) (Below file) (λ g k. order.trans file.name f.name g.name is k) fs h.0 in
    let nothing : file_named file.name (f ∷ fs) ≡ None = unnamed file.name (f ∷ fs) (All-cons (λ (g : File). file_name_cmp file.name g.name ≡ Less) f fs is after) in
    let few : one_if (is_some (file_named file.name (f ∷ fs))) ≡ 0 = ap (λ (o : Option File). one_if (is_some o)) nothing in
    let none : length (bytes_of file.name (f ∷ fs)) ≡ 0 = ap bytes_when nothing in
    record { long = omega (arith, few); bytes = omega (arith, none, spooled_cons file (f ∷ fs)) }
grows_at Equal file f fs is h later =
    let same : same_file_name f.name file.name ≡ true = subst (λ (n : FileName). same_file_name f.name n ≡ true) (sym (equal_names file.name f.name is)) (name_itself f.name) in
    let one : one_if (is_some (file_named file.name (f ∷ fs))) ≡ 1 = ap (λ (b : Bool). one_if (is_some (found_when b file.name f fs))) same in
    let all : length (bytes_of file.name (f ∷ fs)) ≡ length f.bytes = ap (λ (b : Bool). bytes_when (found_when b file.name f fs)) same in
    record { long = omega (arith, one); bytes = omega (arith, all, spooled_cons file fs, spooled_cons f fs) }
grows_at Greater file f fs is h later =
    let differs : same_file_name f.name file.name ≡ false = greater_differs file.name f.name is in
    let rest = later h.1 in
    let one : one_if (is_some (file_named file.name (f ∷ fs))) ≡ one_if (is_some (file_named file.name fs)) = ap (λ (b : Bool). one_if (is_some (found_when b file.name f fs))) differs in
    let all : length (bytes_of file.name (f ∷ fs)) ≡ length (bytes_of file.name fs) = ap (λ (b : Bool). bytes_when (found_when b file.name f fs)) differs in
    record { long = omega (arith, one, rest.long); bytes = omega (arith, all, rest.bytes, spooled_cons f (with_file file fs), spooled_cons f fs) }

grows : (file : File) (fs : List File) → Pairs Below fs → Grows file fs (with_file file fs)
grows file [] h = record { long = refl; bytes = omega arith }
grows file (f ∷ fs) h = grows_at (file_name_cmp file.name f.name) file f fs refl h (grows file fs)

found_if : (n : FileName) (b : Bool) (f : File) (o : Option File) → IsSome o → IsSome (cond b (Some f) o)
found_if n true f o h = refl
found_if n false f o h = h

found_else : (b : Bool) (f g : File) (o p : Option File) → (IsSome o → IsSome p) → IsSome (cond b (Some f) o) → IsSome (cond b (Some g) p)
found_else true f g o p keeps h = refl
found_else false f g o p keeps h = keeps h

still_at : (n : FileName) (o : Ordering) (file f : File) (fs : List File) → file_name_cmp file.name f.name ≡ o → (IsSome (file_named n fs) → IsSome (file_named n (with_file file fs)))
    → IsSome (file_named n (f ∷ fs)) → IsSome (file_named n (placed o file f fs))
still_at n Less file f fs is later h = found_if n (same_file_name file.name n) file (file_named n (f ∷ fs)) h
still_at n Equal file f fs is later h =
    subst (λ (m : FileName). IsSome (cond (same_file_name m n) (Some file) (file_named n fs))) (sym (equal_names file.name f.name is))
    (found_else (same_file_name f.name n) f file (file_named n fs) (file_named n fs) (λ k. k) h)
still_at n Greater file f fs is later h = found_else (same_file_name f.name n) f f (file_named n fs) (file_named n (with_file file fs)) later h

still_there : (n : FileName) (file : File) (fs : List File) → IsSome (file_named n fs) → IsSome (file_named n (with_file file fs))
still_there n file [] h = cc
still_there n file (f ∷ fs) h = still_at n (file_name_cmp file.name f.name) file f fs refl (still_there n file fs) h

-- ---- other files

module _ (s : System) (fs : List File) (stays : (n : FileName) → IsSome (file_named n s.files) → IsSome (file_named n fs)) where
  abbrev pub of_files : System
  of_files = record s { files = fs }

  pub files_change : IsSound s → AreFiles fs → IsSound of_files
  files_change h files = sound_of_files s fs h files (λ i d within. let k = h.entries.each i d within in stays _ k.file)

few_files : (o : Option File) (n long : ℕ) → long + one_if (is_some o) ≡ n + 1 → (is_none o && nat_le FILES_LIMIT n) ≡ false → n ≤ FILES_LIMIT → long ≤ FILES_LIMIT
few_files None n long h room few = omega (arith, h, at_most 4095 n room)
few_files (Some f) n long h room few = omega (arith, h, few)

pub appended_sound : (before s : System) (name : FileName) (more : List ℕ) → IsSound s → s.files ≡ before.files → append_refusal before name more ≡ None → IsSound (appended s name more).system
unfolding Below
appended_sound before s name more h same none =
    let full : Bool = is_spool_full name (length more) before.files in
    let refused = none_first (refused_as_named name before.entries) (refused_where full SpoolFull ∷ []) none in
    let room : full ≡ false = not_refused full SpoolFull (none_first (refused_where full SpoolFull) [] refused.1).0 in
    let here : is_spool_full name (length more) s.files ≡ false = subst (λ fs. is_spool_full name (length more) fs ≡ false) (sym same) room in
    let file : File = record { name = name; bytes = bytes_of name s.files ++ more } in
    let long = length-append (bytes_of name s.files) more in
    let sizes = or_false_left (nat_lt FILE_LIMIT (length (bytes_of name s.files) + length more) || nat_lt SPOOL_LIMIT (spooled s.files + length more)) (is_none (file_named name s.files) && nat_le FILES_LIMIT (length s.files)) here in
    let one = at_most FILE_LIMIT (length (bytes_of name s.files) + length more) (or_false_left _ _ sizes) in
    let all = at_most SPOOL_LIMIT (spooled s.files + length more) (or_false_right (nat_lt FILE_LIMIT (length (bytes_of name s.files) + length more)) (nat_lt SPOOL_LIMIT (spooled s.files + length more)) sizes) in
    let new = or_false_right (nat_lt FILE_LIMIT (length (bytes_of name s.files) + length more) || nat_lt SPOOL_LIMIT (spooled s.files + length more)) (is_none (file_named name s.files) && nat_le FILES_LIMIT (length s.files)) here in
    let pairs = pairs_of Below s.files h.files.order in
    let grown = grows file s.files pairs in
    files_change s (with_file file s.files) (λ n k. still_there n file s.files k) h (record {
      few = few_files (file_named name s.files) (length s.files) (length (with_file file s.files)) grown.long new h.files.few;
      each = all_with (λ (f : File). length f.bytes ≤ FILE_LIMIT) file s.files (omega (arith, long, one)) h.files.each;
      total = omega (arith, grown.bytes, long, all);
      order = all_pairs_of Below (with_file file s.files) (order_with file s.files pairs);
    })
