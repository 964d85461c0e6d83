-- Each reader of a field reads the field's spelling.
use Rattle.std.proofs.Common.{◌≡◌, ℕ, zero, suc, ◌+◌, ◌-◌, ◌*◌, ◌/◌, ◌%◌, ◌^◌, ◌<◌, ◌≤◌, min, ◌&&◌, Bool, true, false, cond, eqb, List, [], ◌∷◌, ◌++◌, length, Option, Some, None, refl, sym, ap, ◌∙◌, arith, lit<, leb-true, le-leb}
use Rattle.std.proofs.lemmas.Bool.Decides.{nat_tests}
use Rattle.std.proofs.Math.Nat.{pow-suc, one-le-pow}
use Rattle.std.specs.List.{AllByRecursion, list_all}
use Rattle.qm_kinds.specs.Text.{is_name_byte}
use Rattle.qm_kinds.specs.declared.form.CharacteristicSet.{CharacteristicSet}
use Rattle.qm_kinds.specs.declared.moment.TheConstants.{LAST_MOMENT}
use Rattle.qm_bytes.specs.Reading.{Reader, ◌>>=◌, pure, byte_where, between, name_bytes_at, bytes_at, number_up_to, number_at, truth_at, optional_at, list_at, name_at, mark_at, long_bytes_at, file_name_at, set_at, moment_at}
use Rattle.qm_bytes.specs.Laws.{Spells, IsReader}
use Rattle.qm_bytes.specs.Spelling.{each, low_first, byte, truth, optional, list, short_bytes, long_bytes, file_name, set, moment, IsName, IsMark, AreBytes, AreLongBytes, IsMoment, IsSet, AllOf, IsList, IsFileName}
use Rattle.qm_bytes.proofs.Readers.{Then, Made, Last, Passes, made, after, last, said, byte_reader, repeat_reader}
use Rattle.qm_bytes.proofs.Products.{◌&◌, ◌⊗◌, ends, of_fields}

-- ---- what lies between

and_left : (a b : Bool) → a && b ≡ true → a ≡ true
and_left true b h = refl
and_left false b h = absurd cc

and_right : (a b : Bool) → a && b ≡ true → b ≡ true
and_right true b h = h
and_right false b h = absurd cc

pub passes_between : (low high b : ℕ) → low ≤ b → b ≤ high → between low high b ≡ true
passes_between low high b l h = rw (le-leb low b l, le-leb b high h) refl

pub lies_between : (low high b : ℕ) → between low high b ≡ true → (low ≤ b) × (b ≤ high)
lies_between low high b h = (leb-true low b (and_left _ _ h), leb-true b high (and_right _ _ h))

-- ---- numbers

bound_of_rest : (count limit low : ℕ) → limit < 256 ^ suc count → (limit - low) / 256 < 256 ^ count
bound_of_rest count limit low h = let split = pow-suc 256 count in omega (arith, split, h)

low_of : (limit low high : ℕ) → between 0 (min limit 255) low ≡ true → high ≤ (limit - low) / 256
    → (low + 256 * high ≤ limit) × ((low + 256 * high) % 256 ≡ low) × ((low + 256 * high) / 256 ≡ high)
low_of limit low high a b =
    let small = (lies_between 0 (min limit 255) low a).1 in
    (omega (arith, small, b), omega (arith, small), omega (arith, small))

pub parts_of : (limit n : ℕ) → n ≤ limit
    → (between 0 (min limit 255) (n % 256) ≡ true) × (n / 256 ≤ (limit - n % 256) / 256) × (n ≡ n % 256 + 256 * (n / 256))
parts_of limit n le =
    (passes_between 0 (min limit 255) (n % 256) (omega arith) (omega (arith, le)), omega (arith, le), omega arith)

pub number_up_to_reader : (count limit : ℕ) → limit < 256 ^ count
    → IsReader (Spells (λ n. n ≤ limit) (low_first count)) (number_up_to count limit)
unfolding number_up_to
number_up_to_reader zero limit h =
    said (made 0) (λ n text s. record { fits = omega (arith, s.same); is = s.nothing }) (λ n text s. record { same = omega (arith, s.fits); nothing = s.is })
number_up_to_reader (suc count) limit h =
    said (after (byte_reader (between 0 (min limit 255)) 0 (passes_between 0 (min limit 255) 0 (omega arith) (omega arith))) (λ low fits. last (number_up_to_reader count ((limit - low) / 256) (bound_of_rest count limit low h))))
    (λ n text s. let p = low_of limit s.first s.next.first s.fits s.next.fits in
    rw s.next.same (record { fits = p.0; is = rw (p.1, p.2, s.parts, s.next.parts) refl }))
    (λ n text s. let p = parts_of limit n s.fits in
    record { first = n % 256; fits = p.0; others = low_first count (n / 256); next = record { first = n / 256; fits = p.1; same = p.2; parts = refl }; parts = s.is })

-- ---- a value told by a byte

-- codes of the values of a type, from one number to another
pub record IsCoded {T : Type 0} (test : ℕ → Bool) (code : T → ℕ) (coded : ℕ → T) : Type 0 where
  pub back : (b : ℕ) → test b ≡ true → code (coded b) ≡ b
  pub again : (x : T) → coded (code x) ≡ x
  pub passes : (x : T) → test (code x) ≡ true

pub coded_reader : {T : Type 0} (test : ℕ → Bool) (code : T → ℕ) (coded : ℕ → T) (some : T) → IsCoded test code coded
    → IsReader (Spells (λ x. Unit {0}) (λ x. code x ∷ [])) (byte_where test >>= λ b. pure (coded b))
coded_reader test code coded some c =
    said (last (byte_reader test (code some) (c.passes some)))
    (λ x text h. record { fits = tt; is = h.parts ∙ ap (λ b. b ∷ []) (sym (ap code h.same ∙ c.back h.first h.fits)) })
    (λ x text h. record { first = code x; fits = c.passes x; same = sym (c.again x); parts = h.is })

truth_coded : IsCoded (between 0 1) (λ b. cond b 1 0) (λ b. eqb b 1)
truth_coded = record {
  back = truth_back;
  again = λ x. elim x as (λ y. eqb (cond y 1 0) 1 ≡ y) [ true ↦ refl | false ↦ refl ];
  passes = λ x. elim x as (λ y. between 0 1 (cond y 1 0) ≡ true) [ true ↦ refl | false ↦ refl ];
} where
  truth_back : (b : ℕ) → between 0 1 b ≡ true → cond (eqb b 1) 1 0 ≡ b
  truth_back b h = grind (arith, nat_tests)

pub truth_reader : IsReader (Spells (λ x. Unit {0}) truth) truth_at
unfolding truth_at
truth_reader =
    said (coded_reader (between 0 1) (λ b. cond b 1 0) (λ b. eqb b 1) true truth_coded)
    (λ x text h. record { fits = tt; is = h.is ∙ same x })
    (λ x text h. record { fits = tt; is = h.is ∙ sym (same x) })
  where
    same : (x : Bool) → byte (cond x 1 0) ≡ truth x
    same true = refl
    same false = refl

-- ---- what need not be there

abbrev pub Maybe : {A : Type 0} → (A → Type 0) → (A → List ℕ) → Bool → Option A → List ℕ → Type 0
Maybe Fits spelling true = Made None
Maybe Fits spelling false = Last Fits spelling (λ x. Some x)

maybe_reader : {A : Type 0} {Fits : A → Type 0} {spelling : A → List ℕ} {read : Reader A} → IsReader (Spells Fits spelling) read
    → (none : Bool) → IsReader (Maybe Fits spelling none) (cond none (pure None) (read >>= λ x. pure (Some x)))
maybe_reader r true = made None
maybe_reader r false = last r

optional_to : {A : Type 0} (Fits : A → Type 0) (spelling : A → List ℕ) (b : ℕ) (o : Option A) (others text : List ℕ) → b ≤ 1
    → Maybe Fits spelling (eqb b 0) o others → text ≡ b ∷ others → Spells (AllOf Fits) (optional spelling) o text
optional_to Fits spelling zero o others text le h e = rw h.same (record { fits = tt; is = rw (e, h.nothing) refl })
optional_to Fits spelling (suc zero) o others text le h e = rw h.same (record { fits = h.fits; is = rw (e, h.parts) refl })
optional_to Fits spelling (suc (suc b)) o others text le h e = absurd (omega (arith, le))

optional_from : {A : Type 0} (Fits : A → Type 0) (spelling : A → List ℕ) (o : Option A) (text : List ℕ)
    → Spells (AllOf Fits) (optional spelling) o text
    → Then (Passes (between 0 1)) byte (λ b. Maybe Fits spelling (eqb b 0)) o text
optional_from Fits spelling None text s =
    record { first = 0; fits = refl; others = []; next = record { same = refl; nothing = refl }; parts = s.is }
optional_from Fits spelling (Some x) text s =
    record { first = 1; fits = refl; others = spelling x; next = record { first = x; fits = s.fits; same = refl; parts = refl }; parts = s.is }

pub optional_reader : {A : Type 0} {Fits : A → Type 0} {spelling : A → List ℕ} {read : Reader A}
    → IsReader (Spells Fits spelling) read → IsReader (Spells (AllOf Fits) (optional spelling)) (optional_at read)
unfolding optional_at
optional_reader {Fits = Fits} {spelling = spelling} r =
    said (after (byte_reader (between 0 1) 0 refl) (λ b fits. maybe_reader r (eqb b 0)))
    (λ o text h. optional_to Fits spelling h.first o h.others text (lies_between 0 1 h.first h.fits).1 h.next h.parts)
    (λ o text s. optional_from Fits spelling o text s)

-- ---- lists

pub number_reader : (count : ℕ) → IsReader (Spells (λ n. n ≤ 256 ^ count - 1) (low_first count)) (number_at count)
number_reader count =
    number_up_to_reader count (256 ^ count - 1) (let some = one-le-pow count 256 (omega arith) in omega (arith, some))

pub list_reader : {A : Type 0} {Fits : A → Type 0} {spelling : A → List ℕ} {read : Reader A}
    → IsReader (Spells Fits spelling) read → IsReader (Spells (IsList Fits) (list spelling)) (list_at read)
unfolding list_at
list_reader {Fits = Fits} {spelling = spelling} r =
    said (after (number_reader 2) (λ count fits. repeat_reader r count))
    (λ xs text h. record { fits = record { few = omega (arith, h.fits, h.next.fits.count_is); each = h.next.fits.all }; is = h.parts ∙ rw (h.next.is, h.next.fits.count_is) refl })
    (λ xs text s. record { first = length xs; fits = omega (arith, s.fits.few); others = each spelling xs; next = record { fits = record { count_is = refl; all = s.fits.each }; is = refl }; parts = s.is })

-- ---- texts

each_byte : (xs : List ℕ) → each byte xs ≡ xs
each_byte [] = refl
each_byte (x ∷ xs) = ap (λ (ys : List ℕ). x ∷ ys) (each_byte xs)

all_pass : (test : ℕ → Bool) (xs : List ℕ) → AllByRecursion (Passes test) xs → list_all test xs ≡ true
all_pass test [] h = refl
all_pass test (x ∷ xs) h = rw (h.0, all_pass test xs h.1) refl

each_passes : (test : ℕ → Bool) (xs : List ℕ) → list_all test xs ≡ true → AllByRecursion (Passes test) xs
each_passes test [] h = tt
each_passes test (x ∷ xs) h = (and_left _ _ h, each_passes test xs (and_right _ _ h))

all_bytes : (xs : List ℕ) → AllByRecursion (Passes (between 0 255)) xs → AreBytes xs
all_bytes [] h = tt
all_bytes (x ∷ xs) h = (omega (arith, (lies_between 0 255 x h.0).1), all_bytes xs h.1)

bytes_pass : (xs : List ℕ) → AreBytes xs → AllByRecursion (Passes (between 0 255)) xs
bytes_pass [] h = tt
bytes_pass (x ∷ xs) h = (passes_between 0 255 x (omega arith) (omega (arith, h.0)), bytes_pass xs h.1)

pub name_reader : IsReader (Spells IsName short_bytes) name_at
unfolding name_at name_bytes_at
name_reader =
    said (after (byte_reader (between 1 39) 1 refl) (λ count fits. repeat_reader (byte_reader is_name_byte 65 refl) count))
    (λ xs text h. let within = lies_between 1 39 h.first h.fits in
    record {
      fits = record { some = omega (arith, within.0, h.next.fits.count_is); few = omega (arith, within.1, h.next.fits.count_is); lawful = all_pass is_name_byte xs h.next.fits.all };
      is = h.parts ∙ rw (h.next.is, each_byte xs, h.next.fits.count_is) refl;
    })
    (λ xs text s. record {
      first = length xs;
      fits = passes_between 1 39 (length xs) s.fits.some s.fits.few;
      others = xs;
      next = record { fits = record { count_is = refl; all = each_passes is_name_byte xs s.fits.lawful }; is = sym (each_byte xs) };
      parts = s.is;
    })

pub mark_reader : IsReader (Spells IsMark short_bytes) mark_at
unfolding mark_at bytes_at
mark_reader =
    said (after (byte_reader (between 0 255) 0 refl) (λ count fits. repeat_reader (byte_reader (between 0 255) 0 refl) count))
    (λ xs text h. let within = lies_between 0 255 h.first h.fits in
    record {
      fits = record { few = omega (arith, within.1, h.next.fits.count_is); all = all_bytes xs h.next.fits.all };
      is = h.parts ∙ rw (h.next.is, each_byte xs, h.next.fits.count_is) refl;
    })
    (λ xs text s. record {
      first = length xs;
      fits = passes_between 0 255 (length xs) (omega arith) s.fits.few;
      others = xs;
      next = record { fits = record { count_is = refl; all = bytes_pass xs s.fits.all }; is = sym (each_byte xs) };
      parts = s.is;
    })

pub long_bytes_reader : IsReader (Spells AreLongBytes long_bytes) long_bytes_at
unfolding long_bytes_at bytes_at
long_bytes_reader =
    said (after (number_reader 4) (λ count fits. repeat_reader (byte_reader (between 0 255) 0 refl) count))
    (λ xs text h.
    record {
      fits = record { few = omega (arith, h.fits, h.next.fits.count_is); all = all_bytes xs h.next.fits.all };
      is = h.parts ∙ rw (h.next.is, each_byte xs, h.next.fits.count_is) refl;
    })
    (λ xs text s. record {
      first = length xs;
      fits = omega (arith, s.fits.few);
      others = xs;
      next = record { fits = record { count_is = refl; all = bytes_pass xs s.fits.all }; is = sym (each_byte xs) };
      parts = s.is;
    })

-- ---- file names, sets and moments

pub file_name_reader : IsReader (Spells IsFileName file_name) file_name_at
unfolding file_name_at
file_name_reader =
    of_fields (λ f. f.name & f.extension)
    (name_reader ⊗ λ name name_fits. ends (optional_reader name_reader) (λ extension fits. record { name = name_fits; extension = fits }))
    (λ f. refl) (λ p fits. refl) (λ f fits. fits.name & fits.extension)

abbrev set_of : ℕ → CharacteristicSet
set_of n = record { 0 = n }

halves_of : (low high : ℕ) → low < 2 ^ 64 → ((low + 2 ^ 64 * high) % 2 ^ 64 ≡ low) × ((low + 2 ^ 64 * high) / 2 ^ 64 ≡ high)
halves_of low high h = (omega arith, omega arith)

set_text : (low high : ℕ) → low < 2 ^ 64 → low_first 8 low ++ low_first 8 high ≡ set (set_of (low + 2 ^ 64 * high))
set_text low high h =
    let halves = halves_of low high h in
    ap (λ n. low_first 8 n ++ low_first 8 high) (sym halves.0)
    ∙ ap (λ n. low_first 8 ((low + 2 ^ 64 * high) % 2 ^ 64) ++ low_first 8 n) (sym halves.1)

set_to : (n : ℕ) → n ≡ n % 2 ^ 64 + 2 ^ 64 * (n / 2 ^ 64)
set_to n = omega arith

pub set_reader : IsReader (Spells IsSet set) set_at
unfolding set_at
set_reader =
    of_fields
    (λ s. s.0 % 2 ^ 64 & s.0 / 2 ^ 64)
    (number_reader 8 ⊗ λ low low_fits. ends (number_reader 8) (λ high fits. omega (arith, low_fits, fits)))
    (λ s. ap set_of (sym (set_to s.0)))
    (λ p fits. set_text p.0 p.1 (omega (arith, fits.0)))
    (λ s fits. omega arith & omega (arith, fits))

pub moment_reader : IsReader (Spells IsMoment moment) moment_at
unfolding moment_at
moment_reader = number_up_to_reader 8 LAST_MOMENT (lit< tt)
