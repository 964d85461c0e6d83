-- Readers that are put together from readers.
use Rattle.std.proofs.Common.{◌≡◌, ℕ, zero, suc, Bool, true, false, cond, List, [], ◌∷◌, ◌++◌, length, Result, Ok, Err, refl, sym, ap, ◌∙◌, append_assoc, arith, append-nil}
use Rattle.qm_bytes.specs.Reading.{Reader, ◌>>=◌, onward, pure, byte_where, repeat_at}
use Rattle.qm_bytes.specs.Laws.{Spells, Stops, IsReader}
use Rattle.qm_bytes.specs.Spelling.{each, byte}
use Rattle.std.specs.List.{AllByRecursion}

-- a first field, and then what follows it
pub record Then {A T : Type 0} (Fits : A → Type 0) (spelling : A → List ℕ) (Next : A → T → List ℕ → Type 0) (value : T)
    (text : List ℕ) : Type 0 where
  pub first : A
  pub fits : Fits first
  pub others : List ℕ
  pub next : Next first value others
  pub parts : text ≡ spelling first ++ others

-- the value is made of the fields before
pub record Made {T : Type 0} (made value : T) (text : List ℕ) : Type 0 where
  pub same : value ≡ made
  pub nothing : text ≡ []

found_parts : {A B : Type 0} (found : Result (A × List ℕ) ℕ) (next : A → Reader B) (y : B × List ℕ) → onward found next ≡ Ok y
    → (x : A × List ℕ) × (found ≡ Ok x) × (next x.0 x.1 ≡ Ok y)
found_parts (Ok x) next y e = (x, refl, e)
found_parts (Err left) next y e = absurd cc

data Failed {A B : Type 0} (found : Result (A × List ℕ) ℕ) (next : A → Reader B) (left : ℕ) : Type 0 where
  at_once : found ≡ Err left → Failed found next left
  later : (x : A × List ℕ) → found ≡ Ok x → next x.0 x.1 ≡ Err left → Failed found next left

failed_parts : {A B : Type 0} (found : Result (A × List ℕ) ℕ) (next : A → Reader B) (left : ℕ) → onward found next ≡ Err left
    → Failed found next left
failed_parts (Ok x) next left e = later x refl e
failed_parts (Err other) next left e = at_once (let same : other ≡ left = cc in ap (λ n. Err n) same)

abbrev ok : {X : Type 0} → X → Result X ℕ
ok x = Ok x

ok_is : {X : Type 0} (x y : X) → ok x ≡ ok y → x ≡ y
ok_is x y e = cc

abbrev pub found : {A : Type 0} → A → List ℕ → Result (A × List ℕ) ℕ
found x rest = Ok (x, rest)

pub same_value : {A : Type 0} (x y : A) (a b : List ℕ) → found x a ≡ found y b → x ≡ y
same_value {A} x y a b e = ap (λ (p : A × List ℕ). p.0) (ok_is (x, a) (y, b) e)

pub same_rest : {A : Type 0} (x y : A) (a b : List ℕ) → found x a ≡ found y b → a ≡ b
same_rest {A} x y a b e = ap (λ (p : A × List ℕ). p.1) (ok_is (x, a) (y, b) e)

-- a value that is made takes no byte
pub made : {T : Type 0} (x : T) → IsReader (Made x) (pure x)
made x = record {
  value = x;
  text = [];
  spelled = record { same = refl; nothing = refl };
  takes = λ bytes y rest e. ([], record { same = sym (same_value x y bytes rest e); nothing = refl }, same_rest x y bytes rest e);
  again = λ y front rest s. rw (s.nothing, s.same) refl;
  stops = λ bytes left e. absurd cc;
}

-- ---- a field, and then what follows it

then_stops : {A T : Type 0} (Fits : A → Type 0) (spelling : A → List ℕ) (read : Reader A) (Next : A → T → List ℕ → Type 0)
    (next : A → Reader T)
    → IsReader (Spells Fits spelling) read → ((a : A) → Fits a → IsReader (Next a) (next a))
    → (bytes : List ℕ) (left : ℕ) → Failed (read bytes) next left → Stops (Then Fits spelling Next) (read >>= next) bytes left
then_stops Fits spelling read Next next first second bytes left (at_once e) =
    let s = first.stops bytes left e in
    let others = second s.value s.begins.fits in
    record {
      front = s.front;
      behind = s.behind;
      parts = s.parts;
      place = s.place;
      value = others.value;
      more = s.more ++ others.text;
      begins = record { first = s.value; fits = s.begins.fits; others = others.text; next = others.spelled; parts = sym (append_assoc s.front s.more others.text) ∙ ap (λ (x : List ℕ). x ++ others.text) s.begins.is };
      ends = λ b bs more is. rw (s.ends b bs more is) refl;
    }
then_stops Fits spelling read Next next first second bytes left (later x e f) =
    let t = first.takes bytes x.0 x.1 e in
    let others = second x.0 t.1.fits in
    let s = others.stops x.1 left f in
    record {
      front = t.0 ++ s.front;
      behind = s.behind;
      parts = t.2 ∙ ap (λ (y : List ℕ). t.0 ++ y) s.parts ∙ sym (append_assoc t.0 s.front s.behind);
      place = s.place;
      value = s.value;
      more = s.more;
      begins = record { first = x.0; fits = t.1.fits; others = s.front ++ s.more; next = s.begins; parts = append_assoc t.0 s.front s.more ∙ ap (λ (y : List ℕ). y ++ (s.front ++ s.more)) t.1.is };
      ends = λ b bs more is. ap (λ (y : List ℕ). onward (read y) next) (append_assoc t.0 s.front (b ∷ more))
          ∙ rw (first.again x.0 t.0 (s.front ++ b ∷ more) t.1) (s.ends b bs more is);
    }

then_takes : {A T : Type 0} (Fits : A → Type 0) (spelling : A → List ℕ) (read : Reader A) (Next : A → T → List ℕ → Type 0)
    (next : A → Reader T)
    → IsReader (Spells Fits spelling) read → ((a : A) → Fits a → IsReader (Next a) (next a))
    → (bytes : List ℕ) (y : T) (rest : List ℕ) → onward (read bytes) next ≡ Ok (y, rest)
    → (front : List ℕ) × Then Fits spelling Next y front × (bytes ≡ front ++ rest)
then_takes Fits spelling read Next next first second bytes y rest e =
    let p = found_parts (read bytes) next (y, rest) e in
    let t = first.takes bytes p.0.0 p.0.1 p.1 in
    let u = (second p.0.0 t.1.fits).takes p.0.1 y rest p.2 in (
      spelling p.0.0 ++ u.0,
      record { first = p.0.0; fits = t.1.fits; others = u.0; next = u.1; parts = refl },
      t.2 ∙ ap (λ (x : List ℕ). x ++ p.0.1) t.1.is ∙ ap (λ (x : List ℕ). spelling p.0.0 ++ x) u.2
          ∙ sym (append_assoc (spelling p.0.0) u.0 rest),
    )

then_again : {A T : Type 0} (Fits : A → Type 0) (spelling : A → List ℕ) (read : Reader A) (Next : A → T → List ℕ → Type 0)
    (next : A → Reader T)
    → IsReader (Spells Fits spelling) read → ((a : A) → Fits a → IsReader (Next a) (next a))
    → (y : T) (front rest : List ℕ) → Then Fits spelling Next y front → onward (read (front ++ rest)) next ≡ Ok (y, rest)
then_again Fits spelling read Next next first second y front rest s =
    let regrouped : front ++ rest ≡ spelling s.first ++ (s.others ++ rest) =
    ap (λ (x : List ℕ). x ++ rest) s.parts ∙ append_assoc (spelling s.first) s.others rest in
    let found = first.again s.first (spelling s.first) (s.others ++ rest) (record { fits = s.fits; is = refl }) in
    ap (λ (x : List ℕ). onward (read x) next) regrouped ∙ rw found ((second s.first s.fits).again y s.others rest s.next)

pub after : {A T : Type 0} {Fits : A → Type 0} {spelling : A → List ℕ} {read : Reader A} {Next : A → T → List ℕ → Type 0}
    {next : A → Reader T}
    → IsReader (Spells Fits spelling) read → ((a : A) → Fits a → IsReader (Next a) (next a))
    → IsReader (Then Fits spelling Next) (read >>= next)
after {A} {T} {Fits} {spelling} {read} {Next} {next} first second =
    let others = second first.value first.spelled.fits in
    record {
      value = others.value;
      text = spelling first.value ++ others.text;
      spelled = record { first = first.value; fits = first.spelled.fits; others = others.text; next = others.spelled; parts = refl };
      takes = then_takes Fits spelling read Next next first second;
      again = then_again Fits spelling read Next next first second;
      stops = λ bytes left e. then_stops Fits spelling read Next next first second bytes left (failed_parts (read bytes) next left e);
    }

-- ---- the same reader of a spelling that is said in other words

pub said : {T : Type 0} {Told Spelled : T → List ℕ → Type 0} {read : Reader T} → IsReader Told read
    → ((x : T) (text : List ℕ) → Told x text → Spelled x text) → ((x : T) (text : List ℕ) → Spelled x text → Told x text)
    → IsReader Spelled read
said {T} {Told} {Spelled} {read} r to from = record {
  value = r.value;
  text = r.text;
  spelled = to r.value r.text r.spelled;
  takes = λ bytes x rest e. let t = r.takes bytes x rest e in (t.0, to x t.0 t.1, t.2);
  again = λ x front rest s. r.again x front rest (from x front s);
  stops = λ bytes left e.
      let s = r.stops bytes left e in
      record { front = s.front; behind = s.behind; parts = s.parts; place = s.place; value = s.value; more = s.more; begins = to s.value (s.front ++ s.more) s.begins; ends = s.ends };
}

-- ---- the last field, and what is made of it

pub record Last {A T : Type 0} (Fits : A → Type 0) (spelling : A → List ℕ) (made_of : A → T) (value : T) (text : List ℕ)
    : Type 0 where
  pub first : A
  pub fits : Fits first
  pub same : value ≡ made_of first
  pub parts : text ≡ spelling first

pub last : {A T : Type 0} {Fits : A → Type 0} {spelling : A → List ℕ} {read : Reader A} {made_of : A → T}
    → IsReader (Spells Fits spelling) read → IsReader (Last Fits spelling made_of) (read >>= λ x. pure (made_of x))
last {made_of = made_of} r =
    said (after r (λ x fits. made (made_of x)))
    (λ y text h. record { first = h.first; fits = h.fits; same = h.next.same; parts = h.parts ∙ rw h.next.nothing (append-nil _) })
    (λ y text h. record { first = h.first; fits = h.fits; others = []; next = record { same = h.same; nothing = refl }; parts = h.parts ∙ sym (append-nil _) })

-- ---- a byte that passes

pub data Chosen {A : Type 0} (b : Bool) (x y z : A) : Type 0 where
  yes : b ≡ true → x ≡ z → Chosen b x y z
  no : b ≡ false → y ≡ z → Chosen b x y z

pub chosen : {A : Type 0} (b : Bool) (x y z : A) → cond b x y ≡ z → Chosen b x y z
chosen true x y z e = yes refl e
chosen false x y z e = no refl e

abbrev pub Passes : (ℕ → Bool) → ℕ → Type 0
Passes test b = test b ≡ true

byte_takes : (test : ℕ → Bool) (bytes : List ℕ) (x : ℕ) (rest : List ℕ) → byte_where test bytes ≡ Ok (x, rest)
    → (front : List ℕ) × Spells (Passes test) byte x front × (bytes ≡ front ++ rest)
byte_takes test [] x rest e = absurd cc
byte_takes test (b ∷ bs) x rest e =
    elim (chosen (test b) (Ok (b, bs)) (Err (suc (length bs))) (Ok (x, rest)) e) [
      | yes passes same ↦
          let value : b ≡ x = same_value b x bs rest same in
          (b ∷ [], record { fits = rw (← value) passes; is = ap byte value }, ap (λ (r : List ℕ). b ∷ r) (same_rest b x bs rest same))
      | no fails same ↦ absurd cc
    ]

byte_stops : (test : ℕ → Bool) (some : ℕ) → test some ≡ true → (bytes : List ℕ) (left : ℕ) → byte_where test bytes ≡ Err left
    → Stops (Spells (Passes test) byte) (byte_where test) bytes left
byte_stops test some passes [] left e = record {
  front = [];
  behind = [];
  parts = refl;
  place = cc;
  value = some;
  more = some ∷ [];
  begins = record { fits = passes; is = refl };
  ends = λ b bs others is. absurd cc;
}
byte_stops test some passes (b ∷ bs) left e =
    elim (chosen (test b) (Ok (b, bs)) (Err (suc (length bs))) (Err left) e) [
      | yes good same ↦ absurd cc
      | no fails same ↦ record {
        front = [];
        behind = b ∷ bs;
        parts = refl;
        place = cc;
        value = some;
        more = some ∷ [];
        begins = record { fits = passes; is = refl };
        ends = λ c cs others is. let head : b ≡ c = cc in rw (← head, fails) refl;
      }
    ]

-- a test that some byte passes
pub byte_reader : (test : ℕ → Bool) (some : ℕ) → test some ≡ true → IsReader (Spells (Passes test) byte) (byte_where test)
byte_reader test some passes = record {
  value = some;
  text = some ∷ [];
  spelled = record { fits = passes; is = refl };
  takes = byte_takes test;
  again = λ b front rest s. rw (s.is, s.fits) refl;
  stops = byte_stops test some passes;
}

-- ---- several in a row

pub record AreSo {A : Type 0} (Fits : A → Type 0) (count : ℕ) (xs : List A) : Type 0 where
  pub count_is : length xs ≡ count
  pub all : AllByRecursion Fits xs

none_is : {A : Type 0} (Fits : A → Type 0) (spelling : A → List ℕ) (xs : List A) (text : List ℕ)
    → Spells (AreSo Fits 0) (each spelling) xs text → Made [] xs text
none_is Fits spelling [] text s = record { same = refl; nothing = s.is }
none_is Fits spelling (x ∷ xs) text s = absurd (omega (arith, s.fits.count_is))

one_more : {A : Type 0} (Fits : A → Type 0) (spelling : A → List ℕ) (count : ℕ) (xs : List A) (text : List ℕ)
    → Spells (AreSo Fits (suc count)) (each spelling) xs text
    → Then Fits spelling (λ x. Last (AreSo Fits count) (each spelling) (λ others. x ∷ others)) xs text
one_more Fits spelling count [] text s = absurd (omega (arith, s.fits.count_is))
one_more Fits spelling count (x ∷ xs) text s = record {
  first = x;
  fits = s.fits.all.0;
  others = each spelling xs;
  next =
      record { first = xs; fits = record { count_is = omega (arith, s.fits.count_is); all = s.fits.all.1 }; same = refl; parts = refl };
  parts = s.is;
}

pub repeat_reader : {A : Type 0} {Fits : A → Type 0} {spelling : A → List ℕ} {read : Reader A}
    → IsReader (Spells Fits spelling) read → (count : ℕ)
    → IsReader (Spells (AreSo Fits count) (each spelling)) (repeat_at read count)
unfolding repeat_at
repeat_reader {Fits = Fits} {spelling = spelling} r zero =
    said (made []) (λ x text s. record { fits = record { count_is = ap length s.same; all = rw s.same tt }; is = rw (s.nothing, s.same) refl }) (none_is Fits spelling)
repeat_reader {Fits = Fits} {spelling = spelling} r (suc count) =
    said (after r (λ x fits. last (repeat_reader r count)))
    (λ x text h. rw h.next.same (record { fits = record { count_is = ap suc h.next.fits.count_is; all = (h.fits, h.next.fits.all) }; is = rw (h.parts, h.next.parts) refl }))
    (one_more Fits spelling count)
