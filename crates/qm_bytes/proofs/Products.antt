-- A format of several fields: the readers of the fields, one behind the other, read what the fields spell.
use Rattle.std.proofs.Common.{◌≡◌, ℕ, List, [], ◌++◌, refl, sym, ap, ◌∙◌}
use Rattle.qm_bytes.specs.Reading.{Reader, ◌>>=◌, pure}
use Rattle.qm_bytes.specs.Laws.{Spells, IsReader}
use Rattle.qm_bytes.proofs.Readers.{made, after, last, said}

infixr 10 ◌&◌
abbrev pub ◌&◌ : {A B : Type 0} → A → B → A × B
a & b = (a, b)

-- a lawful value that is made of fields that fit, and the fields' text
pub record Composed {A T : Type 0} (Fit : A → Type 0) (spelling : A → List ℕ) (make : A → T) (Lawful : T → Type 0) (value : T)
    (text : List ℕ) : Type 0 where
  pub fields : A
  pub fit : Fit fields
  pub same : value ≡ make fields
  pub is : text ≡ spelling fields
  pub lawful : Lawful value

-- behind the last field nothing stands
pub composed : {T : Type 0} {Lawful : T → Type 0} {value : T} → Lawful value
    → IsReader (Composed (λ (none : Unit {0}). Unit {0}) (λ none. []) (λ none. value) Lawful) (pure value)
composed {value = value} lawful =
    said (made value)
    (λ x text h. record { fields = tt; fit = tt; same = h.same; is = h.nothing; lawful = rw h.same lawful })
    (λ x text h. record { same = h.same; nothing = h.is })

-- the last field, where its text is the last
pub ends : {A T : Type 0} {Fits : A → Type 0} {spelling : A → List ℕ} {read : Reader A} {make : A → T} {Lawful : T → Type 0}
    → IsReader (Spells Fits spelling) read → ((x : A) → Fits x → Lawful (make x))
    → IsReader (Composed Fits spelling make Lawful) (read >>= λ x. pure (make x))
ends reader lawful =
    said (last reader)
    (λ x text h. record { fields = h.first; fit = h.fits; same = h.same; is = h.parts; lawful = rw h.same (lawful h.first h.fits) })
    (λ x text h. record { first = h.fields; fits = h.fit; same = h.same; parts = h.is })

-- a field, and those behind it, which may hang on it
infixr 10 ◌⊗◌
pub ◌⊗◌ : {A B T : Type 0} {Fits : A → Type 0} {spelling : A → List ℕ} {read : Reader A}
    {Others : A → B → Type 0} {text : A → B → List ℕ} {make : A → B → T} {Lawful : T → Type 0} {next : A → Reader T}
    → IsReader (Spells Fits spelling) read → ((x : A) → Fits x → IsReader (Composed (Others x) (text x) (make x) Lawful) (next x))
    → IsReader
    (Composed (λ (p : A × B). Fits p.0 × Others p.0 p.1) (λ p. spelling p.0 ++ text p.0 p.1) (λ p. make p.0 p.1) Lawful)
    (read >>= next)
first ⊗ others =
    said (after first others)
    (λ y bytes h. record {
      fields = (h.first, h.next.fields);
      fit = (h.fits, h.next.fit);
      same = h.next.same;
      is = h.parts ∙ rw h.next.is refl;
      lawful = h.next.lawful;
    })
    (λ y bytes h. record {
      first = h.fields.0;
      fits = h.fit.0;
      others = _;
      next = record { fields = h.fields.1; fit = h.fit.1; same = h.same; is = refl; lawful = h.lawful };
      parts = h.is;
    })

-- a value that is made of its fields, and parted into them again
pub of_fields : {A T : Type 0} {Fit : A → Type 0} {text : A → List ℕ} {make : A → T} {Fits : T → Type 0} {spelling : T → List ℕ}
    {read : Reader T} (parts : T → A) → IsReader (Composed Fit text make Fits) read → ((x : T) → make (parts x) ≡ x)
    → ((fields : A) → Fit fields → text fields ≡ spelling (make fields)) → ((x : T) → Fits x → Fit (parts x))
    → IsReader (Spells Fits spelling) read
of_fields {spelling = spelling} parts reader again spelled fit =
    said reader
    (λ x bytes h. record { fits = h.lawful; is = h.is ∙ spelled h.fields h.fit ∙ ap spelling (sym h.same) })
    (λ x bytes s. record {
      fields = parts x;
      fit = fit x s.fits;
      same = sym (again x);
      is = s.is ∙ ap spelling (sym (again x)) ∙ sym (spelled (parts x) (fit x s.fits));
      lawful = s.fits;
    })
