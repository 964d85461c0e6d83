-- Records: what is read is spelled so, what is spelled so is read, and a fault is the first one.
use Rattle.std.proofs.Common.{◌≡◌, ℕ, suc, ◌+◌, ◌-◌, ◌^◌, ◌<◌, ◌≤◌, Bool, true, false, cond, eqb, List, [], ◌∷◌, ◌++◌, length, take, Option, None, Some, Result, Ok, Err, refl, sym, ap, subst, ◌∙◌, append_assoc, arith, lit<, IfOk, append-nil, take_at, length-append}
use Rattle.std.proofs.lemmas.Bool.Decides.{nat_tests}
use Rattle.qm_model.specs.Common.{LAST_MOMENT, Record, Body}
use Rattle.qm_bytes.specs.declared.fault.BadField.{BadField}
use Rattle.qm_bytes.specs.Reading.{Reader, ◌>>=◌, pure, byte_where, between, GivesKept}
use Rattle.qm_bytes.specs.Laws.{Spells, IsReader}
use Rattle.qm_bytes.specs.Spelling.{low_first, byte}
use Rattle.qm_bytes.proofs.Readers.{Passes, byte_reader, same_value, same_rest, found}
use Rattle.qm_bytes.proofs.Products.{◌&◌, ◌⊗◌, ends, of_fields}
use Rattle.qm_bytes.proofs.Fields.{lies_between, passes_between, number_up_to_reader}
use Rattle.qm_record.specs.declared.fault.RecordFault.{RecordFault}
use Rattle.qm_record.specs.declared.fault.RecordFault.TheVariants.{Bad, NoMemory}
use Rattle.qm_record.specs.declared.kind.RecordKind.{RecordKind}
use Rattle.qm_record.specs.Kinds.{number_of, is_row_kind}
use Rattle.qm_record.specs.Spelling.{body_parts, fields_in, text_of, record_text, HasSpelling}
use Rattle.qm_record.specs.Reading.{record_at, body_at, last_moment, last_node, ended, whole_at, left_by, completed, TellsWhole}
use Rattle.qm_record.specs.Faults.{Begins, IsFirstFault, IsRecord, IsRead}
use Rattle.qm_record.proofs.Bodies.{BodyFor, kind_in, body_reader, has_parts, row_by_kind}
use Rattle.qm_record.proofs.Numbers.{kind_reader}

limit_fits : (row : Bool) → cond row 0 LAST_MOMENT < 256 ^ 8
limit_fits true = lit< tt
limit_fits false = lit< tt

below_last : (row : Bool) (m : ℕ) → m ≤ cond row 0 LAST_MOMENT → (m ≤ LAST_MOMENT) × (row ≡ true → m ≡ 0)
below_last true m le = (omega (arith, le), λ h. omega (arith, le))
below_last false m le = (le, λ h. absurd cc)

below_node : (row : Bool) (n : ℕ) → n ≤ cond row 0 255 → (n < 2 ^ 8) × (row ≡ true → n ≡ 0)
below_node true n le = (omega (arith, le), λ h. omega (arith, le))
below_node false n le = (omega (arith, le), λ h. absurd cc)

within : (row : Bool) (m limit : ℕ) → m ≤ limit → (row ≡ true → m ≡ 0) → m ≤ cond row 0 limit
within true m limit le zero_in_row = omega (arith, zero_in_row refl)
within false m limit le zero_in_row = le

abbrev record_of : ℕ → ℕ → Body → Record
record_of m n b = record { moment = m; node = n; body = b }

-- the text of a body of a kind
whole_text : (m n : ℕ) (k : RecordKind) (o : Option (RecordKind × List ℕ)) → o ≡ Some (k, fields_in o)
    → 1 ∷ number_of k ∷ (low_first 8 m ++ n ∷ fields_in o) ≡ text_of m n o
unfolding kind_in
whole_text m n k None e = absurd cc
whole_text m n k (Some (other, text)) e = let same : other ≡ k = ap kind_in e in rw same refl

version_text : (version m n : ℕ) (k : RecordKind) (b : Body) → between 1 1 version ≡ true → BodyFor k b
    → version ∷ number_of k ∷ (low_first 8 m ++ n ∷ fields_in (body_parts b)) ≡ record_text (record_of m n b)
version_text version m n k b v fits =
    let one : version ≡ 1 = omega (arith, (lies_between 1 1 version v).0, (lies_between 1 1 version v).1) in
    rw one (whole_text m n k (body_parts b) fits.is)

record_fits : (m n : ℕ) (k : RecordKind) (b : Body) → m ≤ last_moment k → between 0 (last_node k) n ≡ true → BodyFor k b
    → HasSpelling (record_of m n b)
record_fits m n k b le between_nodes fits =
    let moments = below_last (is_row_kind k) m le in
    let nodes = below_node (is_row_kind k) n (lies_between 0 (last_node k) n between_nodes).1 in
    let row = row_by_kind b k _ fits.fits fits.is in
    record {
      moment_fits = moments.0;
      node_fits = nodes.0;
      body_fits = fits.fits;
      row_moment = λ h. moments.1 (sym row ∙ h);
      row_node = λ h. nodes.1 (sym row ∙ h);
    }

node_reader_of : (k : RecordKind) → IsReader (Spells (Passes (between 0 (last_node k))) byte) (byte_where (between 0 (last_node k)))
node_reader_of k = byte_reader (between 0 (last_node k)) 0 (passes_between 0 (last_node k) 0 (omega arith) (omega arith))

pub record_reader : IsReader (Spells HasSpelling record_text) record_at
unfolding record_at
record_reader =
    of_fields
    (λ r. 1 & kind_in (body_parts r.body) & r.moment & r.node & r.body)
    (byte_reader (between 1 1) 1 refl ⊗ λ version version_fits. kind_reader ⊗ λ k k_fits.
    number_up_to_reader 8 (last_moment k) (limit_fits (is_row_kind k)) ⊗ λ m m_fits. node_reader_of k ⊗ λ n n_fits.
    ends (body_reader k) (λ b b_fits. record_fits m n k b m_fits n_fits b_fits))
    (λ r. refl)
    (λ p fits. version_text p.0 p.1.1.0 p.1.1.1.0 p.1.0 p.1.1.1.1 fits.0 fits.1.1.1.1)
    (λ r fits.
    let is = has_parts r.body fits.body_fits in
    let k = kind_in (body_parts r.body) in
    let row = row_by_kind r.body k _ fits.body_fits is in
    let below = within (is_row_kind k) r.node 255 (omega (arith, fits.node_fits)) (λ h. fits.row_node (row ∙ h)) in
    refl
    & tt
    & within (is_row_kind k) r.moment LAST_MOMENT fits.moment_fits (λ h. fits.row_moment (row ∙ h))
    & passes_between 0 (last_node k) r.node (omega arith) below
    & record { fits = fits.body_fits; is = is })

-- ---- the whole

data Ending (read : Result (Record × List ℕ) ℕ) (result : Result Record ℕ) : Type 0 where
  whole : (r : Record) → read ≡ Ok (r, []) → result ≡ Ok r → Ending read result
  trailing : (r : Record) (b : ℕ) (bs : List ℕ) → read ≡ Ok (r, b ∷ bs) → result ≡ Err (suc (length bs)) → Ending read result
  stopped : (left : ℕ) → read ≡ Err left → result ≡ Err left → Ending read result

more_than_none : (n : ℕ) → eqb (suc n) 0 ≡ false
more_than_none n = grind (arith, nat_tests)

ending : (read : Result (Record × List ℕ) ℕ) → Ending read (ended read)
ending (Ok (r, [])) = whole r refl refl
ending (Ok (r, b ∷ bs)) = rw (more_than_none (length bs)) (trailing r b bs refl refl)
ending (Err left) = stopped left refl refl

abbrev spelled_whole : Record → List ℕ → Type 0
spelled_whole = Spells HasSpelling record_text

abbrev done : Record → Result Record ℕ
done r = Ok r

same_record : (x r : Record) → done x ≡ done r → x ≡ r
same_record x r e = cc

abbrev failed : ℕ → Result Record ℕ
failed left = Err left

same_left : (m n : ℕ) → failed m ≡ failed n → m ≡ n
same_left m n e = cc

read_parts : (bytes : List ℕ) (r : Record) (result : Result Record ℕ) → Ending (record_at bytes) result → result ≡ Ok r
    → spelled_whole r bytes
read_parts bytes r result (whole x read e) is =
    let t = record_reader.takes bytes x [] read in
    let same : x ≡ r = same_record x r (sym e ∙ is) in
    let all : bytes ≡ t.0 = t.2 ∙ append-nil t.0 in
    subst (λ (y : Record). spelled_whole y bytes) same (record { fits = t.1.fits; is = all ∙ t.1.is })
read_parts bytes r result (trailing x b bs read e) is = let both : Err (suc (length bs)) ≡ Ok r = sym e ∙ is in cc
read_parts bytes r result (stopped left read e) is = let both : Err left ≡ Ok r = sym e ∙ is in cc

pub read_is_spelled : (bytes : List ℕ) (r : Record) → whole_at bytes ≡ Ok r → Spells HasSpelling record_text r bytes
unfolding whole_at
read_is_spelled bytes r e = read_parts bytes r (ended (record_at bytes)) (ending (record_at bytes)) e

-- a record's spelling, whatever follows
again : (r : Record) (rest : List ℕ) → HasSpelling r → record_at (record_text r ++ rest) ≡ Ok (r, rest)
again r rest fits = record_reader.again r (record_text r) rest (record { fits = fits; is = refl })

alone : (r : Record) → HasSpelling r → record_at (record_text r) ≡ Ok (r, [])
alone r fits = ap record_at (sym (append-nil (record_text r))) ∙ again r [] fits

pub spelled_is_read : (r : Record) → HasSpelling r → whole_at (record_text r) ≡ Ok r
unfolding whole_at
spelled_is_read r fits = rw (alone r fits) refl

-- no spelling is a proper prefix of another
pub no_prefix : (a b : Record) (rest : List ℕ) → HasSpelling a → HasSpelling b → record_text b ≡ record_text a ++ rest
    → (b ≡ a) × (rest ≡ [])
no_prefix a b rest a_fits b_fits e =
    let both : found b [] ≡ found a rest = sym (alone b b_fits) ∙ ap record_at e ∙ again a rest a_fits in
    (same_value b a [] rest both, sym (same_rest b a [] rest both))

-- ---- the first fault

-- the bytes in front, and the next one
one_further : (front bs : List ℕ) (b : ℕ) → take (length front + 1) (front ++ b ∷ bs) ≡ front ++ b ∷ []
one_further front bs b =
    ap (take (length front + 1)) (sym (append_assoc front (b ∷ []) bs))
    ∙ take_at (front ++ b ∷ []) bs (length front + 1) (length-append front (b ∷ []))

-- where the bytes in front begin a spelling and no spelling goes on with what stands behind
first_of_parts : (bytes front behind : List ℕ) (place : ℕ) → bytes ≡ front ++ behind → place ≡ length front → Begins front
    → ((b : ℕ) (bs : List ℕ) → behind ≡ b ∷ bs → Begins (front ++ b ∷ []) → ⊥) → IsFirstFault bytes place
first_of_parts bytes front behind place parts is begins ends =
    let len : length bytes ≡ length front + length behind = ap length parts ∙ length-append front behind in
    record {
      within = omega (arith, len, is);
      begins = subst Begins (sym (rw (is, parts) (take_at front behind (length front) refl))) begins;
      ends = not_further behind parts ends;
    }
  where
    not_further : (rest : List ℕ) → bytes ≡ front ++ rest → ((b : ℕ) (bs : List ℕ) → rest ≡ b ∷ bs → Begins (front ++ b ∷ []) → ⊥)
        → place < length bytes → Begins (take (place + 1) bytes) → ⊥
    not_further [] split stop lt further = omega (arith, lt, is, ap length split ∙ length-append front [])
    not_further (b ∷ bs) split stop lt further = stop b bs refl (subst Begins (rw (is, split) (one_further front bs b)) further)

fault_parts : (bytes : List ℕ) (left : ℕ) (result : Result Record ℕ) → Ending (record_at bytes) result → result ≡ Err left
    → (left ≤ length bytes) × IsFirstFault bytes (length bytes - left)
fault_parts bytes left result (whole x read e) is = let both : Ok x ≡ Err left = sym e ∙ is in absurd cc
fault_parts bytes left result (trailing x b bs read e) is =
    let t = record_reader.takes bytes x (b ∷ bs) read in
    let size : left ≡ suc (length bs) = same_left left (suc (length bs)) (sym is ∙ e) in
    let len : length bytes ≡ length t.0 + suc (length bs) = ap length t.2 ∙ length-append t.0 (b ∷ bs) in (
      omega (arith, size, len),
      first_of_parts bytes t.0 (b ∷ bs) (length bytes - left) t.2 (omega (arith, size, len))
          (record { value = x; more = []; fits = t.1.fits; is = sym t.1.is ∙ sym (append-nil t.0) })
          (λ c cs tail further.
          let longer : record_text further.value ≡ record_text x ++ (c ∷ further.more) =
          further.is ∙ append_assoc t.0 (c ∷ []) further.more ∙ ap (λ (y : List ℕ). y ++ c ∷ further.more) t.1.is in
          let nothing = (no_prefix x further.value (c ∷ further.more) t.1.fits further.fits longer).1 in
          let none : c ∷ further.more ≡ [] = nothing in
          cc),
    )
fault_parts bytes left result (stopped other read e) is =
    let size : left ≡ other = same_left left other (sym is ∙ e) in
    let s = record_reader.stops bytes other read in
    let len : length bytes ≡ length s.front + length s.behind = ap length s.parts ∙ length-append s.front s.behind in
    let place = s.place in (
      omega (arith, size, len, place),
      first_of_parts bytes s.front s.behind (length bytes - left) s.parts (omega (arith, size, len, place))
          (record { value = s.value; more = s.more; fits = s.begins.fits; is = sym s.begins.is })
          (λ b bs tail further.
          let longer : record_text further.value ≡ s.front ++ (b ∷ further.more) =
          further.is ∙ append_assoc s.front (b ∷ []) further.more in
          let both : Ok (further.value, []) ≡ Err (suc (length further.more)) =
          sym (alone further.value further.fits) ∙ ap record_at longer ∙ s.ends b bs further.more tail in
          cc),
    )

pub fault_is_first : (bytes : List ℕ) (left : ℕ) → whole_at bytes ≡ Err left
    → (left ≤ length bytes) × IsFirstFault bytes (length bytes - left)
unfolding whole_at
fault_is_first bytes left e = fault_parts bytes left (ended (record_at bytes)) (ending (record_at bytes)) e

-- ---- what is told of the whole

pub only_one : (bytes : List ℕ) (x r : Record) → whole_at bytes ≡ Ok x → HasSpelling r → bytes ≡ record_text r → x ≡ r
only_one bytes x r read fits is = same_record x r (sym read ∙ ap whole_at is ∙ spelled_is_read r fits)

pub none_spelled : (bytes : List ℕ) (left : ℕ) (r : Record) → whole_at bytes ≡ Err left → HasSpelling r → bytes ≡ record_text r
    → ⊥
none_spelled bytes left r read fits is =
    let both : Ok r ≡ Err left = sym (ap whole_at is ∙ spelled_is_read r fits) ∙ read in
    cc

abbrev pub bad : ℕ → Result Record RecordFault
bad place = Err (Bad place)

same_place : (m n : ℕ) → bad m ≡ bad n → m ≡ n
same_place m n e = cc

-- what is told of the whole, once a body was read behind its front

-- the body of this kind, behind this moment and this node
abbrev pub behind : ℕ → ℕ → RecordKind → Reader Record
behind m n k = body_at k >>= λ b. pure (record_of m n b)

pub whole_stops : (bytes : List ℕ) (left : ℕ) → record_at bytes ≡ Err left → whole_at bytes ≡ Err left
unfolding whole_at
whole_stops bytes left e = rw e refl

abbrev number_left : ℕ → Option ℕ
number_left n = Some n

same_number : (m n : ℕ) → number_left m ≡ number_left n → m ≡ n
same_number m n e = cc

-- what is left behind a record that was read
ended_before : (r : Record) (rest : List ℕ) (left : ℕ) → cond (eqb (length rest) 0) None (Some (length rest)) ≡ Some left
    → ended (Ok (r, rest)) ≡ Err left
ended_before r [] left h = absurd cc
ended_before r (b ∷ bs) left h =
    let e : number_left (suc (length bs)) ≡ number_left left = rw (more_than_none (length bs)) at h in
    rw (more_than_none (length bs)) (ap failed (same_number (suc (length bs)) left e))

ended_there : (r : Record) (rest : List ℕ) → cond (eqb (length rest) 0) None (Some (length rest)) ≡ None
    → ended (Ok (r, rest)) ≡ Ok r
ended_there r [] h = refl
ended_there r (b ∷ bs) h =
    let e : number_left (suc (length bs)) ≡ None = rw (more_than_none (length bs)) at h in
    absurd cc

-- a value, or some value
made_behind : (m n : ℕ) (k : RecordKind) (middle rest : List ℕ) (b : Body) → body_at k middle ≡ Ok (b, rest)
    → behind m n k middle ≡ Ok (record_of m n b, rest)
made_behind m n k middle rest b e = rw e refl

pub whole_left : {E : Type 0} (bytes middle rest : List ℕ) (m n : ℕ) (k : RecordKind) (read : Result (Result Body E) BadField)
    (left : ℕ)
    → record_at bytes ≡ behind m n k middle → GivesKept read rest (body_at k middle)
    → left_by read rest ≡ Some left → whole_at bytes ≡ Err left
unfolding whole_at
whole_left bytes middle rest m n k (Ok (Ok b)) left e g h = rw (e, g) (ended_before (record_of m n b) rest left h)
whole_left bytes middle rest m n k (Ok (Err no_memory)) left e g h = rw (e, g.1) (ended_before (record_of m n g.0) rest left h)
whole_left bytes middle rest m n k (Err fault) left e g h = rw (e, g) (ap failed (same_number fault.left left h))

whole_kept : (bytes middle rest : List ℕ) (m n : ℕ) (k : RecordKind) (b : Body)
    → record_at bytes ≡ behind m n k middle → body_at k middle ≡ Ok (b, rest)
    → cond (eqb (length rest) 0) None (Some (length rest)) ≡ None → whole_at bytes ≡ Ok (record_of m n b)
unfolding whole_at
whole_kept bytes middle rest m n k b e g h = rw (e, g) (ended_there (record_of m n b) rest h)

pub whole_completed : {E : Type 0} (bytes middle rest : List ℕ) (m n : ℕ) (k : RecordKind)
    (read : Result (Result Body E) BadField)
    → record_at bytes ≡ behind m n k middle → GivesKept read rest (body_at k middle)
    → left_by read rest ≡ None → TellsWhole (completed m n read) bytes (whole_at bytes)
whole_completed bytes middle rest m n k (Ok (Ok b)) e g h = whole_kept bytes middle rest m n k b e g h
whole_completed bytes middle rest m n k (Ok (Err no_memory)) e g h =
    (record_of m n g.0, whole_kept bytes middle rest m n k g.0 e g.1 h)
whole_completed bytes middle rest m n k (Err fault) e g h = absurd cc

-- a fault at its place

pub left_is_within : (bytes : List ℕ) (left : ℕ) → whole_at bytes ≡ Err left → left ≤ length bytes
left_is_within bytes left e = (fault_is_first bytes left e).0

pub bad_told : (fault : RecordFault) (bytes : List ℕ) (left : ℕ) → fault ≡ Bad (length bytes - left) → whole_at bytes ≡ Err left
    → TellsWhole (Err fault) bytes (whole_at bytes)
bad_told fault bytes left is e = rw is (left, e, refl)

-- what is told of a record

pub found_told : (result : Result Record RecordFault) (bytes : List ℕ) → TellsWhole result bytes (whole_at bytes)
    → IfOk result (λ r. Spells HasSpelling record_text r bytes)
found_told (Ok r) bytes told = read_is_spelled bytes r told
found_told (Err fault) bytes told = tt

pub only_told : (result : Result Record RecordFault) (bytes : List ℕ) → TellsWhole result bytes (whole_at bytes) → (r : Record)
    → HasSpelling r → bytes ≡ record_text r → IsRead r result
only_told (Ok x) bytes told r fits is = only_one bytes x r told fits is
only_told (Err (Bad place)) bytes told r fits is = none_spelled bytes told.0 r told.1 fits is
only_told (Err NoMemory) bytes told r fits is = tt

pub first_told : (result : Result Record RecordFault) (bytes : List ℕ) → TellsWhole result bytes (whole_at bytes) → (place : ℕ)
    → result ≡ bad place → IsFirstFault bytes place
first_told (Ok r) bytes told place is = absurd cc
first_told (Err (Bad other)) bytes told place is =
    subst (λ n. IsFirstFault bytes n) (sym told.2 ∙ same_place other place is) (fault_is_first bytes told.0 told.1).1
first_told (Err NoMemory) bytes told place is = absurd cc

pub there_told : (result : Result Record RecordFault) (bytes : List ℕ) → TellsWhole result bytes (whole_at bytes)
    → result ≡ Err NoMemory → IsRecord bytes
there_told (Ok r) bytes told is = absurd cc
there_told (Err (Bad place)) bytes told is = absurd cc
there_told (Err NoMemory) bytes told is = record { value = told.0; spells = read_is_spelled bytes told.0 told.1 }
