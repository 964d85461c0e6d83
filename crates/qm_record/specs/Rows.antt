-- The rows of an image, and how long their spellings may be.
use Rattle.std.proofs.Common.{arith, length-append, ℕ, ◌+◌, ◌*◌, ◌≤◌, Bool, true, false, List, [], ◌∷◌, length, Option, Some, None}
use Rattle.std.specs.List.{AllByRecursion}
use Rattle.qm_bytes.specs.Spelling.{truth, optional, each, list, short_bytes, IsName, IsList, AllOf}
use Rattle.qm_model.specs.Common.{Form, Queue, Node, Record, Body}
use Rattle.qm_kinds.specs.declared.record.Body.TheVariants as body
use Rattle.qm_record.specs.Spelling.{node, head, form, queue, body_parts, text_of, record_text, NodeFits, FormFits, QueueFits, BodyFits, HasSpelling}

-- the body is a row of an image, and no request
abbrev pub IsRow : Body → Type 0
IsRow (body.Ask request) = ⊥
IsRow row = Unit {0}

-- ---- fields

length-truth : (b : Bool) → length (truth b) ≤ 1
length-truth false = omega arith
length-truth true = omega arith

length-name : (name : List ℕ) → IsName name → length (short_bytes name) ≤ 40
length-name name fits = omega (arith, fits.few)

length-optional_name : (name : Option (List ℕ)) → AllOf IsName name → length (optional short_bytes name) ≤ 41
length-optional_name None fits = omega arith
length-optional_name (Some name) fits = omega (arith, fits.few)

length-node : (n : Node) → NodeFits n → length (node n) ≤ 41
length-node n fits = omega (arith, length-append (short_bytes n.name) (truth n.up), length-truth n.up, fits.few)

-- elements of at most so many bytes
module _ {A : Type 0} (spelling : A → List ℕ) (Fits : A → Type 0) (most : ℕ) (short : (x : A) → Fits x → length (spelling x) ≤ most) where
  length-each : (xs : List A) → AllByRecursion Fits xs → length (each spelling xs) ≤ most * length xs
  length-each [] fits = omega arith
  length-each (x ∷ xs) fits = omega (arith, length-append (spelling x) (each spelling xs), short x fits.0, length-each xs fits.1)

  length-list : (xs : List A) → IsList Fits xs → length (list spelling xs) ≤ 2 + most * length xs
  length-list xs fits = omega (arith, length-each xs fits.each)

length-nodes : (nodes : List Node) → IsList NodeFits nodes → length (list node nodes) ≤ 2686937
length-nodes nodes fits = omega (arith, fits.few, length-list node NodeFits 41 length-node nodes fits)

length-names : (names : List (List ℕ)) → IsList IsName names → length (list short_bytes names) ≤ 2621402
length-names names fits = omega (arith, fits.few, length-list short_bytes IsName 40 length-name names fits)

-- ---- rows

length-form : (f : Form) → FormFits f → length (form f) ≤ 89
length-form f fits = simp length-append (omega (arith, fits.name_fits.few, fits.stock_fits.few, length-truth f.shape.wrap))

length-queue : (q : Queue) → QueueFits q → length (queue q) ≤ 2621594
length-queue q fits =
    simp length-append (omega (
      arith,
      fits.name_fits.few,
      length-optional_name q.node fits.node_fits,
      length-optional_name q.device fits.device_fits,
      length-optional_name q.mounted fits.mounted_fits,
      length-truth q.by_size,
      length-names q.targets fits.targets_fit,
    ))

length-head : (nodes : List Node) (may : List (List ℕ)) (next_entry next_run last : ℕ) → IsList NodeFits nodes → IsList IsName may
    → length (head nodes may next_entry next_run last) ≤ 5308359
length-head nodes may next_entry next_run last nodes_fit may_fit =
    simp length-append (omega (arith, length-nodes nodes nodes_fit, length-names may may_fit))

length-text : (m n : ℕ) (b : Body) → BodyFits b → IsRow b → length (text_of m n (body_parts b)) ≤ 5308370
length-text m n (body.Head nodes may next_entry next_run last) fits row =
    omega (arith, length-head nodes may next_entry next_run last fits.0 fits.1)
length-text m n (body.Form f) fits row = omega (arith, length-form f fits)
length-text m n (body.Queue q) fits row = omega (arith, length-queue q fits)
length-text m n (body.Ask request) fits row = absurd row
length-text m n (body.Characteristic c) fits row = absurd fits
length-text m n (body.File f) fits row = absurd fits
length-text m n (body.Entry e) fits row = absurd fits

-- The longest is a head, with 65,535 nodes that are or may be, each with a name of 39 bytes.
pub rows_are_short : (r : Record) → HasSpelling r → IsRow r.body → length (record_text r) ≤ 5308370
rows_are_short r fits row = length-text r.moment r.node r.body fits.body_fits row
