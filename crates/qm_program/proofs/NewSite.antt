-- What the rows of a new site take, and what the files have that hold them.
use Rattle.std.proofs.Common.{◌≡◌, ◌<◌, ◌≤◌, ◌*◌, ℕ, List, [], ◌∷◌, ◌++◌, length, map, false, refl, sym, ◌∙◌, subst, arith, lit≤, length-append, All, Option, None, Some}
use Rattle.std.specs.Io.KnownBytes.{Keeps}
use Rattle.std.specs.List.{AllByRecursion}
use Rattle.std.proofs.lemmas.List.{append-nil, length-map}
use Rattle.std.proofs.lemmas.List.Elements.{recursion_from_All}
use Rattle.qm_bytes.specs.Spelling.{each, short_bytes, truth}
use Rattle.qm_store.specs.Making.{IsQueueCap, KeepsFile, need_for, texts_of}
use Rattle.qm_store.specs.Recorded.{Holds, IsAtRest, Recorded, new_database}
use Rattle.qm_disk.specs.Disk.{CrashState, IsLeft, Meaning}
use Rattle.qm_disk.proofs.Moments.{started}
use Rattle.qm_history.specs.Common.{IsLog, IsAccepted, first_name, site_of, HoldRecords, Starts, Record, Node, AreNodes, IsConsistent, first_form, first_queue}
use Rattle.qm_history.specs.declared.world.World.{World}
use Rattle.qm_kinds.specs.declared.record.Body.TheVariants as body
use Rattle.qm_model.specs.Log.{head_of, image_of, row}
use Rattle.qm_record.specs.Spelling.{HasSpelling, node, record_text}
use Rattle.qm_program.specs.Making.{BeginsNew, HasNewSite, HoldNewSite, Makes, new_world}
use Rattle.qm_program.specs.declared.outcome.End.TheVariants as ends

-- ---- how much the rows take

-- a node of this name that is down
abbrev down : List ℕ → Node
down name = record { name = name; up = false }

-- a name that a node can have
abbrev IsShort : List ℕ → Type 0
IsShort name = length name ≤ 6

short_names : (names : List (List ℕ)) → AllByRecursion (λ (n : Node). length n.name ≤ 6) (map down names) → AllByRecursion IsShort names
short_names [] short = tt
short_names (name ∷ names) short = (short.0, short_names names short.1)

first_is_short : (names : List (List ℕ)) → AllByRecursion IsShort names → length (first_name names) ≤ 6
first_is_short [] short = lit≤ tt
first_is_short (name ∷ names) short = short.0

length-nodes : (names : List (List ℕ)) → AllByRecursion IsShort names → length (each node (map down names)) ≤ 8 * length names
length-nodes [] short = omega arith
length-nodes (name ∷ names) short =
    omega (arith, length-append (node (down name)) (each node (map down names)), length-append (short_bytes name) (truth false), short.0, length-nodes names short.1)

length-names : (names : List (List ℕ)) → AllByRecursion IsShort names → length (each short_bytes names) ≤ 7 * length names
length-names [] short = omega arith
length-names (name ∷ names) short = omega (arith, length-append (short_bytes name) (each short_bytes names), short.0, length-names names short.1)

length-head : (names : List (List ℕ)) → AllByRecursion IsShort names → length names ≤ 8 → length (record_text (row (head_of (site_of names)))) ≤ 200
length-head names short few = simp length-append (omega (arith, few, length-nodes names short, length-names names short))

length-form : length (record_text (row (body.Form first_form))) ≤ 100
length-form = lit≤ tt

length-queue : (name : List ℕ) → length name ≤ 6 → length (record_text (row (body.Queue (first_queue name)))) ≤ 150
length-queue name short = simp length-append (omega (arith, short))

three_need : (head form queue : List ℕ) → length head ≤ 200 → length form ≤ 100 → length queue ≤ 150 → need_for (head ∷ form ∷ queue ∷ []) ≤ 1000
three_need head form queue head_short form_short queue_short = omega (arith, head_short, form_short, queue_short)

-- the rows of a new site take less than the least cap
pub site_is_small : (names : List (List ℕ)) → AreNodes (site_of names).nodes → need_for (texts_of (image_of (site_of names))) ≤ 1000
site_is_small names proper =
    let short = short_names names (recursion_from_All (λ (n : Node). length n.name ≤ 6) (map down names) proper.short) in
    let few : length names ≤ 8 = omega (arith, proper.few, length-map names down) in
    three_need (record_text (row (head_of (site_of names)))) (record_text (row (body.Form first_form))) (record_text (row (body.Queue (first_queue (first_name names)))))
    (length-head names short few) length-form (length-queue (first_name names) (first_is_short names short))

-- so no cap is too small for them
pub never_full : (names : List (List ℕ)) (rows : List Record) (cap need most : ℕ) → AreNodes (site_of names).nodes → IsQueueCap cap → rows ≡ image_of (site_of names)
    → most < need → need ≡ need_for (texts_of rows) → most ≡ cap → ⊥
never_full names rows cap need most proper is same more needs given =
    let small : need_for (texts_of rows) ≤ 1000 = subst (λ (r : List Record). need_for (texts_of r) ≤ 1000) (sym same) (site_is_small names proper) in
    omega (arith, small, is.least, more, needs, given)

-- ---- what the files have

-- its rows are an accepted log
pub site_is_accepted : (names : List (List ℕ)) → IsConsistent (site_of names) → AllByRecursion HasSpelling (image_of (site_of names)) → IsAccepted (image_of (site_of names))
site_is_accepted names consistent spelled = record {
  image = site_of names;
  requests = [];
  consistent = consistent;
  spelled = spelled;
  whole = refl;
  next = tt;
}

-- a database of the rows of a new site is that site
pub has_new_site : {D : Type 0} (m : Meaning D) (names : List (List ℕ)) (cap : ℕ) (rows : List Record) (disk : D) → rows ≡ image_of (site_of names)
    → ((r : Recorded) (disk : D) (crashed : CrashState) → IsAtRest m r disk → IsLeft (m.may_leave disk) crashed → Holds crashed r)
    → ((files : CrashState) (r : Recorded) (records : List Record) → Holds files r → r.bodies ≡ map record_text records → IsAccepted records
    → HoldRecords files r.says records)
    → IsConsistent (site_of names) → All HasSpelling rows → IsAtRest m (new_database cap rows) disk → HasNewSite m names cap disk
has_new_site m names cap rows disk same held by_records consistent spelled rest =
    let image = image_of (site_of names) in
    let accepted = site_is_accepted names consistent (recursion_from_All HasSpelling image (subst (All HasSpelling) same spelled)) in
    let at_rest : IsAtRest m (new_database cap image) disk = subst (λ (r : List Record). IsAtRest m (new_database cap r) disk) same rest in
    record {
      reads = by_records (m.seen disk) (new_database cap image) image at_rest.holds refl accepted;
      crash = λ crashed left. by_records crashed (new_database cap image) image (held (new_database cap image) disk crashed at_rest left) refl accepted;
    }

-- nothing was done to this file
pub keeps_itself : {D : Type 0} (m : Meaning D) (file : ℕ) (disk : D) → file ≤ 2
    → ((crashed : CrashState) → m.left_since disk (m.moment disk) crashed → IsLeft (m.may_leave disk) crashed) → KeepsFile m file disk disk
keeps_itself m file disk le only_now = record {
  reads = refl;
  no_more = λ c left. left;
  no_fewer = λ c left. left;
  any_moment = started m disk (λ (crashed : CrashState). m.may_leave disk file (crashed file)) (λ crashed left. only_now crashed left file le);
}

-- ---- the world with which a program begins

pub new_begins : (names : List (List ℕ)) (cap : ℕ) (files : CrashState) → HoldNewSite names cap files → BeginsNew names files
new_begins names cap files holds = record {
  starts = record { says = record { cap = cap; live = 1; epoch = 0 }; records = image_of (site_of names); hold = holds; begins = refl };
  no_epoch = refl;
}

-- one record has one spelling
one_spelling : ((a b : Record) (rest : List ℕ) → HasSpelling a → HasSpelling b → record_text b ≡ record_text a ++ rest → (b ≡ a) × (rest ≡ []))
    → (q r : Record) → HasSpelling q → HasSpelling r → record_text q ≡ record_text r → q ≡ r
one_spelling none q r spelled_q spelled_r same = (none r q [] spelled_r spelled_q (same ∙ sym (append-nil (record_text r)))).0

abbrev OneWorld : Type 0
OneWorld =
    (files : CrashState) (w v : World) → ((file : List ℕ) (a b : List (List ℕ)) → IsLog file a → IsLog file b → a ≡ b) → ((q r : Record) → HasSpelling q → HasSpelling r → record_text q ≡ record_text r → q ≡ r)
    → Starts files w → Starts files v → w ≡ v

pub begins_one : ((file : List ℕ) (a b : List (List ℕ)) → IsLog file a → IsLog file b → a ≡ b)
    → ((a b : Record) (rest : List ℕ) → HasSpelling a → HasSpelling b → record_text b ≡ record_text a ++ rest → (b ≡ a) × (rest ≡ []))
    → OneWorld → (names : List (List ℕ)) (cap : ℕ) (files : CrashState) (w : World) → HoldNewSite names cap files
    → Starts files w → w ≡ new_world names
begins_one one none world names cap files w holds starts =
    world files w (new_world names) one (one_spelling none) starts (new_begins names cap files holds).starts

-- ---- ends

keeps_same : (taken : Option (List ℕ)) → Keeps taken taken
keeps_same None = tt
keeps_same (Some bytes) = refl

-- memory ran out before anything was asked of the disk
pub nothing_made : {D : Type 0} (m : Meaning D) (names : List (List ℕ)) (cap : ℕ) (disk : D) (taken : Option (List ℕ))
    → ((crashed : CrashState) → m.left_since disk (m.moment disk) crashed → IsLeft (m.may_leave disk) crashed) → Makes m names cap disk disk taken taken ends.NoMemory
nothing_made m names cap disk taken only_now = record { leaves = keeps_same taken; other = keeps_itself m 2 disk (lit≤ tt) only_now }
