-- Each limit, at its last value and one further.
use Rattle.std.proofs.Common.{◌≡◌, ℕ, ◌+◌, Bool, true, false, ◌||◌, ◌&&◌, List, [], ◌∷◌, length, refl, ◌∙◌, ap, map, Option, None, Some, Err, ◌==◌, ok_or, codes, replicate, is_none, nat_lt, is_some, if◌then◌else◌}
use Rattle.std.specs.List.{range_with_len, slice_split}
use Rattle.qm_model.specs.Common.{File, FileName, Form, NewQueue, Started, Refusal, Start, Request, System, bytes_of, is_spool_full, first_refusal_of, spooled, file_named, first_system, first_queue, is_bad_change, settled, entry_of}
use Rattle.qm_kinds.specs.declared.queue.QueueKind.TheVariants as queue
use Rattle.qm_kinds.specs.declared.refusal.Refusal.TheVariants as refused
use Rattle.qm_kinds.specs.declared.script.ScriptKind.TheVariants as script_fault
use Rattle.qm_kinds.specs.declared.request.Request.TheVariants.{Append, DefineForm, DefineCharacteristic, InitializeQueue, Submit, Fill}
use Rattle.qm_model.specs.Batch.{is_label, is_status, is_mark}
use Rattle.qm_model.specs.Queues.{is_misplaced}
use Rattle.qm_model.specs.Script.{script_of, lines_from, node_name_of}
use Rattle.qm_model.proofs.Site.{after, first_asks, file, listing_file, no_change, a_batch_job}

abbrev site : System
site = after (first_system (codes "A")) (first_asks (Fill (file (codes "F") (codes "COM")) 1 ∷ []))

abbrev why : System → Request → Option Refusal
why s request = first_refusal_of s (codes "A") request

-- ---- files

abbrev empty_file : File
empty_file = record { name = listing_file (codes "X"); bytes = [] }

-- the last new file, and one more; a file that is there takes bytes as before
pub last_file : why (record site { files = replicate 4095 empty_file }) (Append (listing_file (codes "G")) []) ≡ None
last_file = refl

pub one_file_more : why (record site { files = replicate 4096 empty_file }) (Append (listing_file (codes "G")) []) ≡ Some refused.SpoolFull
one_file_more = refl

pub file_that_is_there : why (record site { files = replicate 4096 empty_file }) (Append (listing_file (codes "X")) []) ≡ None
file_that_is_there = refl

-- all files together, whichever they are
either_way : (a c : Bool) → (a || true || c) ≡ true
either_way true c = refl
either_way false c = refl

pub one_byte_more_in_all : (name : FileName) (more : ℕ) (files : List File) → spooled files + more ≡ 67108865 → is_spool_full name more files ≡ true
one_byte_more_in_all name more files sum =
    ap (λ (n : ℕ). nat_lt 1048576 (length (bytes_of name files) + more) || nat_lt 67108864 n || (is_none (file_named name files) && nat_lt 4095 (length files))) sum
    ∙ either_way (nat_lt 1048576 (length (bytes_of name files) + more)) (is_none (file_named name files) && nat_lt 4095 (length files))

pub last_byte_in_all : (name : FileName) (more : ℕ) (files : List File) → spooled files + more ≡ 67108864 → length (bytes_of name files) + more ≡ 1048576 → is_none (file_named name files) ≡ false
    → is_spool_full name more files ≡ false
last_byte_in_all name more files sum own there =
    ap (λ (n : ℕ). nat_lt 1048576 n || nat_lt 67108864 (spooled files + more) || (is_none (file_named name files) && nat_lt 4095 (length files))) own
    ∙ ap (λ (n : ℕ). nat_lt 67108864 n || (is_none (file_named name files) && nat_lt 4095 (length files))) sum
    ∙ ap (λ (b : Bool). b && nat_lt 4095 (length files)) there

-- ---- forms and characteristics

abbrev form : ℕ → ℕ → ℕ → Form
form number bottom right = record { name = codes "X"; number = number; stock = codes "X"; shape = record { length = 255; width = 255; top = 1; bottom = bottom; left = 2; right = right; wrap = false } }

pub last_form : map (why site) (DefineForm (form 999 6 0) ∷ DefineForm (form 1000 6 0) ∷ []) ≡ None ∷ Some refused.BadValue ∷ []
last_form = refl

pub last_line : map (why site) (DefineForm (form 1 253 0) ∷ DefineForm (form 1 254 0) ∷ []) ≡ None ∷ Some refused.BadValue ∷ []
last_line = refl

pub last_column : map (why site) (DefineForm (form 1 6 252) ∷ DefineForm (form 1 6 253) ∷ []) ≡ None ∷ Some refused.BadValue ∷ []
last_column = refl

pub last_characteristic : map (why site) (DefineCharacteristic (record { name = codes "X"; number = 127 }) ∷ DefineCharacteristic (record { name = codes "X"; number = 128 }) ∷ [])
    ≡ None ∷ Some refused.BadValue ∷ []
last_characteristic = refl

-- ---- queues

abbrev a_queue : List ℕ → NewQueue
a_queue name = record { name = name; kind = queue.Batch; node = None; device = None; targets = []; change = no_change; start = false }

pub last_queue : why (record site { queues = replicate 255 (first_queue (codes "A")) }) (InitializeQueue (a_queue (codes "Q"))) ≡ None
last_queue = refl

pub one_queue_more : why (record site { queues = replicate 256 (first_queue (codes "A")) }) (InitializeQueue (a_queue (codes "Q"))) ≡ Some refused.QueuesFull
one_queue_more = refl

pub queue_that_is_there : why (record site { queues = replicate 256 (first_queue (codes "A")) }) (InitializeQueue (a_queue (codes "SYS$BATCH"))) ≡ None
queue_that_is_there = refl

-- a generic queue with so many targets, each once
abbrev with_targets : ℕ → NewQueue
with_targets n = record (a_queue (codes "Q")) { kind = queue.GenericBatch; targets = map (λ i. i ∷ []) (range_with_len 65 n) }

pub targets : map (λ n. is_misplaced (with_targets n)) (0 ∷ 1 ∷ 32 ∷ 33 ∷ []) ≡ true ∷ false ∷ false ∷ true ∷ []
targets = refl

pub job_limits : map (λ n. is_bad_change (record no_change { limit = Some n })) (0 ∷ 1 ∷ 255 ∷ []) ≡ true ∷ false ∷ false ∷ []
job_limits = refl

pub sizes : map (λ (s : ℕ × ℕ). is_bad_change (record no_change { blocks = Some s })) ((0, 9) ∷ (1, 1) ∷ (1, 4294967295) ∷ (3, 2) ∷ []) ≡ true ∷ false ∷ false ∷ true ∷ []
sizes = refl

-- ---- entries and runs

pub last_entry : why (record site { entries = replicate 65535 (entry_of site 0 (a_batch_job (codes "SYS$BATCH") (codes "F"))) }) (Submit (a_batch_job (codes "SYS$BATCH") (codes "F"))) ≡ None
last_entry = refl

pub last_number : map (λ n. why (record site { next_entry = n }) (Submit (a_batch_job (codes "SYS$BATCH") (codes "F")))) (4294967294 ∷ 4294967295 ∷ []) ≡ None ∷ Some refused.NumbersSpent ∷ []
last_number = refl

pub last_run : map (λ n. why (record site { next_run = n }) (Append (listing_file (codes "G")) [])) (4611686018427387903 ∷ 4611686018427387904 ∷ []) ≡ None ∷ Some refused.NumbersSpent ∷ []
last_run = refl

-- the queue manager starts jobs with the numbers behind those, up to the last
abbrev waiting : ℕ → System
waiting n = record (after site (first_asks (Submit (a_batch_job (codes "SYS$BATCH") (codes "F")) ∷ []))) { queues = record (first_queue (codes "A")) { state = Started } ∷ []; next_run = n }

pub last_start : map (λ n. map (λ (s : Start). s.run) (settled (waiting n)).started) (9223372036854775807 ∷ 9223372036854775808 ∷ []) ≡ (9223372036854775807 ∷ []) ∷ [] ∷ []
last_start = refl

-- ---- texts

pub labels : map (λ n. is_label (replicate n 65)) (0 ∷ 1 ∷ 39 ∷ 40 ∷ []) ≡ false ∷ true ∷ true ∷ false ∷ []
labels = refl

pub marks : map (λ n. is_mark (replicate n 65)) (0 ∷ 1 ∷ 255 ∷ 256 ∷ []) ≡ false ∷ true ∷ true ∷ false ∷ []
marks = refl

pub statuses : map is_status (codes "0" ∷ codes "4294967295" ∷ codes "4294967296" ∷ codes "01" ∷ []) ≡ true ∷ true ∷ false ∷ false ∷ []
statuses = refl

pub node_names : map (λ n. is_some (node_name_of (replicate n 65))) (0 ∷ 1 ∷ 6 ∷ 7 ∷ []) ≡ false ∷ true ∷ true ∷ false ∷ []
node_names = refl

-- a script that is too long, whatever it says
pub one_byte_too_long : (script : List ℕ) → nat_lt 16777216 (length script) ≡ true → script_of script ≡ Err script_fault.Long
one_byte_too_long script long = ap (λ (b : Bool). if b then Err script_fault.Long else ok_or (lines_from 1 (slice_split (λ c. c == 10) script)) script_fault.Form) long
