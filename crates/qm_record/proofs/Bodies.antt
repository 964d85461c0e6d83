-- Each reader of a body reads the fields of its records.
use Rattle.std.proofs.Common.{◌≡◌, ℕ, Bool, List, Option, None, Some, refl, sym, ap, subst, ◌∙◌}
use Rattle.qm_model.specs.Common.{Request, EntryChange, Job, FileName, Queue, QueueChange, NewQueue, StopMode, Form, Characteristic, Node, Body}
use Rattle.qm_kinds.specs.declared.request.Request.TheVariants as ask
use Rattle.qm_bytes.specs.Reading.{Reader}
use Rattle.qm_bytes.specs.Laws.{Spells, IsReader}
use Rattle.qm_bytes.proofs.Readers.{said}
use Rattle.qm_bytes.proofs.Products.{◌&◌, ◌⊗◌, Composed, composed, ends}
use Rattle.qm_bytes.proofs.Fields.{truth_reader, optional_reader, list_reader, name_reader, file_name_reader, long_bytes_reader, mark_reader, moment_reader}
use Rattle.qm_kinds.specs.declared.record.Body.TheVariants as body
use Rattle.qm_kinds.specs.declared.request_kind.RequestKind.TheVariants as requests
use Rattle.qm_record.specs.declared.kind.RecordKind.{RecordKind}
use Rattle.qm_record.specs.declared.kind.RecordKind.TheVariants as record_kind
use Rattle.qm_record.specs.Kinds.{is_row_kind}
use Rattle.qm_record.specs.Spelling.{body_parts, fields_in, is_row, RequestFits, BodyFits}
use Rattle.qm_record.specs.Reading.{append_at, fill_at, drop_at, define_form_at, delete_form_at, define_characteristic_at, delete_characteristic_at, initialize_at, set_queue_at, start_queue_at, stop_queue_at, abort_job_at, delete_queue_at, merge_at, submit_at, set_entry_at, delete_entry_at, run_mark_at, done_at, node_lost_at, took_at, head_at, form_row_at, queue_row_at, body_at}
use Rattle.qm_record.proofs.Codes.{stop_mode_reader}
use Rattle.qm_record.proofs.Fields.{u16_reader, u32_reader, u64_reader, node_reader, form_reader, characteristic_reader, queue_reader, change_reader, new_queue_reader, entry_change_reader, job_reader}

-- what a body of each kind is made of
abbrev Given : RecordKind → Type 0
Given (record_kind.Request requests.Append) = FileName × (List ℕ × Unit {0})
Given (record_kind.Request requests.Fill) = FileName × ℕ
Given (record_kind.Request requests.Drop) = FileName
Given (record_kind.Request requests.DefineForm) = Form
Given (record_kind.Request requests.DeleteForm) = List ℕ
Given (record_kind.Request requests.DefineCharacteristic) = Characteristic
Given (record_kind.Request requests.DeleteCharacteristic) = List ℕ
Given (record_kind.Request requests.InitializeQueue) = NewQueue
Given (record_kind.Request requests.SetQueue) = List ℕ × QueueChange
Given (record_kind.Request requests.StartQueue) = List ℕ × QueueChange
Given (record_kind.Request requests.StopQueue) = List ℕ × StopMode
Given (record_kind.Request requests.AbortJob) = List ℕ × (Option ℕ × (Bool × Unit {0}))
Given (record_kind.Request requests.DeleteQueue) = List ℕ
Given (record_kind.Request requests.Merge) = List ℕ × List ℕ
Given (record_kind.Request requests.Submit) = Job
Given (record_kind.Request requests.SetEntry) = ℕ × EntryChange
Given (record_kind.Request requests.DeleteEntry) = ℕ
Given record_kind.Mark = ℕ × List ℕ
Given record_kind.Done = ℕ × ℕ
Given record_kind.Tick = Unit {0}
Given record_kind.NodeUp = Unit {0}
Given record_kind.NodeLost = List (List ℕ)
Given record_kind.Took = ℕ × (List (List ℕ) × (List (List ℕ) × (List (List ℕ) × Unit {0})))
Given record_kind.Head = List Node × (List (List ℕ) × (ℕ × (ℕ × (ℕ × Unit {0}))))
Given record_kind.Form = Form
Given record_kind.Queue = Queue

abbrev body_of : (k : RecordKind) → Given k → Body
body_of (record_kind.Request requests.Append) x = body.Ask (ask.Append x.0 x.1.0)
body_of (record_kind.Request requests.Fill) x = body.Ask (ask.Fill x.0 x.1)
body_of (record_kind.Request requests.Drop) x = body.Ask (ask.Drop x)
body_of (record_kind.Request requests.DefineForm) x = body.Ask (ask.DefineForm x)
body_of (record_kind.Request requests.DeleteForm) x = body.Ask (ask.DeleteForm x)
body_of (record_kind.Request requests.DefineCharacteristic) x = body.Ask (ask.DefineCharacteristic x)
body_of (record_kind.Request requests.DeleteCharacteristic) x = body.Ask (ask.DeleteCharacteristic x)
body_of (record_kind.Request requests.InitializeQueue) x = body.Ask (ask.InitializeQueue x)
body_of (record_kind.Request requests.SetQueue) x = body.Ask (ask.SetQueue x.0 x.1)
body_of (record_kind.Request requests.StartQueue) x = body.Ask (ask.StartQueue x.0 x.1)
body_of (record_kind.Request requests.StopQueue) x = body.Ask (ask.StopQueue x.0 x.1)
body_of (record_kind.Request requests.AbortJob) x = body.Ask (ask.AbortJob x.0 x.1.0 x.1.1.0)
body_of (record_kind.Request requests.DeleteQueue) x = body.Ask (ask.DeleteQueue x)
body_of (record_kind.Request requests.Merge) x = body.Ask (ask.Merge x.0 x.1)
body_of (record_kind.Request requests.Submit) x = body.Ask (ask.Submit x)
body_of (record_kind.Request requests.SetEntry) x = body.Ask (ask.SetEntry x.0 x.1)
body_of (record_kind.Request requests.DeleteEntry) x = body.Ask (ask.DeleteEntry x)
body_of record_kind.Mark x = body.Ask (ask.Mark x.0 x.1)
body_of record_kind.Done x = body.Ask (ask.Done x.0 x.1)
body_of record_kind.Tick x = body.Ask ask.Tick
body_of record_kind.NodeUp x = body.Ask ask.NodeUp
body_of record_kind.NodeLost x = body.Ask (ask.NodeLost x)
body_of record_kind.Took x = body.Ask (ask.Took x.0 x.1.0 x.1.1.0 x.1.1.1.0)
body_of record_kind.Head x = body.Head x.0 x.1.0 x.1.1.0 x.1.1.1.0 x.1.1.1.1.0
body_of record_kind.Form x = body.Form x
body_of record_kind.Queue x = body.Queue x

-- the kind of a body that has a spelling, and what it is made of
data KindOf (b : Body) : Type 0 where
  made_of : (k : RecordKind) (x : Given k) → b ≡ body_of k x → is_row b ≡ is_row_kind k
      → body_parts b ≡ Some (k, fields_in (body_parts b)) → KindOf b

kind_of_request : (r : Request) → RequestFits r → KindOf (body.Ask r)
kind_of_request (ask.Append file bytes) fits = made_of (record_kind.Request requests.Append) (file & bytes & tt) refl refl refl
kind_of_request (ask.Fill file lines) fits = made_of (record_kind.Request requests.Fill) (file, lines) refl refl refl
kind_of_request (ask.Drop file) fits = made_of (record_kind.Request requests.Drop) file refl refl refl
kind_of_request (ask.DefineForm f) fits = made_of (record_kind.Request requests.DefineForm) f refl refl refl
kind_of_request (ask.DeleteForm name) fits = made_of (record_kind.Request requests.DeleteForm) name refl refl refl
kind_of_request (ask.DefineCharacteristic c) fits = made_of (record_kind.Request requests.DefineCharacteristic) c refl refl refl
kind_of_request (ask.DeleteCharacteristic name) fits = made_of (record_kind.Request requests.DeleteCharacteristic) name refl refl refl
kind_of_request (ask.InitializeQueue new) fits = made_of (record_kind.Request requests.InitializeQueue) new refl refl refl
kind_of_request (ask.SetQueue name change) fits = made_of (record_kind.Request requests.SetQueue) (name, change) refl refl refl
kind_of_request (ask.StartQueue name change) fits = made_of (record_kind.Request requests.StartQueue) (name, change) refl refl refl
kind_of_request (ask.StopQueue name how) fits = made_of (record_kind.Request requests.StopQueue) (name, how) refl refl refl
kind_of_request (ask.AbortJob queue_name entry requeue) fits =
    made_of (record_kind.Request requests.AbortJob) (queue_name & entry & requeue & tt) refl refl refl
kind_of_request (ask.DeleteQueue name) fits = made_of (record_kind.Request requests.DeleteQueue) name refl refl refl
kind_of_request (ask.Merge to from) fits = made_of (record_kind.Request requests.Merge) (to, from) refl refl refl
kind_of_request (ask.Submit j) fits = made_of (record_kind.Request requests.Submit) j refl refl refl
kind_of_request (ask.SetEntry entry change) fits = made_of (record_kind.Request requests.SetEntry) (entry, change) refl refl refl
kind_of_request (ask.DeleteEntry entry) fits = made_of (record_kind.Request requests.DeleteEntry) entry refl refl refl
kind_of_request (ask.Mark run value) fits = made_of record_kind.Mark (run, value) refl refl refl
kind_of_request (ask.Done run status) fits = made_of record_kind.Done (run, status) refl refl refl
kind_of_request ask.Tick fits = made_of record_kind.Tick tt refl refl refl
kind_of_request ask.NodeUp fits = made_of record_kind.NodeUp tt refl refl refl
kind_of_request (ask.NodeLost nodes) fits = made_of record_kind.NodeLost nodes refl refl refl
kind_of_request (ask.Took epoch gone up may) fits = made_of record_kind.Took (epoch & gone & up & may & tt) refl refl refl

kind_of_body : (b : Body) → BodyFits b → KindOf b
kind_of_body (body.Ask r) fits = kind_of_request r fits
kind_of_body (body.Head nodes may next_entry next_run last_moment) fits =
    made_of record_kind.Head (nodes & may & next_entry & next_run & last_moment & tt) refl refl refl
kind_of_body (body.Form f) fits = made_of record_kind.Form f refl refl refl
kind_of_body (body.Queue q) fits = made_of record_kind.Queue q refl refl refl
kind_of_body b fits = absurd fits

-- ---- a body of a kind

abbrev Parts : Type 0
Parts = RecordKind × List ℕ

abbrev some : Parts → Option Parts
some p = Some p

some_is : (p q : Parts) → some p ≡ some q → p ≡ q
some_is p q e = cc

same_kind : (a b : RecordKind) (x y : List ℕ) → some (a, x) ≡ some (b, y) → a ≡ b
same_kind a b x y e = ap (λ (p : Parts). p.0) (some_is (a, x) (b, y) e)

same_text : (a b : RecordKind) (x y : List ℕ) → some (a, x) ≡ some (b, y) → x ≡ y
same_text a b x y e = ap (λ (p : Parts). p.1) (some_is (a, x) (b, y) e)

-- whether a body is a row is told by its kind
pub row_by_kind : (b : Body) (k : RecordKind) (text : List ℕ) → BodyFits b → body_parts b ≡ Some (k, text)
    → is_row b ≡ is_row_kind k
row_by_kind b k text fits e = elim (kind_of_body b fits) [
  | made_of j x same row is ↦ row ∙ ap is_row_kind (same_kind j k (fields_in (body_parts b)) text (sym is ∙ e))
]

-- the kind in the parts
unfoldable pub kind_in : Option Parts → RecordKind
kind_in None = record_kind.Tick
kind_in (Some parts) = parts.0

parts_in : (o : Option Parts) (x : Parts) → o ≡ Some x → o ≡ Some (kind_in o, fields_in o)
unfolding kind_in
parts_in None x e = absurd cc
parts_in (Some y) x e = refl

-- a body that has a spelling has parts
pub has_parts : (b : Body) → BodyFits b → body_parts b ≡ Some (kind_in (body_parts b), fields_in (body_parts b))
has_parts b fits = elim (kind_of_body b fits) [
  | made_of k x same row is ↦ parts_in (body_parts b) (k, fields_in (body_parts b)) is
]

given : (b : Body) (k : RecordKind) (text : List ℕ) → BodyFits b → body_parts b ≡ Some (k, text)
    → (x : Given k) × (b ≡ body_of k x)
given b k text fits e = elim (kind_of_body b fits) [
  | made_of j x same row is ↦
      let kinds = same_kind j k (fields_in (body_parts b)) text (sym is ∙ e) in
      subst (λ (i : RecordKind). (y : Given i) × (b ≡ body_of i y)) kinds (x, same)
]

-- a body of this kind, and the text of its fields
pub record BodyAt (k : RecordKind) (b : Body) (text : List ℕ) : Type 0 where
  pub fits : BodyFits b
  pub is : body_parts b ≡ Some (k, text)

-- the bodies of a kind are read as what they are made of
reads : {k : RecordKind} {Fit : Given k → Type 0} {text : Given k → List ℕ} {read : Reader Body}
    → IsReader (Composed Fit text (body_of k) BodyFits) read
    → ((x : Given k) → body_parts (body_of k x) ≡ Some (k, text x)) → ((x : Given k) → BodyFits (body_of k x) → Fit x)
    → IsReader (BodyAt k) read
reads {k} {Fit} {text} reader parts_are fit =
    said reader
    (λ b bytes h. record { fits = h.lawful; is = ap body_parts h.same ∙ parts_are h.fields ∙ ap (λ t. Some (k, t)) (sym h.is) })
    (λ b bytes s. let x = given b k bytes s.fits s.is in
    record {
      fields = x.0;
      fit = fit x.0 (subst BodyFits x.1 s.fits);
      same = x.1;
      is = same_text k k bytes (text x.0) (sym s.is ∙ ap body_parts x.1 ∙ parts_are x.0);
      lawful = s.fits;
    })

-- ---- the body of each kind

reader_of : (k : RecordKind) → IsReader (BodyAt k) (body_at k)
unfolding body_at append_at fill_at drop_at define_form_at delete_form_at define_characteristic_at delete_characteristic_at initialize_at set_queue_at start_queue_at stop_queue_at abort_job_at delete_queue_at merge_at submit_at set_entry_at delete_entry_at run_mark_at done_at node_lost_at took_at head_at form_row_at queue_row_at
reader_of (record_kind.Request requests.Append) =
    reads (file_name_reader ⊗ λ file fits. long_bytes_reader ⊗ λ bytes bytes_fit. composed (fits, bytes_fit))
    (λ x. refl) (λ x fits. fits.0 & fits.1 & tt)
reader_of (record_kind.Request requests.Fill) =
    reads (file_name_reader ⊗ λ file fits. ends u16_reader (λ lines lines_fit. (fits, lines_fit))) (λ x. refl) (λ x fits. fits)
reader_of (record_kind.Request requests.Drop) = reads (ends file_name_reader (λ x fits. fits)) (λ x. refl) (λ x fits. fits)
reader_of (record_kind.Request requests.DefineForm) = reads (ends form_reader (λ x fits. fits)) (λ x. refl) (λ x fits. fits)
reader_of (record_kind.Request requests.DeleteForm) = reads (ends name_reader (λ x fits. fits)) (λ x. refl) (λ x fits. fits)
reader_of (record_kind.Request requests.DefineCharacteristic) = reads (ends characteristic_reader (λ x fits. fits)) (λ x. refl) (λ x fits. fits)
reader_of (record_kind.Request requests.DeleteCharacteristic) = reads (ends name_reader (λ x fits. fits)) (λ x. refl) (λ x fits. fits)
reader_of (record_kind.Request requests.InitializeQueue) = reads (ends new_queue_reader (λ x fits. fits)) (λ x. refl) (λ x fits. fits)
reader_of (record_kind.Request requests.SetQueue) =
    reads (name_reader ⊗ λ name fits. ends change_reader (λ change change_fits. (fits, change_fits))) (λ x. refl) (λ x fits. fits)
reader_of (record_kind.Request requests.StartQueue) =
    reads (name_reader ⊗ λ name fits. ends change_reader (λ change change_fits. (fits, change_fits))) (λ x. refl) (λ x fits. fits)
reader_of (record_kind.Request requests.StopQueue) =
    reads (name_reader ⊗ λ name fits. ends stop_mode_reader (λ how how_fits. fits)) (λ x. refl) (λ x fits. fits & tt)
reader_of (record_kind.Request requests.AbortJob) =
    reads (name_reader ⊗ λ name fits. optional_reader u32_reader ⊗ λ entry entry_fits.
    truth_reader ⊗ λ requeue requeue_fits. composed (fits, entry_fits))
    (λ x. refl) (λ x fits. fits.0 & fits.1 & tt & tt)
reader_of (record_kind.Request requests.DeleteQueue) = reads (ends name_reader (λ x fits. fits)) (λ x. refl) (λ x fits. fits)
reader_of (record_kind.Request requests.Merge) =
    reads (name_reader ⊗ λ to fits. ends name_reader (λ from from_fits. (fits, from_fits))) (λ x. refl) (λ x fits. fits)
reader_of (record_kind.Request requests.Submit) = reads (ends job_reader (λ x fits. fits)) (λ x. refl) (λ x fits. fits)
reader_of (record_kind.Request requests.SetEntry) =
    reads (u32_reader ⊗ λ entry fits. ends entry_change_reader (λ change change_fits. (fits, change_fits))) (λ x. refl) (λ x fits. fits)
reader_of (record_kind.Request requests.DeleteEntry) = reads (ends u32_reader (λ x fits. fits)) (λ x. refl) (λ x fits. fits)
reader_of record_kind.Mark =
    reads (u64_reader ⊗ λ run fits. ends mark_reader (λ value value_fits. (fits, value_fits))) (λ x. refl) (λ x fits. fits)
reader_of record_kind.Done =
    reads (u64_reader ⊗ λ run fits. ends u32_reader (λ status status_fits. (fits, status_fits))) (λ x. refl) (λ x fits. fits)
reader_of record_kind.Tick = reads (composed tt) (λ x. refl) (λ x fits. fits)
reader_of record_kind.NodeUp = reads (composed tt) (λ x. refl) (λ x fits. fits)
reader_of record_kind.NodeLost = reads (ends (list_reader name_reader) (λ x fits. fits)) (λ x. refl) (λ x fits. fits)
reader_of record_kind.Took =
    reads
    (u64_reader ⊗ λ epoch epoch_fits. list_reader name_reader ⊗ λ gone gone_fit. list_reader name_reader ⊗ λ up up_fit.
    list_reader name_reader ⊗ λ may may_fit. composed (epoch_fits, gone_fit, up_fit, may_fit))
    (λ x. refl) (λ x fits. fits.0 & fits.1 & fits.2 & fits.3 & tt)
reader_of record_kind.Head =
    reads
    (list_reader node_reader ⊗ λ nodes nodes_fit. list_reader name_reader ⊗ λ may may_fit. u32_reader ⊗ λ next_entry entry_fits.
    u64_reader ⊗ λ next_run run_fits. moment_reader ⊗ λ last_moment last_fits.
    composed (nodes_fit, may_fit, entry_fits, run_fits, last_fits))
    (λ x. refl) (λ x fits. fits.0 & fits.1 & fits.2 & fits.3 & fits.4 & tt)
reader_of record_kind.Form = reads (ends form_reader (λ x fits. fits)) (λ x. refl) (λ x fits. fits)
reader_of record_kind.Queue = reads (ends queue_reader (λ x fits. fits)) (λ x. refl) (λ x fits. fits)

-- a body of this kind
pub record BodyFor (k : RecordKind) (b : Body) : Type 0 where
  pub fits : BodyFits b
  pub is : body_parts b ≡ Some (k, fields_in (body_parts b))

pub body_reader : (k : RecordKind) → IsReader (Spells (BodyFor k) (λ b. fields_in (body_parts b))) (body_at k)
body_reader k =
    said (reader_of k)
    (λ b text s. record {
      fits = record { fits = s.fits; is = s.is ∙ ap (λ t. Some (k, t)) (sym (ap fields_in s.is)) };
      is = sym (ap fields_in s.is);
    })
    (λ b text s. record { fits = s.fits.fits; is = s.fits.is ∙ ap (λ t. Some (k, t)) (sym s.is) })
