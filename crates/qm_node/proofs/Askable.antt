-- What nodes ask for can be asked for.
use Rattle.std.proofs.Common.{◌<◌, ◌^◌, ℕ, length, Bool, true, false, cond, ◌==◌, List, codes, Option, None, Some, Result, Ok, Err, refl, IfOk, nat_le, ◌&&◌, bytes_eq}
use Rattle.qm_kinds.specs.Files.{file_name_of}
use Rattle.qm_history.specs.Common.{FileName, Input, QueueChange, Report, AllOf, cut_at_blank, request_of_report, Scans, IsAskable}
use Rattle.qm_kinds.specs.declared.input.Input.TheVariants as input
use Rattle.qm_kinds.specs.declared.refusal.ParseKind.TheVariants as parse
use Rattle.qm_kinds.specs.declared.request.NameOrNumber.{NameOrNumber}
use Rattle.qm_kinds.specs.declared.request.Request.TheVariants.{Append, Fill, Mark, Tick}
use Rattle.qm_kinds.specs.declared.work.Report.TheVariants as report
use Rattle.qm_record.specs.Spelling.{IsShortChange}
use Rattle.qm_commands.specs.declared.fault.Fault.{Fault as TextFault}
use Rattle.qm_model.specs.Batch.{is_mark}
use Rattle.qm_model.specs.Script.{act_from, act_number, act_of, append_to, done_act, done_by, drop_act, fill_act, filled_by, is_act_word, line_act, malformed_act, mark_act, marked_by, step_act, step_number, steps_in}
use Rattle.qm_dcl.specs.Command.{command_of}
use Rattle.qm_dcl.specs.Lines.{or_fault}
use Rattle.qm_dcl.proofs.EachAsked.{OfEach, HasFewIfGiven, of_asked}
use Rattle.qm_sjc.proofs.EachAsked.{OfEach as OfEachItems, of_items}
use Rattle.qm_history.specs.Acts.{act_with, bytes_act, bytes_by, hex_bytes, malformed}
use Rattle.qm_history.specs.Acts as acts
use Rattle.qm_history.specs.Reading.{function_of, items_by, items_from, text_asked, with_scans}
use Rattle.qm_history.specs.Script.{LineSort, Command, Items, Act, UserLine}
use Rattle.qm_sjc.specs.Meant.{items_mean}
use Rattle.qm_node.specs.Asking.{built}
use Rattle.qm_line.specs.Asked.{line_with, command_means}

-- it can be asked for, as far as it is built
abbrev Can : Input → Type 0
Can asked = IsAskable (built asked)

-- ---- commands

short_given : (given : Option (List NameOrNumber)) → HasFewIfGiven given → AllOf (λ (xs : List NameOrNumber). length xs < 2 ^ 16) given
short_given None few = tt
short_given (Some xs) few = few

short_change : (change : QueueChange) → HasFewIfGiven change.characteristics → IsShortChange change
short_change change few = short_given change.characteristics few

each_can : OfEach Can
each_can = record {
  shows = λ query. tt;
  takes_manager = λ on. tt;
  submits = λ job few. (refl, few);
  sets_entry = λ number change few. (refl, short_given change.characteristics few);
  deletes_entry = λ number. (refl, tt);
  defines_form = λ form built. (built, tt);
  deletes_form = λ name. (refl, tt);
  defines_characteristic = λ c built. (built, tt);
  deletes_characteristic = λ name. (refl, tt);
  initializes = λ new built few characteristics. (built, record { targets = few; change = short_change new.change characteristics });
  sets = λ name change few. (refl, short_change change few);
  starts = λ name change few. (refl, short_change change few);
  stops = λ name how. (refl, tt);
  aborts = λ name entry requeue. (refl, tt);
  deletes_queue = λ name. (refl, tt);
  merges = λ to from. (refl, tt);
}

command_can : (read : Result Input TextFault) → IfOk read Can → Can (or_fault read)
command_can (Ok asked) h = h
command_can (Err f) h = tt

-- ---- acts

append_can : (file : Option FileName) (text : List ℕ) → Can (append_to file text)
append_can None text = tt
append_can (Some file) text = (refl, tt)

line_can : (parts : Option (List ℕ × List ℕ)) → Can (line_act parts)
line_can None = tt
line_can (Some parts) = append_can _ parts.1

done_by_can : (run status : Option ℕ) → Can (done_by run status)
done_by_can None status = tt
done_by_can (Some run) None = tt
done_by_can (Some run) (Some status) = (refl, tt)

done_can : (parts : Option (List ℕ × List ℕ)) → Can (done_act parts)
done_can None = tt
done_can (Some parts) = done_by_can (act_number 18446744073709551615 parts.0) (act_number 4294967295 parts.1)

fill_count_can : (file : FileName) (lines : ℕ) (none : Bool) → Can (cond none (input.Fault 0 parse.Form) (input.Ask (Fill file lines)))
fill_count_can file lines true = tt
fill_count_can file lines false = (refl, tt)

filled_can : (file : Option FileName) (lines : Option ℕ) → Can (filled_by file lines)
filled_can None lines = tt
filled_can (Some file) None = tt
filled_can (Some file) (Some lines) = fill_count_can file lines (lines == 0)

fill_can : (parts : Option (List ℕ × List ℕ)) → Can (fill_act parts)
fill_can None = tt
fill_can (Some parts) = filled_can (file_name_of parts.0) (act_number 1024 parts.1)

drop_can : (file : Option FileName) → Can (drop_act file)
drop_can None = tt
drop_can (Some file) = (refl, tt)

marked_can : (b : Bool) (run : ℕ) (mark : List ℕ) → Can (cond b (input.Ask (Mark run mark)) (input.Fault 0 parse.Form))
marked_can true run mark = (refl, tt)
marked_can false run mark = tt

marked_by_can : (run : Option ℕ) (mark : List ℕ) → Can (marked_by run mark)
marked_by_can None mark = tt
marked_by_can (Some run) mark = marked_can (is_mark mark) run mark

mark_can : (parts : Option (List ℕ × List ℕ)) → Can (mark_act parts)
mark_can None = tt
mark_can (Some parts) = marked_by_can (act_number 18446744073709551615 parts.0) parts.1

steps_can : (steps : Option ℕ) → Can (step_act steps)
steps_can None = tt
steps_can (Some n) = tt

faulty : (b : Bool) → Can (cond b (input.Fault 0 parse.Form) (input.Fault 0 parse.NotBuilt))
faulty true = tt
faulty false = tt

alone_can : (tick : Bool) (text : List ℕ) → Can (cond tick (input.Ask Tick) (malformed_act text))
alone_can true text = (refl, tt)
alone_can false text = faulty (is_act_word text)

chosen_can : (line fill drop step mark done : Bool) (word rest : List ℕ)
    → Can (cond line (line_act (cut_at_blank rest)) (cond fill (fill_act (cut_at_blank rest))
    (cond drop (drop_act (file_name_of rest)) (cond step (step_act (step_number rest)) (cond mark (mark_act (cut_at_blank rest))
    (cond done (done_act (cut_at_blank rest)) (malformed_act word)))))))
chosen_can true fill drop step mark done word rest = line_can (cut_at_blank rest)
chosen_can false true drop step mark done word rest = fill_can (cut_at_blank rest)
chosen_can false false true step mark done word rest = drop_can (file_name_of rest)
chosen_can false false false true mark done word rest = steps_can (step_number rest)
chosen_can false false false false true done word rest = mark_can (cut_at_blank rest)
chosen_can false false false false false true word rest = done_can (cut_at_blank rest)
chosen_can false false false false false false word rest = faulty (is_act_word word)

one_act_can : (text : List ℕ) (parts : Option (List ℕ × List ℕ)) → Can (act_from text parts)
one_act_can text None = alone_can (bytes_eq text (codes "TICK")) text
one_act_can text (Some parts) =
    chosen_can (bytes_eq parts.0 (codes "LINE")) (bytes_eq parts.0 (codes "FILL")) (bytes_eq parts.0 (codes "DROP")) (bytes_eq parts.0 (codes "STEP")) (bytes_eq parts.0 (codes "MARK"))
    (bytes_eq parts.0 (codes "DONE")) parts.0 parts.1

-- ---- acts of a cluster

word_can : (tick compact stop start : Bool)
    → Can (cond tick (input.Ask Tick) (cond compact input.Compact (cond stop input.StopNode (cond start input.StartNode malformed))))
word_can true compact stop start = (refl, tt)
word_can false true stop start = tt
word_can false false true start = tt
word_can false false false true = tt
word_can false false false false = tt

step_can : (known : List ℕ) (steps : Option ℕ) → Can (acts.step_act known steps)
step_can known None = tt
step_can known (Some steps) = tt

bytes_count_can : (few : Bool) (file : FileName) (bytes : List ℕ) → Can (cond few (input.Ask (Append file bytes)) malformed)
bytes_count_can true file bytes = (refl, tt)
bytes_count_can false file bytes = tt

bytes_by_can : (file : Option FileName) (bytes : Option (List ℕ)) → Can (bytes_by file bytes)
bytes_by_can None bytes = tt
bytes_by_can (Some file) None = tt
bytes_by_can (Some file) (Some bytes) = bytes_count_can (nat_le 1 (length bytes) && nat_le (length bytes) 65536) file bytes

bytes_can : (parts : Option (List ℕ × List ℕ)) → Can (bytes_act parts)
bytes_can None = tt
bytes_can (Some parts) = bytes_by_can (file_name_of parts.0) (hex_bytes parts.1)

with_can : (step act bytes : Bool) (known text : List ℕ) (parts : List ℕ × List ℕ)
    → Can (cond step (acts.step_act known (steps_in text)) (cond act (act_of text) (cond bytes (bytes_act (cut_at_blank parts.1)) malformed)))
with_can true act bytes known text parts = step_can known (steps_in text)
with_can false true bytes known text parts = one_act_can text (cut_at_blank text)
with_can false false true known text parts = bytes_can (cut_at_blank parts.1)
with_can false false false known text parts = tt

acts_can : (known text : List ℕ) (parts : Option (List ℕ × List ℕ)) → Can (act_with known text parts)
acts_can known text None =
    word_can (bytes_eq text (codes "TICK")) (bytes_eq text (codes "COMPACT")) (bytes_eq text (codes "STOP")) (bytes_eq text (codes "START"))
acts_can known text (Some parts) = with_can (bytes_eq parts.0 (codes "STEP")) (is_act_word parts.0) (bytes_eq parts.0 (codes "BYTES")) known text parts

-- ---- item lists

each_item : OfEachItems Can
each_item = record {
  shows = λ query. tt;
  faults = λ place kind. tt;
  appends = λ file bytes. (refl, tt);
  fills = λ file lines. (refl, tt);
  drops = λ file. (refl, tt);
  defines_form = λ form built. (built, tt);
  deletes_form = λ name. (refl, tt);
  defines_characteristic = λ c built. (built, tt);
  deletes_characteristic = λ name. (refl, tt);
  initializes = λ new built few characteristics. (built, record { targets = few; change = short_change new.change characteristics });
  sets = λ name change few. (refl, short_change change few);
  starts = λ name change few. (refl, short_change change few);
  stops = λ name how. (refl, tt);
  aborts = λ name entry requeue. (refl, tt);
  deletes_queue = λ name. (refl, tt);
  merges = λ to from. (refl, tt);
  submits = λ job few. (refl, few);
  sets_entry = λ number change few. (refl, short_given change.characteristics few);
  deletes_entry = λ number. (refl, tt);
}

-- whatever listings the node has begun
scanned_can : (begun : Scans) (asked : Input) → Can asked → Can (with_scans begun asked)
scanned_can begun (input.Show query) can = tt
scanned_can begun (input.Ask r) can = can
scanned_can begun (input.Fetch known) can = can
scanned_can begun input.Compact can = can
scanned_can begun (input.TakeManager on) can = can
scanned_can begun input.StartNode can = can
scanned_can begun input.StopNode can = can
scanned_can begun (input.Fault place kind) can = can

items_by_can : (user : List ℕ) (begun : Scans) (function : Option ℕ) (bytes : Option (List ℕ)) → Can (items_by items_mean user begun function bytes)
items_by_can user begun None bytes = tt
items_by_can user begun (Some function) None = tt
items_by_can user begun (Some function) (Some bytes) = scanned_can begun (items_mean function bytes user) (of_items each_item user function bytes)

items_from_can : (user : List ℕ) (begun : Scans) (parts : Option (List ℕ × List ℕ)) → Can (items_from items_mean user begun parts)
items_from_can user begun None = tt
items_from_can user begun (Some parts) = items_by_can user begun (function_of parts.0) (hex_bytes parts.1)

text_can : (sort : LineSort) (user : List ℕ) (reading : ℕ) (text : List ℕ) (begun : Scans) (known : List ℕ) → Can (text_asked items_mean command_means sort user reading text begun known)
text_can Command user reading text begun known = command_can (command_of user reading text) (of_asked each_can user reading text)
text_can Items user reading text begun known = items_from_can user begun (cut_at_blank text)
text_can Act user reading text begun known = acts_can known text (cut_at_blank text)

pub line_askable : (begun : Scans) (l : UserLine) (reading : ℕ) (known : List ℕ) → IsAskable (built (line_with l reading begun known))
line_askable begun l reading known = text_can l.line.sort l.user reading l.line.text begun known

pub report_askable : (run : ℕ) (told : Report) → IsAskable (input.Ask (request_of_report run told))
report_askable run (report.Mark value next) = (refl, tt)
report_askable run (report.Done status) = (refl, tt)
