-- What stands under a name or a number.
-- OpenVMS System Services Reference Manual, $SNDJBC and $GETQUI, on items that name queues, entries, forms and characteristics, by name or by number.
-- This site's own: the order of names byte by byte.
use Rattle.std.specs.Prelude.{ℕ, ◌==◌, Bool, ◌&&◌, List, find, Option, bytes_eq}
use Rattle.std.specs.List.{list_any}
use Rattle.std.specs.Option.{option_eq, option_cmp}
use Rattle.std.specs.Ordering.{ordering_then, nat_cmp}
use Rattle.std.specs.Cmp.Lexicographic.{slice_cmp}
use Rattle.std.specs.declared.cmp.Ordering.{Ordering}
use Rattle.qm_kinds.specs.declared.file.FileName.{FileName}
use Rattle.qm_kinds.specs.declared.file.File.{File}
use Rattle.qm_kinds.specs.declared.form.Form.{Form}
use Rattle.qm_kinds.specs.declared.form.Characteristic.{Characteristic}
use Rattle.qm_kinds.specs.declared.queue.Queue.{Queue}
use Rattle.qm_kinds.specs.declared.entry.Entry.{Entry}
use Rattle.qm_kinds.specs.declared.request.NameOrNumber.{NameOrNumber}
use Rattle.qm_kinds.specs.declared.request.NameOrNumber.TheVariants.{Name, Number}

-- names stand byte by byte
abbrev pub name_cmp : List ℕ → List ℕ → Ordering
name_cmp = slice_cmp nat_cmp

-- the name is one of these
abbrev pub is_among : List (List ℕ) → List ℕ → Bool
is_among names name = list_any (bytes_eq name) names

-- files stand by name, and then by type, none first
abbrev pub file_name_cmp : FileName → FileName → Ordering
file_name_cmp a b = ordering_then (name_cmp a.name b.name) (option_cmp name_cmp a.extension b.extension)

-- name and type are the same
abbrev pub same_file_name : FileName → FileName → Bool
same_file_name a b = bytes_eq a.name b.name && option_eq bytes_eq a.extension b.extension

-- the file of a name
abbrev pub file_named : FileName → List File → Option File
file_named name files = find (λ f. same_file_name f.name name) files

-- the queue of a name
abbrev pub queue_named : List ℕ → List Queue → Option Queue
queue_named name queues = find (λ q. bytes_eq q.name name) queues

-- the entry of a number
abbrev pub entry_numbered : ℕ → List Entry → Option Entry
entry_numbered number entries = find (λ e. e.number == number) entries

-- the form is the one that is asked for, by name or by number
abbrev pub is_form : NameOrNumber → Form → Bool
is_form (Name name) f = bytes_eq f.name name
is_form (Number number) f = f.number == number

-- the form that is asked for
abbrev pub form_wanted : NameOrNumber → List Form → Option Form
form_wanted wanted forms = find (is_form wanted) forms

-- the characteristic is the one that is asked for, by name or by number
abbrev pub is_characteristic : NameOrNumber → Characteristic → Bool
is_characteristic (Name name) c = bytes_eq c.name name
is_characteristic (Number number) c = c.number == number

-- the characteristic that is asked for
abbrev pub characteristic_wanted : NameOrNumber → List Characteristic → Option Characteristic
characteristic_wanted wanted characteristics = find (is_characteristic wanted) characteristics
