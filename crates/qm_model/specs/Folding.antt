-- What records stand for, one after the other.
-- OpenVMS System Manager's Manual, Managing the Queue Manager and Queue Database, on the recovery of the queue database.
use Rattle.std.specs.Prelude.{ℕ, List, [], ◌∷◌, ◌++◌, Result, Ok, Err}
use Rattle.qm_kinds.specs.declared.record.Record.{Record}
use Rattle.qm_kinds.specs.declared.record.Body.{Body}
use Rattle.qm_kinds.specs.declared.record.Body.TheVariants as body
use Rattle.qm_kinds.specs.declared.refusal.Refusal.{Refusal}
use Rattle.qm_kinds.specs.declared.system.System.{System}
use Rattle.qm_model.specs.Applied.{applied}
use Rattle.qm_model.specs.Outcome.{Accepted}

-- what stands before the first row of an image
abbrev pub no_system : System
no_system = record {
  nodes = [];
  may = [];
  forms = [];
  characteristics = [];
  files = [];
  queues = [];
  entries = [];
  next_entry = 0;
  next_run = 0;
  last = 0;
}

-- a refused request leaves the system as it is
abbrev pub system_after : System → Result Accepted Refusal → System
system_after s (Ok accepted) = accepted.system
system_after s (Err refusal) = s

-- a request changes the system, a head begins one, and each other row adds what it says
abbrev pub after_body : System → ℕ → ℕ → Body → System
after_body s moment node (body.Ask request) = system_after s (applied s moment node request)
after_body s moment node (body.Head nodes may next_entry next_run last) =
    record no_system { nodes = nodes; may = may; next_entry = next_entry; next_run = next_run; last = last }
after_body s moment node (body.Form f) = record s { forms = s.forms ++ f ∷ [] }
after_body s moment node (body.Characteristic c) = record s { characteristics = s.characteristics ++ c ∷ [] }
after_body s moment node (body.File f) = record s { files = s.files ++ f ∷ [] }
after_body s moment node (body.Queue q) = record s { queues = s.queues ++ q ∷ [] }
after_body s moment node (body.Entry e) = record s { entries = s.entries ++ e ∷ [] }

-- the system after a record
abbrev pub after_record : System → Record → System
after_record s r = after_body s r.moment r.node r.body

-- the system after records, the first one first
abbrev pub replayed : System → List Record → System
replayed s [] = s
replayed s (r ∷ records) = replayed (after_record s r) records

-- the system that a log stands for
abbrev pub system_of : List Record → System
system_of log = replayed no_system log

-- each record may stand behind those before it, by a rule for one record and the system before it
abbrev pub EachStands : (System → Record → Type 0) → System → List Record → Type 0
EachStands Stands s [] = Unit {0}
EachStands Stands s (r ∷ records) = Stands s r × EachStands Stands (after_record s r) records
