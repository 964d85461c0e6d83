-- Entries as rows of listings keep them.
use Rattle.std.specs.Prelude.{◌≡◌, []}
use Rattle.qm_kinds.specs.declared.entry.Entry.{Entry}
use Rattle.qm_kinds.specs.declared.entry.EntryState.{EntryState}
use Rattle.qm_kinds.specs.declared.entry.EntryState.TheVariants as state
use Rattle.qm_kinds.specs.declared.entry.JobRetain.TheVariants as retain
use Rattle.qm_kinds.specs.declared.listed.Kept.{Kept}
use Rattle.qm_kinds.specs.declared.listed.Kept.TheVariants.{Plain, Whole}
use Rattle.qm_kinds.specs.declared.plain.PlainEntry.{PlainEntry}
use Rattle.qm_kinds.specs.declared.plain.PlainState.{PlainState}
use Rattle.qm_kinds.specs.declared.plain.PlainState.TheVariants as plain

-- the state of a job that doesn't run
abbrev pub state_of_plain : PlainState → EntryState
state_of_plain plain.Pending = state.Pending
state_of_plain plain.Holding = state.Holding
state_of_plain (plain.Timed at) = state.Timed at
state_of_plain (plain.Retained status until) = state.Retained status until

-- no characteristics, no mark, and kept as the queue says
pub record IsUsual (e : Entry) : Type 0 where
  pub characteristics : e.characteristics ≡ record { 0 = 0 }
  pub mark : e.mark ≡ []
  pub retain : e.retain ≡ retain.Default

-- a plain entry, with what it leaves out
abbrev pub entry_of_plain : PlainEntry → Entry
entry_of_plain p = record {
  number = p.number;
  kind = p.kind;
  home = p.names.home;
  name = p.names.name;
  user = p.names.user;
  file = p.names.file;
  size = p.size;
  priority = p.priority;
  after = p.after;
  held = p.held;
  retain = retain.Default;
  restart = p.restart;
  characteristics = record { 0 = 0 };
  form = p.names.form;
  copies = p.copies;
  flag = p.flag;
  mark = [];
  again = p.again;
  state = state_of_plain p.state;
}

-- the entry that a row keeps
abbrev pub entry_kept : Kept → Entry
entry_kept (Plain p) = entry_of_plain p
entry_kept (Whole e) = e.value
