use Rattle.std.proofs.Common.{◌≡◌, take}
use Rattle.qm_parts.specs.Tables.{with_tables}
use Rattle.qm_tables.specs.SpoolCounts.{CountsOf}
use Rattle.qm_image.specs.Timers.{AreTimersOf}
use Rattle.qm_image.proofs.rows.restore_entries.Given as goal

-- the entries so far are in the tables, counted, and have their timers
abbrev pub invariant-loop-entry : goal.invariant-loop-entry
invariant-loop-entry l = record {
  tables : with_tables l.system l.parts ≡ record l.system { entries = take l.entry-index l.system.entries };
  files : l.spool.files ≡ l.fn.spool.files;
  counts : CountsOf l.parts.entries l.spool.counts;
  timers : AreTimersOf l.parts.entries l.parts.timers;
}
