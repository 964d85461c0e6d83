use Rattle.std.proofs.Common.{◌≡◌, ◌+◌, ◌≤◌, true, List, length, None, option_copied}
use Rattle.qm_history.specs.Lines.{lines_from}
use Rattle.qm_history.specs.Script.{UserLine}
use Rattle.qm_script.specs.ClusterLines.{user_lines_view}
use Rattle.qm_script.specs.Extents.{parts_of}
use Rattle.qm_script.specs.Heads.{behind_lines}
use Rattle.qm_script.proofs.lines.read_all.Given as goal

-- the lines so far and those of the rest are those of the whole, and each line took a byte at least
abbrev pub invariant-loop-step : goal.invariant-loop-step
invariant-loop-step l = record {
  so_far : List UserLine;
  lines : behind_lines so_far (lines_from (option_copied l.nodes) None l.number (parts_of l.rest)) ≡ lines_from (option_copied l.nodes) None 1 (parts_of l.script);
  all : l.are_all ≡ true → user_lines_view l.lines.items ≡ so_far;
  number : l.number + length l.rest ≤ length l.script + 1;
  short : length l.rest ≤ length l.script;
}

abbrev pub decreases-loop-step : goal.decreases-loop-step
decreases-loop-step l = length l.rest
