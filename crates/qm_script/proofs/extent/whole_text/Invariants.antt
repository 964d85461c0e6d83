use Rattle.std.proofs.Common.{◌≡◌, ◌+◌, ◌≤◌, ◌-◌, ℕ, List, ◌++◌, length, Option, Some}
use Rattle.qm_history.specs.Lines.{lines_from}
use Rattle.qm_script.specs.Extents.{parts_of, joined}
use Rattle.qm_script.proofs.Joining.{JoinsOn}
use Rattle.qm_script.proofs.extent.whole_text.Given as goal

-- what stands in front goes on behind, and each line took a byte at least
abbrev pub invariant-loop-place : goal.invariant-loop-place
invariant-loop-place l = record {
  front : List ℕ;
  behind : List ℕ;
  whole : l.script ≡ front ++ behind;
  at : l.at ≡ length front;
  goes : (names : Option (List (List ℕ))) (number at : ℕ) (begun : List ℕ)
      → lines_from names (Some (number, begun)) at (parts_of l.script) ≡ lines_from names (Some (number, begun ++ joined front)) (at + l.lines) (parts_of behind);
  joins : JoinsOn front;
  few : l.lines ≤ l.at;
  inside : l.at ≤ length l.script;
}

abbrev pub decreases-loop-place : goal.decreases-loop-place
decreases-loop-place l = length l.script - l.at
