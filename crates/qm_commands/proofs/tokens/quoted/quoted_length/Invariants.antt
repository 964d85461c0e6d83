use Rattle.std.proofs.Common.{◌≡◌, ◌≤◌, ◌-◌, ◌+◌, false, length, drop, option_map}
use Rattle.qm_commands.specs.TokenBytes.{quoted_length}
use Rattle.qm_commands.proofs.tokens.quoted.quoted_length.Given as goal

abbrev pub invariant-loop-length : goal.invariant-loop-length
invariant-loop-length l = (l.length ≤ length l.text) × (quoted_length false l.text ≡ option_map (λ n. l.length + n) (quoted_length l.behind_quote (drop l.length l.text)))

abbrev pub decreases-loop-length : goal.decreases-loop-length
decreases-loop-length l = length l.text - l.length
