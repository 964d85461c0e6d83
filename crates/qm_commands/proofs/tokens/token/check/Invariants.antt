use Rattle.std.proofs.Common.{◌≤◌, ◌-◌, length, drop}
use Rattle.qm_commands.specs.Tokens.{tokens_from, tokens_of}
use Rattle.qm_commands.proofs.TokenFollowing.{Follows}
use Rattle.qm_commands.proofs.tokens.token.check.Given as goal

abbrev pub invariant-loop-token : goal.invariant-loop-token
invariant-loop-token l = (l.at ≤ length l.text) × Follows (tokens_of l.text) (tokens_from 0 l.at (drop l.at l.text))

abbrev pub decreases-loop-token : goal.decreases-loop-token
decreases-loop-token l = length l.text - l.at
