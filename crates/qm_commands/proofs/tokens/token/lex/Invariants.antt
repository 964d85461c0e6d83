use Rattle.std.proofs.Common.{◌≡◌, ◌≤◌, ◌-◌, length, drop}
use Rattle.qm_commands.specs.Tokens.{tokens_from, tokens_of}
use Rattle.qm_commands.proofs.TokenFollowing.{behind}
use Rattle.qm_commands.proofs.tokens.token.lex.Given as goal

abbrev pub invariant-loop-token : goal.invariant-loop-token
invariant-loop-token l = (l.at ≤ length l.text) × (tokens_of l.text ≡ behind l.tokens.items (tokens_from 0 l.at (drop l.at l.text)))

abbrev pub decreases-loop-token : goal.decreases-loop-token
decreases-loop-token l = length l.text - l.at
