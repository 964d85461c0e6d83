-- What nodes ask for: what their lines do, as far as that is built, and what they ask for of themselves.
-- OpenVMS User's Manual, on entering commands. This site's own: the acts, and that a compaction isn't built.
use Rattle.std.specs.Prelude.{ℕ, List}
use Rattle.qm_history.specs.Common.{Input, why_of, UserLine, Visit}
use Rattle.qm_kinds.specs.declared.input.Input.TheVariants as input
use Rattle.qm_kinds.specs.declared.refusal.ParseKind.TheVariants as parse
use Rattle.qm_history.specs.declared.call.Call.{Call}
use Rattle.qm_history.specs.declared.call.Call.TheVariants as call
use Rattle.qm_node.specs.Living.{presence_of}
use Rattle.qm_scans.specs.Behind.{step_of}
use Rattle.qm_node.specs.declared.asking.CallKind.{CallKind}
use Rattle.qm_line.specs.Asked.{line_asked}

-- a compaction isn't built, which is wrong from its first byte on
abbrev pub not_built : Input
not_built = input.Fault 0 parse.NotBuilt

-- the input, or where it isn't built that it isn't
abbrev pub built : Input → Input
built input.Compact = not_built
built (input.Ask asked) = input.Ask asked
built (input.Show query) = input.Show query
built (input.Fetch known) = input.Fetch known
built (input.TakeManager on) = input.TakeManager on
built input.StartNode = input.StartNode
built input.StopNode = input.StopNode
built (input.Fault place kind) = input.Fault place kind

-- what a line asks for, as far as it is built
abbrev pub read_built : UserLine → ℕ → List Visit → List ℕ → Input
read_built l reading earlier known = built (line_asked l reading earlier known)

-- a call that asks for what is built
abbrev pub built_call : Call → Call
built_call (call.Line line asked) = call.Line line (built asked)
built_call (call.Fetch known) = call.Fetch known
built_call (call.Report run told) = call.Report run told
built_call call.Leave = call.Leave

-- of what kind a call is: what is still to be known of it once it is answered
abbrev pub kind_of_call : Call → CallKind
kind_of_call asked = record { why = why_of asked; presence = presence_of asked; step = step_of asked }
