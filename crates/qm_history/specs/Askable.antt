-- What nodes may ask for.
-- OpenVMS User's Manual, on entering commands. This site's own: the acts, and that a compaction isn't built.
use Rattle.std.specs.Prelude.{◌≡◌, ◌<◌, ◌^◌, true, length}
use Rattle.qm_model.specs.Common.{Input, Request, is_built}
use Rattle.qm_kinds.specs.declared.input.Input.TheVariants as input
use Rattle.qm_kinds.specs.declared.request.Request.TheVariants as request
use Rattle.qm_record.specs.Spelling.{IsShortChange, IsShortEntryChange, IsShortQueue}

-- the lists of a request that is accepted are short enough for its record
abbrev pub HasShortLists : Request → Type 0
HasShortLists (request.InitializeQueue new) = IsShortQueue new
HasShortLists (request.SetQueue name change) = IsShortChange change
HasShortLists (request.StartQueue name change) = IsShortChange change
HasShortLists (request.Submit job) = length job.characteristics < 2 ^ 16
HasShortLists (request.SetEntry entry change) = IsShortEntryChange change
HasShortLists other = Unit {0}

-- Nodes ask for this: for requests that users and symbionts may make, for listings, and for what makes no record of its own.
abbrev pub IsAskable : Input → Type 0
IsAskable (input.Ask asked) = (is_built asked ≡ true) × HasShortLists asked
IsAskable (input.Show query) = Unit {0}
IsAskable (input.Fetch known) = Unit {0}
IsAskable input.Compact = ⊥
IsAskable (input.TakeManager on) = Unit {0}
IsAskable input.StartNode = Unit {0}
IsAskable input.StopNode = Unit {0}
IsAskable (input.Fault place kind) = Unit {0}
