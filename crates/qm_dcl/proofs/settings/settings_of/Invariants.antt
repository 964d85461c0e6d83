use Rattle.std.proofs.Common.{◌≡◌, length}
use Rattle.qm_dcl.specs.Settings.{settings_from, settings_of}
use Rattle.qm_dcl.proofs.settings.settings_of.Given as goal

abbrev pub invariant-loop-rest : goal.invariant-loop-rest
invariant-loop-rest l = settings_from l.now l.text l.command l.s l.rest ≡ settings_of l.now l.text l.command l.parts

abbrev pub decreases-loop-rest : goal.decreases-loop-rest
decreases-loop-rest l = length l.rest
