use Rattle.std.proofs.Common.{◌≡◌, length, take, drop}
use Rattle.qm_values.specs.ItemText.{text}
use Rattle.qm_values.specs.declared.codes.TheConstants.{CHARACTERISTIC, TARGET}
use Rattle.qm_sjc.specs.Judging.{count_in, fault_behind, first_fault}
use Rattle.qm_sjc.proofs.judging.first_fault.Given as goal

-- the items so far have no fault
abbrev pub invariant-loop-i : goal.invariant-loop-i
invariant-loop-i l =
    (fault_behind l.fn.function l.items (take l.i l.items) (drop l.i l.items) ≡ first_fault l.fn.function l.items)
    × (l.place ≡ length (text (take l.i l.items)))
    × (l.repeats.characteristics ≡ count_in CHARACTERISTIC (take l.i l.items))
    × (l.repeats.targets ≡ count_in TARGET (take l.i l.items))
