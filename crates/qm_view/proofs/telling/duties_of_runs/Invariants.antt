use Rattle.std.proofs.Common.{◌≡◌, map, filter_map, take}
use Rattle.qm_model.specs.Duties.{duty_of}
use Rattle.qm_parts.specs.ByRun.{entry_on}
use Rattle.qm_image.specs.Image.{system_of}
use Rattle.qm_view.proofs.telling.duties_of_runs.Given as goal

-- what the node has to do for the runs so far
abbrev pub invariant-loop-run : goal.invariant-loop-run
invariant-loop-run l =
    l.duties.items ≡ map (duty_of (system_of l.image) l.known) (filter_map (entry_on l.node (system_of l.image).entries) (take l.run-index l.runs))
