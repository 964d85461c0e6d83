-- What a symbiont reports of a run, as the image takes it.
use Rattle.std.specs.Prelude.{ℕ}
use Rattle.qm_model.specs.Common.{Request, RunReport, MarkReport, EndReport}
use Rattle.qm_kinds.specs.declared.request.Request.TheVariants as request
use Rattle.qm_rules.specs.declared.reported.Reported.{Reported}
use Rattle.qm_rules.specs.declared.reported.Reported.TheVariants.{Mark, End}

-- the report of the model
abbrev pub report_of : Reported → RunReport
report_of (Mark value) = MarkReport value
report_of (End status) = EndReport status

-- the request that reports it
abbrev pub asked_by : ℕ → Reported → Request
asked_by run (Mark value) = request.Mark run value
asked_by run (End status) = request.Done run status
