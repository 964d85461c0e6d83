-- Which record an event puts into the log.
-- OpenVMS System Manager's Manual, Managing the Queue Manager and Queue Database, on the journal file.
use Rattle.std.specs.Prelude.{Option, None, Some}
use Rattle.qm_model.specs.Common.{Record, request_record}
use Rattle.qm_kinds.specs.declared.request.Request.TheVariants as request
use Rattle.qm_history.specs.declared.event.Event.{Event}
use Rattle.qm_history.specs.declared.event.Event.TheVariants as event

-- the record that an event puts into the log, or that it leaves in doubt
abbrev pub record_of : Event → Option Record
record_of (event.Done node moment asked reply) = Some (request_record moment node asked)
record_of (event.Doubt node moment asked) = Some (request_record moment node asked)
record_of (event.Took node moment epoch gone up may kept) = Some (request_record moment node (request.Took epoch gone up may))
record_of (event.Refused node moment input refusal) = None
record_of (event.Shown node moment input) = None
record_of (event.Full node need cap) = None
record_of (event.NoManager node) = None
record_of (event.TakeDoubt node tried kept) = None
record_of (event.Fenced node held current) = None
record_of (event.Stopped node) = None
record_of (event.Left node) = None
record_of (event.Started node) = None
record_of (event.Compacted node epoch file) = None
record_of (event.CompactDoubt node) = None
