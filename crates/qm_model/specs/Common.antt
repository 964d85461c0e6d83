-- The names of a queue system that many files cite, passed on from one place. Declares nothing.
pub use Rattle.qm_kinds.specs.declared.entry.Entry.{Entry}
pub use Rattle.qm_kinds.specs.declared.entry.EntryState.{EntryState}
pub use Rattle.qm_kinds.specs.declared.entry.EntryState.TheVariants.{Aborting, Holding, Pending, Retained, Running, Timed}
pub use Rattle.qm_kinds.specs.declared.entry.Fate.{Fate}
pub use Rattle.qm_kinds.specs.declared.entry.Fate.TheVariants.{Finish, Remove, Requeue}
pub use Rattle.qm_kinds.specs.declared.entry.JobKind.{JobKind}
pub use Rattle.qm_kinds.specs.declared.entry.JobRetain.{JobRetain}
pub use Rattle.qm_kinds.specs.declared.entry.JobRetain.TheVariants.{Default, Until}
pub use Rattle.qm_kinds.specs.declared.file.File.{File}
pub use Rattle.qm_kinds.specs.declared.file.FileName.{FileName}
pub use Rattle.qm_kinds.specs.declared.form.Characteristic.{Characteristic}
pub use Rattle.qm_kinds.specs.declared.form.Form.{Form}
pub use Rattle.qm_kinds.specs.declared.form.Shape.{Shape}
pub use Rattle.qm_kinds.specs.declared.input.Input.{Input}
pub use Rattle.qm_kinds.specs.declared.input.Input.TheVariants.{Ask, Compact, Fault, Fetch, Show, StartNode, StopNode, TakeManager}
pub use Rattle.qm_kinds.specs.declared.limits.TheConstants.{END_OF_RUNS, ENTRIES_LIMIT, FILE_LIMIT, GREATEST_CAP, LAST_CHARACTERISTIC, LEAST_CAP, NODES_LIMIT, QUEUES_LIMIT, TEXT_LIMIT}
pub use Rattle.qm_kinds.specs.declared.moment.TheConstants.{LAST_MOMENT}
pub use Rattle.qm_kinds.specs.declared.name.TheConstants.{NODE_NAME_BYTES}
pub use Rattle.qm_kinds.specs.declared.query.After.{After}
pub use Rattle.qm_kinds.specs.declared.query.Kinds.{Kinds}
pub use Rattle.qm_kinds.specs.declared.query.Listing.{Listing}
pub use Rattle.qm_kinds.specs.declared.query.Listing.TheVariants.{Cancel, Characteristics, Entries, Forms, Jobs, Manager, Queues}
pub use Rattle.qm_kinds.specs.declared.query.Query.{Query}
pub use Rattle.qm_kinds.specs.declared.query.Row.{Row}
pub use Rattle.qm_kinds.specs.declared.queue.NewQueue.{NewQueue}
pub use Rattle.qm_kinds.specs.declared.queue.Queue.{Queue}
pub use Rattle.qm_kinds.specs.declared.queue.QueueChange.{QueueChange}
pub use Rattle.qm_kinds.specs.declared.queue.QueueKind.{QueueKind}
pub use Rattle.qm_kinds.specs.declared.queue.QueueRetain.{QueueRetain}
pub use Rattle.qm_kinds.specs.declared.queue.QueueState.{QueueState}
pub use Rattle.qm_kinds.specs.declared.queue.QueueState.TheVariants.{Paused, Started, Stopped, Stopping}
pub use Rattle.qm_kinds.specs.declared.record.Body.{Body}
pub use Rattle.qm_kinds.specs.declared.record.Body.TheVariants.{Head}
pub use Rattle.qm_kinds.specs.declared.record.Record.{Record}
pub use Rattle.qm_kinds.specs.declared.refusal.ParseKind.{ParseKind}
pub use Rattle.qm_kinds.specs.declared.refusal.Refusal.{Refusal}
pub use Rattle.qm_kinds.specs.declared.refusal.Refusal.TheVariants.{NumbersSpent}
pub use Rattle.qm_kinds.specs.declared.reply.Act.{Act}
pub use Rattle.qm_kinds.specs.declared.reply.Act.TheVariants.{EntryDeleted, EntryIs, Submitted}
pub use Rattle.qm_kinds.specs.declared.reply.Reply.{Reply}
pub use Rattle.qm_kinds.specs.declared.request.EntryChange.{EntryChange}
pub use Rattle.qm_kinds.specs.declared.request.Job.{Job}
pub use Rattle.qm_kinds.specs.declared.request.NameOrNumber.{NameOrNumber}
pub use Rattle.qm_kinds.specs.declared.request.NameOrNumber.TheVariants.{Name, Number}
pub use Rattle.qm_kinds.specs.declared.request.Request.{Request}
pub use Rattle.qm_kinds.specs.declared.request.Request.TheVariants.{AbortJob, DefineCharacteristic, DefineForm, DeleteCharacteristic, DeleteEntry, DeleteForm, DeleteQueue, InitializeQueue, Merge, SetEntry, SetQueue, StartQueue, StopQueue, Submit, Took}
pub use Rattle.qm_kinds.specs.declared.request.StopMode.{StopMode}
pub use Rattle.qm_kinds.specs.declared.request.StopMode.TheVariants.{Next, Pause, Reset}
pub use Rattle.qm_kinds.specs.declared.run.Run.{Run}
pub use Rattle.qm_kinds.specs.declared.run.Start.{Start}
pub use Rattle.qm_kinds.specs.declared.script.ScriptKind.{ScriptKind}
pub use Rattle.qm_kinds.specs.declared.system.Node.{Node}
pub use Rattle.qm_kinds.specs.declared.system.System.{System}
pub use Rattle.qm_kinds.specs.declared.work.Duty.{Duty}
pub use Rattle.qm_kinds.specs.declared.work.Place.{Place}
pub use Rattle.qm_kinds.specs.declared.work.Report.{Report}
pub use Rattle.qm_kinds.specs.declared.work.Work.{Work}
pub use Rattle.qm_kinds.specs.Files.{file_name_of, name_of}
pub use Rattle.qm_kinds.specs.Names.{default_form, system_user}
pub use Rattle.qm_kinds.specs.Sizes.{is_success}
pub use Rattle.qm_kinds.specs.Text.{IsText, is_name_byte, is_pattern_byte}
pub use Rattle.qm_kinds.specs.Wildcards.{matches}
pub use Rattle.qm_model.specs.Acting.{acting}
pub use Rattle.qm_model.specs.Appending.{append_refusal, bytes_of, is_spool_full, refused_as_named, with_file}
pub use Rattle.qm_model.specs.Applied.{applied, are_numbers_spent, asks_for_numbers, at_moment, change_of, completed, first_refusal_of, refusal_of}
pub use Rattle.qm_model.specs.Batch.{normal_status}
pub use Rattle.qm_model.specs.Before.{before, first_of}
pub use Rattle.qm_model.specs.Built.{is_built, is_definable, is_short}
pub use Rattle.qm_model.specs.Characteristics.{is_characteristic_taken}
pub use Rattle.qm_model.specs.Consistent.{AreDistinct, AreFiles, AreNodes, IsConsistent, IsEntry, IsInOrder, spooled}
pub use Rattle.qm_model.specs.Due.{due, entry_at, is_over, state_at}
pub use Rattle.qm_model.specs.Duties.{by_run, duties, duty_of, run_number, work_of}
pub use Rattle.qm_model.specs.Ending.{aborted_status, ended, fated, node_lost_status, queue_retain, requeued}
pub use Rattle.qm_model.specs.Entries.{changed_entry, entry_set_to}
pub use Rattle.qm_model.specs.Filing.{filling}
pub use Rattle.qm_model.specs.Find.{characteristic_wanted, entry_numbered, file_name_cmp, file_named, form_wanted, is_among, is_characteristic, is_form, name_cmp, queue_named, same_file_name}
pub use Rattle.qm_model.specs.First.{first_form, first_queue, first_system}
pub use Rattle.qm_model.specs.Fitting.{fits, has_characteristics, has_size, has_stock, is_of_kind, is_open, is_reached, is_started, is_up, passes_on_to, stock_of}
pub use Rattle.qm_model.specs.Folding.{after_body, after_record, no_system, replayed, system_after, system_of}
pub use Rattle.qm_model.specs.Forms.{is_form_taken, is_named}
pub use Rattle.qm_model.specs.Free.{is_free, places, places_taken}
pub use Rattle.qm_model.specs.Inserting.{inserted, with_characteristic_defined, with_form}
pub use Rattle.qm_model.specs.JobStates.{fate_of, is_aborting, is_pending, is_waiting, run_of, runs_in, runs_on}
pub use Rattle.qm_model.specs.Kept.{CutShort, DeviceFailed, IsEndOf, KeptRun, KeptRuns, StepEnd, WentOn, known, next_kept, report_told, run_kept}
pub use Rattle.qm_model.specs.Kinds.{execution_kind, is_generic, is_other_kind, is_print_queue, is_same_kind, is_same_queue_kind, job_kind}
pub use Rattle.qm_model.specs.Lawful.{IsLawful}
pub use Rattle.qm_model.specs.Log.{image_of, request_record, row}
pub use Rattle.qm_model.specs.Losing.{after_loss, interrupted, without_node}
pub use Rattle.qm_model.specs.Outcome.{Accepted, first_refusal, refused_where, unless_refused}
pub use Rattle.qm_model.specs.Pages.{lines, page_blocks}
pub use Rattle.qm_model.specs.Queues.{runs_for, without_queue}
pub use Rattle.qm_model.specs.Referring.{refused_by_entry, refused_by_queue}
pub use Rattle.qm_model.specs.Replying.{replied, replied_with_queue}
pub use Rattle.qm_model.specs.Reports.{begin, blocks_before_report, course, course_of, next_report, print_steps}
pub use Rattle.qm_model.specs.Retaining.{is_retained, retained_until}
pub use Rattle.qm_model.specs.Rows.{ManagerRole, is_past, view}
pub use Rattle.qm_model.specs.Runs.{EndReport, MarkReport, RunReport, after_report, entry_of_run, report_act, reported_of, run_reported}
pub use Rattle.qm_model.specs.Script.{is_line_byte, node_name_of}
pub use Rattle.qm_model.specs.Settings.{change_refusal, is_bad_change, with_change}
pub use Rattle.qm_model.specs.Settling.{AreStarts, has_run_numbers, next_job, settled, start_of}
pub use Rattle.qm_model.specs.Standing.{has_run, is_executing, is_run_on, node_at, occupies, stands_in, with_entry, with_queue}
pub use Rattle.qm_model.specs.Starting.{as_pending}
pub use Rattle.qm_model.specs.States.{state_on_stop, state_when_idle, stopped_when_idle, when_idle}
pub use Rattle.qm_model.specs.Stopping.{entries_on_stop, entry_aborting, is_running_in, queue_stopped, reset_fate, reset_in, state_with_fate, stopped_queue, with_fate}
pub use Rattle.qm_model.specs.Submitting.{entry_of}
pub use Rattle.qm_model.specs.Texts.{cut_at, cut_at_blank, value_of}
pub use Rattle.qm_model.specs.Wanted.{characteristics_of, form_named, refused_characteristics, refused_form}
