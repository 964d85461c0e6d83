-- The names of a queue system and of its histories that many files cite, passed on from one place. Declares nothing.
pub use Rattle.qm_kinds.specs.declared.entry.JobKind.TheVariants.{Print}
pub use Rattle.qm_kinds.specs.declared.script.ScriptKind.TheVariants.{Long}
pub use Rattle.qm_model.specs.Common.{EntryState, Fate, JobKind, FileName, Input, GREATEST_CAP, LEAST_CAP, NODES_LIMIT, TEXT_LIMIT, LAST_MOMENT}
pub use Rattle.qm_model.specs.Common.{NODE_NAME_BYTES, Query, Row, QueueChange, Body, Head, Record, Refusal, Reply, EntryChange, Job, Request, Took}
pub use Rattle.qm_model.specs.Common.{StopMode, ScriptKind, Node, System, Duty, Place, Report, Work, acting, applied, are_numbers_spent, at_moment}
pub use Rattle.qm_model.specs.Common.{change_of, completed, first_refusal_of, normal_status, AreNodes, IsConsistent, IsInOrder, duties, changed_entry}
pub use Rattle.qm_model.specs.Common.{entry_set_to, entry_numbered, is_among, first_form, first_queue, after_body, after_record, no_system, replayed}
pub use Rattle.qm_model.specs.Common.{system_after, system_of, CutShort, DeviceFailed, IsEndOf, KeptRun, KeptRuns, StepEnd, WentOn, known, next_kept}
pub use Rattle.qm_model.specs.Common.{report_told, run_kept, IsLawful, image_of, request_record, row, after_loss, interrupted, Accepted}
pub use Rattle.qm_model.specs.Common.{unless_refused, page_blocks, replied, view, is_line_byte, settled, node_at, as_pending, stopped_when_idle}
pub use Rattle.qm_model.specs.Common.{entries_on_stop, entry_aborting, is_running_in, reset_fate, reset_in, with_fate, entry_of, cut_at_blank}
pub use Rattle.qm_disk.specs.Bytes.{TakesPrefix}
pub use Rattle.qm_disk.specs.Disk.{CrashState, KeepsOthers, LeavesOnly, Meaning, Only, OnlyLooks, TellsFaults}
pub use Rattle.qm_disk.specs.Faults.{Tells, counted}
pub use Rattle.qm_glog.specs.declared.fault.OpenFault.{OpenFault}
pub use Rattle.qm_glog.specs.declared.log.Log.{Log}
pub use Rattle.qm_glog.specs.Bodies.{contents}
pub use Rattle.qm_glog.specs.Log.{need_of}
pub use Rattle.qm_glog.specs.Moments.{TornAppend}
pub use Rattle.qm_glog.specs.Records.{IsLog, size_of}
pub use Rattle.qm_bytes.specs.Laws.{Spells}
pub use Rattle.qm_bytes.specs.Spelling.{AllOf, IsList}
pub use Rattle.qm_record.specs.Faults.{IsRecord}
pub use Rattle.qm_record.specs.Spelling.{CanBeWritten, HasSpelling, is_row, record_text}
pub use Rattle.qm_history.specs.Accepted.{AreNext, CanFollow, CanStandBehind, HasListsOfNodes, IsAccepted, IsListOfNodes, IsNext, cluster}
pub use Rattle.qm_history.specs.Answering.{MayAnswer}
pub use Rattle.qm_history.specs.Answers.{answer_of, event_answer, events_answer, last_moment, moment_of, plain, shown_answer, taken_answer, takeover_of}
pub use Rattle.qm_history.specs.Askable.{IsAskable}
pub use Rattle.qm_history.specs.Calls.{IsForUsers, IsFromOutside, input_of, is_start, request_of_report, why_of}
pub use Rattle.qm_history.specs.Chest.{Grow, Note, turns_kept, unread_of}
pub use Rattle.qm_history.specs.Contents.{HoldIn, HoldWithin, HoldWorld, Keeps, compacted_by}
pub use Rattle.qm_history.specs.Course.{Begun, Extent, GoesOn, IsCourse, MadeStep, NodeState, Reading, Whole, answered, at_first, failed_steps, next_at}
pub use Rattle.qm_history.specs.Ends.{BrokenOff, Ended, FileDamaged, HasPrinted, MemoryShort, NodeEnd, NodeText, ServingEnd, TurnsSpent, extent_of}
pub use Rattle.qm_history.specs.Faults.{faults_told, is_disk_fault, is_journal, tells_disk_fault}
pub use Rattle.qm_history.specs.Leaving.{told_by}
pub use Rattle.qm_history.specs.Legal.{IsLegal, IsLegalTurn, after_turn, after_turns}
pub use Rattle.qm_history.specs.Lines.{LineFault, script_lines}
pub use Rattle.qm_history.specs.Master.{Epoch, Found, MasterState, master_text}
pub use Rattle.qm_history.specs.Order.{IsWaiting}
pub use Rattle.qm_history.specs.Reaching.{Reaches}
pub use Rattle.qm_history.specs.Reading.{read, text_asked}
pub use Rattle.qm_history.specs.Records.{record_of}
pub use Rattle.qm_history.specs.Scans.{Scans, no_scans, scans_of}
pub use Rattle.qm_history.specs.Script.{LineSort, UserLine, lines_of, steps_asked}
pub use Rattle.qm_history.specs.Serving.{IsAnswered}
pub use Rattle.qm_history.specs.ShownDuties.{AreShown, ShowsDuties}
pub use Rattle.qm_history.specs.Site.{first_name, site_of}
pub use Rattle.qm_history.specs.Start.{Hold, HoldRecords, Starts, first_byte, first_world, place_of}
pub use Rattle.qm_history.specs.Step.{CanAllCome, CanBeInDoubt, CanCome, IsReply, NamesNodes, after_event, after_events, unless_of, without}
pub use Rattle.qm_history.specs.Takeover.{takes_over}
pub use Rattle.qm_history.specs.Text.{cluster_text, text}
pub use Rattle.qm_history.specs.Turn.{ATakeover, IsBehindTakeover, IsCutShort, IsOwn, IsServed, IsTurnOf, Nothing, UnlessDown, is_down}
pub use Rattle.qm_history.specs.Visits.{Visit, visits, visits_of}
pub use Rattle.qm_history.specs.World.{IsSound, doubt_read, gone_in, held_by, is_live, log_read, nodes_where, role_in, system_in, up_with}
