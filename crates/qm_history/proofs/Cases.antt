-- Calls of two nodes as a table, the turns that they make, and what is printed of them; and what single turns and steps may be.
use Rattle.std.proofs.Common.{◌≡◌, ℕ, lit<, Bool, true, false, List, [], ◌∷◌, ◌++◌, refl, None, Some, codes, Ok, Err}
use Rattle.std.specs.Fmt.{digits}
use Rattle.qm_history.specs.Common.{Input, Duty, Work, IsWaiting, KeptRun, DeviceFailed, CutShort, WentOn, IsEndOf, report_told, after_turn, script_lines, text, cluster_text}
use Rattle.qm_kinds.specs.declared.input.Input.TheVariants as input
use Rattle.qm_kinds.specs.declared.refusal.ParseKind.TheVariants as parse
use Rattle.qm_kinds.specs.declared.request.Request.TheVariants as request
use Rattle.qm_kinds.specs.declared.script.ScriptKind.TheVariants as wrong
use Rattle.qm_kinds.specs.declared.work.Report.TheVariants as report
use Rattle.qm_model.proofs.Duties.{plain_work}
use Rattle.qm_history.specs.declared.call.Answer.TheVariants as answer
use Rattle.qm_history.specs.declared.call.Call.TheVariants as call
use Rattle.qm_history.specs.declared.event.Event.{Event}
use Rattle.qm_history.specs.declared.event.Event.TheVariants as event
use Rattle.qm_history.specs.declared.turn.Turn.{Turn}
use Rattle.qm_history.specs.declared.turn.Why.TheVariants as why
use Rattle.qm_history.specs.declared.world.World.{World}
use Rattle.qm_history.specs.Answering.{IsOneTakeover}
use Rattle.qm_history.specs.Computed.{turn_of}
use Rattle.qm_history.specs.Course.{NodeState, at_first, behind_step, behind_step_line, next_at, Begun, Whole, IsBrokenOff, next_run}
use Rattle.qm_history.specs.Room.{HaveRoom}
use Rattle.qm_history.specs.Script.{UserLine, LineSort, Command, Act}
use Rattle.qm_history.specs.Turn.{IsServed, IsTakeoverAlone}
use Rattle.qm_history.proofs.Serving.{Asked, history, new_site, world_of, no_items}

abbrev site : World
site = world_of new_site

abbrev line : ℕ → ℕ → Input → Asked
line node number asked = record { node = node; reading = 1000; call = call.Line number asked }

-- ---- nodes that stop and start

-- A takes over, stops, is down, and comes up by taking over again; B, whose epoch is none, may not compact, stops beside the
-- manager and comes up beside it; A compacts; and a line that can't be read is refused.
abbrev calls : List Asked
calls =
    line 0 1 (input.Ask request.Tick)
    ∷ line 0 2 input.StopNode
    ∷ line 0 3 (input.Ask request.Tick)
    ∷ line 0 4 input.StartNode
    ∷ line 0 5 input.StartNode
    ∷ line 1 6 input.Compact
    ∷ line 1 7 input.StopNode
    ∷ line 1 8 input.StartNode
    ∷ line 0 9 input.Compact
    ∷ line 0 10 (input.Fault 3 parse.Word)
    ∷ []

-- Without this a START could take over and record its node a second time, a node that is down could be served, or a fault in a
-- line could bring a manager about. The lines stand node by node, and the last one says whose turn each was. (Which file a
-- compaction makes the live one is left open here; where room is told it is the other one.)
pub text_of_the_cluster : cluster_text no_items site (history site calls)
    ≡ codes "A 1: tick\nA 2: node A stopped\nA 3: %QMAN-E-NODEDOWN\nA 4: node A started\nA 5: %QMAN-E-INVPARVAL\n"
    ++ codes "A 9: compacted, live file 1\nA 10: %QMAN-E-PARSE, byte 3: word\n"
    ++ codes "B 6: %QMAN-E-FENCED, held 0, current 2\nB 7: node B stopped\nB 8: node B started\nturns: A A A A A B B B A A\n"
unfolding digits
text_of_the_cluster = refl

-- ---- takeovers that fail

abbrev both : List (List ℕ)
both = codes "A" ∷ codes "B" ∷ []

abbrev turn : ℕ → ℕ → List Event → Turn
turn node number events = record { node = node; why = why.Line number; moment = 1000; events = events }

-- the record of A's takeover is in doubt, and B's takeover finds it
abbrev in_doubt : List Event
in_doubt = event.TakeDoubt 0 1 None ∷ event.Doubt 0 1000 (request.Took 1 both both both) ∷ []

abbrev tick : Input
tick = input.Ask request.Tick

pub a_takeover_may_be_in_doubt : IsServed site 0 1000 (call.Line 1 tick) in_doubt
a_takeover_may_be_in_doubt = (refl, (refl, refl, refl, refl, refl))

abbrev behind_doubt : World
behind_doubt = after_turn site (turn 0 1 in_doubt)

-- Without this the next call could go on as though nothing had been in doubt.
pub the_next_one_tells : text no_items site (turn 0 1 in_doubt ∷ turn_of behind_doubt 1 1000 (Some true) (call.Line 2 tick) ∷ [])
    ≡ codes "A 1: %QMAN-F-JOURNAL\nB 2: %QMAN-I-KEPT\nB 2: tick\n"
unfolding digits
the_next_one_tells = refl

-- the master has no room for an epoch: that is told before one is tried, with what the master would take
abbrev full_master : List Event
full_master = event.TakeDoubt 0 0 None ∷ event.Full 0 1048587 1048576 ∷ []

-- Without this a takeover could fail at a full master with any numbers.
pub a_full_master_is_told : HaveRoom None site (record { master = 1048570; live = 100; file = 1; cap = 4096 }) 1000 tick full_master
a_full_master_is_told = (tt, ((refl, refl, lit< tt), tt))

-- memory ran out behind a takeover: that is all of the turn, and what is answered
abbrev alone : List Event
alone = event.Took 0 1000 1 both both both None ∷ []

-- Without this such a turn could say that nothing happened, where the takeover is recorded.
pub a_turn_may_be_cut_short : IsTakeoverAlone site 0 1000 tick alone × IsOneTakeover alone
a_turn_may_be_cut_short = ((refl, refl, (refl, refl, refl, refl)), refl)

-- ---- steps

-- a print job of one page as a node has it
abbrev work_of_run : ℕ → Work
work_of_run run = plain_work run (codes "F") (codes "LP") (codes "page\n")

abbrev duty : ℕ → Bool → Bool → Duty
duty run aborting paused = record { run = run; aborting = aborting; paused = paused; work = Some (work_of_run run) }

-- a STEP line of three steps was shown a run, one of a paused queue, and one of a paused queue that is to be cut short
abbrev shown : NodeState
shown = behind_step_line 0 (at_first []) 3 (answer.Duties None 1000 (duty 1 false false ∷ duty 2 false true ∷ duty 3 true true ∷ []))

-- Without this a paused run could print, or an aborting one wait for ever.
pub paused_runs_wait : shown.kept.round ≡ 1 ∷ 3 ∷ []
paused_runs_wait = refl

abbrev first_run : KeptRun
first_run = record { run = 1; aborting = false; paused = false; work = work_of_run 1; place = record { at = 0; used = 0 }; fetched = 0 }

abbrev aborting_run : KeptRun
aborting_run = record { run = 3; aborting = true; paused = true; work = work_of_run 3; place = record { at = 0; used = 0 }; fetched = 0 }

-- A device that fails ends its run with status 1028, and the node knows it no more. Without this it could be tried again.
pub a_failing_device_ends_its_run : report_told first_run DeviceFailed ≡ report.Done 1028
a_failing_device_ends_its_run = refl

pub it_is_forgotten : (behind_step shown first_run (3 ∷ []) (report.Done 1028) (answer.Journal None true)).kept.round ≡ 3 ∷ []
it_is_forgotten = refl

-- an aborting run is cut short, with status 44, and its symbiont isn't asked
pub an_aborting_run_is_cut_short : report_told aborting_run CutShort ≡ report.Done 44
an_aborting_run_is_cut_short = refl

pub no_symbiont_works_for_it : IsEndOf true WentOn → ⊥
no_symbiont_works_for_it end = end

-- A course that was only begun may break off within the step of the first run; a whole one can't. Without this blocks could come
-- that no step accounts for.
pub a_begun_course_breaks_off : IsBrokenOff Begun (next_run shown (next_at true shown shown.stage)) (Some first_run)
a_begun_course_breaks_off = (refl, refl)

pub a_whole_one_doesnt : IsBrokenOff Whole (next_run shown (next_at true shown shown.stage)) (Some first_run) → ⊥
a_whole_one_doesnt off = off

-- Where the first run is to step, its node doesn't wait; before its first line it does. Without this one thread that breaks off
-- could leave out the steps behind a STEP line.
pub steps_are_not_left_out : IsWaiting shown.stage (next_at true shown shown.stage) → ⊥
steps_are_not_left_out waits = waits

pub before_its_lines_it_waits : IsWaiting (at_first []).stage (next_at true (at_first []) (at_first []).stage)
before_its_lines_it_waits = tt

-- ---- lines

abbrev asked_by_system : ℕ → LineSort → List ℕ → UserLine
asked_by_system number sort what = record { line = record { number = number; node = codes "A"; sort = sort; text = what }; user = codes "SYSTEM" }

-- A command goes on where the line itself ends in `-`, and an empty line ends it: what stands before that `-` stays. Without this
-- the act behind it would be a part of the command.
pub an_empty_line_ends_a_command : script_lines (Some (codes "A" ∷ [])) (codes "A $ X--\n\nA ! TICK\n")
    ≡ Ok (asked_by_system 1 Command (codes "X-") ∷ asked_by_system 3 Act (codes "TICK") ∷ [])
an_empty_line_ends_a_command = refl

-- Where the files can't be read no node is asked for, and what else is wrong is told, though an earlier line names no node of the
-- cluster.
pub no_node_is_asked_for : script_lines None (codes "Z $ X\nA\n") ≡ Err (record { line = 2; kind = wrong.Form })
no_node_is_asked_for = refl
