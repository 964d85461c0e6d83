-- What the laws say of turns and their answers, of texts, of courses of nodes, and of the blocks that their steps hand over.
-- This site's own: all of it.
use Rattle.std.specs.Prelude.{◌≡◌, ◌≢◌, ◌⊎◌, ◌<◌, ◌≤◌, ℕ, Bool, true, false, List, [], ◌∷◌, ◌++◌, length, slice_get, is_some, Option, Some, codes, None, bytes_eq}
use Rattle.std.specs.List.{AllByRecursion}
use Rattle.qm_kinds.specs.declared.entry.JobKind.TheVariants.{Print}
use Rattle.qm_model.specs.Common.{Input, Fetch, Row, Work, normal_status, KeptRun, WentOn, report_told, page_blocks, node_at, cut_at_blank, system_user}
use Rattle.qm_kinds.specs.declared.work.Report.TheVariants.{Done}
use Rattle.qm_model.specs.Reports.{begin, next_block}
use Rattle.qm_model.specs.Script as served
use Rattle.qm_history.specs.declared.call.Answer.{Answer}
use Rattle.qm_history.specs.declared.call.Call.{Call}
use Rattle.qm_history.specs.declared.event.Event.TheVariants as event
use Rattle.qm_history.specs.declared.turn.Turn.{Turn}
use Rattle.qm_history.specs.declared.turn.Why.TheVariants as why
use Rattle.qm_history.specs.declared.world.Role.{Role}
use Rattle.qm_history.specs.declared.world.World.{World}
use Rattle.qm_history.specs.Acts.{act_asked}
use Rattle.qm_history.specs.Answering.{MayAnswer}
use Rattle.qm_history.specs.Answers.{answer_of}
use Rattle.qm_history.specs.Blocks.{AreHanded, ComeInStretches, Gives, HandsOver, IsGiven, all_steps, blocks_of_stretch}
use Rattle.qm_history.specs.Calls.{input_of, IsFromOutside}
use Rattle.qm_history.specs.Chest.{AreNoted, AreRoomTold, Note, turns_noted}
use Rattle.qm_history.specs.Computed.{turn_of, AreDetermined, AreSpelled, IsLawfulInput}
use Rattle.qm_history.specs.Course.{Begun, Extent, GoesOn, IsCourse, MadeStep, NodeState, answered, at_first, failed_steps}
use Rattle.qm_history.specs.Faults.{is_journal}
use Rattle.qm_history.specs.Happening.{IsCompactionAlone, IsForManager}
use Rattle.qm_history.specs.Leaving.{told_by}
use Rattle.qm_history.specs.Legal.{after_turn, after_turns, IsLegal, IsLegalTurn}
use Rattle.qm_history.specs.Master.{IsQueueFile}
use Rattle.qm_history.specs.Printed.{Came, ComesAgainElsewhere, EndsWell}
use Rattle.qm_history.specs.Reaching.{HasReached, IsCutAtEnd, Reaches, ReportSteps}
use Rattle.qm_history.specs.Reading.{read}
use Rattle.qm_history.specs.Room.{AreWithinRoom, IsRoomTold, Room}
use Rattle.qm_history.specs.Script.{UserLine, line_by_system, steps_asked}
use Rattle.qm_history.specs.Text.{answer_text, is_single, text, visit_text}
use Rattle.qm_history.specs.Turn.{IsCutShort, IsTurnOf}
use Rattle.qm_history.specs.Visits.{Visit, visits, visits_of}
use Rattle.qm_history.specs.World.{held_by, is_live, system_in, IsSound}

-- ---- turns and their answers

-- the turn, as it is made behind these
abbrev pub visit_behind : World → List Turn → Turn → Visit
visit_behind w before t = record { before = after_turns w before; turn = t }

-- turns, as they are made behind others
abbrev pub visits_behind : World → List Turn → List Turn → List Visit
visits_behind w before turns = visits (after_turns w before) turns

-- no call of these turns is told that a disk failed
abbrev pub NoneTellsJournal : World → List Turn → Type 0
NoneTellsJournal w turns = AllByRecursion (λ (v : Visit). is_journal (answered v) ≡ false) (visits w turns)

-- this holds of each fetch that gives a run to a node: of its turn, the run and the work
abbrev pub OfEachGiven : (Visit → ℕ → Work → Type 0) → Type 0
OfEachGiven Holds = (v : Visit) (run : ℕ) (work : Work) → Gives (answered v) run work → Holds v run work

-- this holds of each turn that holds a compaction alone, between others
abbrev pub OfEachCompaction : (World → List Turn → Turn → List Turn → Type 0) → Type 0
OfEachCompaction Holds = (w : World) (before behind : List Turn) (t : Turn) → IsCompactionAlone t → Holds w before t behind

-- the turn of COMPACT in a line, at a moment, that makes this file the live one under an epoch
abbrev pub compaction : ℕ → ℕ → ℕ → ℕ → ℕ → Turn
compaction node epoch file line moment =
    record { node = node; why = why.Line line; moment = moment; events = event.Compacted node epoch file ∷ [] }

-- the other turns are made in the same worlds with this turn between them
abbrev pub StandsBetween : World → List Turn → Turn → List Turn → Type 0
StandsBetween w before t behind =
    visits w (before ++ t ∷ behind) ≡ visits w before ++ visit_behind w before t ∷ visits_behind w before behind

-- the turn holds the fence alone
abbrev pub IsFenceAlone : World → Turn → Role → Type 0
IsFenceAlone w t role = t.events ≡ event.Fenced t.node (held_by w t.node) role.epoch ∷ []

-- turns behind others are made in the worlds that those leave
abbrev pub VisitsFollow : World → List Turn → List Turn → Type 0
VisitsFollow w before behind = visits w (before ++ behind) ≡ visits w before ++ visits_behind w before behind

-- the turn is the computed one of the call
abbrev pub IsComputed : World → Call → Turn → Type 0
IsComputed w asked t = t ≡ turn_of w t.node t.moment (told_by t.events) asked

-- this holds of each turn by which a call may be answered something
abbrev pub OfAnsweredTurns : (World → Turn → Type 0) → Type 0
OfAnsweredTurns Holds = (w : World) (asked : Call) (t : Turn) (told : Answer) → MayAnswer w asked t told → Holds w t

-- this holds of the turns of TICK and COMPACT, served whole or cut short, of a node that holds another epoch than the manager's
abbrev pub OfOtherEpochs : (World → Turn → Role → Type 0) → Type 0
OfOtherEpochs Holds =
    (w : World) (asked : Call) (t : Turn) (role : Role) → w.manager ≡ Some role → held_by w t.node ≢ role.epoch
    → IsForManager (input_of asked) → IsTurnOf w asked t ⊎ IsCutShort w asked t → Holds w t role

-- the history stays legal without the turn
abbrev pub StaysLegalWithout : World → List Turn → Turn → List Turn → Type 0
StaysLegalWithout w before t behind = IsLegal w (before ++ t ∷ behind) → IsLegal w (before ++ behind)

-- the history stays legal with the turn, where that is legal there
abbrev pub StaysLegalWith : World → List Turn → Turn → List Turn → Type 0
StaysLegalWith w before t behind =
    IsLegalTurn (after_turns w before) t → IsLegal w (before ++ behind) → IsLegal w (before ++ t ∷ behind)

-- a compaction is a legal turn of a live node that holds the manager's epoch
abbrev pub CompactionsMayCome : Type 0
CompactionsMayCome =
    (w : World) (role : Role) (node file line moment : ℕ) → w.manager ≡ Some role → held_by w node ≡ role.epoch
    → is_live w node ≡ true → node < length (system_in w).nodes → IsQueueFile file
    → IsLegalTurn w (compaction node role.epoch file line moment)

-- A call that a node of the cluster may make: it asks for nothing that is the queue manager's own, what it asks for keeps the
-- rules on names, and what its turn records has a spelling, where a takeover finds this of a record in doubt.
pub record MayCall (w : World) (node reading : ℕ) (kept : Option Bool) (asked : Call) : Type 0 where
  pub there : node < length (system_in w).nodes
  pub told : is_some kept ≡ is_some w.doubt
  pub outside : IsFromOutside (input_of asked)
  pub lawful : IsLawfulInput (system_in w) node (input_of asked)
  pub spelled : AreSpelled (turn_of w node reading kept asked).events

-- in a sound world the computed turn is one of the call
abbrev pub EachCallHasATurn : Type 0
EachCallHasATurn =
    (w : World) (node reading : ℕ) (kept : Option Bool) (asked : Call) → IsSound w → MayCall w node reading kept asked
    → IsTurnOf w asked (turn_of w node reading kept asked)

-- this holds of each turn in which no disk failed, all had room and nothing was compacted
abbrev pub OfTurnsWithoutFault : (World → Call → Turn → Type 0) → Type 0
OfTurnsWithoutFault Holds =
    (w : World) (asked : Call) (t : Turn) → IsTurnOf w asked t → AreDetermined t.events → Holds w asked t

-- two such turns of one call, of one node at one moment, are the same, where reading told the same of a record in doubt
abbrev pub TurnsWithoutFaultAreOne : Type 0
TurnsWithoutFaultAreOne =
    (w : World) (asked : Call) (t u : Turn) → t.node ≡ u.node → t.moment ≡ u.moment → told_by t.events ≡ told_by u.events
    → IsTurnOf w asked t → IsTurnOf w asked u → AreDetermined t.events → AreDetermined u.events → t ≡ u

-- this holds of notes of which each turn is one of the call that is noted with it
abbrev pub OfNotedCalls : (World → List Note → Type 0) → Type 0
OfNotedCalls Holds = (notes : List Note) (w : World) → AreNoted w notes → Holds w notes

-- this holds of each turn that tells of room what is so, and of that room
abbrev pub OfTurnsInRoom : (Room → Turn → Type 0) → Type 0
OfTurnsInRoom Holds = (w : World) (m : Room) (asked : Call) (t : Turn) → IsRoomTold w m asked t → Holds m t

-- where each noted turn tells of room what is so, up to the first one in which a disk failed, the history is within that room
abbrev pub StayWithinRoom : World → List Note → Type 0
StayWithinRoom w notes = (room : Room) → AreRoomTold w room notes → AreWithinRoom w room (turns_noted notes)

-- ---- texts

-- how a row is printed by its items
abbrev pub RowPrinter : Type 0
RowPrinter = Row → List ℕ

-- of turns behind others the text is the text of those, and behind it their own
abbrev pub FollowsTurns : (World → List Turn → List ℕ) → Type 0
FollowsTurns text_of =
    (w : World) (before behind : List Turn) → text_of w (before ++ behind) ≡ text_of w before ++ text_of (after_turns w before) behind

-- the turn shows no row of a call by an item list
abbrev pub IsListed : Visit → Type 0
IsListed v = is_single v.turn.events ≡ false

-- the text of the answer of a turn
abbrev pub text_answered : Visit → List ℕ
text_answered v = answer_text (node_at v.turn.node (system_in v.before).nodes) v.turn.why (answer_of v.before v.turn)

-- the text of turns begins with that of the first one
abbrev pub BeginsWithFirst : RowPrinter → Type 0
BeginsWithFirst items_line =
    (w : World) (t : Turn) (turns : List Turn)
    → text items_line w (t ∷ turns) ≡ visit_text items_line (record { before = w; turn = t }) ++ text items_line (after_turn w t) turns

-- ---- how lines are read

-- how lines are read: a line, at a reading of the clock, behind the node's earlier turns, by a node that keeps these runs
abbrev pub LineReader : Type 0
LineReader = UserLine → ℕ → List Visit → List ℕ → Input

-- what the bytes of an item list mean in the call of a function by a user
abbrev pub ItemReader : Type 0
ItemReader = ℕ → List ℕ → List ℕ → Input

-- what the text of a command of a user asks for that is read at a moment
abbrev pub CommandReader : Type 0
CommandReader = List ℕ → ℕ → List ℕ → Input

-- a command of SYSTEM asks for what its text does
abbrev pub CommandsAreRead : ItemReader → CommandReader → Type 0
CommandsAreRead items_mean command_means =
    (l : served.ScriptLine) (reading : ℕ) (earlier : List Visit) (known : List ℕ) → l.sort ≡ served.Command
    → read items_mean command_means (line_by_system l) reading earlier known ≡ command_means system_user reading l.text

-- a line behind which steps may follow asks for the node's runs
abbrev pub StepLinesFetch : ItemReader → CommandReader → Type 0
StepLinesFetch items_mean command_means =
    (l : UserLine) (reading : ℕ) (earlier : List Visit) (known : List ℕ) (steps : ℕ) → steps_asked l.line.sort l.line.text ≡ Some steps
    → read items_mean command_means l reading earlier known ≡ Fetch known

-- an act with words behind it asks for what it does where a script is served, but for STEP
abbrev pub ActsAreRead : Type 0
ActsAreRead =
    (known text word rest : List ℕ) → cut_at_blank text ≡ Some (word, rest) → served.is_act_word word ≡ true
    → bytes_eq word (codes "STEP") ≡ false → act_asked known text ≡ served.act_of text

-- so does an act of one word
abbrev pub LoneActsAreRead : Type 0
LoneActsAreRead =
    (known text : List ℕ) → cut_at_blank text ≡ None → served.is_act_word text ≡ true → act_asked known text ≡ served.act_of text

-- ---- courses

-- this holds of each course: of how its lines are read, its turns, its steps, and these with the one within which it broke off
abbrev pub OfEachCourse : (LineReader → List Visit → List MadeStep → List MadeStep → Type 0) → Type 0
OfEachCourse Holds =
    (reads : LineReader) (extent : Extent) (w : World) (turns : List Turn) (node : ℕ) (lines : List UserLine) (faults : ℕ)
    (h : IsCourse reads extent w turns node lines faults) → Holds reads (visits_of node w turns) h.steps (all_steps h.steps h.broken)

-- each report that a node tells in a turn is of a step that it made
abbrev pub CoursesReportSteps : Type 0
CoursesReportSteps = OfEachCourse (λ reads visits steps all. ReportSteps reads visits steps)

module _ (reads : LineReader) where
  -- a node that begins its lines comes by these turns and steps to a state, in which it is live or not
  abbrev pub ComesTo : World → List Turn → ℕ → List UserLine → List MadeStep → NodeState → Bool → Type 0
  ComesTo w turns node lines steps then then_live =
      Reaches reads (at_first lines) [] (is_live w node) (visits_of node w turns) steps then then_live

  -- a course that was only begun has reached a state, unless its last turn was cut short of the call that comes next there
  abbrev pub BegunCoursesReach : Type 0
  BegunCoursesReach =
      (w : World) (turns : List Turn) (node : ℕ) (lines : List UserLine) (faults : ℕ)
      (h : IsCourse reads Begun w turns node lines faults)
      → IsCutAtEnd reads (at_first lines) [] (is_live w node) (visits_of node w turns) h.steps
      ⊎ HasReached reads h.broken (at_first lines) [] (is_live w node) (visits_of node w turns) h.steps

  -- from the state that it has reached a course goes on by a turn of its own node that follows there, if its device fails no
  -- more often than it may
  abbrev pub BegunCoursesGoOn : Type 0
  BegunCoursesGoOn =
      (extent : Extent) (broken : Option KeptRun) (w : World) (turns : List Turn) (t : Turn) (node : ℕ) (lines : List UserLine) (faults : ℕ)
      (steps more : List MadeStep) (then : NodeState) (then_live : Bool) → t.node ≡ node → ComesTo w turns node lines steps then then_live
      → GoesOn reads extent broken then (visits_of node w turns) then_live (visit_behind w turns t ∷ []) more
      → failed_steps (steps ++ more) ≤ faults → IsCourse reads extent w (turns ++ t ∷ []) node lines faults

  -- and it reaches the next state, if that turn was served whole
  abbrev pub BegunCoursesReachOn : Type 0
  BegunCoursesReachOn =
      (w : World) (turns : List Turn) (t : Turn) (node : ℕ) (lines : List UserLine) (steps more : List MadeStep) (then last : NodeState)
      (then_live last_live : Bool) → t.node ≡ node → ComesTo w turns node lines steps then then_live
      → Reaches reads then (visits_of node w turns) then_live (visit_behind w turns t ∷ []) more last last_live
      → ComesTo w (turns ++ t ∷ []) node lines (steps ++ more) last last_live

  -- two histories in which a node makes the same turns in the same worlds have the same courses of it
  abbrev pub CoursesAreOfOwnTurns : Type 0
  CoursesAreOfOwnTurns =
      (extent : Extent) (w v : World) (turns others : List Turn) (node : ℕ) (lines : List UserLine) (faults : ℕ)
      → is_live w node ≡ is_live v node → visits_of node w turns ≡ visits_of node v others → IsCourse reads extent w turns node lines faults
      → IsCourse reads extent v others node lines faults

  -- a course stays where another node's turn comes behind
  abbrev pub CoursesStayBehindOthers : Type 0
  CoursesStayBehindOthers =
      (extent : Extent) (w : World) (turns : List Turn) (t : Turn) (node : ℕ) (lines : List UserLine) (faults : ℕ) → t.node ≢ node
      → IsCourse reads extent w turns node lines faults → IsCourse reads extent w (turns ++ t ∷ []) node lines faults

-- ---- blocks

-- each step is one of a run that a fetch among these turns gave to the node
abbrev pub AreGiven : List Visit → List MadeStep → Type 0
AreGiven visits steps = AllByRecursion (λ (m : MadeStep). IsGiven visits m.run) steps

-- a step of the run that went on hands over the next block, if one is left
abbrev pub HandsOverNext : KeptRun → Type 0
HandsOverNext k = (blocks : List (List ℕ)) → HandsOver k WentOn blocks → blocks ≡ next_block k.work k.place

-- this holds of steps that come in stretches
abbrev pub OfStretches : (List MadeStep → Type 0) → Type 0
OfStretches Holds = (steps : List MadeStep) → ComeInStretches [] steps → Holds steps

-- this holds of each step of a print run, of steps that come in stretches, and of the blocks that its stretch handed over
abbrev pub OfEachStretch : (MadeStep → List (List ℕ) → Type 0) → Type 0
OfEachStretch Holds =
    (steps : List MadeStep) (handed : List (List (List ℕ))) → ComeInStretches [] steps → AreHanded steps handed
    → AllByRecursion (λ (m : MadeStep). m.run.work.kind ≡ Print → Holds m (blocks_of_stretch m.run steps handed)) steps

-- this is so where the step told that its run ended with status 1
abbrev pub WhereEndedWell : MadeStep → Type 0 → Type 0
WhereEndedWell m So = m.end ≡ WentOn → report_told m.run m.end ≡ Done normal_status → So

-- this holds of each step in which a run of a node ended well whose steps come in stretches: of all nodes' steps, its job and it
abbrev pub OfEndedRuns : ((ℕ → List MadeStep) → ℕ → MadeStep → Type 0) → Type 0
OfEndedRuns Holds =
    (w : World) (turns : List Turn) (steps : ℕ → List MadeStep) (entry node : ℕ) (m : MadeStep) → EndsWell w turns steps entry node m
    → ComeInStretches [] (steps node) → Holds steps entry m

-- each block of the step's job came, from the mark on with which its run was fetched
abbrev pub CameFromMark : (ℕ → List MadeStep) → ℕ → MadeStep → Type 0
CameFromMark steps entry m =
    (index : ℕ) (block : List ℕ) → slice_get (page_blocks m.run.work) index ≡ Some block → (begin m.run.work).at ≤ index
    → Came steps entry index block

-- a block that steps of both nodes hand over stands behind the marks of both fetches
abbrev pub ComeAgainElsewhere : List MadeStep → List MadeStep → Type 0
ComeAgainElsewhere steps others = AllByRecursion (λ (a : MadeStep). AllByRecursion (λ (b : MadeStep). ComesAgainElsewhere a b) others) steps
