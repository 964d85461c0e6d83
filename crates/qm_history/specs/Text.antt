-- The transcript of a history.
-- DCL Dictionary, SUBMIT, PRINT and SHOW QUEUE, on what they display; OpenVMS System Messages, on the names of messages.
-- This site's own: the layout of a transcript, and what is told of a takeover.
use Rattle.std.specs.Prelude.{ℕ, Bool, true, false, List, [], ◌∷◌, ◌++◌, length, map, flat_map, decimal, codes, Option, None, Some}
use Rattle.std.specs.List.{range_with_len}
use Rattle.qm_kinds.specs.declared.input.Input.TheVariants as input
use Rattle.qm_model.specs.Common.{Row, node_at}
use Rattle.qm_model.specs.Transcript.{row_lines, full_line, journal_line}
use Rattle.qm_model.specs.Words.{act_text, start_text, refusal_line}
use Rattle.qm_history.specs.declared.call.Answer.{Answer}
use Rattle.qm_history.specs.declared.call.Answer.TheVariants as answer
use Rattle.qm_history.specs.declared.call.Takeover.{Takeover}
use Rattle.qm_history.specs.declared.event.Event.{Event}
use Rattle.qm_history.specs.declared.event.Event.TheVariants as event
use Rattle.qm_history.specs.declared.turn.Turn.{Turn}
use Rattle.qm_history.specs.declared.turn.Why.{Why}
use Rattle.qm_history.specs.declared.turn.Why.TheVariants as why
use Rattle.qm_history.specs.declared.world.World.{World}
use Rattle.qm_history.specs.Answers.{answer_of}
use Rattle.qm_history.specs.Visits.{Visit, visits, visits_of}
use Rattle.qm_history.specs.World.{system_in}

-- what became of the record in doubt, where one was
abbrev pub kept_lines : Option Bool → List (List ℕ)
kept_lines None = []
kept_lines (Some true) = codes "%QMAN-I-KEPT" ∷ []
kept_lines (Some false) = codes "%QMAN-I-NOTKEPT" ∷ []

-- what is printed of the takeover with which a turn begins
abbrev pub takeover_lines : Option Takeover → List (List ℕ)
takeover_lines None = []
takeover_lines (Some took) = kept_lines took.kept ++ map start_text took.started

-- whether a turn's first line is printed: a node's own fetch, and its leave, tell of nothing but jobs and faults
pub data FirstLine : Type 0 where
  Printed : FirstLine
  LeftOut : FirstLine

abbrev pub first_line_of : Why → FirstLine
first_line_of (why.Line line) = Printed
first_line_of why.Fetch = LeftOut
first_line_of why.Report = Printed
first_line_of why.Leave = LeftOut

-- the line, where it is printed
abbrev pub if_printed : FirstLine → List ℕ → List (List ℕ)
if_printed Printed line = line ∷ []
if_printed LeftOut line = []

-- what is printed of a call of a node that holds another epoch than the present manager's
abbrev pub fenced_line : ℕ → ℕ → List ℕ
fenced_line held current = codes "%QMAN-E-FENCED, held " ++ decimal held ++ codes ", current " ++ decimal current

-- what is printed of a node that may not be manager
abbrev pub no_manager_line : List ℕ → List ℕ
no_manager_line name = codes "%QMAN-E-NOMANAGER, " ++ name

-- the last event shows one row, for a call by an item list
abbrev pub is_single : List Event → Bool
is_single [] = false
is_single (event.Shown node moment (input.Show query) ∷ []) = query.single
is_single (e ∷ events) = is_single events

-- a line of the transcript: what stands before it, the text, and a line feed
abbrev pub line_behind : List ℕ → List ℕ → List ℕ
line_behind prefix line = prefix ++ line ++ 10 ∷ []

-- lines of the transcript, each behind the same
abbrev pub behind : List ℕ → List (List ℕ) → List ℕ
behind prefix lines = flat_map (line_behind prefix) lines

-- what stands before each line of a turn: the node, and the number of its script's line, or - for a turn of the node's own
abbrev pub prefix_of : List ℕ → Why → List ℕ
prefix_of name (why.Line line) = name ++ codes " " ++ decimal line ++ codes ": "
prefix_of name why.Fetch = name ++ codes " -: "
prefix_of name why.Report = name ++ codes " -: "
prefix_of name why.Leave = name ++ codes " -: "

-- the takeover that an answer tells of
abbrev pub told_takeover : Answer → Option Takeover
told_takeover (answer.Done took moment reply) = took
told_takeover (answer.Shown took moment rows) = took
told_takeover (answer.Duties took moment duties) = took
told_takeover (answer.Refused took refusal) = took
told_takeover (answer.Full took need cap) = took
told_takeover (answer.Journal took live) = took
told_takeover (answer.Fenced held current) = None
told_takeover (answer.NoManager took name) = took
told_takeover (answer.Damaged file place) = None
told_takeover answer.HistoryFull = None
told_takeover (answer.NoMemory took) = took

-- what is printed of an answer, behind its takeover, where rows are listed
abbrev pub listed_lines : FirstLine → Answer → List (List ℕ)
listed_lines first (answer.Done took moment reply) = if_printed first (act_text reply.act) ++ map start_text reply.started
listed_lines first (answer.Shown took moment rows) = row_lines rows
listed_lines first (answer.Duties took moment duties) = if_printed first (codes "runs: " ++ decimal (length duties))
listed_lines first (answer.Refused took refusal) = refusal_line refusal ∷ []
listed_lines first (answer.Full took need cap) = full_line need cap ∷ []
listed_lines first (answer.Journal took live) = journal_line ∷ []
listed_lines first (answer.Fenced held current) = fenced_line held current ∷ []
listed_lines first (answer.NoManager took name) = no_manager_line name ∷ []
listed_lines first (answer.Damaged file place) = []
listed_lines first answer.HistoryFull = []
listed_lines first (answer.NoMemory took) = []

-- the text of an answer, and of its takeover in front, where rows are listed: each line behind the node and the number of the
-- script's line
abbrev pub answer_text : List ℕ → Why → Answer → List ℕ
answer_text name because a = behind (prefix_of name because) (takeover_lines (told_takeover a) ++ listed_lines (first_line_of because) a)

-- the names of the nodes whose turns these are
abbrev pub turn_names : World → List Turn → List ℕ
turn_names w turns = flat_map (λ (t : Turn). codes " " ++ node_at t.node (system_in w).nodes) turns

-- how the items of a row are printed is said where item lists are
module _ (items_line : Row → List ℕ) where
  -- one row as its items, or a listing
  abbrev pub shown_lines : Bool → List Row → List (List ℕ)
  shown_lines true (r ∷ rows) = map items_line (r ∷ rows)
  shown_lines true [] = row_lines []
  shown_lines false rows = row_lines rows

  -- what is printed of an answer, behind its takeover
  abbrev pub answer_lines : FirstLine → Bool → Answer → List (List ℕ)
  answer_lines first single (answer.Shown took moment rows) = shown_lines single rows
  answer_lines first single a = listed_lines first a

  -- what is printed of a turn, in the world before it
  abbrev pub turn_lines : World → Turn → List (List ℕ)
  turn_lines w t =
      takeover_lines (told_takeover (answer_of w t)) ++ answer_lines (first_line_of t.why) (is_single t.events) (answer_of w t)

  -- its lines, each behind the node and the number of its script's line
  abbrev pub visit_text : Visit → List ℕ
  visit_text v = behind (prefix_of (node_at v.turn.node (system_in v.before).nodes) v.turn.why) (turn_lines v.before v.turn)

  -- the transcript: the lines of each turn, in the order of turns
  abbrev pub text : World → List Turn → List ℕ
  text w turns = flat_map visit_text (visits w turns)

  -- the lines of one node's turns
  abbrev pub text_of_node : ℕ → World → List Turn → List ℕ
  text_of_node node w turns = flat_map visit_text (visits_of node w turns)

  -- the transcript of a cluster: the lines of each node, in the cluster's order, and behind them whose turn each was
  abbrev pub cluster_text : World → List Turn → List ℕ
  cluster_text w turns =
      flat_map (λ node. text_of_node node w turns) (range_with_len 0 (length (system_in w).nodes)) ++ codes "turns:" ++ turn_names w turns ++ 10 ∷ []
