-- The call of what comes next, and what the node keeps behind it.
use Rattle.std.proofs.Common.{◌≡◌, ◌+◌, ℕ, Bool, List, [], ◌∷◌, drop, refl, sym, ◌∙◌, ap, subst, Option, None, Some, IsSome}
use Rattle.qm_history.specs.Common.{Refusal, Report, input_of, Scans, UserLine, steps_asked, known, IsAskable}
use Rattle.qm_kinds.specs.declared.refusal.Refusal.TheVariants as refused
use Rattle.qm_symb.specs.Device as symb
use Rattle.qm_history.specs.declared.call.Answer.{Answer}
use Rattle.qm_history.specs.declared.call.Answer.TheVariants as answer
use Rattle.qm_history.specs.declared.call.Call.{Call}
use Rattle.qm_history.specs.declared.call.Takeover.{Takeover}
use Rattle.qm_history.specs.Course.{NodeState, Reading, Fetching, Working, Leaving, Over, Stage, behind_fetch, behind_line, next_at, own_stage, stage_behind, stage_for}
use Rattle.qm_script.specs.ClusterLines.{user_line_view}
use Rattle.qm_node.specs.Node.{CanBeMade, ComesNext, HeldNode, Hears, IsCallOf, IsMadeFor, IsTurn}
use Rattle.qm_node.specs.declared.course.Asked.{Asked}
use Rattle.qm_node.specs.declared.course.Next.{Next}
use Rattle.qm_node.specs.declared.course.Next.TheVariants as next
use Rattle.qm_node.specs.Answered.{IsLineOrStep, MovesOn, TakesIn, lines_behind}
use Rattle.qm_node.specs.Asking.{built_call}
use Rattle.qm_node.specs.Seats.{HeldSeat}
use Rattle.qm_node.proofs.Askable.{line_askable, report_askable}

module _ {Y : Type 0} (y : symb.Meaning Y) (begun : Scans) (n : NodeState) (a : Asked) (called : HeldNode) (was now : Y) where
  pub call_askable : (comes : Next) → IsCallOf y begun comes n a called was now → IsAskable (input_of (built_call a.call))
  call_askable (next.Line line) by =
      subst (λ (c : Call). IsAskable (input_of (built_call c))) (sym by.0) (line_askable begun (user_line_view line.now) a.moment (known n.kept))
  call_askable (next.Step run) by = subst (λ (c : Call). IsAskable (input_of (built_call c))) (sym by.1) (report_askable run by.0)
  call_askable next.Fetch by = subst (λ (c : Call). IsAskable (input_of (built_call c))) (sym by.0) tt
  call_askable next.Leave by = subst (λ (c : Call). IsAskable (input_of (built_call c))) (sym by.0) tt

  -- the call changes nothing of where the node is
  pub called_state : (comes : Next) → IsCallOf y begun comes n a called was now → called.state ≡ n
  called_state (next.Line line) by = ap (λ (h : HeldNode). h.state) by.1
  called_state (next.Step run) by = ap (λ (h : HeldNode). h.state) by.3
  called_state next.Fetch by = ap (λ (h : HeldNode). h.state) by.1
  called_state next.Leave by = ap (λ (h : HeldNode). h.state) by.1

  pub called_made : (comes : Next) → IsCallOf y begun comes n a called was now → IsMadeFor comes called.made
  called_made (next.Line line) by = ap (λ (h : HeldNode). h.made) by.1
  called_made (next.Step run) by = subst (λ (o : Option Report). IsSome o) (sym (ap (λ (h : HeldNode). h.made) by.3)) refl
  called_made next.Fetch by = ap (λ (h : HeldNode). h.made) by.1
  called_made next.Leave by = ap (λ (h : HeldNode). h.made) by.1

  pub called_can : (comes : Next) → IsCallOf y begun comes n a called was now → CanBeMade n comes → CanBeMade called.state comes
  called_can comes by can = subst (λ (s : NodeState). CanBeMade s comes) (sym (called_state comes by)) can

  pub called_next : (comes : Next) (live : Bool) → IsCallOf y begun comes n a called was now → IsTurn (next_at live n n.stage) (Some comes) → ComesNext called.state comes
  called_next comes live by is = record { live = live; is = subst (λ (s : NodeState). IsTurn (next_at live s s.stage) (Some comes)) (sym (called_state comes by)) is }

-- ---- what the node keeps behind an answer

reading_on : (told : Answer) → stage_behind Reading told ≡ Reading
reading_on (answer.Done took moment reply) = refl
reading_on (answer.Shown took moment rows) = refl
reading_on (answer.Duties took moment duties) = refl
reading_on (answer.Refused took refusal) = refl
reading_on (answer.Full took need cap) = refl
reading_on (answer.Journal took live) = refl
reading_on (answer.Fenced held current) = refl
reading_on (answer.NoManager took name) = refl
reading_on (answer.Damaged file place) = refl
reading_on answer.HistoryFull = refl
reading_on (answer.NoMemory took) = refl

line_lines : (count : ℕ) (n : NodeState) (lines : List UserLine) (steps : Option ℕ) (told : Answer) → (behind_line count n lines steps told).lines ≡ lines
line_lines count n lines None told = refl
line_lines count n lines (Some steps) (answer.Done took moment reply) = refl
line_lines count n lines (Some steps) (answer.Shown took moment rows) = refl
line_lines count n lines (Some steps) (answer.Duties took moment duties) = refl
line_lines count n lines (Some steps) (answer.Refused took refusal) = refl
line_lines count n lines (Some steps) (answer.Full took need cap) = refl
line_lines count n lines (Some steps) (answer.Journal took live) = refl
line_lines count n lines (Some steps) (answer.Fenced held current) = refl
line_lines count n lines (Some steps) (answer.NoManager took name) = refl
line_lines count n lines (Some steps) (answer.Damaged file place) = refl
line_lines count n lines (Some steps) answer.HistoryFull = refl
line_lines count n lines (Some steps) (answer.NoMemory took) = refl

line_stage : (count : ℕ) (n : NodeState) (lines : List UserLine) (steps : Option ℕ) (told : Answer) → (behind_line count n lines steps told).stage ≡ n.stage
line_stage count n lines None told = refl
line_stage count n lines (Some steps) (answer.Done took moment reply) = refl
line_stage count n lines (Some steps) (answer.Shown took moment rows) = refl
line_stage count n lines (Some steps) (answer.Duties took moment duties) = refl
line_stage count n lines (Some steps) (answer.Refused took refusal) = refl
line_stage count n lines (Some steps) (answer.Full took need cap) = refl
line_stage count n lines (Some steps) (answer.Journal took live) = refl
line_stage count n lines (Some steps) (answer.Fenced held current) = refl
line_stage count n lines (Some steps) (answer.NoManager took name) = refl
line_stage count n lines (Some steps) (answer.Damaged file place) = refl
line_stage count n lines (Some steps) answer.HistoryFull = refl
line_stage count n lines (Some steps) (answer.NoMemory took) = refl

fetch_lines : (count : ℕ) (n : NodeState) (told : Answer) → (behind_fetch count n told).lines ≡ n.lines
fetch_lines count n (answer.Done took moment reply) = refl
fetch_lines count n (answer.Shown took moment rows) = refl
fetch_lines count n (answer.Duties took moment duties) = refl
fetch_lines count n (answer.Refused took refusal) = refl
fetch_lines count n (answer.Full took need cap) = refl
fetch_lines count n (answer.Journal took live) = refl
fetch_lines count n (answer.Fenced held current) = refl
fetch_lines count n (answer.NoManager took name) = refl
fetch_lines count n (answer.Damaged file place) = refl
fetch_lines count n answer.HistoryFull = refl
fetch_lines count n (answer.NoMemory took) = refl

module _ (count : ℕ) (called there : HeldNode) (told : Answer) where
  heard_lines : (comes : Next) → Hears count comes called told there → there.state.lines ≡ lines_behind comes called.state.lines
  heard_lines (next.Line line) h =
      ap (λ (x : HeldNode). x.state.lines) h
      ∙ line_lines count called.state (drop 1 called.state.lines) (steps_asked (user_line_view line.now).line.sort (user_line_view line.now).line.text) told
  heard_lines (next.Step run) h = ap (λ (x : HeldNode). x.state.lines) h.leaves
  heard_lines next.Fetch h = ap (λ (x : HeldNode). x.state.lines) h ∙ fetch_lines count (record called.state { stage = own_stage called.state.stage }) told
  heard_lines next.Leave h = ap (λ (x : HeldNode). x.state.lines) h

  heard_stage : (comes : Next) → Hears count comes called told there → IsLineOrStep comes → called.state.stage ≡ Reading → there.state.stage ≡ Reading
  heard_stage (next.Line line) h is reads =
      ap (λ (x : HeldNode). x.state.stage) h
      ∙ line_stage count called.state (drop 1 called.state.lines) (steps_asked (user_line_view line.now).line.sort (user_line_view line.now).line.text) told ∙ reads
  heard_stage (next.Step run) h is reads = ap (λ (x : HeldNode). x.state.stage) h.leaves ∙ ap (λ (s : Stage). stage_behind s told) reads ∙ reading_on told
  heard_stage next.Fetch h is reads = absurd is
  heard_stage next.Leave h is reads = absurd is

  pub heard_made : (comes : Next) → Hears count comes called told there → there.made ≡ None
  heard_made (next.Line line) h = ap (λ (x : HeldNode). x.made) h
  heard_made (next.Step run) h = ap (λ (x : HeldNode). x.made) h.leaves
  heard_made next.Fetch h = ap (λ (x : HeldNode). x.made) h
  heard_made next.Leave h = ap (λ (x : HeldNode). x.made) h

-- ---- a node that is through with everything

refused_working : (r : Refusal) (took : Option Takeover) → stage_behind Working (answer.Refused took r) ≡ Over → ⊥
refused_working refused.NumbersSpent took is = cc
refused_working r took is = cc

report_over : (s : Stage) (told : Answer) → stage_behind s told ≡ Over → s ≡ Over
report_over Working (answer.Full took need cap) is = cc
report_over Working (answer.Refused took r) is = absurd (refused_working r took is)
report_over Working told is = is
report_over Reading told is = sym (reading_on told) ∙ is
report_over Fetching told is = is
report_over Leaving told is = is
report_over Over told is = refl

stage_for_over : (round : List ℕ) → stage_for round ≡ Over → ⊥
stage_for_over [] is = cc
stage_for_over (run ∷ round) is = cc

fetch_over : (count : ℕ) (n : NodeState) (told : Answer) → (behind_fetch count n told).stage ≡ Over → ⊥
fetch_over count n (answer.Done took moment reply) is = cc
fetch_over count n (answer.Shown took moment rows) is = cc
fetch_over count n (answer.Duties took moment duties) is = stage_for_over _ is
fetch_over count n (answer.Refused took refusal) is = cc
fetch_over count n (answer.Full took need cap) is = cc
fetch_over count n (answer.Journal took live) is = cc
fetch_over count n (answer.Fenced held current) is = cc
fetch_over count n (answer.NoManager took name) is = cc
fetch_over count n (answer.Damaged file place) is = cc
fetch_over count n answer.HistoryFull is = cc
fetch_over count n (answer.NoMemory took) is = cc

-- where a node was through, nothing came next
over_none : (live : Bool) (n : NodeState) (comes : Next) → n.stage ≡ Over → IsTurn (next_at live n n.stage) (Some comes) → ⊥
over_none live n comes is turn = subst (λ (s : Stage). IsTurn (next_at live n s) (Some comes)) is turn

-- it leaves with the turn with which it is through
pub over_leaves : (count : ℕ) (live : Bool) (n : NodeState) (called there : HeldNode) (told : Answer) (comes : Next) → called.state ≡ n → IsTurn (next_at live n n.stage) (Some comes) → Hears count comes called told there
    → there.state.stage ≡ Over → comes ≡ next.Leave
over_leaves count live n called there told (next.Line line) same turn h over =
    absurd (over_none live n (next.Line line)
    (ap (λ (s : NodeState). s.stage) (sym same)
    ∙ sym (line_stage count called.state (drop 1 called.state.lines) (steps_asked (user_line_view line.now).line.sort (user_line_view line.now).line.text) told)
    ∙ sym (ap (λ (x : HeldNode). x.state.stage) h) ∙ over) turn)
over_leaves count live n called there told (next.Step run) same turn h over =
    absurd (over_none live n (next.Step run)
    (ap (λ (s : NodeState). s.stage) (sym same) ∙ report_over called.state.stage told (sym (ap (λ (x : HeldNode). x.state.stage) h.leaves) ∙ over)) turn)
over_leaves count live n called there told next.Fetch same turn h over =
    absurd (fetch_over count (record called.state { stage = own_stage called.state.stage }) told (sym (ap (λ (x : HeldNode). x.state.stage) h) ∙ over))
over_leaves count live n called there told next.Leave same turn h over = refl

pub moves_on : {Y : Type 0} (y : symb.Meaning Y) (comes : Next) (here between there : HeldSeat) (a : Asked) (was now : Y) (asked : Call) (told : Answer)
    → IsCallOf y here.begun comes here.node.state a between.node was now → between ≡ record here { node = between.node } → TakesIn comes asked told between there → MovesOn comes here there
moves_on y comes here between there a was now asked told by same takes =
    let state = called_state y here.begun here.node.state a between.node was now comes by in
    record {
      name = takes.name ∙ ap (λ (s : HeldSeat). s.name) same;
      ready = heard_made between.count between.node there.node told comes takes.heard;
      lines = heard_lines between.count between.node there.node told comes takes.heard ∙ ap (λ (s : NodeState). lines_behind comes s.lines) state;
      reads = λ is reads. heard_stage between.count between.node there.node told comes takes.heard is (ap (λ (s : NodeState). s.stage) state ∙ reads);
      count = takes.count ∙ ap (λ (s : HeldSeat). s.count + 1) same;
    }
