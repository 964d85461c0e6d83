-- Each report of a node is of a step that it made.
use Rattle.std.proofs.Common.{◌≡◌, ℕ, inl, inr, Bool, true, false, cond, List, [], ◌∷◌, ◌++◌, length, refl, sym, ◌∙◌, ap, subst, arith, Option, Some, ◌==◌, Contains}
use Rattle.std.proofs.lemmas.Bool.Decides.{nat_tests}
use Rattle.qm_history.specs.Common.{Input, why_of, KeptRun, known, report_told, run_kept, UserLine, steps_asked, IsTurnOf, IsCutShort, Visit, visits_of, is_live}
use Rattle.qm_history.specs.declared.call.Call.{Call}
use Rattle.qm_history.specs.declared.call.Call.TheVariants as call
use Rattle.qm_history.specs.declared.turn.Turn.{Turn}
use Rattle.qm_history.specs.declared.turn.Why.TheVariants as why
use Rattle.qm_history.specs.declared.world.World.{World}
use Rattle.qm_history.specs.Course.{Extent, Whole, Begun, Follows, GoesOn, IsCourse, MadeStep, NextTurn, ALine, AStep, AFetch, ALeave, NoTurn, NodeState, Over, ServesOrEnds, answered, at_first, behind_fetch, behind_line, behind_step, call_of_line, is_live_behind, next_at, own_stage}
use Rattle.qm_history.specs.Reaching.{IsReportOf, ReportSteps}
use Rattle.qm_history.proofs.GivenLemmas.{IsAmong, contained}

kept_at : (b : Bool) (run : ℕ) (k x : KeptRun) (rest : Option KeptRun) → (x.run == run) ≡ b → cond b (Some x) rest ≡ Some k → (rest ≡ Some k → k.run ≡ run) → k.run ≡ run
kept_at true run k x rest is h on =
    let same : x ≡ k = cc in let number : x.run ≡ run = grind (arith, nat_tests) in sym (ap (λ (y : KeptRun). y.run) same) ∙ number
kept_at false run k x rest is h on = on h

-- the run that is kept under a number has it
kept_number : (run : ℕ) (runs : List KeptRun) (k : KeptRun) → run_kept run runs ≡ Some k → k.run ≡ run
kept_number run [] k h = cc
kept_number run (x ∷ runs) k h = kept_at (x.run == run) run k x (run_kept run runs) refl h (kept_number run runs k)

no_line : (line : ℕ) → why.Line line ≡ why.Report → ⊥
no_line line h = cc

no_fetch : why.Fetch ≡ why.Report → ⊥
no_fetch h = cc

no_leave : why.Leave ≡ why.Report → ⊥
no_leave h = cc

module _ (read : UserLine → ℕ → List Visit → List ℕ → Input) where
  why_is : (extent : Extent) (w : World) (asked : Call) (t : Turn) (others : List Visit) → ServesOrEnds read extent w asked t others → t.why ≡ why_of asked
  why_is Whole w asked t others h = h.0.why_is
  why_is Begun w asked t others (inl h) = h.0.why_is
  why_is Begun w asked t others (inr (cut, none)) = cut.0.why_is

  is_report : (extent : Extent) (v : Visit) (others : List Visit) (run : ℕ) (m : MadeStep) → m.run.run ≡ run
      → ServesOrEnds read extent v.before (call.Report run (report_told m.run m.end)) v.turn others → IsReportOf read m v
  is_report Whole v others run m same h = inl (subst (λ r. IsTurnOf v.before (call.Report r (report_told m.run m.end)) v.turn) (sym same) h)
  is_report Begun v others run m same (inl h) = inl (subst (λ r. IsTurnOf v.before (call.Report r (report_told m.run m.end)) v.turn) (sym same) h)
  is_report Begun v others run m same (inr (cut, none)) = inr (subst (λ r. IsCutShort v.before (call.Report r (report_told m.run m.end)) v.turn) (sym same) cut)

  module _ (extent : Extent) (broken : Option KeptRun) (all : List MadeStep) where
    abbrev AreInside : List MadeStep → Type 0
    AreInside steps = (x : MadeStep) → IsAmong x steps → Contains all x

    module _ (v : Visit) (others : List Visit) (Rest : NodeState → List MadeStep → Type 0)
        (each : (n : NodeState) (steps : List MadeStep) → AreInside steps → Rest n steps → ReportSteps read others all)
      where
        followed : (n : NodeState) (earlier : List Visit) (steps : List MadeStep) (next : NextTurn) → AreInside steps → Follows read extent broken n earlier steps v others Rest next
            → ReportSteps read (v ∷ others) all
        followed n earlier steps (ALine l lines) inside h = (
          (λ is. absurd (no_line l.line.number (sym (why_is extent v.before (call_of_line read n earlier l v.turn) v.turn others h.0) ∙ is))),
          each (behind_line (length earlier) n lines (steps_asked l.line.sort l.line.text) (answered v)) steps inside h.1,
        )
        followed n earlier [] (AStep run round) inside h = absurd h
        followed n earlier (m ∷ steps) (AStep run round) inside h = (
          (λ is. (m, inside m (inl refl), is_report extent v others run m (kept_number run n.kept.runs m.run h.0.0) h.1)),
          each (behind_step n m.run round (report_told m.run m.end) (answered v)) steps (λ x there. inside x (inr there)) h.2,
        )
        followed n earlier steps AFetch inside h = (
          (λ is. absurd (no_fetch (sym (why_is extent v.before (call.Fetch (known n.kept)) v.turn others h.0) ∙ is))),
          each (behind_fetch (length earlier) (record n { stage = own_stage n.stage }) (answered v)) steps inside h.1,
        )
        followed n earlier steps ALeave inside h = (
          (λ is. absurd (no_leave (sym (why_is extent v.before call.Leave v.turn others h.0) ∙ is))),
          each (record n { stage = Over }) steps inside h.1,
        )
        followed n earlier steps NoTurn inside h = absurd h

    reports : (visits earlier : List Visit) (n : NodeState) (live : Bool) (steps : List MadeStep) → AreInside steps → GoesOn read extent broken n earlier live visits steps
        → ReportSteps read visits all
    reports [] earlier n live steps inside h = tt
    reports (v ∷ visits) earlier n live steps inside h =
        followed v visits (λ after left. GoesOn read extent broken after (earlier ++ v ∷ []) (is_live_behind v) visits left)
        (λ after left within rest. reports visits (earlier ++ v ∷ []) after (is_live_behind v) left within rest) n earlier steps (next_at live n n.stage) inside h

  pub course_reports : (extent : Extent) (w : World) (turns : List Turn) (node : ℕ) (lines : List UserLine) (faults : ℕ) → (h : IsCourse read extent w turns node lines faults)
      → ReportSteps read (visits_of node w turns) h.steps
  course_reports extent w turns node lines faults h =
      reports extent h.broken h.steps (visits_of node w turns) [] (at_first lines) (is_live w node) h.steps (λ x there. contained h.steps x there) h.turns_are
