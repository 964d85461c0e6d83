-- A turn with which a node's course breaks off, or a step within which it does.
use Rattle.std.proofs.Common.{◌≡◌, ◌⊎◌, inl, inr, ℕ, Bool, true, false, List, [], ◌∷◌, ◌++◌, length, take, refl, sym, ◌∙◌, ap, subst, Option, None, Some, arith, slice_get, option_and_then, append-nil, take_all}
use Rattle.qm_history.specs.Common.{Report, KeptRun, StepEnd, WentOn, DeviceFailed, CutShort, IsEndOf, known, next_kept, report_told, run_kept, Scans, scans_of, UserLine, IsTurnOf, IsCutShort, Visit}
use Rattle.qm_symb.specs.Device.{Meaning, handed_by}
use Rattle.qm_history.specs.declared.call.Call.{Call}
use Rattle.qm_history.specs.declared.call.Call.TheVariants as call
use Rattle.qm_history.specs.Blocks.{blocks_next}
use Rattle.qm_history.specs.Course.{Begun, Follows, GoesOn, MadeStep, NextTurn, ALine, AStep, AFetch, ALeave, NodeState, ServesOrEnds, call_of_line, failed_steps, is_live_behind, next_at, next_run}
use Rattle.qm_node.specs.Node.{HeldNode, IsCallOf, IsTurn}
use Rattle.qm_node.specs.Steps.{Comes}
use Rattle.qm_node.specs.declared.course.Asked.{Asked}
use Rattle.qm_node.specs.declared.course.Next.{Next}
use Rattle.qm_node.specs.declared.course.Next.TheVariants as next
use Rattle.qm_script.specs.ClusterLines.{user_line_view}
use Rattle.qm_node.specs.Asking.{built, built_call, read_built}
use Rattle.qm_node.specs.Taken.{AreTaken, Rises}
use Rattle.qm_cluster.proofs.Stepping.{none_taken, step_first, step_rises, step_taken}
use Rattle.qm_line.specs.Asked.{line_with}

-- ---- a turn that is the last one

module _ {Y : Type 0} (y : Meaning Y) (n : NodeState) (live : Bool) (begun : Scans) (a : Asked) (called : HeldNode) (was now : Y) (v : Visit)
    (served : IsTurnOf v.before (built_call a.call) v.turn ⊎ IsCutShort v.before (built_call a.call) v.turn) (moment : v.turn.moment ≡ a.moment)
  where
    -- the course goes so far, with these steps
    pub record LastOne : Type 0 where
      pub steps : List MadeStep
      pub leads : (earlier : List Visit) → scans_of earlier ≡ begun → GoesOn read_built Begun None n earlier live (v ∷ []) steps
      pub rose : Rises y (failed_steps steps) was now
      pub taken : AreTaken y steps None was now

    ends : (asked : Call) → built_call a.call ≡ asked → IsTurnOf v.before (built_call a.call) v.turn ⊎ IsCutShort v.before (built_call a.call) v.turn
        → ServesOrEnds read_built Begun v.before asked v.turn []
    ends asked is (inl whole) = inl (subst (λ (c : Call). IsTurnOf v.before c v.turn) is whole)
    ends asked is (inr cut) = inr (subst (λ (c : Call). IsCutShort v.before c v.turn) is cut, refl)

    leads_by : (steps : List MadeStep) (earlier : List Visit) (nt : NextTurn) → next_at live n n.stage ≡ nt
        → Follows read_built Begun None n earlier steps v [] (λ after left. GoesOn read_built Begun None after (earlier ++ v ∷ []) (is_live_behind v) [] left) nt
        → GoesOn read_built Begun None n earlier live (v ∷ []) steps
    leads_by steps earlier nt is h =
        subst (λ (x : NextTurn). Follows read_built Begun None n earlier steps v [] (λ after left. GoesOn read_built Begun None after (earlier ++ v ∷ []) (is_live_behind v) [] left) x)
        (sym is) h

    run_found : (run : ℕ) (k : KeptRun) → slice_get n.kept.round 0 ≡ Some run → next_kept n.kept ≡ Some k → run_kept run n.kept.runs ≡ Some k
    run_found run k first is = sym (ap (λ (o : Option ℕ). option_and_then (λ (r : ℕ). run_kept r n.kept.runs) o) first) ∙ is

    pub last_one : (comes : Next) (nt : NextTurn) → next_at live n n.stage ≡ nt → IsTurn nt (Some comes) → IsCallOf y begun comes n a called was now → LastOne
    last_one (next.Line line) (ALine l lines) is turn called_by = record {
      steps = [];
      leads = λ earlier listings. leads_by [] earlier (ALine l lines) is (
        ends (call_of_line read_built n earlier l v.turn)
            (ap built_call called_by.0
            ∙ ap (λ (s : Scans). call.Line line.now.number (built (line_with (user_line_view line.now) a.moment s (known n.kept)))) (sym listings)
            ∙ ap (λ (x : UserLine). call.Line x.line.number (read_built x a.moment earlier (known n.kept))) (sym turn)
            ∙ ap (λ (m : ℕ). call.Line l.line.number (read_built l m earlier (known n.kept))) (sym moment)) served,
        (tt, refl, tt),
      );
      rose = ap y.faults called_by.2;
      taken = subst (λ (o : Y). AreTaken y [] None was o) (sym called_by.2) (none_taken y was);
    }
    last_one (next.Step number) (AStep run others) is turn called_by =
        let first = step_first live n n.stage run others is in
        let k = called_by.2.0 in
        let step = called_by.2.2 in
        record {
          steps = record { run = k; end = step.end } ∷ [];
          leads = λ earlier listings. leads_by (record { run = k; end = step.end } ∷ []) earlier (AStep run others) is (
            (run_found run k first.0 called_by.2.1, step.can_end),
            ends (call.Report run (report_told k step.end))
                (ap built_call called_by.1 ∙ ap (λ (r : ℕ). call.Report r called_by.0) (sym turn) ∙ ap (λ (r : Report). call.Report run r) step.told_is) served,
            (tt, refl, tt),
          );
          rose = step_rises y k step.end called_by.0 was now step.comes;
          taken = step_taken y k step.end called_by.0 was now step.comes;
        }
    last_one next.Fetch AFetch is turn called_by = record {
      steps = [];
      leads = λ earlier listings. leads_by [] earlier AFetch is (ends (call.Fetch (known n.kept)) (ap built_call called_by.0) served, (tt, refl, tt));
      rose = ap y.faults called_by.2;
      taken = subst (λ (o : Y). AreTaken y [] None was o) (sym called_by.2) (none_taken y was);
    }
    last_one next.Leave ALeave is turn called_by = record {
      steps = [];
      leads = λ earlier listings. leads_by [] earlier ALeave is (ends call.Leave (ap built_call called_by.0) served, (tt, refl, tt));
      rose = ap y.faults called_by.2;
      taken = subst (λ (o : Y). AreTaken y [] None was o) (sym called_by.2) (none_taken y was);
    }
    last_one comes nt is turn called_by = absurd turn

-- ---- a step of which no turn told

module _ {Y : Type 0} (y : Meaning Y) (n : NodeState) (live : Bool) (a : Asked) (called : HeldNode) (was now : Y) where
  -- the course breaks off, within this step if there is one
  pub record BrokenOff : Type 0 where
    pub broken : Option KeptRun
    pub leads : (earlier : List Visit) → GoesOn read_built Begun broken n earlier live [] []
    pub faults : ℕ
    pub rose : Rises y faults was now
    pub taken : AreTaken y [] broken was now

  -- nothing was handed over
  pub nothing_broken : now ≡ was → BrokenOff
  nothing_broken same = record {
    broken = None;
    leads = λ earlier. (tt, refl, tt);
    faults = 0;
    rose = ap y.faults same;
    taken = subst (λ (o : Y). AreTaken y [] None was o) (sym same) (none_taken y was);
  }

  off_by : (k : KeptRun) (earlier : List Visit) (nt : NextTurn) → next_at live n n.stage ≡ nt → next_run n nt ≡ Some k → k.aborting ≡ false → GoesOn read_built Begun (Some k) n earlier live [] []
  off_by k earlier nt is found whole = (tt, refl, (ap (next_run n) is ∙ found, whole))

  run_there : (run : ℕ) (k : KeptRun) → slice_get n.kept.round 0 ≡ Some run → next_kept n.kept ≡ Some k → run_kept run n.kept.runs ≡ Some k
  run_there run k first is = sym (ap (λ (o : Option ℕ). option_and_then (λ (r : ℕ). run_kept r n.kept.runs) o) first) ∙ is

  not_cut : (k : KeptRun) (b : Bool) → k.aborting ≡ b → IsEndOf b WentOn → k.aborting ≡ false
  not_cut k true is can = absurd can
  not_cut k false is can = is

  not_cut_failed : (k : KeptRun) (b : Bool) → k.aborting ≡ b → IsEndOf b DeviceFailed → k.aborting ≡ false
  not_cut_failed k true is can = absurd can
  not_cut_failed k false is can = is

  broken_step : (run : ℕ) (others : List ℕ) (k : KeptRun) (end : StepEnd) (told : Report) → next_at live n n.stage ≡ AStep run others → next_kept n.kept ≡ Some k → IsEndOf k.aborting end → Comes y k end told was now → BrokenOff
  broken_step run others k WentOn told is found can comes = record {
    broken = Some k;
    leads = λ earlier. off_by k earlier (AStep run others) is (run_there run k (step_first live n n.stage run others is).0 found) (not_cut k k.aborting refl can);
    faults = 0;
    rose = comes.quiet;
    taken = record {
      handed = blocks_next k ∷ [];
      are_handed = ((length (blocks_next k), sym (take_all (length (blocks_next k)) (blocks_next k) (omega arith))), tt);
      taken = λ tells. comes.blocks tells ∙ ap (λ l. y.taken was ++ l) (sym (append-nil (handed_by k.work.run k.work.device (blocks_next k))));
    };
  }
  broken_step run others k DeviceFailed told is found can comes = record {
    broken = Some k;
    leads = λ earlier. off_by k earlier (AStep run others) is (run_there run k (step_first live n n.stage run others is).0 found) (not_cut_failed k k.aborting refl can);
    faults = 1;
    rose = comes.rose;
    taken = record {
      handed = take comes.blocks.0 (blocks_next k) ∷ [];
      are_handed = ((comes.blocks.0, refl), tt);
      taken = λ tells. comes.blocks.2 tells ∙ ap (λ l. y.taken was ++ l) (sym (append-nil (handed_by k.work.run k.work.device (take comes.blocks.0 (blocks_next k)))));
    };
  }
  broken_step run others k CutShort told is found can comes = nothing_broken comes

  pub broken_next : (begun : Scans) (comes : Next) (nt : NextTurn) → next_at live n n.stage ≡ nt → IsTurn nt (Some comes) → IsCallOf y begun comes n a called was now → BrokenOff
  broken_next begun (next.Line line) (ALine l lines) is turn by = nothing_broken by.2
  broken_next begun (next.Step number) (AStep run others) is turn by = broken_step run others by.2.0 by.2.2.end by.0 is by.2.1 by.2.2.can_end by.2.2.comes
  broken_next begun next.Fetch AFetch is turn by = nothing_broken by.2
  broken_next begun next.Leave ALeave is turn by = nothing_broken by.2
  broken_next begun comes nt is turn by = absurd turn
