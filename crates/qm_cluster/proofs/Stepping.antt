-- What comes next in a node, and the call of it, as its course has them.
use Rattle.std.proofs.Common.{◌≡◌, ℕ, zero, suc, Bool, true, false, List, [], ◌∷◌, ◌++◌, length, drop, take, refl, sym, ◌∙◌, ap, subst, Option, None, Some, slice_get, option_and_then, append-nil}
use Rattle.qm_history.specs.Common.{Report, KeptRun, StepEnd, WentOn, DeviceFailed, CutShort, known, next_kept, report_told, run_kept, Reaches, Scans, UserLine, steps_asked, IsTurnOf, Visit}
use Rattle.qm_symb.specs.Device.{Meaning, handed_by}
use Rattle.qm_history.specs.declared.call.Answer.{Answer}
use Rattle.qm_history.specs.declared.call.Call.{Call}
use Rattle.qm_history.specs.declared.call.Call.TheVariants as call
use Rattle.qm_history.specs.Blocks.{blocks_next}
use Rattle.qm_history.specs.Course.{Whole, Follows, MadeStep, NextTurn, ALine, AStep, AFetch, ALeave, NodeState, Over, Reading, Fetching, Working, Leaving, Stage, answered, behind_fetch, behind_line, behind_step, call_of_line, failed_steps, is_live_behind, next_at, next_line, next_reading, next_working, own_stage}
use Rattle.qm_script.specs.ClusterLines.{user_line_view}
use Rattle.qm_node.specs.Node.{HeldNode, Hears, HearsReport, IsCallOf, IsTurn}
use Rattle.qm_node.specs.Steps.{Comes}
use Rattle.qm_node.specs.declared.course.Asked.{Asked}
use Rattle.qm_node.specs.declared.course.Next.{Next}
use Rattle.qm_node.specs.declared.course.Next.TheVariants as next
use Rattle.qm_node.specs.Asking.{built, built_call, read_built}
use Rattle.qm_node.specs.Standing.{IsBehind, Standing}
use Rattle.qm_node.specs.Taken.{AreTaken, Rises}
use Rattle.qm_line.specs.Asked.{line_with}

-- ---- what comes next, and what is left behind it

reading_line : (live : Bool) (steps : ℕ) (round : List ℕ) (lines : List UserLine) (l : UserLine) (rest : List UserLine) → next_reading live steps round lines ≡ ALine l rest → rest ≡ drop 1 lines
reading_line live zero round (x ∷ xs) l rest is = next_rest x xs l rest is
  where
    next_rest : (x : UserLine) (xs : List UserLine) (l : UserLine) (rest : List UserLine) → ALine x xs ≡ ALine l rest → rest ≡ xs
    next_rest x xs l rest is = cc
reading_line true zero round [] l rest is = cc
reading_line false zero round [] l rest is = cc
reading_line live (suc steps) (run ∷ round) lines l rest is = cc
reading_line live (suc steps) [] (x ∷ xs) l rest is = cc
reading_line true (suc steps) [] [] l rest is = cc
reading_line false (suc steps) [] [] l rest is = cc

working_line : (round : List ℕ) (l : UserLine) (rest : List UserLine) → next_working round ≡ ALine l rest → ⊥
working_line [] l rest is = cc
working_line (run ∷ round) l rest is = cc

pub line_rest : (live : Bool) (n : NodeState) (stage : Stage) (l : UserLine) (rest : List UserLine) → next_at live n stage ≡ ALine l rest → rest ≡ drop 1 n.lines
line_rest live n Reading l rest is = reading_line live n.kept.steps n.kept.round n.lines l rest is
line_rest live n Fetching l rest is = cc
line_rest live n Working l rest is = absurd (working_line n.kept.round l rest is)
line_rest live n Leaving l rest is = cc
line_rest live n Over l rest is = cc

-- the run steps next, and the others are behind it
abbrev IsFirstOf : List ℕ → ℕ → List ℕ → Type 0
IsFirstOf round run others = (slice_get round 0 ≡ Some run) × (others ≡ drop 1 round)

working_step : (round : List ℕ) (run : ℕ) (others : List ℕ) → next_working round ≡ AStep run others → IsFirstOf round run others
working_step [] run others is = cc
working_step (x ∷ xs) run others is = (cc, cc)

line_step : (live : Bool) (lines : List UserLine) (run : ℕ) (others : List ℕ) → next_line live lines ≡ AStep run others → ⊥
line_step live (l ∷ lines) run others is = cc
line_step true [] run others is = cc
line_step false [] run others is = cc

reading_step : (live : Bool) (steps : ℕ) (round : List ℕ) (lines : List UserLine) (run : ℕ) (others : List ℕ) → next_reading live steps round lines ≡ AStep run others → IsFirstOf round run others
reading_step live zero round lines run others is = absurd (line_step live lines run others is)
reading_step live (suc steps) (x ∷ xs) lines run others is = (cc, cc)
reading_step live (suc steps) [] lines run others is = absurd (line_step live lines run others is)

pub step_first : (live : Bool) (n : NodeState) (stage : Stage) (run : ℕ) (others : List ℕ) → next_at live n stage ≡ AStep run others → IsFirstOf n.kept.round run others
step_first live n Reading run others is = reading_step live n.kept.steps n.kept.round n.lines run others is
step_first live n Fetching run others is = cc
step_first live n Working run others is = working_step n.kept.round run others is
step_first live n Leaving run others is = cc
step_first live n Over run others is = cc

-- ---- the step of a run, and what it hands over

module _ {Y : Type 0} (y : Meaning Y) where
  pub none_taken : (was : Y) → AreTaken y [] None was was
  none_taken was = record { handed = []; are_handed = tt; taken = λ tells. sym (append-nil (y.taken was)) }

  pub step_taken : (k : KeptRun) (end : StepEnd) (told : Report) (was now : Y) → Comes y k end told was now → AreTaken y (record { run = k; end = end } ∷ []) None was now
  step_taken k WentOn told was now comes = record {
    handed = blocks_next k ∷ [];
    are_handed = (refl, tt);
    taken = λ tells. comes.blocks tells ∙ ap (λ l. y.taken was ++ l) (sym (append-nil (handed_by k.work.run k.work.device (blocks_next k))));
  }
  step_taken k DeviceFailed told was now comes = record {
    handed = take comes.blocks.0 (blocks_next k) ∷ [];
    are_handed = ((comes.blocks.0, refl), tt);
    taken = λ tells. comes.blocks.2 tells ∙ ap (λ l. y.taken was ++ l) (sym (append-nil (handed_by k.work.run k.work.device (take comes.blocks.0 (blocks_next k)))));
  }
  step_taken k CutShort told was now comes = record {
    handed = [] ∷ [];
    are_handed = (refl, tt);
    taken = λ tells. ap y.taken comes ∙ sym (append-nil (y.taken was));
  }

  pub step_rises : (k : KeptRun) (end : StepEnd) (told : Report) (was now : Y) → Comes y k end told was now → Rises y (failed_steps (record { run = k; end = end } ∷ [])) was now
  step_rises k WentOn told was now comes = comes.quiet
  step_rises k DeviceFailed told was now comes = comes.rose
  step_rises k CutShort told was now comes = ap y.faults comes

-- ---- the turn that comes next

module _ {Y : Type 0} (y : Meaning Y) (n : NodeState) (live : Bool) (count : ℕ) (begun : Scans) (a : Asked) (called there : HeldNode) (was now : Y) (v : Visit) (told : Answer)
    (served : IsTurnOf v.before (built_call a.call) v.turn) (moment : v.turn.moment ≡ a.moment) (told_is : told ≡ answered v)
  where
    abbrev here : Standing
    here = record { state = n; live = live; count = count; begun = begun }

    abbrev Leads : List MadeStep → List Visit → Type 0
    Leads steps earlier = Reaches read_built n earlier live (v ∷ []) steps there.state (is_live_behind v)

    -- the turn follows, with these steps, and the node is there
    pub record Made : Type 0 where
      pub steps : List MadeStep
      pub leads : (earlier : List Visit) → IsBehind earlier here → Leads steps earlier
      pub rose : Rises y (failed_steps steps) was now
      pub taken : AreTaken y steps None was now
      pub made : there.made ≡ None

    leads_by : (steps : List MadeStep) (earlier : List Visit) (nt : NextTurn) → next_at live n n.stage ≡ nt
        → Follows read_built Whole None n earlier steps v []
        (λ after left. Reaches read_built after (earlier ++ v ∷ []) (is_live_behind v) [] left there.state (is_live_behind v)) nt
        → Leads steps earlier
    leads_by steps earlier nt is h =
        subst (λ (x : NextTurn). Follows read_built Whole None n earlier steps v []
        (λ after left. Reaches read_built after (earlier ++ v ∷ []) (is_live_behind v) [] left there.state (is_live_behind v)) x) (sym is) h

    state_is : (made : Option Report) → called ≡ record { state = n; made = made } → called.state ≡ n
    state_is made is = ap (λ (h : HeldNode). h.state) is

    serves : (asked : Call) → built_call a.call ≡ asked → IsTurnOf v.before asked v.turn
    serves asked is = subst (λ (c : Call). IsTurnOf v.before c v.turn) is served

    line_behind_it : (line : Next) (l : UserLine) (lines : List UserLine) (earlier : List Visit) (l' : UserLine) → l ≡ l' → lines ≡ drop 1 n.lines → called ≡ record { state = n; made = None } → length earlier ≡ count
        → there ≡ record { state = behind_line count called.state (drop 1 called.state.lines) (steps_asked l'.line.sort l'.line.text) told; made = None }
        → there.state ≡ behind_line (length earlier) n lines (steps_asked l.line.sort l.line.text) (answered v)
    line_behind_it line l lines earlier l' is rest held len heard =
        ap (λ (h : HeldNode). h.state) heard
        ∙ ap (λ (s : NodeState). behind_line count s (drop 1 s.lines) (steps_asked l'.line.sort l'.line.text) told) (state_is None held)
        ∙ ap (λ (r : List UserLine). behind_line count n r (steps_asked l'.line.sort l'.line.text) told) (sym rest)
        ∙ ap (λ (x : UserLine). behind_line count n lines (steps_asked x.line.sort x.line.text) told) (sym is)
        ∙ ap (λ (r : Answer). behind_line count n lines (steps_asked l.line.sort l.line.text) r) told_is
        ∙ ap (λ (c : ℕ). behind_line c n lines (steps_asked l.line.sort l.line.text) (answered v)) (sym len)

    fetch_behind_it : (earlier : List Visit) → called ≡ record { state = n; made = None } → length earlier ≡ count
        → there ≡ record { state = behind_fetch count (record called.state { stage = own_stage called.state.stage }) told; made = None }
        → there.state ≡ behind_fetch (length earlier) (record n { stage = own_stage n.stage }) (answered v)
    fetch_behind_it earlier held len heard =
        ap (λ (h : HeldNode). h.state) heard
        ∙ ap (λ (s : NodeState). behind_fetch count (record s { stage = own_stage s.stage }) told) (state_is None held)
        ∙ ap (λ (r : Answer). behind_fetch count (record n { stage = own_stage n.stage }) r) told_is
        ∙ ap (λ (c : ℕ). behind_fetch c (record n { stage = own_stage n.stage }) (answered v)) (sym len)

    leave_behind_it : called ≡ record { state = n; made = None } → there ≡ record { state = record called.state { stage = Over }; made = None } → there.state ≡ record n { stage = Over }
    leave_behind_it held heard = ap (λ (h : HeldNode). h.state) heard ∙ ap (λ (s : NodeState). record s { stage = Over }) (state_is None held)

    same_run : (k run : KeptRun) (made : Option Report) → called ≡ record { state = n; made = made } → next_kept n.kept ≡ Some k → next_kept called.state.kept ≡ Some run → run ≡ k
    same_run k run made held is stepped =
        let e : Some run ≡ Some k = sym stepped ∙ ap (λ (s : NodeState). next_kept s.kept) (state_is made held) ∙ is in cc

    same_report : (told_run other : Report) → called ≡ record { state = n; made = Some told_run } → called.made ≡ Some other → other ≡ told_run
    same_report told_run other held made = let e : Some other ≡ Some told_run = sym made ∙ ap (λ (h : HeldNode). h.made) held in cc

    step_behind_it : (k : KeptRun) (others : List ℕ) (told_run reported : Report) → others ≡ drop 1 n.kept.round → called ≡ record { state = n; made = Some told_run } → next_kept n.kept ≡ Some k
        → told_run ≡ reported → HearsReport called told there → there.state ≡ behind_step n k others reported (answered v)
    step_behind_it k others told_run reported rest held is same heard =
        ap (λ (h : HeldNode). h.state) heard.leaves
        ∙ ap (λ (s : NodeState). behind_step s heard.run (drop 1 s.kept.round) heard.told told) (state_is (Some told_run) held)
        ∙ ap (λ (r : KeptRun). behind_step n r (drop 1 n.kept.round) heard.told told) (same_run k heard.run (Some told_run) held is heard.stepped)
        ∙ ap (λ (r : Report). behind_step n k (drop 1 n.kept.round) r told) (same_report told_run heard.told held heard.made ∙ same)
        ∙ ap (λ (o : List ℕ). behind_step n k o reported told) (sym rest)
        ∙ ap (λ (r : Answer). behind_step n k others reported r) told_is

    run_found : (run : ℕ) (k : KeptRun) → slice_get n.kept.round 0 ≡ Some run → next_kept n.kept ≡ Some k → run_kept run n.kept.runs ≡ Some k
    run_found run k first is = sym (ap (λ (o : Option ℕ). option_and_then (λ (r : ℕ). run_kept r n.kept.runs) o) first) ∙ is

    pub made_next : (comes : Next) (nt : NextTurn) → next_at live n n.stage ≡ nt → IsTurn nt (Some comes) → IsCallOf y begun comes n a called was now → Hears count comes called told there → Made
    made_next (next.Line line) (ALine l lines) is turn called_by heard = record {
      steps = [];
      leads = λ earlier behind. leads_by [] earlier (ALine l lines) is (
        serves (call_of_line read_built n earlier l v.turn)
            (ap built_call called_by.0
            ∙ ap (λ (s : Scans). call.Line line.now.number (built (line_with (user_line_view line.now) a.moment s (known n.kept)))) (sym behind.begun)
            ∙ ap (λ (x : UserLine). call.Line x.line.number (read_built x a.moment earlier (known n.kept))) (sym turn)
            ∙ ap (λ (m : ℕ). call.Line l.line.number (read_built l m earlier (known n.kept))) (sym moment)),
        (refl, line_behind_it (next.Line line) l lines earlier (user_line_view line.now) turn (line_rest live n n.stage l lines is) called_by.1 behind.count heard, refl),
      );
      rose = ap y.faults called_by.2;
      taken = subst (λ (o : Y). AreTaken y [] None was o) (sym called_by.2) (none_taken y was);
      made = ap (λ (h : HeldNode). h.made) heard;
    }
    made_next (next.Step number) (AStep run others) is turn called_by heard =
        let first = step_first live n n.stage run others is in
        let k = called_by.2.0 in
        let step = called_by.2.2 in
        record {
          steps = record { run = k; end = step.end } ∷ [];
          leads = λ earlier behind. leads_by (record { run = k; end = step.end } ∷ []) earlier (AStep run others) is (
            (run_found run k first.0 called_by.2.1, step.can_end),
            serves (call.Report run (report_told k step.end))
                (ap built_call called_by.1 ∙ ap (λ (r : ℕ). call.Report r called_by.0) (sym turn) ∙ ap (λ (r : Report). call.Report run r) step.told_is),
            (refl, step_behind_it k others called_by.0 (report_told k step.end) first.1 called_by.3 called_by.2.1 step.told_is heard, refl),
          );
          rose = step_rises y k step.end called_by.0 was now step.comes;
          taken = step_taken y k step.end called_by.0 was now step.comes;
          made = ap (λ (h : HeldNode). h.made) heard.leaves;
        }
    made_next next.Fetch AFetch is turn called_by heard = record {
      steps = [];
      leads = λ earlier behind. leads_by [] earlier AFetch is (serves (call.Fetch (known n.kept)) (ap built_call called_by.0), (refl, fetch_behind_it earlier called_by.1 behind.count heard, refl));
      rose = ap y.faults called_by.2;
      taken = subst (λ (o : Y). AreTaken y [] None was o) (sym called_by.2) (none_taken y was);
      made = ap (λ (h : HeldNode). h.made) heard;
    }
    made_next next.Leave ALeave is turn called_by heard = record {
      steps = [];
      leads = λ earlier behind. leads_by [] earlier ALeave is (serves call.Leave (ap built_call called_by.0), (refl, leave_behind_it called_by.1 heard, refl));
      rose = ap y.faults called_by.2;
      taken = subst (λ (o : Y). AreTaken y [] None was o) (sym called_by.2) (none_taken y was);
      made = ap (λ (h : HeldNode). h.made) heard;
    }
    made_next comes nt is turn called_by heard = absurd turn
