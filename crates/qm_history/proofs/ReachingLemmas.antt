-- A course goes on from the state that it has reached.
use Rattle.std.proofs.Common.{◌≡◌, ℕ, ◌≤◌, ◌⊎◌, inl, inr, Bool, true, false, not, ◌||◌, cond, List, [], ◌∷◌, ◌++◌, length, refl, sym, ◌∙◌, ap, subst, arith, Option, None, ◌==◌, is_none, append_assoc, append-nil}
use Rattle.std.proofs.lemmas.Bool.Decides.{nat_tests}
use Rattle.qm_history.specs.Common.{Input, input_of, KeptRun, known, report_told, after_turns, UserLine, steps_asked, after_event, ATakeover, IsBehindTakeover, IsCutShort, IsOwn, IsServed, IsTurnOf, UnlessDown, is_down, Visit, visits_of, is_live, system_in}
use Rattle.qm_kinds.specs.declared.input.Input.TheVariants as input
use Rattle.qm_history.specs.declared.call.Call.{Call}
use Rattle.qm_history.specs.declared.call.Call.TheVariants as call
use Rattle.qm_history.specs.declared.event.Event.{Event}
use Rattle.qm_history.specs.declared.event.Event.TheVariants as event
use Rattle.qm_history.specs.declared.turn.Turn.{Turn}
use Rattle.qm_history.specs.declared.world.World.{World}
use Rattle.qm_history.specs.Course.{Extent, Whole, Begun, Follows, GoesOn, IsBrokenOff, IsCourse, IsStepOf, MadeStep, NextTurn, ALine, AStep, AFetch, ALeave, NoTurn, NodeState, Over, ServesOrEnds, answered, at_first, behind_fetch, behind_line, behind_step, call_of_line, failed_steps, is_live_behind, next_at, next_run, own_stage}
use Rattle.qm_history.specs.Reaching.{HasReached, IsCutAtEnd, IsCutBehindTakeover, IsCutNext, IsTookAlone, Reaches, is_for_role}
use Rattle.qm_history.specs.Takeover.{StandsOrFails, TakesOverThen, UnlessRefused, is_named, nodes_on, takes_over}
use Rattle.qm_history.proofs.HistoryLemmas.{visits_of_append}

module _ (read : UserLine → ℕ → List Visit → List ℕ → Input) where
  -- a turn that was served whole is one of each course
  whole_serves : (extent : Extent) (w : World) (asked : Call) (t : Turn) (others : List Visit) → IsTurnOf w asked t → ServesOrEnds read extent w asked t others
  whole_serves Whole w asked t others h = h
  whole_serves Begun w asked t others h = inl h

  -- ---- what is reached goes on

  module _ (extent : Extent) (broken : Option KeptRun) (v : Visit) (others more : List Visit) (Rest After : NodeState → List MadeStep → Type 0) (added : List MadeStep)
      (goes : (n : NodeState) (steps : List MadeStep) → Rest n steps → After n (steps ++ added))
    where
      follows_on : (n : NodeState) (earlier : List Visit) (steps : List MadeStep) (next : NextTurn) → Follows read Whole None n earlier steps v others Rest next
          → Follows read extent broken n earlier (steps ++ added) v more After next
      follows_on n earlier steps (ALine l lines) h = (
        whole_serves extent v.before (call_of_line read n earlier l v.turn) v.turn more h.0,
        goes (behind_line (length earlier) n lines (steps_asked l.line.sort l.line.text) (answered v)) steps h.1,
      )
      follows_on n earlier [] (AStep run round) h = absurd h
      follows_on n earlier (m ∷ steps) (AStep run round) h = (
        h.0,
        whole_serves extent v.before (call.Report run (report_told m.run m.end)) v.turn more h.1,
        goes (behind_step n m.run round (report_told m.run m.end) (answered v)) steps h.2,
      )
      follows_on n earlier steps AFetch h = (
        whole_serves extent v.before (call.Fetch (known n.kept)) v.turn more h.0,
        goes (behind_fetch (length earlier) (record n { stage = own_stage n.stage }) (answered v)) steps h.1,
      )
      follows_on n earlier steps ALeave h = (whole_serves extent v.before call.Leave v.turn more h.0, goes (record n { stage = Over }) steps h.1)
      follows_on n earlier steps NoTurn h = absurd h

  module _ (extent : Extent) (broken : Option KeptRun) (others : List Visit) (more : List MadeStep) (then : NodeState) (then_live : Bool) where
    goes_on : (visits earlier : List Visit) (n : NodeState) (live : Bool) (steps : List MadeStep) → Reaches read n earlier live visits steps then then_live
        → GoesOn read extent broken then (earlier ++ visits) then_live others more → GoesOn read extent broken n earlier live (visits ++ others) (steps ++ more)
    goes_on [] earlier n live steps h rest =
        subst (λ s. GoesOn read extent broken n earlier live others (s ++ more)) (sym h.0)
        (subst (λ b. GoesOn read extent broken n earlier b others more) h.2
        (subst (λ x. GoesOn read extent broken x earlier then_live others more) h.1
        (subst (λ e. GoesOn read extent broken then e then_live others more) (append-nil earlier) rest)))
    goes_on (v ∷ visits) earlier n live steps h rest =
        follows_on extent broken v visits (visits ++ others)
        (λ after left. Reaches read after (earlier ++ v ∷ []) (is_live_behind v) visits left then then_live)
        (λ after left. GoesOn read extent broken after (earlier ++ v ∷ []) (is_live_behind v) (visits ++ others) left) more
        (λ after left reached. goes_on visits (earlier ++ v ∷ []) after (is_live_behind v) left reached
        (subst (λ e. GoesOn read extent broken then e then_live others more) (sym (append_assoc earlier (v ∷ []) visits)) rest)) n earlier steps (next_at live n n.stage) h

  -- and so does what is reached then
  module _ (others : List Visit) (more : List MadeStep) (then last : NodeState) (then_live last_live : Bool) where
    reaches_on : (visits earlier : List Visit) (n : NodeState) (live : Bool) (steps : List MadeStep) → Reaches read n earlier live visits steps then then_live
        → Reaches read then (earlier ++ visits) then_live others more last last_live → Reaches read n earlier live (visits ++ others) (steps ++ more) last last_live
    reaches_on [] earlier n live steps h rest =
        subst (λ s. Reaches read n earlier live others (s ++ more) last last_live) (sym h.0)
        (subst (λ b. Reaches read n earlier b others more last last_live) h.2
        (subst (λ x. Reaches read x earlier then_live others more last last_live) h.1
        (subst (λ e. Reaches read then e then_live others more last last_live) (append-nil earlier) rest)))
    reaches_on (v ∷ visits) earlier n live steps h rest =
        follows_on Whole None v visits (visits ++ others)
        (λ after left. Reaches read after (earlier ++ v ∷ []) (is_live_behind v) visits left then then_live)
        (λ after left. Reaches read after (earlier ++ v ∷ []) (is_live_behind v) (visits ++ others) left last last_live) more
        (λ after left reached. reaches_on visits (earlier ++ v ∷ []) after (is_live_behind v) left reached
        (subst (λ e. Reaches read then e then_live others more last last_live) (sym (append_assoc earlier (v ∷ []) visits)) rest)) n earlier steps (next_at live n n.stage) h

  -- ---- a turn that was cut short is whole, or the call asked for more than the takeover that stands

  own_or_more : (what : Input) (after : World) (node reading : ℕ) (asked : Call) (own : List Event) → own ≡ [] → IsOwn after node reading asked ATakeover what own ⊎ (is_for_role what ≡ false)
  own_or_more (input.TakeManager on) after node reading asked own none = inl none
  own_or_more what after node reading asked own none = inr refl

  module _ (w : World) (node reading : ℕ) (asked : Call) where
    abbrev Wanted : World → List Event → Type 0
    Wanted after own = IsOwn after node reading asked ATakeover (input_of asked) own

    abbrev IsMoreWanted : List Event → Type 0
    IsMoreWanted events = IsTookAlone events × (is_for_role (input_of asked) ≡ false)

    took_or_more : (on : Option (List (List ℕ))) (n moment epoch : ℕ) (gone up may : List (List ℕ)) (kept : Option Bool)
        → StandsOrFails w node reading on (λ after own. own ≡ []) (event.Took n moment epoch gone up may kept ∷ [])
        → Wanted (after_event w (event.Took n moment epoch gone up may kept)) [] ⊎ (is_for_role (input_of asked) ≡ false)
        → StandsOrFails w node reading on Wanted (event.Took n moment epoch gone up may kept ∷ []) ⊎ IsMoreWanted (event.Took n moment epoch gone up may kept ∷ [])
    took_or_more on n moment epoch gone up may kept h (inl own) = inl (h.0, h.1, h.2, own)
    took_or_more on n moment epoch gone up may kept h (inr more) = inr (tt, more)

    stands_or_more : (on : Option (List (List ℕ))) (events : List Event) → StandsOrFails w node reading on (λ after own. own ≡ []) events
        → StandsOrFails w node reading on Wanted events ⊎ IsMoreWanted events
    stands_or_more on (event.Took n moment epoch gone up may kept ∷ []) h =
        took_or_more on n moment epoch gone up may kept h
        (own_or_more (input_of asked) (after_event w (event.Took n moment epoch gone up may kept)) node reading asked [] refl)
    stands_or_more on (event.Took n moment epoch gone up may kept ∷ e ∷ events) h = let bad : e ∷ events ≡ [] = h.3 in cc
    stands_or_more on (event.TakeDoubt n tried kept ∷ events) h = inl h
    stands_or_more on events h = absurd h

    named_or_more : (on : Option (List (List ℕ))) (refused : Bool) (events : List Event) → UnlessRefused refused node (StandsOrFails w node reading on (λ after own. own ≡ []) events) events
        → UnlessRefused refused node (StandsOrFails w node reading on Wanted events) events ⊎ IsMoreWanted events
    named_or_more on true events h = inl h
    named_or_more on false events h = stands_or_more on events h

    taken_or_more : (on : Option (List (List ℕ))) (events : List Event) → TakesOverThen w node reading on (λ after own. own ≡ []) events
        → TakesOverThen w node reading on Wanted events ⊎ IsMoreWanted events
    taken_or_more on events h = named_or_more on (not (is_none w.manager || is_named (system_in w) on node)) events h

    served_of : (events : List Event) → is_down w node (input_of asked) ≡ false → takes_over w (input_of asked) ≡ true → TakesOverThen w node reading (nodes_on (input_of asked)) Wanted events
        → IsServed w node reading asked events
    served_of events up takes h =
        subst (λ down. UnlessDown down node reading (input_of asked) (IsBehindTakeover w node reading asked (takes_over w (input_of asked)) events) events) (sym up)
        (subst (λ takes. IsBehindTakeover w node reading asked takes events) (sym takes) h)

  abbrev IsCut : World → Call → Turn → Type 0
  IsCut w asked t = IsCutBehindTakeover read w asked t

  whole_or_cut : (w : World) (asked : Call) (t : Turn) → IsCutShort w asked t
      → TakesOverThen w t.node t.moment (nodes_on (input_of asked)) (Wanted w t.node t.moment asked) t.events ⊎ IsMoreWanted w t.node t.moment asked t.events
      → IsTurnOf w asked t ⊎ IsCut w asked t
  whole_or_cut w asked t cut (inl taken) = inl (cut.0, served_of w t.node t.moment asked t.events cut.1.0 cut.1.1 taken)
  whole_or_cut w asked t cut (inr more) = inr (cut, more.0, more.1)

  cut_or_whole : (w : World) (asked : Call) (t : Turn) → IsCutShort w asked t → IsTurnOf w asked t ⊎ IsCut w asked t
  cut_or_whole w asked t cut = whole_or_cut w asked t cut (taken_or_more w t.node t.moment asked (nodes_on (input_of asked)) t.events cut.1.2)

  -- ---- a course has reached a state, or its last turn was cut short

  module _ (broken : Option KeptRun) (v : Visit) (Rest : NodeState → List MadeStep → Type 0)
      (Then : NodeState → List MadeStep → NodeState → Bool → Type 0) (At : NodeState → Bool → Type 0)
    where
      abbrev Led : (NodeState → Bool → Type 0) → Type 0
      Led F = (then : NodeState) × (then_live : Bool) × F then then_live × At then then_live

      led_through : (F : NodeState → Bool → Type 0) (n : NodeState) (steps : List MadeStep) → ((then : NodeState) (then_live : Bool) → Then n steps then then_live → F then then_live)
          → Led (Then n steps) → Led F
      led_through F n steps made (then, then_live, there, at) = (then, then_live, made then then_live there, at)

      abbrev After : List Visit → NodeState → List Visit → List MadeStep → NextTurn → NodeState → Bool → Type 0
      After others n earlier steps next then then_live = Follows read Whole None n earlier steps v others (λ after left. Then after left then then_live) next

      -- the turn is the last one
      module _ (each : (n : NodeState) (steps : List MadeStep) → Rest n steps → (steps ≡ []) × Led (Then n steps)) where
        ended_on : (F : NodeState → Bool → Type 0) (asked : Call) (n : NodeState) (steps : List MadeStep)
            → (IsTurnOf v.before asked v.turn → (then : NodeState) (then_live : Bool) → Then n steps then then_live → F then then_live)
            → IsTurnOf v.before asked v.turn ⊎ IsCut v.before asked v.turn → Rest n steps → (IsCut v.before asked v.turn × (steps ≡ [])) ⊎ Led F
        ended_on F asked n steps made (inl served) rest = inr (led_through F n steps (made served) ((each n steps rest).1))
        ended_on F asked n steps made (inr cut) rest = inl (cut, (each n steps rest).0)

        last_on : (F : NodeState → Bool → Type 0) (asked : Call) (n : NodeState) (steps : List MadeStep)
            → (IsTurnOf v.before asked v.turn → (then : NodeState) (then_live : Bool) → Then n steps then then_live → F then then_live)
            → ServesOrEnds read Begun v.before asked v.turn [] → Rest n steps → (IsCut v.before asked v.turn × (steps ≡ [])) ⊎ Led F
        last_on F asked n steps made (inl served) rest = ended_on F asked n steps made (inl served) rest
        last_on F asked n steps made (inr (cut, none)) rest = ended_on F asked n steps made (cut_or_whole v.before asked v.turn cut) rest

        step_ended : (n : NodeState) (earlier : List Visit) (m : MadeStep) (steps : List MadeStep) (run : ℕ) (round : List ℕ) (F : NodeState → Bool → Type 0) → IsStepOf n run m
            → (IsCut v.before (call.Report run (report_told m.run m.end)) v.turn × (steps ≡ [])) ⊎ Led F
            → IsCutNext read n earlier (m ∷ steps) v (AStep run round) ⊎ Led F
        step_ended n earlier m steps run round F is (inl cut) = inl (is, cut.0, cut.1)
        step_ended n earlier m steps run round F is (inr led) = inr led

        -- a leave takes no role over
        leave_ended : (n : NodeState) (earlier : List Visit) (steps : List MadeStep) (F : NodeState → Bool → Type 0) → (IsCut v.before call.Leave v.turn × (steps ≡ [])) ⊎ Led F
            → IsCutNext read n earlier steps v ALeave ⊎ Led F
        leave_ended n earlier steps F (inl cut) = let bad : false ≡ true = cut.0.0.1.1 in cc
        leave_ended n earlier steps F (inr led) = inr led

        followed_last : (n : NodeState) (earlier : List Visit) (steps : List MadeStep) (next : NextTurn) → Follows read Begun broken n earlier steps v [] Rest next
            → IsCutNext read n earlier steps v next ⊎ Led (After [] n earlier steps next)
        followed_last n earlier steps (ALine l lines) h =
            last_on (After [] n earlier steps (ALine l lines)) (call_of_line read n earlier l v.turn) (behind_line (length earlier) n lines (steps_asked l.line.sort l.line.text) (answered v)) steps
            (λ served then then_live there. (served, there)) h.0 h.1
        followed_last n earlier [] (AStep run round) h = absurd h
        followed_last n earlier (m ∷ steps) (AStep run round) h =
            step_ended n earlier m steps run round (After [] n earlier (m ∷ steps) (AStep run round)) h.0
            (last_on (After [] n earlier (m ∷ steps) (AStep run round)) (call.Report run (report_told m.run m.end)) (behind_step n m.run round (report_told m.run m.end) (answered v)) steps
            (λ served then then_live there. (h.0, served, there)) h.1 h.2)
        followed_last n earlier steps AFetch h =
            last_on (After [] n earlier steps AFetch) (call.Fetch (known n.kept)) (behind_fetch (length earlier) (record n { stage = own_stage n.stage }) (answered v)) steps
            (λ served then then_live there. (served, there)) h.0 h.1
        followed_last n earlier steps ALeave h =
            leave_ended n earlier steps (After [] n earlier steps ALeave)
            (last_on (After [] n earlier steps ALeave) call.Leave (record n { stage = Over }) steps (λ served then then_live there. (served, there)) h.0 h.1)
        followed_last n earlier steps NoTurn h = absurd h

      -- other turns follow
      module _ (other : Visit) (others : List Visit) (Cut : NodeState → List MadeStep → Type 0) (each : (n : NodeState) (steps : List MadeStep) → Rest n steps → Cut n steps ⊎ Led (Then n steps)) where
        abbrev Ends : NodeState → List Visit → List MadeStep → NextTurn → Type 0
        Ends n earlier steps next = Follows read Whole None n earlier steps v (other ∷ others) Cut next

        led_on : (E : Type 0) (F : NodeState → Bool → Type 0) (n : NodeState) (steps : List MadeStep) → (Cut n steps → E)
            → ((then : NodeState) (then_live : Bool) → Then n steps then then_live → F then then_live) → Cut n steps ⊎ Led (Then n steps) → E ⊎ Led F
        led_on E F n steps ends made (inl cut) = inl (ends cut)
        led_on E F n steps ends made (inr led) = inr (led_through F n steps made led)

        served_on : (E : Type 0) (F : NodeState → Bool → Type 0) (asked : Call) (n : NodeState) (steps : List MadeStep)
            → (IsTurnOf v.before asked v.turn → Cut n steps → E)
            → (IsTurnOf v.before asked v.turn → (then : NodeState) (then_live : Bool) → Then n steps then then_live → F then then_live)
            → ServesOrEnds read Begun v.before asked v.turn (other ∷ others) → Rest n steps → E ⊎ Led F
        served_on E F asked n steps ends made (inl served) rest = led_on E F n steps (ends served) (made served) (each n steps rest)
        served_on E F asked n steps ends made (inr (cut, none)) rest = cc

        followed : (n : NodeState) (earlier : List Visit) (steps : List MadeStep) (next : NextTurn) → Follows read Begun broken n earlier steps v (other ∷ others) Rest next
            → Ends n earlier steps next ⊎ Led (After (other ∷ others) n earlier steps next)
        followed n earlier steps (ALine l lines) h =
            served_on (Ends n earlier steps (ALine l lines)) (After (other ∷ others) n earlier steps (ALine l lines)) (call_of_line read n earlier l v.turn)
            (behind_line (length earlier) n lines (steps_asked l.line.sort l.line.text) (answered v)) steps
            (λ served cut. (served, cut)) (λ served then then_live there. (served, there)) h.0 h.1
        followed n earlier [] (AStep run round) h = absurd h
        followed n earlier (m ∷ steps) (AStep run round) h =
            served_on (Ends n earlier (m ∷ steps) (AStep run round)) (After (other ∷ others) n earlier (m ∷ steps) (AStep run round)) (call.Report run (report_told m.run m.end))
            (behind_step n m.run round (report_told m.run m.end) (answered v)) steps
            (λ served cut. (h.0, served, cut)) (λ served then then_live there. (h.0, served, there)) h.1 h.2
        followed n earlier steps AFetch h =
            served_on (Ends n earlier steps AFetch) (After (other ∷ others) n earlier steps AFetch) (call.Fetch (known n.kept))
            (behind_fetch (length earlier) (record n { stage = own_stage n.stage }) (answered v)) steps
            (λ served cut. (served, cut)) (λ served then then_live there. (served, there)) h.0 h.1
        followed n earlier steps ALeave h =
            served_on (Ends n earlier steps ALeave) (After (other ∷ others) n earlier steps ALeave) call.Leave (record n { stage = Over }) steps
            (λ served cut. (served, cut)) (λ served then then_live there. (served, there)) h.0 h.1
        followed n earlier steps NoTurn h = absurd h

  has_reached : (broken : Option KeptRun) (visits earlier : List Visit) (n : NodeState) (live : Bool) (steps : List MadeStep) → GoesOn read Begun broken n earlier live visits steps
      → IsCutAtEnd read n earlier live visits steps ⊎ HasReached read broken n earlier live visits steps
  has_reached broken [] earlier n live steps h = inr (n, live, (h.1, refl, refl), h.2)
  has_reached broken (v ∷ []) earlier n live steps h =
      followed_last broken v (λ after left. GoesOn read Begun broken after (earlier ++ v ∷ []) (is_live_behind v) [] left)
      (λ after left then then_live. Reaches read after (earlier ++ v ∷ []) (is_live_behind v) [] left then then_live)
      (λ then then_live. IsBrokenOff Begun (next_run then (next_at then_live then then.stage)) broken)
      (λ after left rest. (rest.1, (after, is_live_behind v, (rest.1, refl, refl), rest.2))) n earlier steps (next_at live n n.stage) h
  has_reached broken (v ∷ other ∷ others) earlier n live steps h =
      followed broken v (λ after left. GoesOn read Begun broken after (earlier ++ v ∷ []) (is_live_behind v) (other ∷ others) left)
      (λ after left then then_live. Reaches read after (earlier ++ v ∷ []) (is_live_behind v) (other ∷ others) left then then_live)
      (λ then then_live. IsBrokenOff Begun (next_run then (next_at then_live then then.stage)) broken) other others
      (λ after left. IsCutAtEnd read after (earlier ++ v ∷ []) (is_live_behind v) (other ∷ others) left)
      (λ after left rest. has_reached broken (other ∷ others) (earlier ++ v ∷ []) after (is_live_behind v) left rest) n earlier steps (next_at live n n.stage) h

  -- ---- courses

  pub course_reaches : (w : World) (turns : List Turn) (node : ℕ) (lines : List UserLine) (faults : ℕ) → (h : IsCourse read Begun w turns node lines faults)
      → IsCutAtEnd read (at_first lines) [] (is_live w node) (visits_of node w turns) h.steps ⊎ HasReached read h.broken (at_first lines) [] (is_live w node) (visits_of node w turns) h.steps
  course_reaches w turns node lines faults h = has_reached h.broken (visits_of node w turns) [] (at_first lines) (is_live w node) h.steps h.turns_are

  pub one_visit : (node : ℕ) (w : World) (turns : List Turn) (t : Turn) → t.node ≡ node
      → visits_of node w (turns ++ t ∷ []) ≡ visits_of node w turns ++ record { before = after_turns w turns; turn = t } ∷ []
  one_visit node w turns t same =
      let equal : (t.node == node) ≡ true = grind (arith, nat_tests) in
      visits_of_append node w turns (t ∷ [])
      ∙ ap (λ b. visits_of node w turns ++ cond b (record { before = after_turns w turns; turn = t } ∷ []) []) equal

  pub course_goes_on : (extent : Extent) (broken : Option KeptRun) (w : World) (turns : List Turn) (t : Turn) (node : ℕ) (lines : List UserLine) (faults : ℕ) (steps more : List MadeStep)
      (then : NodeState) (then_live : Bool) → t.node ≡ node → Reaches read (at_first lines) [] (is_live w node) (visits_of node w turns) steps then then_live
      → GoesOn read extent broken then (visits_of node w turns) then_live (record { before = after_turns w turns; turn = t } ∷ []) more
      → failed_steps (steps ++ more) ≤ faults → IsCourse read extent w (turns ++ t ∷ []) node lines faults
  course_goes_on extent broken w turns t node lines faults steps more then then_live same reached next few = record {
    steps = steps ++ more;
    broken = broken;
    turns_are =
        subst (λ vs. GoesOn read extent broken (at_first lines) [] (is_live w node) vs (steps ++ more)) (sym (one_visit node w turns t same))
        (goes_on extent broken (record { before = after_turns w turns; turn = t } ∷ []) more then then_live (visits_of node w turns) [] (at_first lines) (is_live w node) steps reached next);
    few_faults = few;
  }

  pub course_reaches_on : (w : World) (turns : List Turn) (t : Turn) (node : ℕ) (lines : List UserLine) (steps more : List MadeStep)
      (then last : NodeState) (then_live last_live : Bool) → t.node ≡ node → Reaches read (at_first lines) [] (is_live w node) (visits_of node w turns) steps then then_live
      → Reaches read then (visits_of node w turns) then_live (record { before = after_turns w turns; turn = t } ∷ []) more last last_live
      → Reaches read (at_first lines) [] (is_live w node) (visits_of node w (turns ++ t ∷ [])) (steps ++ more) last last_live
  course_reaches_on w turns t node lines steps more then last then_live last_live same reached next =
      subst (λ vs. Reaches read (at_first lines) [] (is_live w node) vs (steps ++ more) last last_live) (sym (one_visit node w turns t same))
      (reaches_on (record { before = after_turns w turns; turn = t } ∷ []) more then last then_live last_live (visits_of node w turns) [] (at_first lines) (is_live w node) steps reached next)
