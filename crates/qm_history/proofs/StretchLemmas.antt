-- The steps of a node come in stretches, one for each fetch.
use Rattle.std.proofs.Common.{◌≡◌, ℕ, zero, suc, ◌<◌, inl, inr, Bool, true, false, cond, not, List, [], ◌∷◌, ◌++◌, length, refl, sym, subst, arith, Option, None, Some, map, Contains, ◌==◌, IfSome, slice_get, option_map, append_assoc}
use Rattle.std.specs.List.{AllByRecursion, cons_option}
use Rattle.std.proofs.lemmas.Bool.Decides.{nat_tests}
use Rattle.qm_history.specs.Common.{Input, Duty, Place, Report, Work, UserLine, steps_asked, Visit, visits_of}
use Rattle.qm_kinds.specs.declared.work.Report.TheVariants as report
use Rattle.qm_model.specs.Reports.{begin}
use Rattle.qm_history.specs.declared.call.Answer.{Answer}
use Rattle.qm_history.specs.declared.call.Answer.TheVariants as answer
use Rattle.qm_history.specs.declared.world.World.{World}
use Rattle.qm_history.specs.declared.turn.Turn.{Turn}
use Rattle.qm_history.specs.Blocks.{broken_step, all_steps, last_step, Gives, IsGiven, IsFetchedBehind, IsLeftBy, IsInStretch, ComeInStretches}
use Rattle.qm_model.specs.Kept.{KeptRun, KeptRuns, run_kept, kept_of, kept_after, moved_to, without_run, behind_mark, behind_report, report_told}
use Rattle.qm_history.specs.Course.{NodeState, MadeStep, goes_on, NextTurn, Extent, Whole, Begun, IsBrokenOff, next_run, IsCourse, GoesOn, Follows, ALine, AStep, AFetch, ALeave, NoTurn, behind_step, behind_line, behind_step_line, behind_fetch, next_at, own_stage, answered, is_live_behind, at_first, Over}

same_number : (a b : ℕ) → (a == b) ≡ true → a ≡ b
same_number a b h = grind (arith, nat_tests)

itself : (a : ℕ) → (a == a) ≡ true
itself a = grind (arith, nat_tests)

turned_round : (a b : ℕ) → (a == b) ≡ false → (b == a) ≡ false
turned_round a b h = grind (arith, nat_tests)

-- ---- what holds of each run that is kept

module _ (P : KeptRun → Type 0) where
  found_at : (k : KeptRun) (rest : Option KeptRun) (b : Bool) → P k → IfSome rest P → IfSome (cond b (Some k) rest) P
  found_at k rest true here there = here
  found_at k rest false here there = there

  found : (run : ℕ) (runs : List KeptRun) → AllByRecursion P runs → IfSome (run_kept run runs) P
  found run [] all = tt
  found run (k ∷ runs) all = found_at k (run_kept run runs) (k.run == run) all.0 (found run runs all.1)

  found_is : (o : Option KeptRun) (k : KeptRun) → o ≡ Some k → IfSome o P → P k
  found_is o k is h = let h2 : IfSome (Some k) P = subst (λ x. IfSome x P) is h in h2

  joined : (o : Option KeptRun) (runs : List KeptRun) → IfSome o P → AllByRecursion P runs → AllByRecursion P (cons_option o runs)
  joined None runs here there = there
  joined (Some k) runs here there = (here, there)

  gone_at : (k : KeptRun) (others : List KeptRun) (b : Bool) → P k → AllByRecursion P others → AllByRecursion P (cond (not b) (k ∷ others) others)
  gone_at k others true here there = there
  gone_at k others false here there = (here, there)

  gone : (run : ℕ) (runs : List KeptRun) → AllByRecursion P runs → AllByRecursion P (without_run run runs)
  gone run [] all = tt
  gone run (k ∷ runs) all = gone_at k (without_run run runs) (k.run == run) all.0 (gone run runs all.1)

  -- it doesn't speak of what the last fetch said
  module _ (flagged : (k : KeptRun) (aborting paused : Bool) → P k → P (record k { aborting = aborting; paused = paused })) (turns : ℕ) (all_duties : List Duty)
      (new : (d : Duty) (work : Work) → Contains all_duties d → d.work ≡ Some work
      → P (record { run = d.run; aborting = d.aborting; paused = d.paused; work = work; place = begin work; fetched = turns }))
    where
      kept_one : (d : Duty) (o : Option KeptRun) → IfSome o P → IfSome (option_map (λ (k : KeptRun). record k { aborting = d.aborting; paused = d.paused }) o) P
      kept_one d None h = tt
      kept_one d (Some k) h = flagged k d.aborting d.paused h

      kept : (runs : List KeptRun) (d : Duty) (work : Option Work) → Contains all_duties d → d.work ≡ work → AllByRecursion P runs → IfSome (kept_of turns runs d work) P
      kept runs d (Some work) among is all = new d work among is
      kept runs d None among is all = kept_one d (run_kept d.run runs) (found d.run runs all)

      all_kept : (runs : List KeptRun) (duties : List Duty) → ((d : Duty) → Contains duties d → Contains all_duties d) → AllByRecursion P runs → AllByRecursion P (kept_after turns runs duties)
      all_kept runs [] among all = tt
      all_kept runs (d ∷ duties) among all =
          joined (kept_of turns runs d d.work) (kept_after turns runs duties) (kept runs d d.work (among d (zero, omega arith, refl)) refl all)
          (all_kept runs duties (λ x inside. among x (suc inside.0, omega (arith, inside.1), inside.2)) all)

  -- it doesn't speak of the place
  module _ (placed : (k : KeptRun) (place : Place) → P k → P (record k { place = place })) (s : KeptRun) (here : P s) where
    moved_at : (place : Place) (k : KeptRun) (b : Bool) → P k → P (cond b (record s { place = place }) k)
    moved_at place k true h = placed s place here
    moved_at place k false h = h

    all_moved : (place : Place) (runs : List KeptRun) → AllByRecursion P runs → AllByRecursion P (map (moved_to s place) runs)
    all_moved place [] all = tt
    all_moved place (k ∷ runs) all = (moved_at place k (k.run == s.run) all.0, all_moved place runs all.1)

    mark_keeps : (kept : KeptRuns) (others : List ℕ) (next : Place) (goes_on : Bool) → AllByRecursion P kept.runs → AllByRecursion P (behind_mark kept s others next goes_on).runs
    mark_keeps kept others next true all = all_moved next kept.runs all
    mark_keeps kept others next false all = gone s.run kept.runs all

    report_keeps : (kept : KeptRuns) (others : List ℕ) (told : Report) (goes_on : Bool) → AllByRecursion P kept.runs → AllByRecursion P (behind_report kept s others told goes_on).runs
    report_keeps kept others (report.Mark value next) goes_on all = mark_keeps kept others next goes_on all
    report_keeps kept others (report.Done status) goes_on all = gone s.run kept.runs all

-- ---- fetches that gave runs

get_before : (a b : List Visit) (i : ℕ) (v : Visit) → slice_get a i ≡ Some v → slice_get (a ++ b) i ≡ Some v
get_before [] b i v h = cc
get_before (x ∷ a) b zero v h = h
get_before (x ∷ a) b (suc i) v h = get_before a b i v h

get_last : (a : List Visit) (v : Visit) → slice_get (a ++ v ∷ []) (length a) ≡ Some v
get_last [] v = refl
get_last (x ∷ a) v = get_last a v

get_within : (a : List Visit) (i : ℕ) (v : Visit) → slice_get a i ≡ Some v → i < length a
get_within [] i v h = cc
get_within (x ∷ a) zero v h = omega arith
get_within (x ∷ a) (suc i) v h = let within = get_within a i v h in omega arith

pub given_later : (a b : List Visit) (k : KeptRun) → IsGiven a k → IsGiven (a ++ b) k
given_later a b k (v, is, gives) = (v, get_before a b k.fetched v is, gives)

all_given_later : (a b : List Visit) (runs : List KeptRun) → AllByRecursion (IsGiven a) runs → AllByRecursion (IsGiven (a ++ b)) runs
all_given_later a b [] all = tt
all_given_later a b (k ∷ runs) all = (given_later a b k all.0, all_given_later a b runs all.1)

steps_given_later : (a b : List Visit) (steps : List MadeStep) → AllByRecursion (λ (m : MadeStep). IsGiven a m.run) steps → AllByRecursion (λ (m : MadeStep). IsGiven (a ++ b) m.run) steps
steps_given_later a b [] all = tt
steps_given_later a b (m ∷ steps) all = (given_later a b m.run all.0, steps_given_later a b steps all.1)

-- a fetch as the last of these turns gives what it shows
given_new : (before : List Visit) (v : Visit) (n : NodeState) (replied : Answer) → answered v ≡ replied → AllByRecursion (IsGiven before) n.kept.runs
    → AllByRecursion (IsGiven (before ++ v ∷ [])) (behind_fetch (length before) n replied).kept.runs
given_new before v n (answer.Duties took moment duties) is all =
    all_kept (IsGiven (before ++ v ∷ [])) (λ k aborting paused h. h) (length before) duties
    (λ d work among work_is. (v, get_last before v, subst (λ r. Gives r d.run work) (sym is) (d, among, refl, work_is)))
    n.kept.runs duties (λ d among. among) (all_given_later before (v ∷ []) n.kept.runs all)
given_new before v n replied is all = all_given_later before (v ∷ []) n.kept.runs all

given_line : (before : List Visit) (v : Visit) (n : NodeState) (steps : ℕ) (replied : Answer) → answered v ≡ replied → AllByRecursion (IsGiven before) n.kept.runs
    → AllByRecursion (IsGiven (before ++ v ∷ [])) (behind_step_line (length before) n steps replied).kept.runs
given_line before v n steps (answer.Duties took moment duties) is all =
    all_kept (IsGiven (before ++ v ∷ [])) (λ k aborting paused h. h) (length before) duties
    (λ d work among work_is. (v, get_last before v, subst (λ r. Gives r d.run work) (sym is) (d, among, refl, work_is)))
    n.kept.runs duties (λ d among. among) (all_given_later before (v ∷ []) n.kept.runs all)
given_line before v n steps replied is all = all_given_later before (v ∷ []) n.kept.runs all

-- ---- where runs are

abbrev pub AllInStretch : List MadeStep → List KeptRun → Type 0
AllInStretch earlier runs = AllByRecursion (IsInStretch earlier) runs

-- a run of another number is where it was
pub still : (m : MadeStep) (earlier : List MadeStep) (k : KeptRun) → (m.run.run == k.run) ≡ false → IsInStretch earlier k → IsInStretch (m ∷ earlier) k
still m earlier k other (inl begins) = inl (subst (λ b. IsFetchedBehind (cond b (Some m) (last_step k.run earlier)) k) (sym other) begins.0, begins.1)
still m earlier k other (inr left) = inr (subst (λ b. IsLeftBy (cond b (Some m) (last_step k.run earlier)) k) (sym other) left)

stretch_moved_at : (m : MadeStep) (earlier : List MadeStep) (place : Place) (value : List ℕ) → report_told m.run m.end ≡ report.Mark value place → (k : KeptRun) (b : Bool) → (k.run == m.run.run) ≡ b
    → IsInStretch earlier k → IsInStretch (m ∷ earlier) (cond b (record m.run { place = place }) k)
stretch_moved_at m earlier place value told k true is h =
    inr (subst (λ b. IsLeftBy (cond b (Some m) (last_step m.run.run earlier)) (record m.run { place = place })) (sym (itself m.run.run)) (refl, refl, (value, told)))
stretch_moved_at m earlier place value told k false is h = still m earlier k (turned_round k.run m.run.run is) h

stretch_moved : (m : MadeStep) (earlier : List MadeStep) (place : Place) (value : List ℕ) → report_told m.run m.end ≡ report.Mark value place → (runs : List KeptRun)
    → AllInStretch earlier runs → AllInStretch (m ∷ earlier) (map (moved_to m.run place) runs)
stretch_moved m earlier place value told [] all = tt
stretch_moved m earlier place value told (k ∷ runs) all =
    (stretch_moved_at m earlier place value told k (k.run == m.run.run) refl all.0, stretch_moved m earlier place value told runs all.1)

stretch_gone_at : (m : MadeStep) (earlier : List MadeStep) (k : KeptRun) (runs : List KeptRun) (b : Bool) → (k.run == m.run.run) ≡ b → IsInStretch earlier k
    → AllInStretch (m ∷ earlier) (without_run m.run.run runs) → AllInStretch (m ∷ earlier) (cond (not b) (k ∷ without_run m.run.run runs) (without_run m.run.run runs))
stretch_gone_at m earlier k runs true is here there = there
stretch_gone_at m earlier k runs false is here there = (still m earlier k (turned_round k.run m.run.run is) here, there)

stretch_gone : (m : MadeStep) (earlier : List MadeStep) (runs : List KeptRun) → AllInStretch earlier runs → AllInStretch (m ∷ earlier) (without_run m.run.run runs)
stretch_gone m earlier [] all = tt
stretch_gone m earlier (k ∷ runs) all = stretch_gone_at m earlier k runs (k.run == m.run.run) refl all.0 (stretch_gone m earlier runs all.1)

-- ---- a step

marked : (kept : KeptRuns) (m : MadeStep) (earlier : List MadeStep) (others : List ℕ) (value : List ℕ) (next : Place) (goes_on : Bool) → report_told m.run m.end ≡ report.Mark value next
    → AllInStretch earlier kept.runs → AllInStretch (m ∷ earlier) (behind_mark kept m.run others next goes_on).runs
marked kept m earlier others value next true is all = stretch_moved m earlier next value is kept.runs all
marked kept m earlier others value next false is all = stretch_gone m earlier kept.runs all

stepped : (kept : KeptRuns) (m : MadeStep) (earlier : List MadeStep) (others : List ℕ) (told : Report) (goes_on : Bool) → report_told m.run m.end ≡ told
    → AllInStretch earlier kept.runs → AllInStretch (m ∷ earlier) (behind_report kept m.run others told goes_on).runs
stepped kept m earlier others (report.Mark value next) goes_on is all = marked kept m earlier others value next goes_on is all
stepped kept m earlier others (report.Done status) goes_on is all = stretch_gone m earlier kept.runs all

-- ---- a fetch

left_too : (o : Option MadeStep) (k : KeptRun) (aborting paused : Bool) → IsLeftBy o k → IsLeftBy o (record k { aborting = aborting; paused = paused })
left_too None k aborting paused left = absurd left
left_too (Some m) k aborting paused left = left

behind_too : (o : Option MadeStep) (k : KeptRun) (aborting paused : Bool) → IsFetchedBehind o k → IsFetchedBehind o (record k { aborting = aborting; paused = paused })
behind_too None k aborting paused behind = tt
behind_too (Some m) k aborting paused behind = behind

stretch_flagged : (earlier : List MadeStep) (k : KeptRun) (aborting paused : Bool) → IsInStretch earlier k → IsInStretch earlier (record k { aborting = aborting; paused = paused })
stretch_flagged earlier k aborting paused (inl begins) = inl (behind_too (last_step k.run earlier) k aborting paused begins.0, begins.1)
stretch_flagged earlier k aborting paused (inr left) = inr (left_too (last_step k.run earlier) k aborting paused left)

module _ (k : KeptRun) where
  behind_at : (m : MadeStep) (rest : Option MadeStep) (b : Bool) → m.run.fetched < k.fetched → IsFetchedBehind rest k → IsFetchedBehind (cond b (Some m) rest) k
  behind_at m rest true here there = here
  behind_at m rest false here there = there

  -- a fetch is behind all steps before it
  fetched_behind : (before : List Visit) (run : ℕ) → k.fetched ≡ length before → (earlier : List MadeStep) → AllByRecursion (λ (m : MadeStep). IsGiven before m.run) earlier
      → IsFetchedBehind (last_step run earlier) k
  fetched_behind before run now [] made = tt
  fetched_behind before run now (m ∷ earlier) made =
      let within : m.run.fetched < length before = get_within before m.run.fetched made.0.0 made.0.1 in
      behind_at m (last_step run earlier) (m.run.run == run) (omega arith) (fetched_behind before run now earlier made.1)

module _ (before : List Visit) (earlier : List MadeStep) (made : AllByRecursion (λ (m : MadeStep). IsGiven before m.run) earlier) where
  shown : (runs : List KeptRun) (duties : List Duty) → AllInStretch earlier runs → AllInStretch earlier (kept_after (length before) runs duties)
  shown runs duties all =
      all_kept (IsInStretch earlier) (stretch_flagged earlier) (length before) duties
      (λ d work among work_is. inl (fetched_behind (record { run = d.run; aborting = d.aborting; paused = d.paused; work = work; place = begin work; fetched = length before }) before d.run refl earlier made, refl))
      runs duties (λ d among. among) all

  fetched : (n : NodeState) (replied : Answer) → AllInStretch earlier n.kept.runs → AllInStretch earlier (behind_fetch (length before) n replied).kept.runs
  fetched n (answer.Duties took moment duties) all = shown n.kept.runs duties all
  fetched n replied all = all

  step_line : (n : NodeState) (steps : ℕ) (replied : Answer) → AllInStretch earlier n.kept.runs → AllInStretch earlier (behind_step_line (length before) n steps replied).kept.runs
  step_line n steps (answer.Duties took moment duties) all = shown n.kept.runs duties all
  step_line n steps replied all = all

  lined : (n : NodeState) (lines : List UserLine) (asked : Option ℕ) (replied : Answer) → AllInStretch earlier n.kept.runs → AllInStretch earlier (behind_line (length before) n lines asked replied).kept.runs
  lined n lines (Some steps) replied all = step_line (record n { lines = lines }) steps replied all
  lined n lines None replied all = all

given_lined : (before : List Visit) (v : Visit) (n : NodeState) (lines : List UserLine) (asked : Option ℕ) → AllByRecursion (IsGiven before) n.kept.runs
    → AllByRecursion (IsGiven (before ++ v ∷ [])) (behind_line (length before) n lines asked (answered v)).kept.runs
given_lined before v n lines (Some steps) all = given_line before v (record n { lines = lines }) steps (answered v) refl all
given_lined before v n lines None all = all_given_later before (v ∷ []) n.kept.runs all

-- ---- a course

-- what is known of a node and of its steps so far
pub record IsSoFar (n : NodeState) (before : List Visit) (earlier : List MadeStep) : Type 0 where
  pub stretch : AllInStretch earlier n.kept.runs
  pub given : AllByRecursion (IsGiven before) n.kept.runs
  pub made : AllByRecursion (λ (m : MadeStep). IsGiven before m.run) earlier

-- what is said of the steps that follow
pub record AreGood (all : List Visit) (earlier steps : List MadeStep) : Type 0 where
  pub stretches : ComeInStretches earlier steps
  pub given : AllByRecursion (λ (m : MadeStep). IsGiven all m.run) steps

next_kept : (P : KeptRun → Type 0) (n : NodeState) (next : NextTurn) → AllByRecursion P n.kept.runs → IfSome (next_run n next) P
next_kept P n (AStep run round) all = found P run n.kept.runs all
next_kept P n _ all = tt

-- the step within which a course broke off
broken_good : (extent : Extent) (n : NodeState) (before : List Visit) (earlier : List MadeStep) (next : NextTurn) (broken : Option KeptRun) → IsSoFar n before earlier
    → IsBrokenOff extent (next_run n next) broken → AreGood (before ++ []) earlier (broken_step broken)
broken_good extent n before earlier next None so h = record { stretches = tt; given = tt }
broken_good Whole n before earlier next (Some k) so h = absurd h
broken_good Begun n before earlier next (Some k) so h = record {
  stretches = (found_is (IsInStretch earlier) (next_run n next) k h.0 (next_kept (IsInStretch earlier) n next so.stretch), tt);
  given = (given_later before [] k (found_is (IsGiven before) (next_run n next) k h.0 (next_kept (IsGiven before) n next so.given)), tt);
}

module _ (read : UserLine → ℕ → List Visit → List ℕ → Input) (extent : Extent) (broken : Option KeptRun) where
  follows_on : (all : List Visit) (n : NodeState) (before : List Visit) (v : Visit) (others : List Visit) (steps : List MadeStep) (earlier : List MadeStep) (next : NextTurn) → IsSoFar n before earlier
      → ((k : KeptRun) → IsGiven before k → IsGiven all k)
      → ((after : NodeState) (left : List MadeStep) (earlier : List MadeStep) → IsSoFar after (before ++ v ∷ []) earlier
      → GoesOn read extent broken after (before ++ v ∷ []) (is_live_behind v) others left → AreGood all earlier (left ++ broken_step broken))
      → Follows read extent broken n before steps v others (λ after left. GoesOn read extent broken after (before ++ v ∷ []) (is_live_behind v) others left) next
      → AreGood all earlier (steps ++ broken_step broken)
  follows_on all n before v others steps earlier (ALine l lines) so later on h =
      on (behind_line (length before) n lines (steps_asked l.line.sort l.line.text) (answered v)) steps earlier
      (record {
        stretch = lined before earlier so.made n lines (steps_asked l.line.sort l.line.text) (answered v) so.stretch;
        given = given_lined before v n lines (steps_asked l.line.sort l.line.text) so.given;
        made = steps_given_later before (v ∷ []) earlier so.made;
      }) h.1
  follows_on all n before v others [] earlier (AStep run round) so later on h = absurd h
  follows_on all n before v others (m ∷ steps) earlier (AStep run round) so later on h =
      let given : IsGiven before m.run = found_is (IsGiven before) (run_kept run n.kept.runs) m.run h.0.0 (found (IsGiven before) run n.kept.runs so.given) in
      let rest : AreGood all (m ∷ earlier) (steps ++ broken_step broken) =
      on (behind_step n m.run round (report_told m.run m.end) (answered v)) steps (m ∷ earlier)
      (record {
        stretch = stepped n.kept m earlier round (report_told m.run m.end) (goes_on (answered v)) refl so.stretch;
        given = all_given_later before (v ∷ []) (behind_step n m.run round (report_told m.run m.end) (answered v)).kept.runs
            (report_keeps (IsGiven before) (λ k place h. h) m.run given n.kept round (report_told m.run m.end) (goes_on (answered v)) so.given);
        made = (given_later before (v ∷ []) m.run given, steps_given_later before (v ∷ []) earlier so.made);
      }) h.2 in
      record {
        stretches = (found_is (IsInStretch earlier) (run_kept run n.kept.runs) m.run h.0.0 (found (IsInStretch earlier) run n.kept.runs so.stretch), rest.stretches);
        given = (later m.run given, rest.given);
      }
  follows_on all n before v others steps earlier AFetch so later on h =
      on (behind_fetch (length before) (record n { stage = own_stage n.stage }) (answered v)) steps earlier
      (record {
        stretch = fetched before earlier so.made (record n { stage = own_stage n.stage }) (answered v) so.stretch;
        given = given_new before v (record n { stage = own_stage n.stage }) (answered v) refl so.given;
        made = steps_given_later before (v ∷ []) earlier so.made;
      }) h.1
  follows_on all n before v others steps earlier ALeave so later on h =
      on (record n { stage = Over }) steps earlier
      (record { stretch = so.stretch; given = all_given_later before (v ∷ []) n.kept.runs so.given; made = steps_given_later before (v ∷ []) earlier so.made }) h.1
  follows_on all n before v others steps earlier NoTurn so later on h = absurd h

  pub good : (visits : List Visit) (n : NodeState) (before : List Visit) (live : Bool) (steps : List MadeStep) (earlier : List MadeStep) → IsSoFar n before earlier
      → GoesOn read extent broken n before live visits steps → AreGood (before ++ visits) earlier (steps ++ broken_step broken)
  good [] n before live steps earlier so h =
      subst (λ xs. AreGood (before ++ []) earlier (xs ++ broken_step broken)) (sym h.1) (broken_good extent n before earlier (next_at live n n.stage) broken so h.2)
  good (v ∷ others) n before live steps earlier so h =
      follows_on (before ++ v ∷ others) n before v others steps earlier (next_at live n n.stage) so (given_later before (v ∷ others))
      (λ after left more sound goes. subst (λ vs. AreGood vs more (left ++ broken_step broken)) (append_assoc before (v ∷ []) others) (good others after (before ++ v ∷ []) (is_live_behind v) left more sound goes)) h

module _ (read : UserLine → ℕ → List Visit → List ℕ → Input) (extent : Extent) where
  course_good : (w : World) (turns : List Turn) (node : ℕ) (lines : List UserLine) (faults : ℕ) → (h : IsCourse read extent w turns node lines faults) → AreGood (visits_of node w turns) [] (all_steps h.steps h.broken)
  course_good w turns node lines faults h =
      good read extent h.broken (visits_of node w turns) (at_first lines) [] _ h.steps [] (record { stretch = tt; given = tt; made = tt }) h.turns_are

  pub course_stretches : (w : World) (turns : List Turn) (node : ℕ) (lines : List UserLine) (faults : ℕ) → (h : IsCourse read extent w turns node lines faults) → ComeInStretches [] (all_steps h.steps h.broken)
  course_stretches w turns node lines faults h = let all = course_good w turns node lines faults h in all.stretches

  pub course_given : (w : World) (turns : List Turn) (node : ℕ) (lines : List UserLine) (faults : ℕ) → (h : IsCourse read extent w turns node lines faults)
      → AllByRecursion (λ (m : MadeStep). IsGiven (visits_of node w turns) m.run) (all_steps h.steps h.broken)
  course_given w turns node lines faults h = let all = course_good w turns node lines faults h in all.given
