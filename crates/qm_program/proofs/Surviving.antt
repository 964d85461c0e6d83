-- What is left of a run: by a crash, and at the devices.
use Rattle.std.proofs.Common.{◌≡◌, ◌≢◌, ◌⊎◌, inl, inr, ⊎_elim, ℕ, List, [], ◌∷◌, ◌++◌, slice_get, Option, None, Some, Contains, IsTrue, option_to_list, sym, ◌∙◌, ap, subst}
use Rattle.std.specs.List.{AllByRecursion}
use Rattle.std.proofs.lemmas.List.Elements.{Contains-append_left}
use Rattle.qm_serving.specs.ClusterServing.{ServesAtOnce}
use Rattle.qm_serving.specs.ClusterServing as at_once
use Rattle.qm_node.specs.Asking.{read_built}
use Rattle.qm_cluster.specs.Runs.{IsNodeOf}
use Rattle.qm_node.specs.Sides.{Side}
use Rattle.qm_node.specs.Taken.{AreTaken}
use Rattle.qm_disk.specs.Disk.{CrashState, IsLeft, LeavesOnly, Meaning}
use Rattle.qm_disk.proofs.Moments.{goes_further, started, weaker}
use Rattle.qm_history.specs.Common.{cluster, HoldIn, HoldWithin, HoldWorld, Keeps, Extent, IsCourse, MadeStep, Whole, ServingEnd, after_turns, UserLine, lines_of, Hold, Starts, after_events, visits_of, IsSound, system_in, Record, system_of}
use Rattle.qm_history.specs.Blocks.{ComeInStretches, IsGiven, all_steps}
use Rattle.qm_history.specs.Chest.{StandsFor}
use Rattle.qm_history.specs.Ends as serving
use Rattle.qm_history.specs.Happening.{acknowledged, events_of}
use Rattle.qm_history.specs.Leaving.{IsLeftWithin, MayBeLeft, MayBeLeftBehind, MayBeLeftIn}
use Rattle.qm_history.specs.declared.event.Event.{Event}
use Rattle.qm_history.specs.declared.turn.Turn.{Turn}
use Rattle.qm_history.specs.declared.world.World.{World}
use Rattle.qm_cluster.specs.Ends.{extent_to, stop_of}
use Rattle.qm_chest.specs.Noted.{HasNoted}
use Rattle.qm_chest.specs.Opening.{MayBegin}
use Rattle.qm_serving.specs.Serving.{Outside, Serves}
use Rattle.qm_chest.specs.Manager.{meaning_of}
use Rattle.qm_symb.specs.Device as symb
use Rattle.qm_program.specs.Running.{ServesScript, ServesTo, Stays, TouchesNothing}
use Rattle.qm_program.specs.Surviving.{GoesOnBehind, GoesOnFrom, GoesOnIn, GoesOnWithin, HasAcknowledged, TakesInStretches}
use Rattle.qm_program.specs.declared.outcome.End.{End}
use Rattle.qm_program.specs.declared.outcome.End.TheVariants as ends

-- ---- what a crash leaves

abbrev pub InMoment : World → List Turn → CrashState → Type 0
InMoment w turns crashed = HoldIn crashed w turns

abbrev pub InWorld : World → CrashState → Type 0
InWorld w crashed = HoldWorld crashed w

-- The steps of a node's course came in turns, and its devices took the blocks of these steps.
abbrev pub TakesCourse : {Y : Type 0} → symb.Meaning Y → World → List Turn → ℕ → Side Y → Side Y → Type 0
TakesCourse y w turns node was now =
    (extent : Extent) × (lines : List UserLine) × (faults : ℕ) × (course : IsCourse read_built extent w turns node lines faults)
    × AreTaken y course.steps course.broken was.symbiont now.symbiont

module _ {D Y : Type 0} (m : Meaning D)
    (S : D → List (List ℕ) → List UserLine → Outside D Y → Outside D Y → List Turn → ServingEnd → Type 0)
    (left : Option (List ℕ)) (turns : List Turn) (old new : Outside D Y) where
  -- a run touches nothing, only looks, or serves the script
  abbrev IsOneOf : Type 0
  IsOneOf = Stays m turns old new ⊎ (TouchesNothing m turns old new ⊎ ((end : ServingEnd) × ServesScript m S left turns old new end))

  served_to : (end : ServingEnd) → ServesScript m S left turns old new end → IsOneOf
  served_to end serves = inr (inr (end, serves))

  touched_to : TouchesNothing m turns old new → IsOneOf
  touched_to touches = inr (inl touches)

  pub parted : (end : End) → ServesTo m S left turns old new end → IsOneOf
  parted ends.Ok runs = served_to serving.Served runs
  parted ends.Usage runs = absurd runs
  parted ends.Read runs = inl runs
  parted (ends.Script line kind) runs = ⊎_elim (λ stays. inl stays) touched_to runs
  parted ends.Write runs = served_to serving.SinkFailed runs
  parted ends.Journal runs = ⊎_elim (λ unopened. touched_to unopened.0) (served_to serving.DiskFailed) runs
  parted (ends.Unformatted byte) runs = touched_to runs.0
  parted (ends.Damaged file place) runs = ⊎_elim (λ unopened. touched_to unopened.0) (served_to (serving.Damaged file place)) runs
  parted ends.HistoryFull runs = served_to serving.HistoryFull runs
  parted ends.NoMemory runs = ⊎_elim (λ stays. inl stays) (⊎_elim (λ lacks. touched_to lacks.0) (served_to serving.NoMemory)) runs

  -- in a world with which a program begins on the disk, the calls of each way of serving are noted
  module _ (w : World) (tells : IsTrue m.tells) (begins : MayBegin m old.disk w)
      (noted : (opened : D) (names : List (List ℕ)) (lines : List UserLine) (end : ServingEnd) → S old.disk names lines (record old { disk = opened }) new turns end → HasNoted m w opened new.disk turns) where
    -- what stands behind the turns, over the disk that was opened
    abbrev StandsOver : D → Type 0
    StandsOver opened = LeavesOnly m opened new.disk (InMoment w turns) × Keeps m (after_turns w turns) new.disk

    over : (opened disk : D) (ts : List Turn) → disk ≡ new.disk → ts ≡ turns → LeavesOnly m opened disk (InMoment w ts) → Keeps m (after_turns w ts) disk
        → StandsOver opened
    over opened disk ts on are moments keeps = (
      subst (λ (d : D). LeavesOnly m opened d (InMoment w turns)) on (subst (λ (t : List Turn). LeavesOnly m opened disk (InMoment w t)) are moments),
      subst (λ (d : D). Keeps m (after_turns w turns) d) on
          (subst (λ (t : List Turn). Keeps m (after_turns w t) disk) are keeps),
    )

    noted_stands : (opened : D) → HasNoted m w opened new.disk turns → StandsOver opened
    noted_stands opened has = by (has.stands.stands tells)
      where
        by : StandsFor m w opened has.last has.notes → StandsOver opened
        by stands = over opened has.last.disk has.last.turns has.disk_is has.turns_are stands.moments stands.keeps

    served_stands : (end : ServingEnd) (s : ServesScript m S left turns old new end) → StandsOver s.opened
    served_stands end s = noted_stands s.opened (noted s.opened s.names s.served.lines end s.served.so)

    -- ---- moments

    abbrev IsOfRun : CrashState → Type 0
    IsOfRun crashed = IsLeft (m.may_leave old.disk) crashed ⊎ InMoment w turns crashed

    pub served_moments : ((disk : D) (crashed : CrashState) → m.left_since disk (m.moment disk) crashed → IsLeft (m.may_leave disk) crashed) → (end : End) → ServesTo m S left turns old new end
        → LeavesOnly m old.disk new.disk IsOfRun
    served_moments only_now end runs = elim (parted end runs) [
      | inl stays ↦ subst (λ (o : Outside D Y). LeavesOnly m old.disk o.disk IsOfRun) (sym stays.0) (started m old.disk IsOfRun (λ crashed left. inl (only_now old.disk crashed left)))
      | inr more ↦ elim more [
        | inl touches ↦ weaker m old.disk new.disk (IsLeft (m.may_leave old.disk)) IsOfRun touches.disk.any_moment (λ crashed left. inl left)
        | inr served ↦
            let s = served.1 in
            let first = weaker m old.disk s.opened (IsLeft (m.may_leave old.disk)) IsOfRun s.looks.any_moment (λ crashed left. inl left) in
            goes_further m old.disk s.opened new.disk IsOfRun (InMoment w turns) first (served_stands served.0 s).0 (λ crashed held. inr held)
      ]
    ]

    -- behind turns that were made
    kept_behind : (files : CrashState) → Keeps m (after_turns w turns) new.disk
        → (files ≡ m.seen new.disk) ⊎ IsLeft (m.may_leave new.disk) files → InWorld (after_turns w turns) files
    kept_behind files keeps are = elim are [
      | inl seen ↦ subst (InWorld (after_turns w turns)) (sym seen) keeps.reads
      | inr is_left ↦ keeps.crash files is_left
    ]

    pub served_behind : (end : End) → ServesTo m S left turns old new end → turns ≢ [] → (files : CrashState)
        → (files ≡ m.seen new.disk) ⊎ IsLeft (m.may_leave new.disk) files → InWorld (after_turns w turns) files
    served_behind end runs some files are = elim (parted end runs) [
      | inl stays ↦ absurd (some stays.1)
      | inr more ↦ elim more [
        | inl touches ↦ absurd (some touches.none)
        | inr served ↦ kept_behind files (served_stands served.0 served.1).1 are
      ]
    ]

  -- ---- devices

  module _ (y : symb.Meaning Y) (w : World) (tells : IsTrue m.tells) (begins : MayBegin m old.disk w)
      (stretches : (extent : Extent) (node : ℕ) (lines : List UserLine) (faults : ℕ) (h : IsCourse read_built extent w turns node lines faults) → ComeInStretches [] (all_steps h.steps h.broken))
      (given : (extent : Extent) (node : ℕ) (lines : List UserLine) (faults : ℕ) (h : IsCourse read_built extent w turns node lines faults)
      → AllByRecursion (λ (m : MadeStep). IsGiven (visits_of node w turns) m.run) (all_steps h.steps h.broken))
      (node : ℕ) (name : List ℕ) (was now : Side Y) (called : slice_get (cluster (system_in w)) node ≡ Some name)
      (before : slice_get old.sides node ≡ Some was) (after : slice_get new.sides node ≡ Some now)
      (taken : (opened : D) (names : List (List ℕ)) (lines : List UserLine) (end : ServingEnd) → slice_get names node ≡ Some name
      → S old.disk names lines (record old { disk = opened }) new turns end → TakesCourse y w turns node was now) where
    abbrev Takes : Type 0
    Takes = TakesInStretches y w turns node was.symbiont now.symbiont

    -- nothing was taken
    none_taken : turns ≡ [] → new.sides ≡ old.sides → Takes
    none_taken none same =
        inl (none, by (same_side (slice_get old.sides node) before (subst (λ (sides : List (Side Y)). slice_get sides node ≡ Some now) same after)))
      where
        same_side : (o : Option (Side Y)) → o ≡ Some was → o ≡ Some now → was ≡ now
        same_side o a b = cc

        by : was ≡ now → was.symbiont ≡ now.symbiont
        by is = ap (λ (side : Side Y). side.symbiont) is

    course_taken : TakesCourse y w turns node was now → Takes
    course_taken takes = inr (record {
      extent = takes.0;
      lines = takes.1;
      faults = takes.2;
      course = takes.3;
      given = given takes.0 node takes.1 takes.2 takes.3;
      stretches = stretches takes.0 node takes.1 takes.2 takes.3;
      taken = takes.4;
    })

    pub served_taken : (end : End) → ServesTo m S left turns old new end → Takes
    served_taken end runs = elim (parted end runs) [
      | inl stays ↦ none_taken stays.1 (ap (λ (o : Outside D Y). o.sides) stays.0)
      | inr more ↦ elim more [
        | inl touches ↦ none_taken touches.none touches.sides
        | inr served ↦
            let s = served.1 in
            let names : cluster (system_in w) ≡ s.names = (s.cluster tells).names_are w begins.starts in
            let named : slice_get s.names node ≡ Some name = subst (λ (n : List (List ℕ)). slice_get n node ≡ Some name) names called in
            course_taken (taken s.opened s.names s.served.lines served.0 named s.served.so)
      ]
    ]

-- ---- one thread

module _ {D Y : Type 0} (m : Meaning D) (y : symb.Meaning Y) (turns : List Turn) (old new : Outside D Y) (w : World) (tells : IsTrue m.tells) (begins : MayBegin m old.disk w) where
  pub one_noted : (opened : D) (names : List (List ℕ)) (lines : List UserLine) (end : ServingEnd) → Serves m y old.disk names lines (record old { disk = opened }) new turns end
      → HasNoted m w opened new.disk turns
  one_noted opened names lines end serves = (serves.within tells w begins).noted

  pub one_taken : (node : ℕ) (name : List ℕ) (was now : Side Y) → slice_get old.sides node ≡ Some was → slice_get new.sides node ≡ Some now
      → (opened : D) (names : List (List ℕ)) (lines : List UserLine) (end : ServingEnd) → slice_get names node ≡ Some name
      → Serves m y old.disk names lines (record old { disk = opened }) new turns end → TakesCourse y w turns node was now
  one_taken node name was now before after opened names lines end named serves = by ((serves.within tells w begins).run.nodes node name was now named before after)
    where
      by : IsNodeOf (meaning_of m) y (extent_to (stop_of end)) w turns node (lines_of name lines) was now → TakesCourse y w turns node was now
      by is = (extent_to (stop_of end), lines_of name lines, is.faults, is.course, is.taken)

-- ---- a thread for each node

module _ {D Y : Type 0} (m : Meaning D) (y : symb.Meaning Y) (turns : List Turn) (old new : Outside D Y) (w : World) (tells : IsTrue m.tells) (begins : MayBegin m old.disk w) where
  pub nodes_noted : (opened : D) (names : List (List ℕ)) (lines : List UserLine) (end : ServingEnd) → ServesAtOnce m y old.disk names lines (record old { disk = opened }) new turns end
      → HasNoted m w opened new.disk turns
  nodes_noted opened names lines end serves = (serves.within tells w begins).site.noted

  pub nodes_taken : (node : ℕ) (name : List ℕ) (was now : Side Y) → slice_get old.sides node ≡ Some was → slice_get new.sides node ≡ Some now
      → (opened : D) (names : List (List ℕ)) (lines : List UserLine) (end : ServingEnd) → slice_get names node ≡ Some name
      → ServesAtOnce m y old.disk names lines (record old { disk = opened }) new turns end → TakesCourse y w turns node was now
  nodes_taken node name was now before after opened names lines end named serves = by ((serves.within tells w begins).nodes node name was now named before after)
    where
      by : (extent : Extent) × (stop_of end ≡ None → extent ≡ Whole) × at_once.IsNodeOf y w turns extent node (lines_of name lines) was now → TakesCourse y w turns node was now
      by is = (is.0, lines_of name lines, is.2.faults, is.2.course, is.2.taken)

-- ---- what was acknowledged

abbrev pub Begins : Type 0
Begins = (files : CrashState) (log : List Record) → Hold files log
    → (w : World) × Starts files w × IsSound w × (system_in w ≡ system_of log)

module _ (begins : Begins) where
  goes_on : (MayStand : List Record → Type 0) (turns : List Turn) (files : CrashState) (log : List Record) → Hold files log → MayStand log
      → HasAcknowledged turns log → GoesOnFrom MayStand turns files
  goes_on MayStand turns files log holds stands has = by (begins files log holds)
    where
      by : (w : World) × Starts files w × IsSound w × (system_in w ≡ system_of log) → GoesOnFrom MayStand turns files
      by begun = record { log = log; stands = stands; acknowledged = has; world = begun.0; starts = begun.1; sound = begun.2; system = begun.3 }

  abbrev StayWithin : Type 0
  StayWithin = (w : World) (before : List Turn) (t : Turn) (log : List Record) (some : List Event) (e : Event) (others : List Event) (r : Record)
      → MayBeLeft (after_turns w before) t log → events_of before ≡ some ++ e ∷ others → acknowledged e ≡ Some r → Contains log r

  abbrev StayBehind : Type 0
  StayBehind = (w : World) (before : List Event) (e : Event) (behind : List Event) (r : Record) → acknowledged e ≡ Some r → Contains (after_events w (before ++ e ∷ behind)).log r

  abbrev AreEvents : Type 0
  AreEvents = (w : World) (turns : List Turn) → after_turns w turns ≡ after_events w (events_of turns)

  left_within : StayWithin → (w : World) (before : List Turn) (t : Turn) (crashed : CrashState) (log : List Record) → Hold crashed log
      → MayBeLeft (after_turns w before) t log → GoesOnWithin w before t crashed
  left_within stay w before t crashed log holds left =
      goes_on (MayBeLeft (after_turns w before) t) before crashed log holds left (λ some e others r is noted. stay w before t log some e others r left is noted)

  pub goes_on_within : StayWithin → (w : World) (before : List Turn) (t : Turn) (crashed : CrashState) → HoldWithin crashed (after_turns w before) t
      → GoesOnWithin w before t crashed
  goes_on_within stay w before t crashed held = left_within stay w before t crashed held.log held.holds held.left

  left_behind : StayBehind → AreEvents → (w : World) (turns : List Turn) (crashed : CrashState) (log : List Record) → Hold crashed log
      → MayBeLeftBehind (after_turns w turns) log → GoesOnBehind w turns crashed
  left_behind stay are_events w turns crashed log holds left = goes_on (MayBeLeftBehind (after_turns w turns)) turns crashed log holds left has
    where
      in_log : (behind : World) (r : Record) → MayBeLeftBehind behind log → Contains behind.log r → Contains log r
      in_log behind r may there = elim may [
        | inl is ↦ subst (λ (l : List Record). Contains l r) (sym is) there
        | inr more ↦ subst (λ (l : List Record). Contains l r) (sym more) (Contains-append_left behind.log (option_to_list behind.doubt) r there)
      ]

      has : HasAcknowledged turns log
      has some e others r is noted =
          let events : after_turns w turns ≡ after_events w (some ++ e ∷ others) = are_events w turns ∙ ap (after_events w) is in
          in_log (after_turns w turns) r left (subst (λ (v : World). Contains v.log r) (sym events) (stay w some e others r noted))

  pub goes_on_behind : StayBehind → AreEvents → (w : World) (turns : List Turn) (crashed : CrashState) → HoldWorld crashed (after_turns w turns)
      → GoesOnBehind w turns crashed
  goes_on_behind stay are_events w turns crashed held = left_behind stay are_events w turns crashed held.log held.holds held.left

  -- at some moment
  pub goes_on_in : StayWithin → StayBehind → AreEvents
      → ((w : World) (turns : List Turn) (log : List Record) → MayBeLeftIn w turns log → IsLeftWithin w turns log ⊎ MayBeLeftBehind (after_turns w turns) log)
      → (w : World) (turns : List Turn) (crashed : CrashState) → HoldIn crashed w turns → GoesOnIn w turns crashed
  goes_on_in within behind are_events moment w turns crashed held = elim (moment w turns held.log held.left) [
    | inl at ↦ inl (at.before, at.turn, at.behind, at.turns_are, left_within within w at.before at.turn crashed held.log held.holds at.left)
    | inr left ↦ inr (left_behind behind are_events w turns crashed held.log held.holds left)
  ]
