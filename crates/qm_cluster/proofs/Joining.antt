-- Turns of a node behind others of it.
use Rattle.std.proofs.Common.{◌≡◌, ◌≢◌, ◌+◌, ◌<◌, ◌≤◌, ℕ, zero, suc, Bool, false, cond, List, [], ◌∷◌, ◌++◌, length, refl, sym, ◌∙◌, ap, subst, Option, None, zero-add, add_assoc, arith, slice_get, unwrap_or, append_assoc, append-nil}
use Rattle.std.specs.List.{AllByRecursion}
use Rattle.std.specs.Io.KnownBytes.{Appends}
use Rattle.std.proofs.lemmas.List.Sums.{sum_by-append}
use Rattle.qm_history.specs.Common.{KeptRun, turns_kept, faults_told, tells_disk_fault, after_turn, after_turns, Reaches, text, Visit, visits, is_live}
use Rattle.qm_symb.specs.Device as symb
use Rattle.qm_symb.specs.Device.{handed_by}
use Rattle.qm_symb.specs.declared.handed.HandOver.{HandOver}
use Rattle.qm_history.specs.declared.turn.Turn.{Turn}
use Rattle.qm_history.specs.declared.turn.Why.{Why}
use Rattle.qm_history.specs.declared.world.World.{World}
use Rattle.qm_history.specs.Blocks.{AreHanded, all_steps, broken_step}
use Rattle.qm_history.specs.Course.{Whole, Begun, GoesOn, MadeStep, failed_steps, has_failed}
use Rattle.qm_history.specs.Order.{AreOver}
use Rattle.qm_history.specs.Readings.{readings_of}
use Rattle.qm_history.proofs.EventLemmas.{turns_append}
use Rattle.qm_history.proofs.HistoryLemmas.{text_append, visits_append}
use Rattle.qm_sjc.specs.Printed.{items_line}
use Rattle.qm_node.specs.Asking.{read_built}
use Rattle.qm_history.specs.Serving.{AreMade, LeavesNone, Meaning}
use Rattle.qm_node.specs.Standing.{IsBehind, Standing}
use Rattle.qm_node.specs.Outside.{Outside}
use Rattle.qm_node.specs.Taken.{AreTaken, AreTold, RoseBy, Rises, handed_to}
use Rattle.qm_cluster.specs.Turning.{AreOf, Goes, GoesAt, IsToldTo, Stops, StopsAt, TakesUpTo}
use Rattle.qm_node.specs.Ends.{TakesFront}
use Rattle.qm_node.specs.declared.turn.TurnEnd.{TurnEnd}
use Rattle.qm_node.specs.declared.turn.TurnEnd.TheVariants as end
use Rattle.qm_cluster.proofs.Behind.{behind_none, behind_on}
use Rattle.qm_cluster.proofs.Counting.{appends_none, appends_on, rose_on}
use Rattle.qm_cluster.proofs.Reached.{goes_on, reaches_on}
use Rattle.qm_cluster.proofs.Stepping.{none_taken}

-- ---- nodes that are over

of_over : (node : ℕ) (live : List Bool) → AreOver node live → (j : ℕ) → j < node → unwrap_or (slice_get live j) false ≡ false
of_over zero live over j below = absurd (omega (arith, below))
of_over (suc node) [] over j below = refl
of_over (suc node) (b ∷ live) over zero below = over.0
of_over (suc node) (b ∷ live) over (suc j) below = of_over node live over.1 j (omega (arith, below))

pub over_of : (node : ℕ) (live : List Bool) → ((j : ℕ) → j < node → unwrap_or (slice_get live j) false ≡ false) → AreOver node live
over_of zero live each = tt
over_of (suc node) [] each = tt
over_of (suc node) (b ∷ live) each = (each 0 (omega arith), over_of node live (λ j below. each (suc j) (omega (arith, below))))

pub over_stays : (node : ℕ) (w v : World) → ((other : ℕ) → other ≢ node → is_live v other ≡ is_live w other) → AreOver node w.live → AreOver node v.live
over_stays node w v same over =
    over_of node v.live (λ j below. same j (λ is. let bad : j < j = subst (λ (n : ℕ). j < n) (sym is) below in omega (arith, bad)) ∙ of_over node w.live over j below)

-- ---- lists one behind another

pub all_append : {X : Type 0} (P : X → Type 0) (a b : List X) → AllByRecursion P a → AllByRecursion P b → AllByRecursion P (a ++ b)
all_append P [] b first second = second
all_append P (x ∷ a) b first second = (first.0, all_append P a b first.1 second)

pub of_append : (node : ℕ) (May : Why → Type 0) (a b : List Turn) → AreOf node May a → AreOf node May b → AreOf node May (a ++ b)
of_append node May [] b first second = second
of_append node May (t ∷ a) b first second = (first.0, of_append node May a b first.1 second)

pub length_append : {X : Type 0} (a b : List X) → length (a ++ b) ≡ length a + length b
length_append [] b = sym (zero-add (length b))
length_append (x ∷ a) b = ap suc (length_append a b) ∙ omega arith

pub told_append : (a b : List Turn) → faults_told (a ++ b) ≡ faults_told a + faults_told b
told_append a b = sum_by-append (λ (t : Turn). cond (tells_disk_fault t.events) 1 0) a b

pub failed_append : (a b : List MadeStep) → failed_steps (a ++ b) ≡ failed_steps a + failed_steps b
failed_append a b = sum_by-append (λ (m : MadeStep). cond (has_failed m.end) 1 0) a b

readings_append : (a b : List Visit) → readings_of (a ++ b) ≡ readings_of a ++ readings_of b
readings_append [] b = refl
readings_append (v ∷ a) b = ap (λ (l : List ℕ). v.turn.moment ∷ l) (readings_append a b)

handed_append : (steps more : List MadeStep) (a b : List (List (List ℕ))) → AreHanded steps a → AreHanded more b → AreHanded (steps ++ more) (a ++ b)
handed_append [] more [] b first second = second
handed_append [] more (blocks ∷ a) b first second = absurd first
handed_append (m ∷ steps) more [] b first second = absurd first
handed_append (m ∷ steps) more (blocks ∷ a) b first second = (first.0, handed_append steps more a b first.1 second)

to_append : (steps more : List MadeStep) (a b : List (List (List ℕ))) → AreHanded steps a → handed_to (steps ++ more) (a ++ b) ≡ handed_to steps a ++ handed_to more b
to_append [] more [] b first = refl
to_append [] more (blocks ∷ a) b first = absurd first
to_append (m ∷ steps) more [] b first = absurd first
to_append (m ∷ steps) more (blocks ∷ a) b first =
    ap (λ (l : List HandOver). handed_by m.run.work.run m.run.work.device blocks ++ l) (to_append steps more a b first.1)
    ∙ sym (append_assoc (handed_by m.run.work.run m.run.work.device blocks) (handed_to steps a) (handed_to more b))

pub visits_length : (w : World) (turns : List Turn) → length (visits w turns) ≡ length turns
visits_length w [] = refl
visits_length w (t ∷ turns) = ap suc (visits_length (after_turn w t) turns)

pub few_on : (a b c whole : ℕ) → whole ≡ a + b → b ≤ c → whole ≤ a + c
few_on a b c whole is few = omega (arith, is, few)

-- ---- what devices took, and clocks told

module _ {Y : Type 0} (y : symb.Meaning Y) where
  pub taken_on : (steps more : List MadeStep) (broken : Option KeptRun) (old mid new : Y) → AreTaken y steps None old mid → AreTaken y more broken mid new → AreTaken y (steps ++ more) broken old new
  taken_on steps more broken old mid new first second =
      let whole : AreHanded steps first.handed = subst (λ (l : List MadeStep). AreHanded l first.handed) (append-nil steps) first.are_handed in
      let all : all_steps (steps ++ more) broken ≡ steps ++ all_steps more broken = append_assoc steps more (broken_step broken) in
      record {
        handed = first.handed ++ second.handed;
        are_handed = subst (λ (l : List MadeStep). AreHanded l (first.handed ++ second.handed)) (sym all) (handed_append steps (all_steps more broken) first.handed second.handed whole second.are_handed);
        taken = λ tells.
            second.taken tells
            ∙ ap (λ (l : List HandOver). l ++ handed_to (all_steps more broken) second.handed) (first.taken tells ∙ ap (λ (l : List MadeStep). y.taken old ++ handed_to l first.handed) (append-nil steps))
            ∙ append_assoc (y.taken old) (handed_to steps first.handed) (handed_to (all_steps more broken) second.handed)
            ∙ ap (λ (l : List HandOver). y.taken old ++ l)
            (sym (ap (λ (l : List MadeStep). handed_to l (first.handed ++ second.handed)) all ∙ to_append steps (all_steps more broken) first.handed second.handed whole));
      }

  pub rises_on : (steps more : List MadeStep) (old mid new : Y) → Rises y (failed_steps steps) old mid → Rises y (failed_steps more) mid new → Rises y (failed_steps (steps ++ more)) old new
  rises_on steps more old mid new first second =
      subst (λ (k : ℕ). Rises y k old new) (sym (failed_append steps more)) (rose_on (failed_steps steps) (failed_steps more) (y.faults old) (y.faults mid) (y.faults new) first second)

pub told_on : (a b : List Visit) (old mid new : Option (List ℕ)) → AreTold Whole a old mid → AreTold Whole b mid new → AreTold Whole (a ++ b) old new
told_on a b old mid new first second = record {
  told = first.told ++ second.told;
  appended = appends_on first.told second.told old mid new first.appended second.appended;
  are = ap (λ (l : List ℕ). l ++ second.told) first.are ∙ ap (λ (l : List ℕ). readings_of a ++ l) second.are ∙ sym (readings_append a b);
}

pub told_to : (a b : List Visit) (old mid new : Option (List ℕ)) → AreTold Whole a old mid → AreTold Begun b mid new → AreTold Begun (a ++ b) old new
told_to a b old mid new first second = record {
  told = first.told ++ second.told;
  appended = appends_on first.told second.told old mid new first.appended second.appended;
  are = (
    second.are.0,
    ap (λ (l : List ℕ). l ++ second.told) first.are ∙ ap (λ (l : List ℕ). readings_of a ++ l) second.are.1
        ∙ sym (append_assoc (readings_of a) (readings_of b) second.are.0) ∙ ap (λ (l : List ℕ). l ++ second.are.0) (sym (readings_append a b)),
    second.are.2,
  );
}

front_on : (a b : List ℕ) (old mid new : Option (List ℕ)) → Appends old mid a → TakesFront mid new b → TakesFront old new (a ++ b)
front_on a b old mid new first second =
    (a ++ second.0, second.1, ap (λ (l : List ℕ). a ++ l) second.2 ∙ sym (append_assoc a second.0 second.1), appends_on a second.0 old mid new first second.3)

pub up_to_on : (stopped : TurnEnd) (a b : List ℕ) (old mid new : Option (List ℕ)) → Appends old mid a → TakesUpTo stopped mid new b → TakesUpTo stopped old new (a ++ b)
up_to_on end.HistoryFull a b old mid new first second = appends_on a b old mid new first second
up_to_on end.Write a b old mid new first second = front_on a b old mid new first second
up_to_on (end.Damaged file place) a b old mid new first second = front_on a b old mid new first second
up_to_on end.NoMemory a b old mid new first second = front_on a b old mid new first second

pub told_to_on : (stopped : TurnEnd) (a b : List Turn) (old mid new : ℕ) → RoseBy (faults_told a) old mid → IsToldTo stopped b mid new → IsToldTo stopped (a ++ b) old new
told_to_on stopped a b old mid new first second = record {
  failed = faults_told a + second.failed;
  unread = second.unread;
  told = told_append a b ∙ ap (λ (k : ℕ). faults_told a + k) second.told ∙ sym (add_assoc (faults_told a) second.failed second.unread);
  rose = rose_on (faults_told a) second.failed old mid new first second.rose;
  hidden = second.hidden;
}

-- ---- turns one behind another

module _ {S Y : Type 0} (m : Meaning S) (y : symb.Meaning Y) where
  pub made_on : (w : World) (a b : List Turn) (old mid new : S) → AreMade m w old a mid → AreMade m (after_turns w a) mid b new → AreMade m w old (a ++ b) new
  made_on w [] b old mid new first second = subst (λ (s : S). AreMade m w s b new) first second
  made_on w (t ∷ a) b old mid new (asked, told, next, may, does, rest) second = (asked, told, next, may, does, made_on (after_turn w t) a b next mid new rest second)

  pub goes_none : (May : Why → Type 0) (node : ℕ) (here : Standing) (old : Outside S Y) → m.serves old.value → length (m.turns old.value) ≤ turns_kept → Goes m y May node here here old old
  goes_none May node here old serves few = record {
    turns = [];
    kept = sym (append-nil (m.turns old.value));
    of_node = tt;
    few = few;
    count = omega arith;
    nodes = refl;
    serves = serves;
    failed = refl;
    at = λ w stands live. record {
      made = refl;
      stands = stands;
      steps = [];
      reaches = λ earlier behind. (refl, refl, refl);
      behind = λ earlier behind. behind_none earlier here behind;
      live = live;
      others = λ other differs. refl;
      down = λ was_down. was_down;
      overs = λ over. tt;
      printed = appends_none old.taken;
      told = record { told = []; appended = appends_none old.told; are = refl };
      rose = refl;
      taken = none_taken y old.symbiont;
    };
  }

  module _ (May : Why → Type 0) (node : ℕ) (here mid : Standing) (old between : Outside S Y) (first : Goes m y May node here mid old between) where
    pub after_is : (w : World) (b : List Turn) → after_turns w (first.turns ++ b) ≡ after_turns (after_turns w first.turns) b
    after_is w b = turns_append w first.turns b

    goes_at_on : (there : Standing) (new : Outside S Y) (b : List Turn) (w : World) → GoesAt m y w node here mid first.turns old between → GoesAt m y (after_turns w first.turns) node mid there b between new
        → GoesAt m y w node here there (first.turns ++ b) old new
    goes_at_on there new b w one two = record {
      made = made_on w first.turns b old.value between.value new.value one.made two.made;
      stands = subst (λ (v : World). m.stands v new.value) (sym (after_is w b)) two.stands;
      steps = one.steps ++ two.steps;
      reaches = λ earlier behind. subst (λ (vs : List Visit). Reaches read_built here.state earlier here.live vs (one.steps ++ two.steps) there.state there.live) (sym (visits_append w first.turns b))
          (reaches_on (visits (after_turns w first.turns) b) two.steps mid.state there.state mid.live there.live (visits w first.turns) earlier here.state here.live one.steps
          (one.reaches earlier behind) (two.reaches (earlier ++ visits w first.turns) (one.behind earlier behind)));
      behind = λ earlier behind. subst (λ (vs : List Visit). IsBehind (earlier ++ vs) there) (sym (visits_append w first.turns b))
          (behind_on earlier (visits w first.turns) (visits (after_turns w first.turns) b) there (two.behind (earlier ++ visits w first.turns) (one.behind earlier behind)));
      live = two.live ∙ ap (λ (v : World). is_live v node) (sym (after_is w b));
      others = λ other differs. ap (λ (v : World). is_live v other) (after_is w b) ∙ two.others other differs ∙ one.others other differs;
      down = λ was_down. two.down (one.down was_down);
      overs = λ over. subst (λ (vs : List Visit). AllByRecursion (λ (v : Visit). AreOver node v.before.live) vs) (sym (visits_append w first.turns b))
          (all_append (λ (v : Visit). AreOver node v.before.live) (visits w first.turns) (visits (after_turns w first.turns) b) (one.overs over)
          (two.overs (over_stays node w (after_turns w first.turns) (λ other differs. one.others other differs) over)));
      printed = subst (λ (l : List ℕ). Appends old.taken new.taken l) (sym (text_append items_line w first.turns b))
          (appends_on (text items_line w first.turns) (text items_line (after_turns w first.turns) b) old.taken between.taken new.taken one.printed two.printed);
      told = subst (λ (vs : List Visit). AreTold Whole vs old.told new.told) (sym (visits_append w first.turns b))
          (told_on (visits w first.turns) (visits (after_turns w first.turns) b) old.told between.told new.told one.told two.told);
      rose = rises_on y one.steps two.steps old.symbiont between.symbiont new.symbiont one.rose two.rose;
      taken = taken_on y one.steps two.steps None old.symbiont between.symbiont new.symbiont one.taken two.taken;
    }

    pub then_goes : (there : Standing) (new : Outside S Y) → Goes m y May node mid there between new → Goes m y May node here there old new
    then_goes there new second = record {
      turns = first.turns ++ second.turns;
      kept = second.kept ∙ ap (λ (l : List Turn). l ++ second.turns) first.kept ∙ append_assoc (m.turns old.value) first.turns second.turns;
      of_node = of_append node May first.turns second.turns first.of_node second.of_node;
      few = second.few;
      count = second.count ∙ ap (λ (k : ℕ). k + length second.turns) first.count ∙ add_assoc here.count (length first.turns) (length second.turns)
          ∙ ap (λ (k : ℕ). here.count + k) (sym (length_append first.turns second.turns));
      nodes = second.nodes ∙ first.nodes;
      serves = second.serves;
      failed = subst (λ (k : ℕ). RoseBy k (m.failed old.value) (m.failed new.value)) (sym (told_append first.turns second.turns))
          (rose_on (faults_told first.turns) (faults_told second.turns) (m.failed old.value) (m.failed between.value) (m.failed new.value) first.failed second.failed);
      at = λ w stands live. let one = first.at w stands live in goes_at_on there new second.turns w one (second.at (after_turns w first.turns) one.stands one.live);
    }

    pub stops_at_on : (new : Outside S Y) (b : List Turn) (stopped : TurnEnd) (w : World) → GoesAt m y w node here mid first.turns old between → StopsAt m y (after_turns w first.turns) node mid b between new stopped
        → StopsAt m y w node here (first.turns ++ b) old new stopped
    stops_at_on new b stopped w one two = record {
      next = two.next;
      made = made_on w first.turns b old.value between.value two.next one.made two.made;
      last = subst (λ (v : World). LeavesNone m v two.next new.value) (sym (after_is w b)) two.last;
      steps = one.steps ++ two.steps;
      broken = two.broken;
      goes_on = λ earlier behind. subst (λ (vs : List Visit). GoesOn read_built Begun two.broken here.state earlier here.live vs (one.steps ++ two.steps)) (sym (visits_append w first.turns b))
          (goes_on Begun two.broken (visits (after_turns w first.turns) b) two.steps mid.state mid.live (visits w first.turns) earlier here.state here.live one.steps
          (one.reaches earlier behind) (two.goes_on (earlier ++ visits w first.turns) (one.behind earlier behind)));
      printed = subst (λ (l : List ℕ). TakesUpTo stopped old.taken new.taken l) (sym (text_append items_line w first.turns b))
          (up_to_on stopped (text items_line w first.turns) (text items_line (after_turns w first.turns) b) old.taken between.taken new.taken one.printed two.printed);
      told = subst (λ (vs : List Visit). AreTold Begun vs old.told new.told) (sym (visits_append w first.turns b))
          (told_to (visits w first.turns) (visits (after_turns w first.turns) b) old.told between.told new.told one.told two.told);
      faults = failed_steps one.steps + two.faults;
      rose = rose_on (failed_steps one.steps) two.faults (y.faults old.symbiont) (y.faults between.symbiont) (y.faults new.symbiont) one.rose two.rose;
      few_faults = few_on (failed_steps one.steps) (failed_steps two.steps) two.faults (failed_steps (one.steps ++ two.steps)) (failed_append one.steps two.steps) two.few_faults;
      overs = λ over. subst (λ (vs : List Visit). AllByRecursion (λ (v : Visit). AreOver node v.before.live) vs) (sym (visits_append w first.turns b))
          (all_append (λ (v : Visit). AreOver node v.before.live) (visits w first.turns) (visits (after_turns w first.turns) b) (one.overs over)
          (two.overs (over_stays node w (after_turns w first.turns) (λ other differs. one.others other differs) over)));
      taken = taken_on y one.steps two.steps two.broken old.symbiont between.symbiont new.symbiont one.taken two.taken;
    }

    abbrev pub then_stops : (new : Outside S Y) (stopped : TurnEnd) → Stops m y May node mid between new stopped → Stops m y May node here old new stopped
    then_stops new stopped second = record {
      turns = first.turns ++ second.turns;
      kept = second.kept ∙ ap (λ (l : List Turn). l ++ second.turns) first.kept ∙ append_assoc (m.turns old.value) first.turns second.turns;
      of_node = of_append node May first.turns second.turns first.of_node second.of_node;
      full = second.full;
      nodes = second.nodes ∙ first.nodes;
      failed = told_to_on stopped first.turns second.turns (m.failed old.value) (m.failed between.value) (m.failed new.value) first.failed second.failed;
      at = λ w stands live. let one = first.at w stands live in stops_at_on new second.turns stopped w one (second.at (after_turns w first.turns) one.stands one.live);
    }
