-- A call that the chest served is one of a queue manager that nodes ask.
use Rattle.std.proofs.Common.{◌≡◌, inl, inr, ℕ, ◌≤◌, ◌<◌, ◌++◌, true, IsTrue, length, refl, sym, ◌∙◌, ap, subst, arith, Option, None, Some, option_to_list}
use Rattle.std.proofs.lemmas.List.{append_cancel_left}
use Rattle.qm_acting.specs.Spare.{KeepsSpare}
use Rattle.qm_acting.proofs.Spare.{keeps_at}
use Rattle.qm_chest.specs.At.{Serves as ChestServes, IsAt, IsServing, IsWithout, LeavesOne, chest_disk, chest_names, state_disk}
use Rattle.qm_chest.specs.Manager.{HasDone, StandsAt, meaning_of}
use Rattle.qm_chest.specs.Noting.{HasServed}
use Rattle.qm_chest.specs.Serving.{Serving, maker_of, turn_made, wanted_by}
use Rattle.qm_chest.specs.Whole.{both}
use Rattle.qm_chest.specs.declared.chest.Chest.{Chest}
use Rattle.qm_chest.specs.declared.chest.State.{State}
use Rattle.qm_chest.specs.declared.wanted.Outcome.{Outcome}
use Rattle.qm_chest.proofs.Holding.{SiteFilesAreAccepted}
use Rattle.qm_chest.proofs.Served.{StaySound, none_down, none_failed, none_left, none_served, none_shows, one_left, served_at, serving_behind, serving_still}
use Rattle.qm_disk.specs.Disk.{CrashState, IsLeft, Meaning, TellsFaults}
use Rattle.qm_history.specs.declared.call.Answer.{Answer}
use Rattle.qm_history.specs.declared.call.Answer.TheVariants as answer
use Rattle.qm_history.specs.declared.call.Call.{Call}
use Rattle.qm_history.specs.declared.turn.Turn.{Turn}
use Rattle.qm_history.specs.declared.world.World.{World}
use Rattle.qm_history.specs.Chest.{Adds, LeavesTurn, MayLeaveNone, turns_kept}
use Rattle.qm_history.specs.Common.{is_journal, AreShown, ShowsDuties}
use Rattle.qm_history.specs.Serving.{IsAnswered, Serves, ServesAt, behind}
use Rattle.qm_history.proofs.ShownDuties.{shown}
use Rattle.qm_chest.specs.Duties.{ShowsNodeDuties}

one_turn : (a b : Option Turn) → option_to_list a ≡ option_to_list b → a ≡ b
one_turn None None same = refl
one_turn None (Some t) same = cc
one_turn (Some t) None same = cc
one_turn (Some t) (Some u) same = cc

-- duties of a node of a consistent system are each of a run of its own, and can be carried out
shown_of : (told : Answer) → ShowsNodeDuties told → ShowsDuties told
shown_of (answer.Duties took moment ds) some = subst AreShown (sym some.are) (shown some.system some.node some.known some.consistent)
shown_of (answer.Done took moment reply) some = tt
shown_of (answer.Shown took moment rows) some = tt
shown_of (answer.Refused took refusal) some = tt
shown_of (answer.Full took need cap) some = tt
shown_of (answer.Journal took live) some = tt
shown_of (answer.Fenced held current) some = tt
shown_of (answer.NoManager took name) some = tt
shown_of (answer.Damaged file place) some = tt
shown_of answer.HistoryFull some = tt
shown_of (answer.NoMemory took) some = tt

module _ {D : Type 0} (m : Meaning D) (old new : Chest D) (node now : ℕ) (asked : Call) (told : Answer)
    (serves : IsTrue m.tells → (cap : ℕ) (w : World) → IsAt m cap w old → ChestServes m cap w node now asked old new told)
    (one : LeavesOne node now asked old.turns.items new.turns.items told) (faults : TellsFaults m (chest_disk old) (chest_disk new) (is_journal told ≡ true))
    (down : is_journal told ≡ true → IsWithout new.state.work)
    (spare : IsTrue m.tells → KeepsSpare m (chest_disk old) (chest_disk new))
  where
    abbrev has_served : (cap : ℕ) → HasServed m cap node now asked old new told
    has_served cap = record { one = one; serves = λ tells w at. serves tells cap w at; faults = faults; down = down }

    has_done : HasDone m old new asked one.turn told
    has_done = record { node = node; now = now; served = has_served; turn_is = λ cap. refl; spare = spare }

    answered : (w : World) (turn : Option Turn) → Adds m w (chest_disk old) (chest_disk new) asked turn told → IsAnswered w asked turn told
    answered w None adds = tt
    answered w (Some t) adds = adds.answers

    undamaged_so : (w : World) (turn : Option Turn) → Adds m w (chest_disk old) (chest_disk new) asked turn told
        → LeavesTurn old.turns.items turn told → (file place : ℕ) → told ≡ answer.Damaged file place → ⊥
    undamaged_so w None adds (inl full) file place is = let bad : answer.HistoryFull ≡ answer.Damaged file place = sym full.0 ∙ is in cc
    undamaged_so w None adds (inr short) file place is = let bad : answer.NoMemory None ≡ answer.Damaged file place = sym short ∙ is in cc
    undamaged_so w (Some t) adds leaves file place is = adds.undamaged file place is

    undamaged : IsServing m old → IsTrue m.tells → (file place : ℕ) → told ≡ answer.Damaged file place → ⊥
    undamaged serving tells file place is =
        let some = serving.stands tells in
        let so = serves tells some.0 some.1 some.2 in
        undamaged_so some.1 so.one.turn so.adds so.one.leaves file place is

    serves_at : (w : World) → StandsAt m w old → ServesAt (meaning_of m) w asked old new one.turn told
    serves_at w s =
        let so = serves s.tells s.cap w s.at in
        let same : so.one.turn ≡ one.turn = one_turn so.one.turn one.turn (append_cancel_left old.turns.items (option_to_list so.one.turn) (option_to_list one.turn) (sym so.one.turns ∙ one.turns)) in
        record {
          sound = s.at.sound;
          names = s.at.state.members.names;
          answers = answered w one.turn (subst (λ (t : Option Turn). Adds m w (chest_disk old) (chest_disk new) asked t told) same so.adds);
          does = has_done;
          stands = record {
            tells = s.tells;
            cap = s.cap;
            at = subst (λ (v : World). IsAt m s.cap v new) (ap (behind w) same) so.at;
          };
        }

    few_turns : length new.turns.items ≤ turns_kept
    few_turns = let few = new.few in let len = new.turns.ok.0 in omega (arith, few, len)

    pub call_serves : IsServing m old → IsServing m new → chest_names new ≡ chest_names old → ShowsNodeDuties told
        → Serves (meaning_of m) node now asked old new told
    call_serves was serving names shows = record {
      turn = one.turn;
      turns = one.turns;
      made = one.made;
      leaves = one.leaves;
      tells = one.tells;
      few = few_turns;
      nodes = names;
      faults = faults;
      undamaged = undamaged was;
      duties = shown_of told shows;
      serves = serving;
      at = serves_at;
    }

-- ---- a call that leaves no turn, or one

module _ {D : Type 0} (m : Meaning D) (old new : Chest D) (node now : ℕ) (asked : Call) where
  -- the chest is as it was
  pub none_call : SiteFilesAreAccepted → ((disk : D) (crashed : CrashState) → m.left_since disk (m.moment disk) crashed → IsLeft (m.may_leave disk) crashed)
      → new.state ≡ old.state → new.turns.items ≡ old.turns.items → (told : Answer) → MayLeaveNone old.turns.items told → IsServing m old → Serves (meaning_of m) node now asked old new told
  none_call accepted only_now same kept told why was =
      let disk : chest_disk new ≡ chest_disk old = ap state_disk same in
      call_serves m old new node now asked told
      (λ tells cap w at. none_served accepted m only_now cap w old new same kept at node now asked told why)
      (none_left old.turns.items new.turns.items kept node now asked told why)
      (subst (λ (d : D). TellsFaults m (chest_disk old) d (is_journal told ≡ true)) (sym disk) (none_failed m (chest_disk old) old.turns.items told why))
      (none_down old.turns.items told why (IsWithout new.state.work)) (λ tells. keeps_at m (chest_disk old) (chest_disk new) disk)
      was (serving_still m old new same kept was) (ap (λ (state : State D). state.members.names.items) same) (none_shows old.turns.items told why)

  -- what the call came to is kept as a turn, if it has events
  pub one_call : (outcome : Outcome) (serving : Serving m (wanted_by node now asked) old.state new.state outcome)
      → new.turns.items ≡ old.turns.items ++ option_to_list (turn_made (maker_of node now asked) (both outcome.first outcome.second))
      → StaySound → length old.turns.items < turns_kept → IsServing m old → Serves (meaning_of m) node now asked old new outcome.answer
  one_call outcome serving kept stay few was =
      call_serves m old new node now asked outcome.answer
      (λ tells cap w at. served_at m node now asked old new outcome serving kept stay tells few cap w at)
      (one_left node now asked old.turns.items new.turns.items outcome serving.leaves.told kept)
      serving.leaves.leaves.faults serving.leaves.down serving.leaves.leaves.spare
      was (serving_behind m node now asked old new outcome serving kept stay few was) serving.leaves.names serving.leaves.duties
