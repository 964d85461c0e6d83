-- A call that is served: where it leaves the chest as it was, and where a turn more is kept.
use Rattle.std.proofs.Common.{◌≡◌, ℕ, ◌+◌, ◌^◌, ◌<◌, ◌≤◌, true, false, IsTrue, List, [], ◌∷◌, ◌++◌, length, inr, ⊎_elim, refl, sym, ◌∙◌, ap, subst, arith, Option, None, Some, option_to_list, append-nil, length-append}
use Rattle.qm_disk.specs.Disk.{CrashState, Meaning, IsLeft, TellsFaults}
use Rattle.qm_disk.proofs.Moments.{started, looks_not}
use Rattle.qm_history.specs.declared.call.Answer.{Answer}
use Rattle.qm_history.specs.declared.call.Answer.TheVariants as answer
use Rattle.qm_history.specs.declared.call.Call.{Call}
use Rattle.qm_history.specs.declared.event.Event.{Event}
use Rattle.qm_history.specs.declared.turn.Turn.{Turn}
use Rattle.qm_history.specs.declared.world.World.{World}
use Rattle.qm_history.specs.Common.{MayAnswer, input_of, why_of, HoldWorld, is_journal, CanAllCome, after_events, IsSound}
use Rattle.qm_history.specs.Chest.{Adds, AddsNone, IsMadeFor, LeavesTurn, MayLeaveNone, turns_kept}
use Rattle.qm_history.specs.Serving.{TellsDisk, behind}
use Rattle.qm_chest.specs.Duties.{ShowsNodeDuties}
use Rattle.qm_chest.specs.declared.chest.Chest.{Chest}
use Rattle.qm_chest.specs.declared.chest.State.{State}
use Rattle.qm_chest.specs.declared.wanted.Outcome.{Outcome}
use Rattle.qm_chest.specs.declared.wanted.Wanted.{Wanted}
use Rattle.qm_chest.specs.At.{CanBeAskedFor, IsAt, IsServing, IsStateAt, IsSteady, LeavesOne, Serves, chest_disk, chest_names, state_disk}
use Rattle.qm_chest.specs.Serving.{CanServe, Serving, maker_of, turn_made, wanted_by}
use Rattle.qm_chest.specs.Whole.{IsServedAs, IsToldBy, both, turn_left}
use Rattle.qm_chest.proofs.Holding.{SiteFilesAreAccepted, grows}
use Rattle.qm_chest.proofs.Notes.{none_quiet}
use Rattle.qm_chest.proofs.Whole.{work_crash, work_reads}

-- ---- a chest that is as it was

module _ {D : Type 0} (m : Meaning D) (old new : Chest D) (same : new.state ≡ old.state) (kept : new.turns.items ≡ old.turns.items) where
  pub at_still : (cap : ℕ) (w : World) → IsAt m cap w old → IsAt m cap w new
  at_still cap w at = record {
    state = subst (IsStateAt m cap w) (sym same) at.state;
    sound = at.sound;
    early = subst (λ (turns : List Turn). w.greatest ≤ 2 ^ 61 + length turns) (sym kept) at.early;
  }

  pub serving_still : IsServing m old → IsServing m new
  serving_still h = record {
    steady = subst (λ (turns : List Turn). IsSteady m (length turns) new.state) (sym kept) (subst (IsSteady m (length old.turns.items)) (sym same) h.steady);
    stands = λ tells. let a = h.stands tells in (a.0, a.1, at_still a.0 a.1 a.2);
  }

-- no turn is left
abbrev pub none_left : (old new : List Turn) → new ≡ old → (node now : ℕ) (asked : Call) (told : Answer) → MayLeaveNone old told → LeavesOne node now asked old new told
none_left old new kept node now asked told why = record { turn = None; turns = kept ∙ sym (append-nil old); made = tt; leaves = why; tells = tt }

pub none_failed : {D : Type 0} (m : Meaning D) (disk : D) (turns : List Turn) (told : Answer) → MayLeaveNone turns told → TellsFaults m disk disk (is_journal told ≡ true)
none_failed m disk turns told why = record { fault = λ is. let no : false ≡ true = sym (none_quiet turns told why) ∙ is in cc; quiet = λ not. refl }

module _ (accepted : SiteFilesAreAccepted) {D : Type 0} (m : Meaning D) (only_now : (disk : D) (crashed : CrashState) → m.left_since disk (m.moment disk) crashed → IsLeft (m.may_leave disk) crashed)
    (cap : ℕ) (w : World)
  where
    nothing_added : (chest : Chest D) → IsAt m cap w chest → (told : Answer) → AddsNone m w (chest_disk chest) (chest_disk chest) told
    nothing_added chest at told =
        let disk = chest_disk chest in
        let reads = work_reads accepted m cap w chest.state.work at.state.work in
        record {
          files = λ full. looks_not m disk (only_now disk);
          moments = started m disk (λ (crashed : CrashState). HoldWorld crashed w)
              (λ crashed since. work_crash accepted m cap w chest.state.work at.state.work crashed (only_now disk crashed since));
          reaches = grows m (m.seen disk) (m.seen disk) reads.0 reads.0 (λ room. room) reads.1 reads.1 refl;
        }

    pub none_served : (old new : Chest D) (same : new.state ≡ old.state) (kept : new.turns.items ≡ old.turns.items) → IsAt m cap w old → (node now : ℕ) (asked : Call) (told : Answer)
        → MayLeaveNone old.turns.items told → Serves m cap w node now asked old new told
    none_served old new same kept at node now asked told why = record {
      one = none_left old.turns.items new.turns.items kept node now asked told why;
      adds = subst (λ (state : State D). AddsNone m w (chest_disk old) (state_disk state) told) (sym same) (nothing_added old at told);
      room = tt;
      at = at_still m old new same kept cap w at;
    }

-- why there is no turn shows no duties
pub none_shows : (turns : List Turn) (told : Answer) → MayLeaveNone turns told → ShowsNodeDuties told
none_shows turns told why = ⊎_elim (λ full. subst ShowsNodeDuties (sym full.0) tt) (λ short. subst ShowsNodeDuties (sym short) tt) why

pub none_down : (turns : List Turn) (told : Answer) → MayLeaveNone turns told → (P : Type 0) → is_journal told ≡ true → P
none_down turns told why P is = let no : false ≡ true = sym (none_quiet turns told why) ∙ is in cc

-- ---- the turn of some events

pub made_left : (node now : ℕ) (asked : Call) (events : List Event) → turn_made (maker_of node now asked) events ≡ turn_left node now asked events
made_left node now asked [] = refl
made_left node now asked (e ∷ events) = refl

pub left_for : (node now : ℕ) (asked : Call) (events : List Event) → IsMadeFor node now asked (turn_left node now asked events)
left_for node now asked [] = tt
left_for node now asked (e ∷ events) = (refl, refl, refl)

pub left_told : (node now : ℕ) (asked : Call) (turns : List Turn) (events : List Event) (told : Answer) → IsToldBy events told → LeavesTurn turns (turn_left node now asked events) told
left_told node now asked turns [] told is = inr is
left_told node now asked turns (e ∷ events) told is = is.0

pub left_tells : (node now : ℕ) (asked : Call) (events : List Event) (told : Answer) → IsToldBy events told → TellsDisk (turn_left node now asked events) told
left_tells node now asked [] told is = tt
left_tells node now asked (e ∷ events) told is = is.1

-- the events of a turn that may be answered so can come
may_come : (w : World) (asked : Call) (t : Turn) (told : Answer) → MayAnswer w asked t told → CanAllCome w t.events
may_come w asked t (answer.NoMemory took) may = may.0.0.can_come
may_come w asked t (answer.Damaged file place) may = may.0.0.can_come
may_come w asked t answer.HistoryFull may = absurd may
may_come w asked t (answer.Done took moment reply) may = may.0.0.can_come
may_come w asked t (answer.Shown took moment rows) may = may.0.0.can_come
may_come w asked t (answer.Duties took moment duties) may = may.0.0.can_come
may_come w asked t (answer.Refused took refusal) may = may.0.0.can_come
may_come w asked t (answer.Full took need cap) may = may.0.0.can_come
may_come w asked t (answer.Journal took live) may = may.0.0.can_come
may_come w asked t (answer.Fenced held current) may = may.0.0.can_come
may_come w asked t (answer.NoManager took name) may = may.0.0.can_come

abbrev pub StaySound : Type 0
StaySound = (w : World) (events : List Event) → IsSound w → CanAllCome w events → IsSound (after_events w events)

sound_behind : StaySound → {D : Type 0} (m : Meaning D) (w : World) (node now : ℕ) (asked : Call) (events : List Event) (old new : D) (told : Answer) → IsSound w
    → Adds m w old new asked (turn_left node now asked events) told → IsSound (behind w (turn_left node now asked events))
sound_behind stay m w node now asked [] old new told sound adds = sound
sound_behind stay m w node now asked (e ∷ events) old new told sound adds =
    let t : Turn = record { node = node; why = why_of asked; moment = now; events = e ∷ events } in stay w (e ∷ events) sound (may_come w asked t told adds.answers)

early_behind : (w : World) (node now : ℕ) (asked : Call) (events : List Event) (turns : List Turn) → w.greatest ≤ 2 ^ 61 + length turns → (behind w (turn_left node now asked events)).greatest ≤ w.greatest + 1
    → (behind w (turn_left node now asked events)).greatest ≤ 2 ^ 61 + length (turns ++ option_to_list (turn_left node now asked events))
early_behind w node now asked [] turns low rises = subst (λ (l : List Turn). w.greatest ≤ 2 ^ 61 + length l) (sym (append-nil turns)) low
early_behind w node now asked (e ∷ events) turns low rises =
    let t : Turn = record { node = node; why = why_of asked; moment = now; events = e ∷ events } in
    let longer : length (turns ++ t ∷ []) ≡ length turns + 1 = length-append turns (t ∷ []) in
    omega (arith, low, rises, longer)

-- how many turns more there are
longer : (node now : ℕ) (asked : Call) (first second : Option Event) → length (option_to_list (turn_left node now asked (both first second))) ≡ length (option_to_list first)
longer node now asked None second = refl
longer node now asked (Some e) second = refl

-- what was kept is the turn of the call
pub kept_so : (old mid new : List Turn) (wanted : Wanted) (node now : ℕ) (asked : Call) (events : List Event) → wanted ≡ wanted_by node now asked → mid ≡ old
    → new ≡ mid ++ option_to_list (turn_made wanted.maker events) → new ≡ old ++ option_to_list (turn_made (maker_of node now asked) events)
kept_so old mid new wanted node now asked events is same kept =
    let by_call : new ≡ mid ++ option_to_list (turn_made (maker_of node now asked) events) =
    kept ∙ ap (λ (w : Wanted). mid ++ option_to_list (turn_made w.maker events)) is in
    subst (λ (turns : List Turn). new ≡ turns ++ option_to_list (turn_made (maker_of node now asked) events)) same by_call

-- the turn of what a call came to, which was kept, is the one that it left
abbrev pub one_left : (node now : ℕ) (asked : Call) (old new : List Turn) (outcome : Outcome) → IsToldBy (both outcome.first outcome.second) outcome.answer
    → new ≡ old ++ option_to_list (turn_made (maker_of node now asked) (both outcome.first outcome.second)) → LeavesOne node now asked old new outcome.answer
one_left node now asked old new outcome told kept =
    let events = both outcome.first outcome.second in
    record {
      turn = turn_left node now asked events;
      turns = kept ∙ ap (λ (t : Option Turn). old ++ option_to_list t) (made_left node now asked events);
      made = left_for node now asked events;
      leaves = left_told node now asked old events outcome.answer told;
      tells = left_tells node now asked events outcome.answer told;
    }

-- ---- a call of which the chest's state came to this, and whose turn was kept

module _ {D : Type 0} (m : Meaning D) (node now : ℕ) (asked : Call) (old new : Chest D) (outcome : Outcome) (serving : Serving m (wanted_by node now asked) old.state new.state outcome)
    (kept : new.turns.items ≡ old.turns.items ++ option_to_list (turn_made (maker_of node now asked) (both outcome.first outcome.second)))
  where
    abbrev events : List Event
    events = both outcome.first outcome.second

    abbrev turn : Option Turn
    turn = turn_left node now asked events

    turns_are : new.turns.items ≡ old.turns.items ++ option_to_list turn
    turns_are = kept ∙ ap (λ (t : Option Turn). old.turns.items ++ option_to_list t) (made_left node now asked events)

    steady_behind : IsSteady m (length old.turns.items) old.state → IsSteady m (length new.turns.items) new.state
    steady_behind steady =
        let more : length new.turns.items ≡ length old.turns.items + length (option_to_list outcome.first) =
        ap length turns_are ∙ length-append old.turns.items (option_to_list turn) ∙ ap (λ (n : ℕ). length old.turns.items + n) (longer node now asked outcome.first outcome.second) in
        let rises = serving.leaves.rises in
        let low = steady.epochs in
        record { work = serving.leaves.work; epochs = omega (arith, more, rises, low) }

    module _ (stay : StaySound) (tells : IsTrue m.tells) (few : length old.turns.items < turns_kept) where
      pub served_at : (cap : ℕ) (w : World) → IsAt m cap w old → Serves m cap w node now asked old new outcome.answer
      served_at cap w at =
          let low = at.early in
          let came : IsServedAs m cap w node now asked (chest_disk old) new.state events outcome.answer = serving.serves tells cap w asked at.state (omega (arith, low, few)) (refl, refl, at.sound) in
          record {
            one = one_left node now asked old.turns.items new.turns.items outcome serving.leaves.told kept;
            adds = came.adds;
            room = came.room;
            at = record {
              state = came.at;
              sound = sound_behind stay m w node now asked events (chest_disk old) (chest_disk new) outcome.answer at.sound came.adds;
              early = subst (λ (l : List Turn). (behind w turn).greatest ≤ 2 ^ 61 + length l) (sym turns_are) (early_behind w node now asked events old.turns.items low came.rises);
            };
          }

    pub serving_behind : StaySound → length old.turns.items < turns_kept → IsServing m old → IsServing m new
    unfolding served_at
    serving_behind stay few h = record {
      steady = steady_behind h.steady;
      stands = λ tells. let a = h.stands tells in (a.0, behind a.1 turn, (served_at stay tells few a.0 a.1 a.2).at);
    }

-- ---- a call can be served

pub can_serve : {D : Type 0} (m : Meaning D) (node now : ℕ) (asked : Call) (chest : Chest D) → IsServing m chest → node < length (chest_names chest) → CanBeAskedFor node (input_of asked) → length chest.turns.items < turns_kept
    → CanServe m (wanted_by node now asked) chest.state
can_serve m node now asked chest serving there can few =
    let low = serving.steady.epochs in
    record {
      work = serving.steady.work;
      there = there;
      can = can;
      epochs = omega (arith, low, few);
      stands = λ tells.
          let a = serving.stands tells in
          let early = a.2.early in
          record { cap = a.0; w = a.1; at = a.2.state; early = omega (arith, early, few) };
    }
