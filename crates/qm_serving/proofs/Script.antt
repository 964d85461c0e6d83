-- A script that was served on a site that was opened.
use Rattle.std.proofs.Common.{◌≡◌, ℕ, ◌<◌, ◌≤◌, Bool, true, false, cond, IsTrue, List, [], ◌++◌, length, refl, sym, ◌∙◌, ap, subst, arith, Option, None, Some, Vec}
use Rattle.std.specs.declared.alloc.Global.{Global}
use Rattle.std.specs.Io.KnownBytes.{Appends}
use Rattle.qm_acting.proofs.Spare.{keeps_same}
use Rattle.qm_acting.specs.Spare.{KeepsSpare}
use Rattle.qm_chest.specs.Noting.{StandsSince, StartsEarly}
use Rattle.qm_node.specs.Ends.{IsUndamaged as IsUndamagedStop}
use Rattle.qm_cluster.specs.Fresh.{AreSeated, each_lines, own_view}
use Rattle.qm_cluster.specs.Runs.{AreLive, IsCluster, IsRun, Serving, Site, Stopping}
use Rattle.qm_node.specs.Sides.{Side}
use Rattle.qm_node.specs.Seats.{HeldSeat}
use Rattle.qm_node.specs.Taken.{RoseBy}
use Rattle.qm_cluster.specs.Turning.{IsFullAt, IsToldTo, TakesUpTo}
use Rattle.qm_node.specs.declared.turn.TurnEnd.{TurnEnd}
use Rattle.qm_node.specs.declared.turn.TurnEnd.TheVariants as stop
use Rattle.qm_cluster.proofs.Seated.{seated_cluster, seated_live}
use Rattle.qm_history.specs.Common.{Meaning, turns_kept, Whole, Begun, faults_told, after_turns, UserLine, text, is_live, NODES_LIMIT}
use Rattle.qm_history.specs.declared.turn.Turn.{Turn}
use Rattle.qm_history.specs.declared.world.World.{World}
use Rattle.qm_history.specs.Ends.{ServingEnd, Served, DiskFailed, NoMemory}
use Rattle.qm_script.specs.declared.lines.UserLine.{UserLine as CodeLine}
use Rattle.qm_sjc.specs.Printed.{items_line}
use Rattle.qm_cluster.specs.Ends.{CountsDisk, EndsBy, IsUndamaged, TakesTo, end_of_stop, end_of_turns, extent_to, serving_end, some_disk_failed, stop_of}
use Rattle.qm_chest.specs.Opening.{IsFresh, IsOpened, MayBegin}
use Rattle.qm_serving.specs.Serving.{Outside, Serves, outside}
use Rattle.qm_chest.specs.At.{chest_disk, chest_names, chest_turns}
use Rattle.qm_chest.specs.Manager.{StandsAt, meaning_of}
use Rattle.qm_cluster.specs.declared.ends.ServeEnd.{ServeEnd}
use Rattle.qm_chest.specs.declared.chest.Chest.{Chest}
use Rattle.qm_serving.proofs.Empty.{none_run, takes_none}
use Rattle.qm_chest.proofs.Noted.{NotesOn, StandsOn, made_noted, none_noted, stopped_noted}
use Rattle.qm_chest.proofs.SiteOpened.{first_live}
use Rattle.qm_chest.proofs.Spared.{made_spare, stopped_spare}
use Rattle.qm_symb.specs.Device as symb

-- a script that was served whole ends by its turns
whole_ends : (b : Bool) (turns : List Turn) → some_disk_failed turns ≡ b → EndsBy (cond b DiskFailed Served) turns
whole_ends true turns is = is
whole_ends false turns is = is

whole_stop : (b : Bool) → stop_of (cond b DiskFailed Served) ≡ None
whole_stop true = refl
whole_stop false = refl

whole_undamaged : (b : Bool) → IsUndamaged (cond b DiskFailed Served)
whole_undamaged true = tt
whole_undamaged false = tt

-- and one that was served up to an end
stop_is : (stopped : TurnEnd) → stop_of (end_of_stop stopped) ≡ Some stopped
stop_is stop.Write = refl
stop_is stop.HistoryFull = refl
stop_is (stop.Damaged file place) = refl
stop_is stop.NoMemory = refl

stop_ends : (stopped : TurnEnd) (turns : List Turn) → IsFullAt stopped turns → EndsBy (end_of_stop stopped) turns
stop_ends stop.Write turns full = tt
stop_ends stop.HistoryFull turns full = full
stop_ends (stop.Damaged file place) turns full = tt
stop_ends stop.NoMemory turns full = tt

stop_undamaged : (stopped : TurnEnd) → IsUndamagedStop stopped → IsUndamaged (end_of_stop stopped)
stop_undamaged stop.Write un = tt
stop_undamaged stop.HistoryFull un = tt
stop_undamaged (stop.Damaged file place) un = absurd un
stop_undamaged stop.NoMemory un = tt

-- on a site that was just opened the nodes' first turns can be made
pub few_turns : {D : Type 0} (m : Meaning D) (chest : Chest D) → IsFresh m chest → length (chest_turns chest) ≤ turns_kept
few_turns m chest fresh = subst (λ (turns : List Turn). length turns ≤ turns_kept) (sym fresh.turns) (omega arith)

pub cluster_ready : {D : Type 0} (m : Meaning D) (chest : Chest D) (script : List UserLine) (seats : List HeldSeat) (stations : ℕ) → IsFresh m chest → AreSeated script (chest_names chest) seats
    → NODES_LIMIT ≤ stations → IsCluster (meaning_of m) chest seats stations
cluster_ready m chest script seats stations fresh seated enough =
    let few = fresh.names.few in
    seated_cluster script (chest_names chest) seats seated (meaning_of m) chest stations refl fresh.serving (few_turns m chest fresh)
    fresh.names.distinct (omega (arith, few, enough)) few

-- the seats are those that were made in front of the own lines
pub seats_ready : (script : List UserLine) (names found : List (List ℕ)) (own given : List (Vec CodeLine Global)) (made seats : List HeldSeat)
    → ((lines : List UserLine) → own_view given ≡ each_lines lines found → AreSeated lines found made) → given ≡ own → own_view own ≡ each_lines script names → found ≡ names → seats ≡ made
    → AreSeated script names seats
seats_ready script names found own given made seats seated same_own own_is same_names same_seats =
    subst (λ (ss : List HeldSeat). AreSeated script names ss) (sym same_seats)
    (subst (λ (ns : List (List ℕ)). AreSeated script ns made) same_names
    (seated script (ap own_view same_own ∙ own_is ∙ ap (each_lines script) (sym same_names))))

module _ {D Y : Type 0} (m : Meaning D) (y : symb.Meaning Y) (stands_on : StandsOn m) (notes_on : NotesOn m) (disk : D) (chest : Chest D) (opened : IsOpened m disk chest) (script : List UserLine)
  where
    abbrev pub names : List (List ℕ)
    names = chest_names chest

    live_in : IsTrue m.tells → (w : World) → StartsEarly (m.seen disk) w → (node : ℕ) → node < length names → is_live w node ≡ true
    live_in tells w starts node less =
        first_live (m.seen disk) w starts.starts node (subst (λ (ns : List (List ℕ)). node < length ns) (sym (opened.names tells w starts)) less)

    -- ---- no turn was made

    none_told : (turns : List Turn) (failed : ℕ) → turns ≡ [] → IsToldTo stop.NoMemory turns failed failed
    none_told turns failed none =
        subst (λ (ts : List Turn). IsToldTo stop.NoMemory ts failed failed) (sym none) (record { failed = 0; unread = 0; told = refl; rose = refl; hidden = omega arith })

    pub none_serves : (taken : Option (List ℕ)) (sides : List (Side Y))
        → Serves m y disk names script (outside (chest_disk chest) taken sides) (outside (chest_disk chest) taken sides) (chest_turns chest) NoMemory
    none_serves taken sides = record {
      ends = tt;
      failed = none_told (chest_turns chest) (m.faults (chest_disk chest)) opened.fresh.turns;
      undamaged = λ tells. tt;
      spare = λ tells. keeps_same m (chest_disk chest);
      within = λ tells w may. record {
        run =
            subst (λ (turns : List Turn). IsRun (meaning_of m) y Begun w script names turns sides sides) (sym opened.fresh.turns)
            (none_run (meaning_of m) y w script names sides);
        printed = takes_none taken (text items_line w (chest_turns chest));
        noted = none_noted m stands_on notes_on opened.cap w (chest_disk chest) chest refl (opened.stands tells w may);
      };
    }

    -- ---- turns were made

    module _ (old new : Site (Chest D) Y) (value : old.value ≡ chest) (seated : AreSeated script names old.seats) where
      behind_none : (turns made : List Turn) → turns ≡ chest_turns old.value ++ made → turns ≡ made
      behind_none turns made kept = kept ∙ ap (λ (ts : List Turn). ts ++ made) (ap chest_turns value ∙ opened.fresh.turns)

      live_seats : IsTrue m.tells → (w : World) → StartsEarly (m.seen disk) w → AreLive w old.seats
      live_seats tells w starts = seated_live script names old.seats seated w (live_in tells w starts)

      stood : (tells : IsTrue m.tells) (w : World) → StartsEarly (m.seen disk) w → StandsAt m w old.value
      stood tells w starts = subst (StandsAt m w) (sym value) (record { tells = tells; cap = opened.cap; at = opened.at tells w starts })

      since : (tells : IsTrue m.tells) (w : World) → MayBegin m disk w → StandsSince m opened.cap w (chest_disk chest) old.value 0 []
      since tells w may =
          subst (λ (s : Chest D). StandsSince m opened.cap w (chest_disk chest) s 0 []) (sym value) (opened.stands tells w may)

      abbrev pub was : Outside D Y
      was = outside (chest_disk chest) old.taken old.sides

      abbrev pub now : Outside D Y
      now = outside (chest_disk new.value) new.taken new.sides

      abbrev pub turns_now : List Turn
      turns_now = chest_turns new.value

      failed_from : (P : ℕ → Type 0) → P (m.faults (chest_disk old.value)) → P (m.faults (chest_disk chest))
      failed_from P h = subst (λ (s : Chest D). P (m.faults (chest_disk s))) value h

      whole_by : (serving : Serving (meaning_of m) y script old new) (b : Bool) → some_disk_failed turns_now ≡ b → Serves m y disk names script was now turns_now (cond b DiskFailed Served)
      whole_by serving b is =
          let same : turns_now ≡ serving.turns = behind_none turns_now serving.turns serving.kept in
          let none = sym (whole_stop b) in
          record {
            ends = whole_ends b turns_now is;
            failed =
                subst (λ o. CountsDisk o turns_now (m.faults was.disk) (m.faults now.disk)) none
                (subst (λ (ts : List Turn). RoseBy (faults_told ts) (m.faults was.disk) (m.faults now.disk)) (sym same)
                (failed_from (λ n. RoseBy (faults_told serving.turns) n (m.faults now.disk)) serving.failed));
            undamaged = λ tells. whole_undamaged b;
            spare = λ tells.
                let w = opened.begins tells in
                let at = serving.at w.0 (stood tells w.0 w.1) (live_seats tells w.0 w.1) in
                subst (λ (s : Chest D). KeepsSpare m (chest_disk s) (chest_disk new.value)) value
                (made_spare m tells w.0 old.value new.value serving.turns at.made);
            within = λ tells w may.
                let at = serving.at w (stood tells w may.starts) (live_seats tells w may.starts) in
                record {
                  run =
                      subst (λ o. IsRun (meaning_of m) y (extent_to o) w script names turns_now old.sides new.sides) none
                      (subst (λ (ts : List Turn). IsRun (meaning_of m) y Whole w script names ts old.sides new.sides) (sym same)
                      (subst (λ (ns : List (List ℕ)). IsRun (meaning_of m) y Whole w script ns serving.turns old.sides new.sides) seated.named at.run));
                  printed =
                      subst (λ o. TakesTo o old.taken new.taken (text items_line w turns_now)) none
                      (subst (λ (ts : List Turn). Appends old.taken new.taken (text items_line w ts)) (sym same) at.printed);
                  noted =
                      made_noted m stands_on notes_on opened.cap w (chest_disk chest) w old.value new.value serving.turns (ap chest_disk value)
                      (since tells w may) at.made;
                };
          }

      pub whole_serves : (end : ServingEnd) (turns : List Turn) → end ≡ end_of_turns turns → turns ≡ turns_now → Serving (meaning_of m) y script old new → Serves m y disk names script was now turns_now end
      whole_serves end turns is same serving =
          subst (Serves m y disk names script was now turns_now) (sym (is ∙ ap end_of_turns same)) (whole_by serving (some_disk_failed turns_now) refl)

      stopped_by : (stopped : TurnEnd) → Stopping (meaning_of m) y script old new stopped → (IsTrue m.tells → IsUndamagedStop stopped)
          → Serves m y disk names script was now turns_now (end_of_stop stopped)
      stopped_by stopped stopping un =
          let same : turns_now ≡ stopping.turns = behind_none turns_now stopping.turns stopping.kept in
          let some = sym (stop_is stopped) in
          record {
            ends = stop_ends stopped turns_now stopping.full;
            failed =
                subst (λ o. CountsDisk o turns_now (m.faults was.disk) (m.faults now.disk)) some
                (subst (λ (ts : List Turn). IsToldTo stopped ts (m.faults was.disk) (m.faults now.disk)) (sym same)
                (failed_from (λ n. IsToldTo stopped stopping.turns n (m.faults now.disk)) stopping.failed));
            undamaged = λ tells. stop_undamaged stopped (un tells);
            spare = λ tells.
                let w = opened.begins tells in
                let at = stopping.at w.0 (stood tells w.0 w.1) (live_seats tells w.0 w.1) in
                subst (λ (s : Chest D). KeepsSpare m (chest_disk s) (chest_disk new.value)) value
                (stopped_spare m tells w.0 (after_turns w.0 stopping.turns) old.value at.next new.value stopping.turns at.made at.last);
            within = λ tells w may.
                let at = stopping.at w (stood tells w may.starts) (live_seats tells w may.starts) in
                record {
                  run =
                      subst (λ o. IsRun (meaning_of m) y (extent_to o) w script names turns_now old.sides new.sides) some
                      (subst (λ (ts : List Turn). IsRun (meaning_of m) y Begun w script names ts old.sides new.sides) (sym same)
                      (subst (λ (ns : List (List ℕ)). IsRun (meaning_of m) y Begun w script ns stopping.turns old.sides new.sides) seated.named at.run));
                  printed =
                      subst (λ o. TakesTo o old.taken new.taken (text items_line w turns_now)) some
                      (subst (λ (ts : List Turn). TakesUpTo stopped old.taken new.taken (text items_line w ts)) (sym same) at.printed);
                  noted =
                      stopped_noted m stands_on notes_on opened.cap w (chest_disk chest) w (after_turns w stopping.turns) old.value at.next new.value stopping.turns
                      (ap chest_disk value) (since tells w may) at.made at.last;
                };
          }

      pub stopped_serves : (end : ServingEnd) (stopped : TurnEnd) → end ≡ end_of_stop stopped → Stopping (meaning_of m) y script old new stopped → (IsTrue m.tells → IsUndamagedStop stopped)
          → Serves m y disk names script was now turns_now end
      stopped_serves end stopped is stopping un = subst (Serves m y disk names script was now turns_now) (sym is) (stopped_by stopped stopping un)

-- the same where disk, turns and end are handed on
pub handed_on : {D Y : Type 0} (m : Meaning D) (y : symb.Meaning Y) (disk : D) (names : List (List ℕ)) (script : List UserLine) (old : Outside D Y) (last then : D) (taken : Option (List ℕ)) (sides : List (Side Y))
    (turns kept : List Turn) (end told : ServeEnd) → then ≡ last → kept ≡ turns → told ≡ end → Serves m y disk names script old (outside last taken sides) turns (serving_end end)
    → Serves m y disk names script old (outside then taken sides) kept (serving_end told)
handed_on m y disk names script old last then taken sides turns kept end told same_disk same_turns same_end serves =
    subst (λ (d : _). Serves m y disk names script old (outside d taken sides) kept (serving_end told)) (sym same_disk)
    (subst (λ (ts : List Turn). Serves m y disk names script old (outside last taken sides) ts (serving_end told)) (sym same_turns)
    (subst (λ (e : ServeEnd). Serves m y disk names script old (outside last taken sides) turns (serving_end e)) (sym same_end) serves))
