-- From what the nodes did to what serving at once leaves.
use Rattle.std.proofs.Common.{◌≡◌, ℕ, zero, suc, ◌<◌, false, IsTrue, List, [], ◌∷◌, ◌++◌, length, map, refl, sym, ◌∙◌, ap, subst, Option, None, Some, Result, Ok, Err, arith, IfOk, slice_get, option_map}
use Rattle.std.specs.List.{AllByRecursion}
use Rattle.std.proofs.lemmas.List.{length-map, map-append}
use Rattle.std.proofs.lemmas.Option.{slice_get-map}
use Rattle.qm_history.specs.Common.{Request, System, applied, Accepted, Meaning, Note, turns_kept, unread_of, Begun, UserLine, lines_of, cluster_text, visits_of, IsSound}
use Rattle.qm_symb.specs.Device as symb
use Rattle.qm_history.specs.declared.turn.Turn.{Turn}
use Rattle.qm_history.specs.declared.world.World.{World}
use Rattle.qm_history.specs.Ends.{BrokenOff, Ended, FileDamaged, HasPrinted, MemoryShort, NoMemory, NodeEnd, NodeText, ServingEnd, TurnsSpent, cuts_text, extent_of, texts_printed}
use Rattle.qm_chest.specs.Noting.{StartsEarly}
use Rattle.qm_cluster.specs.Fresh.{each_lines}
use Rattle.qm_node.specs.Sides.{Side}
use Rattle.qm_cluster.proofs.Counting.{appends_none}
use Rattle.qm_cluster.proofs.Stepping.{none_taken}
use Rattle.qm_sjc.specs.Printed.{items_line}
use Rattle.qm_cluster.specs.Ends.{stop_of}
use Rattle.qm_chest.specs.Opening.{IsOpened, MayBegin}
use Rattle.qm_serving.specs.Serving.{Outside, outside}
use Rattle.qm_chest.specs.At.{chest_disk, chest_names, chest_turns}
use Rattle.qm_chest.specs.Manager.{StandsAt, meaning_of}
use Rattle.qm_chest.specs.declared.chest.Chest.{Chest}
use Rattle.qm_turn.specs.History.{notes}
use Rattle.qm_node.specs.declared.turn.TurnEnd.{TurnEnd}
use Rattle.qm_node.specs.declared.turn.TurnEnd.TheVariants as end
use Rattle.qm_cluster.specs.Driving.{node_end, text_told}
use Rattle.qm_cluster.specs.Sharing.{AreAsked, StandsFor, note_view}
use Rattle.qm_cluster.specs.Sharing as sharing
use Rattle.qm_cluster.specs.declared.noted.Noted.{Noted}
use Rattle.qm_serving.specs.SiteServing.{ServesNodes}
use Rattle.qm_serving.specs.SiteStanding.{HasStood}
use Rattle.qm_serving.proofs.Called.{NotesOn, StandsOn, stood_along}
use Rattle.qm_serving.proofs.Opened.{begins_before, stands_first}
use Rattle.qm_cluster.specs.declared.join.LeftText.{LeftText}
use Rattle.qm_cluster.specs.Gathered.{text_left}
use Rattle.qm_cluster.specs.AllTurns.{AreFull, HaveMadeTurns}
use Rattle.qm_cluster.specs.Printing.{turns_line}
use Rattle.qm_cluster.specs.Served.{AllHaveServed, HasServed}
use Rattle.qm_cluster.proofs.Places.{at_place, get_below, there}
use Rattle.qm_cluster.specs.ClusterEnding.{IsToldBy, ends_of, worst_of}
use Rattle.qm_serving.specs.ClusterRunning.{HaveRun}
use Rattle.qm_serving.specs.ClusterServing.{IsNodeOf, MayHide, ServesAtOnce}
use Rattle.qm_serving.proofs.Texts.{cluster_printed}
use Rattle.qm_serving.proofs.Told.{SaysOf, told}
use Rattle.qm_cluster.proofs.Worst.{NoneCut, says}

pub if_ok : {T E : Type 0} (r : Result T E) (P Q : T → Type 0) → IfOk r P → ((x : T) → P x → Q x) → IfOk r Q
if_ok (Ok x) P Q h f = f x h
if_ok (Err e) P Q h f = h

-- no thread's turns are broken off
unbroken_end : (r : Result (Unit {0}) TurnEnd) → node_end r ≡ BrokenOff → ⊥
unbroken_end (Ok done) is = cc
unbroken_end (Err end.Write) is = cc
unbroken_end (Err end.HistoryFull) is = cc
unbroken_end (Err (end.Damaged file place)) is = cc
unbroken_end (Err end.NoMemory) is = cc

pub unbroken : (texts : List LeftText) → AllByRecursion (λ (e : NodeEnd). e ≡ BrokenOff → ⊥) (ends_of (map text_left texts))
unbroken [] = tt
unbroken (t ∷ texts) = (unbroken_end t.end, unbroken texts)

whole_text : (e : NodeEnd) (text printed : List ℕ) → cuts_text e ≡ false → HasPrinted e text printed → printed ≡ text
whole_text Ended text printed whole h = h
whole_text BrokenOff text printed whole h = h
whole_text TurnsSpent text printed whole h = h
whole_text (FileDamaged file place) text printed whole h = cc
whole_text MemoryShort text printed whole h = cc

-- ---- from the turns of nodes to those on a site

module _ {D Y : Type 0} (m : Meaning D) (y : symb.Meaning Y) (stands_on : StandsOn m) (notes_on : NotesOn m) (disk : D) (old : Chest D) (opened : IsOpened m disk old) (began : List (Chest D)) (listed : List (List ℕ)) (lines : List (List UserLine))
    (then : Chest D) (left : List NodeText) (was now : List (Side Y)) (on : began ≡ old ∷ []) (same_listed : listed ≡ chest_names old)
  where
    -- the queue manager at the turnstile is the chest, behind the calls that were noted
    stood_as : (ns : List Note) → sharing.HasStood (meaning_of m) began then ns → HasStood m (chest_disk old) (chest_names old) then ns
    stood_as ns stood =
        let same : stood.first ≡ old = first_is (sym stood.first_is ∙ on) in
        stood_along m (chest_disk old) (chest_names old) stands_on notes_on ns [] old then (stands_first m disk old opened)
        (subst (λ (c : Chest D). AreAsked (meaning_of m) c ns then) same stood.calls)
      where
        first_is : {X : Type 0} {a b : X} → a ∷ [] ≡ b ∷ [] → a ≡ b
        first_is is = cc

    abbrev Stands : Chest D → List Noted → Type 0
    Stands = StandsFor m.tells (sharing.MayBegin (meaning_of m) began) chest_turns (sharing.HasStood (meaning_of m) began)

    pub have_run : HaveMadeTurns y m.tells (sharing.MayBegin (meaning_of m) began) turns_kept Stands listed lines then left was now → HaveRun m y (chest_names old) lines old then left was now
    have_run at_listed =
        let made = subst (λ (l : List (List ℕ)). HaveMadeTurns y m.tells (sharing.MayBegin (meaning_of m) began) turns_kept Stands l lines then left was now) same_listed at_listed in
        record {
          notes = map note_view (notes made.log);
          stood = stood_as (map note_view (notes made.log)) made.stood.itself;
          count = made.count;
          full = subst (λ (l : List Turn). AreFull turns_kept l left) (sym made.stood.turns) made.full;
          hidden = made.hidden;
          undamaged = made.undamaged;
          served = λ sure w may. subst (λ (l : List Turn). AllHaveServed y w l (chest_names old) lines left was now) (sym made.stood.turns)
              (made.served sure w (subst (λ (l : List (Chest D)). sharing.MayBegin (meaning_of m) l w) (sym on) (stands_at sure w may, tt)));
        }
      where
        stands_at : (sure : IsTrue m.tells) (w : World) → MayBegin m (chest_disk old) w → StandsAt m w old
        stands_at sure w may = record { tells = sure; cap = opened.cap; at = opened.at sure w (begins_before m disk old opened w may).starts }

-- where there are no nodes
pub none_run : {D Y : Type 0} (m : Meaning D) (y : symb.Meaning Y) (names : List (List ℕ)) (lines : List (List UserLine)) (old : Chest D) (left : List NodeText) (was now : List (Side Y)) → length names ≡ 0 → left ≡ []
    → HasStood m (chest_disk old) names old [] → HaveRun m y names lines old old left was now
none_run {D} {Y} m y names lines old left was now none empty stood =
    record {
      notes = [];
      stood = stood;
      count = ap length empty ∙ sym none;
      full = λ k at here spent. (let bad : slice_get [] k ≡ Some at = sym (ap (λ (l : List NodeText). slice_get l k) empty) ∙ here in absurd (nothing k at bad));
      hidden = omega arith;
      undamaged = λ sure k at file place here is. (let bad : slice_get [] k ≡ Some at = sym (ap (λ (l : List NodeText). slice_get l k) empty) ∙ here in nothing k at bad);
      served = λ sure w may node name own at before after named has_lines here was_there now_there.
          (let low = get_below names node name named in absurd (omega (arith, low, none)));
    }
  where
    nothing : {X : Type 0} (k : ℕ) (x : X) → slice_get [] k ≡ Some x → ⊥
    nothing k x is = cc

-- ---- what serving leaves

-- what the law on nodes that leave a site says
abbrev LeaveWhatIsNoted : {D : Type 0} → Meaning D → Type 0
LeaveWhatIsNoted {D} m =
    (disk : D) (chest then : Chest D) (names : List (List ℕ)) (ns : List Note) → IsOpened m disk chest → HasStood m (chest_disk chest) names then ns
    → ServesNodes m disk (chest_disk chest) (chest_disk then) (chest_turns then) (unread_of ns)

module _ {D Y : Type 0} (m : Meaning D) (y : symb.Meaning Y) (leaves : LeaveWhatIsNoted m) (disk : D) (old : Chest D) (opened : IsOpened m disk old) where
  none_node : (w : World) (node : ℕ) (lines : List UserLine) (side : Side Y) → IsNodeOf y w [] Begun node lines side side
  none_node w node lines side =
      record {
        faults = 0;
        course = record { steps = []; broken = None; turns_are = (tt, refl, tt); few_faults = omega arith };
        rose = refl;
        told = record { told = []; appended = appends_none side.told; are = ([], refl, omega arith) };
        taken = none_taken y side.symbiont;
      }

  -- where there was no memory before the first turn
  pub none_serves : HasStood m (chest_disk old) (chest_names old) old [] → (script : List UserLine) (taken : Option (List ℕ)) (sides : List (Side Y))
      → ServesAtOnce m y disk (chest_names old) script (outside (chest_disk old) taken sides) (outside (chest_disk old) taken sides) (chest_turns old) NoMemory
  none_serves stood script taken sides =
      let site = leaves disk old old (chest_names old) [] opened stood in
      record {
        ends = tt;
        failed = record { unread = 0; hidden = omega arith; told = site.failed };
        undamaged = λ sure. tt;
        spare = site.spare;
        within = λ sure w may. record {
          site = site.within sure w may;
          nodes = λ node name before after named was_there now_there.
              (let same : before ≡ after = some_same (sym was_there ∙ now_there) in (
                Begun,
                λ none. cc,
                subst (λ (l : List Turn). IsNodeOf y w l Begun node (lines_of name script) before after) (sym opened.fresh.turns)
                    (subst (λ (s : Side Y). IsNodeOf y w [] Begun node (lines_of name script) before s) same (none_node w node (lines_of name script) before)),
              ));
          printed = ([], cluster_text items_line w (chest_turns old), refl, appends_none taken);
        };
      }
    where
      some_same : {X : Type 0} {a b : X} → Some a ≡ Some b → a ≡ b
      some_same is = cc

  module _ (new : Chest D) (texts : List LeftText) (lines : List (List UserLine)) (was now : List (Side Y)) (ran : HaveRun m y (chest_names old) lines old new (map text_left texts) was now) where
    -- what is printed of all
    abbrev all_printed : List ℕ
    all_printed = texts_printed (turns_line (chest_names old) (chest_turns new)) (map text_left texts)

    site : ServesNodes m disk (chest_disk old) (chest_disk new) (chest_turns new) (unread_of ran.notes)
    site = leaves disk old new (chest_names old) ran.notes opened ran.stood

    module _ (taken then : Option (List ℕ)) (before after : ℕ) (end : ServingEnd) (is_told : IsToldBy (worst_of (map text_left texts)) taken then before after all_printed (chest_turns new) end) where
      pub said : SaysOf (map text_left texts) taken then before after all_printed (chest_turns new) (unread_of ran.notes) end
      said =
          told (map text_left texts) taken then before after all_printed (chest_turns new) (unread_of ran.notes) site.few ran.full ran.hidden (worst_of (map text_left texts)) end
          (says (ends_of (map text_left texts)) (unbroken texts)) is_told

      module _ (keep : (s : System) (now node : ℕ) (asked : Request) (a : Accepted) → applied s now node asked ≡ Ok a → map (λ n. n.name) a.system.nodes ≡ map (λ n. n.name) s.nodes)
          (sound : (disk : D) (chest : Chest D) (w : World) → IsOpened m disk chest → IsTrue m.tells → StartsEarly (m.seen disk) w → IsSound w)
          (keeps : (disk : D) (chest : Chest D) (w : World) → IsOpened m disk chest → MayBegin m disk w → MayBegin m (chest_disk chest) w)
          (script : List UserLine) (own : lines ≡ each_lines script (chest_names old)) (count_was : length was ≡ length (chest_names old)) (count_now : length now ≡ length (chest_names old))
        where
          module _ (sure : IsTrue m.tells) (w : World) (may : MayBegin m disk w) where
            served : (node : ℕ) (name : List ℕ) (at : NodeText) (before after : Side Y) → slice_get (chest_names old) node ≡ Some name → slice_get (map text_left texts) node ≡ Some at
                → slice_get was node ≡ Some before → slice_get now node ≡ Some after → HasServed y w (chest_turns new) node name (lines_of name script) at before after
            served node name at before after named here was_there now_there =
                ran.served sure w (keeps disk old w opened may) node name (lines_of name script) at before after named
                (ap (λ (l : List (List UserLine)). slice_get l node) own ∙ slice_get-map (λ (n : List ℕ). lines_of n script) (chest_names old) node ∙ ap (option_map (λ (n : List ℕ). lines_of n script)) named)
                here was_there now_there

            printed_each : NoneCut (ends_of (map text_left texts)) → (k : ℕ) (at : NodeText) → slice_get (map text_left texts) k ≡ Some at
                → (name : List ℕ) × (slice_get (chest_names old) k ≡ Some name) × (at.printed ≡ text_told name (visits_of k w (chest_turns new)))
            printed_each none k at here =
                let low = get_below (map text_left texts) k at here in
                let many = ran.count in
                let name = there (chest_names old) k (omega (arith, low, many)) in
                let before = there was k (omega (arith, low, many, count_was)) in
                let after = there now k (omega (arith, low, many, count_now)) in
                let whole = at_place (λ (e : NodeEnd). cuts_text e ≡ false) (ends_of (map text_left texts)) k at.end none
                (slice_get-map (λ (a : NodeText). a.end) (map text_left texts) k ∙ ap (option_map (λ (a : NodeText). a.end)) here) in
                (name.0, name.1, whole_text at.end _ at.printed whole (served k name.0 at before.0 after.0 name.1 here before.1 after.1).text)

            all_text : NoneCut (ends_of (map text_left texts)) → all_printed ≡ cluster_text items_line w (chest_turns new)
            all_text none =
                cluster_printed keep w (chest_turns new) (chest_names old) (map text_left texts) (sound disk old w opened sure may.starts) (site.within sure w may).legal (opened.names sure w may.starts) ran.count none
                (printed_each none)

          pub serves : (sides sides' : List (Side Y)) → ((k : ℕ) (side : Side Y) → k < length (chest_names old) → slice_get sides k ≡ Some side → slice_get was k ≡ Some side)
              → ((k : ℕ) (side : Side Y) → k < length (chest_names old) → slice_get sides' k ≡ Some side → slice_get now k ≡ Some side)
              → ServesAtOnce m y disk (chest_names old) script (outside (chest_disk old) taken sides) (outside (chest_disk new) then sides') (chest_turns new) end
          serves sides sides' front_was front_now =
              record {
                ends = said.ends;
                failed = record { unread = unread_of ran.notes; hidden = subst (λ (n : ℕ). MayHide (stop_of end) n (unread_of ran.notes)) ran.count said.hides; told = site.failed };
                undamaged = λ sure. said.undamaged (ran.undamaged sure);
                spare = site.spare;
                within = λ sure w may. record {
                  site = site.within sure w may;
                  nodes = λ node name side side' named was_there now_there.
                      (let low = get_below (chest_names old) node name named in
                      let many = ran.count in
                      let at = there (map text_left texts) node (omega (arith, low, many)) in
                      let h = served sure w may node name at.0 side side' named at.1 (front_was node side low was_there) (front_now node side' low now_there) in (
                        extent_of at.0.end,
                        λ none. ap extent_of (at_place (λ (e : NodeEnd). e ≡ Ended) (ends_of (map text_left texts)) node at.0.end (said.whole none)
                            (slice_get-map (λ (a : NodeText). a.end) (map text_left texts) node ∙ ap (option_map (λ (a : NodeText). a.end)) at.1)),
                        record { faults = h.faults; course = h.course; rose = h.rose; told = h.told; taken = h.taken },
                      ));
                  printed = said.printed (cluster_text items_line w (chest_turns new)) (all_text sure w may);
                };
              }

-- what the device, the turns and the end are called
pub handed : {D Y : Type 0} (m : Meaning D) (y : symb.Meaning Y) (disk : D) (names : List (List ℕ)) (script : List UserLine) (old : Outside D Y) (taken : Option (List ℕ)) (sides sides' : List (Side Y)) (d d' : D) (turns turns' : List Turn)
    (end end' : ServingEnd) → d' ≡ d → turns' ≡ turns → end' ≡ end → sides' ≡ sides → ServesAtOnce m y disk names script old (outside d taken sides) turns end
    → ServesAtOnce m y disk names script old (outside d' taken sides') turns' end'
handed {D} {Y} m y disk names script old taken sides sides' d d' turns turns' end end' same_disk same_turns same_end same_sides h =
    subst (λ (x : D). ServesAtOnce m y disk names script old (outside x taken sides') turns' end') (sym same_disk)
    (subst (λ (l : List Turn). ServesAtOnce m y disk names script old (outside d taken sides') l end') (sym same_turns)
    (subst (λ (e : ServingEnd). ServesAtOnce m y disk names script old (outside d taken sides') turns e) (sym same_end)
    (subst (λ (l : List (Side Y)). ServesAtOnce m y disk names script old (outside d taken l) turns end) (sym same_sides) h)))

get_front : {X : Type 0} (xs ys : List X) (k : ℕ) → k < length xs → slice_get (xs ++ ys) k ≡ slice_get xs k
get_front [] ys k low = absurd (omega (arith, low))
get_front (x ∷ xs) ys zero low = refl
get_front (x ∷ xs) ys (suc k) low = get_front xs ys k (omega (arith, low))

-- what stands at a place of the front
pub front_at : {A Z : Type 0} (f : A → Z) (all xs ys : List A) (n k : ℕ) (z : Z) → all ≡ xs ++ ys → length xs ≡ n → k < n → slice_get (map f all) k ≡ Some z → slice_get (map f xs) k ≡ Some z
front_at {A} f all xs ys n k z cut long low there =
    let size = length-map xs f in
    sym (get_front (map f xs) (map f ys) k (omega (arith, size, long, low))) ∙ sym (ap (λ (l : List A). slice_get (map f l) k) cut ∙ ap (λ (l : List _). slice_get l k) (map-append f xs ys)) ∙ there
