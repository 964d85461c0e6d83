-- What a chest stands for behind calls of nodes.
use Rattle.std.proofs.Common.{◌≡◌, ℕ, ◌+◌, ◌≤◌, Bool, true, false, cond, IsTrue, List, [], ◌∷◌, ◌++◌, length, refl, sym, ◌∙◌, ap, subst, arith, append_assoc, Option, None, Some, ◌&&◌, option_to_list, append-nil}
use Rattle.qm_acting.specs.Spare.{KeepsSpare}
use Rattle.qm_acting.proofs.Spare.{keeps_on}
use Rattle.qm_chest.specs.Noting.{HasServed, StandsSince, chest_told, failed_with, note_of}
use Rattle.qm_chest.specs.declared.chest.Chest.{Chest}
use Rattle.qm_chest.proofs.Notes.{count_more, hidden_quiet, none_quiet, told_or_noted}
use Rattle.qm_history.specs.Serving.{Serves, TellsDisk}
use Rattle.qm_node.specs.Taken.{RoseBy}
use Rattle.qm_cluster.proofs.Counting.{rose_on}
use Rattle.qm_history.specs.Common.{Meaning, Tells, faults_told, is_journal, tells_disk_fault, after_turns}
use Rattle.qm_cluster.specs.Sharing.{AreAsked}
use Rattle.qm_history.specs.declared.call.Answer.{Answer}
use Rattle.qm_history.specs.declared.call.Call.{Call}
use Rattle.qm_history.specs.declared.turn.Turn.{Turn}
use Rattle.qm_history.specs.declared.world.World.{World}
use Rattle.qm_history.specs.Chest.{Chest as ChestTold, IsMadeFor, LeavesTurn as LeavesOfKept, Note, Serves as NotesCall, hides_events, is_unread, turns_kept, unread_of}
use Rattle.qm_chest.specs.Noted.{AreServed}
use Rattle.qm_chest.specs.Opening.{MayBegin}
use Rattle.qm_chest.specs.At.{chest_disk, chest_turns}
use Rattle.qm_chest.specs.Manager.{HasDone, StandsAt, meaning_of}
use Rattle.qm_serving.specs.SiteStanding.{HasNotedIn, HasStood}

-- ---- how often disks failed

-- a count that rose as often as turns tell rises by one where the call tells that a disk failed
failed_once : (failed old mid new : ℕ) (journal : Bool) → RoseBy failed old mid → Tells mid new (journal ≡ true) → RoseBy (cond journal (failed + 1) failed) old new
failed_once failed old mid new true rose tells = rose_on failed 1 old mid new rose (tells.fault refl)
failed_once failed old mid new false rose tells = subst (RoseBy failed old) (sym (tells.quiet (λ bad. cc))) rose

one_told : (failed : ℕ) (journal : Bool) → cond journal (failed + 1) failed ≡ failed + cond journal 1 0
one_told failed true = refl
one_told failed false = omega arith

-- what turns tell is what calls were told, or what is noted as not told
module _ (old new : List Turn) (failed : ℕ) (notes : List Note) (asked : Call) (told : Answer) (was : faults_told old ≡ failed + unread_of notes) where
  told_more : (turn : Option Turn) → new ≡ old ++ option_to_list turn → LeavesOfKept old turn told → TellsDisk turn told
      → faults_told new ≡ cond (is_journal told) (failed + 1) failed + unread_of (notes ++ note_of asked turn told ∷ [])
  told_more None kept why tells =
      let quiet : is_journal told ≡ false = none_quiet old told why in
      let one : cond (is_journal told) (failed + 1) failed ≡ failed = ap (λ (b : Bool). cond b (failed + 1) failed) quiet in
      let unread : unread_of (notes ++ note_of asked None told ∷ []) ≡ unread_of notes + 0 = count_more (λ (n : Note). n.unread) notes (note_of asked None told) in
      let faults : faults_told new ≡ faults_told old = ap faults_told (kept ∙ append-nil old) in
      omega (arith, one, unread, faults, was)
  told_more (Some t) kept why tells =
      let fault = tells_disk_fault t.events in
      let split = told_or_noted fault (hides_events told) (is_journal told) tells (hidden_quiet told) in
      let unread : unread_of (notes ++ note_of asked (Some t) told ∷ []) ≡ unread_of notes + cond (fault && hides_events told) 1 0 = count_more (λ (n : Note). n.unread) notes (note_of asked (Some t) told) in
      let faults : faults_told new ≡ faults_told old + cond fault 1 0 = ap faults_told kept ∙ count_more (λ (s : Turn). tells_disk_fault s.events) old t in
      let one = one_told failed (is_journal told) in
      omega (arith, one, split, unread, faults, was)

-- ---- a call

-- a chest that stands for notes stands for one more behind a call that it served
abbrev pub StandsOn : {D : Type 0} → Meaning D → Type 0
StandsOn {D} m =
    (cap : ℕ) (w : World) (began : D) (old new : Chest D) (failed : ℕ) (notes : List Note) (node now : ℕ) (asked : Call) (told : Answer) → StandsSince m cap w began old failed notes
    → (served : HasServed m cap node now asked old new told) → StandsSince m cap w began new (failed_with failed told) (notes ++ note_of asked served.one.turn told ∷ [])

-- and that is what the call does
abbrev pub NotesOn : {D : Type 0} → Meaning D → Type 0
NotesOn {D} m =
    (cap : ℕ) (w : World) (began : D) (old new : Chest D) (failed : ℕ) (notes : List Note) (node now : ℕ) (asked : Call) (told : Answer) → StandsSince m cap w began old failed notes
    → (served : HasServed m cap node now asked old new told)
    → NotesCall m w began (chest_told old failed) (chest_told new (failed_with failed told)) notes node now (note_of asked served.one.turn told) told

-- one call more behind those that were served
module _ {D : Type 0} (m : Meaning D) (w : World) (began : D) (mid new : ChestTold D) (n : Note) (node now : ℕ) (told : Answer) where
  abbrev OneCall : ChestTold D → List Note → Type 0
  OneCall from notes = NotesCall m w began from new notes node now n told

  served_more : (before notes : List Note) (old : ChestTold D) → AreServed m w began before old notes mid → OneCall mid (before ++ notes) → AreServed m w began before old (notes ++ n ∷ []) new
  served_more before [] old served call = (node, now, told, new, subst (λ (c : ChestTold D). OneCall c before) served (subst (OneCall mid) (append-nil before) call), refl)
  served_more before (k ∷ notes) old (maker, reading, answer, next, serves, rest) call =
      (maker, reading, answer, next, serves, served_more (before ++ k ∷ []) notes next rest (subst (OneCall mid) (sym (append_assoc before (k ∷ []) notes)) call))

module _ {D : Type 0} (m : Meaning D) (began : D) (names : List (List ℕ)) (stands_on : StandsOn m) (notes_on : NotesOn m) where
  module _ (node now : ℕ) (asked : Call) (old new : Chest D) (told : Answer) (serves : Serves (meaning_of m) node now asked old new told) (notes : List Note) (h : HasStood m began names old notes) where
    at_world : (sure : IsTrue m.tells) (w : World) → MayBegin m began w → StandsAt m (after_turns w (chest_turns old)) old
    at_world sure w begins = record { tells = sure; cap = (h.within sure w begins).cap; at = (h.within sure w begins).since.at sure }

    -- the queue file that isn't live
    spared : IsTrue m.tells → KeepsSpare m began (chest_disk new)
    spared sure =
        let there = h.serving.stands sure in
        let done : HasDone m old new asked serves.turn told = (serves.at there.1 (record { tells = sure; cap = there.0; at = there.2 })).does in
        keeps_on m began (chest_disk old) (chest_disk new) (h.spare sure) (done.spare sure)

    noted_in : (sure : IsTrue m.tells) (w : World) → MayBegin m began w → HasNotedIn m w began new (failed_with h.failed told) (notes ++ note_of asked serves.turn told ∷ [])
    noted_in sure w begins =
        let was = h.within sure w begins in
        let done : HasDone m old new asked serves.turn told = (serves.at (after_turns w (chest_turns old)) (at_world sure w begins)).does in
        let served = done.served was.cap in
        subst (λ (o : Option Turn). HasNotedIn m w began new (failed_with h.failed told) (notes ++ note_of asked o told ∷ [])) (done.turn_is was.cap)
        (record {
          cap = was.cap;
          first = was.first;
          begins = was.begins;
          on = was.on;
          calls =
              served_more m w began (chest_told old h.failed) (chest_told new (failed_with h.failed told)) (note_of asked served.one.turn told) done.node done.now told [] notes was.first was.calls
              (notes_on was.cap w began old new h.failed notes done.node done.now asked told was.since served);
          since = stands_on was.cap w began old new h.failed notes done.node done.now asked told was.since served;
        })

    -- the chest stands for the note of its call too
    stood_on : HasStood m began names new (notes ++ note_of asked serves.turn told ∷ [])
    stood_on = record {
      serving = serves.serves;
      names_are = serves.nodes ∙ h.names_are;
      few = serves.few;
      failed = failed_with h.failed told;
      told = told_more (chest_turns old) (chest_turns new) h.failed notes asked told h.told serves.turn serves.turns serves.leaves serves.tells;
      rose = failed_once h.failed (m.faults began) (m.faults (chest_disk old)) (m.faults (chest_disk new)) (is_journal told) h.rose serves.faults;
      spare = spared;
      within = noted_in;
    }

  note_is : (n : Note) (turn : Option Turn) (told : Answer) → turn ≡ n.turn → n.unread ≡ is_unread n.turn told → note_of n.asked turn told ≡ n
  note_is n turn told same unread =
      ap (λ (o : Option Turn). note_of n.asked o told) same ∙ ap (λ (b : Bool). record { asked = n.asked; turn = n.turn; unread = b }) (sym unread)

  -- and for those of all calls that were served behind it
  pub stood_along : (more before : List Note) (old new : Chest D) → HasStood m began names old before → AreAsked (meaning_of m) old more new → HasStood m began names new (before ++ more)
  stood_along [] before old new h calls =
      subst (HasStood m began names new) (sym (append-nil before)) (subst (λ (c : Chest D). HasStood m began names c before) (sym calls) h)
  stood_along (n ∷ more) before old new h (node, now, told, next, serves, same, unread, rest) =
      subst (HasStood m began names new) (append_assoc before (n ∷ []) more)
      (stood_along more (before ++ n ∷ []) next new
      (subst (λ (k : Note). HasStood m began names next (before ++ k ∷ [])) (note_is n serves.turn told same unread) (stood_on node now n.asked old next told serves before h)) rest)
