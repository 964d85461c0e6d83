-- Calls that a chest served, one behind another, are noted.
use Rattle.std.proofs.Common.{◌≡◌, inl, inr, ℕ, List, [], ◌∷◌, ◌++◌, refl, sym, subst, Option, None, Some, append_assoc, append-nil}
use Rattle.qm_chest.specs.At.{chest_disk, chest_turns}
use Rattle.qm_chest.specs.Manager.{HasDone, meaning_of}
use Rattle.qm_chest.specs.Noted.{AreServed, HasNoted}
use Rattle.qm_chest.specs.Noting.{HasServed, StandsSince, chest_told, failed_with, note_of}
use Rattle.qm_chest.specs.declared.chest.Chest.{Chest as CodeChest}
use Rattle.qm_history.specs.Common.{Meaning, after_turn}
use Rattle.qm_history.specs.declared.call.Answer.{Answer}
use Rattle.qm_history.specs.declared.call.Call.{Call}
use Rattle.qm_history.specs.declared.turn.Turn.{Turn}
use Rattle.qm_history.specs.declared.world.World.{World}
use Rattle.qm_history.specs.Chest.{Chest as ChestTold, Note, Serves as NotesCall}
use Rattle.qm_history.specs.Serving.{AreMade, LeavesNone}

-- a chest that stands for notes stands for one more behind a call that it served, and that is what the call does
abbrev pub StandsOn : {D : Type 0} → Meaning D → Type 0
StandsOn {D} m =
    (cap : ℕ) (w : World) (began : D) (old new : CodeChest D) (failed : ℕ) (notes : List Note) (node now : ℕ) (asked : Call) (told : Answer) → StandsSince m cap w began old failed notes
    → (served : HasServed m cap node now asked old new told) → StandsSince m cap w began new (failed_with failed told) (notes ++ note_of asked served.one.turn told ∷ [])

abbrev pub NotesOn : {D : Type 0} → Meaning D → Type 0
NotesOn {D} m =
    (cap : ℕ) (w : World) (began : D) (old new : CodeChest D) (failed : ℕ) (notes : List Note) (node now : ℕ) (asked : Call) (told : Answer) → StandsSince m cap w began old failed notes
    → (served : HasServed m cap node now asked old new told)
    → NotesCall m w began (chest_told old failed) (chest_told new (failed_with failed told)) notes node now (note_of asked served.one.turn told) told

module _ {D : Type 0} (m : Meaning D) (stands_on : StandsOn m) (notes_on : NotesOn m) (cap : ℕ) (w : World) (began : D) where
  -- behind these notes more calls were served
  record Goes (old : CodeChest D) (failed : ℕ) (before : List Note) (new : CodeChest D) : Type 0 where
    failed_now : ℕ
    more : List Note
    calls : AreServed m w began before (chest_told old failed) more (chest_told new failed_now)
    since : StandsSince m cap w began new failed_now (before ++ more)

  stays : (old : CodeChest D) (failed : ℕ) (before : List Note) → StandsSince m cap w began old failed before → Goes old failed before old
  stays old failed before since = record {
    failed_now = failed;
    more = [];
    calls = refl;
    since = subst (StandsSince m cap w began old failed) (sym (append-nil before)) since;
  }

  -- one call, and those behind it
  one_more : (old next new : CodeChest D) (asked : Call) (turn : Option Turn) (told : Answer) (failed : ℕ) (before : List Note) → StandsSince m cap w began old failed before
      → HasDone m old next asked turn told
      → ((failed_then : ℕ) (then : List Note) → StandsSince m cap w began next failed_then then → Goes next failed_then then new) → Goes old failed before new
  one_more old next new asked turn told failed before since done rest =
      let served = done.served cap in
      let note : Note = note_of asked served.one.turn told in
      let behind = rest (failed_with failed told) (before ++ note ∷ [])
      (stands_on cap w began old next failed before done.node done.now asked told since served) in
      record {
        failed_now = behind.failed_now;
        more = note ∷ behind.more;
        calls = (
          done.node,
          done.now,
          told,
          chest_told next (failed_with failed told),
          notes_on cap w began old next failed before done.node done.now asked told since served,
          behind.calls,
        );
        since = subst (StandsSince m cap w began new behind.failed_now) (append_assoc before (note ∷ []) behind.more) behind.since;
      }

  made_go : (v : World) (old new : CodeChest D) (turns : List Turn) → AreMade (meaning_of m) v old turns new → (failed : ℕ) (before : List Note) → StandsSince m cap w began old failed before → Goes old failed before new
  made_go v old new [] made failed before since = subst (Goes old failed before) (sym made) (stays old failed before since)
  made_go v old new (t ∷ turns) (asked, told, next, may, does, rest) failed before since =
      one_more old next new asked (Some t) told failed before since does (λ failed_then then stands. made_go (after_turn v t) next new turns rest failed_then then stands)

  -- and a call that left no turn, if there was one
  none_goes : (v : World) (next new : CodeChest D) → LeavesNone (meaning_of m) v next new → (failed : ℕ) (before : List Note) → StandsSince m cap w began next failed before → Goes next failed before new
  none_goes v next new (inl same) failed before since = subst (Goes next failed before) (sym same) (stays next failed before since)
  none_goes v next new (inr (asked, told, does)) failed before since =
      one_more next new new asked None told failed before since does (λ failed_then then stands. stays new failed_then then stands)

  -- the calls of one, and behind them those of the other
  served_then : (a b c : List Note) (old mid new : ChestTold D) → AreServed m w began a old b mid → AreServed m w began (a ++ b) mid c new → AreServed m w began a old (b ++ c) new
  served_then a [] c old mid new first second =
      subst (λ x. AreServed m w began a x c new) first (subst (λ (l : List Note). AreServed m w began l mid c new) (append-nil a) second)
  served_then a (n ∷ b) c old mid new (node, now, told, next, serves, rest) second = (
    node,
    now,
    told,
    next,
    serves,
    served_then (a ++ n ∷ []) b c next mid new rest (subst (λ (l : List Note). AreServed m w began l mid c new) (sym (append_assoc a (n ∷ []) b)) second),
  )

  then_goes : (old mid new : CodeChest D) (failed : ℕ) (before : List Note) (first : Goes old failed before mid) → Goes mid first.failed_now (before ++ first.more) new → Goes old failed before new
  then_goes old mid new failed before first second = record {
    failed_now = second.failed_now;
    more = first.more ++ second.more;
    calls = served_then before first.more second.more _ _ _ first.calls second.calls;
    since = subst (StandsSince m cap w began new second.failed_now) (append_assoc before first.more second.more) second.since;
  }

  noted : (old new : CodeChest D) → chest_disk old ≡ began → StandsSince m cap w began old 0 [] → Goes old 0 [] new → HasNoted m w began (chest_disk new) (chest_turns new)
  noted old new on since goes = record {
    first = chest_told old 0;
    begins = since.stands;
    on = on;
    last = chest_told new goes.failed_now;
    notes = goes.more;
    calls = goes.calls;
    stands = goes.since.stands;
    disk_is = refl;
    turns_are = refl;
  }

  -- turns that were made one behind another
  pub made_noted : (v : World) (old new : CodeChest D) (turns : List Turn) → chest_disk old ≡ began → StandsSince m cap w began old 0 [] → AreMade (meaning_of m) v old turns new
      → HasNoted m w began (chest_disk new) (chest_turns new)
  made_noted v old new turns on since made = noted old new on since (made_go v old new turns made 0 [] since)

  -- and up to an end
  pub stopped_noted : (v u : World) (old next new : CodeChest D) (turns : List Turn) → chest_disk old ≡ began → StandsSince m cap w began old 0 [] → AreMade (meaning_of m) v old turns next
      → LeavesNone (meaning_of m) u next new → HasNoted m w began (chest_disk new) (chest_turns new)
  stopped_noted v u old next new turns on since made last =
      let first = made_go v old next turns made 0 [] since in
      noted old new on since (then_goes old next new 0 [] first (none_goes u next new last first.failed_now first.more first.since))

  pub none_noted : (old : CodeChest D) → chest_disk old ≡ began → StandsSince m cap w began old 0 [] → HasNoted m w began (chest_disk old) (chest_turns old)
  none_noted old on since = noted old old on since (stays old 0 [] since)
