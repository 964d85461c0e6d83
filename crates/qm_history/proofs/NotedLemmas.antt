-- What is noted of calls makes a legal history, within the room of its files.
use Rattle.std.proofs.Common.{◌≡◌, Bool, true, false, List, [], ◌∷◌, refl, sym, subst, arith, Option, None, Some}
use Rattle.qm_history.specs.declared.turn.Turn.{Turn}
use Rattle.qm_history.specs.declared.world.World.{World}
use Rattle.qm_history.specs.Chest.{AreNoted, AreRoomTold, IsNoted, IsNotedInRoom, Note, turns_noted}
use Rattle.qm_history.specs.Common.{tells_disk_fault, IsLegal, after_turn}
use Rattle.qm_history.specs.Room.{AreWithinRoom, Room, UnlessFailed, room_after_events}

skipped : (n : Note) (notes : List Note) → n.turn ≡ None → turns_noted (n ∷ notes) ≡ turns_noted notes
skipped n notes none = grind (arith, none)

kept : (n : Note) (notes : List Note) (t : Turn) → n.turn ≡ Some t → turns_noted (n ∷ notes) ≡ t ∷ turns_noted notes
kept n notes t some = grind (arith, some)

module _ (n : Note) (notes : List Note) (rest : (w : World) → AreNoted w notes → IsLegal w (turns_noted notes)) where
  legal_on : (w : World) (turn : Option Turn) → n.turn ≡ turn → IsNoted w n.asked turn (λ after. AreNoted after notes)
      → IsLegal w (turns_noted (n ∷ notes))
  legal_on w None is h = subst (IsLegal w) (sym (skipped n notes is)) (rest w h)
  legal_on w (Some t) is h = subst (IsLegal w) (sym (kept n notes t is)) ((n.asked, h.0), rest (after_turn w t) h.1)

pub noted_legal : (notes : List Note) (w : World) → AreNoted w notes → IsLegal w (turns_noted notes)
noted_legal [] w h = tt
noted_legal (n ∷ notes) w h = legal_on n notes (λ after there. noted_legal notes after there) w n.turn refl h

unless : (failed : Bool) (A B : Type 0) → (A → B) → UnlessFailed failed A → UnlessFailed failed B
unless true A B goes h = h
unless false A B goes h = goes h

module _ (n : Note) (notes : List Note)
    (rest : (w : World) (room : Room) → AreNoted w notes → AreRoomTold w room notes → AreWithinRoom w room (turns_noted notes))
  where
    within_on : (w : World) (room : Room) (turn : Option Turn) → n.turn ≡ turn → IsNoted w n.asked turn (λ after. AreNoted after notes)
        → IsNotedInRoom w room n.asked turn (λ after then. AreRoomTold after then notes)
        → AreWithinRoom w room (turns_noted (n ∷ notes))
    within_on w room None is h told = subst (AreWithinRoom w room) (sym (skipped n notes is)) (rest w room h told)
    within_on w room (Some t) is h told =
        subst (AreWithinRoom w room) (sym (kept n notes t is)) (
          record { asked = n.asked; turn_is = h.0; told = told.0 },
          unless (tells_disk_fault t.events) (AreRoomTold (after_turn w t) (room_after_events w room t.events) notes)
              (AreWithinRoom (after_turn w t) (room_after_events w room t.events) (turns_noted notes))
              (λ there. rest (after_turn w t) (room_after_events w room t.events) h.1 there) told.1,
        )

pub noted_within : (notes : List Note) (w : World) (room : Room) → AreNoted w notes → AreRoomTold w room notes
    → AreWithinRoom w room (turns_noted notes)
noted_within [] w room h told = tt
noted_within (n ∷ notes) w room h told = within_on n notes (λ after then noted there. noted_within notes after then noted there) w room n.turn refl h told
