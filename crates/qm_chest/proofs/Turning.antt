-- A whole part of a call is its turn.
use Rattle.std.proofs.Common.{◌≡◌, ℕ, ◌<◌, Bool, false, List, length, refl, Option, None, Some}
use Rattle.qm_history.specs.Common.{CrashState, Meaning, MayAnswer, input_of, IsFromOutside, tells_disk_fault, after_turn, system_in}
use Rattle.qm_disk.proofs.Moments.{weaker}
use Rattle.qm_history.specs.declared.call.Answer.{Answer}
use Rattle.qm_history.specs.declared.call.Answer.TheVariants as answer
use Rattle.qm_history.specs.declared.call.Call.{Call}
use Rattle.qm_history.specs.declared.event.Event.{Event}
use Rattle.qm_history.specs.declared.turn.Turn.{Turn}
use Rattle.qm_history.specs.declared.world.World.{World}
use Rattle.qm_history.specs.Chest.{AddsTurn, TellsRoom}
use Rattle.qm_history.specs.Contents.{CompactsFiles, HoldWithin, compacted_by}
use Rattle.qm_history.specs.Turn.{IsTurn, IsTurnOf, IsCutShort, IsServed, IsTakeoverAlone}
use Rattle.qm_chest.specs.Parts.{HoldsWithin, Part}
use Rattle.qm_chest.specs.Turns.{made_turn}

module _ {D : Type 0} (m : Meaning D) (w : World) (node reading : ℕ) (asked : Call) (failed : Bool) (events : List Event) (old new : D) (there : node < length (system_in w).nodes) (outside : IsFromOutside (input_of asked))
    (part : Part m None w reading (input_of asked) failed events old new)
  where
    abbrev t : Turn
    t = made_turn node reading asked events

    is_turn : IsTurn w asked t
    is_turn = record { node_there = there; why_is = refl; outside = outside; can_come = part.comes }

    pub whole : IsServed w node reading asked events → IsTurnOf w asked t
    whole served = (is_turn, served)

    pub cut_short : IsTakeoverAlone w node reading (input_of asked) events → IsCutShort w asked t
    cut_short alone = (is_turn, alone)

    nothing_compacted : (file : Option ℕ) → file ≡ None → CompactsFiles m (after_turn w t) old new file
    nothing_compacted None none = tt
    nothing_compacted (Some file) none = absurd cc

    pub adds : (told : Answer) → MayAnswer w asked t told → ((file place : ℕ) → told ≡ answer.Damaged file place → ⊥) → (tells_disk_fault events ≡ false → failed ≡ false) → compacted_by events ≡ None
        → AddsTurn m w old new asked t told
    adds told may undamaged quiet none = record {
      answers = may;
      undamaged = undamaged;
      moments = weaker m old new (HoldsWithin w events) (λ (crashed : CrashState). HoldWithin crashed w t) part.moments
          (λ crashed h. record { log = h.log; left = h.left; holds = h.holds; recorded = h.recorded });
      files = part.files;
      compacts = nothing_compacted (compacted_by events) none;
      reaches = λ said. part.reaches (quiet said);
    }

    pub tells_room : TellsRoom m w (m.seen old) asked (Some t)
    tells_room = part.room
