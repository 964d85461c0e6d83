-- The same world with other nodes live: what stands for the one stands for the other.
use Rattle.std.proofs.Common.{◌≡◌, ℕ, Bool, false, List, [], ◌∷◌, Option, None, slice_set}
use Rattle.qm_history.specs.Common.{CrashState, Meaning, unless_of, without}
use Rattle.qm_disk.proofs.Moments.{weaker}
use Rattle.qm_kinds.specs.declared.input.Input.TheVariants as input
use Rattle.qm_acting.specs.declared.manager.Manager.{Manager}
use Rattle.qm_store.specs.Recorded.{Recorded}
use Rattle.qm_history.specs.declared.call.Takeover.{Takeover}
use Rattle.qm_history.specs.declared.event.Event.TheVariants as event
use Rattle.qm_history.specs.declared.world.World.{World}
use Rattle.qm_chest.specs.declared.asking.Came.{Came}
use Rattle.qm_chest.specs.declared.work.Work.{Work}
use Rattle.qm_chest.specs.declared.work.Work.TheVariants.{Up, Down}
use Rattle.qm_chest.specs.declared.place.Place.{Place}
use Rattle.qm_chest.specs.Work.{IsWorkAt, IsUp}
use Rattle.qm_chest.specs.Holding.{MayHold, SomeHold, AllHold}
use Rattle.qm_chest.specs.Parts.{HoldsWithin, Part}
use Rattle.qm_chest.specs.Steps.{IsShort}

abbrev pub relive : World → List Bool → World
relive w live = record w { live = live }

-- where the manager is elsewhere, a node that goes is no longer live, and that is all
pub without_is : (w : World) (node : ℕ) → unless_of node w.manager ≡ w.manager → without w node ≡ relive w (slice_set w.live node false)
without_is w node stays = λ i. record w { live = slice_set w.live node false; manager = stays i }

module _ {D : Type 0} (m : Meaning D) (cap : ℕ) (w : World) (live : List Bool) where
  may_there : (place : Option Place) (r : Recorded) → MayHold cap w place r → MayHold cap (relive w live) place r
  may_there place r may = record { log = may.log; found = may.found; site = may.site; cap_is = may.cap_is; fits = may.fits; epoch = may.epoch; recorded = may.recorded }

  may_back : (place : Option Place) (r : Recorded) → MayHold cap (relive w live) place r → MayHold cap w place r
  may_back place r may = record { log = may.log; found = may.found; site = may.site; cap_is = may.cap_is; fits = may.fits; epoch = may.epoch; recorded = may.recorded }

  some_back : (place : Option Place) (files : CrashState) → SomeHold (MayHold cap (relive w live) place) files → SomeHold (MayHold cap w place) files
  some_back place files some = record { recorded = some.recorded; holds = some.holds; is = may_back place some.recorded some.is }

  all_back : (place : Option Place) (disk : D) → AllHold m (MayHold cap (relive w live) place) disk → AllHold m (MayHold cap w place) disk
  all_back place disk all = record { reads = some_back place (m.seen disk) all.reads; crash = λ crashed left. some_back place crashed (all.crash crashed left) }

  pub up_there : (manager : Manager D) (at : ℕ) → IsUp m cap w manager at → IsUp m cap (relive w live) manager at
  up_there manager at up = record {
    role = up.role;
    sure = up.sure;
    system = up.system;
    at_rest = up.at_rest;
    may = may_there None _ up.may;
    epoch = up.epoch;
  }

  pub work_back : (work : Work D) → IsWorkAt m cap (relive w live) work → IsWorkAt m cap w work
  work_back (Up manager at) up = record {
    role = up.role;
    sure = up.sure;
    system = up.system;
    at_rest = up.at_rest;
    may = may_back None _ up.may;
    epoch = up.epoch;
  }
  work_back (Down files place) down = record { none = down.none; holds = all_back place _ down.holds }

  pub short_back : (took : Option Takeover) (old : D) (came : Came D) → IsShort m cap (relive w live) took old came → IsShort m cap w took old came
  short_back took old came short = record { same = short.same; work = work_back came.work short.work; told = short.told }

  -- that a node's own record has no room
  module _ (now : ℕ) (failed : Bool) (node need most : ℕ) (old new : D) where
    pub full_start_back : Part m None (relive w live) now input.StartNode failed (event.Full node need most ∷ []) old new → Part m None w now input.StartNode failed (event.Full node need most ∷ []) old new
    full_start_back part = record {
      comes = (tt, tt);
      moments = weaker m old new (HoldsWithin (relive w live) (event.Full node need most ∷ [])) (HoldsWithin w (event.Full node need most ∷ [])) part.moments
          (λ crashed h. record { log = h.log; left = h.left; holds = h.holds; recorded = h.recorded });
      files = part.files;
      reaches = part.reaches;
      room = part.room;
    }

    pub full_stop_back : Part m None (relive w live) now input.StopNode failed (event.Full node need most ∷ []) old new → Part m None w now input.StopNode failed (event.Full node need most ∷ []) old new
    full_stop_back part = record {
      comes = (tt, tt);
      moments = weaker m old new (HoldsWithin (relive w live) (event.Full node need most ∷ [])) (HoldsWithin w (event.Full node need most ∷ [])) part.moments
          (λ crashed h. record { log = h.log; left = h.left; holds = h.holds; recorded = h.recorded });
      files = part.files;
      reaches = part.reaches;
      room = part.room;
    }
