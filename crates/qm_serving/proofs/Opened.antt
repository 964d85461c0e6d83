-- A site that was just opened.
use Rattle.std.proofs.Common.{◌≡◌, ℕ, ◌<◌, ◌≤◌, ◌^◌, Bool, true, false, IsTrue, List, [], length, refl, sym, ◌∙◌, ap, subst, arith, slice_get, unwrap_or}
use Rattle.qm_acting.proofs.Spare.{keeps_same}
use Rattle.qm_chest.specs.Noting.{StandsSince, chest_told}
use Rattle.qm_history.specs.Common.{Meaning, turns_kept, faults_told, IsSound, is_live}
use Rattle.qm_history.specs.declared.world.World.{World}
use Rattle.qm_chest.specs.Opening.{IsOpened, MayBegin}
use Rattle.qm_chest.specs.At.{chest_disk, chest_names, chest_turns}
use Rattle.qm_chest.specs.Manager.{StandsAt}
use Rattle.qm_chest.specs.declared.chest.Chest.{Chest}
use Rattle.qm_chest.proofs.SiteOpened.{first_live, starts_moved}
use Rattle.qm_serving.specs.SiteStanding.{HasNotedIn, HasStood}

module _ {D : Type 0} (m : Meaning D) (disk : D) (chest : Chest D) (opened : IsOpened m disk chest) where
  -- the device is read as it was before, and no call of it failed
  pub begins_behind : (w : World) → MayBegin m disk w → MayBegin m (chest_disk chest) w
  begins_behind w may =
      record { starts = starts_moved (m.seen disk) (m.seen (chest_disk chest)) opened.looks.reads w may.starts; counted = subst (λ (n : ℕ). n < 2 ^ 64) (sym opened.quiet) may.counted }

  pub begins_before : (w : World) → MayBegin m (chest_disk chest) w → MayBegin m disk w
  begins_before w may =
      record {
        starts = starts_moved (m.seen (chest_disk chest)) (m.seen disk) (λ f few. sym (opened.looks.reads f few)) w may.starts;
        counted = subst (λ (n : ℕ). n < 2 ^ 64) opened.quiet may.counted;
      }

  -- a world for which it stands is sound, and each node is live there
  pub sound_live : (w : World) → StandsAt m w chest → (node : ℕ) → node < length (chest_names chest) → IsSound w × (is_live w node ≡ true)
  sound_live w stands node less =
      let first = opened.begins stands.tells in
      let at = opened.at stands.tells first.0 first.1 in
      let live : is_live first.0 node ≡ true =
      first_live (m.seen disk) first.0 first.1.starts node (subst (λ (names : List (List ℕ)). node < length names) (sym (opened.names stands.tells first.0 first.1)) less) in
      (stands.at.sound, ap (λ (l : List Bool). unwrap_or (slice_get l node) false) (sym stands.at.state.members.live ∙ at.state.members.live) ∙ live)

  noted_first : IsTrue m.tells → (w : World) → MayBegin m (chest_disk chest) w → HasNotedIn m w (chest_disk chest) chest 0 []
  noted_first sure w begins =
      let since : StandsSince m opened.cap w (chest_disk chest) chest 0 [] = opened.stands sure w (begins_before w begins) in
      record { cap = opened.cap; first = chest_told chest 0; begins = since.stands; on = refl; calls = refl; since = since }

  pub stands_first : HasStood m (chest_disk chest) (chest_names chest) chest []
  stands_first = record {
    serving = opened.fresh.serving;
    names_are = refl;
    few = let none : length (chest_turns chest) ≡ 0 = ap length opened.fresh.turns in omega (arith, none);
    failed = 0;
    told = ap faults_told opened.fresh.turns;
    rose = refl;
    spare = λ sure. keeps_same m (chest_disk chest);
    within = noted_first;
  }
