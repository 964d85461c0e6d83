-- What nodes leave of a site that they shared.
use Rattle.std.proofs.Common.{◌≡◌, ℕ, IsTrue, List, [], ◌∷◌, refl, sym, ap, subst}
use Rattle.qm_acting.specs.Spare.{KeepsSpare}
use Rattle.qm_chest.specs.Noting.{chest_told}
use Rattle.qm_node.specs.Taken.{RoseBy}
use Rattle.qm_history.specs.Common.{Meaning, Note, unread_of, IsLegal}
use Rattle.qm_history.specs.declared.world.World.{World}
use Rattle.qm_history.proofs.NotedLemmas.{noted_legal}
use Rattle.qm_chest.specs.Opening.{IsOpened, MayBegin}
use Rattle.qm_chest.specs.At.{chest_disk, chest_turns}
use Rattle.qm_chest.specs.declared.chest.Chest.{Chest}
use Rattle.qm_serving.specs.SiteServing.{ServesNodes, ServesNodesIn}
use Rattle.qm_serving.specs.SiteStanding.{HasNotedIn, HasStood}
use Rattle.qm_serving.proofs.Opened.{begins_behind}

module _ {D : Type 0} (m : Meaning D) (disk : D) (chest then : Chest D) (names : List (List ℕ)) (notes : List Note) (opened : IsOpened m disk chest)
    (stood : HasStood m (chest_disk chest) names then notes)
  where
    left_in : (sure : IsTrue m.tells) (w : World) → HasNotedIn m w (chest_disk chest) then stood.failed notes → ServesNodesIn m w (chest_disk chest) (chest_disk then) (chest_turns then)
    left_in sure w in_it = record {
      legal = subst (IsLegal w) (sym in_it.since.stands.turns) (noted_legal notes w (in_it.since.stands.stands sure).noted);
      noted = record {
        first = in_it.first;
        begins = in_it.begins;
        on = in_it.on;
        last = chest_told then stood.failed;
        notes = notes;
        calls = in_it.calls;
        stands = in_it.since.stands;
        disk_is = refl;
        turns_are = refl;
      };
    }

    pub nodes_left : ServesNodes m disk (chest_disk chest) (chest_disk then) (chest_turns then) (unread_of notes)
    nodes_left = record {
      few = stood.few;
      failed = record { failed = stood.failed; told = stood.told; rose = stood.rose };
      spare = stood.spare;
      within = λ sure w may. left_in sure w (stood.within sure w (begins_behind m disk chest opened w may));
    }
