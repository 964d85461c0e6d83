-- What the turns of a site's nodes leave of it.
-- OpenVMS System Manager's Manual, Managing the Queue Manager and Queue Database. This site's own: turns and their notes.
use Rattle.std.specs.Prelude.{◌≡◌, ◌≤◌, ℕ, IsTrue, List, length, sum_by}
use Rattle.qm_node.specs.Sides.{Side}
use Rattle.qm_history.specs.Common.{Meaning, Note, turns_kept, unread_of, NodeText, UserLine}
use Rattle.qm_cluster.specs.Driving.{hidden_by}
use Rattle.qm_history.specs.declared.world.World.{World}
use Rattle.qm_cluster.specs.AllTurns.{AreFull, NoneDamaged}
use Rattle.qm_cluster.specs.Served.{AllHaveServed}
use Rattle.qm_chest.specs.Opening.{MayBegin}
use Rattle.qm_chest.specs.At.{chest_disk, chest_turns}
use Rattle.qm_chest.specs.declared.chest.Chest.{Chest}
use Rattle.qm_serving.specs.SiteStanding.{HasStood}
use Rattle.qm_symb.specs.Device as symb

-- Nodes of these names made their turns for these lines on a site, and these are their ends and texts. The site stands for the notes of
-- their calls; more turns can't be kept where a node ended so; no more calls hide a disk that failed than ends tell; and where the disks
-- tell, no file was told as damaged, and in each world with which a program can begin there each node did what its lines ask for.
pub record HaveRun {D Y : Type 0} (m : Meaning D) (y : symb.Meaning Y) (names : List (List ℕ)) (lines : List (List UserLine)) (old new : Chest D) (left : List NodeText) (was now : List (Side Y)) : Type 0 where
  pub notes : List Note
  pub stood : HasStood m (chest_disk old) names new notes
  pub count : length left ≡ length names
  pub full : AreFull turns_kept (chest_turns new) left
  pub hidden : unread_of notes ≤ sum_by (λ (at : NodeText). hidden_by at.end) left
  pub undamaged : IsTrue m.tells → NoneDamaged left
  pub served : IsTrue m.tells → (w : World) → MayBegin m (chest_disk old) w → AllHaveServed y w (chest_turns new) names lines left was now
