-- What the chest works with in a world: a manager at work while one is up, and else the files.
use Rattle.std.specs.Prelude.{◌≡◌, ℕ, Bool, true, false, not, Option, None, Some}
use Rattle.qm_history.specs.Common.{Meaning, Input, system_in}
use Rattle.qm_kinds.specs.declared.input.Input.TheVariants as input
use Rattle.qm_acting.specs.Files.{files_disk, AreSound}
use Rattle.qm_acting.specs.Standing.{standing_of, disk_of, IsReady}
use Rattle.qm_acting.specs.declared.files.Files.{Files}
use Rattle.qm_acting.specs.declared.manager.Manager.{Manager}
use Rattle.qm_store.specs.Recorded.{IsAtRest}
use Rattle.qm_history.specs.declared.world.World.{World}
use Rattle.qm_chest.specs.Holding.{MayHold, AllHold}
use Rattle.qm_chest.specs.declared.work.Work.{Work}
use Rattle.qm_chest.specs.declared.work.Work.TheVariants.{Up, Down}
use Rattle.qm_chest.specs.declared.place.Place.{Place}

-- the device
abbrev pub work_disk : {D : Type 0} → Work D → D
work_disk (Up manager node) = disk_of manager
work_disk (Down files place) = files_disk files

-- a manager at work can be asked, and files that were read are as they were read
abbrev pub IsReadyWork : {D : Type 0} → Meaning D → Work D → Type 0
IsReadyWork m (Up manager node) = IsReady m manager
IsReadyWork m (Down files place) = AreSound m files

-- In this world a manager is up on this node: its image is the world's system, and its files hold the world's log, in the epoch that
-- is the greatest.
pub record IsUp {D : Type 0} (m : Meaning D) (cap : ℕ) (w : World) (manager : Manager D) (node : ℕ) : Type 0 where
  pub role : w.manager ≡ Some (record { node = node; epoch = w.greatest })
  pub sure : w.doubt ≡ None
  pub system : (standing_of manager).system ≡ system_in w
  pub at_rest : IsAtRest m (standing_of manager).recorded (disk_of manager)
  pub may : MayHold cap w None (standing_of manager).recorded
  pub epoch : (standing_of manager).recorded.says.epoch ≡ w.greatest

-- no manager is up, and the files hold a log of the world
pub record IsDown {D : Type 0} (m : Meaning D) (cap : ℕ) (w : World) (files : Files D) (place : Option Place) : Type 0 where
  pub none : w.manager ≡ None
  pub holds : AllHold m (MayHold cap w place) (files_disk files)

abbrev pub IsWorkAt : {D : Type 0} → Meaning D → ℕ → World → Work D → Type 0
IsWorkAt m cap w (Up manager node) = IsUp m cap w manager node
IsWorkAt m cap w (Down files place) = IsDown m cap w files place

-- no manager is up
abbrev pub is_without : {D : Type 0} → Work D → Bool
is_without (Up manager node) = false
is_without (Down files place) = true

-- a takeover comes first: at START/QUEUE/MANAGER, and while no manager is up at each call that needs one
abbrev pub is_due : {D : Type 0} → Work D → Input → Bool
is_due work (input.TakeManager on) = true
is_due work input.StopNode = false
is_due work (input.Fault place kind) = false
is_due work (input.Ask asked) = is_without work
is_due work (input.Show query) = is_without work
is_due work (input.Fetch known) = is_without work
is_due work input.Compact = is_without work
is_due work input.StartNode = is_without work

-- a call that asks for this is a step of the manager, which is up: a request, a listing or a fetch
abbrev pub makes_step : {D : Type 0} → Work D → Input → Bool
makes_step work (input.Ask asked) = not (is_without work)
makes_step work (input.Show query) = not (is_without work)
makes_step work (input.Fetch known) = not (is_without work)
makes_step work input.Compact = false
makes_step work (input.TakeManager on) = false
makes_step work input.StartNode = false
makes_step work input.StopNode = false
makes_step work (input.Fault place kind) = false
