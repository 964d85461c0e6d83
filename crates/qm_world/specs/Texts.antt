-- What a queue file has of a world.
use Rattle.std.specs.Prelude.{◌≡◌, ℕ, List, length, map, Vec}
use Rattle.std.specs.declared.alloc.Global.{Global}
use Rattle.qm_kinds.specs.declared.system.System.{System}
use Rattle.qm_restore.specs.QueueFile.{IsSiteFile}

-- the bytes of several vectors
abbrev pub texts : List (Vec ℕ Global) → List (List ℕ)
texts spelled = map (λ (text : Vec ℕ Global). text.items) spelled

-- the records are those of a site with so many nodes
pub record AreOfSite (bodies : List (List ℕ)) (nodes : ℕ) : Type 0 where
  pub system : System
  pub is : IsSiteFile bodies system
  pub count : nodes ≡ length system.nodes
