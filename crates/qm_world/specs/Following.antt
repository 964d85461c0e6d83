-- What is made of a request that may come next.
use Rattle.std.specs.Prelude.{◌≡◌, ℕ, List, Result, Ok, Err}
use Rattle.qm_history.specs.Common.{Request, Took, System, applied, request_record, CanFollow, NamesNodes}
use Rattle.qm_history.specs.declared.world.World.{World}
use Rattle.qm_image.specs.declared.image.Image.{Image}
use Rattle.qm_image.specs.Preparing.{made, IsPrepared}
use Rattle.qm_world.specs.declared.end.Stop.{Stop}
use Rattle.qm_world.specs.declared.end.Stop.TheVariants.{Illegal, NoMemory}
use Rattle.qm_world.specs.declared.following.Followed.{Followed}
use Rattle.qm_world.specs.declared.following.Next.{Next}

-- the request can follow, this is its record, and its change was prepared
pub record IsNextOf (s : System) (image : Image) (moment node : ℕ) (asked : Request) (next : Next) : Type 0 where
  pub follows : CanFollow s moment node asked
  pub record_is : next.record ≡ request_record moment node asked
  pub ready : IsPrepared image next.prepared
  pub accepted : applied s moment node asked ≡ Ok (made next.prepared s)

-- a request was judged: it can follow, or it can't
abbrev pub IsJudged : System → Image → ℕ → ℕ → Request → Result Next Stop → Type 0
IsJudged s image moment node asked (Ok next) = IsNextOf s image moment node asked next
IsJudged s image moment node asked (Err Illegal) = CanFollow s moment node asked → ⊥
IsJudged s image moment node asked (Err NoMemory) = Unit {0}

-- the request can follow, this is its record, and this is what it was replied and left
pub record HasFollowed (s t : System) (moment node : ℕ) (asked : Request) (followed : Followed) : Type 0 where
  pub follows : CanFollow s moment node asked
  pub record_is : followed.record ≡ request_record moment node asked
  pub accepted : applied s moment node asked ≡ Ok (record { system = t; reply = followed.reply })

-- a request was done, or it can't follow
abbrev pub IsFollowed : System → System → ℕ → ℕ → Request → Result Followed Stop → Type 0
IsFollowed s t moment node asked (Ok followed) = HasFollowed s t moment node asked followed
IsFollowed s t moment node asked (Err Illegal) = CanFollow s moment node asked → ⊥
IsFollowed s t moment node asked (Err NoMemory) = Unit {0}

-- A takeover was recorded in a world whose log was read: its lists are right, and its record can follow; or one of these isn't so.
abbrev pub IsTaken : World → System → System → ℕ → ℕ → ℕ → List (List ℕ) → List (List ℕ) → List (List ℕ) → Result Followed Stop → Type 0
IsTaken w s t node moment epoch gone up may (Ok followed) =
    NamesNodes w s node gone up may × HasFollowed s t moment node (Took epoch gone up may) followed
IsTaken w s t node moment epoch gone up may (Err Illegal) =
    NamesNodes w s node gone up may → CanFollow s moment node (Took epoch gone up may) → ⊥
IsTaken w s t node moment epoch gone up may (Err NoMemory) = Unit {0}
