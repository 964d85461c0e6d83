-- What the values show that own the files.
use Rattle.std.specs.Prelude.{◌≡◌, ℕ, List, slice_get, Some}
use Rattle.qm_glog.specs.Log.{spare_of as spare_in}
use Rattle.qm_store.specs.Files.{recorded_in}
use Rattle.qm_store.specs.Recorded.{Recorded}
use Rattle.qm_store.specs.declared.closed.Closed.{Closed}
use Rattle.qm_store.specs.declared.loaded.Loaded.{Loaded}
use Rattle.qm_store.specs.declared.opened.Open.{Open}

-- the device of a closed database
abbrev pub disk_of : {D : Type 0} → Closed D → D
disk_of closed = closed.disk

-- of one that was read
abbrev pub loaded_disk : {D : Type 0} → Loaded D → D
loaded_disk loaded = loaded.disk

abbrev pub loaded_record : {D : Type 0} → Loaded D → Recorded
loaded_record loaded = recorded_in loaded.files

-- one more than the bytes of the longest body for which it has memory, or 0 where it has none
abbrev pub loaded_spare : {D : Type 0} → Loaded D → ℕ
loaded_spare loaded = spare_in loaded.files.queue

-- and of an open one
abbrev pub open_disk : {D : Type 0} → Open D → D
open_disk open_ = open_.disk

abbrev pub open_record : {D : Type 0} → Open D → Recorded
open_record open_ = recorded_in open_.files

-- one more than the bytes of the longest body for which an append has memory, or 0 where it has none
abbrev pub spare_of : {D : Type 0} → Open D → ℕ
spare_of open_ = spare_in open_.files.queue

-- this is so of the body with this index
abbrev pub OfBody : List (List ℕ) → ℕ → (List ℕ → Type 0) → Type 0
OfBody bodies index P = (body : List ℕ) → slice_get bodies index ≡ Some body → P body
