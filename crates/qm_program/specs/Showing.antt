-- What the listing of a site leaves, by its end.
-- DCL Dictionary, SHOW QUEUE.
use Rattle.std.specs.Prelude.{◌≡◌, ℕ, List, Option}
use Rattle.std.specs.Io.KnownBytes.{Appends}
use Rattle.qm_history.specs.Common.{Meaning, OnlyLooks, TakesPrefix}
use Rattle.qm_listing.specs.Listing.{IsListingOf}
use Rattle.qm_program.specs.declared.outcome.End.{End}
use Rattle.qm_program.specs.declared.outcome.End.TheVariants as ends

module _ {D : Type 0} (m : Meaning D) where
  -- What the sink took of the listing of the site on the disk: at Ok all of it, at Write a front, and else nothing.
  abbrev pub ShowsTo : D → Option (List ℕ) → Option (List ℕ) → End → Type 0
  ShowsTo disk taken now ends.Ok = (text : List ℕ) × IsListingOf m disk text × Appends taken now text
  ShowsTo disk taken now ends.Write = (text : List ℕ) × IsListingOf m disk text × TakesPrefix taken now text
  ShowsTo disk taken now ends.Journal = now ≡ taken
  ShowsTo disk taken now (ends.Unformatted byte) = now ≡ taken
  ShowsTo disk taken now (ends.Damaged file place) = now ≡ taken
  ShowsTo disk taken now ends.NoMemory = now ≡ taken
  ShowsTo disk taken now ends.Usage = ⊥
  ShowsTo disk taken now ends.Read = ⊥
  ShowsTo disk taken now (ends.Script line kind) = ⊥
  ShowsTo disk taken now ends.HistoryFull = ⊥

  -- The files are only looked at.
  pub record Shows (old new : D) (taken now : Option (List ℕ)) (end : End) : Type 0 where
    pub leaves : ShowsTo old taken now end
    pub looks : OnlyLooks m old new
