use Rattle.std.proofs.Common.{rules}
use Rattle.qm_keyed.proofs.Searches.{place_from_clause}
use Rattle.qm_tables.specs.declared.spool.spooled.Spooled.{Spooled}
use Rattle.qm_tables.proofs.FileNames.{file_names_total}
use Rattle.qm_tables.proofs.spool.place.place_of.Goals as goal

-- the closure compares names
pub returns : goal.returns
returns c =
    place_from_clause file_names_total (λ (f : Spooled). f.name) c.args.name.now c.args.files.now c.requires c.binary_search_by.result c.binary_search_by.ensures.bound c.binary_search_by.ensures.position
    (λ a q f called. search rules)
