use Rattle.std.proofs.Common.{rules}
use Rattle.qm_keyed.proofs.Searches.{place_from_clause}
use Rattle.qm_keyed.proofs.places.place_of.Goals as goal

-- the closure compares keys
pub returns : goal.returns
returns g c =
    place_from_clause g.met.K.Ord.total g.T.Keyed.key c.args.key.now c.args.rows.now c.requires c.binary_search_by.result c.binary_search_by.ensures.bound c.binary_search_by.ensures.position
    (λ a q f called. search rules)
