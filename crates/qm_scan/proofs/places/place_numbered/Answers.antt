use Rattle.std.proofs.Common.{rules, nat_cmp}
use Rattle.std.specs.Cmp.{nat_cmp_total}
use Rattle.qm_keyed.proofs.Mapped.{order_unmapped, place_mapped}
use Rattle.qm_keyed.proofs.Searches.{place_from_clause}
use Rattle.qm_scan.proofs.Boxed.{value_of, number_of}
use Rattle.qm_scan.proofs.places.place_numbered.Goals as goal

-- the closure compares numbers
pub returns : goal.returns
returns c =
    place_mapped nat_cmp value_of number_of c.args.entries.now c.args.number c.binary_search_by.result
    (place_from_clause nat_cmp_total (λ b. number_of (value_of b)) c.args.number c.args.entries.now (order_unmapped nat_cmp value_of number_of c.args.entries.now c.requires)
    c.binary_search_by.result c.binary_search_by.ensures.bound c.binary_search_by.ensures.position
    (λ a q f called. search rules))
