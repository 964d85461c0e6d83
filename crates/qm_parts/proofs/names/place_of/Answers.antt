use Rattle.std.proofs.Common.{rules}
use Rattle.std.specs.Cmp.Lexicographic.{nat_list_cmp_total}
use Rattle.qm_keyed.proofs.Searches.{place_from_clause}
use Rattle.qm_tables.proofs.QueueNames.{name_of}
use Rattle.qm_parts.proofs.names.place_of.Goals as goal

-- the closure compares names
pub returns : goal.returns
returns c =
    place_from_clause nat_list_cmp_total name_of c.args.name.now c.args.queues.now c.requires c.binary_search_by.result c.binary_search_by.ensures.bound c.binary_search_by.ensures.position
    (λ a q f called. search rules)
