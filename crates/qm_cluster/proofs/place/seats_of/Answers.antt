use Rattle.std.proofs.Common.{◌<◌, ◌++◌, ◌∙◌, length, map, ap, rules}
use Rattle.qm_history.specs.Ends.{Ended}
use Rattle.qm_cluster.specs.Through.{first_at, is_at}
use Rattle.qm_cluster.proofs.Sequences.{moved_on, taken_first}
use Rattle.qm_cluster.proofs.place.seats_of.Goals as goal

pub passes-preserved : goal.passes-preserved
passes-preserved g c =
    let some : 0 < length c.passes.passes.items = search rules in (
      ap (λ l. map is_at l ++ map first_at c.remove.new.self.items) c.push_reserved.ensures.items
          ∙ moved_on is_at first_at c.passes.seats.items c.passes.passes.items c.remove.new.self.items _ c.remove.result
          (taken_first c.passes.passes.items c.remove.new.self.items c.remove.result some c.remove.ensures.value c.remove.ensures.by_index.2)
          (ap (λ t. record { known = c.remove.result; end = Ended; text = t.taken }) c.new-in-passes.ensures)
          ∙ c.passes.invariant.0,
      search rules,
    )
