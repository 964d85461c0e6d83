use Rattle.std.proofs.Common.{◌∙◌, ap, sym, arith, remove}
use Rattle.qm_tables.specs.Boxed.{contents}
use Rattle.qm_tables.specs.Tags.{tags_of}
use Rattle.qm_tables.proofs.SideBySide.{tags_removed}
use Rattle.qm_tables.proofs.entries.tagged.Tagged.take.Goals as goal

pub invariant_of-self : goal.invariant_of-self
invariant_of-self c = record {
  side_by_side = omega (arith, c.take.ensures.len, c.remove.ensures.len, c.args.self.now.side_by_side);
  tagged =
      c.remove.ensures.items
      ∙ ap (λ ts. remove ts c.args.place) c.args.self.now.tagged
      ∙ tags_removed (contents c.args.self.now.boxes.items) c.args.place
      ∙ ap tags_of (sym c.take.ensures.contents);
}
