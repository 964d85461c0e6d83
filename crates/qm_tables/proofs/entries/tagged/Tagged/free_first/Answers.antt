use Rattle.std.proofs.Common.{◌∙◌, drop, ap, sym, arith}
use Rattle.std.proofs.lemmas.List.{drop-map}
use Rattle.qm_tables.specs.Boxed.{contents}
use Rattle.qm_tables.specs.Tags.{tags_of}
use Rattle.qm_tables.proofs.Boxes.{value_of}
use Rattle.qm_tables.proofs.SideBySide.{tags_behind}
use Rattle.qm_tables.proofs.entries.tagged.Tagged.free_first.Goals as goal

pub invariant_of-self : goal.invariant_of-self
invariant_of-self c =
    let boxes = c.args.self.now.boxes.items in
    record {
      side_by_side = omega (arith, c.free_first.ensures.len, c.free_first-2.ensures.len, c.args.self.now.side_by_side);
      tagged =
          c.free_first-2.ensures.items
          ∙ ap (drop c.args.count) c.args.self.now.tagged
          ∙ tags_behind (contents boxes) c.args.count
          ∙ ap tags_of (drop-map value_of c.args.count boxes)
          ∙ sym (ap (λ bs. tags_of (contents bs)) c.free_first.ensures.items);
    }
