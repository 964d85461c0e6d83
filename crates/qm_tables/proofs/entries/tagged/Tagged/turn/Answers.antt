use Rattle.std.proofs.Common.{◌∙◌, ◌++◌, take, drop, ap, sym, arith}
use Rattle.qm_tables.specs.Boxed.{brought, contents}
use Rattle.qm_tables.specs.Tags.{tags_of}
use Rattle.qm_tables.proofs.Behind.{turned_map}
use Rattle.qm_tables.proofs.Boxes.{value_of}
use Rattle.qm_tables.proofs.SideBySide.{tags_turned}
use Rattle.qm_tables.proofs.entries.tagged.Tagged.turn.Goals as goal

pub invariant_of-self : goal.invariant_of-self
invariant_of-self c =
    let g = c.args.first in
    let p = c.args.place in
    let boxes = c.args.self.now.boxes.items in
    record {
      side_by_side = omega (arith, c.turn.ensures.len, c.turn-2.ensures.len, c.args.self.now.side_by_side);
      tagged =
          c.turn-2.ensures.items
          ∙ ap (λ ts. take g ts ++ brought p (drop g ts)) c.args.self.now.tagged
          ∙ tags_turned (contents boxes) g p
          ∙ ap tags_of (sym (turned_map value_of g p boxes))
          ∙ sym (ap (λ bs. tags_of (contents bs)) c.turn.ensures.items);
    }
