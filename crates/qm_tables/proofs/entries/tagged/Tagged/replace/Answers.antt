use Rattle.std.proofs.Common.{arith}
use Rattle.qm_tables.specs.Boxed.{contents}
use Rattle.qm_tables.proofs.Boxes.{contents_length}
use Rattle.qm_tables.proofs.SideBySide.{tags_set}
use Rattle.qm_tables.proofs.entries.tagged.Tagged.replace.Goals as goal

pub invariant_of-self : goal.invariant_of-self
invariant_of-self c =
    let boxes = c.args.self.now.boxes in
    record {
      side_by_side = omega (arith, c.replace-old.ensures.len, c.retag_at.ensures.len, c.args.self.now.side_by_side);
      tagged = tags_set (contents boxes.items) (contents c.replace-old.new.boxes.items) c.args.self.now.tags.items c.retag_at.new.tags.items c.args.place
          (omega (arith, c.requires, boxes.ok, contents_length boxes.items)) c.args.self.now.tagged (λ d. rw (← c.deref.ensures.value) (c.retag_at.ensures.tags d)) c.args.entry.now c.replace-old.ensures.contents;
    }
