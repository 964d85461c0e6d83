use Rattle.std.proofs.Common.{arith}
use Rattle.qm_tables.specs.Boxed.{contents}
use Rattle.qm_tables.specs.Changes.{changed_by}
use Rattle.qm_tables.proofs.Boxes.{contents_length}
use Rattle.qm_tables.proofs.SideBySide.{tags_changed}
use Rattle.qm_tables.proofs.entries.tagged.Tagged.change_at.Goals as goal

pub invariant_of-self : goal.invariant_of-self
invariant_of-self c =
    let boxes = c.args.self.now.boxes in
    record {
      side_by_side = omega (arith, c.change_at.ensures.len, c.retag_at.ensures.len, c.args.self.now.side_by_side);
      tagged = tags_changed (changed_by c.args.change.now) (contents boxes.items) (contents c.change_at.new.boxes.items) c.args.self.now.tags.items c.retag_at.new.tags.items c.args.place
          (omega (arith, c.requires, boxes.ok, contents_length boxes.items)) c.args.self.now.tagged c.change_at.ensures.contents (λ d. rw (← c.deref.ensures.value) (c.retag_at.ensures.tags d));
    }
