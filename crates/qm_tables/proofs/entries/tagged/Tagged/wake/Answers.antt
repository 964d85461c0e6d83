use Rattle.std.proofs.Common.{◌≡◌, ◌∙◌, ◌++◌, length, map, take, drop, ap, sym, arith}
use Rattle.qm_model.specs.Due.{entry_at}
use Rattle.qm_tables.specs.Boxed.{contents}
use Rattle.qm_tables.specs.Tags.{tags_of}
use Rattle.qm_tables.proofs.SideBySide.{tags_woken, written_back}
use Rattle.qm_tables.proofs.entries.tagged.Tagged.wake.Goals as goal

pub invariant_of-self : goal.invariant_of-self
invariant_of-self c =
    let boxes = c.args.self.now.boxes in
    let here : contents (take boxes.len (c.wake.new.boxes ++ drop (length c.wake.new.boxes) boxes.items)) ≡ map (entry_at c.args.now) (contents boxes.items) =
    ap contents (written_back boxes.len c.wake.new.boxes _ (omega (arith, c.wake.auto.boxes, c.as_mut_slice.ensures.len)))
    ∙ c.wake.ensures
    ∙ ap (λ bs. map (entry_at c.args.now) (contents bs)) c.as_mut_slice.ensures.value in
    record {
      side_by_side = c.args.self.now.side_by_side;
      tagged = c.args.self.now.tagged ∙ sym (tags_woken (contents boxes.items) c.args.now) ∙ ap tags_of (sym here);
    }
