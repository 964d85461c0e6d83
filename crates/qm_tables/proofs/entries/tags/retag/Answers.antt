use Rattle.std.proofs.Common.{◌≡◌, ◌∙◌, List, get_or, ap, arith, sym}
use Rattle.std.proofs.lemmas.List.{length-map, get_or-map}
use Rattle.qm_kinds.specs.declared.entry.Entry.{Entry}
use Rattle.qm_tables.specs.Boxed.{contents}
use Rattle.qm_tables.proofs.Boxes.{value_of}
use Rattle.qm_tables.proofs.SideBySide.{tags_more}
use Rattle.qm_tables.proofs.entries.tags.retag.Goals as goal

pub loop-boxed-preserved : goal.loop-boxed-preserved
loop-boxed-preserved c =
    let es : List Entry = contents c.args.boxes.now in
    let i = c.loop-boxed.boxed-index in
    let e : Entry = c.deref.result.now in
    let read : e ≡ get_or es i e = c.deref.ensures ∙ ap value_of c.boxed-item.is ∙ sym (get_or-map value_of c.args.boxes.now i c.boxed-item.result e c.loop-boxed-test.true) in
    record {
      tags = c.push_reserved.ensures.items ∙ tags_more es i e c.loop-boxed.tags.items c.home_tag.result (omega (arith, c.loop-boxed-test.true, length-map c.args.boxes.now value_of)) read c.loop-boxed.invariant.tags c.home_tag.ensures;
      len = omega (arith, c.push_reserved.ensures.len, c.loop-boxed.invariant.len);
      capacity = c.push_reserved.ensures.capacity ∙ c.loop-boxed.invariant.capacity;
    }
