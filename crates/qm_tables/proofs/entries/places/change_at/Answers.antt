use Rattle.std.proofs.Common.{◌<◌, length, set, ap, ◌∙◌, arith}
use Rattle.std.specs.Box.{with_value}
use Rattle.qm_kinds.specs.declared.entry.Entry.{Entry}
use Rattle.qm_tables.specs.Boxed.{contents}
use Rattle.qm_tables.specs.Changes.{changed_by}
use Rattle.qm_tables.proofs.Boxes.{contents_changed}
use Rattle.qm_tables.proofs.entries.places.change_at.Goals as goal

-- the entry that was read is written back changed
pub returns-clause-contents : goal.returns-clause-contents
returns-clause-contents c = λ d.
    let within : c.args.place < length c.args.boxes.now.items = omega (arith, c.requires, c.args.boxes.now.ok) in
    ap (λ (e : Entry). contents (set c.args.boxes.now.items c.args.place (with_value c.index_mut.result.now e))) c.set.ensures
    ∙ contents_changed c.args.boxes.now.items (changed_by c.args.change.now) c.args.place c.index_mut.result.now c.as_mut.result.now within c.index_mut.ensures.value c.as_mut.ensures.value d
