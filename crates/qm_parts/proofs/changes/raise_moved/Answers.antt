use Rattle.std.proofs.Common.{◌≡◌, ◌∙◌, Bool, true, false, not, Some, List, refl, subst, sym}
use Rattle.std.proofs.lemmas.Slice.Eq.{bytes_eq-Decides}
use Rattle.qm_model.specs.Common.{Entry, with_entry}
use Rattle.qm_parts.specs.Rooms.{AreBounds}
use Rattle.qm_parts.proofs.Bounds.{fewer_bounds, raised_bounds}
use Rattle.qm_parts.proofs.Left.{absent_stays}
use Rattle.qm_parts.proofs.Reach.{reach_replaced, reach_same_home}
use Rattle.qm_parts.proofs.changes.raise_moved.Goals as goal

same_if : (b : Bool) → not b ≡ false → b ≡ true
same_if true h = refl
same_if false h = absurd (cc)

pub returns-in_default-clause-bounds : goal.returns-in_default-clause-bounds
returns-in_default-clause-bounds c =
    let t = c.args.tables.now in
    let e : Entry = c.args.entry.now in
    subst (λ (es : List Entry). AreBounds t.queues es c.args.bounds.now.items) (sym (absent_stays e.number (λ x. Some e) t.entries (sym c.in_default.ensures.found))) c.requires.bounds

pub returns-then-ne-clause-bounds : goal.returns-then-ne-clause-bounds
returns-then-ne-clause-bounds c =
    let t = c.args.tables.now in
    let e : Entry = c.args.entry.now in
    raised_bounds t.queues t.entries (with_entry e.number (λ x. Some e) t.entries) e.home c.args.bounds.now.items c.raise_each.new.bounds.items
    (reach_replaced t.queues t.entries e c.entry.ensures.in_order) c.raise_each.ensures.raised c.requires.bounds

pub returns-else-ne-clause-bounds : goal.returns-else-ne-clause-bounds
returns-else-ne-clause-bounds c =
    let t = c.args.tables.now in
    let e : Entry = c.args.entry.now in
    let home = (bytes_eq-Decides c.in-Some.old.now.home e.home).0 (same_if _ (sym c.ne.ensures ∙ c.if-ne.false)) in
    fewer_bounds t.queues t.entries (with_entry e.number (λ x. Some e) t.entries) c.args.bounds.now.items
    (reach_same_home t.queues t.entries e c.entry.ensures.in_order c.in-Some.old.now (sym c.in-Some.ensures.found) home) c.requires.bounds
