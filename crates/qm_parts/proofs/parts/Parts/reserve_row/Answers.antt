use Rattle.std.proofs.Common.{◌++◌, ◌∷◌, [], ℕ, List, None, Option, ap, arith, subst, sym, ◌∙◌}
use Rattle.qm_ready.specs.Rows.{Row}
use Rattle.qm_parts.specs.Ready.{AreKept, AreReady}
use Rattle.qm_parts.specs.Tables.{Tables}
use Rattle.qm_parts.proofs.KeptRows.{kept_behind, kept_for}
use Rattle.qm_parts.proofs.Reach.{all_stay}
use Rattle.qm_parts.proofs.parts.Parts.reserve_row.Goals as goal

pub invariant_of-self : goal.invariant_of-self
invariant_of-self c =
    let is = c.reserve_one.ensures.tables in
    let u = c.reserve_one.new.tables in
    subst (λ (rows : List Row). AreKept u rows c.reserve_one.new.bounds.items c.self.inside.queue_room) (sym c.reserve_one.ensures.rows)
    (subst (λ (most : List (Option ℕ)). AreKept u c.self.inside.rows.items most c.self.inside.queue_room) (sym c.reserve_one.ensures.bounds)
    (kept_for c.self.inside.tables c.self.inside.rows.items c.self.inside.bounds.items c.self.inside.queue_room c.self.invariant u
    (all_stay c.self.inside.tables u (ap (λ (t : Tables). t.queues) is) (ap (λ (t : Tables). t.entries) is))
    (omega (arith, c.self.invariant.queues, c.reserve_one.ensures.no_less)) (subst (λ (t : Tables). AreReady t c.self.inside.rows.items) (sym is) c.self.invariant.ready)))

pub invariant_of-self-2 : goal.invariant_of-self-2
invariant_of-self-2 c =
    let is = c.reserve_one.ensures.tables in
    let u = c.reserve_one.new.tables in
    let row : Row = c.new.result in
    subst (λ (rows : List Row). AreKept u rows c.push_reserved-2.new.self.items 1) (sym (c.push_reserved.ensures.items ∙ ap (λ (rows : List Row). rows ++ row ∷ []) c.reserve_one.ensures.rows))
    (subst (λ (most : List (Option ℕ)). AreKept u (c.self.inside.rows.items ++ row ∷ []) most 1) (sym (c.push_reserved-2.ensures.items ∙ ap (λ (most : List (Option ℕ)). most ++ None ∷ []) c.reserve_one.ensures.bounds))
    (kept_behind u c.self.inside.rows.items c.self.inside.bounds.items c.self.inside.queue_room row
    (kept_for c.self.inside.tables c.self.inside.rows.items c.self.inside.bounds.items c.self.inside.queue_room c.self.invariant u
    (all_stay c.self.inside.tables u (ap (λ (t : Tables). t.queues) is) (ap (λ (t : Tables). t.entries) is))
    (omega (arith, c.self.invariant.queues, c.reserve_one.ensures.no_less)) (subst (λ (t : Tables). AreReady t c.self.inside.rows.items) (sym is) c.self.invariant.ready))
    c.in_ok-reserve_one.ensures.ok))
