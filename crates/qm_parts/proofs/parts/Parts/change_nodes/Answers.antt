use Rattle.qm_parts.proofs.KeptRows.{kept_by, enough_for, room_for, seen_as}
use Rattle.qm_parts.proofs.Reach.{all_stay}
use Rattle.qm_parts.specs.Nodes.{changed_node}
use Rattle.qm_parts.specs.Tables.{Tables}
use Rattle.std.proofs.Common.{ap, arith, map, refl}
use Rattle.qm_parts.proofs.parts.Parts.change_nodes.Goals as goal

pub refill_all-requires-clause-enough : goal.refill_all-requires-clause-enough
refill_all-requires-clause-enough c =
    enough_for c.self.inside.tables c.self.inside.rows.items c.self.inside.bounds.items c.self.inside.queue_room c.self.invariant c.change_nodes.new.self
    (all_stay c.self.inside.tables c.change_nodes.new.self (ap (λ (t : Tables). t.queues) c.change_nodes.ensures) (ap (λ (t : Tables). t.entries) c.change_nodes.ensures))

pub refill_all-requires-clause-room : goal.refill_all-requires-clause-room
refill_all-requires-clause-room c =
    room_for c.self.inside.tables c.self.inside.rows.items c.self.inside.bounds.items c.self.inside.queue_room c.self.invariant c.change_nodes.new.self
    (all_stay c.self.inside.tables c.change_nodes.new.self (ap (λ (t : Tables). t.queues) c.change_nodes.ensures) (ap (λ (t : Tables). t.entries) c.change_nodes.ensures))

pub invariant_of-self : goal.invariant_of-self
invariant_of-self c =
    kept_by c.self.inside.tables c.self.inside.rows.items c.self.inside.bounds.items c.self.inside.queue_room c.self.invariant c.change_nodes.new.self
    (all_stay c.self.inside.tables c.change_nodes.new.self (ap (λ (t : Tables). t.queues) c.change_nodes.ensures) (ap (λ (t : Tables). t.entries) c.change_nodes.ensures))
    c.refill_all.new.rows.items
    (omega (arith, c.self.invariant.queues, ap (λ (t : Tables). t.spare_queues) c.change_nodes.ensures)) c.refill_all.ensures.count c.refill_all.ensures.room
    c.refill_all.ensures.ready

pub returns : goal.returns
returns c =
    seen_as (λ (t : Tables). record t { nodes = map (changed_node c.args.change.now) t.nodes }) c.change_nodes.new.self c.self.inside.tables c.args.self.now c.self.inside.queue_room c.self.inside.rows.items c.refill_all.new.rows.items
    c.change_nodes.ensures c.refill_all.ensures.room c.self.view_is (λ t n rooms. refl)
