use Rattle.std.proofs.Common.{ℕ, List, ap, subst, OnOk}
use Rattle.qm_parts.specs.Rooms.{HasRoomWhere, is_one_of, rooms_of}
use Rattle.qm_parts.specs.Tables.{Tables}
use Rattle.qm_parts.proofs.KeptRows.{kept_wider}
use Rattle.qm_parts.proofs.parts.Parts.widen_targets.Goals as goal

pub invariant_of-self : goal.invariant_of-self
invariant_of-self c =
    kept_wider c.self.inside.tables c.self.inside.rows.items c.widen_each.new.rows.items c.self.inside.bounds.items c.widen_each.new.bounds.items c.self.inside.queue_room c.self.invariant c.widen_each.ensures.same c.widen_each.ensures.bounded c.widen_each.ensures.bounds

pub returns-clause-places : goal.returns-clause-places
returns-clause-places c =
    subst (λ (ts : List (List ℕ)). OnOk c.widen_each.result (HasRoomWhere (is_one_of c.args.queue.now.name ts) c.args.more c.self.inside.tables c.widen_each.new.rows.items)) c.as_slice.ensures c.widen_each.ensures.places

pub returns-clause-tables : goal.returns-clause-tables
returns-clause-tables c = ap (λ (t : Tables). record t { rooms = rooms_of c.widen_each.new.rows.items }) c.self.view_is
