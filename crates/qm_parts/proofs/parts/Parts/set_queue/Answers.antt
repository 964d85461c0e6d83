use Rattle.qm_tables.specs.Settings.{with_settings_and_state}
use Rattle.qm_parts.proofs.KeptRows.{kept_by, enough_for, room_for}
use Rattle.qm_parts.proofs.OneQueue.{one_changed, one_name, one_targets}
use Rattle.qm_parts.proofs.Reach.{queues_stay}
use Rattle.qm_parts.specs.Tables.{Tables}
use Rattle.std.proofs.Common.{ap, arith, refl}
use Rattle.qm_parts.proofs.parts.Parts.set_queue.Goals as goal

pub refill_for-requires-clause-enough : goal.refill_for-requires-clause-enough
refill_for-requires-clause-enough c =
    enough_for c.self.inside.tables c.self.inside.rows.items c.self.inside.bounds.items c.self.inside.queue_room c.self.invariant c.set_queue.new.self
    (queues_stay (one_changed c.args.name.now (with_settings_and_state c.args.settings.now c.args.state)) (one_name c.args.name.now (with_settings_and_state c.args.settings.now c.args.state) (record { name = λ q. refl; kind = λ q. refl; targets = λ q. refl })) (one_targets c.args.name.now (with_settings_and_state c.args.settings.now c.args.state) (record { name = λ q. refl; kind = λ q. refl; targets = λ q. refl })) c.self.inside.tables c.set_queue.new.self (ap (λ (t : Tables). t.queues) c.set_queue.ensures) (ap (λ (t : Tables). t.entries) c.set_queue.ensures))

pub refill_for-requires-clause-room : goal.refill_for-requires-clause-room
refill_for-requires-clause-room c =
    room_for c.self.inside.tables c.self.inside.rows.items c.self.inside.bounds.items c.self.inside.queue_room c.self.invariant c.set_queue.new.self
    (queues_stay (one_changed c.args.name.now (with_settings_and_state c.args.settings.now c.args.state)) (one_name c.args.name.now (with_settings_and_state c.args.settings.now c.args.state) (record { name = λ q. refl; kind = λ q. refl; targets = λ q. refl })) (one_targets c.args.name.now (with_settings_and_state c.args.settings.now c.args.state) (record { name = λ q. refl; kind = λ q. refl; targets = λ q. refl })) c.self.inside.tables c.set_queue.new.self (ap (λ (t : Tables). t.queues) c.set_queue.ensures) (ap (λ (t : Tables). t.entries) c.set_queue.ensures))

pub invariant_of-self : goal.invariant_of-self
invariant_of-self c =
    kept_by c.self.inside.tables c.self.inside.rows.items c.self.inside.bounds.items c.self.inside.queue_room c.self.invariant c.set_queue.new.self
    (queues_stay (one_changed c.args.name.now (with_settings_and_state c.args.settings.now c.args.state)) (one_name c.args.name.now (with_settings_and_state c.args.settings.now c.args.state) (record { name = λ q. refl; kind = λ q. refl; targets = λ q. refl })) (one_targets c.args.name.now (with_settings_and_state c.args.settings.now c.args.state) (record { name = λ q. refl; kind = λ q. refl; targets = λ q. refl })) c.self.inside.tables c.set_queue.new.self (ap (λ (t : Tables). t.queues) c.set_queue.ensures) (ap (λ (t : Tables). t.entries) c.set_queue.ensures))
    c.refill_for.new.rows.items
    (omega (arith, c.self.invariant.queues, ap (λ (t : Tables). t.spare_queues) c.set_queue.ensures)) c.refill_for.ensures.count c.refill_for.ensures.room
    (c.refill_for.ensures.ready c.self.inside.tables (with_settings_and_state c.args.settings.now c.args.state) (record { name = λ q. refl; kind = λ q. refl; targets = λ q. refl }) c.set_queue.ensures c.self.invariant.ready)
