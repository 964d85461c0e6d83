use Rattle.std.proofs.Common.{refl, sym, ◌∙◌, subst, Bool, is_ok}
use Rattle.qm_disk.specs.Calls.{Syncs}
use Rattle.qm_disk.proofs.Noted.{on_ok_from, sync_joins, sync_replays, sync_durable, sync_crash, others_no_more, others_no_fewer, time_of}
use Rattle.qm_disk.proofs.memory.MemoryDiskDisk.sync.Goals as goal

pub invariant_of-self : goal.invariant_of-self
invariant_of-self c =
    record { replays = sync_replays c.args.self.now.first c.args.file c.requires c.args.self.now.changed (is_ok c.note_sync.result) _ _ c.args.self.now.replays c.note_sync.ensures.syncs }

pub returns-clause-durable : goal.returns-clause-durable
returns-clause-durable c = on_ok_from c.counted.result _ (λ held.
    sync_durable c.args.self.now.first c.args.file c.requires c.args.self.now.changed _ _ c.args.self.now.replays
    (subst (λ (b : Bool). Syncs c.args.file b c.args.self.now.calls.items c.note_sync.new.calls.items) (sym c.counted.ensures.variant ∙ held) c.note_sync.ensures.syncs))

pub returns-clause-crash : goal.returns-clause-crash
returns-clause-crash c =
    sync_crash c.args.self.now.first c.args.file c.requires c.args.self.now.changed (is_ok c.note_sync.result) _ _ c.args.self.now.replays c.note_sync.ensures.syncs

pub returns-clause-others : goal.returns-clause-others
returns-clause-others c =
    let joins = sync_joins c.args.self.now.first c.args.file c.requires c.args.self.now.changed (is_ok c.note_sync.result) _ _ c.note_sync.ensures.syncs in
    record {
      reads = λ f le other. refl;
      no_more = λ f o le other left. others_no_more c.args.self.now.first _ _ c.args.file joins f other o left;
      no_fewer = λ f o le other left. others_no_fewer c.args.self.now.first _ _ c.args.file joins f other o left;
    }

pub returns-clause-time : goal.returns-clause-time
returns-clause-time c =
    let joins = sync_joins c.args.self.now.first c.args.file c.requires c.args.self.now.changed (is_ok c.note_sync.result) _ _ c.note_sync.ensures.syncs in
    let time = time_of c.args.self.now.first _ _ c.args.file joins in
    record { later = time.later; nothing_else = time.nothing_else; keeps = time.keeps }
