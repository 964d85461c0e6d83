use Rattle.qm_disk.proofs.Noted.{replays_noted, write_follows, joins_noted, others_no_more, others_no_fewer, time_of}
use Rattle.qm_disk.proofs.memory.MemoryDiskDisk.write.Goals as goal

pub invariant_of-self : goal.invariant_of-self
invariant_of-self c =
    record { replays = replays_noted _ c.args.self.now.first c.args.file c.requires.file c.args.self.now.calls.items _ c.args.self.now.changed _ c.args.self.now.replays c.note_write-outcome.ensures.others c.note_write-outcome.ensures.notes }

pub returns-clause-crash : goal.returns-clause-crash
returns-clause-crash c = write_follows c.args.at c.args.bytes.now c.args.self.now.first c.args.file _ _ _ _ c.note_write-outcome.ensures.notes

pub returns-clause-others : goal.returns-clause-others
returns-clause-others c =
    let joins = joins_noted _ c.args.file _ _ _ _ c.note_write-outcome.ensures.notes in
    record {
      reads = c.note_write-outcome.ensures.others;
      no_more = λ f o le other left. others_no_more c.args.self.now.first _ _ c.args.file joins f other o left;
      no_fewer = λ f o le other left. others_no_fewer c.args.self.now.first _ _ c.args.file joins f other o left;
    }

pub returns-clause-time : goal.returns-clause-time
returns-clause-time c =
    let time = time_of c.args.self.now.first _ _ c.args.file (joins_noted _ c.args.file _ _ _ _ c.note_write-outcome.ensures.notes) in
    record { later = time.later; nothing_else = time.nothing_else; keeps = time.keeps }
