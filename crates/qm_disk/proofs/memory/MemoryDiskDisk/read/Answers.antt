use Rattle.std.proofs.Common.{refl}
use Rattle.qm_disk.specs.declared.calls.Change.TheVariants.{Look}
use Rattle.qm_disk.proofs.Noted.{may_join, quiet_replays, quiet_no_more, quiet_no_fewer, time_of}
use Rattle.qm_disk.proofs.memory.MemoryDiskDisk.read.Goals as goal

pub invariant_of-self : goal.invariant_of-self
invariant_of-self c =
    record { replays = quiet_replays c.args.self.now.first c.args.file c.requires.file Look c.args.self.now.calls.items c.note_look.new.calls.items c.args.self.now.changed (λ l. refl) c.args.self.now.replays c.note_look.ensures.notes }

pub returns-in_err-counted-clause-kept : goal.returns-in_err-counted-clause-kept
returns-in_err-counted-clause-kept c = record {
  reads = λ f le. refl;
  no_more = λ f o le left. quiet_no_more c.args.self.now.first c.args.file c.requires.file Look c.args.self.now.calls.items c.note_look.new.calls.items (λ content P d is. is) c.note_look.ensures.notes f o left;
  no_fewer = λ f o le left. quiet_no_fewer c.args.self.now.first c.args.file c.requires.file Look c.args.self.now.calls.items c.note_look.new.calls.items (λ content P d is. is) c.note_look.ensures.notes f o left;
}

pub returns-in_err-counted-clause-time : goal.returns-in_err-counted-clause-time
returns-in_err-counted-clause-time c =
    let time = time_of c.args.self.now.first c.args.self.now.calls.items c.note_look.new.calls.items c.args.file (may_join Look c.args.file _ _ c.note_look.ensures.notes) in
    record { later = time.later; nothing_else = time.nothing_else; keeps = time.keeps }

pub returns-clause-kept : goal.returns-clause-kept
returns-clause-kept c = record {
  reads = λ f le. refl;
  no_more = λ f o le left. quiet_no_more c.args.self.now.first c.args.file c.requires.file Look c.args.self.now.calls.items c.note_look.new.calls.items (λ content P d is. is) c.note_look.ensures.notes f o left;
  no_fewer = λ f o le left. quiet_no_fewer c.args.self.now.first c.args.file c.requires.file Look c.args.self.now.calls.items c.note_look.new.calls.items (λ content P d is. is) c.note_look.ensures.notes f o left;
}

pub returns-clause-time : goal.returns-clause-time
returns-clause-time c =
    let time = time_of c.args.self.now.first c.args.self.now.calls.items c.note_look.new.calls.items c.args.file (may_join Look c.args.file _ _ c.note_look.ensures.notes) in
    record { later = time.later; nothing_else = time.nothing_else; keeps = time.keeps }
