use Rattle.std.proofs.Common.{◌≡◌, ◌∙◌, ◌≤◌, length, List, ap, sym, subst, arith}
use Rattle.qm_model.specs.Common.{Entry, IsConsistent}
use Rattle.qm_parts.specs.Tables.{Tables}
use Rattle.qm_tables.specs.SpoolCounts.{CountsOf}
use Rattle.qm_state.proofs.Ready.{ready_found}
use Rattle.qm_state.proofs.Committed.{few_starts, is_done, idle_sound, settled_counts, settled_timers}
use Rattle.qm_image.specs.Timers.{AreTimersOf}
use Rattle.qm_image.specs.Image.{system_of}
use Rattle.qm_image.specs.Preparing.{made}
use Rattle.qm_state.proofs.committing.commit.Goals as goal

pub make-act-requires-clause-sound : goal.make-act-requires-clause-sound
make-act-requires-clause-sound c = subst IsConsistent (sym c.reach.ensures.rows) (c.due_keeps_consistent.ensures.found (system_of c.args.image.now) c.args.prepared.at c.requires.sound)

pub make-act-requires-clause-ready : goal.make-act-requires-clause-ready
make-act-requires-clause-ready c =
    ready_found c.args.prepared.at c.args.image.now c.reach.new.image c.reach.ensures.rows c.reach.ensures.others.files c.reach.ensures.others.tables c.reach.ensures.room c.args.prepared.change c.requires.prepared.ready

pub settle-requires-clause-room : goal.settle-requires-clause-room
settle-requires-clause-room c =
    few_starts c.args.prepared c.args.image.now c.reach.new.image c.make-act.new.image c.make-act.result c.stop_idle.new.self c.reach.ensures.rows c.make-act.ensures.done c.stop_idle.ensures
    _ c.requires.prepared.started_room

pub settle-requires-clause-runs : goal.settle-requires-clause-runs
settle-requires-clause-runs c =
    let room : length (made c.args.prepared (system_of c.args.image.now)).reply.started ≤ c.stop_idle.new.self.spare_runs =
    omega (arith, c.requires.prepared.run_room, c.reach.ensures.others.runs, c.make-act.ensures.room, ap (λ (t : Tables). t.spare_runs) c.stop_idle.ensures) in
    few_starts c.args.prepared c.args.image.now c.reach.new.image c.make-act.new.image c.make-act.result c.stop_idle.new.self c.reach.ensures.rows c.make-act.ensures.done c.stop_idle.ensures
    c.stop_idle.new.self.spare_runs room

pub invariant_of-image : goal.invariant_of-image
invariant_of-image c =
    let same : c.make-act.new.image.parts.entries ≡ c.stop_idle.new.self.entries = sym (ap (λ (t : Tables). t.entries) c.stop_idle.ensures) in
    let timers : c.settle.new.parts.timers ≡ c.make-act.new.image.parts.timers = ap (λ (t : Tables). t.timers) c.settle.ensures.rest ∙ ap (λ (t : Tables). t.timers) c.stop_idle.ensures in
    record {
      counted = settled_counts c.make-act.new.image.spool.counts (system_of c.make-act.new.image) c.stop_idle.new.self c.settle.new.out.items c.settle.new.parts (c.settle.ensures.settled (system_of c.make-act.new.image))
          (subst (λ (es : List Entry). CountsOf es c.make-act.new.image.spool.counts) same c.make-act.new.image.counted);
      timed = subst (AreTimersOf c.settle.new.parts.entries) (sym timers)
          (settled_timers c.make-act.new.image.parts.timers (system_of c.make-act.new.image) c.stop_idle.new.self c.settle.new.out.items c.settle.new.parts (c.settle.ensures.settled (system_of c.make-act.new.image))
          (idle_sound c.args.prepared c.args.image.now c.reach.new.image c.make-act.new.image c.make-act.result c.stop_idle.new.self c.reach.ensures.rows c.make-act.ensures.done c.stop_idle.ensures c.requires.prepared.sound)
          (subst (λ (es : List Entry). AreTimersOf es c.make-act.new.image.parts.timers) same c.make-act.new.image.timed));
    }

pub returns : goal.returns
unfolding system_of
returns c = record {
  done = is_done c.args.prepared c.args.image.now c.reach.new.image c.make-act.new.image c.make-act.result c.stop_idle.new.self c.reach.ensures.rows c.make-act.ensures.done c.stop_idle.ensures
      c.settle.new.parts c.settle.new.out.items c.of.result (c.settle.ensures.settled (system_of c.make-act.new.image)) (sym c.of.ensures);
}
