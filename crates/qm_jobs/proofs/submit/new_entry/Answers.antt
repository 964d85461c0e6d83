use Rattle.std.proofs.Common.{◌∙◌, ℕ, List, ap, sym, subst, arith, IsSome}
use Rattle.qm_model.specs.Common.{Entry, FileName, file_named, run_of}
use Rattle.qm_parts.specs.Rooms.{HavePlacesFor}
use Rattle.qm_image.specs.Image.{system_of}
use Rattle.qm_image.proofs.Accepting.{accepted, number_left, waits_at_first}
use Rattle.qm_jobs.proofs.submit.new_entry.Goals as goal

pub returns-clause-ready : goal.returns-clause-ready
unfolding system_of
returns-clause-ready c =
    let holds = accepted (system_of c.args.image.now) c.args.job.now c.requires.accepted in
    let e = c.entry_of.ensures in
    record {
      number = ap (λ (x : Entry). x.number) e;
      idle = ap (λ (x : Entry). run_of x.state) e ∙ waits_at_first c.args.job.now.hold c.args.job.now.after c.args.now;
      next = number_left c.args.image.now.next_entry (omega (arith, c.next_number-number.ensures.value, c.next_number-number.ensures.fits)) holds.number;
      few = holds.few;
      room = c.requires.room;
      places = subst (λ (home : List ℕ). HavePlacesFor home 1 c.args.image.now.parts) (sym (ap (λ (x : Entry). x.home) e)) c.requires.places;
      timer = c.requires.timer;
      file = subst (λ (n : FileName). IsSome (file_named n c.args.image.now.spool.files)) (sym (ap (λ (x : Entry). x.file) e)) holds.there;
    }
