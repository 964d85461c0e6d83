use Rattle.std.proofs.Common.{◌∙◌, refl, sym, ap}
use Rattle.std.specs.Option.{option_copied, option_map_or}
use Rattle.qm_kinds.specs.declared.entry.Entry.{Entry}
use Rattle.qm_model.specs.Stopping.{entry_aborting, job_meant}
use Rattle.qm_image.specs.Image.{system_of}
use Rattle.qm_image.specs.Preparing.{found}
use Rattle.qm_image.proofs.Found.{running_found}
use Rattle.qm_rules.proofs.Refusing.{aborts}
use Rattle.qm_jobs.proofs.jobs.prepare_abort.Goals as goal

pub returns : goal.returns
unfolding system_of
returns c now node =
    let s = found now (system_of c.args.image.now) in
    let place = sym c.queue.ensures.found ∙ ap option_copied c.in-Some.is in
    let job = sym c.running_in.ensures ∙ ap option_copied c.in-Some-running_in.is in
    let meant = ap (job_meant c.args.entry) (running_found c.args.queue.now now c.args.image.now.parts.entries) ∙ job in
    record {
      decided = aborts (system_of c.args.image.now) c.args.queue.now c.args.entry c.args.requeue c.in-Some.place.now c.in-Some-running_in.job.now place (sym c.is_generic.ensures ∙ c.if-is_generic.false)
          job (sym c.must_stay.ensures ∙ c.if-must_stay.false);
      untouched = tt;
      takes = record { rows = refl; ready = tt; made = λ t. entry_aborting s (c.abort_fate.ensures t) (option_map_or (λ (e : Entry). e.number) (sym meant t) 0) };
    }
