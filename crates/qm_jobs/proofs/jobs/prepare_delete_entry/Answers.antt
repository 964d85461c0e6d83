use Rattle.std.proofs.Common.{◌∙◌, sym, ap, refl, false, if◌then◌else◌}
use Rattle.std.specs.Option.{option_copied, option_map_or}
use Rattle.qm_model.specs.Common.{Entry, Remove, is_executing, entry_aborting}
use Rattle.qm_image.specs.Image.{system_of}
use Rattle.qm_image.specs.Preparing.{found, entry_removed}
use Rattle.qm_parts.proofs.Ordered.{once}
use Rattle.qm_image.proofs.Found.{executing_found}
use Rattle.qm_jobs.proofs.jobs.prepare_delete_entry.Goals as goal

pub returns-then-is_executing : goal.returns-then-is_executing
unfolding system_of
returns-then-is_executing c now node =
    let s = found now (system_of c.args.image.now) in
    let had = executing_found c.args.number now c.args.image.now.parts.entries (once (λ (e : Entry). e.number) c.args.number c.args.image.now.parts.entries c.entry.ensures.in_order)
    ∙ ap (λ o. option_map_or is_executing o false) (sym c.entry.ensures.found ∙ ap option_copied c.in-Some.is) ∙ sym (c.is_executing.ensures c.in-Some.entry.now refl) ∙ c.if-is_executing.true in
    record {
      decided = rw (← c.entry.ensures.found, c.in-Some.is) refl;
      untouched = tt;
      takes = record { rows = refl; ready = tt; made = λ t. if sym had t then entry_aborting s Remove c.args.number else entry_removed s c.args.number };
    }

pub returns : goal.returns
unfolding system_of
returns c now node =
    let s = found now (system_of c.args.image.now) in
    let had = executing_found c.args.number now c.args.image.now.parts.entries (once (λ (e : Entry). e.number) c.args.number c.args.image.now.parts.entries c.entry.ensures.in_order)
    ∙ ap (λ o. option_map_or is_executing o false) (sym c.entry.ensures.found ∙ ap option_copied c.in-Some.is) ∙ sym (c.is_executing.ensures c.in-Some.entry.now refl) ∙ c.if-is_executing.false in
    record {
      decided = rw (← c.entry.ensures.found, c.in-Some.is) refl;
      untouched = tt;
      takes = record { rows = refl; ready = tt; made = λ t. if sym had t then entry_aborting s Remove c.args.number else entry_removed s c.args.number };
    }
