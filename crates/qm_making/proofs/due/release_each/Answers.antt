use Rattle.std.proofs.Common.{◌∙◌, refl, ap, sym, arith}
use Rattle.qm_kinds.specs.declared.system.System.{System}
use Rattle.qm_image.specs.Image.{system_of}
use Rattle.qm_making.proofs.Kept.{kept_at_first, kept_on}
use Rattle.qm_making.proofs.due.release_each.Goals as goal

pub loop-number-init : goal.loop-number-init
unfolding system_of
loop-number-init c = record { found = refl; rows = refl; others = kept_at_first c.args.image.now; room = omega arith }

pub loop-number-preserved : goal.loop-number-preserved
unfolding system_of
loop-number-preserved c = record {
  found = c.release.ensures.found ∙ c.loop-number.invariant.found;
  rows = c.release.ensures.rows ∙ ap (λ (s : System). record s { entries = c.release.new.image.parts.entries }) c.loop-number.invariant.rows;
  others = kept_on c.args.image.now c.loop-number.image c.release.new.image c.loop-number.invariant.others c.release.ensures.others;
  room = omega (arith, c.loop-number.invariant.room, c.release.ensures.room);
}

pub returns-clause-entries : goal.returns-clause-entries
unfolding system_of
returns-clause-entries c =
    sym (ap (λ (s : System). s.entries) (c.what_is_not_due_stays.ensures.system (system_of c.loop-number.image) c.args.now c.in_default.ensures.none)) ∙ c.loop-number.invariant.found
