use Rattle.std.proofs.Common.{◌∙◌, nat_le, not, false, ap, sym, is_none}
use Rattle.std.specs.Option.{option_map_or}
use Rattle.qm_model.specs.Common.{ENTRIES_LIMIT, is_other_kind, refused_where, refused_characteristics}
use Rattle.qm_kinds.specs.declared.refusal.Refusal.TheVariants.{NoSuchQueue, WrongKind, NoSuchFile, BadValue, EntriesFull}
use Rattle.qm_image.specs.Image.{system_of}
use Rattle.qm_image.proofs.Accepting.{gathered}
use Rattle.qm_jobs.proofs.submit.submit_refusal.Goals as goal

pub returns : goal.returns
unfolding system_of
returns c =
    let s = system_of c.args.image.now in
    let queue = c.refused_absent.ensures ∙ ap (λ o. refused_where (is_none o) (NoSuchQueue c.args.job.now.queue)) c.queue-queue.ensures.found in
    let kind = c.refused_kind.ensures ∙ ap (λ o. refused_where (option_map_or (is_other_kind c.args.job.now.kind) o false) WrongKind) c.queue-queue.ensures.found in
    let file = c.refused_where.ensures ∙ ap (λ b. refused_where (not b) NoSuchFile) c.has_file.ensures in
    let value = c.refused_where-2.ensures ∙ ap (λ b. refused_where b BadValue) c.has_bad_value.ensures in
    let form = c.refused_form.ensures s (record { forms_are = sym c.form_table.ensures.forms; characteristics_are = sym c.form_table.ensures.characteristics }) in
    let characteristics = c.refused_characteristics.ensures ∙ (λ t. refused_characteristics (c.form_table-2.ensures.characteristics t) (c.as_slice.ensures t)) in
    let full = c.refused_where-3.ensures ∙ ap (λ n. refused_where (nat_le ENTRIES_LIMIT n) EntriesFull) c.entry_count.ensures in
    c.first_refusal.ensures ∙ gathered s c.args.job.now _ _ _ _ _ _ _ _ queue kind file value form characteristics full c.refused_where-4.ensures
