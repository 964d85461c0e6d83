use Rattle.std.proofs.Common.{◌∙◌, ap}
use Rattle.qm_kinds.specs.declared.entry.EntryState.{EntryState}
use Rattle.qm_model.specs.Entries.{in_new_state}
use Rattle.qm_rules.proofs.changing.changed_entry.Goals as goal

pub returns : goal.returns
returns c = λ s has.
    ap (λ (state : EntryState). record (c.with_fields-fields.result) { state = state }) c.state_of.ensures
    ∙ ap (in_new_state c.args.now) (c.with_fields-fields.ensures s has)
