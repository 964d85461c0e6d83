use Rattle.std.proofs.Common.{◌≡◌, ◌∙◌, ◌≤◌, not, refl, ap, rules, bytes_eq}
use Rattle.std.proofs.lemmas.Fn.{filter_same}
use Rattle.std.proofs.lemmas.List.Elements.{All-filter}
use Rattle.qm_kinds.specs.declared.form.Characteristic.{Characteristic}
use Rattle.qm_tables.specs.Forms.{Defined, without_characteristic}
use Rattle.qm_tables.proofs.FormRows.{numbered_kept, defined_is}
use Rattle.qm_tables.proofs.forms.table.FormTable.delete_characteristic.Goals as goal

pub invariant_of-self : goal.invariant_of-self
invariant_of-self c =
    let rows : c.retain.new.self.items ≡ without_characteristic c.args.name.now c.self.inside.characteristics.items = filter_same _ _ _ (λ x b f' k. search rules) _ _ c.retain.ensures.filtered in (
      record {
        forms_stand = c.self.invariant.0.forms_stand;
        characteristics_stand = rw rows (numbered_kept (λ (c : Characteristic). c.number) (λ (c : Characteristic). c.name) (λ (d : Characteristic). not (bytes_eq d.name c.args.name.now)) c.self.inside.characteristics.items c.self.invariant.0.characteristics_stand);
        small = rw rows (All-filter (λ (d : Characteristic). not (bytes_eq d.name c.args.name.now)) (λ (c : Characteristic). c.number ≤ 127) c.self.inside.characteristics.items c.self.invariant.0.small);
      },
      c.self.invariant.1,
    )

pub returns-clause-characteristics : goal.returns-clause-characteristics
returns-clause-characteristics c =
    let kept : c.retain.new.self.items ≡ without_characteristic c.args.name.now c.self.inside.characteristics.items = filter_same _ _ _ (λ x b f' k. search rules) _ _ c.retain.ensures.filtered in
    let rows = kept ∙ ap (λ (w : Defined). without_characteristic c.args.name.now w.characteristics) c.self.view_is in
    defined_is _ _ _ _ _ _ _ _ (ap (λ (w : Defined). w.forms) c.self.view_is) rows (ap (λ (w : Defined). w.spare_forms) c.self.view_is) refl
