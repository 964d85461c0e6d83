use Rattle.std.proofs.Common.{◌≡◌, ◌∙◌, subst}
use Rattle.qm_store.specs.Making.{IsNotMade}
use Rattle.qm_store.specs.declared.fault.WriteFault.{WriteFault}
use Rattle.qm_history.specs.Common.{site_of, IsConsistent, image_of}
use Rattle.qm_program.proofs.NewSite.{has_new_site, never_full}
use Rattle.qm_program.proofs.making.make_files.Goals as goal

pub returns-in-Ok-init-clause-made : goal.returns-in-Ok-init-clause-made
returns-in-Ok-init-clause-made g c told =
    let names = c.args.names.now in
    let rows : c.deref.result.now ≡ image_of (site_of names) = c.deref.ensures.value ∙ c.in-Ok.ensures.rows in
    let consistent : IsConsistent (site_of names) = subst IsConsistent (c.new_sites_are_consistent.ensures.several names) (c.new_sites_are_consistent.ensures.consistent (site_of names).nodes c.requires.nodes) in
    rw c.give_back.ensures
    (has_new_site g.D.Disk.meaning names c.args.cap c.deref.result.now _ rows c.at_rest_is_held.ensures c.held_by_records.ensures.records consistent c.in-Ok-init.ensures.lawful (c.in-Ok-init.ensures.made.1 told))

pub unreachable-requires : goal.unreachable-requires
unreachable-requires g c =
    let rows : c.deref.result.now ≡ image_of (site_of c.args.names.now) = c.deref.ensures.value ∙ c.in-Ok.ensures.rows in
    let full = subst (λ (f : WriteFault). IsNotMade c.args.cap c.deref.result.now c.args.disk c.in-Err-default-Full.field-0-0 f) c.in-Err-default-Full.field-0-1-is c.in-Err-default-Full.ensures.made in
    never_full c.args.names.now c.deref.result.now c.args.cap _ _ c.requires.nodes c.requires.cap rows full.0 full.1 full.2
