use Rattle.std.proofs.Common.{◌∙◌, List, ℕ, Option, Some, sym, ap, option_map}
use Rattle.qm_model.specs.Common.{File, file_name_cmp}
use Rattle.qm_keyed.specs.Places.{StandsAt, BelongsAt}
use Rattle.qm_tables.specs.declared.spool.spooled.Spooled.{Spooled}
use Rattle.qm_tables.proofs.Spooling.{spooled_name, order_in, file_absent, file_found}
use Rattle.qm_tables.proofs.spool.table.Spool.bytes.Goals as goal

pub place_of-requires : goal.place_of-requires
place_of-requires c = order_in c.self.inside.files.items c.deref.result.now c.self.inside.size c.self.invariant c.deref.ensures.value

pub returns-in_default-clause-found : goal.returns-in_default-clause-found
returns-in_default-clause-found c =
    let belongs : BelongsAt file_name_cmp spooled_name c.args.name.now c.self.inside.files.items c.in_default.field-0 = rw c.deref.ensures.value at c.in_default.ensures in
    rw (← c.self.view_is) (sym (ap (λ (o : Option File). option_map (λ (f : File). f.bytes) o) (file_absent c.self.inside.files.items c.args.name.now c.in_default.field-0 belongs)))

pub returns-clause-found : goal.returns-clause-found
returns-clause-found c =
    let stands : StandsAt file_name_cmp spooled_name c.args.name.now c.self.inside.files.items c.in-Ok.place = rw c.deref.ensures.value at c.in-Ok.ensures in
    rw (← c.self.view_is)
    (ap (λ (b : List ℕ). Some b) (c.as_slice.ensures.value ∙ ap (λ (f : Spooled). f.bytes.items) c.index.ensures)
    ∙ sym (ap (λ (o : Option File). option_map (λ (f : File). f.bytes) o) (file_found c.self.inside.files.items c.args.name.now c.in-Ok.place stands c.index.result.now)))
