use Rattle.std.proofs.Common.{◌-◌, vec_len, vec_capacity, sym}
use Rattle.qm_model.specs.Find.{file_name_cmp}
use Rattle.qm_keyed.specs.Places.{StandsAt, BelongsAt}
use Rattle.qm_tables.proofs.Spooling.{spooled_name, order_in, naming_none, naming_read, there}
use Rattle.qm_tables.proofs.spool.table.Spool.count.Goals as goal

pub place_of-requires : goal.place_of-requires
place_of-requires c = order_in c.self.inside.files.items c.deref.result.now c.self.inside.size c.self.invariant c.deref.ensures.value

pub returns-in_default-clause-count : goal.returns-in_default-clause-count
returns-in_default-clause-count c =
    let belongs : BelongsAt file_name_cmp spooled_name c.args.name.now c.self.inside.files.items c.in_default.field-0 = rw c.deref.ensures.value at c.in_default.ensures in
    rw (← c.self.view_is) (sym (naming_none c.self.inside.files.items c.args.name.now c.in_default.field-0 belongs))

pub returns-clause-count : goal.returns-clause-count
returns-clause-count c =
    let stands : StandsAt file_name_cmp spooled_name c.args.name.now c.self.inside.files.items c.in-Ok.place = rw c.deref.ensures.value at c.in-Ok.ensures in
    let read = naming_read c.self.inside.files.items c.args.name.now c.in-Ok.place stands c.args.self.now (vec_capacity c.self.inside.files - vec_len c.self.inside.files) c.index.result.now c.self.view_is c.index.ensures in
    sym read

pub returns-clause-there : goal.returns-clause-there
returns-clause-there c = λ some.
    let stands : StandsAt file_name_cmp spooled_name c.args.name.now c.self.inside.files.items c.in-Ok.place = rw c.deref.ensures.value at c.in-Ok.ensures in
    rw (← c.self.view_is) (there c.self.inside.files.items c.args.name.now c.in-Ok.place stands c.index.result.now)
