use Rattle.std.proofs.Common.{◌+◌, ◌-◌, vec_len, vec_capacity, arith}
use Rattle.qm_model.specs.Find.{file_name_cmp}
use Rattle.qm_keyed.specs.Places.{StandsAt, BelongsAt}
use Rattle.qm_tables.specs.Spool.{count_of}
use Rattle.qm_tables.proofs.Spooling.{spooled_name, order_in, not_there, naming_read, recounted, recounted_kept, renamed_spool}
use Rattle.qm_tables.proofs.spool.table.Spool.enter.Goals as goal

pub place_of-requires : goal.place_of-requires
place_of-requires c = order_in c.self.inside.files.items c.deref.result.now c.self.inside.size c.self.invariant c.deref.ensures.value

pub unreachable-requires : goal.unreachable-requires
unreachable-requires c =
    let belongs : BelongsAt file_name_cmp spooled_name c.args.name.now c.self.inside.files.items c.in_default.field-0 = rw c.deref.ensures.value at c.in_default.ensures in
    not_there c.self.inside.files.items c.args.name.now c.in_default.field-0 belongs (rw (← c.self.view_is) at c.requires.there)

pub overflow_add-named : goal.overflow_add-named
overflow_add-named c =
    let stands : StandsAt file_name_cmp spooled_name c.args.name.now c.self.inside.files.items c.in-Ok.place = rw c.deref.ensures.value at c.in-Ok.ensures in
    let read = naming_read c.self.inside.files.items c.args.name.now c.in-Ok.place stands c.args.self.now (vec_capacity c.self.inside.files - vec_len c.self.inside.files) c.index.result.now c.self.view_is c.index.ensures in
    omega (arith, read, c.requires.few)

pub invariant_of-self : goal.invariant_of-self
invariant_of-self c =
    let stands : StandsAt file_name_cmp spooled_name c.args.name.now c.self.inside.files.items c.in-Ok.place = rw c.deref.ensures.value at c.in-Ok.ensures in
    renamed_spool c.self.inside.files.items c.args.name.now c.in-Ok.place stands (c.index.result.now.named + 1) c.set_named.new.files.items c.set_named.ensures.items c.self.inside.size c.self.invariant

pub returns-clause-files : goal.returns-clause-files
returns-clause-files c =
    let stands : StandsAt file_name_cmp spooled_name c.args.name.now c.self.inside.files.items c.in-Ok.place = rw c.deref.ensures.value at c.in-Ok.ensures in
    recounted_kept c.self.inside.files.items c.args.name.now c.in-Ok.place stands (c.index.result.now.named + 1) c.set_named.new.files.items c.set_named.ensures.items
    c.args.self.now (vec_capacity c.self.inside.files - vec_len c.self.inside.files) c.self.view_is (vec_capacity c.set_named.new.files - vec_len c.set_named.new.files)
    (omega (arith, c.set_named.ensures.len, c.set_named.ensures.capacity))

pub returns-clause-counts : goal.returns-clause-counts
returns-clause-counts c =
    let stands : StandsAt file_name_cmp spooled_name c.args.name.now c.self.inside.files.items c.in-Ok.place = rw c.deref.ensures.value at c.in-Ok.ensures in
    let read = naming_read c.self.inside.files.items c.args.name.now c.in-Ok.place stands c.args.self.now (vec_capacity c.self.inside.files - vec_len c.self.inside.files) c.index.result.now c.self.view_is c.index.ensures in
    recounted c.self.inside.files.items c.args.name.now c.in-Ok.place stands (c.index.result.now.named + 1) c.set_named.new.files.items c.set_named.ensures.items
    c.args.self.now (vec_capacity c.self.inside.files - vec_len c.self.inside.files) c.self.view_is (count_of c.args.name.now c.args.self.now.counts + 1)
    (omega (arith, read))
