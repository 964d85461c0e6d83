use Rattle.std.proofs.Common.{◌∙◌, length, get_or, map, refl, ap, arith}
use Rattle.qm_model.specs.Find.{file_name_cmp}
use Rattle.qm_keyed.specs.Places.{StandsAt, BelongsAt}
use Rattle.qm_tables.specs.Spool.{Kept, with_bytes}
use Rattle.qm_tables.specs.SpoolRows.{file_of}
use Rattle.qm_tables.proofs.Spooling.{spooled_name, order_in, not_there, room_is, extended_files, extended_counts, extended_spool, within_limits, kept_is}
use Rattle.qm_tables.proofs.spool.table.Spool.append.Goals as goal

pub place_of-requires : goal.place_of-requires
place_of-requires c = order_in c.self.inside.files.items c.deref.result.now c.self.inside.size c.self.invariant c.deref.ensures.value

pub unreachable-requires : goal.unreachable-requires
unreachable-requires c =
    let belongs : BelongsAt file_name_cmp spooled_name c.args.name.now c.self.inside.files.items c.in_default.field-0 = rw c.deref.ensures.value at c.in_default.ensures in
    not_there c.self.inside.files.items c.args.name.now c.in_default.field-0 belongs (rw (← c.self.view_is) at c.requires.there)

pub extend-requires-clause-room : goal.extend-requires-clause-room
extend-requires-clause-room c = λ d.
    let stands : StandsAt file_name_cmp spooled_name c.args.name.now c.self.inside.files.items c.in-Ok.place = rw c.deref.ensures.value at c.in-Ok.ensures in
    let room = rw (← c.self.view_is) at c.requires.room in
    omega (arith, room, room_is c.self.inside.files.items c.args.name.now c.in-Ok.place stands d, (get_or c.self.inside.files.items c.in-Ok.place d).bytes.ok)

pub invariant_of-self : goal.invariant_of-self
invariant_of-self c =
    let stands : StandsAt file_name_cmp spooled_name c.args.name.now c.self.inside.files.items c.in-Ok.place = rw c.deref.ensures.value at c.in-Ok.ensures in
    let within = within_limits c.args.name.now (length c.args.more.now) (map file_of c.self.inside.files.items) (rw (← c.self.view_is) at c.requires.fits) in
    extended_spool c.self.inside.files.items c.args.name.now c.in-Ok.place stands c.args.more.now c.extend.new.files.items c.extend.ensures.extended c.self.inside.size c.self.invariant
    within.small (omega (arith, within.limit, c.self.invariant.counted))

pub returns : goal.returns
returns c =
    let stands : StandsAt file_name_cmp spooled_name c.args.name.now c.self.inside.files.items c.in-Ok.place = rw c.deref.ensures.value at c.in-Ok.ensures in
    let spare = ap (λ (v : Kept). v.spare) c.self.view_is in
    kept_is _ _ _ _ _ _ _ _
    (extended_files c.self.inside.files.items c.args.name.now c.in-Ok.place stands c.args.more.now c.extend.new.files.items c.extend.ensures.extended ∙ ap (λ (v : Kept). with_bytes c.args.name.now c.args.more.now v.files) c.self.view_is)
    (extended_counts c.self.inside.files.items c.args.name.now c.in-Ok.place stands c.args.more.now c.extend.new.files.items c.extend.ensures.extended ∙ ap (λ (v : Kept). v.counts) c.self.view_is)
    refl
    (omega (arith, spare, c.extend.ensures.len, c.extend.ensures.capacity))
