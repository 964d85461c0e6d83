use Rattle.std.proofs.Common.{◌∙◌, ◌<◌, [], Ok, Err, refl, ap, arith, subst, get_or, Result, OnOk, OnErr}
use Rattle.qm_model.specs.Find.{file_name_cmp}
use Rattle.qm_keyed.specs.Places.{StandsAt, BelongsAt}
use Rattle.qm_tables.specs.Spool.{Kept, count_of}
use Rattle.qm_tables.proofs.Spooling.{spooled_name, order_in, not_there, same_files, same_spool, extended_counts, room_made, room_is, kept_is}
use Rattle.qm_tables.proofs.spool.table.Spool.reserve_bytes.Goals as goal

pub place_of-requires : goal.place_of-requires
place_of-requires c = order_in c.self.inside.files.items c.deref.result.now c.self.inside.size c.self.invariant c.deref.ensures.value

pub unreachable-requires : goal.unreachable-requires
unreachable-requires c =
    let belongs : BelongsAt file_name_cmp spooled_name c.args.name.now c.self.inside.files.items c.in_default.field-0 = rw c.deref.ensures.value at c.in_default.ensures in
    not_there c.self.inside.files.items c.args.name.now c.in_default.field-0 belongs (rw (← c.self.view_is) at c.requires)

pub invariant_of-self : goal.invariant_of-self
invariant_of-self c =
    let stands : StandsAt file_name_cmp spooled_name c.args.name.now c.self.inside.files.items c.in-Ok.place = rw c.deref.ensures.value at c.in-Ok.ensures in
    same_spool c.self.inside.files.items c.args.name.now c.in-Ok.place stands c.reserve_bytes.new.files.items c.self.inside.size c.reserve_bytes.ensures.same c.self.invariant

where_ok : {T E : Type 0} {P Q : Type 0} (r : Result T E) → (P → Q) → OnOk r P → OnOk r Q
where_ok (Ok x) from holds = from holds
where_ok (Err e) from holds = tt

pub returns-clause-ok : goal.returns-clause-ok
returns-clause-ok c =
    let stands : StandsAt file_name_cmp spooled_name c.args.name.now c.self.inside.files.items c.in-Ok.place = rw c.deref.ensures.value at c.in-Ok.ensures in
    where_ok c.reserve_bytes.result
    (λ room. room_made c.self.inside.files.items c.args.name.now c.in-Ok.place stands [] c.reserve_bytes.new.files.items c.reserve_bytes.ensures.same c.args.more room)
    c.reserve_bytes.ensures.room

pub returns-clause-files : goal.returns-clause-files
returns-clause-files c =
    let stands : StandsAt file_name_cmp spooled_name c.args.name.now c.self.inside.files.items c.in-Ok.place = rw c.deref.ensures.value at c.in-Ok.ensures in
    let spare = ap (λ (v : Kept). v.spare) c.self.view_is in
    kept_is _ _ _ _ _ _ _ _
    (same_files c.self.inside.files.items c.args.name.now c.in-Ok.place stands c.reserve_bytes.new.files.items c.reserve_bytes.ensures.same ∙ ap (λ (v : Kept). v.files) c.self.view_is)
    (extended_counts c.self.inside.files.items c.args.name.now c.in-Ok.place stands [] c.reserve_bytes.new.files.items c.reserve_bytes.ensures.same ∙ ap (λ (v : Kept). v.counts) c.self.view_is)
    refl
    (omega (arith, spare, c.reserve_bytes.ensures.len, c.reserve_bytes.ensures.capacity))

-- what follows from what an error says
where_err : {T E : Type 0} {P Q : Type 0} (r : Result T E) → (P → Q) → OnErr r P → OnErr r Q
where_err (Ok x) from holds = tt
where_err (Err e) from holds = from holds

pub returns-clause-err : goal.returns-clause-err
returns-clause-err c =
    let stands : StandsAt file_name_cmp spooled_name c.args.name.now c.self.inside.files.items c.in-Ok.place = rw c.deref.ensures.value at c.in-Ok.ensures in
    let file = c.reserve_bytes.ensures.same.file in
    where_err c.reserve_bytes.result
    (λ full. subst (λ rooms. count_of c.args.name.now rooms < c.args.more) (ap (λ (v : Kept). v.rooms) c.self.view_is)
    (omega (arith, full file, room_is c.self.inside.files.items c.args.name.now c.in-Ok.place stands file, (get_or c.self.inside.files.items c.in-Ok.place file).bytes.ok)))
    c.reserve_bytes.ensures.full
