use Rattle.std.proofs.Common.{◌≡◌, ◌∙◌, ◌-◌, vec_len, vec_capacity, length, refl, sym, ap, arith, map, true, false, None, is_some, is_none, List, if◌then◌else◌}
use Rattle.qm_model.specs.Find.{file_name_cmp, file_named, same_file_name}
use Rattle.qm_keyed.specs.Places.{StandsAt, BelongsAt}
use Rattle.qm_tables.specs.declared.spool.spooled.Spooled.{Spooled}
use Rattle.qm_tables.specs.Spool.{Kept, count_of, with_bytes}
use Rattle.std.proofs.lemmas.List.{length-map}
use Rattle.qm_tables.specs.SpoolRows.{file_of, naming_of, room_of}
use Rattle.qm_tables.proofs.Spooling.{spooled_name, order_in, there, some_row, file_absent, bytes_none, inserted_files, inserted_counts, inserted_rooms, inserted_spool, within_limits, kept_is}
use Rattle.qm_tables.proofs.spool.table.Spool.insert_file.Goals as goal

pub place_of-requires : goal.place_of-requires
place_of-requires c = order_in c.self.inside.files.items c.deref.result.now c.self.inside.size c.self.invariant c.deref.ensures.value

pub unreachable-requires : goal.unreachable-requires
unreachable-requires c =
    let stands : StandsAt file_name_cmp spooled_name c.args.name c.self.inside.files.items c.in_default.field-0 = rw c.deref.ensures.value at c.in_default.ensures in
    let absent : file_named c.args.name (map file_of c.self.inside.files.items) ≡ None = rw (← c.self.view_is) at c.requires.absent in
    let found = there c.self.inside.files.items c.args.name c.in_default.field-0 stands (some_row c.self.inside.files.items c.in_default.field-0 stands.within) in
    let clash : true ≡ false = sym found ∙ ap is_some absent in
    cc

pub invariant_of-self : goal.invariant_of-self
invariant_of-self c =
    let belongs : BelongsAt file_name_cmp spooled_name c.args.name c.self.inside.files.items c.in-Err.place = rw c.deref.ensures.value at c.in-Err.ensures in
    let file : Spooled = record { name = c.args.name; bytes = c.args.bytes; named = 0 } in
    let within = within_limits c.args.name (length c.args.bytes.items) (map file_of c.self.inside.files.items) (rw (← c.self.view_is) at c.requires.fits) in
    let few = within.few (ap is_none (file_absent c.self.inside.files.items c.args.name c.in-Err.place belongs)) in
    let none = ap length (bytes_none c.self.inside.files.items c.args.name c.in-Err.place belongs) in
    let size : c.len-size.result ≡ length c.args.bytes.items = c.len-size.ensures ∙ c.args.bytes.ok.0 in
    rw (c.put.ensures.items, size)
    (inserted_spool c.self.inside.files.items c.args.name c.in-Err.place belongs file refl c.self.inside.size c.self.invariant
    (omega (arith, few, length-map c.self.inside.files.items file_of)) (omega (arith, none, within.small)) (omega (arith, within.limit, c.self.invariant.counted)))

pub returns-clause-files : goal.returns-clause-files
returns-clause-files c =
    let belongs : BelongsAt file_name_cmp spooled_name c.args.name c.self.inside.files.items c.in-Err.place = rw c.deref.ensures.value at c.in-Err.ensures in
    let file : Spooled = record { name = c.args.name; bytes = c.args.bytes; named = 0 } in
    let spare = ap (λ (v : Kept). v.spare) c.self.view_is in
    kept_is _ _ _ _ _ _ _ _
    (ap (λ (xs : List Spooled). map file_of xs) c.put.ensures.items ∙ inserted_files c.self.inside.files.items c.args.name c.in-Err.place belongs file refl ∙ ap (λ (v : Kept). with_bytes c.args.name c.args.bytes.items v.files) c.self.view_is)
    refl
    refl
    (omega (arith, spare, c.put.ensures.len, c.put.ensures.capacity))

pub returns-clause-counts : goal.returns-clause-counts
returns-clause-counts c = λ n.
    let belongs : BelongsAt file_name_cmp spooled_name c.args.name c.self.inside.files.items c.in-Err.place = rw c.deref.ensures.value at c.in-Err.ensures in
    let file : Spooled = record { name = c.args.name; bytes = c.args.bytes; named = 0 } in
    ap (λ (xs : List Spooled). count_of n (map naming_of xs)) c.put.ensures.items
    ∙ inserted_counts c.self.inside.files.items c.args.name c.in-Err.place belongs file refl refl n
    ∙ ap (λ (v : Kept). count_of n v.counts) c.self.view_is

pub returns-clause-bytes : goal.returns-clause-bytes
returns-clause-bytes c = λ n.
    let belongs : BelongsAt file_name_cmp spooled_name c.args.name c.self.inside.files.items c.in-Err.place = rw c.deref.ensures.value at c.in-Err.ensures in
    let file : Spooled = record { name = c.args.name; bytes = c.args.bytes; named = 0 } in
    ap (λ (xs : List Spooled). count_of n (map room_of xs)) c.put.ensures.items
    ∙ inserted_rooms c.self.inside.files.items c.args.name c.in-Err.place belongs file refl n
    ∙ ap (λ (v : Kept). if same_file_name c.args.name n then (vec_capacity c.args.bytes - vec_len c.args.bytes) else count_of n v.rooms) c.self.view_is
