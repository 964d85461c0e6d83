use Rattle.std.proofs.Common.{◌≡◌, ◌∙◌, length, get_or, refl, ap, arith, map, List, filter, not}
use Rattle.qm_model.specs.Common.{file_name_cmp, same_file_name, File}
use Rattle.qm_keyed.specs.Places.{StandsAt, BelongsAt}
use Rattle.qm_tables.specs.declared.spool.spooled.Spooled.{Spooled}
use Rattle.qm_tables.specs.Spool.{Kept, count_of}
use Rattle.qm_tables.specs.SpoolRows.{file_of, naming_of}
use Rattle.qm_tables.proofs.Spooling.{spooled_name, order_in, not_there, within_size, removed_files, removed_counts, removed_spool, kept_is}
use Rattle.qm_tables.proofs.spool.table.Spool.remove.Goals as goal

pub place_of-requires : goal.place_of-requires
place_of-requires c = order_in c.self.inside.files.items c.deref.result.now c.self.inside.size c.self.invariant c.deref.ensures.value

pub unreachable-requires : goal.unreachable-requires
unreachable-requires c =
    let belongs : BelongsAt file_name_cmp spooled_name c.args.name.now c.self.inside.files.items c.in_default.field-0 = rw c.deref.ensures.value at c.in_default.ensures in
    not_there c.self.inside.files.items c.args.name.now c.in_default.field-0 belongs (rw (← c.self.view_is) at c.requires.there)

pub overflow_cast-self : goal.overflow_cast-self
overflow_cast-self c =
    let stands : StandsAt file_name_cmp spooled_name c.args.name.now c.self.inside.files.items c.in-Ok.place = rw c.deref.ensures.value at c.in-Ok.ensures in
    let long : c.len.result ≡ length (get_or c.self.inside.files.items c.in-Ok.place c.remove-file.result).bytes.items =
    c.len.ensures ∙ c.remove-file.result.bytes.ok.0 ∙ ap (λ (f : Spooled). length f.bytes.items) c.remove-file.ensures.value in
    omega (arith, long, within_size c.self.inside.files.items c.args.name.now c.in-Ok.place stands c.self.inside.size c.remove-file.result c.self.invariant, c.self.invariant.counted, c.self.invariant.files.total)

pub overflow_sub-self : goal.overflow_sub-self
overflow_sub-self c =
    let stands : StandsAt file_name_cmp spooled_name c.args.name.now c.self.inside.files.items c.in-Ok.place = rw c.deref.ensures.value at c.in-Ok.ensures in
    let long : c.len.result ≡ length (get_or c.self.inside.files.items c.in-Ok.place c.remove-file.result).bytes.items =
    c.len.ensures ∙ c.remove-file.result.bytes.ok.0 ∙ ap (λ (f : Spooled). length f.bytes.items) c.remove-file.ensures.value in
    omega (arith, long, within_size c.self.inside.files.items c.args.name.now c.in-Ok.place stands c.self.inside.size c.remove-file.result c.self.invariant)

pub invariant_of-self : goal.invariant_of-self
invariant_of-self c =
    let stands : StandsAt file_name_cmp spooled_name c.args.name.now c.self.inside.files.items c.in-Ok.place = rw c.deref.ensures.value at c.in-Ok.ensures in
    let long : c.len.result ≡ length (get_or c.self.inside.files.items c.in-Ok.place c.remove-file.result).bytes.items =
    c.len.ensures ∙ c.remove-file.result.bytes.ok.0 ∙ ap (λ (f : Spooled). length f.bytes.items) c.remove-file.ensures.value in
    rw (c.remove-file.ensures.items, long) (removed_spool c.self.inside.files.items c.args.name.now c.in-Ok.place stands c.self.inside.size c.remove-file.result c.self.invariant)

pub returns-clause-files : goal.returns-clause-files
returns-clause-files c =
    let stands : StandsAt file_name_cmp spooled_name c.args.name.now c.self.inside.files.items c.in-Ok.place = rw c.deref.ensures.value at c.in-Ok.ensures in
    let spare = ap (λ (v : Kept). v.spare) c.self.view_is in
    kept_is _ _ _ _ _ _ _ _
    (ap (λ (xs : List Spooled). map file_of xs) c.remove-file.ensures.items
    ∙ removed_files c.self.inside.files.items c.args.name.now c.in-Ok.place stands
    ∙ ap (λ (v : Kept). filter (λ (f : File). not (same_file_name f.name c.args.name.now)) v.files) c.self.view_is)
    refl
    refl
    (omega (arith, spare, c.remove-file.ensures.len, c.remove-file.ensures.capacity, c.self.inside.files.ok))

pub returns-clause-counts : goal.returns-clause-counts
returns-clause-counts c = λ n.
    let stands : StandsAt file_name_cmp spooled_name c.args.name.now c.self.inside.files.items c.in-Ok.place = rw c.deref.ensures.value at c.in-Ok.ensures in
    ap (λ (xs : List Spooled). count_of n (map naming_of xs)) c.remove-file.ensures.items
    ∙ removed_counts c.self.inside.files.items c.args.name.now c.in-Ok.place stands (rw (← c.self.view_is) at c.requires.unnamed) n
    ∙ ap (λ (v : Kept). count_of n v.counts) c.self.view_is
