use Rattle.std.proofs.Common.{◌≡◌, ◌∙◌, ◌+◌, ◌||◌, nat_lt, ℕ, Bool, false, length, sym, ap, arith}
use Rattle.std.proofs.lemmas.List.{length-map}
use Rattle.qm_model.specs.Common.{file_name_cmp, spooled}
use Rattle.qm_keyed.specs.Places.{StandsAt, BelongsAt}
use Rattle.qm_tables.specs.declared.spool.spooled.Spooled.{Spooled}
use Rattle.qm_tables.specs.Spool.{Kept}
use Rattle.qm_tables.specs.SpoolRows.{file_of}
use Rattle.qm_tables.proofs.Spooling.{spooled_name, order_in, full_there, full_absent, small_there}
use Rattle.qm_tables.proofs.spool.table.Spool.is_full_for.Goals as goal

pub place_of-requires : goal.place_of-requires
place_of-requires c = order_in c.self.inside.files.items c.deref.result.now c.self.inside.size c.self.invariant c.deref.ensures.value

pub is_too_much-requires : goal.is_too_much-requires
is_too_much-requires c =
    let stands : StandsAt file_name_cmp spooled_name c.args.name.now c.self.inside.files.items c.in-Ok.place = rw c.deref.ensures.value at c.in-Ok.ensures in
    omega (arith, small_there c.self.inside.files.items c.args.name.now c.in-Ok.place c.args.more c.index.result.now c.self.inside.size c.self.invariant stands.within, ap (λ (f : Spooled). length f.bytes.items) c.index.ensures, c.len.ensures, c.index.result.now.bytes.ok.0)

pub returns-in-Ok : goal.returns-in-Ok
returns-in-Ok c =
    let stands : StandsAt file_name_cmp spooled_name c.args.name.now c.self.inside.files.items c.in-Ok.place = rw c.deref.ensures.value at c.in-Ok.ensures in
    let long = c.len.ensures ∙ c.index.result.now.bytes.ok.0 ∙ ap (λ (f : Spooled). length f.bytes.items) c.index.ensures in
    c.is_too_much.ensures
    ∙ ap (λ (n : ℕ). nat_lt 1048576 (n + c.args.more) || nat_lt 67108864 (spooled c.args.self.now.files + c.args.more)) long
    ∙ rw (← c.self.view_is) (full_there c.self.inside.files.items c.args.name.now c.in-Ok.place c.args.more c.index.result.now stands)

pub returns-else-is_too_much : goal.returns-else-is_too_much
returns-else-is_too_much c =
    let belongs : BelongsAt file_name_cmp spooled_name c.args.name.now c.self.inside.files.items c.in-Err.field-0 = rw c.deref.ensures.value at c.in-Err.ensures in
    let enough : (nat_lt 1048576 (0 + c.args.more) || nat_lt 67108864 (spooled c.args.self.now.files + c.args.more)) ≡ false = sym c.is_too_much-in-Err.ensures ∙ c.if-is_too_much.false in
    let long = c.len-else-is_too_much.ensures ∙ c.self.inside.files.ok.0 ∙ sym (length-map c.self.inside.files.items file_of) ∙ ap (λ (v : Kept). length v.files) c.self.view_is in
    ap (λ (n : ℕ). nat_lt 4095 n) long
    ∙ ap (λ (b : Bool). b || nat_lt 4095 (length c.args.self.now.files)) (sym enough)
    ∙ rw (← c.self.view_is) (full_absent c.self.inside.files.items c.args.name.now c.in-Err.field-0 c.args.more belongs)
