use Rattle.std.proofs.Common.{◌<◌, ◌≤◌, ◌+◌, vec_len, vec_capacity, ◌∙◌, [], length, refl, sym, arith, append-nil}
use Rattle.qm_tables.specs.SpoolRows.{IsExtended}
use Rattle.qm_tables.proofs.Replacing.{replaced, written}
use Rattle.qm_tables.proofs.spool.spooled.reserve_bytes.Goals as goal

pub returns-clause-same : goal.returns-clause-same
returns-clause-same c =
    let within : c.args.place < length c.args.files.now.items = omega (arith, c.requires, c.args.files.now.ok) in
    replaced (IsExtended []) c.args.files.now.items c.args.place c.index_mut-file.result.now _ within c.index_mut-file.ensures.value
    (record { name = refl; bytes = c.reserve.ensures.items ∙ sym (append-nil c.index_mut-file.result.now.bytes.items); named = refl })

pub returns-clause-room : goal.returns-clause-room
returns-clause-room c = λ d.
    let within : c.args.place < length c.args.files.now.items = omega (arith, c.requires, c.args.files.now.ok) in
    written (λ f. vec_len f.bytes + c.args.more ≤ vec_capacity f.bytes) c.args.files.now.items c.args.place _ d within c.in_ok-reserve.ensures.ok

pub returns-in_err-reserve-clause-same : goal.returns-in_err-reserve-clause-same
returns-in_err-reserve-clause-same c =
    let within : c.args.place < length c.args.files.now.items = omega (arith, c.requires, c.args.files.now.ok) in
    replaced (IsExtended []) c.args.files.now.items c.args.place c.index_mut-file.result.now _ within c.index_mut-file.ensures.value
    (record { name = refl; bytes = c.reserve.ensures.items ∙ sym (append-nil c.index_mut-file.result.now.bytes.items); named = refl })
