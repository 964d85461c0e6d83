use Rattle.std.proofs.Common.{◌≤◌, ◌∙◌}
use Rattle.qm_kinds.proofs.Packing.{all_further, names_in_front}
use Rattle.qm_kinds.proofs.packed.PackedNames.of.Goals as goal

pub invariant_of-result : goal.invariant_of-result
invariant_of-result c =
    let fits : c.pack.result.0.end ≤ 64 = c.if-packing-gt-ROOM.false in
    let within = all_further c.pack.result.0.end 64 c.pack.result.1 fits c.pack.ensures.within in
    let names = names_in_front 64 c.pack.result.0.bytes c.pack.result.1 within ∙ c.pack.ensures.named in (
      c.copy_from_slice.ensures.len,
      within,
      (rw c.copy_from_slice.ensures.after (rw names c.pack.ensures.lawful)),
    )

pub returns : goal.returns
returns c =
    let fits : c.pack.result.0.end ≤ 64 = c.if-packing-gt-ROOM.false in
    let within = all_further c.pack.result.0.end 64 c.pack.result.1 fits c.pack.ensures.within in
    rw c.copy_from_slice.ensures.after (names_in_front 64 c.pack.result.0.bytes c.pack.result.1 within ∙ c.pack.ensures.named)
