use Rattle.std.proofs.Common.{◌∙◌, length, ap, arith}
use Rattle.qm_tables.proofs.SideBySide.{tag_read}
use Rattle.qm_tables.proofs.entries.tags.home_tag.Goals as goal

pub returns : goal.returns
returns c =
    c.loop-byte.invariant
    ∙ tag_read c.args.name.now c.loop-byte.byte-index (omega (arith, c.loop-byte-test.false, ap length c.as_bytes-byte-items.ensures.value))
