use Rattle.std.proofs.Common.{◌≡◌, take, fold}
use Rattle.qm_tables.specs.Tags.{tag_behind}
use Rattle.qm_tables.proofs.entries.tags.home_tag.Given as goal

-- the tag of the bytes so far
abbrev pub invariant-loop-byte : goal.invariant-loop-byte
invariant-loop-byte l = l.tag ≡ fold tag_behind 0 (take l.byte-index l.name)
