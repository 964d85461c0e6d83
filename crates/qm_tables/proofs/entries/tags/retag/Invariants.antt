use Rattle.std.proofs.Common.{◌≡◌, take, vec_len, vec_capacity}
use Rattle.qm_tables.specs.Boxed.{contents}
use Rattle.qm_tables.specs.Tags.{tags_of}
use Rattle.qm_tables.proofs.entries.tags.retag.Given as goal

-- the tags of the entries so far
abbrev pub invariant-loop-boxed : goal.invariant-loop-boxed
invariant-loop-boxed l = record {
  tags : l.tags.items ≡ tags_of (take l.boxed-index (contents l.boxes));
  len : vec_len l.tags ≡ l.boxed-index;
  capacity : vec_capacity l.tags ≡ vec_capacity l.initial.tags;
}
