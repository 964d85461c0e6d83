-- What stays where entries come, go or change, one after another.
use Rattle.std.proofs.Common.{◌∙◌, refl, ap, arith}
use Rattle.qm_parts.specs.Tables.{Tables}
use Rattle.qm_tables.specs.Spool.{Kept}
use Rattle.qm_image.specs.declared.image.Image.{Image}
use Rattle.qm_making.specs.Keeping.{KeepsOthers}

pub kept_at_first : (i : Image) → KeepsOthers i i
kept_at_first i = record { files = refl; tables = refl; runs = omega arith }

pub kept_on : (a b c : Image) → KeepsOthers a b → KeepsOthers b c → KeepsOthers a c
kept_on a b c first later = record {
  files = later.files ∙ ap (λ (k : Kept). record k { counts = c.spool.counts }) first.files;
  tables = later.tables ∙ ap (λ (t : Tables). record t { entries = c.parts.entries; timers = c.parts.timers; spare_runs = c.parts.spare_runs; spare_timers = c.parts.spare_timers }) first.tables;
  runs = omega (arith, first.runs, later.runs);
}
