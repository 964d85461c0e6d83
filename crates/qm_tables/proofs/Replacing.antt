-- What stays when one file is replaced.
use Rattle.std.proofs.Common.{◌≡◌, ◌∙◌, ℕ, ◌<◌, List, length, get_or, set, refl, sym, subst}
use Rattle.std.proofs.lemmas.List.{get_or_default, get_or-set_same}
use Rattle.qm_tables.specs.declared.spool.spooled.Spooled.{Spooled}
use Rattle.qm_tables.specs.SpoolRows.{Replaces}

-- a file that was read is written back changed
pub replaced : (Change : Spooled → Spooled → Type 0) (files : List Spooled) (place : ℕ) (f g : Spooled) → place < length files → f ≡ get_or files place f → Change f g → Replaces files (set files place g) place Change
replaced Change files place f g within read change = record {
  file = g;
  is = refl;
  change = λ d. subst (λ x. Change x g) (read ∙ get_or_default files place f d within) change;
}

-- what holds of the file that was written holds in its place
pub written : (P : Spooled → Type 0) (files : List Spooled) (place : ℕ) (g d : Spooled) → place < length files → P g → P (get_or (set files place g) place d)
written P files place g d within holds = subst P (sym (get_or-set_same files place g d within)) holds
