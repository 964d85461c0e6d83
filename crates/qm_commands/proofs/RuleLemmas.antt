-- What stands behind a / of a command, and of the commands of a verb.
use Rattle.std.proofs.Common.{◌≡◌, ◌-◌, ◌≤◌, Bool, ◌&&◌, ◌||◌, List, [], ◌∷◌, length, get_or, take, drop, take_all, Option, None, Some, find, refl, ap, sym, ◌∙◌, arith}
use Rattle.std.specs.List.{list_all, list_any}
use Rattle.std.specs.Option.{option_or}
use Rattle.std.proofs.lemmas.List.Folds.{find-append, list_all-append, list_any-append}
use Rattle.qm_commands.specs.declared.table.Command.{Command}
use Rattle.qm_commands.specs.declared.table.Row.{Row}
use Rattle.qm_commands.specs.declared.rules.Takes.{Takes}
use Rattle.qm_commands.specs.declared.word.Word.{Word}
use Rattle.qm_commands.specs.Names.{rules_among}
use Rattle.qm_commands.specs.Rules.{own_rules, settings, rules_of}

module _ (p : Word × Takes → Bool) where
  -- what is found among a command's own rules, else among those that it shares
  pub found : (command : Command) (own : List (Word × Takes)) (o : Option (Word × Takes)) → own ≡ own_rules command → o ≡ find p own
      → option_or o (find p (settings command)) ≡ find p (rules_of command)
  found command own o is at =
      ap (λ x. option_or x (find p (settings command))) (at ∙ ap (find p) is)
      ∙ sym (find-append p (own_rules command) (settings command))

  -- all names of commands, one command after the other
  pub all_among : (rows : List Row) → list_all (λ (row : Row). list_all p (rules_of row.command)) rows ≡ list_all p (rules_among rows)
  all_among [] = refl
  all_among (row ∷ rows) =
      ap (λ b. list_all p (rules_of row.command) && b) (all_among rows) ∙ sym (list_all-append p (rules_of row.command) (rules_among rows))

  pub any_among : (rows : List Row) → list_any (λ (row : Row). list_any p (rules_of row.command)) rows ≡ list_any p (rules_among rows)
  any_among [] = refl
  any_among (row ∷ rows) =
      ap (λ b. list_any p (rules_of row.command) || b) (any_among rows) ∙ sym (list_any-append p (rules_of row.command) (rules_among rows))

  -- one command more
  abbrev behind : List Row → List Row
  behind rows = take (length rows - 1) (drop 1 rows)

  pub found_here : (rows : List Row) (d : Row) (rule : Word × Takes) (all : Option (Word × Takes)) → 1 ≤ length rows
      → Some rule ≡ find p (rules_of (get_or rows 0 d).command) → find p (rules_among rows) ≡ all → Some rule ≡ all
  found_here [] d rule all some here before = absurd (omega (arith, some))
  found_here (row ∷ rows) d rule all some here before =
      ap (λ o. option_or o (find p (rules_among rows))) here ∙ sym (find-append p (rules_of row.command) (rules_among rows)) ∙ before

  pub found_behind : (rows : List Row) (d : Row) (all : Option (Word × Takes)) → 1 ≤ length rows
      → None ≡ find p (rules_of (get_or rows 0 d).command) → find p (rules_among rows) ≡ all → find p (rules_among (behind rows)) ≡ all
  found_behind [] d all some here before = absurd (omega (arith, some))
  found_behind (row ∷ rows) d all some here before =
      ap (λ (l : List Row). find p (rules_among l)) (take_all (length (row ∷ rows) - 1) rows (omega arith))
      ∙ ap (λ o. option_or o (find p (rules_among rows))) here ∙ sym (find-append p (rules_of row.command) (rules_among rows)) ∙ before
