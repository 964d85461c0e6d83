use Rattle.std.proofs.Common.{◌≡◌, ◌∙◌, ℕ, true, false, None, List, [], ◌∷◌, sym, ap, IfSome, slice_get, slice_index_or, IsSome, is_some, option_map, nat_cmp}
use Rattle.qm_keyed.specs.Places.{BelongsAt}
use Rattle.qm_keyed.proofs.Keys.{absent}
use Rattle.qm_model.specs.Kept.{run_kept}
use Rattle.qm_node.specs.declared.row.Row.{Row}
use Rattle.qm_node.specs.Rows.{all_bare, bare}
use Rattle.qm_node.proofs.Rows.{kept_bare, numbers}
use Rattle.qm_node.proofs.runs.place_of_next.Goals as goal

never : {C : Type 0} (rows : List (Row C)) (round : List ℕ) (i : ℕ) → IsSome (slice_get round 0) → IfSome (slice_get round 0) (λ run. IsSome (run_kept run (all_bare rows)))
    → BelongsAt nat_cmp (λ (row : Row C). row.run) (slice_index_or round 0 0) rows i → ⊥
never rows [] i some kept belongs = let bad : false ≡ true = some in cc
never rows (run ∷ others) i some kept belongs =
    let none : run_kept run (all_bare rows) ≡ None = kept_bare run rows ∙ ap (option_map bare) (absent numbers run rows i belongs) in
    let bad : false ≡ true = sym (ap is_some none) ∙ kept in cc

pub unreachable-requires : goal.unreachable-requires
unreachable-requires g c = never c.args.rows.now c.args.round.now c.in_default.field-0 c.requires.some c.requires.next c.in_default.ensures
