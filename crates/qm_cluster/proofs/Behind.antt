-- Which turns a node has made, and what listings it has begun in them, behind more of them.
use Rattle.std.proofs.Common.{◌≡◌, ◌+◌, ℕ, List, [], ◌∷◌, ◌++◌, sym, ◌∙◌, ap, subst, append_assoc, append-nil, length-append}
use Rattle.std.proofs.lemmas.List.Sums.{fold-append}
use Rattle.qm_history.specs.Scans.{Scans, behind_turn, no_scans}
use Rattle.qm_history.specs.Visits.{Visit}
use Rattle.qm_node.specs.Standing.{IsBehind, Standing}

pub behind_none : (earlier : List Visit) (here : Standing) → IsBehind earlier here → IsBehind (earlier ++ []) here
behind_none earlier here is = subst (λ (vs : List Visit). IsBehind vs here) (sym (append-nil earlier)) is

pub behind_one : (earlier : List Visit) (v : Visit) (here there : Standing) → IsBehind earlier here → there.count ≡ here.count + 1 → there.begun ≡ behind_turn here.begun v
    → IsBehind (earlier ++ v ∷ []) there
behind_one earlier v here there is count begun =
    let longer = length-append earlier (v ∷ []) in
    record {
      count = longer ∙ ap (λ (k : ℕ). k + 1) is.count ∙ sym count;
      begun = fold-append behind_turn no_scans earlier (v ∷ []) ∙ ap (λ (s : Scans). behind_turn s v) is.begun ∙ sym begun;
    }

pub behind_on : (earlier a b : List Visit) (there : Standing) → IsBehind ((earlier ++ a) ++ b) there → IsBehind (earlier ++ (a ++ b)) there
behind_on earlier a b there is = subst (λ (vs : List Visit). IsBehind vs there) (append_assoc earlier a b) is
