-- The words with which a new site is made: its nodes, and the most bytes of a queue file.
use Rattle.std.specs.Prelude.{ℕ, nat_le, Bool, ◌||◌, if◌then◌else◌, List, [], ◌∷◌, ◌++◌, ◌==◌, length, Option, None, Some, option_and_then}
use Rattle.std.specs.List.{slice_split}
use Rattle.qm_history.specs.Common.{NODES_LIMIT, GREATEST_CAP, LEAST_CAP, is_among}
use Rattle.qm_model.specs.Script.{act_number, node_name_of}

-- one more node behind these, if it isn't one of them and they aren't too many
abbrev pub with_node : List (List ℕ) → List ℕ → Option (List (List ℕ))
with_node names name = if is_among names name || nat_le NODES_LIMIT (length names) then None else Some (names ++ name ∷ [])

-- these nodes, and behind them those that parts name
abbrev pub nodes_from : List (List ℕ) → List (List ℕ) → Option (List (List ℕ))
nodes_from names [] = Some names
nodes_from names (part ∷ parts) =
    option_and_then (λ more. nodes_from more parts) (option_and_then (with_node names) (node_name_of part))

-- names of nodes with commas between them: each once, eight at most
abbrev pub nodes_of : List ℕ → Option (List (List ℕ))
nodes_of word = nodes_from [] (slice_split (λ (b : ℕ). b == 44) word)

-- the most bytes that a queue file may have, 4,096 to 268,435,456
abbrev pub cap_of : List ℕ → Option ℕ
cap_of word = option_and_then (λ n. if nat_le LEAST_CAP n then Some n else None) (act_number GREATEST_CAP word)
