-- Each line of a script for a cluster is one of its nodes.
use Rattle.std.proofs.Common.{◌≡◌, ◌+◌, ◌==◌, ◌||◌, ℕ, suc, Bool, true, false, cond, List, [], ◌∷◌, ◌++◌, length, refl, sym, subst, Option, None, Some, Result, Ok, Err, arith, nat_eq, nat_lt, Contains, bytes_eq}
use Rattle.std.specs.List.{AllByRecursion, ends_with, list_all, slice_split}
use Rattle.std.proofs.lemmas.Slice.Eq.{bytes_eq-Decides}
use Rattle.qm_history.specs.Common.{is_among, is_line_byte, cut_at_blank, UserLine}
use Rattle.qm_history.specs.Lines.{LineFault, cut_short, goes_on, line_from, line_of, lines_from, of_cluster, one_more, script_bytes, script_lines, without_last}
use Rattle.qm_cluster.specs.Runs.{AreOfNodes, names_of}
use Rattle.qm_node.specs.Seats.{HeldSeat}

-- ---- a name that is among some

among_by : (node other : List ℕ) (names : List (List ℕ)) (b : Bool) → bytes_eq node other ≡ b → (b || is_among names node) ≡ true → (is_among names node ≡ true → Contains names node) → Contains (other ∷ names) node
among_by node other names true same is rest = (0, omega arith, sym ((bytes_eq-Decides node other).0 same))
among_by node other names false same is rest = let found = rest is in (suc found.0, omega (arith, found.1), found.2)

among_contains : (names : List (List ℕ)) (node : List ℕ) → is_among names node ≡ true → Contains names node
among_contains [] node is = cc
among_contains (other ∷ names) node is = among_by node other names (bytes_eq node other) refl is (among_contains names node)

-- ---- lines

module _ (names : List (List ℕ)) where
  abbrev IsOfNode : UserLine → Type 0
  IsOfNode l = Contains names l.line.node

  abbrev OneOfNode : Result UserLine LineFault → Type 0
  OneOfNode (Ok l) = IsOfNode l
  OneOfNode (Err fault) = Unit {0}

  abbrev AllOfNodes : Result (List UserLine) LineFault → Type 0
  AllOfNodes (Ok lines) = AllByRecursion IsOfNode lines
  AllOfNodes (Err fault) = Unit {0}

  either : (b : Bool) (one other : Result (List UserLine) LineFault) → AllOfNodes one → AllOfNodes other → AllOfNodes (cond b one other)
  either true one other h g = h
  either false one other h g = g

  one_by : (b : Bool) (one other : Result UserLine LineFault) → (b ≡ true → OneOfNode one) → OneOfNode other → OneOfNode (cond b one other)
  one_by true one other h g = h refl
  one_by false one other h g = g

  one_of : (number : ℕ) (l : Option UserLine) → OneOfNode (of_cluster (Some names) number l)
  one_of number None = tt
  one_of number (Some l) = one_by (is_among names l.line.node) _ _ (λ is. among_contains names l.line.node is) tt

  line_one : (number : ℕ) (text : List ℕ) → OneOfNode (line_of (Some names) number text)
  line_one number text = one_by (list_all is_line_byte text) _ _ (λ is. one_of number (line_from number (cut_at_blank text))) tt

  cut_none : (number : ℕ) (l : Result UserLine LineFault) → AllOfNodes (cut_short number l)
  cut_none number (Ok l) = tt
  cut_none number (Err fault) = tt

  more_of : (l : Result UserLine LineFault) (lines : Result (List UserLine) LineFault) → OneOfNode l → AllOfNodes lines → AllOfNodes (one_more l lines)
  more_of (Err fault) lines h g = tt
  more_of (Ok l) (Err fault) h g = tt
  more_of (Ok l) (Ok lines) h g = (h, g)

  all_from : (begun : Option (ℕ × List ℕ)) (number : ℕ) (parts : List (List ℕ)) → AllOfNodes (lines_from (Some names) begun number parts)
  all_from None number [] = tt
  all_from (Some begun) number [] = tt
  all_from None number (part ∷ []) = either (length part == 0) _ _ tt (cut_none number (line_of (Some names) number part))
  all_from (Some begun) number (part ∷ []) = cut_none begun.0 (line_of (Some names) begun.0 (begun.1 ++ part))
  all_from None number (part ∷ next ∷ parts) =
      either (length part == 0) _ _ (all_from None (number + 1) (next ∷ parts))
      (either (goes_on part) _ _ (all_from (Some (number, without_last part)) (number + 1) (next ∷ parts))
      (more_of (line_of (Some names) number part) _ (line_one number part) (all_from None (number + 1) (next ∷ parts))))
  all_from (Some begun) number (part ∷ next ∷ parts) =
      either (ends_with nat_eq part (45 ∷ [])) _ _ (all_from (Some (begun.0, without_last (begun.1 ++ part))) (number + 1) (next ∷ parts))
      (more_of (line_of (Some names) begun.0 (begun.1 ++ part)) _ (line_one begun.0 (begun.1 ++ part)) (all_from None (number + 1) (next ∷ parts)))

  pub lines_of_nodes : (text : List ℕ) (lines : List UserLine) → script_lines (Some names) text ≡ Ok lines → AllByRecursion (λ (l : UserLine). Contains names l.line.node) lines
  lines_of_nodes text lines is =
      subst AllOfNodes is
      (either (nat_lt script_bytes (length text)) _ _ tt (all_from None 1 (slice_split (λ (b : ℕ). b == 10) text)))

pub are_of_nodes : (names : List (List ℕ)) (text : List ℕ) (lines : List UserLine) (seats : List HeldSeat) → script_lines (Some names) text ≡ Ok lines → names_of seats ≡ names → AreOfNodes seats lines
are_of_nodes names text lines seats is named =
    subst (λ (ns : List (List ℕ)). AllByRecursion (λ (l : UserLine). Contains ns l.line.node) lines) (sym named) (lines_of_nodes names text lines is)
