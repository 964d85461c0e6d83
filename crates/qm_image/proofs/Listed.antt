-- Names of nodes in their order, as they are found one after another.
use Rattle.std.proofs.Common.{◌≡◌, ◌∙◌, ℕ, ◌+◌, ◌<◌, ◌≤◌, Bool, true, false, cond, List, [], ◌∷◌, ◌++◌, append-nil, append_assoc, length, get_or, take, drop, filter, map, Some, refl, sym, ap, subst, arith, slice_get}
use Rattle.std.proofs.lemmas.List.{length-take, map-append, take-append-drop, take_all, take_more}
use Rattle.std.proofs.lemmas.List.Elements.{filter-append}
use Rattle.std.proofs.lemmas.Option.{get_or_from_slice_get, slice_get_within}
use Rattle.qm_model.specs.Common.{Node, is_among}

-- what stands behind a beginning of a list
behind : (xs ys : List (List ℕ)) (y : List ℕ) → slice_get (xs ++ y ∷ ys) (length xs) ≡ Some y
behind [] ys y = refl
behind (x ∷ xs) ys y = behind xs ys y

module _ (names : List (List ℕ)) where
  -- those of these nodes that are named
  abbrev pub named : List Node → List (List ℕ)
  named nodes = filter (is_among names) (map (λ (n : Node). n.name) nodes)

  abbrev one : Bool → List ℕ → List (List ℕ)
  one b name = cond b (name ∷ []) []

  named_append : (before after : List Node) → named (before ++ after) ≡ named before ++ named after
  named_append before after =
      ap (filter (is_among names)) (map-append (λ (n : Node). n.name) before after)
      ∙ filter-append (is_among names) (map (λ (n : Node). n.name) before) (map (λ (n : Node). n.name) after)

  -- one node more
  module _ (nodes : List Node) (i : ℕ) (node : Node) (within : i < length nodes) (is : node ≡ get_or nodes i node) where
    next : take (i + 1) nodes ≡ take i nodes ++ node ∷ []
    next = take_more nodes i node within ∙ ap (λ (n : Node). take i nodes ++ n ∷ []) (sym is)

    named_next : (b : Bool) → is_among names node.name ≡ b → named (take (i + 1) nodes) ≡ named (take i nodes) ++ one b node.name
    named_next b among =
        ap named next ∙ named_append (take i nodes) (node ∷ []) ∙ ap (λ (c : Bool). named (take i nodes) ++ cond c (node.name ∷ []) []) among

    -- one that isn't named
    pub passed_over : (found : ℕ) → is_among names node.name ≡ false → take found names ≡ named (take i nodes) → take found names ≡ named (take (i + 1) nodes)
    passed_over found not_it so_far = so_far ∙ sym (append-nil (named (take i nodes))) ∙ sym (named_next false not_it)

    -- one that is, at its place
    pub taken : (found : ℕ) → is_among names node.name ≡ true → slice_get names found ≡ Some node.name → take found names ≡ named (take i nodes) → take (found + 1) names ≡ named (take (i + 1) nodes)
    taken found it there so_far =
        take_more names found [] (slice_get_within names found node.name there)
        ∙ ap (λ (n : List ℕ). take found names ++ n ∷ []) (get_or_from_slice_get names found node.name [] there)
        ∙ ap (λ (ns : List (List ℕ)). ns ++ node.name ∷ []) so_far
        ∙ sym (named_next true it)

    -- so it must stand there
    whole : named nodes ≡ named (take (i + 1) nodes) ++ named (drop (i + 1) nodes)
    whole = ap named (sym (take-append-drop (i + 1) nodes)) ∙ named_append (take (i + 1) nodes) (drop (i + 1) nodes)

    pub must_stand : (found : ℕ) → found ≤ length names → is_among names node.name ≡ true → take found names ≡ named (take i nodes) → names ≡ named nodes → slice_get names found ≡ Some node.name
    must_stand found few it so_far same =
        let rest : List (List ℕ) = named (drop (i + 1) nodes) in
        let split : names ≡ take found names ++ node.name ∷ rest =
        same ∙ whole ∙ ap (λ (ns : List (List ℕ)). ns ++ rest) (named_next true it ∙ ap (λ (ns : List (List ℕ)). ns ++ node.name ∷ []) (sym so_far))
        ∙ append_assoc (take found names) (node.name ∷ []) rest in
        let long : length (take found names) ≡ found = omega (arith, length-take found names, few) in
        ap (λ (ns : List (List ℕ)). slice_get ns found) split
        ∙ subst (λ (k : ℕ). slice_get (take found names ++ node.name ∷ rest) k ≡ Some node.name) long (behind (take found names) rest node.name)

  -- behind the last node
  pub all_taken : (nodes : List Node) (i found : ℕ) → length nodes ≤ i → take found names ≡ named (take i nodes) → found ≡ length names → names ≡ named nodes
  all_taken nodes i found past so_far all = sym (take_all found names (omega (arith, all))) ∙ so_far ∙ ap named (take_all i nodes past)

  pub must_be_all : (nodes : List Node) (i found : ℕ) → length nodes ≤ i → found ≤ length names → take found names ≡ named (take i nodes) → names ≡ named nodes → found ≡ length names
  must_be_all nodes i found past few so_far same =
      let front : names ≡ take found names = same ∙ ap named (sym (take_all i nodes past)) ∙ sym so_far in
      omega (arith, ap (λ (ns : List (List ℕ)). length ns) front, length-take found names, few)
