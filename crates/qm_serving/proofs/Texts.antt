-- The texts of nodes one behind another, and the text of the cluster.
use Rattle.std.proofs.Common.{◌≡◌, ℕ, suc, ◌+◌, ◌==◌, Bool, true, false, cond, List, [], ◌∷◌, ◌++◌, codes, length, map, refl, sym, ◌∙◌, ap, Option, Some, Ok, arith, append_assoc, add-zero, flat_map, slice_get, unwrap_or}
use Rattle.std.specs.List.{AllByRecursion, range_with_len}
use Rattle.std.proofs.lemmas.Bool.Decides.{nat_tests}
use Rattle.std.proofs.lemmas.List.{length-map}
use Rattle.qm_history.specs.Common.{Node, Request, System, applied, Accepted, node_at, cluster, IsLegal, after_turn, visits_of, IsSound, system_in}
use Rattle.qm_history.specs.declared.turn.Turn.{Turn}
use Rattle.qm_history.specs.declared.world.World.{World}
use Rattle.qm_history.specs.Ends.{NodeEnd, NodeText, cuts_text, texts_printed}
use Rattle.qm_history.specs.Text.{behind, cluster_text, prefix_of, text_of_node, turn_lines, turn_names, visit_text}
use Rattle.qm_sjc.specs.Printed.{items_line}
use Rattle.qm_cluster.specs.Driving.{text_told, visit_told}
use Rattle.qm_cluster.specs.Printing.{name_at, turns_line, words_of}
use Rattle.qm_cluster.specs.ClusterEnding.{ends_of}
use Rattle.qm_serving.proofs.Naming.{name_there, turn_names_stay, turn_sound}

-- where no text may lack something, all are printed
pub all_printed : (last : List ℕ) (left : List NodeText) → AllByRecursion (λ (e : NodeEnd). cuts_text e ≡ false) (ends_of left) → texts_printed last left ≡ flat_map (λ (at : NodeText). at.printed) left ++ last
all_printed last [] none = refl
all_printed last (at ∷ left) none =
    ap (λ (b : Bool). cond b at.printed (at.printed ++ texts_printed last left)) none.0 ∙ ap (λ (l : List ℕ). at.printed ++ l) (all_printed last left none.1)
    ∙ sym (append_assoc at.printed (flat_map (λ (a : NodeText). a.printed) left) last)

-- what is made of elements is made of their places
pub by_places : {A : Type 0} (f : A → List ℕ) (g : ℕ → List ℕ) (m : ℕ) (xs : List A) → ((k : ℕ) (x : A) → slice_get xs k ≡ Some x → f x ≡ g (m + k)) → flat_map f xs ≡ flat_map g (range_with_len m (length xs))
by_places f g m [] each = refl
by_places {A} f g m (x ∷ xs) each =
    ap (λ (l : List ℕ). l ++ flat_map f xs) (each 0 x refl ∙ ap g (add-zero m))
    ∙ ap (λ (l : List ℕ). g m ++ l) (by_places f g (m + 1) xs (λ k y at. each (suc k) y at ∙ ap g (let same : m + suc k ≡ (m + 1) + k = omega arith in same)))

-- whose turns they were
pub same_words : (nodes : List Node) (turns : List Turn) → words_of (map (λ (n : Node). n.name) nodes) turns ≡ flat_map (λ (t : Turn). codes " " ++ node_at t.node nodes) turns
same_words nodes [] = refl
same_words nodes (t ∷ turns) =
    ap (λ (name : List ℕ). (codes " " ++ name) ++ words_of (map (λ (n : Node). n.name) nodes) turns) (name_there nodes t.node)
    ∙ ap (λ (l : List ℕ). (codes " " ++ node_at t.node nodes) ++ l) (same_words nodes turns)

-- the texts of all nodes
abbrev all_texts : World → List Turn → List ℕ
all_texts w turns = flat_map (λ (k : ℕ). text_of_node items_line k w turns) (range_with_len 0 (length (system_in w).nodes))

module _ (keep : (s : System) (now node : ℕ) (asked : Request) (a : Accepted) → applied s now node asked ≡ Ok a → map (λ n. n.name) a.system.nodes ≡ map (λ n. n.name) s.nodes) where
  module _ (names : List (List ℕ)) (node : ℕ) (name : List ℕ) (there : slice_get names node ≡ Some name) where
    told_visit : (w : World) (t : Turn) → cluster (system_in w) ≡ names → t.node ≡ node → visit_told name (record { before = w; turn = t }) ≡ visit_text items_line (record { before = w; turn = t })
    told_visit w t called same =
        let here : node_at t.node (system_in w).nodes ≡ name =
        sym (name_there (system_in w).nodes t.node) ∙ ap (λ (ns : List (List ℕ)). name_at ns t.node) called ∙ ap (name_at names) same ∙ ap (λ (o : Option (List ℕ)). unwrap_or o []) there in
        ap (λ (n : List ℕ). behind (prefix_of n t.why) (turn_lines items_line w t)) (sym here)

    told_turn : (w : World) (t : Turn) (turns : List Turn) → cluster (system_in w) ≡ names → text_told name (visits_of node (after_turn w t) turns) ≡ text_of_node items_line node (after_turn w t) turns
        → (b : Bool) → (b ≡ true → t.node ≡ node)
        → text_told name (cond b (record { before = w; turn = t } ∷ visits_of node (after_turn w t) turns) (visits_of node (after_turn w t) turns))
        ≡ flat_map (visit_text items_line) (cond b (record { before = w; turn = t } ∷ visits_of node (after_turn w t) turns) (visits_of node (after_turn w t) turns))
    told_turn w t turns called rest true own =
        ap (λ (l : List ℕ). l ++ text_told name (visits_of node (after_turn w t) turns)) (told_visit w t called (own refl))
        ∙ ap (λ (l : List ℕ). visit_text items_line (record { before = w; turn = t }) ++ l) rest
    told_turn w t turns called rest false own = rest

    own_turn : (t : Turn) → (t.node == node) ≡ true → t.node ≡ node
    own_turn t is = grind (arith, nat_tests)

    -- the node's text is that of its turns
    pub told_all : (w : World) (turns : List Turn) → IsSound w → IsLegal w turns → cluster (system_in w) ≡ names
        → text_told name (visits_of node w turns) ≡ text_of_node items_line node w turns
    told_all w [] sound legal called = refl
    told_all w (t ∷ turns) sound legal called =
        told_turn w t turns called
        (told_all (after_turn w t) turns (turn_sound keep w t sound legal.0) legal.1 (turn_names_stay keep w t sound legal.0 ∙ called)) (t.node == node) (own_turn t)

  -- what the nodes printed, one behind another, is the text of the cluster
  pub cluster_printed : (w : World) (turns : List Turn) (names : List (List ℕ)) (left : List NodeText) → IsSound w → IsLegal w turns → cluster (system_in w) ≡ names
      → length left ≡ length names → AllByRecursion (λ (e : NodeEnd). cuts_text e ≡ false) (ends_of left)
      → ((k : ℕ) (at : NodeText) → slice_get left k ≡ Some at → (name : List ℕ) × (slice_get names k ≡ Some name) × (at.printed ≡ text_told name (visits_of k w turns)))
      → texts_printed (turns_line names turns) left ≡ cluster_text items_line w turns
  cluster_printed w turns names left sound legal called count none each =
      let last : turns_line names turns ≡ codes "turns:" ++ turn_names w turns ++ 10 ∷ [] =
      ap (λ (l : List ℕ). codes "turns:" ++ l ++ 10 ∷ []) (ap (λ (ns : List (List ℕ)). words_of ns turns) (sym called) ∙ same_words (system_in w).nodes turns) in
      let count_nodes : length left ≡ length (system_in w).nodes = count ∙ ap length (sym called) ∙ length-map (system_in w).nodes (λ n. n.name) in
      let texts : flat_map (λ (at : NodeText). at.printed) left ≡ flat_map (λ (k : ℕ). text_of_node items_line k w turns) (range_with_len 0 (length (system_in w).nodes)) =
      by_places (λ (at : NodeText). at.printed) (λ (k : ℕ). text_of_node items_line k w turns) 0 left
      (λ k at here. let is = each k at here in is.2 ∙ told_all names k is.0 is.1 w turns sound legal called ∙ ap (λ (n : ℕ). text_of_node items_line n w turns) (let same : k ≡ 0 + k = omega arith in same))
      ∙ ap (λ (n : ℕ). flat_map (λ (k : ℕ). text_of_node items_line k w turns) (range_with_len 0 n)) count_nodes in
      all_printed (turns_line names turns) left none ∙ ap (λ (l : List ℕ). l ++ turns_line names turns) texts
      ∙ ap (λ (l : List ℕ). flat_map (λ (k : ℕ). text_of_node items_line k w turns) (range_with_len 0 (length (system_in w).nodes)) ++ l) last
      ∙ sym (ap (λ (l : List ℕ). l ++ 10 ∷ []) (append_assoc (all_texts w turns) (codes "turns:") (turn_names w turns)) ∙ append_assoc (all_texts w turns) (codes "turns:" ++ turn_names w turns) (10 ∷ []))
