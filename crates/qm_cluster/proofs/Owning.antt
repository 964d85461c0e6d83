-- Whose the turns of a closed history are, and that a node's turns are known before it is closed.
use Rattle.std.proofs.Common.{◌≡◌, ℕ, ◌+◌, ◌<◌, ◌≤◌, ◌==◌, List, [], ◌∷◌, ◌++◌, map, length, refl, sym, ap, ◌∙◌, subst, arith, Bool, true, false, Option, None, Some, cond, IfSome, nat_lt, option_to_list}
use mathlib.Core.Logic.{dite}
use native.Mathlib.Decide.{ℕ_discrete}
use Rattle.std.specs.List.{AllByRecursion}
use Rattle.std.proofs.lemmas.List.{append-nil, length-append, map-append}
use Rattle.std.proofs.lemmas.List.Elements.{filter_map-append}
use Rattle.std.proofs.lemmas.Bool.Decides.{nat_tests}
use mathlib.Core.List.{IsPrefix}
use Rattle.qm_history.specs.declared.turn.Turn.{Turn}
use Rattle.qm_history.specs.declared.world.World.{World}
use Rattle.qm_history.specs.Chest.{Note, turns_noted}
use Rattle.qm_history.specs.Common.{after_turn, after_turns, visits_of}
use Rattle.qm_history.proofs.HistoryLemmas.{visits_of_append}
use Rattle.qm_turn.specs.History.{notes, note_by, notes_by, Agrees, numbers_of, times}
use Rattle.qm_turn.proofs.Histories.{notes-append, notes_by-append}
use Rattle.qm_cluster.specs.declared.noted.Noted.{Noted}
use Rattle.qm_cluster.specs.Sharing.{note_view, turns_of}
use Rattle.qm_cluster.specs.Passes.{turns_in, IsOfNode, AreOfTheirNodes, AreOwn, KnowOwnTurns}

module _ {X : Type 0} (P : X → Type 0) where
  pub all_front : (xs ys : List X) → AllByRecursion P (xs ++ ys) → AllByRecursion P xs
  all_front [] ys h = tt
  all_front (x ∷ xs) ys h = (h.0, all_front xs ys h.1)

  pub all_back : (xs ys : List X) → AllByRecursion P (xs ++ ys) → AllByRecursion P ys
  all_back [] ys h = h
  all_back (x ∷ xs) ys h = all_back xs ys h.1

-- ---- whose the turns are

module _ (log : List (ℕ × Noted)) where
  -- one of the pairs tells the notes of the number
  known_own : (k : ℕ) (pairs : List (ℕ × List Noted)) → Agrees log pairs → KnowOwnTurns pairs → 1 ≤ times k (numbers_of pairs) → AllByRecursion (IsOfNode k) (notes_by k log)
  known_own k [] a own there = absurd (omega (arith, there))
  known_own k (pair ∷ pairs) a own there =
      dite (ℕ_discrete pair.0 k)
      (λ same. subst (λ n. AllByRecursion (IsOfNode n) (notes_by n log)) same (subst (AllByRecursion (IsOfNode pair.0)) (sym a.0) own.0))
      (λ apart. known_own k pairs a.1 own.1 (left apart there))
    where
      left : (pair.0 ≡ k → ⊥) → 1 ≤ (cond (pair.0 == k) 1 0) + times k (numbers_of pairs) → 1 ≤ times k (numbers_of pairs)
      left apart there = grind (arith, nat_tests)

  module _ (passes : ℕ) (pairs : List (ℕ × List Noted)) (agrees : Agrees log pairs) (own : KnowOwnTurns pairs) (all : (k : ℕ) → k < passes → 1 ≤ times k (numbers_of pairs))
      (no_others : (k : ℕ) → passes ≤ k → notes_by k log ≡ [])
    where
      by_limit : (k : ℕ) (b : Bool) → nat_lt k passes ≡ b → AllByRecursion (IsOfNode k) (notes_by k log)
      by_limit k true is = let within : k < passes = grind (arith, nat_tests) in known_own k pairs agrees own (all k within)
      by_limit k false is = let past : passes ≤ k = grind (arith, nat_tests) in subst (AllByRecursion (IsOfNode k)) (sym (no_others k past)) tt

      pub own_of_each : (k : ℕ) → AllByRecursion (IsOfNode k) (notes_by k log)
      own_of_each k = by_limit k (nat_lt k passes) refl

noted_same : (e : ℕ × Noted) → note_by e.0 e ≡ e.1 ∷ []
noted_same e = grind (arith, nat_tests)

pub of_their_nodes : (log : List (ℕ × Noted)) → ((k : ℕ) → AllByRecursion (IsOfNode k) (notes_by k log)) → AreOfTheirNodes log
of_their_nodes [] h = tt
of_their_nodes (e ∷ log) h = (
  (subst (AllByRecursion (IsOfNode e.0)) (noted_same e) (all_front (IsOfNode e.0) (note_by e.0 e) (notes_by e.0 log) (h e.0))).0,
  of_their_nodes log (λ k. all_back (IsOfNode k) (note_by k e) (notes_by k log) (h k)),
)

-- ---- and of one node

own_turn : (node k : ℕ) (turn : Option Turn) → IfSome turn (λ t. t.node ≡ k) → IfSome turn (λ t. t.node ≡ node → k ≡ node)
own_turn node k None h = tt
own_turn node k (Some t) h = λ same. sym h ∙ same

pub own_turns : (node : ℕ) (log : List (ℕ × Noted)) → AreOfTheirNodes log → AreOwn node log
own_turns node [] h = tt
own_turns node (e ∷ log) h = (own_turn node e.0 e.1.turn h.0, own_turns node log h.1)

pub own_begins : (node : ℕ) (seen log : List (ℕ × Noted)) → IsPrefix seen log → AreOwn node log → AreOwn node seen
own_begins node seen log p h =
    all_front (λ (e : ℕ × Noted). IfSome e.1.turn (λ (t : Turn). t.node ≡ node → e.0 ≡ node)) seen p.0 (subst (AreOwn node) (sym p.1) h)

-- ---- no turn of the node

pub turns_in_append : (a b : List (ℕ × Noted)) → turns_in (a ++ b) ≡ turns_in a ++ turns_in b
turns_in_append a b =
    ap turns_of (notes-append a b) ∙ ap turns_noted (map-append note_view (notes a) (notes b)) ∙ filter_map-append (λ (n : Note). n.turn) (map note_view (notes a)) (map note_view (notes b))

-- the turn of one note
abbrev turn_of : Noted → List Turn
turn_of n = option_to_list n.turn

pub turns_from : (e : ℕ × Noted) (log : List (ℕ × Noted)) → turns_in (e ∷ log) ≡ turn_of e.1 ++ turns_in log
turns_from e log = by_turn e.1.turn refl
  where
    by_turn : (turn : Option Turn) → e.1.turn ≡ turn → turns_in (e ∷ log) ≡ option_to_list turn ++ turns_in log
    by_turn None is = grind (arith, is)
    by_turn (Some t) is = grind (arith, is)

other_visit : (node : ℕ) (w : World) (t : Turn) (turns : List Turn) → (t.node ≡ node → ⊥) → visits_of node w (t ∷ turns) ≡ visits_of node (after_turn w t) turns
other_visit node w t turns other =
    let differ : (t.node == node) ≡ false = grind (arith, nat_tests) in
    ap (λ b. cond b (record { before = w; turn = t } ∷ visits_of node (after_turn w t) turns) (visits_of node (after_turn w t) turns)) differ

pub none_by : (node : ℕ) (e : ℕ × Noted) (log : List (ℕ × Noted)) → notes_by node (e ∷ log) ≡ [] → (e.0 ≡ node → ⊥) × (notes_by node log ≡ [])
none_by node e log none = by_test (e.0 == node) refl
  where
    by_test : (b : Bool) → (e.0 == node) ≡ b → (e.0 ≡ node → ⊥) × (notes_by node log ≡ [])
    by_test true is =
        let bad : e.1 ∷ notes_by node log ≡ [] = ap (λ c. cond c (e.1 ∷ []) [] ++ notes_by node log) (sym is) ∙ none in cc
    by_test false is = (
      (λ same. let equal : (e.0 == node) ≡ true = grind (arith, nat_tests) in cc),
      ap (λ c. cond c (e.1 ∷ []) [] ++ notes_by node log) (sym is) ∙ none,
    )

module _ (node : ℕ) (e : ℕ × Noted) (log : List (ℕ × Noted)) (w : World) (rest : (v : World) → visits_of node v (turns_in log) ≡ []) (other : e.0 ≡ node → ⊥) where
  no_visit : (turn : Option Turn) → e.1.turn ≡ turn → IfSome turn (λ t. t.node ≡ node → e.0 ≡ node) → visits_of node w (turns_in (e ∷ log)) ≡ []
  no_visit None is own = ap (visits_of node w) (turns_from e log ∙ ap (λ o. option_to_list o ++ turns_in log) is) ∙ rest w
  no_visit (Some t) is own =
      ap (visits_of node w) (turns_from e log ∙ ap (λ o. option_to_list o ++ turns_in log) is)
      ∙ other_visit node w t (turns_in log) (λ same. other (own same))
      ∙ rest (after_turn w t)

pub no_visits : (node : ℕ) (log : List (ℕ × Noted)) (w : World) → AreOwn node log → notes_by node log ≡ [] → visits_of node w (turns_in log) ≡ []
no_visits node [] w own none = refl
no_visits node (e ∷ log) w own none =
    no_visit node e log w (λ v. no_visits node log v own.1 (none_by node e log none).1) (none_by node e log none).0 e.1.turn refl own.0

pub visits_begin : (node : ℕ) (w : World) (seen rest : List (ℕ × Noted)) → AreOwn node (seen ++ rest) → notes_by node rest ≡ [] → visits_of node w (turns_in (seen ++ rest)) ≡ visits_of node w (turns_in seen)
visits_begin node w seen rest own none =
    let own_rest : AreOwn node rest = all_back (λ (e : ℕ × Noted). IfSome e.1.turn (λ (t : Turn). t.node ≡ node → e.0 ≡ node)) seen rest own in
    ap (visits_of node w) (turns_in_append seen rest)
    ∙ visits_of_append node w (turns_in seen) (turns_in rest)
    ∙ ap (λ vs. visits_of node w (turns_in seen) ++ vs) (no_visits node rest (after_turns w (turns_in seen)) own_rest none)
    ∙ append-nil (visits_of node w (turns_in seen))

-- what the node's notes are in the whole, where it knew all of them
no_more : (node : ℕ) (seen rest : List (ℕ × Noted)) → notes_by node (seen ++ rest) ≡ notes_by node seen → notes_by node rest ≡ []
no_more node seen rest same = append_same (notes_by node seen) (notes_by node rest) (sym (notes_by-append node seen rest) ∙ same)
  where
    append_same : (xs ys : List Noted) → xs ++ ys ≡ xs → ys ≡ []
    append_same xs [] h = refl
    append_same xs (y ∷ ys) h = absurd (omega (arith, ap length h, length-append xs (y ∷ ys)))

pub visits_whole : (node : ℕ) (w : World) (seen log : List (ℕ × Noted)) → IsPrefix seen log → AreOwn node log → notes_by node log ≡ notes_by node seen
    → visits_of node w (turns_in log) ≡ visits_of node w (turns_in seen)
visits_whole node w seen log p own same =
    ap (λ l. visits_of node w (turns_in l)) (sym p.1)
    ∙ visits_begin node w seen p.0 (subst (AreOwn node) (sym p.1) own) (no_more node seen p.0 (ap (notes_by node) p.1 ∙ same))
