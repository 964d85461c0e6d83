-- How many turns of a closed history may hide that a disk failed.
use Rattle.std.proofs.Common.{◌≡◌, inl, inr, ℕ, ◌+◌, ◌<◌, ◌≤◌, ◌==◌, List, [], ◌∷◌, ◌++◌, map, refl, ap, arith, Bool, true, false, Option, cond, nat_lt, sum_by}
use mathlib.Core.Logic.{dite}
use native.Mathlib.Decide.{ℕ_discrete}
use Rattle.std.specs.List.{AllByRecursion}
use Rattle.std.proofs.lemmas.Bool.Decides.{nat_tests}
use Rattle.std.proofs.lemmas.List.Sums.{sum_by-cons}
use Rattle.qm_history.specs.Common.{Note, unread_of, NodeEnd, Ended, BrokenOff, TurnsSpent, FileDamaged, MemoryShort}
use Rattle.qm_turn.specs.History.{notes, notes_by, Agrees, numbers_of, times}
use Rattle.qm_turn.specs.Turns.{Known}
use Rattle.qm_cluster.specs.declared.noted.Noted.{Noted}
use Rattle.qm_cluster.specs.Driving.{HasDriven, IsHeard, IsLastOf, hidden_by}
use Rattle.qm_cluster.specs.Passes.{unread_in, unread_known}
use Rattle.qm_cluster.specs.Sharing.{note_view}
use Rattle.qm_cluster.proofs.Owning.{none_by}

unread_cons : (n : Noted) (ns : List Noted) → unread_in (n ∷ ns) ≡ cond n.unread 1 0 + unread_in ns
unread_cons n ns = sum_by-cons (λ (m : Noted). cond m.unread 1 0) n ns

unread_view : (ns : List Noted) → unread_of (map note_view ns) ≡ unread_in ns
unread_view [] = refl
unread_view (n ∷ ns) =
    let viewed : unread_of (map note_view (n ∷ ns)) ≡ cond n.unread 1 0 + unread_of (map note_view ns) = sum_by-cons (λ (m : Note). cond m.unread 1 0) (note_view n) (map note_view ns) in
    let one = unread_cons n ns in let rest = unread_view ns in omega (arith, viewed, one, rest)

-- ---- the notes of numbers

-- so many of the notes that these numbers have in the history
abbrev weigh : List (ℕ × Noted) → List (ℕ × List Noted) → ℕ
weigh log pairs = sum_by (λ (pair : ℕ × List Noted). unread_in (notes_by pair.0 log)) pairs

weigh_cons : (log : List (ℕ × Noted)) (pair : ℕ × List Noted) (pairs : List (ℕ × List Noted)) → weigh log (pair ∷ pairs) ≡ unread_in (notes_by pair.0 log) + weigh log pairs
weigh_cons log pair pairs = sum_by-cons (λ (p : ℕ × List Noted). unread_in (notes_by p.0 log)) pair pairs

known_cons : (pair : ℕ × List Noted) (pairs : List (ℕ × List Noted)) → unread_known (pair ∷ pairs) ≡ unread_in pair.1 + unread_known pairs
known_cons pair pairs = sum_by-cons (λ (p : ℕ × List Noted). unread_in p.1) pair pairs

module _ (e : ℕ × Noted) (log : List (ℕ × Noted)) where
  one_number : (k : ℕ) (b : Bool) → (e.0 == k) ≡ b → unread_in (notes_by k (e ∷ log)) ≡ cond b (cond e.1.unread 1 0) 0 + unread_in (notes_by k log)
  one_number k true is =
      let here : unread_in (notes_by k (e ∷ log)) ≡ unread_in (e.1 ∷ notes_by k log) = ap (λ c. unread_in ((cond c (e.1 ∷ []) []) ++ notes_by k log)) is in
      let one = unread_cons e.1 (notes_by k log) in omega (arith, here, one)
  one_number k false is =
      let here : unread_in (notes_by k (e ∷ log)) ≡ unread_in (notes_by k log) = ap (λ c. unread_in ((cond c (e.1 ∷ []) []) ++ notes_by k log)) is in omega (arith, here)

  no_less : (pairs : List (ℕ × List Noted)) → weigh log pairs ≤ weigh (e ∷ log) pairs
  no_less [] = omega arith
  no_less (pair ∷ pairs) =
      let one = one_number pair.0 (e.0 == pair.0) refl in let rest = no_less pairs in let was = weigh_cons log pair pairs in let is = weigh_cons (e ∷ log) pair pairs in omega (arith, one, rest, was, is)

  more : (pairs : List (ℕ × List Noted)) → 1 ≤ times e.0 (numbers_of pairs) → cond e.1.unread 1 0 + weigh log pairs ≤ weigh (e ∷ log) pairs
  more [] there = absurd (omega (arith, there))
  more (pair ∷ pairs) there =
      let was = weigh_cons log pair pairs in let is = weigh_cons (e ∷ log) pair pairs in
      dite (ℕ_discrete pair.0 e.0)
      (λ same.
      let equal : (e.0 == pair.0) ≡ true = grind (arith, nat_tests) in
      let one : unread_in (notes_by pair.0 (e ∷ log)) ≡ cond e.1.unread 1 0 + unread_in (notes_by pair.0 log) = one_number pair.0 true equal in
      let rest = no_less pairs in omega (arith, one, rest, was, is))
      (λ apart.
      let one = one_number pair.0 (e.0 == pair.0) refl in let rest = more pairs (left apart there) in omega (arith, one, rest, was, is))
    where
      left : (pair.0 ≡ e.0 → ⊥) → 1 ≤ (cond (pair.0 == e.0) 1 0) + times e.0 (numbers_of pairs) → 1 ≤ times e.0 (numbers_of pairs)
      left apart there = grind (arith, nat_tests)

all_weigh : (pairs : List (ℕ × List Noted)) (log : List (ℕ × Noted)) → AllByRecursion (λ (e : ℕ × Noted). 1 ≤ times e.0 (numbers_of pairs)) log → unread_in (notes log) ≤ weigh log pairs
all_weigh pairs [] h = omega arith
all_weigh pairs (e ∷ log) h =
    let here : unread_in (notes (e ∷ log)) ≡ cond e.1.unread 1 0 + unread_in (notes log) = unread_cons e.1 (notes log) in
    let rest = all_weigh pairs log h.1 in let one = more e log pairs h.0 in omega (arith, here, rest, one)

weigh_known : (log : List (ℕ × Noted)) (pairs : List (ℕ × List Noted)) → Agrees log pairs → weigh log pairs ≡ unread_known pairs
weigh_known log [] a = refl
weigh_known log (pair ∷ pairs) a =
    let one : unread_in (notes_by pair.0 log) ≡ unread_in pair.1 = ap unread_in a.0 in
    let rest = weigh_known log pairs a.1 in let was = weigh_cons log pair pairs in let is = known_cons pair pairs in omega (arith, one, rest, was, is)

module _ (passes : ℕ) (pairs : List (ℕ × List Noted)) (all : (k : ℕ) → k < passes → 1 ≤ times k (numbers_of pairs)) where
  known_by : (e : ℕ × Noted) (log : List (ℕ × Noted)) → (passes ≤ e.0 → notes_by e.0 (e ∷ log) ≡ []) → (b : Bool) → nat_lt e.0 passes ≡ b → 1 ≤ times e.0 (numbers_of pairs)
  known_by e log none true is = let within : e.0 < passes = grind (arith, nat_tests) in all e.0 within
  known_by e log none false is = let past : passes ≤ e.0 = grind (arith, nat_tests) in absurd ((none_by e.0 e log (none past)).0 refl)

  all_known : (log : List (ℕ × Noted)) → ((k : ℕ) → passes ≤ k → notes_by k log ≡ []) → AllByRecursion (λ (e : ℕ × Noted). 1 ≤ times e.0 (numbers_of pairs)) log
  all_known [] none = tt
  all_known (e ∷ log) none = (known_by e log (none e.0) (nat_lt e.0 passes) refl, all_known log (λ k past. (none_by k e log (none k past)).1))

pub hidden_known : (log : List (ℕ × Noted)) (passes : ℕ) (pairs : List (ℕ × List Noted)) → Agrees log pairs → ((k : ℕ) → k < passes → 1 ≤ times k (numbers_of pairs))
    → ((k : ℕ) → passes ≤ k → notes_by k log ≡ []) → unread_of (map note_view (notes log)) ≤ unread_known pairs
hidden_known log passes pairs agrees all none =
    let view = unread_view (notes log) in
    let weighs = all_weigh pairs log (all_known passes pairs all log none) in
    let known = weigh_known log pairs agrees in
    omega (arith, view, weighs, known)

-- ---- the notes of one pass

-- how often a note counts
abbrev one_if : Bool → ℕ
one_if b = cond b 1 0

heard_none : (node : ℕ) (front last : List Noted) → AllByRecursion (IsHeard node) front → unread_in (front ++ last) ≡ unread_in last
heard_none node [] last h = refl
heard_none node (n ∷ front) last h =
    let one : one_if n.unread ≡ one_if false = ap one_if h.0.3 in
    let cons = unread_cons n (front ++ last) in let rest = heard_none node front last h.1 in omega (arith, one, cons, rest)

one_note : (n : Noted) (b : Bool) → n.unread ≡ b → unread_in (n ∷ []) ≡ cond b 1 0
one_note n b is = let one = unread_cons n [] in let same : one_if n.unread ≡ one_if b = ap one_if is in omega (arith, one, same)

one_at_most : (n : Noted) (b : Bool) → n.unread ≡ b → unread_in (n ∷ []) ≤ 1
one_at_most n true is = let one = one_note n true is in omega (arith, one)
one_at_most n false is = let one = one_note n false is in omega (arith, one)

last_hides : (node : ℕ) (stopped : NodeEnd) (last : List Noted) → IsLastOf node stopped last → unread_in last ≤ hidden_by stopped
last_hides node Ended last h = let none = ap unread_in h in omega (arith, none)
last_hides node BrokenOff last h = absurd h
last_hides node TurnsSpent last (n, is, none, told) = let same = ap unread_in is in let one = one_note n false told in omega (arith, same, one)
last_hides node (FileDamaged file place) last (n, t, is, some, of) = let same = ap unread_in is in let one = one_at_most n n.unread refl in omega (arith, same, one)
last_hides node MemoryShort last (inl is) = let none = ap unread_in is in omega (arith, none)
last_hides node MemoryShort last (inr (n, is, of)) = let same = ap unread_in is in let one = one_at_most n n.unread refl in omega (arith, same, one)

pub driven_hides : (most node : ℕ) (stopped : NodeEnd) (old new : Known Noted) (told then : Option (List ℕ)) → HasDriven most node stopped old new told then → unread_in new.mine ≤ hidden_by stopped
driven_hides most node stopped old new told then h =
    let mine = ap unread_in h.mine in let front = heard_none node h.front h.last h.heard in let last = last_hides node stopped h.last h.ends in omega (arith, mine, front, last)
