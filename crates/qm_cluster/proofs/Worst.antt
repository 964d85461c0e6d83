-- The end that counts of those of nodes.
use Rattle.std.proofs.Common.{◌≡◌, ℕ, suc, ◌-◌, ◌≤◌, false, List, [], ◌∷◌, length, map, take, drop, get_or, refl, ◌∙◌, ap, Some, arith, slice_get, sum_by, take_all}
use Rattle.std.specs.List.{AllByRecursion}
use Rattle.std.proofs.lemmas.List.Sums.{sum_by-cons}
use Rattle.qm_cluster.specs.Driving.{hidden_by}
use Rattle.qm_history.specs.Ends.{BrokenOff, Damaged, DiskFailed, Ended, FileDamaged, HistoryFull, MemoryShort, NoMemory, NodeEnd, NodeText, Served, ServingEnd, SinkFailed, TurnsSpent, cuts_text, end_of, end_of_node, worse}
use Rattle.qm_cluster.specs.ClusterEnding.{ends_of, worst_of}

-- no text may lack something
abbrev pub NoneCut : List NodeEnd → Type 0
NoneCut ends = AllByRecursion (λ (e : NodeEnd). cuts_text e ≡ false) ends

abbrev pub AllEnded : List NodeEnd → Type 0
AllEnded ends = AllByRecursion (λ (e : NodeEnd). e ≡ Ended) ends

-- what the end that counts says of all
abbrev pub Says : ServingEnd → List NodeEnd → Type 0
Says Served ends = AllEnded ends
Says DiskFailed ends = ⊥
Says SinkFailed ends = ⊥
Says HistoryFull ends = NoneCut ends × ((k : ℕ) × (slice_get ends k ≡ Some TurnsSpent))
Says (Damaged file place) ends = (k : ℕ) × (slice_get ends k ≡ Some (FileDamaged file place))
Says NoMemory ends = Unit {0}

pub ended_none_cut : (ends : List NodeEnd) → AllEnded ends → NoneCut ends
ended_none_cut [] all = tt
ended_none_cut (e ∷ ends) all = (ap cuts_text all.0, ended_none_cut ends all.1)

module _ (ends : List NodeEnd) where
  one_more : (e : NodeEnd) (s : ServingEnd) → (e ≡ BrokenOff → ⊥) → Says s ends → Says (worse (end_of_node e) s) (e ∷ ends)
  one_more Ended Served goes h = (refl, h)
  one_more Ended DiskFailed goes h = absurd h
  one_more Ended SinkFailed goes h = absurd h
  one_more Ended HistoryFull goes h = ((refl, h.0), (suc h.1.0, h.1.1))
  one_more Ended (Damaged file place) goes h = (suc h.0, h.1)
  one_more Ended NoMemory goes h = tt
  one_more BrokenOff s goes h = absurd (goes refl)
  one_more TurnsSpent Served goes h = ((refl, ended_none_cut ends h), (0, refl))
  one_more TurnsSpent DiskFailed goes h = absurd h
  one_more TurnsSpent SinkFailed goes h = absurd h
  one_more TurnsSpent HistoryFull goes h = ((refl, h.0), (0, refl))
  one_more TurnsSpent (Damaged file place) goes h = (suc h.0, h.1)
  one_more TurnsSpent NoMemory goes h = tt
  one_more (FileDamaged f p) Served goes h = (0, refl)
  one_more (FileDamaged f p) DiskFailed goes h = absurd h
  one_more (FileDamaged f p) SinkFailed goes h = absurd h
  one_more (FileDamaged f p) HistoryFull goes h = (0, refl)
  one_more (FileDamaged f p) (Damaged file place) goes h = (0, refl)
  one_more (FileDamaged f p) NoMemory goes h = tt
  one_more MemoryShort s goes h = tt

pub says : (ends : List NodeEnd) → AllByRecursion (λ (e : NodeEnd). e ≡ BrokenOff → ⊥) ends → Says (end_of ends Served) ends
says [] goes = tt
says (e ∷ ends) goes = one_more ends e (end_of ends Served) goes.0 (says ends goes.1)

-- ---- how many turns may be hidden

hides_none : (e : NodeEnd) → cuts_text e ≡ false → hidden_by e ≡ 0
hides_none Ended whole = refl
hides_none BrokenOff whole = refl
hides_none TurnsSpent whole = refl
hides_none (FileDamaged file place) whole = cc
hides_none MemoryShort whole = cc

hides_one : (e : NodeEnd) → hidden_by e ≤ 1
hides_one Ended = omega arith
hides_one BrokenOff = omega arith
hides_one TurnsSpent = omega arith
hides_one (FileDamaged file place) = omega arith
hides_one MemoryShort = omega arith

-- how many turns they may hide
abbrev pub hidden : List NodeText → ℕ
hidden left = sum_by (λ (at : NodeText). hidden_by at.end) left

pub none_hidden : (left : List NodeText) → NoneCut (ends_of left) → hidden left ≡ 0
none_hidden [] whole = refl
none_hidden (at ∷ left) whole =
    let one = hides_none at.end whole.0 in let rest = none_hidden left whole.1 in let all = sum_by-cons (λ (a : NodeText). hidden_by a.end) at left in omega (arith, one, rest, all)

pub few_hidden : (left : List NodeText) → hidden left ≤ length left
few_hidden [] = omega arith
few_hidden (at ∷ left) = let one = hides_one at.end in let rest = few_hidden left in let all = sum_by-cons (λ (a : NodeText). hidden_by a.end) at left in omega (arith, one, rest, all)

-- ---- one by one

fewer : {A : Type 0} (xs : List A) → length (drop 1 xs) ≤ length xs - 1
fewer [] = omega arith
fewer (x ∷ xs) = omega arith

-- from the first one
pub worst_from : {A : Type 0} (f : A → NodeText) (xs : List A) (first : A) → 1 ≤ length xs → first ≡ get_or xs 0 first
    → worse (end_of_node (f first).end) (worst_of (map f (take (length xs - 1) (drop 1 xs)))) ≡ worst_of (map f xs)
worst_from {A} f xs first some is = ap (λ (l : List A). worse (end_of_node (f first).end) (worst_of (map f l))) (take_all (length xs - 1) (drop 1 xs) (fewer xs)) ∙ whole xs some is
  where
    whole : (xs : List A) → 1 ≤ length xs → first ≡ get_or xs 0 first → worse (end_of_node (f first).end) (worst_of (map f (drop 1 xs))) ≡ worst_of (map f xs)
    whole [] some is = absurd (omega (arith, some))
    whole (x ∷ xs) some is = ap (λ (a : A). worse (end_of_node (f a).end) (worst_of (map f xs))) is
