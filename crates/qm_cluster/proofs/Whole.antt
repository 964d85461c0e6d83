-- What the passes know of each node's turns, in the history of all.
use Rattle.std.proofs.Common.{◌≡◌, inl, inr, ℕ, suc, zero, ◌<◌, ◌≤◌, ◌==◌, Bool, true, false, cond, IsTrue, List, [], ◌∷◌, ◌++◌, length, map, refl, sym, ◌∙◌, ap, subst, Option, None, Some, arith, IfSome, option_to_list, slice_get, option_map, append-nil}
use mathlib.Core.List.{IsPrefix}
use Rattle.std.specs.List.{AllByRecursion}
use Rattle.std.proofs.lemmas.Option.{slice_get-map}
use Rattle.qm_symb.specs.Device.{Meaning}
use Rattle.qm_history.specs.declared.turn.Turn.{Turn}
use Rattle.qm_history.specs.declared.world.World.{World}
use Rattle.qm_history.specs.Common.{GoesOn, at_first, BrokenOff, Ended, FileDamaged, HasPrinted, MemoryShort, NodeEnd, TurnsSpent, extent_of, after_turn, UserLine, Visit, visits_of, is_live}
use Rattle.qm_history.specs.Readings.{AreReadings, readings_of}
use Rattle.qm_node.specs.Asking.{read_built}
use Rattle.qm_node.specs.Sides.{Side}
use Rattle.qm_turn.specs.History.{Agrees, notes_by, numbers_of, times}
use Rattle.qm_turn.specs.Turns.{Known}
use Rattle.qm_cluster.specs.declared.noted.Noted.{Noted}
use Rattle.qm_cluster.specs.Driving.{HasDriven, IsHeard, IsLastOf, readings, text_told}
use Rattle.qm_cluster.specs.Passes.{AreOfTheirNodes, IsOfNode, KnowOwnTurns, turns_in}
use Rattle.qm_cluster.specs.Sharing.{turns_of}
use Rattle.qm_cluster.proofs.Owning.{of_their_nodes, own_begins, own_of_each, own_turns, turns_from, visits_whole}
use Rattle.qm_cluster.specs.Gathered.{pair_of, text_at}
use Rattle.qm_cluster.specs.Served.{HasServed}
use Rattle.qm_cluster.specs.Through.{AtTurnstile, IsThrough}
use Rattle.qm_cluster.proofs.Places.{all_there, at_place, mapped, there, times_there}

-- ---- a node's own notes

module _ {X : Type 0} (P : X → Type 0) where
  both : (xs ys : List X) → AllByRecursion P xs → AllByRecursion P ys → AllByRecursion P (xs ++ ys)
  both [] ys a b = b
  both (x ∷ xs) ys a b = (a.0, both xs ys a.1 b)

heard_own : (node : ℕ) (n : Noted) → IsHeard node n → IsOfNode node n
heard_own node n h = subst (λ (turn : Option Turn). IfSome turn (λ (t : Turn). t.node ≡ node)) (sym h.1) h.2

all_heard : (node : ℕ) (ns : List Noted) → AllByRecursion (IsHeard node) ns → AllByRecursion (IsOfNode node) ns
all_heard node [] h = tt
all_heard node (n ∷ ns) h = (heard_own node n h.0, all_heard node ns h.1)

none_own : (node : ℕ) (n : Noted) → n.turn ≡ None → IsOfNode node n
none_own node n is = subst (λ (turn : Option Turn). IfSome turn (λ (t : Turn). t.node ≡ node)) (sym is) tt

alone : (node : ℕ) (n : Noted) (last : List Noted) → last ≡ n ∷ [] → IsOfNode node n → AllByRecursion (IsOfNode node) last
alone node n last is own = subst (AllByRecursion (IsOfNode node)) (sym is) (own, tt)

last_own : (node : ℕ) (stopped : NodeEnd) (last : List Noted) → IsLastOf node stopped last → AllByRecursion (IsOfNode node) last
last_own node Ended last h = subst (AllByRecursion (IsOfNode node)) (sym h) tt
last_own node BrokenOff last h = absurd h
last_own node TurnsSpent last h = alone node h.0 last h.1 (none_own node h.0 h.2)
last_own node (FileDamaged file place) last h =
    alone node h.0 last h.2 (subst (λ (turn : Option Turn). IfSome turn (λ (t : Turn). t.node ≡ node)) (sym h.3) h.4)
last_own node MemoryShort last (inl h) = subst (AllByRecursion (IsOfNode node)) (sym h) tt
last_own node MemoryShort last (inr h) = alone node h.0 last h.1 h.2

pub all_own : (most node : ℕ) (stopped : NodeEnd) (old new : Known Noted) (told then : Option (List ℕ)) → HasDriven most node stopped old new told then
    → AllByRecursion (IsOfNode node) new.mine
all_own most node stopped old new told then h =
    subst (AllByRecursion (IsOfNode node)) (sym h.mine)
    (both (IsOfNode node) h.front h.last (all_heard node h.front h.heard) (last_own node stopped h.last h.ends))

-- ---- the moments of a node's turns

noted_from : (n : Noted) (ns : List Noted) (turn : Option Turn) → n.turn ≡ turn → turns_of (n ∷ ns) ≡ option_to_list turn ++ turns_of ns
noted_from n ns None is = grind (arith, is)
noted_from n ns (Some t) is = grind (arith, is)

module _ (node : ℕ) (t : Turn) (n : Noted) (is : n.turn ≡ Some t) (v : Visit) (here : v.turn.moment ≡ t.moment) (visits : List Visit) (ns : List Noted) (same : readings_of visits ≡ readings ns) where
  one_reading : (b : Bool) → readings_of (cond b (v ∷ visits) visits) ≡ readings (cond b (n ∷ []) [] ++ ns)
  one_reading true =
      ap (λ (m : ℕ). m ∷ readings_of visits) here ∙ ap (λ (ms : List ℕ). t.moment ∷ ms) same
      ∙ sym (ap (map (λ (t : Turn). t.moment)) (noted_from n ns (Some t) is))
  one_reading false = same

module _ (node : ℕ) where
  readings_from : (e : ℕ × Noted) (log : List (ℕ × Noted)) (w : World) → ((v : World) → readings_of (visits_of node v (turns_in log)) ≡ readings (notes_by node log))
      → (turn : Option Turn) → e.1.turn ≡ turn → IfSome turn (λ (t : Turn). t.node ≡ e.0) → readings_of (visits_of node w (turns_in (e ∷ log))) ≡ readings (notes_by node (e ∷ log))
  readings_from e log w rest None is own =
      ap (λ (ts : List Turn). readings_of (visits_of node w ts)) (turns_from e log ∙ ap (λ (o : Option Turn). option_to_list o ++ turns_in log) is)
      ∙ rest w ∙ silent (e.0 == node)
    where
      silent : (b : Bool) → readings (notes_by node log) ≡ readings (cond b (e.1 ∷ []) [] ++ notes_by node log)
      silent true = sym (ap (map (λ (t : Turn). t.moment)) (noted_from e.1 (notes_by node log) None is))
      silent false = refl
  readings_from e log w rest (Some t) is own =
      ap (λ (ts : List Turn). readings_of (visits_of node w ts)) (turns_from e log ∙ ap (λ (o : Option Turn). option_to_list o ++ turns_in log) is)
      ∙ ap (λ (b : Bool). readings_of (cond b (record { before = w; turn = t } ∷ visits_of node (after_turn w t) (turns_in log)) (visits_of node (after_turn w t) (turns_in log)))) (ap (λ (k : ℕ). k == node) own)
      ∙ one_reading node t e.1 is (record { before = w; turn = t }) refl (visits_of node (after_turn w t) (turns_in log)) (notes_by node log) (rest (after_turn w t)) (e.0 == node)

  pub readings_whole : (w : World) (log : List (ℕ × Noted)) → AreOfTheirNodes log → readings_of (visits_of node w (turns_in log)) ≡ readings (notes_by node log)
  readings_whole w [] own = refl
  readings_whole w (e ∷ log) own = readings_from e log w (λ v. readings_whole v log own.1) e.1.turn refl own.0

told_to : (extent : NodeEnd) (told : List ℕ) (mine more : List ℕ) (visits : List Visit) → mine ≡ readings_of visits → told ≡ mine ++ more → length more ≤ 1 → (extent ≡ Ended → more ≡ []) → AreReadings (extent_of extent) told visits
told_to Ended told mine more visits same is few none = is ∙ ap (λ (l : List ℕ). mine ++ l) (none refl) ∙ append-nil mine ∙ same
told_to BrokenOff told mine more visits same is few none = (more, is ∙ ap (λ (l : List ℕ). l ++ more) same, few)
told_to TurnsSpent told mine more visits same is few none = (more, is ∙ ap (λ (l : List ℕ). l ++ more) same, few)
told_to (FileDamaged file place) told mine more visits same is few none = (more, is ∙ ap (λ (l : List ℕ). l ++ more) same, few)
told_to MemoryShort told mine more visits same is few none = (more, is ∙ ap (λ (l : List ℕ). l ++ more) same, few)

-- ---- in the history of all

module _ (passes : List (Known Noted)) (log : List (ℕ × Noted)) (agrees : Agrees log (map pair_of passes)) where
  notes_at : (ps : List (Known Noted)) → Agrees log (map pair_of ps) → (k : ℕ) (pass : Known Noted) → slice_get ps k ≡ Some pass → notes_by pass.number log ≡ pass.mine
  notes_at [] a k pass at = cc
  notes_at (p ∷ ps) a zero pass at = let same : p ≡ pass = cc in subst (λ (q : Known Noted). notes_by q.number log ≡ q.mine) same a.0
  notes_at (p ∷ ps) a (suc k) pass at = notes_at ps a.1 k pass at

  module _ (seen : AllByRecursion (λ (pass : Known Noted). IsPrefix pass.seen log) passes) (no_others : (number : ℕ) → length passes ≤ number → notes_by number log ≡ [])
      (numbered : (k : ℕ) (pass : Known Noted) → slice_get passes k ≡ Some pass → pass.number ≡ k)
      (own : (k : ℕ) (pass : Known Noted) → slice_get passes k ≡ Some pass → AllByRecursion (IsOfNode k) pass.mine)
    where
      known : KnowOwnTurns (map pair_of passes)
      known =
          all_there (λ (pair : ℕ × List Noted). AllByRecursion (IsOfNode pair.0) pair.1) (map pair_of passes)
          (λ k pair at. known_at k pair (slice_get passes k) refl at)
        where
          known_at : (k : ℕ) (pair : ℕ × List Noted) (found : Option (Known Noted)) → slice_get passes k ≡ found → slice_get (map pair_of passes) k ≡ Some pair → AllByRecursion (IsOfNode pair.0) pair.1
          known_at k pair None is at = let bad : slice_get (map pair_of passes) k ≡ None = slice_get-map pair_of passes k ∙ ap (option_map pair_of) is in cc
          known_at k pair (Some pass) is at =
              let found : Some (pair_of pass) ≡ Some pair = sym (slice_get-map pair_of passes k ∙ ap (option_map pair_of) is) ∙ at in
              let same : pair_of pass ≡ pair = cc in
              subst (λ (p : ℕ × List Noted). AllByRecursion (IsOfNode p.0) p.1) same
              (subst (λ (n : ℕ). AllByRecursion (IsOfNode n) pass.mine) (sym (numbered k pass is)) (own k pass is))

      pub all_numbers : (k : ℕ) → k < length passes → 1 ≤ times k (numbers_of (map pair_of passes))
      all_numbers k low =
          let at = there passes k low in
          subst (λ (ns : List ℕ). 1 ≤ times k ns) (sym (mapped (λ (pair : ℕ × List Noted). pair.0) pair_of passes))
          (times_there (λ (pass : Known Noted). pass.number) passes k k at.0 at.1 (numbered k at.0 at.1))

      pub theirs : AreOfTheirNodes log
      theirs = of_their_nodes log (own_of_each log (length passes) (map pair_of passes) agrees known all_numbers no_others)

      pub node_notes : (k : ℕ) (pass : Known Noted) → slice_get passes k ≡ Some pass → notes_by k log ≡ pass.mine
      node_notes k pass at = subst (λ (n : ℕ). notes_by n log ≡ pass.mine) (numbered k pass at) (notes_at passes agrees k pass at)

      pub node_visits : (k : ℕ) (w : World) (pass : Known Noted) → slice_get passes k ≡ Some pass → notes_by k pass.seen ≡ pass.mine
          → visits_of k w (turns_in log) ≡ visits_of k w (turns_in pass.seen)
      node_visits k w pass at all_mine =
          visits_whole k w pass.seen log (at_place (λ (p : Known Noted). IsPrefix p.seen log) passes k pass seen at) (own_turns k log theirs)
          (node_notes k pass at ∙ sym all_mine)

      module _ {Y : Type 0} (y : Meaning Y) (tells : Bool) (sure : IsTrue tells) (may_begin : World → Type 0) (first : World) (begins : may_begin first) (most : ℕ) where
        pub node_served : (k : ℕ) (name : List ℕ) (lines : List UserLine) (start at : AtTurnstile) (before after : Side Y) → start.text ≡ [] → slice_get passes k ≡ Some at.known
            → IsThrough y tells may_begin most k name lines start at before after → HasServed y first (turns_in log) k name lines (text_at at) before after
        node_served k name lines start at before after empty stands through =
            let is = through.knows in
            let prefix = at_place (λ (p : Known Noted). IsPrefix p.seen log) passes k at.known seen stands in
            let drives = through.drives sure first begins (own_begins k at.known.seen log prefix (own_turns k log theirs)) in
            let whole = node_visits k first at.known stands is.all_mine in
            let read : readings at.known.mine ≡ readings_of (visits_of k first (turns_in log)) =
            ap readings (sym (node_notes k at.known stands)) ∙ sym (readings_whole k first log theirs) in
            record {
              faults = drives.faults;
              course = record {
                steps = drives.course.steps;
                broken = drives.course.broken;
                turns_are = subst (λ (vs : List Visit). GoesOn read_built (extent_of at.end) drives.course.broken (at_first lines) [] (is_live first k) vs drives.course.steps) (sym whole) drives.course.turns_are;
                few_faults = drives.course.few_faults;
              };
              rose = drives.rose;
              told = record {
                told = readings at.known.mine ++ is.more;
                appended = is.clock;
                are = told_to at.end (readings at.known.mine ++ is.more) (readings at.known.mine) is.more (visits_of k first (turns_in log)) read refl is.few is.none_more;
              };
              taken = drives.taken;
              text = subst (λ (vs : List Visit). HasPrinted at.end (text_told name vs) at.text) (sym whole)
                  (subst (HasPrinted at.end (text_told name (visits_of k first (turns_in at.known.seen)))) (sym (drives.appended ∙ ap (λ (l : List ℕ). l ++ drives.printed) empty)) drives.text);
            }
