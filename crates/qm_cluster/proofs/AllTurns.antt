-- From what the threads did to what is left.
use Rattle.std.proofs.Common.{◌≡◌, ℕ, ◌≤◌, Bool, IsTrue, List, [], ◌∷◌, length, map, refl, sym, ◌∙◌, ap, subst, Some, arith, zero-add, slice_get, sum_by, option_map}
use mathlib.Core.List.{IsPrefix}
use Rattle.std.specs.List.{AllByRecursion, range_with_len}
use Rattle.std.proofs.lemmas.List.{length-append, length-map}
use Rattle.std.proofs.lemmas.List.Sums.{sum_by-cons}
use Rattle.std.proofs.lemmas.Option.{slice_get-map}
use Rattle.atomic_table.specs.Seated.{TableId}
use Rattle.qm_symb.specs.Device.{Meaning}
use Rattle.qm_history.specs.declared.world.World.{World}
use Rattle.qm_history.specs.Common.{NodeText, UserLine}
use Rattle.qm_node.specs.Sides.{Side}
use Rattle.qm_turn.specs.History.{Agrees, notes, notes_by}
use Rattle.qm_turn.specs.Turns.{Known, fresh}
use Rattle.qm_cluster.specs.declared.noted.Noted.{Noted}
use Rattle.qm_cluster.specs.Driving.{hidden_by}
use Rattle.qm_cluster.specs.Passes.{IsOfNode, turns_in, unread_in, unread_known}
use Rattle.qm_cluster.proofs.Hiding.{driven_hides, hidden_known}
use Rattle.qm_cluster.proofs.Owning.{turns_in_append}
use Rattle.qm_cluster.specs.Gathered.{AreGathered, pair_of, text_at}
use Rattle.qm_cluster.specs.AllTurns.{AreFull, HaveMadeTurns, NoneDamaged}
use Rattle.qm_cluster.specs.Served.{AllHaveServed, HasServed}
use Rattle.qm_cluster.specs.Through.{AllAreThrough, AtTurnstile, IsThrough, first_at}
use Rattle.qm_cluster.proofs.Numbers.{are_range}
use Rattle.qm_cluster.proofs.Places.{all_there, at_place, get_below, made_from, mapped, there}
use Rattle.qm_cluster.proofs.Whole.{all_numbers, all_own, node_served, theirs}

-- a beginning has no more turns
few_turns : (seen log : List (ℕ × Noted)) → IsPrefix seen log → length (turns_in seen) ≤ length (turns_in log)
few_turns seen log begins =
    let whole = ap turns_in (sym begins.1) ∙ turns_in_append seen begins.0 in
    let long = ap length whole ∙ length-append (turns_in seen) (turns_in begins.0) in
    omega (arith, long)

-- what is known of a node at the turnstile
abbrev known_of : AtTurnstile → Known Noted
known_of at = at.known

hidden_each : (ats : List AtTurnstile) → AllByRecursion (λ (at : AtTurnstile). unread_in at.known.mine ≤ hidden_by at.end) ats
    → unread_known (map pair_of (map known_of ats)) ≤ sum_by (λ (t : NodeText). hidden_by t.end) (map text_at ats)
hidden_each [] all = omega arith
hidden_each (at ∷ ats) all =
    let rest = hidden_each ats all.1 in
    let first = all.0 in
    let known = sum_by-cons (λ (pair : ℕ × List Noted). unread_in pair.1) (pair_of at.known) (map pair_of (map known_of ats)) in
    let ends = sum_by-cons (λ (t : NodeText). hidden_by t.end) (text_at at) (map text_at ats) in
    omega (arith, rest, first, known, ends)

module _ {Y : Type 0} (y : Meaning Y) (tells : Bool) (may_begin : World → Type 0) (most : ℕ) (place : TableId) (names : List (List ℕ)) (lines : List (List UserLine)) (left : List AtTurnstile) (was now : List (Side Y))
    (through : AllAreThrough y tells may_begin most place names lines left was now) (lined : length lines ≡ length names) (count : length was ≡ length names)
  where
    -- each node is through
    is_through : (k : ℕ) (at : AtTurnstile) → slice_get left k ≡ Some at
        → (name : List ℕ) × (own : List UserLine) × (before : Side Y) × (after : Side Y) × IsThrough y tells may_begin most k name own (first_at (fresh place k)) at before after
    is_through k at here =
        let low = get_below left k at here in
        let many = through.count in
        let stations = through.stations in
        let name = there names k (omega (arith, low, many)) in
        let own = there lines k (omega (arith, low, many, lined)) in
        let before = there was k (omega (arith, low, many, count)) in
        let after = there now k (omega (arith, low, many, count, stations)) in
        (name.0, own.0, before.0, after.0, through.each k name.0 own.0 at before.0 after.0 name.1 own.1 here before.1 after.1)

    -- what its pass knows then
    pub knows_at : (k : ℕ) (at : AtTurnstile) → slice_get left k ≡ Some at → (at.known.place ≡ place) × (at.known.took ≡ []) × (at.known.number ≡ k)
    knows_at k at here = let is = is_through k at here in (is.4.knows.place, is.4.knows.took, is.4.knows.number)

    hides : AllByRecursion (λ (at : AtTurnstile). unread_in at.known.mine ≤ hidden_by at.end) left
    hides =
        all_there (λ (at : AtTurnstile). unread_in at.known.mine ≤ hidden_by at.end) left
        (λ k at here. let is = is_through k at here in driven_hides most k at.end (fresh place k) at.known is.2.told is.3.told is.4.knows)

    module _ (log : List (ℕ × Noted)) (seen : AllByRecursion (λ (pass : Known Noted). IsPrefix pass.seen log) (map known_of left)) (agrees : Agrees log (map pair_of (map known_of left)))
        (no_others : (number : ℕ) → length (map known_of left) ≤ number → notes_by number log ≡ [])
      where
        pass_at : (k : ℕ) (at : AtTurnstile) → slice_get left k ≡ Some at → slice_get (map known_of left) k ≡ Some at.known
        pass_at k at here = slice_get-map known_of left k ∙ ap (option_map known_of) here

        numbered : (k : ℕ) (pass : Known Noted) → slice_get (map known_of left) k ≡ Some pass → pass.number ≡ k
        numbered k pass here =
            let from = made_from known_of left k pass here in
            let is = is_through k from.0 from.1 in
            ap (λ (p : Known Noted). p.number) (sym from.2) ∙ is.4.knows.number

        own_of : (k : ℕ) (pass : Known Noted) → slice_get (map known_of left) k ≡ Some pass → AllByRecursion (IsOfNode k) pass.mine
        own_of k pass here =
            let from = made_from known_of left k pass here in
            let is = is_through k from.0 from.1 in
            subst (λ (p : Known Noted). AllByRecursion (IsOfNode k) p.mine) from.2
            (all_own most k from.0.end (fresh place k) from.0.known is.2.told is.3.told is.4.knows)

        full : AreFull most (turns_in log) (map text_at left)
        full k at here spent =
            let from = made_from text_at left k at here in
            let is = is_through k from.0 from.1 in
            let prefix = at_place (λ (pass : Known Noted). IsPrefix pass.seen log) (map known_of left) k from.0.known seen (pass_at k from.0 from.1) in
            let kept = is.4.knows.spent (ap (λ (t : NodeText). t.end) from.2 ∙ spent) in
            let some = few_turns from.0.known.seen log prefix in
            omega (arith, kept, some)

        undamaged : IsTrue tells → NoneDamaged (map text_at left)
        undamaged sure k at file spot here damaged =
            let from = made_from text_at left k at here in
            let is = is_through k from.0 from.1 in
            is.4.undamaged sure file spot (ap (λ (t : NodeText). t.end) from.2 ∙ damaged)

        served : IsTrue tells → (w : World) → may_begin w → AllHaveServed y w (turns_in log) names lines (map text_at left) was now
        served sure w begins node name own at before after named has_lines here was_there now_there =
            let from = made_from text_at left node at here in
            subst (λ (t : NodeText). HasServed y w (turns_in log) node name own t before after) from.2
            (node_served (map known_of left) log agrees seen no_others numbered own_of y tells sure may_begin w begins most
            node name own (first_at (fresh place node)) from.0 before after refl (pass_at node from.0 from.1)
            (through.each node name own from.0 before after named has_lines from.1 was_there now_there))

        pub have_made : {S : Type 0} (stands : S → List Noted → Type 0) (manager : S) → stands manager (notes log)
            → HaveMadeTurns y tells may_begin most stands names lines manager (map text_at left) was now
        have_made stands manager stood =
            let closed =
            hidden_known log (length (map known_of left)) (map pair_of (map known_of left)) agrees (all_numbers (map known_of left) log agrees seen no_others numbered own_of) no_others in
            record {
              log = log;
              stood = stood;
              theirs = theirs (map known_of left) log agrees seen no_others numbered own_of;
              count = length-map left text_at ∙ through.count;
              full = full;
              hidden = (let each = hidden_each left hides in omega (arith, closed, each));
              undamaged = undamaged;
              served = served;
            }

-- the same, over the seats of the nodes
module _ {A Y : Type 0} (is_at : A → AtTurnstile) (seats : List A) (y : Meaning Y) (tells : Bool) (may_begin : World → Type 0) (most : ℕ) (place : TableId) (names : List (List ℕ)) (lines : List (List UserLine)) (was now : List (Side Y))
    (through : AllAreThrough y tells may_begin most place names lines (map is_at seats) was now) (lined : length lines ≡ length names) (count : length was ≡ length names)
  where
    seat_at : (k : ℕ) (seat : A) → slice_get seats k ≡ Some seat → slice_get (map is_at seats) k ≡ Some (is_at seat)
    seat_at k seat at = slice_get-map is_at seats k ∙ ap (option_map is_at) at

    pub are_here : AllByRecursion (λ (a : A). ((is_at a).known.place ≡ place) × ((is_at a).known.took ≡ [])) seats
    are_here =
        all_there (λ (a : A). ((is_at a).known.place ≡ place) × ((is_at a).known.took ≡ [])) seats
        (λ k a at. let is = knows_at y tells may_begin most place names lines (map is_at seats) was now through lined count k (is_at a) (seat_at k a at) in (is.0, is.1))

    pub as_many : length seats ≡ length names
    as_many = sym (length-map seats is_at) ∙ through.count

    pub are_numbered : map (λ (a : A). (is_at a).known.number) seats ≡ range_with_len 0 (length names)
    are_numbered =
        are_range (λ (a : A). (is_at a).known.number) 0 seats
        (λ k a at. (knows_at y tells may_begin most place names lines (map is_at seats) was now through lined count k (is_at a) (seat_at k a at)).2 ∙ sym (zero-add k))
        ∙ ap (range_with_len 0) as_many

    pub all_made : {S V : Type 0} (stands : S → List Noted → Type 0) (manager_of : V → S) (shared : V) (texts : List NodeText)
        → AreGathered (λ (value : V) (ns : List Noted). stands (manager_of value) ns) (map (λ (a : A). (is_at a).known) seats) shared → texts ≡ map (λ (a : A). text_at (is_at a)) seats
        → HaveMadeTurns y tells may_begin most stands names lines (manager_of shared) texts was now
    all_made {S} {V} stands manager_of shared texts gathered same =
        let g : AreGathered (λ (value : V) (ns : List Noted). stands (manager_of value) ns) (map known_of (map is_at seats)) shared =
        subst (λ (ps : List (Known Noted)). AreGathered (λ (value : V) (ns : List Noted). stands (manager_of value) ns) ps shared) (sym (mapped known_of is_at seats)) gathered in
        subst (λ (l : List NodeText). HaveMadeTurns y tells may_begin most stands names lines (manager_of shared) l was now) (mapped text_at is_at seats ∙ sym same)
        (have_made y tells may_begin most place names lines (map is_at seats) was now through lined count g.log g.seen g.agrees g.no_others stands (manager_of shared) g.value_stands)
