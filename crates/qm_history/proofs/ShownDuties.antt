-- The duties of a node in a consistent system are by run, each once, and their works can be carried out.
use Rattle.std.proofs.Common.{◌≡◌, ◌∙◌, ℕ, nat_lt, Bool, true, false, List, [], ◌∷◌, get_or, map, filter, fold, refl, sym, ap, subst, arith, Option, Some, IfSome, ◌≢◌, unwrap_or, bytes_eq, All, AllPairs, nat_cmp, Less}
use Rattle.std.specs.Option.{option_map_or}
use Rattle.std.specs.Cmp.{nat_cmp_total}
use Rattle.std.proofs.lemmas.Bool.Decides.{nat_tests}
use Rattle.std.proofs.lemmas.List.Elements.{All-cons, All-nil, All-head, All-tail, filter_passes}
use Rattle.std.proofs.lemmas.List.Kept.{AllPairs-filter}
use Rattle.qm_kinds.specs.declared.entry.Entry.{Entry}
use Rattle.qm_history.specs.Common.{EntryState, System, Duty, IsConsistent, AreShown}
use Rattle.qm_kinds.specs.declared.entry.EntryState.TheVariants.{Running, Aborting}
use Rattle.qm_model.specs.Duties.{by_run, duties, duty_of, run_number}
use Rattle.qm_model.specs.Inserting.{inserted}
use Rattle.qm_model.specs.JobStates.{run_of, runs_on}
use Rattle.qm_model.specs.Standing.{is_run_on}
use Rattle.qm_model.proofs.DutyLemmas.{proper_duties}
use Rattle.qm_model.proofs.InsertLemmas.{all_inserted, order_inserted}
use Rattle.qm_model.proofs.ListLemmas.{Pairs, all_pairs_of, pairs_of}

abbrev before : Entry → Entry → Bool
before a b = nat_lt (run_number a) (run_number b)

abbrev Lower : Entry → Entry → Type 0
Lower a b = nat_cmp (run_number a) (run_number b) ≡ Less

abbrev Apart : Entry → Entry → Type 0
Apart a b = run_number a ≡ run_number b → ⊥

lower_is : (a b : ℕ) → nat_lt a b ≡ true → nat_cmp a b ≡ Less
lower_is a b is = grind (arith, nat_tests)

higher_is : (a b : ℕ) → (a ≡ b → ⊥) → nat_lt a b ≡ false → nat_cmp b a ≡ Less
higher_is a b apart is = grind (arith, nat_tests)

-- ---- by run

sorted_behind : (es sorted : List Entry) → Pairs Lower sorted → All (λ (e : Entry). All (Apart e) sorted) es → Pairs Apart es → Pairs Lower (fold (λ sorted e. inserted before e sorted) sorted es)
sorted_behind [] sorted order apart pairs = order
sorted_behind (e ∷ es) sorted order apart pairs =
    sorted_behind es (inserted before e sorted)
    (order_inserted before e Lower (λ a b c p q. nat_cmp_total.trans (run_number a) (run_number b) (run_number c) p q) sorted
    (λ k d within. (
      lower_is (run_number e) (run_number (get_or sorted k d)),
      higher_is (run_number e) (run_number (get_or sorted k d)) (All-head (λ (e : Entry). All (Apart e) sorted) e es apart k d within),
    )) order)
    (λ k d within. all_inserted before e (Apart (get_or es k d)) sorted (λ same. pairs.0 k d within (sym same))
    (All-tail (λ (e : Entry). All (Apart e) sorted) e es apart k d within))
    pairs.1

sorted_by_run : (es : List Entry) → Pairs Apart es → Pairs Lower (by_run es)
sorted_by_run es pairs = sorted_behind es [] tt (λ k d within. All-nil (Apart (get_or es k d))) pairs

-- ---- apart

run_on : (node : List ℕ) (state : EntryState) → option_map_or (λ name. bytes_eq name node) (runs_on state) false ≡ true → (run : ℕ) × (run_of state ≡ Some run)
run_on node (Running queue name run) on = (run, refl)
run_on node (Aborting queue name run fate) on = (run, refl)
run_on node _ on = let bad : false ≡ true = on in cc

entries_apart : (a b : Entry) → (run : ℕ) × (run_of a.state ≡ Some run) → (run : ℕ) × (run_of b.state ≡ Some run) → IfSome (run_of a.state) (λ run. run_of b.state ≢ Some run) → Apart a b
entries_apart a b (first, first_is) (second, second_is) other same =
    let equal : second ≡ first = sym (ap (λ (o : Option ℕ). unwrap_or o 0) second_is) ∙ sym same ∙ ap (λ (o : Option ℕ). unwrap_or o 0) first_is in
    let never : run_of b.state ≢ Some first = subst (λ (o : Option ℕ). IfSome o (λ run. run_of b.state ≢ Some run)) first_is other in
    never (second_is ∙ ap (λ (run : ℕ). Some run) equal)

runs_apart : (s : System) (node : List ℕ) → IsConsistent s → Pairs Apart (filter (is_run_on node) s.entries)
runs_apart s node sound =
    let es : List Entry = filter (is_run_on node) s.entries in
    let on : All (λ (e : Entry). is_run_on node e ≡ true) es = filter_passes (is_run_on node) s.entries in
    let others : AllPairs (λ (a b : Entry). IfSome (run_of a.state) (λ run. run_of b.state ≢ Some run)) es =
    AllPairs-filter (λ (a b : Entry). IfSome (run_of a.state) (λ run. run_of b.state ≢ Some run)) (is_run_on node) s.entries sound.entries.runs in
    pairs_of Apart es
    (λ i j d below within. entries_apart (get_or es i d) (get_or es j d) (run_on node (get_or es i d).state (on i d (omega (arith, below, within)))) (run_on node (get_or es j d).state (on j d within)) (others i j d below within))

-- ---- duties

lower_duties : (s : System) (known : List ℕ) (x : Entry) (es : List Entry) → All (Lower x) es → All (λ (d : Duty). nat_cmp (run_number x) d.run ≡ Less) (map (duty_of s known) es)
lower_duties s known x [] all = All-nil (λ (d : Duty). nat_cmp (run_number x) d.run ≡ Less)
lower_duties s known x (e ∷ es) all =
    All-cons (λ (d : Duty). nat_cmp (run_number x) d.run ≡ Less) (duty_of s known e) (map (duty_of s known) es) (All-head (Lower x) e es all)
    (lower_duties s known x es (All-tail (Lower x) e es all))

ordered_duties : (s : System) (known : List ℕ) (es : List Entry) → Pairs Lower es → Pairs (λ (a b : Duty). nat_cmp a.run b.run ≡ Less) (map (duty_of s known) es)
ordered_duties s known [] pairs = tt
ordered_duties s known (e ∷ es) pairs = (lower_duties s known e es pairs.0, ordered_duties s known es pairs.1)

pub shown : (s : System) (node known : List ℕ) → IsConsistent s → AreShown (duties s node known)
shown s node known sound = record {
  order = all_pairs_of (λ (a b : Duty). nat_cmp a.run b.run ≡ Less) (duties s node known)
      (ordered_duties s known (by_run (filter (is_run_on node) s.entries)) (sorted_by_run (filter (is_run_on node) s.entries) (runs_apart s node sound)));
  proper = proper_duties s node known sound;
}
