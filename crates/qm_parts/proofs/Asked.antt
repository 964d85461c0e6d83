-- What runs are asked for, of the entries that they mirror.
use Rattle.std.proofs.Common.{◌≡◌, ◌∙◌, ℕ, ◌≤◌, ◌==◌, Bool, true, false, ◌&&◌, nat_lt, min, List, [], ◌∷◌, length, get_or, map, count_by, filter, find, cond, Option, None, Some, is_some, ◌<◌, refl, sym, ap, subst, arith, IfSome, nat_cmp, bytes_eq}
use Rattle.std.specs.List.{All, list_any, reduce}
use Rattle.std.specs.Option.{option_map, option_map_or}
use Rattle.std.proofs.lemmas.Bool.{and_parts, and_from}
use Rattle.std.proofs.lemmas.Bool.Decides.{nat_tests}
use Rattle.std.proofs.lemmas.List.{length-map}
use Rattle.std.proofs.lemmas.List.Sums.{length-filter}
use Rattle.qm_tables.proofs.FormsFound.{found_all}
use Rattle.qm_model.specs.Common.{Entry, Run, IsInOrder, entry_numbered, is_among, runs_for, has_run, is_run_on}
use Rattle.qm_model.specs.Stopping.{is_running_in, the_only_one}
use Rattle.qm_tables.specs.Runs.{run_numbered}
use Rattle.qm_parts.specs.Mirror.{Mirrors, is_live_in, is_run_for}
use Rattle.qm_parts.specs.Nodes.{is_run_on_one}
use Rattle.qm_parts.proofs.Counts.{any_counted, is_found, count_agree, count_filter, count_map, not_found, none_counted, found_counted, found_same, found_passes, found_in_filter, other_fails, both_le_first, both_le_second, and_swap}
use Rattle.qm_parts.proofs.Ordered.{once, each_found, least_is_first}
use Rattle.qm_parts.proofs.Mirrored.{count_as, count_with, of_its_run, its_number, is_run, has_the_run, live_in, run_for, run_on_one}
use Rattle.qm_parts.proofs.Least.{least_is, none_is_least}

abbrev numbered : ℕ → Entry → Bool
numbered n e = e.number == n

abbrev OrderedEntries : List Entry → Type 0
OrderedEntries es = IsInOrder nat_cmp (λ (e : Entry). e.number) es

abbrev OrderedRuns : List Run → Type 0
OrderedRuns runs = IsInOrder nat_cmp (λ (r : Run). r.run) runs

-- ---- the entry of a run

abbrev has_it : ℕ → List ℕ → Entry → Bool
has_it n node e = has_run n e && is_run_on node e

module _ (runs : List Run) (es : List Entry) (mirror : Mirrors runs es) (n : ℕ) (node : List ℕ) where
  as_many : count_by (is_run n node) runs ≡ count_by (has_it n node) es
  as_many = count_as runs es mirror (is_run n node) (has_it n node) (has_the_run n node es)

  pub no_such_run : run_numbered n runs ≡ None → find (has_it n node) es ≡ None
  no_such_run none =
      let zero = none_counted (λ (r : Run). r.run == n) runs none in
      not_found (has_it n node) es (omega (arith, as_many, zero, both_le_first (λ (r : Run). r.run == n) (λ (r : Run). bytes_eq r.node node) runs))

  pub on_another_node : OrderedRuns runs → (r : Run) → run_numbered n runs ≡ Some r → bytes_eq r.node node ≡ false → find (has_it n node) es ≡ None
  on_another_node order r found other =
      not_found (has_it n node) es
      (sym as_many ∙ other_fails (λ (x : Run). x.run == n) (λ (x : Run). bytes_eq x.node node) r runs (once (λ (x : Run). x.run) n runs order) found other)

  pub on_the_node : OrderedRuns runs → OrderedEntries es → (r : Run) → run_numbered n runs ≡ Some r → bytes_eq r.node node ≡ true → entry_numbered r.entry es ≡ find (has_it n node) es
  on_the_node order in_order r found same = sym (found_same (has_it n node) (numbered r.entry) es few one both)
    where
      few : count_by (has_it n node) es ≤ 1
      few = omega (arith, as_many, both_le_first (λ (x : Run). x.run == n) (λ (x : Run). bytes_eq x.node node) runs, once (λ (x : Run). x.run) n runs order)

      one : count_by (numbered r.entry) es ≤ 1
      one = once (λ (e : Entry). e.number) r.entry es in_order

      itself : (m : ℕ) → (m == m) ≡ true
      itself m = grind (arith, nat_tests)

      passes : (is_run n node r && r.entry == r.entry) ≡ true
      passes = and_from (is_run n node r) (r.entry == r.entry) (and_from (r.run == n) (bytes_eq r.node node) (found_passes (λ (x : Run). x.run == n) r runs found) same) (itself r.entry)

      both : 1 ≤ count_by (λ e. has_it n node e && numbered r.entry e) es
      both = omega (
        arith,
        found_counted (λ (x : Run). is_run n node x && x.entry == r.entry) (λ (x : Run). x.run == n) r runs found passes,
        both_le_first (λ (x : Run). is_run n node x && x.entry == r.entry) (λ (x : Run). x.run == n) runs,
        count_with runs es mirror (is_run n node) (has_it n node) (has_the_run n node es) (λ m. m == r.entry),
      )

-- ---- whether an entry has a run

pub any_has_run : (runs : List Run) (es : List Entry) → Mirrors runs es → (n : ℕ) → is_some (run_numbered n runs) ≡ list_any (has_run n) es
any_has_run runs es mirror n =
    sym (is_found (λ (r : Run). r.run == n) runs)
    ∙ sym (any_counted (λ (r : Run). r.run == n) runs)
    ∙ ap (nat_lt 0) (count_as runs es mirror (λ (r : Run). r.run == n) (has_run n) (its_number n es))
    ∙ any_counted (has_run n) es

nothing_at : (o : Option Run) → is_some o ≡ false → o ≡ None
nothing_at None is = refl
nothing_at (Some r) is = absurd (cc)

-- a run that no entry has isn't in the table
pub not_in_table : (runs : List Run) (es : List Entry) → Mirrors runs es → (spare next : ℕ) (o : Option Run)
    → IfSome o (λ r. (0 < spare) × (r.run < next) × (list_any (has_run r.run) es ≡ false)) → IfSome o (λ r. (0 < spare) × (r.run < next) × (run_numbered r.run runs ≡ None))
not_in_table runs es mirror spare next None given = given
not_in_table runs es mirror spare next (Some r) given =
    (given.0, given.1, nothing_at (run_numbered r.run runs) (any_has_run runs es mirror r.run ∙ given.2))

-- ---- the job of a number, among those that pass

module _ (p : Entry → Bool) (n : ℕ) (es : List Entry) where
  pub none_of_number : entry_numbered n es ≡ None → find (numbered n) (filter p es) ≡ None
  none_of_number none =
      found_in_filter p (numbered n) es
      ∙ not_found (λ e. p e && numbered n e) es (omega (arith, none_counted (numbered n) es none, both_le_second p (numbered n) es))

  pub fails_of_number : OrderedEntries es → (e : Entry) → entry_numbered n es ≡ Some e → p e ≡ false → find (numbered n) (filter p es) ≡ None
  fails_of_number order e found fails =
      found_in_filter p (numbered n) es
      ∙ not_found (λ x. p x && numbered n x) es
      (count_agree (λ x. p x && numbered n x) (λ x. numbered n x && p x) es (λ k d within. and_swap (p (get_or es k d)) (numbered n (get_or es k d)))
      ∙ other_fails (numbered n) p e es (once (λ (x : Entry). x.number) n es order) found fails)

  pub passes_of_number : OrderedEntries es → (e : Entry) → entry_numbered n es ≡ Some e → p e ≡ true → find (numbered n) (filter p es) ≡ Some e
  passes_of_number order e found passes =
      found_in_filter p (numbered n) es
      ∙ found_same (λ x. p x && numbered n x) (numbered n) es (omega (arith, both_le_second p (numbered n) es, one)) one
      (found_counted (λ x. p x && numbered n x) (numbered n) e es found (and_from (p e) (numbered n e) passes (found_passes (numbered n) e es found)))
      ∙ found
    where
      one : count_by (numbered n) es ≤ 1
      one = once (λ (x : Entry). x.number) n es order

-- ---- the only one that passes

first_of_filtered : (p : Entry → Bool) (e : Entry) (es : List Entry) (b : Bool) → length (cond b (e ∷ filter p es) (filter p es)) ≡ 1 → (length (filter p es) ≡ 1 → the_only_one (filter p es) ≡ find p es)
    → the_only_one (cond b (e ∷ filter p es) (filter p es)) ≡ cond b (Some e) (find p es)
first_of_filtered p e es true one rest = alone (filter p es) (omega (arith, one))
  where
    alone : (xs : List Entry) → length xs ≡ 0 → the_only_one (e ∷ xs) ≡ Some e
    alone [] is = refl
    alone (x ∷ xs) is = absurd (omega (arith, is))
first_of_filtered p e es false one rest = rest one

only_is_first : (p : Entry → Bool) (es : List Entry) → length (filter p es) ≡ 1 → the_only_one (filter p es) ≡ find p es
only_is_first p [] one = absurd (omega (arith, one))
only_is_first p (e ∷ es) one = first_of_filtered p e es (p e) one (only_is_first p es)

none_only : (xs : List Entry) → (length xs ≡ 1 → ⊥) → the_only_one xs ≡ None
none_only [] other = refl
none_only (x ∷ []) other = absurd (other refl)
none_only (x ∷ y ∷ xs) other = refl

module _ (runs : List Run) (es : List Entry) (mirror : Mirrors runs es) (order : OrderedEntries es) (name : List ℕ) where
  abbrev runs_here : Entry → Bool
  runs_here e = is_running_in name e.state

  as_many_live : count_by (is_live_in es name) runs ≡ length (filter runs_here es)
  as_many_live =
      count_as runs es mirror (is_live_in es name) runs_here (live_in es name (each_found (λ (e : Entry). e.number) es order))
      ∙ sym (length-filter runs_here es)

  pub no_only_one : (count_by (is_live_in es name) runs ≡ 1 → ⊥) → the_only_one (filter runs_here es) ≡ None
  no_only_one other = none_only (filter runs_here es) (λ one. other (as_many_live ∙ one))

  entry_of_live : (r : Run) (o : Option Entry) → entry_numbered r.entry es ≡ o → option_map_or runs_here o false ≡ true → 1 ≤ count_by (λ e. runs_here e && numbered r.entry e) es
  entry_of_live r None found passes = absurd (cc)
  entry_of_live r (Some e) found passes = found_counted runs_here (numbered r.entry) e es found passes

  pub the_only_live : (r : Run) → count_by (is_live_in es name) runs ≡ 1 → find (is_live_in es name) runs ≡ Some r → entry_numbered r.entry es ≡ the_only_one (filter runs_here es)
  the_only_live r one found =
      let live = found_passes (is_live_in es name) r runs found in
      let parts = and_parts (bytes_eq r.queue name) (option_map_or runs_here (entry_numbered r.entry es) false) live in
      let both = entry_of_live r (entry_numbered r.entry es) refl parts.1 in
      let size = length-filter runs_here es in
      sym (only_is_first runs_here es (sym as_many_live ∙ one)
      ∙ found_same runs_here (numbered r.entry) es (omega (arith, size, as_many_live, one)) (once (λ (e : Entry). e.number) r.entry es order) both)

-- ---- the least number of an entry whose run passes

module _ (runs : List Run) (es : List Entry) (mirror : Mirrors runs es) (order : OrderedEntries es) (test : Run → Bool) (p : Entry → Bool) (same : All (λ (e : Entry). of_its_run test e ≡ p e) es) where
  abbrev numbers : List ℕ
  numbers = map (λ (r : Run). r.entry) (filter test runs)

  asked_of_numbers : (u : ℕ → Bool) → count_by u numbers ≡ count_by (λ (e : Entry). p e && u e.number) es
  asked_of_numbers u =
      count_map u (λ (r : Run). r.entry) (filter test runs)
      ∙ count_filter (λ (r : Run). u r.entry) test runs
      ∙ count_with runs es mirror test p same u

  none_passes : numbers ≡ [] → find p es ≡ None
  none_passes none =
      not_found p es
      (sym (count_as runs es mirror test p same)
      ∙ sym (length-filter test runs)
      ∙ sym (length-map (filter test runs) (λ (r : Run). r.entry))
      ∙ ap length none)

  first_at : (o : Option ℕ) → reduce min numbers ≡ o → o ≡ option_map (λ (e : Entry). e.number) (find p es)
  first_at None is = sym (ap (option_map (λ (e : Entry). e.number)) (none_passes (none_is_least numbers is)))
  first_at (Some n) is =
      let least = least_is n numbers is in
      sym (least_is_first (λ (e : Entry). e.number) p n es order
      (sym (asked_of_numbers (λ m. nat_lt m n)) ∙ least.none)
      (omega (arith, least.there, asked_of_numbers (λ m. m == n))))

  pub first_passing : reduce min numbers ≡ option_map (λ (e : Entry). e.number) (find p es)
  first_passing = first_at (reduce min numbers) refl

-- whose run is for a queue
pub first_for : (runs : List Run) (es : List Entry) → Mirrors runs es → OrderedEntries es → (name : List ℕ)
    → reduce min (map (λ (r : Run). r.entry) (filter (is_run_for es name) runs)) ≡ option_map (λ (e : Entry). e.number) (find (runs_for name) es)
first_for runs es mirror order name = first_passing runs es mirror order (is_run_for es name) (runs_for name) (run_for es name (each_found (λ (e : Entry). e.number) es order))

-- whose run is on one of some nodes
first_on : (runs : List Run) (es : List Entry) → Mirrors runs es → OrderedEntries es → (nodes : List (List ℕ))
    → reduce min (map (λ (r : Run). r.entry) (filter (λ r. is_among nodes r.node) runs)) ≡ option_map (λ (e : Entry). e.number) (find (is_run_on_one nodes) es)
first_on runs es mirror order nodes = first_passing runs es mirror order (λ r. is_among nodes r.node) (is_run_on_one nodes) (run_on_one nodes es)

-- an entry that passes is found by its number
pub found_by_number : (p : Entry → Bool) (e : Entry) (es : List Entry) → OrderedEntries es → find p es ≡ Some e → entry_numbered e.number es ≡ Some e
found_by_number p e es order found =
    subst (λ (o : Option Entry). IfSome o (λ x. entry_numbered x.number es ≡ Some x)) found
    (found_all (λ (x : Entry). entry_numbered x.number es ≡ Some x) p es (each_found (λ (x : Entry). x.number) es order))

by_number : (p : Entry → Bool) (es : List Entry) → OrderedEntries es → (n : ℕ) (o : Option Entry) → find p es ≡ o → Some n ≡ option_map (λ (e : Entry). e.number) o → entry_numbered n es ≡ o
by_number p es order n None found is = absurd (cc)
by_number p es order n (Some e) found is =
    let same : n ≡ e.number = cc in
    ap (λ m. entry_numbered m es) same ∙ found_by_number p e es order found

pub entry_on_one : (runs : List Run) (es : List Entry) → Mirrors runs es → OrderedEntries es → (nodes : List (List ℕ)) (n : ℕ)
    → Some n ≡ reduce min (map (λ (r : Run). r.entry) (filter (λ r. is_among nodes r.node) runs)) → entry_numbered n es ≡ find (is_run_on_one nodes) es
entry_on_one runs es mirror order nodes n is = by_number (is_run_on_one nodes) es order n (find (is_run_on_one nodes) es) refl (is ∙ first_on runs es mirror order nodes)

nothing_found : (o : Option Entry) → None ≡ option_map (λ (e : Entry). e.number) o → o ≡ None
nothing_found None is = refl
nothing_found (Some e) is = absurd (cc)

pub none_on_one : (runs : List Run) (es : List Entry) → Mirrors runs es → OrderedEntries es → (nodes : List (List ℕ))
    → None ≡ reduce min (map (λ (r : Run). r.entry) (filter (λ r. is_among nodes r.node) runs)) → find (is_run_on_one nodes) es ≡ None
none_on_one runs es mirror order nodes is = nothing_found (find (is_run_on_one nodes) es) (is ∙ first_on runs es mirror order nodes)
