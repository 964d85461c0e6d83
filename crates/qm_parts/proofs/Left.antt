-- What the runs are once something became of an entry.
use Rattle.std.proofs.Common.{◌≡◌, ◌∙◌, ℕ, ◌+◌, ◌==◌, Bool, true, false, not, ◌&&◌, nat_lt, cond, List, [], ◌∷◌, ◌++◌, append-nil, get_or, count_by, Option, None, Some, refl, sym, ap, subst, arith, option_to_list, MatchOption, IfSome, nat_cmp, eqb-true}
use Rattle.std.specs.List.{All, cons_option}
use Rattle.std.specs.Option.{option_map, option_map_or, option_and_then}
use Rattle.std.proofs.lemmas.Bool.Decides.{nat_tests}
use Rattle.std.proofs.lemmas.List.Elements.{All-head, All-tail, filter_map-append}
use Rattle.qm_model.specs.Common.{Entry, Pending, Running, Run, IsInOrder, entry_numbered, run_of, with_entry, has_run, is_executing}
use Rattle.qm_tables.proofs.Outcomes.{flat_same}
use Rattle.qm_tables.specs.Runs.{with_run, without_run, new_run}
use Rattle.qm_parts.specs.Mirror.{Mirrors, run_of_entry, runs_of}
use Rattle.qm_parts.proofs.Counts.{one_if, count_cons, count_append, count_inserted, count_agree, count_filter, count_none, none_counted, found_counted, all_fail, same_tests, other_fails, both_le_second, and_swap}
use Rattle.qm_parts.proofs.Ordered.{once, each_found}
use Rattle.qm_parts.proofs.Mirrored.{of_its_run, count_with, count_runs_cons, count_others, its_number, its_run, and_never, no_run, no_run_back}

abbrev numbered : ℕ → Entry → Bool
numbered n e = e.number == n

-- the runs of what becomes of an entry
abbrev pub left_runs : (Entry → Option Entry) → Entry → List Run
left_runs outcome e = runs_of (option_to_list (outcome e))

runs_append : (xs ys : List Entry) → runs_of (xs ++ ys) ≡ runs_of xs ++ runs_of ys
runs_append xs ys = filter_map-append run_of_entry xs ys

-- ---- how many runs there are afterwards: those of the others, and those of what became of it

module _ (test : Run → Bool) (n : ℕ) (outcome : Entry → Option Entry) (b : Bool) where
  abbrev others : Entry → Bool
  others e = not (numbered n e) && of_its_run test e

  abbrev it : Entry → Bool
  it e = numbered n e && b

  after_at : (e : Entry) (rest es : List Entry) (c : Bool) → (c ≡ true → count_by test (left_runs outcome e) ≡ one_if b) → count_by test (runs_of rest) ≡ count_by others es + count_by it es
      → count_by test (runs_of (cond c (option_to_list (outcome e)) (e ∷ []) ++ rest)) ≡ (one_if (not c && of_its_run test e) + count_by others es) + (one_if (c && b) + count_by it es)
  after_at e rest es true left later =
      ap (count_by test) (runs_append (option_to_list (outcome e)) rest)
      ∙ omega (arith, count_append test (left_runs outcome e) (runs_of rest), left refl, later)
  after_at e rest es false left later = omega (arith, count_runs_cons test e rest, later)

  pub runs_after : (es : List Entry) → All (λ e. numbered n e ≡ true → count_by test (left_runs outcome e) ≡ one_if b) es
      → count_by test (runs_of (with_entry n outcome es)) ≡ count_by others es + count_by it es
  runs_after [] left = refl
  runs_after (e ∷ es) left =
      after_at e (with_entry n outcome es) es (numbered n e) (All-head (λ x. numbered n x ≡ true → count_by test (left_runs outcome x) ≡ one_if b) e es left)
      (runs_after es (All-tail (λ x. numbered n x ≡ true → count_by test (left_runs outcome x) ≡ one_if b) e es left))
      ∙ omega (arith, count_cons others e es, count_cons it e es)

-- ---- the entry of the number alone

that_one_at : (n : ℕ) (e x : Entry) (es : List Entry) → entry_numbered n es ≡ Some e → entry_numbered x.number es ≡ Some x → numbered n x ≡ true → x ≡ e
that_one_at n e x es found itself is =
    let P : ℕ → Type 0 = λ m. entry_numbered m es ≡ Some x in
    let also : entry_numbered n es ≡ Some x = subst P (eqb-true x.number n is) itself in
    cc

pub that_one : (n : ℕ) (e : Entry) (es : List Entry) → IsInOrder nat_cmp (λ (x : Entry). x.number) es → entry_numbered n es ≡ Some e → All (λ x. numbered n x ≡ true → x ≡ e) es
that_one n e es order found k d within is = that_one_at n e (get_or es k d) es found (each_found (λ (x : Entry). x.number) es order k d within) is

-- ---- where nothing with a run is left

module _ (runs : List Run) (es : List Entry) (mirror : Mirrors runs es) (n : ℕ) (outcome : Entry → Option Entry) (none_left : All (λ e. numbered n e ≡ true → left_runs outcome e ≡ []) es) where
  abbrev of_another : Run → Bool
  of_another r = not (r.entry == n)

  others_left : (test : Run → Bool) → count_by (λ r. of_another r && test r) runs ≡ count_by test (runs_of (with_entry n outcome es))
  others_left test =
      let no_more = count_none (λ (e : Entry). numbered n e && false) es (λ k d within. and_never (numbered n (get_or es k d))) in
      let after = runs_after test n outcome false es (λ k d within is. ap (count_by test) (none_left k d within is)) in
      omega (arith, count_others runs es mirror test (λ m. not (m == n)), no_more, after)

  -- and the entry had no run,
  pub unrun : count_by (λ (r : Run). r.entry == n) runs ≡ 0 → Mirrors runs (with_entry n outcome es)
  unrun none = record {
    counts = λ test.
        count_agree test (λ r. of_another r && test r) runs (λ k d within. ap (λ (b : Bool). not b && test (get_or runs k d)) (sym (all_fail (λ (r : Run). r.entry == n) runs none k d within)))
        ∙ others_left test;
  }

  -- or its run goes
  pub ended_run : (m : ℕ) → All (λ (r : Run). (r.run == m) ≡ (r.entry == n)) runs → Mirrors (without_run m runs) (with_entry n outcome es)
  ended_run m same = record {
    counts = λ test.
        count_filter test (λ (r : Run). not (r.run == m)) runs
        ∙ count_agree (λ (r : Run). not (r.run == m) && test r) (λ r. of_another r && test r) runs (λ k d within. ap (λ (b : Bool). not b && test (get_or runs k d)) (same k d within))
        ∙ others_left test;
  }

-- ---- the run of an entry in the table

module _ (runs : List Run) (es : List Entry) (mirror : Mirrors runs es) (n : ℕ) where
  as_executing : count_by (λ (r : Run). r.entry == n) runs ≡ count_by (λ e. is_executing e && numbered n e) es
  as_executing = count_with runs es mirror (λ (r : Run). true) is_executing (its_run es) (λ m. m == n)

  pub none_of_absent : entry_numbered n es ≡ None → count_by (λ (r : Run). r.entry == n) runs ≡ 0
  none_of_absent none = omega (arith, as_executing, both_le_second is_executing (numbered n) es, none_counted (numbered n) es none)

  module _ (order : IsInOrder nat_cmp (λ (x : Entry). x.number) es) (e : Entry) (found : entry_numbered n es ≡ Some e) where
    pub none_of_idle : run_of e.state ≡ None → count_by (λ (r : Run). r.entry == n) runs ≡ 0
    none_of_idle idle =
        let fails : is_executing e ≡ false = ap (λ (o : Option ℕ). option_map_or (λ (r : ℕ). true) o false) idle in
        as_executing
        ∙ count_agree (λ x. is_executing x && numbered n x) (λ x. numbered n x && is_executing x) es (λ k d within. and_swap (is_executing (get_or es k d)) (numbered n (get_or es k d)))
        ∙ other_fails (numbered n) is_executing e es (once (λ (x : Entry). x.number) n es order) found fails

    pub its_own : IsInOrder nat_cmp (λ (r : Run). r.run) runs → (m : ℕ) → run_of e.state ≡ Some m → All (λ (r : Run). (r.run == m) ≡ (r.entry == n)) runs
    its_own in_order m is =
        same_tests (λ (r : Run). r.run == m) (λ (r : Run). r.entry == n) runs
        (once (λ (r : Run). r.run) m runs in_order)
        (omega (arith, as_executing, both_le_second is_executing (numbered n) es, once (λ (x : Entry). x.number) n es order))
        (omega (arith, count_with runs es mirror (λ (r : Run). r.run == m) (has_run m) (its_number m es) (λ k. k == n), found_counted (has_run m) (numbered n) e es found has))
      where
        itself : (k : ℕ) → (k == k) ≡ true
        itself k = grind (arith, nat_tests)

        has : has_run m e ≡ true
        has = ap (λ (o : Option ℕ). option_map_or (λ (r : ℕ). r == m) o false) is ∙ itself m

-- an entry goes, or stays with no run, and its run goes with it
module _ (runs : List Run) (es : List Entry) (mirror : Mirrors runs es) (n : ℕ) (outcome : Entry → Option Entry) (none_left : All (λ e. numbered n e ≡ true → left_runs outcome e ≡ []) es)
    (order : IsInOrder nat_cmp (λ (x : Entry). x.number) es) (in_order : IsInOrder nat_cmp (λ (r : Run). r.run) runs) (e : Entry) (found : entry_numbered n es ≡ Some e) (rs : List Run) where
  gone_at : (o : Option ℕ) → run_of e.state ≡ o → MatchOption o (rs ≡ runs) (λ run. rs ≡ without_run run runs) → Mirrors rs (with_entry n outcome es)
  gone_at None is left =
      let P : List Run → Type 0 = λ xs. Mirrors xs (with_entry n outcome es) in
      subst P (sym left) (unrun runs es mirror n outcome none_left (none_of_idle runs es mirror n order e found is))
  gone_at (Some m) is left =
      let P : List Run → Type 0 = λ xs. Mirrors xs (with_entry n outcome es) in
      subst P (sym left) (ended_run runs es mirror n outcome none_left m (its_own runs es mirror n order e found in_order m is))

  pub entry_gone : MatchOption (run_of e.state) (rs ≡ runs) (λ run. rs ≡ without_run run runs) → Mirrors rs (with_entry n outcome es)
  entry_gone left = gone_at (run_of e.state) refl left

-- ---- where the run stays

pub stays : (runs : List Run) (es xs : List Entry) → Mirrors runs es → runs_of xs ≡ runs_of es → Mirrors runs xs
stays runs es xs mirror same = record { counts = λ test. mirror.counts test ∙ ap (count_by test) (sym same) }

module _ (n : ℕ) (outcome : Entry → Option Entry) where
  kept_at : (e : Entry) (rest es : List Entry) (c : Bool) → (c ≡ true → left_runs outcome e ≡ runs_of (e ∷ [])) → runs_of rest ≡ runs_of es
      → runs_of (cond c (option_to_list (outcome e)) (e ∷ []) ++ rest) ≡ runs_of (e ∷ es)
  kept_at e rest es true left later =
      runs_append (option_to_list (outcome e)) rest
      ∙ ap (λ (rs : List Run). rs ++ runs_of rest) (left refl)
      ∙ ap (λ (rs : List Run). runs_of (e ∷ []) ++ rs) later
      ∙ sym (runs_append (e ∷ []) es)
  kept_at e rest es false left later =
      runs_append (e ∷ []) rest ∙ ap (λ (rs : List Run). runs_of (e ∷ []) ++ rs) later ∙ sym (runs_append (e ∷ []) es)

  pub kept_runs : (es : List Entry) → All (λ e. numbered n e ≡ true → left_runs outcome e ≡ runs_of (e ∷ [])) es → runs_of (with_entry n outcome es) ≡ runs_of es
  kept_runs [] left = refl
  kept_runs (e ∷ es) left =
      kept_at e (with_entry n outcome es) es (numbered n e) (All-head (λ x. numbered n x ≡ true → left_runs outcome x ≡ runs_of (x ∷ [])) e es left)
      (kept_runs es (All-tail (λ x. numbered n x ≡ true → left_runs outcome x ≡ runs_of (x ∷ [])) e es left))

-- an entry with no run comes behind the others
pub idle_added : (es : List Entry) (e : Entry) → run_of e.state ≡ None → runs_of (es ++ e ∷ []) ≡ runs_of es
idle_added es e idle =
    runs_append es (e ∷ []) ∙ ap (λ (o : Option Run). runs_of es ++ cons_option o []) (no_run e idle) ∙ append-nil (runs_of es)

-- an entry comes behind the others, with its run
module _ (runs : List Run) (es : List Entry) (mirror : Mirrors runs es) (e : Entry) where
  restored_at : (o : Option Run) (rs : List Run) → run_of_entry e ≡ o → MatchOption o (rs ≡ runs) (λ r. rs ≡ with_run r runs) → Mirrors rs (es ++ e ∷ [])
  restored_at None rs is left =
      let P : List Run → Type 0 = λ xs. Mirrors xs (es ++ e ∷ []) in
      subst P (sym left) (stays runs es (es ++ e ∷ []) mirror (runs_append es (e ∷ []) ∙ ap (λ (o : Option Run). runs_of es ++ cons_option o []) is ∙ append-nil (runs_of es)))
  restored_at (Some r) rs is left =
      let P : List Run → Type 0 = λ xs. Mirrors xs (es ++ e ∷ []) in
      subst P (sym left) (record {
        counts = λ test.
            let one = count_cons test r [] in
            let more = count_append test (runs_of es) (r ∷ []) in
            let now = ap (count_by test) (runs_append es (e ∷ []) ∙ ap (λ (o : Option Run). runs_of es ++ cons_option o []) is) in
            omega (arith, count_inserted test (λ (a b : Run). nat_lt a.run b.run) r runs, mirror.counts test, one, more, now);
      })

  pub restored : (rs : List Run) → MatchOption (run_of_entry e) (rs ≡ runs) (λ r. rs ≡ with_run r runs) → Mirrors rs (es ++ e ∷ [])
  restored rs left = restored_at (run_of_entry e) rs refl left

-- no entry has the number
pub absent_stays : (n : ℕ) (outcome : Entry → Option Entry) (es : List Entry) → entry_numbered n es ≡ None → with_entry n outcome es ≡ es
absent_stays n outcome es none = flat_same (numbered n) outcome es (all_fail (numbered n) es (none_counted (numbered n) es none))

-- another entry takes the place of the one of its number, and has its run
module _ (es : List Entry) (order : IsInOrder nat_cmp (λ (x : Entry). x.number) es) (new old : Entry) (found : entry_numbered new.number es ≡ Some old) where
  same_run_at : (o : Option Run) → run_of_entry new ≡ o → IfSome o (λ run. option_and_then run_of_entry (entry_numbered new.number es) ≡ Some run) → (o ≡ None → ⊥) → run_of_entry new ≡ run_of_entry old
  same_run_at None is keeps some = absurd (some refl)
  same_run_at (Some r) is keeps some =
      let also : run_of_entry old ≡ Some r = sym (ap (option_and_then run_of_entry) found) ∙ keeps in
      is ∙ sym also

  pub same_run : IfSome (run_of_entry new) (λ run. option_and_then run_of_entry (entry_numbered new.number es) ≡ Some run) → (run_of new.state ≡ None → ⊥) → runs_of (with_entry new.number (λ e. Some new) es) ≡ runs_of es
  same_run keeps some =
      kept_runs new.number (λ (e : Entry). Some new) es
      (λ k d within is.
      ap (λ (o : Option Run). cons_option o [])
      (same_run_at (run_of_entry new) refl keeps (λ none. some (no_run_back new none))
      ∙ ap run_of_entry (sym (that_one new.number old es order found k d within is))))

-- what becomes of an entry is settled by what becomes of the one of the number
module _ (n : ℕ) (f g : Entry → Option Entry) where
  agree_at : (e : Entry) (xs ys : List Entry) (c : Bool) → (c ≡ true → f e ≡ g e) → xs ≡ ys → (cond c (option_to_list (f e)) (e ∷ []) ++ xs) ≡ (cond c (option_to_list (g e)) (e ∷ []) ++ ys)
  agree_at e xs ys true same rest = ap (λ (o : Option Entry). option_to_list o ++ xs) (same refl) ∙ ap (λ (zs : List Entry). option_to_list (g e) ++ zs) rest
  agree_at e xs ys false same rest = ap (λ (zs : List Entry). e ∷ zs) rest

  pub agree_on : (es : List Entry) → All (λ e. numbered n e ≡ true → f e ≡ g e) es → with_entry n f es ≡ with_entry n g es
  agree_on [] same = refl
  agree_on (e ∷ es) same =
      agree_at e (with_entry n f es) (with_entry n g es) (numbered n e) (All-head (λ x. numbered n x ≡ true → f x ≡ g x) e es same)
      (agree_on es (All-tail (λ x. numbered n x ≡ true → f x ≡ g x) e es same))

  pub agree_at_it : (es : List Entry) → IsInOrder nat_cmp (λ (x : Entry). x.number) es → (e : Entry) → entry_numbered n es ≡ Some e → f e ≡ g e → with_entry n f es ≡ with_entry n g es
  agree_at_it es order e found same = agree_on es (λ k d within is. let it = that_one n e es order found k d within is in ap f it ∙ same ∙ sym (ap g it))

itself_at : (n : ℕ) (e : Entry) (xs ys : List Entry) (c : Bool) → xs ≡ ys → (cond c (option_to_list (Some e)) (e ∷ []) ++ xs) ≡ e ∷ ys
itself_at n e xs ys true rest = ap (λ (zs : List Entry). e ∷ zs) rest
itself_at n e xs ys false rest = ap (λ (zs : List Entry). e ∷ zs) rest

all_stay : (n : ℕ) (es : List Entry) → with_entry n (λ e. Some e) es ≡ es
all_stay n [] = refl
all_stay n (e ∷ es) = itself_at n e (with_entry n (λ x. Some x) es) es (numbered n e) (all_stay n es)

pub stays_at_it : (n : ℕ) (f : Entry → Option Entry) (es : List Entry) → IsInOrder nat_cmp (λ (x : Entry). x.number) es → (e : Entry) → entry_numbered n es ≡ Some e → f e ≡ Some e → with_entry n f es ≡ es
stays_at_it n f es order e found same = agree_at_it n f (λ x. Some x) es order e found same ∙ all_stay n es

-- ---- where a run begins

module _ (runs : List Run) (es : List Entry) (mirror : Mirrors runs es) (n : ℕ) (outcome : Entry → Option Entry) (r : Run)
    (left : All (λ e. numbered n e ≡ true → left_runs outcome e ≡ r ∷ []) es) where
  one_test : (test : Run → Bool) (b : Bool) → test r ≡ b → count_by test (r ∷ []) ≡ one_if b
  one_test test b is = omega (arith, count_cons test r [], ap one_if is)

  once_counted : (b : Bool) → count_by (numbered n) es ≡ 1 → count_by (λ e. numbered n e && b) es ≡ one_if b
  once_counted true one = count_agree (λ e. numbered n e && true) (numbered n) es (λ k d within. and_always (numbered n (get_or es k d))) ∙ one
    where
      and_always : (b : Bool) → (b && true) ≡ b
      and_always true = refl
      and_always false = refl
  once_counted false one = count_none (λ (e : Entry). numbered n e && false) es (λ k d within. and_never (numbered n (get_or es k d)))

  pub begun_run : count_by (λ (x : Run). x.entry == n) runs ≡ 0 → count_by (numbered n) es ≡ 1 → Mirrors (runs ++ r ∷ []) (with_entry n outcome es)
  begun_run none one = record {
    counts = λ test.
        let before = count_agree test (λ (x : Run). not (x.entry == n) && test x) runs
        (λ k d within. ap (λ (b : Bool). not b && test (get_or runs k d)) (sym (all_fail (λ (x : Run). x.entry == n) runs none k d within))) in
        let after = runs_after test n outcome (test r) es (λ k d within is. ap (count_by test) (left k d within is) ∙ one_test test (test r) refl) in
        omega (arith, count_append test runs (r ∷ []), one_test test (test r) refl, before, count_others runs es mirror test (λ m. not (m == n)), after, once_counted (test r) one);
  }

-- a pending job runs
module _ (runs : List Run) (es : List Entry) (mirror : Mirrors runs es) (order : IsInOrder nat_cmp (λ (x : Entry). x.number) es) (n run : ℕ) (queue node : List ℕ) where
  abbrev running : Entry → Option Entry
  running e = Some (record e { state = Running queue node run })

  start_at : (o : Option Entry) → entry_numbered n es ≡ o → option_map (λ (e : Entry). e.state) o ≡ Some Pending → Mirrors (runs ++ new_run run n queue node ∷ []) (with_entry n running es)
  start_at None found pending = absurd (cc)
  start_at (Some e) found pending =
      let state : e.state ≡ Pending = cc in
      begun_run runs es mirror n running (new_run run n queue node) (λ k d within is. ap (λ (m : ℕ). new_run run m queue node ∷ []) (eqb-true (get_or es k d).number n is))
      (none_of_idle runs es mirror n order e found (ap run_of state))
      (omega (arith, once (λ (x : Entry). x.number) n es order, found_counted (λ (x : Entry). true) (numbered n) e es found refl))

  pub start_mirrors : option_map (λ (e : Entry). e.state) (entry_numbered n es) ≡ Some Pending → Mirrors (runs ++ new_run run n queue node ∷ []) (with_entry n running es)
  start_mirrors pending = start_at (entry_numbered n es) refl pending
