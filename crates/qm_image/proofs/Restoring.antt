-- The entries of a system, put into its tables one after another.
use Rattle.std.proofs.Common.{◌≡◌, ◌≢◌, ◌∙◌, ℕ, ◌+◌, ◌<◌, ◌==◌, Bool, true, false, cond, List, [], ◌∷◌, ◌++◌, length, get_or, take, Option, None, Some, IfSome, refl, sym, ap, subst, arith, nat_cmp, Less, eqb-true}
use Rattle.std.specs.List.{All, AllPairs, list_any}
use Rattle.std.specs.Option.{option_map_or}
use Rattle.std.proofs.lemmas.Bool.Decides.{nat_tests}
use Rattle.std.proofs.lemmas.List.{append-nil, get_or-take, get_or_default, length-take-le, take_more}
use Rattle.std.proofs.lemmas.List.Elements.{All-weaker}
use Rattle.std.proofs.lemmas.List.Folds.{list_any_none}
use Rattle.qm_model.specs.Common.{Entry, EntryState, Pending, Holding, Timed, Running, Aborting, Retained, System, IsConsistent, IsEntry, run_of, has_run}
use Rattle.qm_parts.specs.Mirror.{run_of_entry, run_in_state}
use Rattle.qm_parts.specs.Tables.{Tables, with_tables}
use Rattle.qm_image.specs.Restoring.{DifferInEntries}
use Rattle.qm_tables.specs.Spool.{Counted, count_of}
use Rattle.qm_tables.specs.Timers.{moment_of}
use Rattle.qm_image.specs.Timers.{AreTimersOf, moment_in}
use Rattle.qm_image.proofs.Timed.{timers_behind}
use Rattle.qm_tables.specs.SpoolCounts.{CountsOf, IsCountedAs}
use Rattle.qm_tables.proofs.SpoolCounting.{counts_entered}

less_is : (m n : ℕ) → nat_cmp m n ≡ Less → m < n
less_is m n h = grind (arith, nat_tests)

-- those before the element of a place
pairs_before : {X : Type 0} (R : X → X → Type 0) (xs : List X) (i : ℕ) (x : X) → i < length xs → x ≡ get_or xs i x → AllPairs R xs → All (λ y. R y x) (take i xs)
pairs_before {X} R xs i x within is pairs = λ k d below.
    let low : k < i = omega (arith, below, length-take-le i xs (omega (arith, within))) in
    subst (λ (y : X). R y x) (sym (get_or-take i xs k d low))
    (subst (λ (z : X). R (get_or xs k d) z) (get_or_default xs i d x within ∙ sym is) (pairs k i d low within))

apart : (run : ℕ) (o : Option ℕ) → IfSome o (λ k. Some run ≢ Some k) → option_map_or (λ k. k == run) o false ≡ false
apart run None other = refl
apart run (Some k) other = step (k == run) refl
  where
    step : (b : Bool) → (k == run) ≡ b → (k == run) ≡ false
    step false is = is
    step true is = absurd (other (ap Some (sym (eqb-true k run is))))

abbrev HasOther : EntryState → Entry → Type 0
HasOther st y = IfSome (run_of y.state) (λ k. run_of st ≢ Some k)

-- the run of a state was given, and none of these entries has it
run_given : (number next : ℕ) (st : EntryState) (ys : List Entry) → IfSome (run_of st) (λ run. (0 < run) × (run < next)) → All (HasOther st) ys → IfSome (run_in_state number st) (λ r. (r.run < next) × (list_any (has_run r.run) ys ≡ false))
run_given number next Pending ys given others = tt
run_given number next Holding ys given others = tt
run_given number next (Timed at) ys given others = tt
run_given number next (Retained status until) ys given others = tt
run_given number next (Running queue node run) ys given others =
    (given.1, list_any_none (has_run run) ys (All-weaker (HasOther (Running queue node run)) (λ (y : Entry). has_run run y ≡ false) (λ y h. apart run (run_of y.state) h) ys others))
run_given number next (Aborting queue node run fate) ys given others =
    (given.1, list_any_none (has_run run) ys (All-weaker (HasOther (Aborting queue node run fate)) (λ (y : Entry). has_run run y ≡ false) (λ y h. apart run (run_of y.state) h) ys others))

module _ (s : System) (h : IsConsistent s) (i : ℕ) (e : Entry) (within : i < length s.entries) (is : e ≡ get_or s.entries i e) (t : Tables) (before : with_tables s t ≡ record s { entries = take i s.entries }) where
  so_far : t.entries ≡ take i s.entries
  so_far = ap (λ (x : System). x.entries) before

  it_is_entry : IsEntry s e
  it_is_entry = subst (IsEntry s) (sym is) (h.entries.each i e within)

  pub number_last : All (λ (x : Entry). x.number < e.number) t.entries
  number_last =
      subst (λ (es : List Entry). All (λ (x : Entry). x.number < e.number) es) (sym so_far)
      (All-weaker (λ (x : Entry). nat_cmp x.number e.number ≡ Less) (λ (x : Entry). x.number < e.number) (λ x less. less_is x.number e.number less) (take i s.entries)
      (pairs_before (λ (a b : Entry). nat_cmp a.number b.number ≡ Less) s.entries i e within is h.entries.order))

  pub run_free : IfSome (run_of_entry e) (λ r. (r.run < t.next_run) × (list_any (has_run r.run) t.entries ≡ false))
  run_free =
      subst (λ (next : ℕ). IfSome (run_of_entry e) (λ r. (r.run < next) × (list_any (has_run r.run) t.entries ≡ false))) (sym (ap (λ (x : System). x.next_run) before))
      (subst (λ (es : List Entry). IfSome (run_of_entry e) (λ r. (r.run < s.next_run) × (list_any (has_run r.run) es ≡ false))) (sym so_far)
      (run_given e.number s.next_run e.state (take i s.entries) it_is_entry.run (runs_apart (pairs_before (λ (a b : Entry). IfSome (run_of a.state) (λ run. run_of b.state ≢ Some run)) s.entries i e within is h.entries.runs))))
    where
      runs_apart : All (λ (a : Entry). IfSome (run_of a.state) (λ run. run_of e.state ≢ Some run)) (take i s.entries) → All (HasOther e.state) (take i s.entries)
      runs_apart k = k

  module _ (new : Tables) (more : new.entries ≡ t.entries ++ e ∷ []) where
    pub restored_more : DifferInEntries t new → with_tables s new ≡ record s { entries = take (i + 1) s.entries }
    restored_more same =
        ap (with_tables s) same
        ∙ ap (λ (x : System). record x { entries = new.entries }) before
        ∙ ap (λ (es : List Entry). record s { entries = es })
        (more ∙ ap (λ (es : List Entry). es ++ e ∷ []) so_far ∙ ap (λ (x : Entry). take i s.entries ++ x ∷ []) is ∙ sym (take_more s.entries i e within))

    pub counted_more : (old counts : List Counted) → CountsOf t.entries old → IsCountedAs e.file (count_of e.file old + 1) old counts → CountsOf new.entries counts
    counted_more old counts of changed =
        subst (λ (es : List Entry). CountsOf es counts) (sym more)
        (counts_entered old counts e t.entries [] (subst (λ (es : List Entry). CountsOf es old) (sym (append-nil t.entries)) of) changed)

    pub timed_more : (old timers : List (ℕ × ℕ)) → AreTimersOf t.entries old → ((m : ℕ) → moment_of m timers ≡ cond (e.number == m) (moment_in e.state) (moment_of m old)) → AreTimersOf new.entries timers
    timed_more old timers are set = subst (λ (es : List Entry). AreTimersOf es timers) (sym more) (timers_behind e t.entries old timers number_last are set)
