-- What a place by number says of runs, and what keeps them by number.
use Rattle.std.proofs.Common.{◌≡◌, ◌∙◌, ℕ, suc, ◌+◌, ◌<◌, ◌≤◌, ◌==◌, nat_lt, Bool, cond, List, [], ◌∷◌, ◌++◌, length, get_or, take, drop, Some, None, sym, ap, arith, insert, remove, nat_cmp, Less, Equal, Greater, lt-ltb, take-append-drop}
use Rattle.std.specs.Cmp.{nat_cmp_total, unsigned_ties}
use Rattle.std.proofs.lemmas.List.Elements.{All-append, All-cons, All-take, All-drop, All-push, All-weaker}
use Rattle.qm_model.specs.Common.{Run, inserted}
use Rattle.qm_keyed.specs.Places.{StandsAt, BelongsAt}
use Rattle.qm_keyed.proofs.Rows.{passes, fails, find_at, find_none, filter_at, filter_none, lesser_is}
use Rattle.qm_keyed.proofs.Inserted.{inserted_at}
use Rattle.qm_keyed.proofs.Orders.{order_around, order_removed, order_pushed}
use Rattle.qm_tables.specs.Runs.{Begun, run_numbered, with_run, without_run}
use Rattle.qm_tables.specs.RunsNumbered.{AreNumbered}

abbrev pub number_of : Run → ℕ
number_of r = r.run

module _ (runs : List Run) (n i : ℕ) where
  pub found : (d : Run) → StandsAt nat_cmp number_of n runs i → run_numbered n runs ≡ Some (get_or runs i d)
  found d stands = find_at (λ (r : Run). r.run == n) runs i d (passes number_of n (λ (r : Run). r.run == n) (λ r. unsigned_ties r.run n) runs i stands)

  pub absent : BelongsAt nat_cmp number_of n runs i → run_numbered n runs ≡ None
  absent belongs = find_none (λ (r : Run). r.run == n) runs (fails number_of n (λ (r : Run). r.run == n) (λ r. unsigned_ties r.run n) runs i belongs)

  pub removed : StandsAt nat_cmp number_of n runs i → remove runs i ≡ without_run n runs
  removed stands = sym (filter_at (λ (r : Run). r.run == n) runs i (passes number_of n (λ (r : Run). r.run == n) (λ r. unsigned_ties r.run n) runs i stands))

  pub kept : BelongsAt nat_cmp number_of n runs i → runs ≡ without_run n runs
  kept belongs = sym (filter_none (λ (r : Run). r.run == n) runs (fails number_of n (λ (r : Run). r.run == n) (λ r. unsigned_ties r.run n) runs i belongs))

pub put_is : (runs : List Run) (i : ℕ) (run : Run) → BelongsAt nat_cmp number_of run.run runs i → insert runs i run ≡ with_run run runs
put_is runs i run belongs =
    sym (inserted_at nat_cmp_total number_of (λ (a b : Run). nat_lt a.run b.run) run (λ y. lesser_is run.run y.run) runs i i belongs.before belongs.behind)
    ∙ ap (inserted (λ (a b : Run). nat_lt a.run b.run) run) (take-append-drop i runs)

-- each call keeps the runs as they are to be kept
module _ (runs : List Run) (next : ℕ) (numbered : AreNumbered runs next) where
  pub numbered_removed : (i : ℕ) → length (remove runs i) ≤ length runs → AreNumbered (remove runs i) next
  numbered_removed i fewer = record {
    order = order_removed nat_cmp_total number_of runs numbered.order i;
    below = All-append (λ (r : Run). r.run < next) (take i runs) (drop (suc i) runs) (All-take (λ (r : Run). r.run < next) i runs numbered.below) (All-drop (λ (r : Run). r.run < next) (suc i) runs numbered.below);
    few = omega (arith, fewer, numbered.few);
  }

  pub numbered_put : (i : ℕ) (run : Run) → BelongsAt nat_cmp number_of run.run runs i → run.run < next → length (insert runs i run) ≤ 4294967295 → AreNumbered (insert runs i run) next
  numbered_put i run belongs below few = record {
    order = order_around nat_cmp_total number_of runs numbered.order i i run (omega arith) belongs.before belongs.behind;
    below = All-append (λ (r : Run). r.run < next) (take i runs) (run ∷ drop i runs) (All-take (λ (r : Run). r.run < next) i runs numbered.below) (All-cons (λ (r : Run). r.run < next) run (drop i runs) below (All-drop (λ (r : Run). r.run < next) i runs numbered.below));
    few = few;
  }

  pub numbered_started : (run : Run) → run.run ≡ next → length (runs ++ run ∷ []) ≤ 4294967295 → AreNumbered (runs ++ run ∷ []) (next + 1)
  numbered_started run is few = record {
    order = order_pushed nat_cmp_total number_of runs numbered.order run (λ k d within. less (get_or runs k d) (numbered.below k d within));
    below = All-push (λ (r : Run). r.run < next + 1) runs run (All-weaker (λ (r : Run). r.run < next) (λ (r : Run). r.run < next + 1) (λ r lower. omega (arith, lower)) runs numbered.below) (omega (arith, is));
    few = few;
  }
    where
      less : (r : Run) → r.run < next → nat_cmp r.run run.run ≡ Less
      less r lower = ap (λ (c : Bool). cond c Less (cond (r.run == run.run) Equal Greater)) (lt-ltb r.run run.run (omega (arith, lower, is)))

-- what is seen of runs, by its parts
abbrev pub begun : List Run → ℕ → ℕ → Begun
begun runs next spare = record { runs = runs; next = next; spare = spare }

pub begun_is : (xs ys : List Run) (m n k l : ℕ) → xs ≡ ys → m ≡ n → k ≡ l → begun xs m k ≡ begun ys n l
begun_is xs ys m n k l runs next spare = ap (λ (rs : List Run). begun rs m k) runs ∙ ap (λ (i : ℕ). begun ys i k) next ∙ ap (λ (i : ℕ). begun ys n i) spare
