-- Each step that a node makes leaves fewer reports to the runs of its round.
use Rattle.std.proofs.Common.{◌≡◌, ◌∙◌, ℕ, ◌+◌, ◌<◌, ◌≤◌, Bool, true, false, not, cond, List, [], ◌∷◌, ◌++◌, length, map, filter_map, refl, sym, ap, subst, arith, Option, None, Some, ◌==◌, IfSome, sum_by}
use Rattle.std.specs.Option.{option_map_or}
use Rattle.std.proofs.lemmas.Bool.Decides.{nat_tests}
use Rattle.std.proofs.lemmas.List.Sums.{sum_by-cons, sum_by-le-sum_by, sum_by_push}
use Rattle.qm_history.specs.Common.{Place, Report, Work}
use Rattle.qm_kinds.specs.declared.work.Report.TheVariants.{Done, Mark}
use Rattle.qm_model.specs.Kept.{KeptRun, KeptRuns, StepEnd, WentOn, DeviceFailed, CutShort, behind_next, kept_behind, moved_to, next_kept, report_told, run_kept, without_run}
use Rattle.qm_model.specs.Reports.{EndOnce, GoOnAtMarks, Step, Handed, Reported, course, next_report, report_of, reports}
use Rattle.qm_model.proofs.ReportLemmas.{end_once, go_on_at_marks}
use Rattle.qm_node.specs.Measure.{reports_left, reports_of_run}
use Rattle.qm_node.proofs.Rounds.{kept_number}
use Rattle.qm_node.proofs.Rows.{itself, kept_without}

-- ---- reports

pub record Begins (told : Report) (all : List Report) : Type 0 where
  pub others : List Report
  pub is : all ≡ told ∷ others

begins : (steps : List Step) → EndOnce (filter_map report_of steps) → Begins (next_report steps) (filter_map report_of steps)
begins [] once = absurd once
begins (Handed block ∷ steps) once = begins steps once
begins (Reported told ∷ steps) once = record { others = filter_map report_of steps; is = refl }

first_report : (w : Work) (p : Place) → Begins (next_report (course w p)) (reports w p)
first_report w p = begins (course w p) (end_once w p)

some_report : (w : Work) (p : Place) → 0 < length (reports w p)
some_report w p = let first = first_report w p in subst (λ (rs : List Report). 0 < length rs) (sym first.is) (omega arith)

goes_on_at : (w : Work) (value : List ℕ) (next : Place) (all others : List Report) → all ≡ Mark value next ∷ others → GoOnAtMarks w all → reports w next ≡ others
goes_on_at w value next all others is goes = let there : GoOnAtMarks w (Mark value next ∷ others) = subst (λ (rs : List Report). GoOnAtMarks w rs) is goes in there.0

fewer_reports : (w : Work) (p next : Place) (value : List ℕ) → next_report (course w p) ≡ Mark value next → length (reports w next) < length (reports w p)
fewer_reports w p next value is =
    let first = first_report w p in
    let all : reports w p ≡ Mark value next ∷ first.others = first.is ∙ ap (λ (r : Report). r ∷ first.others) is in
    let left : reports w next ≡ first.others = goes_on_at w value next (reports w p) first.others all (go_on_at_marks w p) in
    subst (λ (rs : List Report). length (reports w next) < length rs) (sym all) (subst (λ (rs : List Report). length rs < length (Mark value next ∷ first.others)) (sym left) (omega arith))

marks_go_on : (k : KeptRun) (end : StepEnd) (value : List ℕ) (next : Place) → report_told k end ≡ Mark value next → length (reports k.work next) < length (reports k.work k.place)
marks_go_on k WentOn value next is = fewer_reports k.work k.place next value is
marks_go_on k DeviceFailed value next is = cc
marks_go_on k CutShort value next is = cc

-- ---- the runs that are left

flip : (a b : ℕ) → (a == b) ≡ false → (b == a) ≡ false
flip a b apart = grind (arith, nat_tests)

same_number : (a b : ℕ) → (a == b) ≡ true → a ≡ b
same_number a b same = grind (arith, nat_tests)

same_tests : (a b c : ℕ) → (a == b) ≡ true → (c == b) ≡ false → (a == c) ≡ false
same_tests a b c same apart = grind (arith, nat_tests)

none_without_at : (run : ℕ) (k : KeptRun) (rest : List KeptRun) → run_kept run rest ≡ None → (b : Bool) → (k.run == run) ≡ b → run_kept run (cond (not b) (k ∷ rest) rest) ≡ None
none_without_at run k rest on true is = on
none_without_at run k rest on false is = ap (λ (c : Bool). cond c (Some k) (run_kept run rest)) is ∙ on

none_without : (run : ℕ) (ks : List KeptRun) → run_kept run (without_run run ks) ≡ None
none_without run [] = refl
none_without run (k ∷ ks) = none_without_at run k (without_run run ks) (none_without run ks) (k.run == run) refl

less_without_at : (gone r : ℕ) (ks : List KeptRun) (b : Bool) → (r == gone) ≡ b → reports_of_run (without_run gone ks) r ≤ reports_of_run ks r
less_without_at gone r ks true is =
    let none : run_kept r (without_run gone ks) ≡ None = subst (λ (g : ℕ). run_kept r (without_run g ks) ≡ None) (same_number r gone is) (none_without r ks) in
    subst (λ (o : Option KeptRun). option_map_or (λ (k : KeptRun). length (reports k.work k.place)) o 0 ≤ reports_of_run ks r) (sym none) (omega arith)
less_without_at gone r ks false is =
    subst (λ (o : Option KeptRun). option_map_or (λ (k : KeptRun). length (reports k.work k.place)) o 0 ≤ reports_of_run ks r) (sym (kept_without r gone is ks)) (omega arith)

moved_other_at : (k x : KeptRun) (next : Place) (r : ℕ) (o after : Option KeptRun) → (r == k.run) ≡ false → after ≡ o → (b : Bool) → (x.run == k.run) ≡ b
    → cond ((cond b (record k { place = next }) x).run == r) (Some (cond b (record k { place = next }) x)) after ≡ cond (x.run == r) (Some x) o
moved_other_at k x next r o after apart on true is =
    ap (λ (c : Bool). cond c (Some (record k { place = next })) after) (flip r k.run apart) ∙ on ∙ ap (λ (c : Bool). cond c (Some x) o) (sym (same_tests x.run k.run r is apart))
moved_other_at k x next r o after apart on false is = ap (λ (y : Option KeptRun). cond (x.run == r) (Some x) y) on

moved_other : (k : KeptRun) (next : Place) (r : ℕ) (ks : List KeptRun) → (r == k.run) ≡ false → run_kept r (map (moved_to k next) ks) ≡ run_kept r ks
moved_other k next r [] apart = refl
moved_other k next r (x ∷ ks) apart = moved_other_at k x next r (run_kept r ks) (run_kept r (map (moved_to k next) ks)) apart (moved_other k next r ks apart) (x.run == k.run) refl

moved_same_at : (k x y : KeptRun) (next : Place) (o after : Option KeptRun) → (o ≡ Some y → after ≡ Some (record k { place = next })) → (b : Bool) → (x.run == k.run) ≡ b → cond b (Some x) o ≡ Some y
    → cond ((cond b (record k { place = next }) x).run == k.run) (Some (cond b (record k { place = next }) x)) after ≡ Some (record k { place = next })
moved_same_at k x y next o after on true is found = ap (λ (c : Bool). cond c (Some (record k { place = next })) after) (itself k.run)
moved_same_at k x y next o after on false is found = ap (λ (c : Bool). cond c (Some x) after) is ∙ on found

moved_same : (k y : KeptRun) (next : Place) (ks : List KeptRun) → run_kept k.run ks ≡ Some y → run_kept k.run (map (moved_to k next) ks) ≡ Some (record k { place = next })
moved_same k y next [] found = cc
moved_same k y next (x ∷ ks) found =
    moved_same_at k x y next (run_kept k.run ks) (run_kept k.run (map (moved_to k next) ks)) (moved_same k y next ks) (x.run == k.run) refl found

module _ (runs : List KeptRun) (k : KeptRun) (found : run_kept k.run runs ≡ Some k) where
  stepped_has : reports_of_run runs k.run ≡ length (reports k.work k.place)
  stepped_has = ap (λ (o : Option KeptRun). option_map_or (λ (k : KeptRun). length (reports k.work k.place)) o 0) found

  moved_has : (next : Place) → reports_of_run (map (moved_to k next) runs) k.run ≡ length (reports k.work next)
  moved_has next = ap (λ (o : Option KeptRun). option_map_or (λ (k : KeptRun). length (reports k.work k.place)) o 0) (moved_same k k next runs found)

  less_moved_at : (next : Place) → length (reports k.work next) < length (reports k.work k.place) → (r : ℕ) (b : Bool) → (r == k.run) ≡ b → reports_of_run (map (moved_to k next) runs) r ≤ reports_of_run runs r
  less_moved_at next fewer r true is =
      subst (λ (n : ℕ). reports_of_run (map (moved_to k next) runs) n ≤ reports_of_run runs n) (sym (same_number r k.run is))
      (rw (moved_has next, stepped_has) (omega (arith, fewer)))
  less_moved_at next fewer r false is =
      subst (λ (o : Option KeptRun). option_map_or (λ (k : KeptRun). length (reports k.work k.place)) o 0 ≤ reports_of_run runs r) (sym (moved_other k next r runs is)) (omega arith)

  forgotten_less : (others : List ℕ) → sum_by (reports_of_run (without_run k.run runs)) others < length (reports k.work k.place) + sum_by (reports_of_run runs) others
  forgotten_less others =
      let rest = sum_by-le-sum_by (reports_of_run (without_run k.run runs)) (reports_of_run runs) others (λ r. less_without_at k.run r runs (r == k.run) refl) in
      let some = some_report k.work k.place in
      omega arith

  moved_less : (next : Place) → length (reports k.work next) < length (reports k.work k.place) → (others : List ℕ)
      → sum_by (reports_of_run (map (moved_to k next) runs)) (others ++ k.run ∷ []) < length (reports k.work k.place) + sum_by (reports_of_run runs) others
  moved_less next fewer others =
      let rest = sum_by-le-sum_by (reports_of_run (map (moved_to k next) runs)) (reports_of_run runs) others (λ r. less_moved_at next fewer r (r == k.run) refl) in
      let all = sum_by_push (reports_of_run (map (moved_to k next) runs)) others k.run in
      let mine = moved_has next in
      omega arith

  behind_less : (others : List ℕ) (steps : ℕ) (round : List ℕ) (told : Report) (goes_on : Bool) (end : StepEnd) → report_told k end ≡ told
      → reports_left (kept_behind (record { runs = runs; round = round; steps = steps }) k others told goes_on) < length (reports k.work k.place) + sum_by (reports_of_run runs) others
  behind_less others steps round (Mark value next) true end is = moved_less next (marks_go_on k end value next is) others
  behind_less others steps round (Mark value next) false end is = forgotten_less others
  behind_less others steps round (Done status) goes_on end is = forgotten_less others

lowered : (runs : List KeptRun) (round : List ℕ) (steps : ℕ) (k : KeptRun) (end : StepEnd) (goes_on : Bool) → next_kept (record { runs = runs; round = round; steps = steps }) ≡ Some k
    → reports_left (behind_next (record { runs = runs; round = round; steps = steps }) (report_told k end) goes_on) < reports_left (record { runs = runs; round = round; steps = steps })
lowered runs [] steps k end goes_on is = cc
lowered runs (run ∷ others) steps k end goes_on is =
    let kept : KeptRuns = record { runs = runs; round = run ∷ others; steps = steps } in
    let number : k.run ≡ run = let h : IfSome (Some k) (λ (x : KeptRun). x.run ≡ run) = subst (λ (o : Option KeptRun). IfSome o (λ (x : KeptRun). x.run ≡ run)) is (kept_number run runs) in h in
    let found : run_kept k.run runs ≡ Some k = subst (λ (n : ℕ). run_kept n runs ≡ Some k) (sym number) is in
    let first : reports_of_run runs run ≡ length (reports k.work k.place) = ap (λ (o : Option KeptRun). option_map_or (λ (k : KeptRun). length (reports k.work k.place)) o 0) is in
    let less = behind_less runs k found others steps (run ∷ others) (report_told k end) goes_on end refl in
    subst (λ (n : ℕ). reports_left (behind_next kept (report_told k end) goes_on) < n) (sym (sum_by-cons (reports_of_run runs) run others))
    (subst (λ (o : Option KeptRun). reports_left (option_map_or (λ (x : KeptRun). kept_behind kept x others (report_told k end) goes_on) o kept) < reports_of_run runs run + sum_by (reports_of_run runs) others) (sym is)
    (subst (λ (n : ℕ). reports_left (kept_behind kept k others (report_told k end) goes_on) < n + sum_by (reports_of_run runs) others) (sym first) less))

pub steps_lower : (kept : KeptRuns) (k : KeptRun) (end : StepEnd) (goes_on : Bool) → next_kept kept ≡ Some k → reports_left (behind_next kept (report_told k end) goes_on) < reports_left kept
steps_lower kept k end goes_on is = lowered kept.runs kept.round kept.steps k end goes_on is
