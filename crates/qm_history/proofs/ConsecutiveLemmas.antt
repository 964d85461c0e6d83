-- The blocks of a stretch are consecutive.
use Rattle.std.proofs.Common.{◌≡◌, ℕ, zero, suc, ◌+◌, ◌-◌, ◌<◌, ◌≤◌, inl, inr, Bool, true, false, cond, ◌&&◌, List, [], ◌∷◌, ◌++◌, length, take, drop, refl, sym, ◌∙◌, ap, subst, arith, Option, None, Some, ◌==◌, nat_lt, append_assoc, append-nil, drop-drop, take-append-drop}
use Rattle.std.specs.List.{AllByRecursion}
use Rattle.std.proofs.lemmas.Bool.Decides.{nat_tests}
use Rattle.qm_history.specs.Common.{JobKind, Print, Place, Work, normal_status, page_blocks, KeptRun, StepEnd, WentOn, DeviceFailed, CutShort, report_told, MadeStep}
use Rattle.qm_kinds.specs.declared.work.Report.TheVariants as report
use Rattle.qm_model.specs.Reports.{begin, course, course_of, next_report, print_steps, blocks_before_report}
use Rattle.qm_model.proofs.ReportLemmas.{next_mark, more_left}
use Rattle.qm_history.specs.Blocks.{AreFirst, blocks_next, HandsOver, AreHanded, last_step, IsFetchedBehind, IsLeftBy, IsInStretch, ComeInStretches, blocks_of_stretch, blocks_behind_mark}
use Rattle.qm_history.proofs.AgainLemmas.{Came, InStretchAt, told_mark, same_run, behind_its_mark}

-- ---- first ones of lists

take_more : (n : ℕ) (xs : List (List ℕ)) → take n xs ++ take 1 (drop n xs) ≡ take (suc n) xs
take_more zero xs = refl
take_more (suc n) [] = refl
take_more (suc n) (x ∷ xs) = ap (λ ys. x ∷ ys) (take_more n xs)

take_none : (n : ℕ) → take {A = List ℕ} n [] ≡ []
take_none zero = refl
take_none (suc n) = refl

take_one : (n : ℕ) (xs : List (List ℕ)) → take (suc n) (take 1 xs) ≡ take 1 xs
take_one n [] = refl
take_one n (x ∷ xs) = ap (λ ys. x ∷ ys) (take_none n)

-- ---- what a run has handed over

-- the blocks of a run that a fetch gave, of steps of which the last one comes first
abbrev so_far : ℕ → ℕ → List MadeStep → List (List (List ℕ)) → List (List ℕ)
so_far run fetched [] handed = []
so_far run fetched (m ∷ earlier) [] = []
so_far run fetched (m ∷ earlier) (blocks ∷ handed) = so_far run fetched earlier handed ++ cond (m.run.run == run && m.run.fetched == fetched) blocks []

-- the same of steps of which the first one comes first
abbrev later : ℕ → ℕ → List MadeStep → List (List (List ℕ)) → List (List ℕ)
later run fetched [] handed = []
later run fetched (m ∷ steps) [] = []
later run fetched (m ∷ steps) (blocks ∷ handed) = cond (m.run.run == run && m.run.fetched == fetched) blocks [] ++ later run fetched steps handed

stretch_is : (k : KeptRun) (steps : List MadeStep) (handed : List (List (List ℕ))) → blocks_of_stretch k steps handed ≡ later k.run k.fetched steps handed
stretch_is k [] handed = refl
stretch_is k (m ∷ steps) [] = refl
stretch_is k (m ∷ steps) (blocks ∷ handed) = ap (λ xs. cond (m.run.run == k.run && m.run.fetched == k.fetched) blocks [] ++ xs) (stretch_is k steps handed)

itself : (a : ℕ) → (a == a) ≡ true
itself a = grind (arith, nat_tests)

apart : (a b : ℕ) → a < b → (a == b) ≡ false
apart a b h = grind (arith, nat_tests)

apart_too : (a b : ℕ) → b < a → (a == b) ≡ false
apart_too a b h = grind (arith, nat_tests)

not_both : (a b : Bool) → b ≡ false → (a && b) ≡ false
not_both true b h = h
not_both false b h = refl

equal : (a b : ℕ) → a ≡ b → (a == b) ≡ true
equal a b h = grind (arith, nat_tests)

both_true : (a b : Bool) → a ≡ true → b ≡ true → (a && b) ≡ true
both_true a b first second = ap (λ x. x && b) first ∙ second

-- what was fetched behind the last step has handed over nothing
behind_on : (o : Option MadeStep) (m k : KeptRun) → InStretchAt o m → m.fetched < k.fetched → IsFetchedBehind o k
behind_on None m k h less = tt
behind_on (Some e) m k (inl begins) less = let first : e.run.fetched < m.fetched = begins.0 in omega arith
behind_on (Some e) m k (inr (work, same, left)) less = let equal : e.run.fetched ≡ m.fetched = same in omega arith

module _ (k : KeptRun) where
  none_at : (m : MadeStep) (blocks so : List (List ℕ)) (b : Bool) → so ≡ [] → b ≡ false → so ++ cond b blocks [] ≡ []
  none_at m blocks so b before fails = ap (λ x. x ++ cond b blocks []) before ∙ ap (λ x. cond x blocks []) fails

  nothing_so_far_at : (m : MadeStep) (earlier : List MadeStep) (blocks : List (List ℕ)) (handed : List (List (List ℕ))) (b : Bool) → (m.run.run == k.run) ≡ b → IsInStretch earlier m.run
      → IsFetchedBehind (cond b (Some m) (last_step k.run earlier)) k → (IsFetchedBehind (last_step k.run earlier) k → so_far k.run k.fetched earlier handed ≡ [])
      → so_far k.run k.fetched earlier handed ++ cond (b && m.run.fetched == k.fetched) blocks [] ≡ []
  nothing_so_far_at m earlier blocks handed true is stretch behind on =
      none_at m blocks (so_far k.run k.fetched earlier handed) (m.run.fetched == k.fetched)
      (on (behind_on (last_step k.run earlier) m.run k (subst (λ r. InStretchAt (last_step r earlier) m.run) (same_run m.run.run k.run is) stretch) behind)) (apart m.run.fetched k.fetched behind)
  nothing_so_far_at m earlier blocks handed false is stretch behind on = none_at m blocks (so_far k.run k.fetched earlier handed) false (on behind) refl

  nothing_so_far : (earlier : List MadeStep) (handed : List (List (List ℕ))) → Came earlier → IsFetchedBehind (last_step k.run earlier) k → so_far k.run k.fetched earlier handed ≡ []
  nothing_so_far [] handed came behind = refl
  nothing_so_far (m ∷ earlier) [] came behind = refl
  nothing_so_far (m ∷ earlier) (blocks ∷ handed) came behind =
      nothing_so_far_at m earlier blocks handed (m.run.run == k.run) refl came.0 behind (nothing_so_far earlier handed came.1)

-- ---- a run in a stretch has handed over all blocks up to its place

went_on : (k : KeptRun) (end : StepEnd) (blocks value : List (List ℕ)) (mark : List ℕ) (next : Place) → report_told k end ≡ report.Mark mark next → HandsOver k end blocks → blocks ≡ blocks_next k
went_on k WentOn blocks value mark next told h = h
went_on k DeviceFailed blocks value mark next told h = cc
went_on k CutShort blocks value mark next told h = cc

module _ (next_block : (w : Work) (p : Place) → w.kind ≡ Print → blocks_before_report (course w p) ≡ take 1 (drop p.at (page_blocks w))) where
  -- the next block of a run, counted from its mark
  from_mark : (k : KeptRun) → k.work.kind ≡ Print → (begin k.work).at ≤ k.place.at → blocks_next k ≡ take 1 (drop (k.place.at - (begin k.work).at) (blocks_behind_mark k))
  from_mark k print behind =
      let from : ℕ = (begin k.work).at in
      let n : ℕ = k.place.at - from in
      let sum : from + n ≡ k.place.at = omega arith in
      next_block k.work k.place print ∙ ap (take 1) (sym (drop-drop n from (page_blocks k.work) ∙ ap (λ i. drop i (page_blocks k.work)) sum))

  at_begin : (k : KeptRun) → k.place ≡ begin k.work → take (k.place.at - (begin k.work).at) (blocks_behind_mark k) ≡ []
  at_begin k begins =
      let same : k.place.at ≡ (begin k.work).at = ap (λ (p : Place). p.at) begins in
      let none : k.place.at - (begin k.work).at ≡ 0 = omega arith in
      ap (λ n. take n (blocks_behind_mark k)) none

  -- one more block is behind the mark
  abbrev Up : ℕ → Work → List (List ℕ) → Type 0
  Up at w blocks = blocks ≡ take (at - (begin w).at) (drop (begin w).at (page_blocks w))

  one_more_at : (m : MadeStep) (k : KeptRun) (so blocks : List (List ℕ)) → IsLeftBy (Some m) k → k.work.kind ≡ Print → (begin m.run.work).at ≤ m.run.place.at → HandsOver m.run m.end blocks
      → Up m.run.place.at m.run.work so → Up k.place.at k.work (so ++ blocks)
  one_more_at m k so blocks (work, fetched, left) print behind hands up =
      let kind : m.run.work.kind ≡ Print = ap (λ (w : Work). w.kind) work ∙ print in
      let next : k.place.at ≡ m.run.place.at + 1 = told_mark m.run m.end left.0 k.place kind left.1 in
      let from : ℕ = (begin m.run.work).at in
      let n : ℕ = m.run.place.at - from in
      let number : suc n ≡ k.place.at - from = omega arith in
      let ys : List (List ℕ) = blocks_behind_mark m.run in
      let block : blocks ≡ take 1 (drop n ys) = went_on m.run m.end blocks [] left.0 k.place left.1 hands ∙ from_mark m.run kind behind in
      subst (λ (w : Work). Up k.place.at w (so ++ blocks)) work
      (ap (λ x. x ++ blocks) up ∙ ap (λ x. take n ys ++ x) block ∙ take_more n ys ∙ ap (λ i. take i ys) number)

  up_to_place_at : (m : MadeStep) (earlier : List MadeStep) (k : KeptRun) (blocks : List (List ℕ)) (handed : List (List (List ℕ))) (b : Bool) → (m.run.run == k.run) ≡ b → Came (m ∷ earlier)
      → HandsOver m.run m.end blocks → IsLeftBy (cond b (Some m) (last_step k.run earlier)) k → k.work.kind ≡ Print
      → (m.run.work.kind ≡ Print → Up m.run.place.at m.run.work (so_far m.run.run m.run.fetched earlier handed))
      → (IsLeftBy (last_step k.run earlier) k → Up k.place.at k.work (so_far k.run k.fetched earlier handed))
      → Up k.place.at k.work (so_far k.run k.fetched earlier handed ++ cond (b && m.run.fetched == k.fetched) blocks [])
  up_to_place_at m earlier k blocks handed true is came hands (work, fetched, left) print before on =
      let kind : m.run.work.kind ≡ Print = ap (λ (w : Work). w.kind) work ∙ print in
      let start : so_far m.run.run m.run.fetched earlier handed ≡ so_far k.run k.fetched earlier handed =
      ap (λ r. so_far r m.run.fetched earlier handed) (same_run m.run.run k.run is) ∙ ap (λ f. so_far k.run f earlier handed) fetched in
      subst (λ b. Up k.place.at k.work (so_far k.run k.fetched earlier handed ++ cond b blocks [])) (sym (equal m.run.fetched k.fetched fetched))
      (one_more_at m k (so_far k.run k.fetched earlier handed) blocks (work, fetched, left) print (behind_its_mark earlier m.run came.1 came.0 kind) hands
      (subst (λ xs. Up m.run.place.at m.run.work xs) start (before kind)))
  up_to_place_at m earlier k blocks handed false is came hands left print before on =
      append-nil (so_far k.run k.fetched earlier handed) ∙ on left

  up_to_place : (earlier : List MadeStep) (handed : List (List (List ℕ))) (k : KeptRun) → Came earlier → AreHanded earlier handed → IsInStretch earlier k → k.work.kind ≡ Print
      → Up k.place.at k.work (so_far k.run k.fetched earlier handed)
  up_to_place earlier handed k came hands (inl begins) print = nothing_so_far k earlier handed came begins.0 ∙ sym (at_begin k begins.1)
  up_to_place [] handed k came hands (inr left) print = absurd left
  up_to_place (m ∷ earlier) [] k came hands (inr left) print = absurd hands
  up_to_place (m ∷ earlier) (blocks ∷ handed) k came hands (inr left) print =
      up_to_place_at m earlier k blocks handed (m.run.run == k.run) refl came hands.0 left print
      (λ kind. up_to_place earlier handed m.run came.1 hands.1 came.0 kind)
      (λ there. up_to_place earlier handed k came.1 hands.1 (inr there) print)

  -- ---- with the step that a run makes from there

  with_step_at : (n : ℕ) (ys so : List (List ℕ)) (k : KeptRun) (end : StepEnd) (blocks : List (List ℕ)) → so ≡ take n ys → blocks_next k ≡ take 1 (drop n ys) → HandsOver k end blocks → AreFirst (so ++ blocks) ys
  with_step_at n ys so k WentOn blocks up next h = (suc n, ap (λ x. x ++ blocks) up ∙ ap (λ x. take n ys ++ x) (h ∙ next) ∙ take_more n ys)
  with_step_at n ys so k DeviceFailed blocks up next (zero, h) = (n, ap (λ x. x ++ blocks) up ∙ ap (λ x. take n ys ++ x) h ∙ append-nil (take n ys))
  with_step_at n ys so k DeviceFailed blocks up next (suc i, h) =
      (suc n, ap (λ x. x ++ blocks) up ∙ ap (λ x. take n ys ++ x) (h ∙ ap (take (suc i)) next ∙ take_one i (drop n ys)) ∙ take_more n ys)
  with_step_at n ys so k CutShort blocks up next h = (n, ap (λ x. x ++ blocks) up ∙ ap (λ x. take n ys ++ x) h ∙ append-nil (take n ys))

  both_are : (m : MadeStep) → (m.run.run == m.run.run && m.run.fetched == m.run.fetched) ≡ true
  both_are m = both_true (m.run.run == m.run.run) (m.run.fetched == m.run.fetched) (itself m.run.run) (itself m.run.fetched)

  module _ (earlier : List MadeStep) (handed : List (List (List ℕ))) (m : MadeStep) (blocks : List (List ℕ)) (came : Came earlier) (hands : AreHanded earlier handed)
      (stretch : IsInStretch earlier m.run) (now : HandsOver m.run m.end blocks) (print : m.run.work.kind ≡ Print)
    where
      abbrev mine : List (List ℕ)
      mine = so_far m.run.run m.run.fetched earlier handed

      with_step : AreFirst (so_far m.run.run m.run.fetched (m ∷ earlier) (blocks ∷ handed)) (blocks_behind_mark m.run)
      with_step =
          subst (λ b. AreFirst (mine ++ cond b blocks []) (blocks_behind_mark m.run)) (sym (both_are m))
          (with_step_at (m.run.place.at - (begin m.run.work).at) (blocks_behind_mark m.run) mine m.run m.end blocks (up_to_place earlier handed m.run came hands stretch print)
          (from_mark m.run print (behind_its_mark earlier m.run came stretch print)) now)

  -- ---- the steps behind

  -- behind a later fetch of the run nothing of the stretch comes
  module _ (run fetched : ℕ) where
    over_at : (l : MadeStep) (blocks rest : List (List ℕ)) (b : Bool) → b ≡ false → rest ≡ [] → cond b blocks [] ++ rest ≡ []
    over_at l blocks rest b fails none = ap (λ x. cond x blocks [] ++ rest) fails ∙ none

    past : (o : Option MadeStep) (m : MadeStep) (l : KeptRun) → o ≡ Some m → fetched < m.run.fetched → InStretchAt o l → fetched < l.fetched
    past o m l is less h = past_in (subst (λ x. InStretchAt x l) is h)
      where
        past_in : InStretchAt (Some m) l → fetched < l.fetched
        past_in (inl begins) = let next : m.run.fetched < l.fetched = begins.0 in omega arith
        past_in (inr (work, same, left)) = let equal : m.run.fetched ≡ l.fetched = same in omega arith

    over_step : (steps : List MadeStep) (handed : List (List (List ℕ))) (earlier : List MadeStep) (m l : MadeStep) (blocks : List (List ℕ)) (b : Bool) → (l.run.run == run) ≡ b → last_step run earlier ≡ Some m → fetched < m.run.fetched
        → IsInStretch earlier l.run → ((m : MadeStep) → last_step run (l ∷ earlier) ≡ Some m → fetched < m.run.fetched → later run fetched steps handed ≡ [])
        → cond (b && l.run.fetched == fetched) blocks [] ++ later run fetched steps handed ≡ []
    over_step steps handed earlier m l blocks true is last less stretch on =
        let further : fetched < l.run.fetched = past (last_step l.run.run earlier) m l.run (ap (λ r. last_step r earlier) (same_run l.run.run run is) ∙ last) less stretch in
        over_at l blocks (later run fetched steps handed) (l.run.fetched == fetched) (apart_too l.run.fetched fetched further)
        (on l (ap (λ b. cond b (Some l) (last_step run earlier)) is) further)
    over_step steps handed earlier m l blocks false is last less stretch on =
        on m (ap (λ b. cond b (Some l) (last_step run earlier)) is ∙ last) less

    over : (steps : List MadeStep) (handed : List (List (List ℕ))) (earlier : List MadeStep) (m : MadeStep) → last_step run earlier ≡ Some m → fetched < m.run.fetched → ComeInStretches earlier steps
        → later run fetched steps handed ≡ []
    over [] handed earlier m last less come = refl
    over (l ∷ steps) [] earlier m last less come = refl
    over (l ∷ steps) (blocks ∷ handed) earlier m last less come =
        over_step steps handed earlier m l blocks (l.run.run == run) refl last less come.0 (λ m2 last2 less2. over steps handed (l ∷ earlier) m2 last2 less2 come.1)

  last_is : (m : MadeStep) (earlier : List MadeStep) → last_step m.run.run (m ∷ earlier) ≡ Some m
  last_is m earlier = ap (λ b. cond b (Some m) (last_step m.run.run earlier)) (itself m.run.run)

  first_and_none : (so rest ys : List (List ℕ)) → rest ≡ [] → AreFirst so ys → AreFirst (so ++ rest) ys
  first_and_none so rest ys none first = subst (λ x. AreFirst x ys) (sym (ap (λ x. so ++ x) none ∙ append-nil so)) first

  -- a step of the same run, where the last one is this
  module _ (steps : List MadeStep) (handed : List (List (List ℕ))) (earlier : List MadeStep) (before : List (List (List ℕ))) (m l : MadeStep) (blocks : List (List ℕ))
      (came : Came earlier) (hands : AreHanded earlier before) (stretch : IsInStretch earlier l.run) (now : HandsOver l.run l.end blocks) (print : m.run.work.kind ≡ Print)
      (first : AreFirst (so_far m.run.run m.run.fetched earlier before) (blocks_behind_mark m.run)) (come : ComeInStretches (l ∷ earlier) steps)
    where
      abbrev so : List (List ℕ)
      so = so_far m.run.run m.run.fetched earlier before

      abbrev Goal : Bool → Type 0
      Goal b = AreFirst ((so ++ cond b blocks []) ++ later m.run.run m.run.fetched steps handed) (blocks_behind_mark m.run)

      same_stretch : m.run.run ≡ l.run.run → InStretchAt (Some m) l.run
          → (l.run.work.kind ≡ Print → AreFirst (so_far l.run.run l.run.fetched (l ∷ earlier) (blocks ∷ before)) (blocks_behind_mark l.run)
          → AreFirst (so_far l.run.run l.run.fetched (l ∷ earlier) (blocks ∷ before) ++ later l.run.run l.run.fetched steps handed) (blocks_behind_mark l.run))
          → Goal (l.run.run == m.run.run && l.run.fetched == m.run.fetched)
      same_stretch run (inl begins) on =
          let fails : (l.run.run == m.run.run && l.run.fetched == m.run.fetched) ≡ false =
          not_both (l.run.run == m.run.run) (l.run.fetched == m.run.fetched) (apart_too l.run.fetched m.run.fetched begins.0) in
          subst Goal (sym fails)
          (first_and_none (so ++ []) (later m.run.run m.run.fetched steps handed) (blocks_behind_mark m.run)
          (over m.run.run m.run.fetched steps handed (l ∷ earlier) l (ap (λ r. last_step r (l ∷ earlier)) run ∙ last_is l earlier) begins.0 come)
          (subst (λ x. AreFirst x (blocks_behind_mark m.run)) (sym (append-nil so)) first))
      same_stretch run (inr (work, fetched, left)) on =
          let kind : l.run.work.kind ≡ Print = ap (λ (w : Work). w.kind) (sym work) ∙ print in
          subst (λ (w : Work). AreFirst ((so ++ cond (l.run.run == m.run.run && l.run.fetched == m.run.fetched) blocks []) ++ later m.run.run m.run.fetched steps handed) (drop (begin w).at (page_blocks w))) (sym work)
          (subst (λ f. AreFirst ((so_far m.run.run f earlier before ++ cond (l.run.run == m.run.run && l.run.fetched == f) blocks []) ++ later m.run.run f steps handed) (blocks_behind_mark l.run)) (sym fetched)
          (subst (λ r. AreFirst ((so_far r l.run.fetched earlier before ++ cond (l.run.run == r && l.run.fetched == l.run.fetched) blocks []) ++ later r l.run.fetched steps handed) (blocks_behind_mark l.run)) (sym run)
          (on kind (with_step earlier before l blocks came hands stretch now kind))))

      other_run : (l.run.run == m.run.run) ≡ false → (AreFirst (so_far m.run.run m.run.fetched (l ∷ earlier) (blocks ∷ before)) (blocks_behind_mark m.run)
          → AreFirst (so_far m.run.run m.run.fetched (l ∷ earlier) (blocks ∷ before) ++ later m.run.run m.run.fetched steps handed) (blocks_behind_mark m.run))
          → Goal (l.run.run == m.run.run && l.run.fetched == m.run.fetched)
      other_run other on =
          on (subst (λ b. AreFirst (so ++ cond (b && l.run.fetched == m.run.fetched) blocks []) (blocks_behind_mark m.run)) (sym other)
          (subst (λ x. AreFirst x (blocks_behind_mark m.run)) (sym (append-nil so)) first))

      step_on : last_step m.run.run earlier ≡ Some m → (b : Bool) → (l.run.run == m.run.run) ≡ b
          → (l.run.work.kind ≡ Print → AreFirst (so_far l.run.run l.run.fetched (l ∷ earlier) (blocks ∷ before)) (blocks_behind_mark l.run)
          → AreFirst (so_far l.run.run l.run.fetched (l ∷ earlier) (blocks ∷ before) ++ later l.run.run l.run.fetched steps handed) (blocks_behind_mark l.run))
          → ((l.run.run == m.run.run) ≡ false → AreFirst (so_far m.run.run m.run.fetched (l ∷ earlier) (blocks ∷ before)) (blocks_behind_mark m.run)
          → AreFirst (so_far m.run.run m.run.fetched (l ∷ earlier) (blocks ∷ before) ++ later m.run.run m.run.fetched steps handed) (blocks_behind_mark m.run))
          → Goal (l.run.run == m.run.run && l.run.fetched == m.run.fetched)
      step_on last true is on other =
          let run : m.run.run ≡ l.run.run = sym (same_run l.run.run m.run.run is) in
          same_stretch run (subst (λ x. InStretchAt x l.run) (ap (λ r. last_step r earlier) (sym run) ∙ last) stretch) on
      step_on last false is on other = other_run is (other is)

  go_on : (steps : List MadeStep) (handed : List (List (List ℕ))) (earlier : List MadeStep) (before : List (List (List ℕ))) (m : MadeStep) → Came earlier → AreHanded earlier before → ComeInStretches earlier steps
      → AreHanded steps handed → last_step m.run.run earlier ≡ Some m → m.run.work.kind ≡ Print → AreFirst (so_far m.run.run m.run.fetched earlier before) (blocks_behind_mark m.run)
      → AreFirst (so_far m.run.run m.run.fetched earlier before ++ later m.run.run m.run.fetched steps handed) (blocks_behind_mark m.run)
  go_on [] handed earlier before m came hands come more last print first =
      subst (λ x. AreFirst x (blocks_behind_mark m.run)) (sym (append-nil (so_far m.run.run m.run.fetched earlier before))) first
  go_on (l ∷ steps) [] earlier before m came hands come more last print first = absurd more
  go_on (l ∷ steps) (blocks ∷ handed) earlier before m came hands come more last print first =
      subst (λ x. AreFirst x (blocks_behind_mark m.run))
      (append_assoc (so_far m.run.run m.run.fetched earlier before) (cond (l.run.run == m.run.run && l.run.fetched == m.run.fetched) blocks []) (later m.run.run m.run.fetched steps handed))
      (step_on steps handed earlier before m l blocks came hands come.0 more.0 print first come.1 last (l.run.run == m.run.run) refl
      (λ kind first2. go_on steps handed (l ∷ earlier) (blocks ∷ before) l (come.0, came) (more.0, hands) come.1 more.1 (last_is l earlier) kind first2)
      (λ is first2. go_on steps handed (l ∷ earlier) (blocks ∷ before) m (come.0, came) (more.0, hands) come.1 more.1 (ap (λ b. cond b (Some l) (last_step m.run.run earlier)) is ∙ last) print first2))

  -- ---- all steps

  abbrev All : List MadeStep → List (List (List ℕ)) → List MadeStep → List (List (List ℕ)) → List MadeStep → Type 0
  All earlier before steps handed ms =
      AllByRecursion (λ (m : MadeStep). m.run.work.kind ≡ Print → AreFirst (so_far m.run.run m.run.fetched earlier before ++ later m.run.run m.run.fetched steps handed) (blocks_behind_mark m.run)) ms

  shifted : (earlier : List MadeStep) (before : List (List (List ℕ))) (l : MadeStep) (blocks : List (List ℕ)) (steps : List MadeStep) (handed : List (List (List ℕ))) (ms : List MadeStep)
      → All (l ∷ earlier) (blocks ∷ before) steps handed ms → All earlier before (l ∷ steps) (blocks ∷ handed) ms
  shifted earlier before l blocks steps handed [] all = tt
  shifted earlier before l blocks steps handed (m ∷ ms) all = (
    (λ print. subst (λ x. AreFirst x (blocks_behind_mark m.run))
        (append_assoc (so_far m.run.run m.run.fetched earlier before) (cond (l.run.run == m.run.run && l.run.fetched == m.run.fetched) blocks []) (later m.run.run m.run.fetched steps handed)) (all.0 print)),
    shifted earlier before l blocks steps handed ms all.1,
  )

  each_first : (steps : List MadeStep) (handed : List (List (List ℕ))) (earlier : List MadeStep) (before : List (List (List ℕ))) → Came earlier → AreHanded earlier before → ComeInStretches earlier steps
      → AreHanded steps handed → All earlier before steps handed steps
  each_first [] handed earlier before came hands come more = tt
  each_first (m ∷ steps) [] earlier before came hands come more = absurd more
  each_first (m ∷ steps) (blocks ∷ handed) earlier before came hands come more = (
    (λ print. subst (λ x. AreFirst x (blocks_behind_mark m.run))
        (append_assoc (so_far m.run.run m.run.fetched earlier before) (cond (m.run.run == m.run.run && m.run.fetched == m.run.fetched) blocks []) (later m.run.run m.run.fetched steps handed))
        (go_on steps handed (m ∷ earlier) (blocks ∷ before) m (come.0, came) (more.0, hands) come.1 more.1 (last_is m earlier) print (with_step earlier before m blocks came hands come.0 more.0 print))),
    shifted earlier before m blocks steps handed steps (each_first steps handed (m ∷ earlier) (blocks ∷ before) (come.0, came) (more.0, hands) come.1 more.1),
  )

  of_stretch : (steps : List MadeStep) (handed : List (List (List ℕ))) (ms : List MadeStep) → All [] [] steps handed ms
      → AllByRecursion (λ (m : MadeStep). m.run.work.kind ≡ Print → AreFirst (blocks_of_stretch m.run steps handed) (blocks_behind_mark m.run)) ms
  of_stretch steps handed [] all = tt
  of_stretch steps handed (m ∷ ms) all =
      ((λ print. subst (λ x. AreFirst x (blocks_behind_mark m.run)) (sym (stretch_is m.run steps handed)) (all.0 print)), of_stretch steps handed ms all.1)

  pub stretches_consecutive : (steps : List MadeStep) (handed : List (List (List ℕ))) → ComeInStretches [] steps → AreHanded steps handed
      → AllByRecursion (λ (m : MadeStep). m.run.work.kind ≡ Print → AreFirst (blocks_of_stretch m.run steps handed) (blocks_behind_mark m.run)) steps
  stretches_consecutive steps handed come more = of_stretch steps handed steps (each_first steps handed [] [] tt tt come more)

  -- ---- stretches that ended with status 1

  -- a run that ends at its next report hands over all that is left before that
  all_left : (all used at : ℕ) (pages blocks : List (List ℕ)) → length pages ≡ all → drop at pages ≡ blocks → next_report (print_steps all used at blocks) ≡ report.Done normal_status → take 1 blocks ≡ blocks
  all_left all used at pages [] size is told = refl
  all_left all used at pages (block ∷ []) size is told = refl
  all_left all used at pages (block ∷ other ∷ blocks) size is told =
      let inside : nat_lt (at + 1) all ≡ true = subst (λ n. nat_lt (at + 1) n ≡ true) size (more_left at pages block other blocks is) in
      let mark = next_mark all used (at + 1) inside in
      cc

  ends_with_all : (k : KeptRun) → k.work.kind ≡ Print → report_told k WentOn ≡ report.Done normal_status → take 1 (drop k.place.at (page_blocks k.work)) ≡ drop k.place.at (page_blocks k.work)
  ends_with_all k print told =
      all_left (length (page_blocks k.work)) k.place.used k.place.at (page_blocks k.work) (drop k.place.at (page_blocks k.work)) refl refl
      (subst (λ (kind : JobKind). next_report (course_of kind k.work k.place) ≡ report.Done normal_status) print told)

  module _ (earlier : List MadeStep) (handed : List (List (List ℕ))) (m : MadeStep) (blocks : List (List ℕ)) (came : Came earlier) (hands : AreHanded earlier handed)
      (stretch : IsInStretch earlier m.run) (now : HandsOver m.run m.end blocks) (print : m.run.work.kind ≡ Print) (went : m.end ≡ WentOn) (told : report_told m.run m.end ≡ report.Done normal_status)
    where
      whole_step : so_far m.run.run m.run.fetched (m ∷ earlier) (blocks ∷ handed) ≡ blocks_behind_mark m.run
      whole_step =
          let from : ℕ = (begin m.run.work).at in
          let behind : from ≤ m.run.place.at = behind_its_mark earlier m.run came stretch print in
          let n : ℕ = m.run.place.at - from in
          let sum : from + n ≡ m.run.place.at = omega arith in
          let ys : List (List ℕ) = blocks_behind_mark m.run in
          let so : List (List ℕ) = so_far m.run.run m.run.fetched earlier handed in
          let rest : drop m.run.place.at (page_blocks m.run.work) ≡ drop n ys =
          sym (drop-drop n from (page_blocks m.run.work) ∙ ap (λ i. drop i (page_blocks m.run.work)) sum) in
          let block : blocks ≡ drop n ys =
          subst (λ end. HandsOver m.run end blocks) went now ∙ next_block m.run.work m.run.place print
          ∙ ends_with_all m.run print (subst (λ end. report_told m.run end ≡ report.Done normal_status) went told) ∙ rest in
          ap (λ b. so ++ cond b blocks []) (both_are m) ∙ ap (λ x. x ++ blocks) (up_to_place earlier handed m.run came hands stretch print) ∙ ap (λ x. take n ys ++ x) block ∙ take-append-drop n ys

  -- behind the end of its run nothing of the stretch comes
  ended_at : (steps : List MadeStep) (handed : List (List (List ℕ))) (earlier : List MadeStep) (m l : MadeStep) (blocks : List (List ℕ)) → m.run.run ≡ l.run.run → InStretchAt (Some m) l.run
      → report_told m.run m.end ≡ report.Done normal_status → ComeInStretches (l ∷ earlier) steps
      → cond (l.run.run == m.run.run && l.run.fetched == m.run.fetched) blocks [] ++ later m.run.run m.run.fetched steps handed ≡ []
  ended_at steps handed earlier m l blocks run (inl begins) told come =
      over_at m.run.run m.run.fetched l blocks (later m.run.run m.run.fetched steps handed) (l.run.run == m.run.run && l.run.fetched == m.run.fetched)
      (not_both (l.run.run == m.run.run) (l.run.fetched == m.run.fetched) (apart_too l.run.fetched m.run.fetched begins.0))
      (over m.run.run m.run.fetched steps handed (l ∷ earlier) l (ap (λ r. last_step r (l ∷ earlier)) run ∙ last_is l earlier) begins.0 come)
  ended_at steps handed earlier m l blocks run (inr (work, fetched, left)) told come =
      let mark : report_told m.run m.end ≡ report.Mark left.0 l.run.place = left.1 in cc

  ended_step : (steps : List MadeStep) (handed : List (List (List ℕ))) (earlier : List MadeStep) (m l : MadeStep) (blocks : List (List ℕ)) (b : Bool) → (l.run.run == m.run.run) ≡ b → last_step m.run.run earlier ≡ Some m
      → report_told m.run m.end ≡ report.Done normal_status → IsInStretch earlier l.run → ComeInStretches (l ∷ earlier) steps
      → (last_step m.run.run (l ∷ earlier) ≡ Some m → later m.run.run m.run.fetched steps handed ≡ [])
      → cond (l.run.run == m.run.run && l.run.fetched == m.run.fetched) blocks [] ++ later m.run.run m.run.fetched steps handed ≡ []
  ended_step steps handed earlier m l blocks true is last told stretch come on =
      let run : m.run.run ≡ l.run.run = sym (same_run l.run.run m.run.run is) in
      ended_at steps handed earlier m l blocks run (subst (λ x. InStretchAt x l.run) (ap (λ r. last_step r earlier) (sym run) ∙ last) stretch) told come
  ended_step steps handed earlier m l blocks false is last told stretch come on =
      over_at m.run.run m.run.fetched l blocks (later m.run.run m.run.fetched steps handed) (l.run.run == m.run.run && l.run.fetched == m.run.fetched)
      (ap (λ b. b && l.run.fetched == m.run.fetched) is) (on (ap (λ b. cond b (Some l) (last_step m.run.run earlier)) is ∙ last))

  ended : (steps : List MadeStep) (handed : List (List (List ℕ))) (earlier : List MadeStep) (m : MadeStep) → last_step m.run.run earlier ≡ Some m → report_told m.run m.end ≡ report.Done normal_status
      → ComeInStretches earlier steps → later m.run.run m.run.fetched steps handed ≡ []
  ended [] handed earlier m last told come = refl
  ended (l ∷ steps) [] earlier m last told come = refl
  ended (l ∷ steps) (blocks ∷ handed) earlier m last told come =
      ended_step steps handed earlier m l blocks (l.run.run == m.run.run) refl last told come.0 come.1 (λ last2. ended steps handed (l ∷ earlier) m last2 told come.1)

  abbrev AllWhole : List MadeStep → List (List (List ℕ)) → List MadeStep → List (List (List ℕ)) → List MadeStep → Type 0
  AllWhole earlier before steps handed ms =
      AllByRecursion (λ (m : MadeStep). m.run.work.kind ≡ Print → m.end ≡ WentOn → report_told m.run m.end ≡ report.Done normal_status
      → so_far m.run.run m.run.fetched earlier before ++ later m.run.run m.run.fetched steps handed ≡ blocks_behind_mark m.run) ms

  whole_shifted : (earlier : List MadeStep) (before : List (List (List ℕ))) (l : MadeStep) (blocks : List (List ℕ)) (steps : List MadeStep) (handed : List (List (List ℕ))) (ms : List MadeStep)
      → AllWhole (l ∷ earlier) (blocks ∷ before) steps handed ms → AllWhole earlier before (l ∷ steps) (blocks ∷ handed) ms
  whole_shifted earlier before l blocks steps handed [] all = tt
  whole_shifted earlier before l blocks steps handed (m ∷ ms) all = (
    (λ print went told.
        sym (append_assoc (so_far m.run.run m.run.fetched earlier before) (cond (l.run.run == m.run.run && l.run.fetched == m.run.fetched) blocks []) (later m.run.run m.run.fetched steps handed))
        ∙ all.0 print went told),
    whole_shifted earlier before l blocks steps handed ms all.1,
  )

  each_whole : (steps : List MadeStep) (handed : List (List (List ℕ))) (earlier : List MadeStep) (before : List (List (List ℕ))) → Came earlier → AreHanded earlier before → ComeInStretches earlier steps
      → AreHanded steps handed → AllWhole earlier before steps handed steps
  each_whole [] handed earlier before came hands come more = tt
  each_whole (m ∷ steps) [] earlier before came hands come more = absurd more
  each_whole (m ∷ steps) (blocks ∷ handed) earlier before came hands come more = (
    (λ print went told.
        let so : List (List ℕ) = so_far m.run.run m.run.fetched (m ∷ earlier) (blocks ∷ before) in
        sym (append_assoc (so_far m.run.run m.run.fetched earlier before) (cond (m.run.run == m.run.run && m.run.fetched == m.run.fetched) blocks []) (later m.run.run m.run.fetched steps handed))
        ∙ ap (λ x. so ++ x) (ended steps handed (m ∷ earlier) m (last_is m earlier) told come.1) ∙ append-nil so
        ∙ whole_step earlier before m blocks came hands come.0 more.0 print went told),
    whole_shifted earlier before m blocks steps handed steps (each_whole steps handed (m ∷ earlier) (blocks ∷ before) (come.0, came) (more.0, hands) come.1 more.1),
  )

  whole_of_stretch : (steps : List MadeStep) (handed : List (List (List ℕ))) (ms : List MadeStep) → AllWhole [] [] steps handed ms
      → AllByRecursion (λ (m : MadeStep). m.run.work.kind ≡ Print → m.end ≡ WentOn → report_told m.run m.end ≡ report.Done normal_status → blocks_of_stretch m.run steps handed ≡ blocks_behind_mark m.run) ms
  whole_of_stretch steps handed [] all = tt
  whole_of_stretch steps handed (m ∷ ms) all = ((λ print went told. stretch_is m.run steps handed ∙ all.0 print went told), whole_of_stretch steps handed ms all.1)

  pub stretches_whole : (steps : List MadeStep) (handed : List (List (List ℕ))) → ComeInStretches [] steps → AreHanded steps handed
      → AllByRecursion (λ (m : MadeStep). m.run.work.kind ≡ Print → m.end ≡ WentOn → report_told m.run m.end ≡ report.Done normal_status → blocks_of_stretch m.run steps handed ≡ blocks_behind_mark m.run) steps
  stretches_whole steps handed come more = whole_of_stretch steps handed steps (each_whole steps handed [] [] tt tt come more)
