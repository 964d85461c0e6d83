-- Blocks that come again.
use Rattle.std.proofs.Common.{◌≡◌, ℕ, ◌+◌, ◌<◌, ◌≤◌, ◌⊎◌, inl, inr, Bool, true, false, cond, List, [], ◌∷◌, refl, sym, ◌∙◌, ap, subst, arith, Option, Some, drop, length, ◌==◌, nat_lt, decimal}
use Rattle.std.specs.List.{AllByRecursion}
use Rattle.std.proofs.lemmas.Bool.Decides.{nat_tests}
use Rattle.qm_history.specs.Common.{JobKind, Print, Place, Work, normal_status, page_blocks, KeptRun, StepEnd, WentOn, DeviceFailed, CutShort, report_told, MadeStep}
use Rattle.qm_kinds.specs.declared.work.Report.TheVariants as report
use Rattle.qm_model.specs.Reports.{begin, course_of, next_report, print_steps}
use Rattle.qm_history.specs.Blocks.{last_step, IsFetchedBehind, IsLeftBy, IsInStretch, ComeInStretches, ComesAgainBehindMark, ComeAgainBehindMarks}

-- ---- the mark of a print job is behind one more block

count_at : (count used : ℕ) (b : Bool) (value : List ℕ) (next : Place) → cond b (report.Mark (decimal count) (record { at = count; used = used })) (report.Done normal_status) ≡ report.Mark value next
    → next.at ≡ count
count_at count used true value next h = let same : ◌≡◌ {A = Place} (record { at = count; used = used }) next = cc in sym (ap (λ (p : Place). p.at) same)
count_at count used false value next h = cc

print_mark : (all used at : ℕ) (blocks : List (List ℕ)) (value : List ℕ) (next : Place) → next_report (print_steps all used at blocks) ≡ report.Mark value next → next.at ≡ at + 1
print_mark all used at [] value next h = cc
print_mark all used at (block ∷ []) value next h = count_at (at + 1) used (nat_lt (at + 1) all) value next h
print_mark all used at (block ∷ other ∷ blocks) value next h = count_at (at + 1) used (nat_lt (at + 1) all) value next h

pub told_mark : (k : KeptRun) (end : StepEnd) (value : List ℕ) (next : Place) → k.work.kind ≡ Print → report_told k end ≡ report.Mark value next → next.at ≡ k.place.at + 1
told_mark k WentOn value next print h =
    print_mark (length (page_blocks k.work)) k.place.used k.place.at (drop k.place.at (page_blocks k.work)) value next
    (subst (λ (kind : JobKind). next_report (course_of kind k.work k.place) ≡ report.Mark value next) print h)
told_mark k DeviceFailed value next print h = cc
told_mark k CutShort value next print h = cc

-- ---- steps of one run

-- fetched before, or of the same fetch and further to the front
abbrev pub Precedes : KeptRun → KeptRun → Type 0
Precedes a b = (a.fetched < b.fetched) ⊎ ((a.fetched ≡ b.fetched) × (a.work ≡ b.work) × (b.work.kind ≡ Print → a.place.at < b.place.at))

precede_on : (a b c : KeptRun) → Precedes a b → Precedes b c → Precedes a c
precede_on a b c (inl first) (inl second) = inl (omega arith)
precede_on a b c (inl first) (inr second) = let same : b.fetched ≡ c.fetched = second.0 in inl (omega arith)
precede_on a b c (inr first) (inl second) = let same : a.fetched ≡ b.fetched = first.0 in inl (omega arith)
precede_on a b c (inr first) (inr second) =
    inr (
      first.0 ∙ second.0,
      first.1 ∙ second.1,
      λ print.
          let left : a.place.at < b.place.at = first.2 (ap (λ (w : Work). w.kind) second.1 ∙ print) in
          let right : b.place.at < c.place.at = second.2 print in
          omega arith,
    )

-- steps that came in stretches, of which the last one comes first
abbrev pub Came : List MadeStep → Type 0
Came [] = Unit {0}
Came (m ∷ earlier) = IsInStretch earlier m.run × Came earlier

pub same_run : (a b : ℕ) → (a == b) ≡ true → a ≡ b
same_run a b h = grind (arith, nat_tests)

other_run : (a b : ℕ) → (a == b) ≡ false → a ≡ b → ⊥
other_run a b h same = absurd (grind (arith, nat_tests))

-- what the last step of the run says, where this is that step, and where it isn't
abbrev pub InStretchAt : Option MadeStep → KeptRun → Type 0
InStretchAt o k = (IsFetchedBehind o k × (k.place ≡ begin k.work)) ⊎ IsLeftBy o k

pub step_before : (m : MadeStep) (k : KeptRun) → InStretchAt (Some m) k → Precedes m.run k
step_before m k (inl begins) = inl begins.0
step_before m k (inr (work, fetched, left)) = inr (
  fetched,
  work,
  λ print.
      let next : k.place.at ≡ m.run.place.at + 1 = told_mark m.run m.end left.0 k.place (ap (λ (w : Work). w.kind) work ∙ print) left.1 in omega arith,
)

abbrev pub AllPrecede : List MadeStep → KeptRun → Type 0
AllPrecede earlier k = AllByRecursion (λ (e : MadeStep). e.run.run ≡ k.run → Precedes e.run k) earlier

on_to : (m : MadeStep) (k : KeptRun) → m.run.run ≡ k.run → Precedes m.run k → (earlier : List MadeStep) → AllPrecede earlier m.run → AllPrecede earlier k
on_to m k same here [] all = tt
on_to m k same here (e ∷ earlier) all = ((λ is. precede_on e.run m.run k (all.0 (is ∙ sym same)) here), on_to m k same here earlier all.1)

preceded_at : (m : MadeStep) (earlier : List MadeStep) (k : KeptRun) (b : Bool) → (m.run.run == k.run) ≡ b → InStretchAt (cond b (Some m) (last_step k.run earlier)) k
    → AllPrecede earlier m.run → (IsInStretch earlier k → AllPrecede earlier k) → AllPrecede (m ∷ earlier) k
preceded_at m earlier k true is h before on =
    let here : Precedes m.run k = step_before m k h in ((λ same. here), on_to m k (same_run m.run.run k.run is) here earlier before)
preceded_at m earlier k false is h before on = ((λ same. absurd (other_run m.run.run k.run is same)), on h)

preceded : (earlier : List MadeStep) (k : KeptRun) → Came earlier → IsInStretch earlier k → AllPrecede earlier k
preceded [] k came h = tt
preceded (m ∷ earlier) k came h =
    preceded_at m earlier k (m.run.run == k.run) refl h (preceded earlier m.run came.1 came.0) (λ there. preceded earlier k came.1 there)

-- ---- no step is before the mark of its fetch

behind_mark_at : (m : MadeStep) (earlier : List MadeStep) (k : KeptRun) (b : Bool) → (m.run.run == k.run) ≡ b → InStretchAt (cond b (Some m) (last_step k.run earlier)) k
    → k.work.kind ≡ Print → (m.run.work.kind ≡ Print → (begin m.run.work).at ≤ m.run.place.at) → (IsInStretch earlier k → (begin k.work).at ≤ k.place.at) → (begin k.work).at ≤ k.place.at
behind_mark_at m earlier k true is (inl begins) print before on = let same : k.place.at ≡ (begin k.work).at = ap (λ (p : Place). p.at) begins.1 in omega arith
behind_mark_at m earlier k true is (inr (work, fetched, left)) print before on =
    let kind : m.run.work.kind ≡ Print = ap (λ (w : Work). w.kind) work ∙ print in
    let next : k.place.at ≡ m.run.place.at + 1 = told_mark m.run m.end left.0 k.place kind left.1 in
    let from : (begin m.run.work).at ≤ m.run.place.at = before kind in
    let same : (begin m.run.work).at ≡ (begin k.work).at = ap (λ (w : Work). (begin w).at) work in
    omega arith
behind_mark_at m earlier k false is h print before on = on h

pub behind_its_mark : (earlier : List MadeStep) (k : KeptRun) → Came earlier → IsInStretch earlier k → k.work.kind ≡ Print → (begin k.work).at ≤ k.place.at
behind_its_mark [] k came (inl begins) print = let same : k.place.at ≡ (begin k.work).at = ap (λ (p : Place). p.at) begins.1 in omega arith
behind_its_mark [] k came (inr left) print = absurd left
behind_its_mark (m ∷ earlier) k came h print =
    behind_mark_at m earlier k (m.run.run == k.run) refl h print (λ kind. behind_its_mark earlier m.run came.1 came.0 kind) (λ there. behind_its_mark earlier k came.1 there print)

-- ---- what comes again

again_at : (first again : KeptRun) → (first.run ≡ again.run → Precedes first again) → (again.work.kind ≡ Print → (begin again.work).at ≤ again.place.at) → ComesAgainBehindMark first again
again_at first again before behind print print_too entry same_place =
    ((λ same_run. later (before same_run)), behind print_too)
  where
    later : Precedes first again → first.fetched < again.fetched
    later (inl earlier) = earlier
    later (inr (fetched, work, further)) = let less : first.place.at < again.place.at = further print_too in absurd (omega (arith, same_place))

-- the steps that are told of precede this one
abbrev pub First : MadeStep → List MadeStep → Type 0
First m steps = AllByRecursion (λ (again : MadeStep). ComesAgainBehindMark m.run again.run) steps

-- a step that is among the earlier ones comes before each later one
later_ones : (m : MadeStep) (earlier steps : List MadeStep) → Came earlier → ((k : KeptRun) → AllPrecede earlier k → m.run.run ≡ k.run → Precedes m.run k) → ComeInStretches earlier steps → First m steps
later_ones m earlier [] came among h = tt
later_ones m earlier (l ∷ steps) came among h = (
  again_at m.run l.run (λ same. among l.run (preceded earlier l.run came h.0) same) (behind_its_mark earlier l.run came h.0),
  later_ones m (l ∷ earlier) steps (h.0, came) (λ k all same. among k all.1 same) h.1,
)

pub come_again : (earlier steps : List MadeStep) → Came earlier → ComeInStretches earlier steps → ComeAgainBehindMarks steps
come_again earlier [] came h = tt
come_again earlier (m ∷ steps) came h = (
  later_ones m (m ∷ earlier) steps (h.0, came) (λ k all same. all.0 same) h.1,
  come_again (m ∷ earlier) steps (h.0, came) h.1,
)
