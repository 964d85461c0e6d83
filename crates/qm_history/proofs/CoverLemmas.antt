-- Within a stretch no block is left out.
use Rattle.std.proofs.Common.{◌≡◌, ℕ, ◌+◌, ◌-◌, ◌<◌, ◌≤◌, inl, inr, Bool, true, false, cond, List, [], ◌∷◌, length, drop, refl, sym, ◌∙◌, ap, subst, arith, Some, ◌==◌, nat_lt, decimal, slice_get, Contains, length-drop}
use Rattle.std.specs.List.{AllByRecursion}
use Rattle.std.proofs.lemmas.Bool.Decides.{nat_tests}
use Rattle.std.proofs.lemmas.Option.{slice_get_within}
use Rattle.qm_history.specs.Common.{JobKind, Print, Place, Work, normal_status, page_blocks, KeptRun, StepEnd, WentOn, DeviceFailed, CutShort, report_told, MadeStep}
use Rattle.qm_kinds.specs.declared.work.Report.TheVariants as report
use Rattle.qm_model.specs.Reports.{begin, course_of, next_report, print_steps}
use Rattle.qm_history.specs.declared.turn.Turn.{Turn}
use Rattle.qm_history.specs.declared.world.World.{World}
use Rattle.qm_history.specs.Blocks.{last_step, IsInStretch, IsLeftBy, ComeInStretches}
use Rattle.qm_history.specs.Printed.{Came, EndsWell, IsHandedOver, AreHandedBehindMarks, ComesAgainElsewhere}
use Rattle.qm_history.proofs.AgainLemmas.{InStretchAt, behind_its_mark, same_run, told_mark}
use Rattle.qm_history.proofs.AgainLemmas as again
use Rattle.qm_history.proofs.GivenLemmas.{IsAmong, among, contained}

-- what is reported of a step with a checkpoint is that its symbiont went on
went_on : (k : KeptRun) (end : StepEnd) (value : List ℕ) (next : Place) → report_told k end ≡ report.Mark value next → end ≡ WentOn
went_on k WentOn value next h = refl
went_on k DeviceFailed value next h = cc
went_on k CutShort value next h = cc

test_below : (a b : ℕ) → (nat_lt a b ≡ true → a < b) × (nat_lt a b ≡ false → b ≤ a)
test_below a b = ((λ h. grind (arith, nat_tests)), (λ h. grind (arith, nat_tests)))

-- ---- the step that handed over a block

-- one of the earlier steps, of the same fetch, handed it over
abbrev pub IsCovered : List MadeStep → Work → ℕ → Type 0
IsCovered earlier work index = (m : MadeStep) × IsAmong m earlier × (m.run.work ≡ work) × (m.end ≡ WentOn) × (m.run.place.at ≡ index)

further : (m : MadeStep) (earlier : List MadeStep) (work : Work) (index : ℕ) → IsCovered earlier work index → IsCovered (m ∷ earlier) work index
further m earlier work index (x, inside, same, went, at) = (x, inr inside, same, went, at)

of_same : (earlier : List MadeStep) (a b : Work) (index : ℕ) → a ≡ b → IsCovered earlier a index → IsCovered earlier b index
of_same earlier a b index same h = subst (λ w. IsCovered earlier w index) same h

module _ (index : ℕ) where
  abbrev Covers : List MadeStep → KeptRun → Type 0
  Covers earlier k = k.work.kind ≡ Print → (begin k.work).at ≤ index → index < k.place.at → IsCovered earlier k.work index

  left_at : (m : MadeStep) (earlier : List MadeStep) (k : KeptRun) (b : Bool) → nat_lt index m.run.place.at ≡ b → IsLeftBy (Some m) k → Covers earlier m.run → Covers (m ∷ earlier) k
  left_at m earlier k true is (work, fetched, left) before print behind below =
      let kind : m.run.work.kind ≡ Print = ap (λ (w : Work). w.kind) work ∙ print in
      let from : (begin m.run.work).at ≤ index = subst (λ (w : Work). (begin w).at ≤ index) (sym work) behind in
      of_same (m ∷ earlier) m.run.work k.work index work (further m earlier m.run.work index (before kind from ((test_below index m.run.place.at).0 is)))
  left_at m earlier k false is (work, fetched, left) before print behind below =
      let kind : m.run.work.kind ≡ Print = ap (λ (w : Work). w.kind) work ∙ print in
      let next : k.place.at ≡ m.run.place.at + 1 = told_mark m.run m.end left.0 k.place kind left.1 in
      let above : m.run.place.at ≤ index = (test_below index m.run.place.at).1 is in
      (m, inl refl, work, went_on m.run m.end left.0 k.place left.1, omega arith)

  not_begun : (earlier : List MadeStep) (k : KeptRun) → k.place ≡ begin k.work → Covers earlier k
  not_begun earlier k is print behind below = let same : k.place.at ≡ (begin k.work).at = ap (λ (p : Place). p.at) is in absurd (omega (arith, behind, below, same))

  covered_at : (m : MadeStep) (earlier : List MadeStep) (k : KeptRun) (b : Bool) → InStretchAt (cond b (Some m) (last_step k.run earlier)) k → Covers earlier m.run
      → (IsInStretch earlier k → Covers earlier k) → Covers (m ∷ earlier) k
  covered_at m earlier k true (inl begins) before on = not_begun (m ∷ earlier) k begins.1
  covered_at m earlier k true (inr left) before on = left_at m earlier k (nat_lt index m.run.place.at) refl left before
  covered_at m earlier k false h before on = λ print behind below. further m earlier k.work index (on h print behind below)

  covered : (earlier : List MadeStep) (k : KeptRun) → again.Came earlier → IsInStretch earlier k → Covers earlier k
  covered [] k came (inl begins) = not_begun [] k begins.1
  covered [] k came (inr left) = absurd left
  covered (m ∷ earlier) k came h = covered_at m earlier k (m.run.run == k.run) h (covered earlier m.run came.1 came.0) (λ there. covered earlier k came.1 there)

-- ---- all steps

handed : (all earlier : List MadeStep) (work : Work) (index : ℕ) → ((x : MadeStep) → IsAmong x earlier → Contains all x) → IsCovered earlier work index → IsHandedOver all work index
handed all earlier work index inside (m, there, same, went, at) = (m, inside m there, same, went, at)

one_more_inside : (all earlier : List MadeStep) (m : MadeStep) → ((x : MadeStep) → IsAmong x earlier → Contains all x) → Contains all m → (x : MadeStep) → IsAmong x (m ∷ earlier) → Contains all x
one_more_inside all earlier m inside here x (inl is) = subst (λ y. Contains all y) is here
one_more_inside all earlier m inside here x (inr there) = inside x there

handed_behind : (all earlier steps : List MadeStep) → ((x : MadeStep) → IsAmong x earlier → Contains all x) → ((x : MadeStep) → IsAmong x steps → Contains all x) → again.Came earlier
    → ComeInStretches earlier steps
    → AllByRecursion (λ (m : MadeStep). m.run.work.kind ≡ Print → (index : ℕ) → (begin m.run.work).at ≤ index → index < m.run.place.at → IsHandedOver all m.run.work index) steps
handed_behind all earlier [] inside others came h = tt
handed_behind all earlier (m ∷ steps) inside others came h = (
  (λ print index behind below. handed all earlier m.run.work index inside (covered index earlier m.run came h.0 print behind below)),
  handed_behind all (m ∷ earlier) steps (one_more_inside all earlier m inside (others m (inl refl))) (λ x there. others x (inr there)) (h.0, came) h.1,
)

pub all_handed_behind : (steps : List MadeStep) → ComeInStretches [] steps → AreHandedBehindMarks steps
all_handed_behind steps h = handed_behind steps [] steps (λ x there. absurd there) (λ x there. contained steps x there) tt h

-- ---- a run that ended well

ends_at : (all used count : ℕ) (b : Bool) → nat_lt count all ≡ b → cond b (report.Mark (decimal count) (record { at = count; used = used })) (report.Done normal_status) ≡ report.Done normal_status → all ≤ count
ends_at all used count true is h = cc
ends_at all used count false is h = (test_below count all).1 is

print_ends : (all used at : ℕ) (blocks : List (List ℕ)) → length blocks ≡ all - at → next_report (print_steps all used at blocks) ≡ report.Done normal_status → all ≤ at + 1
print_ends all used at [] size h = let none : 0 ≡ all - at = size in omega arith
print_ends all used at (block ∷ []) size h = ends_at all used (at + 1) (nat_lt (at + 1) all) refl h
print_ends all used at (block ∷ other ∷ blocks) size h = ends_at all used (at + 1) (nat_lt (at + 1) all) refl h

pub told_end : (k : KeptRun) → k.work.kind ≡ Print → report_told k WentOn ≡ report.Done normal_status → length (page_blocks k.work) ≤ k.place.at + 1
told_end k print told =
    print_ends (length (page_blocks k.work)) k.place.used k.place.at (drop k.place.at (page_blocks k.work)) (length-drop k.place.at (page_blocks k.work))
    (subst (λ (kind : JobKind). next_report (course_of kind k.work k.place) ≡ report.Done normal_status) print told)

of_all : (P : MadeStep → Type 0) (steps : List MadeStep) (m : MadeStep) → IsAmong m steps → AllByRecursion P steps → P m
of_all P [] m h all = absurd h
of_all P (x ∷ steps) m (inl is) all = subst P is all.0
of_all P (x ∷ steps) m (inr h) all = of_all P steps m h all.1

module _ (w : World) (turns : List Turn) (steps : ℕ → List MadeStep) (entry node : ℕ) (m : MadeStep) (well : EndsWell w turns steps entry node m)
    (stretches : ComeInStretches [] (steps node)) (index : ℕ) (block : List ℕ) (there : slice_get (page_blocks m.run.work) index ≡ Some block)
  where
    of_handed : IsHandedOver (steps node) m.run.work index → Came steps entry index block
    of_handed (x, inside, same, went, at) = record {
      node = node;
      step = x;
      made = inside;
      of_job = ap (λ (w : Work). w.entry) same ∙ well.of_job;
      went_on = went;
      at = at;
      is_block = subst (λ (w : Work). slice_get (page_blocks w) index ≡ Some block) (sym same) there;
    }

    came_at : (b : Bool) → nat_lt index m.run.place.at ≡ b → (begin m.run.work).at ≤ index → Came steps entry index block
    came_at true is behind =
        of_handed (of_all (λ (x : MadeStep). x.run.work.kind ≡ Print → (i : ℕ) → (begin x.run.work).at ≤ i → i < x.run.place.at → IsHandedOver (steps node) x.run.work i)
        (steps node) m (among (steps node) m well.made) (all_handed_behind (steps node) stretches) well.print index behind ((test_below index m.run.place.at).0 is))
    came_at false is behind =
        let within : index < length (page_blocks m.run.work) = slice_get_within (page_blocks m.run.work) index block there in
        let end : length (page_blocks m.run.work) ≤ m.run.place.at + 1 =
        told_end m.run well.print (subst (λ (e : StepEnd). report_told m.run e ≡ report.Done normal_status) well.went_on well.told) in
        let above : m.run.place.at ≤ index = (test_below index m.run.place.at).1 is in
        of_handed (m, well.made, refl, well.went_on, omega arith)

    pub came_behind_mark : (begin m.run.work).at ≤ index → Came steps entry index block
    came_behind_mark behind = came_at (nat_lt index m.run.place.at) refl behind

-- ---- two nodes

comes_elsewhere : (earlier before : List MadeStep) (a b : MadeStep) → again.Came earlier → IsInStretch earlier a.run → again.Came before → IsInStretch before b.run → ComesAgainElsewhere a b
comes_elsewhere earlier before a b came h came_too h_too print print_too entry same =
    let first : (begin a.run.work).at ≤ a.run.place.at = behind_its_mark earlier a.run came h print in
    let second : (begin b.run.work).at ≤ b.run.place.at = behind_its_mark before b.run came_too h_too print_too in
    (omega arith, omega arith)

each_elsewhere : (earlier before : List MadeStep) (a : MadeStep) (others : List MadeStep) → again.Came earlier → IsInStretch earlier a.run → again.Came before → ComeInStretches before others
    → AllByRecursion (λ (b : MadeStep). ComesAgainElsewhere a b) others
each_elsewhere earlier before a [] came h came_too rest = tt
each_elsewhere earlier before a (b ∷ others) came h came_too rest =
    (comes_elsewhere earlier before a b came h came_too rest.0, each_elsewhere earlier (b ∷ before) a others came h (rest.0, came_too) rest.1)

pub all_elsewhere : (earlier steps others : List MadeStep) → again.Came earlier → ComeInStretches earlier steps → ComeInStretches [] others
    → AllByRecursion (λ (a : MadeStep). AllByRecursion (λ (b : MadeStep). ComesAgainElsewhere a b) others) steps
all_elsewhere earlier [] others came h h_too = tt
all_elsewhere earlier (a ∷ steps) others came h h_too = (each_elsewhere earlier [] a others came h.0 tt h_too, all_elsewhere (a ∷ earlier) steps others (h.0, came) h.1 h_too)
