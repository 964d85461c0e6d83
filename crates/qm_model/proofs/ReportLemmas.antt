-- What runs report, from each place on.
use Rattle.std.proofs.Common.{◌≡◌, ℕ, zero, suc, ◌+◌, ◌-◌, ◌≤◌, Bool, true, false, cond, List, [], ◌∷◌, length, drop, length-drop, refl, sym, ◌∙◌, ap, subst, arith, nat_lt, filter_map, decimal}
use Rattle.std.proofs.lemmas.Bool.Decides.{nat_tests}
use Rattle.qm_model.specs.Common.{JobKind, Work, Place, Report, page_blocks, lines}
use Rattle.qm_kinds.specs.declared.entry.JobKind.TheVariants.{Batch, Print}
use Rattle.qm_kinds.specs.declared.work.Report.TheVariants.{Mark, Done}
use Rattle.qm_model.specs.Reports.{Step, print_report, print_steps, line_limit, steps_of, batch_steps, course_of, report_of, reports, EndOnce, GoOnAtMarks}
use Rattle.qm_model.specs.Batch.{BatchMove, GoOn, Output, SaveMark, EndRun, move_at, normal_status}

-- the reports of some steps
reported : List Step → List Report
reported steps = filter_map report_of steps

-- ---- batch jobs

move_ends : (m : BatchMove) (used : ℕ) (onward : ℕ → List Step) → ((at : ℕ) → EndOnce (reported (onward at))) → EndOnce (reported (steps_of m used onward))
unfolding reported
move_ends (GoOn at) used onward h = h at
move_ends (Output block at) used onward h = h at
move_ends (SaveMark text at) used onward h = h at
move_ends (EndRun status) used onward h = refl

batch_ends : (room : ℕ) (all : List (List ℕ)) (again : Bool) (mark : List ℕ) (at : ℕ) → EndOnce (reported (batch_steps room all again mark at))
unfolding reported
batch_ends zero all again mark at = refl
batch_ends (suc room) all again mark at =
    move_ends (move_at all again mark at) (line_limit - room) (λ next. batch_steps room all again mark next) (λ next. batch_ends room all again mark next)

-- ---- print jobs

drop_after : {X : Type 0} (n : ℕ) (xs : List X) (y : X) (ys : List X) → drop n xs ≡ y ∷ ys → drop (suc n) xs ≡ ys
drop_after zero [] y ys h = cc
drop_after zero (x ∷ xs) y ys h = cc
drop_after (suc n) [] y ys h = cc
drop_after (suc n) (x ∷ xs) y ys h = drop_after n xs y ys h

one_more : (n : ℕ) → suc n ≡ n + 1
one_more n = omega arith

pub drop_next : {X : Type 0} (n : ℕ) (xs : List X) (y : X) (ys : List X) → drop n xs ≡ y ∷ ys → drop (n + 1) xs ≡ ys
drop_next n xs y ys h = subst (λ m. drop m xs ≡ ys) (one_more n) (drop_after n xs y ys h)

last_count : (n m : ℕ) → m - n ≡ 1 → nat_lt (n + 1) m ≡ false
last_count n m h = grind (arith, nat_tests)

inner_count : (n m more : ℕ) → m - n ≡ suc (suc more) → nat_lt (n + 1) m ≡ true
inner_count n m more h = grind (arith, nat_tests)

-- where a list is cut so that one element or more are left
pub one_left : {X : Type 0} (n : ℕ) (xs : List X) (y : X) → drop n xs ≡ y ∷ [] → nat_lt (n + 1) (length xs) ≡ false
one_left n xs y h = last_count n (length xs) (sym (length-drop n xs) ∙ ap length h)

pub more_left : {X : Type 0} (n : ℕ) (xs : List X) (y z : X) (ys : List X) → drop n xs ≡ y ∷ z ∷ ys → nat_lt (n + 1) (length xs) ≡ true
more_left n xs y z ys h = inner_count n (length xs) (length ys) (sym (length-drop n xs) ∙ ap length h)

pub last_report : (all used count : ℕ) → nat_lt count all ≡ false → print_report all used count ≡ Done normal_status
last_report all used count h = ap (λ b. cond b (Mark (decimal count) (record { at = count; used = used })) (Done normal_status)) h

pub next_mark : (all used count : ℕ) → nat_lt count all ≡ true → print_report all used count ≡ Mark (decimal count) (record { at = count; used = used })
next_mark all used count h = ap (λ b. cond b (Mark (decimal count) (record { at = count; used = used })) (Done normal_status)) h

print_ends : (pages : List (List ℕ)) (used at : ℕ) (blocks : List (List ℕ)) → drop at pages ≡ blocks → EndOnce (reported (print_steps (length pages) used at blocks))
unfolding reported
print_ends pages used at [] h = refl
print_ends pages used at (block ∷ []) h =
    subst (λ r. EndOnce (r ∷ [])) (sym (last_report (length pages) used (at + 1) (one_left at pages block h))) refl
print_ends pages used at (block ∷ next ∷ blocks) h =
    subst (λ r. EndOnce (r ∷ reported (print_steps (length pages) used (at + 1) (next ∷ blocks))))
    (sym (next_mark (length pages) used (at + 1) (more_left at pages block next blocks h)))
    (print_ends pages used (at + 1) (next ∷ blocks) (drop_next at pages block (next ∷ blocks) h))

ends_of_kind : (kind : JobKind) (w : Work) (p : Place) → EndOnce (reported (course_of kind w p))
unfolding reported
ends_of_kind Print w p = print_ends (page_blocks w) p.used p.at (drop p.at (page_blocks w)) refl
ends_of_kind Batch w p = batch_ends (line_limit - p.used) (lines w.text) w.again w.mark (p.at - 1)

pub end_once : (w : Work) (p : Place) → EndOnce (reports w p)
unfolding reported
end_once w p = ends_of_kind w.kind w p

-- ---- beginning anew at a mark

back : (limit room : ℕ) → room ≤ limit → limit - (limit - room) ≡ room
back limit room h = omega (arith, h)

one_less : (n : ℕ) → n + 1 - 1 ≡ n
one_less n = omega arith

less : (room limit : ℕ) → suc room ≤ limit → room ≤ limit
less room limit h = omega (arith, h)

at_most : (limit used : ℕ) → limit - used ≤ limit
at_most limit used = omega arith

move_goes_on : (w : Work) (m : BatchMove) (used : ℕ) (onward : ℕ → List Step) → ((at : ℕ) → GoOnAtMarks w (reported (onward at)))
    → ((at : ℕ) → reports w (record { at = at + 1; used = used }) ≡ reported (onward at)) → GoOnAtMarks w (reported (steps_of m used onward))
unfolding reported
move_goes_on w (GoOn at) used onward h anew = h at
move_goes_on w (Output block at) used onward h anew = h at
move_goes_on w (SaveMark text at) used onward h anew = (anew at, h at)
move_goes_on w (EndRun status) used onward h anew = tt

batch_anew : (w : Work) (room at : ℕ) → w.kind ≡ Batch → room ≤ line_limit
    → reports w (record { at = at + 1; used = line_limit - room }) ≡ reported (batch_steps room (lines w.text) w.again w.mark at)
unfolding reported
batch_anew w room at is h =
    ap (λ k. reported (course_of k w (record { at = at + 1; used = line_limit - room }))) is
    ∙ ap (λ n. reported (batch_steps n (lines w.text) w.again w.mark (at + 1 - 1))) (back line_limit room h)
    ∙ ap (λ n. reported (batch_steps room (lines w.text) w.again w.mark n)) (one_less at)

batch_goes_on : (w : Work) → w.kind ≡ Batch → (room : ℕ) → room ≤ line_limit → (at : ℕ) → GoOnAtMarks w (reported (batch_steps room (lines w.text) w.again w.mark at))
unfolding reported
batch_goes_on w is zero h at = tt
batch_goes_on w is (suc room) h at =
    move_goes_on w (move_at (lines w.text) w.again w.mark at) (line_limit - room) (λ next. batch_steps room (lines w.text) w.again w.mark next)
    (batch_goes_on w is room (less room line_limit h)) (λ next. batch_anew w room next is (less room line_limit h))

print_goes_on : (w : Work) → w.kind ≡ Print → (used at : ℕ) (blocks : List (List ℕ)) → drop at (page_blocks w) ≡ blocks
    → GoOnAtMarks w (reported (print_steps (length (page_blocks w)) used at blocks))
unfolding reported
print_goes_on w is used at [] h = tt
print_goes_on w is used at (block ∷ []) h =
    subst (λ r. GoOnAtMarks w (r ∷ [])) (sym (last_report (length (page_blocks w)) used (at + 1) (one_left at (page_blocks w) block h))) tt
print_goes_on w is used at (block ∷ next ∷ blocks) h =
    subst (λ r. GoOnAtMarks w (r ∷ reported (print_steps (length (page_blocks w)) used (at + 1) (next ∷ blocks))))
    (sym (next_mark (length (page_blocks w)) used (at + 1) (more_left at (page_blocks w) block next blocks h))) (
      ap (λ k. reported (course_of k w (record { at = at + 1; used = used }))) is
          ∙ ap (λ left. reported (print_steps (length (page_blocks w)) used (at + 1) left)) (drop_next at (page_blocks w) block (next ∷ blocks) h),
      print_goes_on w is used (at + 1) (next ∷ blocks) (drop_next at (page_blocks w) block (next ∷ blocks) h),
    )

goes_on_by_kind : (w : Work) (p : Place) (kind : JobKind) → w.kind ≡ kind → GoOnAtMarks w (reported (course_of kind w p))
unfolding reported
goes_on_by_kind w p Print is = print_goes_on w is p.used p.at (drop p.at (page_blocks w)) refl
goes_on_by_kind w p Batch is = batch_goes_on w is (line_limit - p.used) (at_most line_limit p.used) (p.at - 1)

pub go_on_at_marks : (w : Work) (p : Place) → GoOnAtMarks w (reports w p)
unfolding reported
go_on_at_marks w p = goes_on_by_kind w p w.kind refl
