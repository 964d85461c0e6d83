-- What print jobs report, and where a run begins that gets the value of a mark.
use Rattle.std.proofs.Common.{◌≡◌, ℕ, ◌+◌, ◌-◌, ◌*◌, ◌<◌, ◌≤◌, ◌^◌, Bool, true, cond, ◌&&◌, List, [], ◌∷◌, ◌++◌, length, map, take, drop, length-drop, length-append, refl, sym, ◌∙◌, ap, subst, arith, nat_le, fold, filter_map, decimal, max, leb-true, le-leb}
use Rattle.std.specs.List.{list_all, range_with_len}
use Rattle.std.specs.Char.{is_ascii_digit}
use Rattle.std.proofs.lemmas.Bool.Decides.{Decides-ltb}
use Rattle.std.proofs.lemmas.Fmt.{digits_decimal, digits_value-decimal}
use Rattle.std.proofs.lemmas.List.FromFn.{length-map-range_with_len}
use Rattle.std.proofs.lemmas.Str.Parse.{IsDigitsTest, IsNumeralModel, numerals_by_fold}
use Rattle.qm_kinds.specs.declared.entry.JobKind.TheVariants.{Print}
use Rattle.qm_model.specs.Common.{value_of, Work, Place, Report, page_blocks, normal_status}
use Rattle.qm_kinds.specs.declared.work.Report.TheVariants.{Done}
use Rattle.qm_model.specs.Reports.{Step, printed, begin_at, begin, print_steps, course_of, course, report_of, reports, with_mark, mark_behind, BeginAtMarks, blocks_before_report}
use Rattle.qm_model.proofs.SettlingLemmas.{and_left, and_right}
use Rattle.qm_model.proofs.ReportLemmas.{drop_next, one_left, more_left, last_report, next_mark}

-- the reports of some steps
reported : List Step → List Report
reported steps = filter_map report_of steps

-- ---- a mark for each block that is left but the last, and the end

module _ (pages : List (List ℕ)) (used : ℕ) where
  one_for_each : (at : ℕ) (block : List ℕ) (blocks : List (List ℕ)) → drop at pages ≡ block ∷ blocks
      → reported (print_steps (length pages) used at (block ∷ blocks)) ≡ map (mark_behind used) (range_with_len (at + 1) (length blocks)) ++ Done normal_status ∷ []
  unfolding reported
  one_for_each at block [] h = ap (λ r. r ∷ []) (last_report (length pages) used (at + 1) (one_left at pages block h))
  one_for_each at block (next ∷ blocks) h =
      ap (λ r. r ∷ reported (print_steps (length pages) used (at + 1) (next ∷ blocks))) (next_mark (length pages) used (at + 1) (more_left at pages block next blocks h))
      ∙ ap (λ l. mark_behind used (at + 1) ∷ l) (one_for_each (at + 1) next blocks (drop_next at pages block (next ∷ blocks) h))

  abbrev so_many_marks : ℕ → ℕ → List Report
  so_many_marks at n = map (mark_behind used) (range_with_len (at + 1) n) ++ Done normal_status ∷ []

  none_is_left : (at : ℕ) → drop at pages ≡ [] → length pages - at - 1 ≡ 0
  none_is_left at h = omega (arith, length-drop at pages, ap length h)

  some_are_left : (at : ℕ) (block : List ℕ) (blocks : List (List ℕ)) → drop at pages ≡ block ∷ blocks → length blocks ≡ length pages - at - 1
  some_are_left at block blocks h = omega (arith, length-drop at pages, ap length h)

  one_report_each : (at : ℕ) (blocks : List (List ℕ)) → drop at pages ≡ blocks → reported (print_steps (length pages) used at blocks) ≡ so_many_marks at (length pages - at - 1)
  unfolding reported
  one_report_each at [] h = ap (so_many_marks at) (sym (none_is_left at h))
  one_report_each at (block ∷ blocks) h = one_for_each at block blocks h ∙ ap (so_many_marks at) (some_are_left at block blocks h)

pub print_reports : (w : Work) (p : Place) → w.kind ≡ Print
    → reports w p ≡ map (mark_behind p.used) (range_with_len (p.at + 1) (length (page_blocks w) - p.at - 1)) ++ Done 1 ∷ []
unfolding reported
print_reports w p is = ap (λ k. reported (course_of k w p)) is ∙ one_report_each (page_blocks w) p.used p.at (drop p.at (page_blocks w)) refl

so_many : (n all at : ℕ) → n ≡ all - at - 1 → n + 1 ≡ max 1 (all - at)
so_many n all at h = omega (arith, h)

pub print_reports_count : (w : Work) (p : Place) → w.kind ≡ Print → length (reports w p) ≡ max 1 (length (page_blocks w) - p.at)
print_reports_count w p is =
    let left : ℕ = length (page_blocks w) - p.at - 1 in
    let marks : List Report = map (mark_behind p.used) (range_with_len (p.at + 1) left) in
    ap length (print_reports w p is) ∙ length-append marks (Done 1 ∷ []) ∙ so_many (length marks) (length (page_blocks w)) p.at (length-map-range_with_len (mark_behind p.used) (p.at + 1) left)

one_at_most : (all used at : ℕ) (blocks : List (List ℕ)) → blocks_before_report (print_steps all used at blocks) ≡ take 1 blocks
one_at_most all used at [] = refl
one_at_most all used at (block ∷ []) = refl
one_at_most all used at (block ∷ next ∷ blocks) = refl

pub next_block : (w : Work) (p : Place) → w.kind ≡ Print → blocks_before_report (course w p) ≡ take 1 (drop p.at (page_blocks w))
next_block w p is = ap (λ k. blocks_before_report (course_of k w p)) is ∙ one_at_most (length (page_blocks w)) p.used p.at (drop p.at (page_blocks w))

-- ---- the value of a mark says its place

is_digits : IsDigitsTest (λ ds. list_all is_ascii_digit ds ≡ true)
is_digits = record {
  empty = refl;
  parts = λ c cs h. (
    (leb-true 48 c (and_left _ _ (and_left (is_ascii_digit c) _ h)), leb-true c 57 (and_right (nat_le 48 c) _ (and_left (is_ascii_digit c) _ h))),
    and_right (is_ascii_digit c) _ h,
  );
  more = λ c cs range h. let low = le-leb 48 c range.0 in let high = le-leb c 57 range.1 in rw (low, high, h) refl;
}

numerals : IsNumeralModel (λ ds. list_all is_ascii_digit ds ≡ true) value_of
numerals = numerals_by_fold (λ ds. list_all is_ascii_digit ds ≡ true) is_digits (λ n ds. fold (λ m digit. m * 10 + (digit - 48)) n ds) (record { empty = λ n. refl; more = λ n c cs range. refl })

printed_at : (digits : Bool) (value blocks count : ℕ) → digits ≡ true → value ≡ count → nat_le count blocks ≡ true → cond (digits && nat_le value blocks) value 0 ≡ count
printed_at digits value blocks count digits_is value_is below = rw (digits_is, value_is, below) refl

printed_back : (blocks count : ℕ) → count ≤ blocks → count < 2 ^ 64 → printed blocks (decimal count) ≡ count
printed_back blocks count below small =
    printed_at (list_all is_ascii_digit (decimal count)) (value_of (decimal count)) blocks count (digits_decimal numerals count small) (digits_value-decimal numerals count small)
    (le-leb count blocks below)

module _ (w : Work) (is : w.kind ≡ Print) (few : length (page_blocks w) < 2 ^ 64) where
  begins_behind : (count : ℕ) → count < length (page_blocks w) → begin (with_mark w (decimal count)) ≡ record { at = count; used = 0 }
  begins_behind count below =
      ap (λ k. record { at = begin_at k (with_mark w (decimal count)); used = 0 }) is
      ∙ ap (λ n. record { at = n; used = 0 }) (printed_back (length (page_blocks w)) count (omega (arith, below)) (omega (arith, below, few)))

  reports_behind : (value : List ℕ) (p : Place) → reports (with_mark w value) p ≡ reported (print_steps (length (page_blocks w)) p.used p.at (drop p.at (page_blocks w)))
  unfolding reported
  reports_behind value p = ap (λ k. reported (course_of k (with_mark w value) p)) is

  begin_at_each : (at : ℕ) (blocks : List (List ℕ)) → drop at (page_blocks w) ≡ blocks → BeginAtMarks w (reported (print_steps (length (page_blocks w)) 0 at blocks))
  unfolding reported
  begin_at_each at [] h = tt
  begin_at_each at (block ∷ []) h =
      subst (λ r. BeginAtMarks w (r ∷ [])) (sym (last_report (length (page_blocks w)) 0 (at + 1) (one_left at (page_blocks w) block h))) tt
  begin_at_each at (block ∷ next ∷ blocks) h =
      let more = more_left at (page_blocks w) block next blocks h in
      let rest = drop_next at (page_blocks w) block (next ∷ blocks) h in
      let begins = begins_behind (at + 1) ((Decides-ltb (at + 1) (length (page_blocks w))).0 more) in
      subst (λ r. BeginAtMarks w (r ∷ reported (print_steps (length (page_blocks w)) 0 (at + 1) (next ∷ blocks)))) (sym (next_mark (length (page_blocks w)) 0 (at + 1) more)) (
        begins,
        ap (reports (with_mark w (decimal (at + 1)))) begins ∙ reports_behind (decimal (at + 1)) (record { at = at + 1; used = 0 })
            ∙ ap (λ left. reported (print_steps (length (page_blocks w)) 0 (at + 1) left)) rest,
        begin_at_each (at + 1) (next ∷ blocks) rest,
      )

  pub begin_at_marks : BeginAtMarks w (reports w (begin w))
  unfolding reported
  begin_at_marks =
      subst (BeginAtMarks w) (sym (ap (λ k. reported (course_of k w (begin w))) is))
      (begin_at_each (begin w).at (drop (begin w).at (page_blocks w)) refl)
