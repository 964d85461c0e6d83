-- Where runs of either kind stand: at their beginning, and behind a step.
use Rattle.std.proofs.Common.{◌≡◌, ⊎_elim, ℕ, ◌+◌, true, false, List, [], ◌∷◌, Result, Ok, Err, refl, sym, subst, drop, length, ap, nat_lt, decimal, if◌then◌else◌, IfOk}
use Rattle.qm_kinds.specs.declared.entry.JobKind.TheVariants.{Batch, Print}
use Rattle.qm_model.specs.Common.{Work, Place, Report, page_blocks}
use Rattle.qm_kinds.specs.declared.work.Report.TheVariants.{Mark, Done}
use Rattle.qm_model.specs.Reports.{begin, begin_at, course, next_report, print_report}
use Rattle.qm_symb.specs.Device.{Meaning}
use Rattle.qm_symb.specs.Symbiont.{IfGoesOn, Steps}
use Rattle.qm_symb.specs.PagePlaces.{blocks_from}
use Rattle.qm_symb.specs.declared.print.cursor.Cursor as pages
use Rattle.qm_symb.proofs.StepLemmas.{report_of_next, report_of_end}
use Rattle.qm_symb.specs.Standard.{IsAtBlock}

-- a batch job begins at its first line
pub first_line : (w : Work) → w.kind ≡ Batch → begin w ≡ record { at = 1; used = 0 }
first_line w is = ap (λ at. record { at = at; used = 0 }) (ap (λ k. begin_at k w) is)

-- ---- the cursor of a print job stands at the place of its mark

module _ (w : Work) (p : Place) (is : w.kind ≡ Print) (cursor : pages.Cursor) (behind : blocks_from w cursor ≡ drop (p.at + 1) (page_blocks w)) where
  -- a mark's place is the next one
  marked : (all count : ℕ) → count ≡ p.at + 1 → IfGoesOn (print_report all p.used count) (λ next. IsAtBlock w next cursor)
  marked all count one =
      elim (nat_lt count all) as (λ t. IfGoesOn (if t then Mark (decimal count) (record { at = count; used = p.used }) else Done 1) (λ next. IsAtBlock w next cursor)) [
        | true ↦ record { kind = is; blocks = subst (λ n. blocks_from w cursor ≡ drop n (page_blocks w)) (sym one) behind }
        | false ↦ tt
      ]

  next_stands : IfGoesOn (next_report (course w p)) (λ next. IsAtBlock w next cursor)
  next_stands = go (drop p.at (page_blocks w)) refl
    where
      go : (left : List (List ℕ)) → drop p.at (page_blocks w) ≡ left → IfGoesOn (next_report (course w p)) (λ next. IsAtBlock w next cursor)
      go [] here = subst (λ r. IfGoesOn r (λ next. IsAtBlock w next cursor)) (sym (report_of_end w p is here)) tt
      go (block ∷ blocks) here =
          subst (λ r. IfGoesOn r (λ next. IsAtBlock w next cursor)) (sym (report_of_next w p block blocks is here)) (marked (length (page_blocks w)) (p.at + 1) refl)

  stands_after : {D : Type 0} (m : Meaning D) (report : Report) (old new : D) → Steps m w p report old new → IfGoesOn report (λ next. IsAtBlock w next cursor)
  stands_after m report old new steps =
      ⊎_elim (λ goes. subst (λ r. IfGoesOn r (λ next. IsAtBlock w next cursor)) (sym goes.next) next_stands)
      (λ fails. subst (λ r. IfGoesOn r (λ next. IsAtBlock w next cursor)) (sym fails.ended) tt) steps

-- the same of what a step answers
pub step_stands : (w : Work) (p : Place) (cursor : pages.Cursor) {D E : Type 0} (m : Meaning D) (old new : D) (answer : Result Report E) → w.kind ≡ Print
    → IfOk answer (λ report. Steps m w p report old new) → IfOk answer (λ report. blocks_from w cursor ≡ drop (p.at + 1) (page_blocks w))
    → IfOk answer (λ report. IfGoesOn report (λ next. IsAtBlock w next cursor))
step_stands w p cursor m old new (Ok report) is steps behind = stands_after w p is cursor behind m report old new steps
step_stands w p cursor m old new (Err fault) is steps behind = tt
