-- One step of a print job.
use Rattle.std.proofs.Common.{◌≡◌, ⊎_elim, ℕ, ◌+◌, ◌<◌, List, [], ◌∷◌, length, drop, length-drop, refl, sym, ◌∙◌, ap, arith, decimal}
use Rattle.std.proofs.lemmas.Bool.{cases_lt, lt-ltb, le-ltb}
use Rattle.std.proofs.lemmas.List.{drop_all}
use Rattle.qm_kinds.specs.declared.entry.JobKind.TheVariants.{Print}
use Rattle.qm_model.specs.Common.{Work, Place, page_blocks}
use Rattle.qm_kinds.specs.declared.work.Report.TheVariants.{Mark, Done}
use Rattle.qm_model.specs.Reports.{print_report, print_steps, course, course_of, next_report, blocks_before_report}
use Rattle.qm_model.proofs.ReportLemmas.{last_report, next_mark, drop_next}

-- whether blocks are left behind a place
pub none_behind : (pages : List (List ℕ)) (used count : ℕ) → drop count pages ≡ [] → print_report (length pages) used count ≡ Done 1
none_behind pages used count none = last_report (length pages) used count (le-ltb count (length pages) (omega (arith, length-drop count pages, ap length none)))

pub more_are_behind : (pages : List (List ℕ)) (count : ℕ) → (drop count pages ≡ [] → ⊥) → count < length pages
more_are_behind pages count more = ⊎_elim (λ h. h) (λ h. absurd (more (drop_all count pages h))) (cases_lt count (length pages))

pub more_behind : (pages : List (List ℕ)) (used count : ℕ) → (drop count pages ≡ [] → ⊥) → print_report (length pages) used count ≡ Mark (decimal count) (record { at = count; used = used })
more_behind pages used count more = next_mark (length pages) used count (lt-ltb count (length pages) (more_are_behind pages count more))

-- the steps from a place on
course_is : (w : Work) (p : Place) → w.kind ≡ Print → course w p ≡ print_steps (length (page_blocks w)) p.used p.at (drop p.at (page_blocks w))
course_is w p is = ap (λ k. course_of k w p) is

report_of_steps : (all used at : ℕ) (block : List ℕ) (blocks : List (List ℕ)) → next_report (print_steps all used at (block ∷ blocks)) ≡ print_report all used (at + 1)
report_of_steps all used at block [] = refl
report_of_steps all used at block (next ∷ blocks) = refl

blocks_of_steps : (all used at : ℕ) (block : List ℕ) (blocks : List (List ℕ)) → blocks_before_report (print_steps all used at (block ∷ blocks)) ≡ block ∷ []
blocks_of_steps all used at block [] = refl
blocks_of_steps all used at block (next ∷ blocks) = refl

pub report_of_next : (w : Work) (p : Place) (block : List ℕ) (blocks : List (List ℕ)) → w.kind ≡ Print → drop p.at (page_blocks w) ≡ block ∷ blocks
    → next_report (course w p) ≡ print_report (length (page_blocks w)) p.used (p.at + 1)
report_of_next w p block blocks is here = ap next_report (course_is w p is ∙ ap (print_steps (length (page_blocks w)) p.used p.at) here) ∙ report_of_steps (length (page_blocks w)) p.used p.at block blocks

pub blocks_of_next : (w : Work) (p : Place) (block : List ℕ) (blocks : List (List ℕ)) → w.kind ≡ Print → drop p.at (page_blocks w) ≡ block ∷ blocks
    → blocks_before_report (course w p) ≡ block ∷ []
blocks_of_next w p block blocks is here = ap blocks_before_report (course_is w p is ∙ ap (print_steps (length (page_blocks w)) p.used p.at) here) ∙ blocks_of_steps (length (page_blocks w)) p.used p.at block blocks

pub report_of_end : (w : Work) (p : Place) → w.kind ≡ Print → drop p.at (page_blocks w) ≡ [] → next_report (course w p) ≡ Done 1
report_of_end w p is none = ap next_report (course_is w p is ∙ ap (print_steps (length (page_blocks w)) p.used p.at) none)

pub blocks_of_end : (w : Work) (p : Place) → w.kind ≡ Print → drop p.at (page_blocks w) ≡ [] → blocks_before_report (course w p) ≡ []
blocks_of_end w p is none = ap blocks_before_report (course_is w p is ∙ ap (print_steps (length (page_blocks w)) p.used p.at) none)

-- the place behind the next block
pub next_place : (pages from : List (List ℕ)) (at : ℕ) (block : List ℕ) (blocks : List (List ℕ)) → from ≡ drop at pages → from ≡ block ∷ blocks → blocks ≡ drop (at + 1) pages
next_place pages from at block blocks here is = sym (drop_next at pages block blocks (sym here ∙ is))

pub behind_the_end : (pages : List (List ℕ)) (at : ℕ) → drop at pages ≡ [] → drop (at + 1) pages ≡ []
behind_the_end pages at none = drop_all (at + 1) pages (omega (arith, length-drop at pages, ap length none))
