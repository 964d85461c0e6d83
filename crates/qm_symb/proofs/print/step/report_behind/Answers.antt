use Rattle.std.proofs.Common.{◌≡◌, ◌+◌, [], drop, arith, sym, ap, ◌∙◌}
use Rattle.qm_kinds.specs.declared.work.Report.TheVariants.{Mark}
use Rattle.qm_model.specs.Pages.{page_blocks}
use Rattle.qm_symb.proofs.CountLemmas.{few_blocks}
use Rattle.qm_symb.proofs.StepLemmas.{more_are_behind, more_behind, none_behind}
use Rattle.qm_symb.proofs.print.step.report_behind.Goals as goal

pub overflow_add-count : goal.overflow_add-count
overflow_add-count c =
    let more : drop (c.args.at.at + 1) (page_blocks c.args.work.now) ≡ [] → ⊥ = λ none. let t = c.is_at_end.ensures.1 (c.requires.place ∙ none) in absurd (cc (c.if-is_at_end.false, t)) in
    omega (
      arith,
      more_are_behind (page_blocks c.args.work.now) (c.args.at.at + 1) more,
      few_blocks c.args.work.now (omega (arith, c.requires.limits.has_rows)) (omega (arith, c.requires.limits.has_columns)) c.requires.limits.text (omega arith),
    )

pub returns-then-is_at_end : goal.returns-then-is_at_end
returns-then-is_at_end c = sym (none_behind (page_blocks c.args.work.now) c.args.at.used (c.args.at.at + 1) (sym c.requires.place ∙ c.is_at_end.ensures.0 c.if-is_at_end.true))

pub returns : goal.returns
returns c =
    let more : drop (c.args.at.at + 1) (page_blocks c.args.work.now) ≡ [] → ⊥ = λ none. let t = c.is_at_end.ensures.1 (c.requires.place ∙ none) in absurd (cc (c.if-is_at_end.false, t)) in
    let is = more_behind (page_blocks c.args.work.now) c.args.at.used (c.args.at.at + 1) more in
    ap (λ m. Mark m (record { at = c.args.at.at + 1; used = c.args.at.used })) c.mark_of.ensures ∙ sym is
