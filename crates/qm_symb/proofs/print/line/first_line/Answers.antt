use Rattle.std.proofs.Common.{◌≡◌, ◌⊎◌, inl, inr, ⊎_elim, ◌+◌, ◌<◌, true, false, length, drop, min, sym, ap, ◌∙◌, subst, arith}
use Rattle.std.proofs.lemmas.List.{take_rest, drop-drop}
use Rattle.qm_model.specs.Pages.{columns}
use Rattle.qm_symb.specs.TextParts.{behind_line, is_section_over}
use Rattle.qm_symb.proofs.LineLemmas.{line_moves, section_has_bytes, is_first_line}
use Rattle.qm_symb.proofs.print.line.first_line.Goals as goal
use Rattle.qm_symb.proofs.print.line.first_line.Goals.{then-shape, else-shape}

-- how many bytes are looked at
limit : (c : goal.After-struct_known-1) → ((c.args.shape.wrap ≡ false) × (c.if-shape.most ≡ length c.args.text.now)) ⊎ ((c.args.shape.wrap ≡ true) × (c.if-shape.most ≡ columns c.args.shape))
limit c = elim c.if-shape.branch [ then-shape w ↦ inr (w.if-shape.true, w.most-is ∙ c.columns-columns.ensures.value) | else-shape w ↦ inl (w.if-shape.false, w.most-is) ]

rest : (c : goal.After-struct_known-1) → drop c.behind_line-behind.result.next (drop c.bytes_of_line-bytes.result c.args.text.now) ≡ behind_line (drop c.bytes_of_line-bytes.result c.args.text.now)
rest c =
    let all = take_rest c.args.text.now c.bytes_of_line-bytes.result in
    ap (drop c.behind_line-behind.result.next) (sym all) ∙ c.behind_line-behind.ensures.rest ∙ ap behind_line all

pub returns-clause-line : goal.returns-clause-line
returns-clause-line c =
    let all = take_rest c.args.text.now c.bytes_of_line-bytes.result in
    is_first_line c.args.shape c.if-shape.most c.args.text.now c.bytes_of_line-bytes.result c.min.result (c.bytes_of_line-bytes.result + c.behind_line-behind.result.next) c.behind_line-behind.result.is_last
    (subst (λ n. 0 < n) c.columns-columns.ensures.value c.columns-columns.ensures.some) c.requires.inside (limit c) c.bytes_of_line-bytes.ensures.value
    (c.min.ensures ∙ ap (min c.bytes_of_line-bytes.result) c.columns-columns.ensures.value)
    (sym (drop-drop c.behind_line-behind.result.next c.bytes_of_line-bytes.result c.args.text.now) ∙ rest c)
    (c.behind_line-behind.ensures.last ∙ ap is_section_over all)

pub returns-clause-some : goal.returns-clause-some
returns-clause-some c =
    let some : 0 < c.if-shape.most = ⊎_elim (λ h. omega (arith, h.1, section_has_bytes c.args.text.now c.requires.inside)) (λ h. omega (arith, h.1, c.columns-columns.ensures.value, c.columns-columns.ensures.some)) (limit c) in
    line_moves c.if-shape.most c.args.text.now c.bytes_of_line-bytes.result c.behind_line-behind.result.next some c.requires.inside c.bytes_of_line-bytes.ensures.value (rest c)
