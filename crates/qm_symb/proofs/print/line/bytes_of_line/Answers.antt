use Rattle.std.proofs.Common.{arith, take, sym, ap, ◌∙◌}
use Rattle.std.specs.List.{position_or_len}
use Rattle.std.proofs.lemmas.List.{take_min}
use Rattle.qm_symb.specs.TextParts.{ends_line}
use Rattle.qm_symb.proofs.LineLemmas.{bytes_inside, found_bytes, found_some, found_none}
use Rattle.qm_symb.proofs.print.line.bytes_of_line.Goals as goal

pub returns-in-Some-clause-value : goal.returns-in-Some-clause-value
returns-in-Some-clause-value c =
    let seen = ap (λ n. take n c.args.text.now) c.min.ensures ∙ take_min c.args.most c.args.text.now in
    sym (found_some (take c.min.result c.args.text.now) c.in-Some.place (sym c.line_end.ensures ∙ c.in-Some.is))
    ∙ ap (position_or_len ends_line) seen ∙ found_bytes c.args.most c.args.text.now

pub returns-in-None-clause-value : goal.returns-in-None-clause-value
returns-in-None-clause-value c =
    let seen = ap (λ n. take n c.args.text.now) c.min.ensures ∙ take_min c.args.most c.args.text.now in
    sym (found_none (take c.min.result c.args.text.now) (sym c.line_end.ensures ∙ c.in-None.is))
    ∙ ap (position_or_len ends_line) seen ∙ found_bytes c.args.most c.args.text.now

pub returns-in-Some-clause-inside : goal.returns-in-Some-clause-inside
returns-in-Some-clause-inside c =
    let place = sym (found_some (take c.min.result c.args.text.now) c.in-Some.place (sym c.line_end.ensures ∙ c.in-Some.is)) in
    let seen = ap (λ n. take n c.args.text.now) c.min.ensures ∙ take_min c.args.most c.args.text.now in
    let is = place ∙ ap (position_or_len ends_line) seen ∙ found_bytes c.args.most c.args.text.now in
    omega (arith, is, bytes_inside c.args.most c.args.text.now)
