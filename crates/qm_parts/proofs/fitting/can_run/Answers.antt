use Rattle.std.proofs.Common.{◌∙◌, ◌&&◌, Bool, sym, ap}
use Rattle.qm_model.specs.Fitting.{is_reached, has_stock}
use Rattle.qm_parts.specs.Tables.{with_tables}
use Rattle.qm_parts.proofs.Fits.{fits_where_open}
use Rattle.qm_parts.proofs.fitting.can_run.Goals as goal

pub returns-then-not-suits-clause-answer : goal.returns-then-not-suits-clause-answer
returns-then-not-suits-clause-answer c s =
    let t = with_tables s c.args.parts.now in
    let e = c.args.entry.now in
    let q = c.args.queue.now in
    sym (ap (λ (x : Bool). x && is_reached t e q && has_stock t e q) (sym c.suits.ensures ∙ c.if-not-suits.true))
    ∙ fits_where_open t e q (c.requires.open s)

pub returns-then-not-is_reached-clause-answer : goal.returns-then-not-is_reached-clause-answer
returns-then-not-is_reached-clause-answer c s =
    let t = with_tables s c.args.parts.now in
    let e = c.args.entry.now in
    let q = c.args.queue.now in
    sym (ap (λ (x : Bool). x && is_reached t e q && has_stock t e q) (sym c.suits.ensures ∙ c.if-not-suits.false)
    ∙ ap (λ (x : Bool). x && has_stock t e q) (sym (c.is_reached.ensures.answer s) ∙ c.if-not-is_reached.true))
    ∙ fits_where_open t e q (c.requires.open s)

pub returns-clause-answer : goal.returns-clause-answer
returns-clause-answer c s =
    let t = with_tables s c.args.parts.now in
    let e = c.args.entry.now in
    let q = c.args.queue.now in
    c.has_stock.ensures s
    ∙ sym (ap (λ (x : Bool). x && is_reached t e q && has_stock t e q) (sym c.suits.ensures ∙ c.if-not-suits.false)
    ∙ ap (λ (x : Bool). x && has_stock t e q) (sym (c.is_reached.ensures.answer s) ∙ c.if-not-is_reached.false))
    ∙ fits_where_open t e q (c.requires.open s)
