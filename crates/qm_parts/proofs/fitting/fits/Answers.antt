use Rattle.std.proofs.Common.{◌∙◌, ◌&&◌, ◌||◌, ◌≡◌, Bool, Option, false, sym, ap, bytes_eq}
use Rattle.std.specs.Option.{option_map_or}
use Rattle.qm_model.specs.Common.{Queue, is_reached, has_stock, passes_on_to}
use Rattle.qm_parts.specs.Tables.{with_tables}
use Rattle.qm_parts.proofs.Fits.{closed_fits, fits_where_open}
use Rattle.qm_parts.proofs.fitting.fits.Goals as goal

pub returns-then-not-is_open : goal.returns-then-not-is_open
returns-then-not-is_open c s = sym (closed_fits (with_tables s c.args.parts.now) c.args.entry.now c.args.queue.now (sym (c.is_open.ensures s) ∙ c.if-not-is_open.true))

pub returns-then-not-suits : goal.returns-then-not-suits
returns-then-not-suits c s =
    let t = with_tables s c.args.parts.now in
    let e = c.args.entry.now in
    let q = c.args.queue.now in
    sym (ap (λ (x : Bool). x && is_reached t e q && has_stock t e q) (sym c.suits.ensures ∙ c.if-not-suits.true))
    ∙ fits_where_open t e q (sym (c.is_open.ensures s) ∙ c.if-not-is_open.false)

pub returns-then-not-reaches : goal.returns-then-not-reaches
returns-then-not-reaches c s =
    let t = with_tables s c.args.parts.now in
    let e = c.args.entry.now in
    let q = c.args.queue.now in
    let way : c.reaches.result ≡ is_reached t e q = c.reaches.ensures ∙ ap (λ (o : Option Queue). bytes_eq e.home q.name || option_map_or (passes_on_to q.name) o false) c.requires in
    sym (ap (λ (x : Bool). x && is_reached t e q && has_stock t e q) (sym c.suits.ensures ∙ c.if-not-suits.false)
    ∙ ap (λ (x : Bool). x && has_stock t e q) (sym way ∙ c.if-not-reaches.true))
    ∙ fits_where_open t e q (sym (c.is_open.ensures s) ∙ c.if-not-is_open.false)

pub returns : goal.returns
returns c s =
    let t = with_tables s c.args.parts.now in
    let e = c.args.entry.now in
    let q = c.args.queue.now in
    let way : c.reaches.result ≡ is_reached t e q = c.reaches.ensures ∙ ap (λ (o : Option Queue). bytes_eq e.home q.name || option_map_or (passes_on_to q.name) o false) c.requires in
    c.has_stock.ensures s
    ∙ sym (ap (λ (x : Bool). x && is_reached t e q && has_stock t e q) (sym c.suits.ensures ∙ c.if-not-suits.false)
    ∙ ap (λ (x : Bool). x && has_stock t e q) (sym way ∙ c.if-not-reaches.false))
    ∙ fits_where_open t e q (sym (c.is_open.ensures s) ∙ c.if-not-is_open.false)
