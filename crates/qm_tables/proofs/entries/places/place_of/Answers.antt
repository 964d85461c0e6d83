use Rattle.std.proofs.Common.{◌∙◌, sym, ap, option_copied}
use Rattle.qm_tables.proofs.LastOne.{last_stands}
use Rattle.qm_tables.proofs.entries.places.place_of.Goals as goal

pub returns-in-Some : goal.returns-in-Some
returns-in-Some c =
    last_stands c.args.boxes.now c.in-Some.last.now c.args.number c.requires
    (sym (ap option_copied c.in-Some.is) ∙ c.last.ensures.value)
    (sym (ap (λ (e : _). e.number) c.deref.ensures) ∙ c.if-deref-number.true)
