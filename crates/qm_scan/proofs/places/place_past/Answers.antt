use Rattle.std.proofs.Common.{◌∙◌, ◌&&◌, length, sym, ap, arith, find}
use Rattle.std.proofs.lemmas.List.{length-map}
use Rattle.qm_model.specs.Common.{Entry, After, is_past}
use Rattle.qm_kinds.specs.declared.query.Row.TheVariants as row
use Rattle.qm_tables.specs.Boxed.{contents}
use Rattle.qm_scan.proofs.Found.{find_never, find_at_end}
use Rattle.qm_scan.proofs.places.place_past.Goals as goal

pub returns-in-Name-clause-behind : goal.returns-in-Name-clause-behind
returns-in-Name-clause-behind c = λ p.
    ap (λ (last : After). find (λ (e : Entry). is_past last (row.Entry e) && p e) (contents c.args.entries.now)) c.in-Name.is
    ∙ find_never p (contents c.args.entries.now)
    ∙ sym (find_at_end p (contents c.args.entries.now) (length c.args.entries.now) (omega (arith, length-map c.args.entries.now (λ b. b.value))))
