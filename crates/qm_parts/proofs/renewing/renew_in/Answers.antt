use Rattle.std.proofs.Common.{◌≡◌, ◌==◌, ◌∙◌, Bool, cond, Some, None, ap, sym}
use Rattle.qm_match.specs.declared.order.Key.{Key}
use Rattle.qm_match.specs.Keys.{key_of}
use Rattle.qm_model.specs.Folding.{no_system}
use Rattle.qm_ready.specs.Rows.{key_numbered}
use Rattle.qm_parts.proofs.Renewed.{stale_absent, renewed}
use Rattle.qm_parts.proofs.RowKeys.{has_room}
use Rattle.qm_parts.proofs.renewing.renew_in.Goals as goal

pub put_in-requires-clause-room : goal.put_in-requires-clause-room
put_in-requires-clause-room c none =
    let t = c.args.tables.now in
    let q = c.args.queue.now in
    let e = c.args.entry.now in
    let absent : key_numbered e.number c.args.row.now.keys ≡ None = ap (λ (k : Key). key_numbered k.number c.args.row.now.keys) (sym c.of.ensures) ∙ none in
    has_room t q e c.requires.there c.args.row.now (stale_absent t q e c.requires.there c.args.old.now c.args.row.now c.requires.stale absent) c.see_row.ensures
    (sym (c.fits.ensures no_system) ∙ c.if-fits.true) c.requires.room

pub returns-then-fits-clause-ready : goal.returns-then-fits-clause-ready
returns-then-fits-clause-ready c =
    renewed c.args.tables.now c.args.queue.now c.args.entry.now c.requires.there c.args.old.now c.args.row.now c.requires.stale c.put_in.new.row (Some (key_of c.args.entry.now))
    (ap (λ (b : Bool). cond b (Some (key_of c.args.entry.now)) None) (sym (c.fits.ensures no_system) ∙ c.if-fits.true)) c.put_in.ensures.schedule
    (λ m. c.put_in.ensures.each m ∙ ap (λ (k : Key). cond (k.number == m) (Some k) (key_numbered m c.args.row.now.keys)) c.of.ensures)

pub returns-else-fits-clause-ready : goal.returns-else-fits-clause-ready
returns-else-fits-clause-ready c =
    renewed c.args.tables.now c.args.queue.now c.args.entry.now c.requires.there c.args.old.now c.args.row.now c.requires.stale c.take_out.new.row None
    (ap (λ (b : Bool). cond b (Some (key_of c.args.entry.now)) None) (sym (c.fits.ensures no_system) ∙ c.if-fits.false)) c.take_out.ensures.schedule c.take_out.ensures.each
