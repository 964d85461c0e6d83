use Rattle.std.proofs.Common.{◌∙◌, sym}
use Rattle.qm_kinds.specs.declared.entry.Entry.{Entry}
use Rattle.qm_kinds.specs.declared.query.Row.TheVariants as row
use Rattle.qm_scan.specs.Listed.{is_behind}
use Rattle.qm_scan.proofs.AtHome.{first_is_at_home}
use Rattle.qm_scan.proofs.next.next_in.Goals as goal

pub returns-then-not-is_occupied : goal.returns-then-not-is_occupied
returns-then-not-is_occupied c =
    c.next_at_home.ensures
    ∙ first_is_at_home c.args.query.now c.args.queue.now (λ (e : Entry). is_behind c.args.query.now.after (row.Entry e)) c.args.parts.now.entries
    (sym c.is_occupied.ensures ∙ c.if-not-is_occupied.true)
