use Rattle.std.proofs.Common.{◌≤◌, List, count_by, filter, map, subst, sym, ◌∙◌, ap}
use Rattle.qm_model.specs.Common.{Entry, fits}
use Rattle.qm_match.specs.Keys.{key_of}
use Rattle.qm_parts.specs.Tables.{with_tables}
use Rattle.qm_parts.proofs.Fits.{closed_row}
use Rattle.qm_parts.proofs.rows.gather.Goals as goal

pub returns-then-not-is_open-clause-keys : goal.returns-then-not-is_open-clause-keys
returns-then-not-is_open-clause-keys c s =
    c.requires.empty ∙ sym (ap (map key_of) (closed_row (with_tables s c.args.tables.now) c.args.queue.now c.args.tables.now.entries (sym (c.is_open.ensures s) ∙ c.if-not-is_open.true)))

pub gather_from-requires-clause-open : goal.gather_from-requires-clause-open
gather_from-requires-clause-open c s = sym (c.is_open.ensures s) ∙ c.if-not-is_open.false

pub returns-clause-keys : goal.returns-clause-keys
returns-clause-keys c s =
    c.gather_from.ensures.keys s ∙ ap (λ (es : List Entry). map key_of (filter (λ e. fits (with_tables s c.args.tables.now) e c.args.queue.now) es)) c.entries.ensures

pub gather_from-requires-clause-room : goal.gather_from-requires-clause-room
gather_from-requires-clause-room c s =
    subst (λ (es : List Entry). count_by (λ e. fits (with_tables s c.args.tables.now) e c.args.queue.now) es ≤ c.args.gathering.now.spare) (sym c.entries.ensures) (c.requires.room s)
