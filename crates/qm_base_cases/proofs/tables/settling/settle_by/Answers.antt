use Rattle.std.proofs.Common.{length, ap, arith}
use Rattle.qm_parts.specs.Tables.{Tables, with_tables}
use Rattle.qm_base_cases.proofs.tables.settling.settle_by.Goals as goal

pub settle-requires-clause-room : goal.settle-requires-clause-room
settle-requires-clause-room g c s =
    let few = c.starts_are_few.ensures.entries (with_tables s c.reserve_runs.new.self) in
    let same = ap (λ (t : Tables). length t.entries) c.reserve_runs.ensures.tables in
    omega (arith, few, same, c.entry_count-count.ensures, c.in_ok-reserve.ensures.ok)

pub settle-requires-clause-runs : goal.settle-requires-clause-runs
settle-requires-clause-runs g c s =
    let few = c.starts_are_few.ensures.entries (with_tables s c.reserve_runs.new.self) in
    let same = ap (λ (t : Tables). length t.entries) c.reserve_runs.ensures.tables in
    omega (arith, few, same, c.entry_count-count.ensures, c.in_ok-reserve_runs.ensures.ok)
