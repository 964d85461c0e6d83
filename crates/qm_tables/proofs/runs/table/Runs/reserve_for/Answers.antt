use Rattle.std.proofs.Common.{◌<◌, ap, arith}
use Rattle.qm_tables.specs.Runs.{Begun}
use Rattle.qm_tables.proofs.RunCounting.{on_err}
use Rattle.qm_tables.proofs.runs.table.Runs.reserve_for.Goals as goal

-- the counts had less room
pub returns-in_err-reserve-clause-err : goal.returns-in_err-reserve-clause-err
returns-in_err-reserve-clause-err c =
    let spare = ap (λ (w : Begun). w.spare) c.self.view_is in
    on_err c.from_residual.result (c.args.self.now.spare < c.args.count) (omega (arith, spare, c.len-2.ensures, c.in_err-reserve.ensures.err, c.self.invariant.1.room))
