use Rattle.std.proofs.Common.{Err, IfErr, IsErrOf, Result, Vec, ℕ, Global, subst}
use Rattle.qm_acting.specs.Reading.{IsRestoreFault}
use Rattle.qm_history.specs.Common.{TellsFaults, OpenFault}
use Rattle.qm_glog.specs.declared.fault.OpenFault.TheVariants as opening
use Rattle.qm_program.specs.Doing.{IsWithoutFault}
use Rattle.qm_program.proofs.Listing.{short_alone}
use Rattle.qm_program.proofs.showing.show.Goals as goal

pub returns-clause-complete : goal.returns-clause-complete
returns-clause-complete g c tells site sink disk =
    let m = g.D.Disk.meaning in
    let listed = c.list_queues-disk in
    let told : IsRestoreFault (m.seen c.args.disk) c.in-Err.fault =
    subst (λ (r : Result (Vec ℕ Global) OpenFault). IfErr r (IsRestoreFault (m.seen c.args.disk))) c.in-Err.is (listed.ensures.fault tells) in
    let counts : TellsFaults m c.args.disk listed.result.disk (IsErrOf {T = Vec ℕ Global} (Err c.in-Err.fault) opening.Disk) =
    subst (λ (r : Result (Vec ℕ Global) OpenFault). TellsFaults m c.args.disk listed.result.disk (IsErrOf r opening.Disk)) c.in-Err.is listed.ensures.faults in
    let without : IsWithoutFault (m.faults c.args.disk) (m.faults listed.result.disk) =
    subst (λ (d : _). IsWithoutFault (m.faults c.args.disk) (m.faults d)) c.of-in-Err.ensures.disk disk in
    rw (c.of-in-Err.ensures.end, c.from.ensures)
    (short_alone m c.args.disk listed.result.disk c.held_files_load.ensures.undamaged c.held_files_load.ensures.formatted c.one_content.ensures
    site without c.in-Err.fault told counts)
