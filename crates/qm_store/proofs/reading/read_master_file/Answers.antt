use Rattle.std.proofs.Common.{◌<◌, length, arith}
use Rattle.qm_glog.specs.Log.{bodies_of}
use Rattle.qm_store.proofs.Masters.{bad_within}
use Rattle.qm_store.proofs.Loading.{bad_is_damage, master_not_read}
use Rattle.qm_store.proofs.reading.read_master_file.Goals as goal

pub returns-in_err-log-clause-found : goal.returns-in_err-log-clause-found
returns-in_err-log-clause-found g c = λ told.
    master_not_read (g.D.Disk.meaning.seen c.args.disk.now 0) c.in_err-log.field-0.0 c.from_residual.result c.from_residual.ensures.1 (c.in_err-log.ensures.found told)

pub place_in-place-requires : goal.place_in-place-requires
place_in-place-requires g c =
    let within : c.in-Err.index < length (bodies_of c.in_ok-log.log) = bad_within (bodies_of c.in_ok-log.log) c.in-Err.index c.in-Err.ensures.judged in
    omega (arith, within)

pub returns-in-Err-clause-found : goal.returns-in-Err-clause-found
returns-in-Err-clause-found g c = λ told.
    bad_is_damage (g.D.Disk.meaning.seen c.args.disk.now 0) (bodies_of c.in_ok-log.log) c.in-Err.index c.place_in-place.result (c.in_ok-log.ensures.found told) c.in_ok-log.ensures.some c.in-Err.ensures.judged c.place_in-place.ensures
