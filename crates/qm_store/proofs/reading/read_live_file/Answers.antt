use Rattle.qm_store.proofs.reading.read_live_file.Goals as goal

pub returns-in-Err-clause-found : goal.returns-in-Err-clause-found
returns-in-Err-clause-found g c = λ told. c.live_fault.ensures.told (g.D.Disk.meaning.seen c.args.disk.now c.args.file) (c.in-Err.ensures.found told)
