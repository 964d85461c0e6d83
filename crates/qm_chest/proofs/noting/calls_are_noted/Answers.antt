use Rattle.qm_chest.proofs.Since.{call_noted, stands_on}
use Rattle.qm_chest.proofs.noting.calls_are_noted.Goals as goal

pub returns-clause-stands : goal.returns-clause-stands
returns-clause-stands g c = λ cap w began old new failed notes node now asked told since served.
    stands_on c.site_files_are_accepted.ensures c.full_files_are_full.ensures g.D.Disk.meaning cap w began old new failed notes asked told since served.faults node now served.one served.serves

pub returns-clause-serves : goal.returns-clause-serves
returns-clause-serves g c = λ cap w began old new failed notes node now asked told since served.
    call_noted c.site_files_are_accepted.ensures c.full_files_are_full.ensures g.D.Disk.meaning cap w began old new failed notes asked told since served.faults node now served.one served.serves served.down
