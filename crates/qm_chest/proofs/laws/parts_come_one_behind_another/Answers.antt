use Rattle.qm_chest.proofs.Joining.{joined}
use Rattle.qm_chest.proofs.laws.parts_come_one_behind_another.Goals as goal

pub returns : goal.returns
returns g c = λ w reading asked failed e events old mid new two.
    joined g.D.Disk.meaning w reading asked failed e events old mid new two.begins two.tells two.next two.low two.between two.first two.second
