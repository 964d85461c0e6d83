use Rattle.std.proofs.Common.{◌≡◌, List, take}
use Rattle.qm_history.specs.Script.{UserLine}
use Rattle.qm_cluster.specs.Fresh.{each_lines, own_view}
use Rattle.qm_cluster.proofs.Seated.{front_seats}
use Rattle.qm_cluster.proofs.fresh.seats_of.Given as goal

-- the nodes so far sit in front of their lines
abbrev pub invariant-places : goal.invariant-places
invariant-places g l = (script : List UserLine) → own_view l.own ≡ each_lines script l.names → l.seats.items ≡ front_seats script (take l.place l.names)
