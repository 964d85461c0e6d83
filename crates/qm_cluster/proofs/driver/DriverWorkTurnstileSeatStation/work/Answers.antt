use Rattle.std.proofs.Common.{ap}
use Rattle.qm_cluster.proofs.driver.DriverWorkTurnstileSeatStation.work.Goals as goal

pub drive-seat-requires-clause-here : goal.drive-seat-requires-clause-here
drive-seat-requires-clause-here g c = ap (λ p. p.place) c.requires.1

pub drive-seat-requires-clause-number : goal.drive-seat-requires-clause-number
drive-seat-requires-clause-number g c = ap (λ p. p.number) c.requires.1

pub drive-seat-requires-clause-new : goal.drive-seat-requires-clause-new
drive-seat-requires-clause-new g c = (ap (λ p. p.seen) c.requires.1, ap (λ p. p.mine) c.requires.1)

pub drive-seat-requires-clause-there : goal.drive-seat-requires-clause-there
drive-seat-requires-clause-there g c = c.requires.0.there

pub drive-seat-requires-clause-sound : goal.drive-seat-requires-clause-sound
drive-seat-requires-clause-sound g c = c.requires.0.sound
