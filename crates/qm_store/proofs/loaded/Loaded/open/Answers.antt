use Rattle.std.proofs.Common.{◌≡◌, ◌≤◌, ◌+◌, ◌∙◌, sym, ap, subst, arith, ℕ}
use Rattle.qm_glog.specs.Log.{spare_of}
use Rattle.qm_store.specs.Database.{loaded_record}
use Rattle.qm_store.specs.Opening.{in_next_epoch}
use Rattle.qm_store.specs.Recorded.{Recorded, IsAtRest, epoch_behind}
use Rattle.qm_store.specs.declared.files.TheConstants.{MASTER_CAP}
use Rattle.qm_store.proofs.Moving.{nothing_moves}
use Rattle.qm_store.proofs.Opening.{master_left, opens_moments, opens_at_rest, opens_recorded, opens_need}
use Rattle.qm_store.proofs.loaded.Loaded.«open».Goals as goal

pub begin_epoch-requires-clause-left : goal.begin_epoch-requires-clause-left
begin_epoch-requires-clause-left g c = λ told.
    master_left g.D.Disk.meaning c.reserve_epoch.new.self c.args.self.disk
    (subst (λ (r : Recorded). IsAtRest g.D.Disk.meaning r c.args.self.disk) (sym c.in-Ok.ensures.recorded) (c.requires.at_rest told))

pub returns-in_default-clause-any_moment : goal.returns-in_default-clause-any_moment
returns-in_default-clause-any_moment g c = λ told early.
    let r = loaded_record c.args.self in
    nothing_moves g.D.Disk.meaning r (in_next_epoch r c.args.tried c.args.node) 0 c.args.self.disk (g.met.D.Disk.only_now c.args.self.disk) (c.requires.at_rest told)

pub returns-in-Ok-begin_epoch-clause-answer : goal.returns-in-Ok-begin_epoch-clause-answer
returns-in-Ok-begin_epoch-clause-answer g c =
    let m = g.D.Disk.meaning in
    let r = loaded_record c.args.self in
    let files = c.reserve_epoch.new.self in
    let epoch : ℕ = c.max-epoch.result + 1 in
    let epoch_is : c.max-epoch.result + 1 ≡ epoch_behind (loaded_record c.args.self) c.args.tried = omega (arith, c.max-epoch.ensures) in
    let begun = c.in-Ok-begin_epoch.ensures.answer in (
      subst (λ (n : ℕ). n ≤ MASTER_CAP) (opens_need m r c.args.tried c.args.node c.ranges.node.fits files c.in-Ok.ensures.recorded epoch epoch_is c.args.self.disk) begun.0,
      record {
        recorded = opens_recorded m r c.args.tried c.args.node c.ranges.node.fits files c.in-Ok.ensures.recorded epoch epoch_is c.args.self.disk c.begin_epoch.new.disk c.begin_epoch.new.self begun.1;
        at_rest = λ told early.
            opens_at_rest m r c.args.tried c.args.node c.ranges.node.fits files c.in-Ok.ensures.recorded epoch epoch_is c.args.self.disk c.begin_epoch.new.disk c.begin_epoch.new.self c.begin_epoch.ensures.leaves
            (c.requires.at_rest told) told early begun.1;
        spare = ap spare_of begun.1.queue ∙ ap spare_of c.in-Ok.ensures.queue;
      },
    )

pub returns-in-Ok-begin_epoch-clause-any_moment : goal.returns-in-Ok-begin_epoch-clause-any_moment
returns-in-Ok-begin_epoch-clause-any_moment g c = λ told early.
    let epoch_is : c.max-epoch.result + 1 ≡ epoch_behind (loaded_record c.args.self) c.args.tried = omega (arith, c.max-epoch.ensures) in
    opens_moments g.D.Disk.meaning (loaded_record c.args.self) c.args.tried c.args.node c.ranges.node.fits c.reserve_epoch.new.self c.in-Ok.ensures.recorded (c.max-epoch.result + 1) epoch_is c.args.self.disk
    c.begin_epoch.new.disk c.begin_epoch.ensures.leaves (c.requires.at_rest told) told early

pub returns-in-Err-Disk-clause-any_moment : goal.returns-in-Err-Disk-clause-any_moment
returns-in-Err-Disk-clause-any_moment g c = λ told early.
    let epoch_is : c.max-epoch.result + 1 ≡ epoch_behind (loaded_record c.args.self) c.args.tried = omega (arith, c.max-epoch.ensures) in
    opens_moments g.D.Disk.meaning (loaded_record c.args.self) c.args.tried c.args.node c.ranges.node.fits c.reserve_epoch.new.self c.in-Ok.ensures.recorded (c.max-epoch.result + 1) epoch_is c.args.self.disk
    c.begin_epoch.new.disk c.begin_epoch.ensures.leaves (c.requires.at_rest told) told early

pub returns-clause-any_moment : goal.returns-clause-any_moment
returns-clause-any_moment g c = λ told early.
    let epoch_is : c.max-epoch.result + 1 ≡ epoch_behind (loaded_record c.args.self) c.args.tried = omega (arith, c.max-epoch.ensures) in
    opens_moments g.D.Disk.meaning (loaded_record c.args.self) c.args.tried c.args.node c.ranges.node.fits c.reserve_epoch.new.self c.in-Ok.ensures.recorded (c.max-epoch.result + 1) epoch_is c.args.self.disk
    c.begin_epoch.new.disk c.begin_epoch.ensures.leaves (c.requires.at_rest told) told early
