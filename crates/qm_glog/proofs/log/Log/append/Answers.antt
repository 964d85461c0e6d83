use Rattle.std.proofs.Common.{◌∙◌, refl, sym, subst, ap, ℕ, ◌+◌, ◌^◌, ◌<◌, ◌≤◌, List, length, arith}
use Rattle.qm_glog.specs.Records.{size_of, IsLog, IsShutByZero}
use Rattle.qm_glog.specs.Bodies.{list_of}
use Rattle.qm_glog.proofs.Texts.{size_of-push}
use Rattle.qm_glog.proofs.Added.{gate_stands, gate_still_stands, leaves_by_first, leaves_by_both, has_both, shut_by_zero}
use Rattle.qm_glog.proofs.log.Log.append.Goals as goal

pub write_through-requires-clause-place : goal.write_through-requires-clause-place
write_through-requires-clause-place g c = λ told.
    let m = g.D.Disk.meaning in
    let log = c.args.self.now in
    let small : length c.args.body.now < 2 ^ 32 = omega arith in
    gate_stands m log.file c.args.disk.now (list_of log.bodies) (c.requires.left told).records log.end log.at_end c.args.body.now small

pub write_through-requires-2-clause-place : goal.write_through-requires-2-clause-place
write_through-requires-2-clause-place g c = λ told.
    let m = g.D.Disk.meaning in
    let log = c.args.self.now in
    let small : length c.args.body.now < 2 ^ 32 = omega arith in
    gate_still_stands m log.file c.args.disk.now (list_of log.bodies) (c.requires.left told).records log.end log.at_end c.args.body.now small
    c.write_through.new.disk c.deref.result.now (c.deref.ensures.value ∙ c.spell.ensures.text) (c.in_ok-write_through.ensures.written told)

pub returns-in_err-write_through-clause-leaves : goal.returns-in_err-write_through-clause-leaves
returns-in_err-write_through-clause-leaves g c =
    let log = c.args.self.now in
    let small : length c.args.body.now < 2 ^ 32 = omega arith in
    record {
      any_moment = λ told. leaves_by_first g.D.Disk.meaning log.file c.args.disk.now (list_of log.bodies) (c.requires.left told).records log.end log.at_end c.args.body.now small
          c.write_through.new.disk (length c.deref.result.now) (c.write_through.ensures.any_moment told);
      others = c.write_through.ensures.others;
    }

pub returns-in_err-write_through-2-clause-leaves : goal.returns-in_err-write_through-2-clause-leaves
returns-in_err-write_through-2-clause-leaves g c =
    let small : length c.args.body.now < 2 ^ 32 = omega arith in
    leaves_by_both g.D.Disk.meaning c.args.self.now c.args.body.now small c.args.disk.now c.write_through.new.disk c.write_through-2.new.disk
    c.deref.result.now (c.deref.ensures.value ∙ c.spell.ensures.text) c.requires.left
    c.in_ok-write_through.ensures.written c.write_through.ensures.any_moment c.write_through-2.ensures.any_moment c.write_through.ensures.others c.write_through-2.ensures.others

pub invariant_of-self-2-clause-at_end : goal.invariant_of-self-2-clause-at_end
invariant_of-self-2-clause-at_end g c =
    omega (arith, c.args.self.now.at_end, ap size_of c.push_reserved.ensures, size_of-push (list_of c.args.self.now.bodies) c.args.body.now)

pub returns-clause-answer : goal.returns-clause-answer
returns-clause-answer g c =
    let m = g.D.Disk.meaning in
    let old = c.args.disk.now in
    let log = c.args.self.now in
    let body : List ℕ = c.args.body.now in
    let new = c.write_through-2.new.disk in
    let small : length c.args.body.now < 2 ^ 32 = omega arith in
    let fits : size_of (list_of log.bodies) + length body + 6 ≤ log.cap = omega arith in
    let spelled = c.deref.ensures.value ∙ c.spell.ensures.text in (
      omega arith,
      record {
        bodies = c.push_reserved.ensures;
        left = λ told. record {
          records = subst (IsLog (m.seen new log.file)) (sym c.push_reserved.ensures)
              (has_both m log.file old (list_of log.bodies) (c.requires.left told).records log.end log.at_end body small
              c.write_through.new.disk c.deref.result.now spelled (c.in_ok-write_through.ensures.written told) new (c.in_ok-write_through-2.ensures.written told));
          durable = c.in_ok-write_through-2.ensures.durable told;
        };
        shut = λ told. subst (IsShutByZero (m.seen new log.file)) (sym c.push_reserved.ensures)
            (shut_by_zero m log.file old (list_of log.bodies) (c.requires.left told).records log.end log.at_end body small
            c.write_through.new.disk c.deref.result.now spelled (c.in_ok-write_through.ensures.written told) new (c.in_ok-write_through-2.ensures.written told));
        spare = refl;
      },
    )

pub returns-clause-leaves : goal.returns-clause-leaves
returns-clause-leaves g c =
    let small : length c.args.body.now < 2 ^ 32 = omega arith in
    leaves_by_both g.D.Disk.meaning c.args.self.now c.args.body.now small c.args.disk.now c.write_through.new.disk c.write_through-2.new.disk
    c.deref.result.now (c.deref.ensures.value ∙ c.spell.ensures.text) c.requires.left
    c.in_ok-write_through.ensures.written c.write_through.ensures.any_moment c.write_through-2.ensures.any_moment c.write_through.ensures.others c.write_through-2.ensures.others
