use Rattle.std.proofs.Common.{take, drop, ◌-◌, length, List}
use Rattle.std.proofs.lemmas.List.{take_rest}
use Rattle.qm_kinds.specs.declared.record.Record.{Record}
use Rattle.qm_image.specs.Image.{system_of}
use Rattle.qm_world.proofs.Rows.{all_begun, begun, more_begun}
use Rattle.qm_world.proofs.beginning.replay_from.Goals as goal

pub loop-what-init : goal.loop-what-init
loop-what-init c =
    begun c.args.log.now c.requires.accepted c.args.rows c.requires.rows (system_of c.args.image.now)
    (take (length c.args.log.now - c.args.rows) (drop c.args.rows c.args.log.now)) (take_rest c.args.log.now c.args.rows) c.requires.begun

pub loop-what-preserved : goal.loop-what-preserved
loop-what-preserved c =
    let n = c.args.rows in
    let items : List Record = take (length c.args.log.now - n) (drop n c.args.log.now) in
    more_begun c.args.log.now items n c.loop-what.what-index (system_of c.loop-what.image) c.loop-what.invariant c.requests_keep_consistent.ensures c.what-item.result
    (system_of c.replay.new.image) c.loop-what-test.true c.what-item.is c.in_ok-replay.ensures

pub returns : goal.returns
returns c =
    let n = c.args.rows in
    let items : List Record = take (length c.args.log.now - n) (drop n c.args.log.now) in
    all_begun c.args.log.now items n c.loop-what.what-index (system_of c.loop-what.image) c.loop-what.invariant c.loop-what-test.false (take_rest c.args.log.now n)
