use Rattle.std.proofs.Common.{◌≡◌, List, ap, rules, IsSome}
use Rattle.qm_kinds.specs.declared.record.Record.{Record}
use Rattle.qm_image.specs.Image.{system_of}
use Rattle.qm_world.proofs.Worlds.{follows, log_is, replies, system_is}
use Rattle.qm_world.proofs.walker.Walker.done.Goals as goal

pub returns : goal.returns
returns c =
    let w = c.args.self.now.world in
    let s = system_of c.args.self.now.image in
    let t = system_of c.follow.new.image in
    let f = c.in_ok-followed.followed in
    let up : IsSome w.manager = search rules in
    let same : c.args.reply.now ≡ f.reply = search rules in
    record {
      can = (
        up,
        follows w.log s t c.args.moment c.args.node c.args.request.now f c.requires.image c.in_ok-followed.ensures,
        replies w.log s t c.args.moment c.args.node c.args.request.now f c.requires.image c.in_ok-followed.ensures c.args.reply.now same,
      );
      after = ap (λ (log : List Record). record w { log = log }) (log_is w.log s t c.args.moment c.args.node c.args.request.now f c.requires.image c.in_ok-followed.ensures c.put.new.list c.in_ok-put.ensures);
      image = system_is w.log s t c.args.moment c.args.node c.args.request.now f c.requires.image c.in_ok-followed.ensures c.put.new.list c.in_ok-put.ensures;
    }
