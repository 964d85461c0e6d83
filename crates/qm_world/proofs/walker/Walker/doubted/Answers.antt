use Rattle.std.proofs.Common.{◌∙◌, None, Some, ap, subst}
use Rattle.qm_history.specs.Common.{Record, System, CanFollow}
use Rattle.qm_image.specs.Image.{system_of}
use Rattle.qm_world.specs.Nodes.{MayBeInDoubt}
use Rattle.qm_world.proofs.Worlds.{doubt_can}
use Rattle.qm_world.proofs.walker.Walker.doubted.Goals as goal

pub returns : goal.returns
returns c =
    let w = c.args.self.now.world in
    let s = system_of c.args.self.now.image in
    let may : MayBeInDoubt w s c.args.node c.args.request.now = c.in_ok-may_be_in_doubt.ensures.0 c.if-not-branch.false in
    let next = c.in_ok-record.ensures.judged in
    record {
      can =
          doubt_can w c.args.node c.args.moment c.args.request.now (subst (λ (x : System). MayBeInDoubt w x c.args.node c.args.request.now) c.requires.image may)
          (subst (λ (x : System). CanFollow x c.args.moment c.args.node c.args.request.now) c.requires.image next.follows);
      after = ap (λ d. record w { doubt = d; manager = None }) (c.put_doubt.ensures ∙ ap (λ (r : Record). Some r) next.record_is);
      image = c.in_ok-record.ensures.rows ∙ c.requires.image;
    }
