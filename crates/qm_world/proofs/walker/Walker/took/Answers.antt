use Rattle.std.proofs.Common.{◌≡◌, ◌∙◌, ◌++◌, ◌∷◌, [], Option, Some, ap, length}
use Rattle.qm_history.specs.Common.{Record, Took, log_read, doubt_read, request_record}
use Rattle.qm_history.specs.declared.world.World.{World}
use Rattle.qm_model.specs.Folding.{system_of as system_of_log}
use Rattle.qm_image.specs.Image.{system_of}
use Rattle.qm_world.proofs.Worlds.{follows, log_is, names_read, read_consistent, read_live, system_is, taken_world}
use Rattle.qm_world.proofs.walker.Walker.took.Goals as goal

pub take_over-requires-clause-sound : goal.take_over-requires-clause-sound
take_over-requires-clause-sound c =
    read_consistent c.requests_keep_consistent.ensures c.nodes_keep_their_names.ensures.names c.args.self.now.world c.args.kept c.requires.sound (system_of c.read.new.self.image) c.in_ok-read.ensures.image

pub take_over-requires-clause-live : goal.take_over-requires-clause-live
take_over-requires-clause-live c =
    ap (λ (x : World). length x.live) c.in_ok-read.ensures.world
    ∙ read_live c.requests_keep_consistent.ensures c.nodes_keep_their_names.ensures.names c.args.self.now.world c.args.kept c.requires.sound (system_of c.read.new.self.image) c.in_ok-read.ensures.image

pub returns : goal.returns
returns c =
    let w = c.args.self.now.world in
    let v = c.read.new.self.world in
    let log = log_read w c.args.kept in
    let s = system_of c.read.new.self.image in
    let t = system_of c.take_over.new.image in
    let f = c.in_ok-followed.followed in
    let asked = Took c.args.epoch c.args.gone.now c.args.up.now c.args.may.now in
    let taken = rw (c.as_slice.ensures, c.as_slice-2.ensures, c.as_slice-3.ensures) at c.in_ok-followed.ensures in
    let list : c.put.new.list ≡ log ++ f.record ∷ [] = c.in_ok-put.ensures ∙ ap (λ (x : World). x.log ++ f.record ∷ []) c.in_ok-read.ensures.world in
    let begins = c.may_begin.ensures.0 c.if-not-may_begin.false in
    record {
      can = record {
        next_epoch = begins.0;
        told = begins.1;
        nodes = names_read w v log (doubt_read w c.args.kept) s (system_of_log log) c.args.node c.args.gone.now c.args.up.now c.args.may.now c.in_ok-read.ensures.world c.in_ok-read.ensures.image taken.0;
        follows = follows log s t c.args.moment c.args.node asked f c.in_ok-read.ensures.image taken.1;
      };
      after =
          ap (λ (d : Option Record). record v { log = c.put.new.list; doubt = d; manager = Some (record { node = c.args.node; epoch = c.args.epoch }); greatest = c.args.epoch; held = c.set.new.list }) c.put_doubt.ensures
          ∙ taken_world w v log c.put.new.list (doubt_read w c.args.kept) (request_record c.args.moment c.args.node asked) c.set.new.list c.args.node c.args.epoch c.in_ok-read.ensures.world (log_is log s t c.args.moment c.args.node asked f c.in_ok-read.ensures.image taken.1 c.put.new.list list) c.set.ensures;
      image = system_is log s t c.args.moment c.args.node asked f c.in_ok-read.ensures.image taken.1 c.put.new.list list;
    }
