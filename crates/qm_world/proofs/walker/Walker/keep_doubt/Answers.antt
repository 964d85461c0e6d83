use Rattle.std.proofs.Common.{◌∙◌, List, ◌++◌, Option, ap, option_to_list}
use Rattle.qm_kinds.specs.declared.record.Record.{Record}
use Rattle.qm_image.specs.Image.{system_of}
use Rattle.qm_world.proofs.Worlds.{kept_log, kept_system}
use Rattle.qm_world.proofs.walker.Walker.keep_doubt.Goals as goal

pub returns : goal.returns
returns c =
    let w = c.args.self.now.world in record {
      world =
          ap (λ (log : List Record). record w { log = log; doubt = c.take.new.self }) (kept_log w.log c.put.new.list w.doubt c.in-Some.record c.in-Some.ensures.value c.in_ok-put.ensures)
          ∙ ap (λ (doubt : Option Record). record w { log = w.log ++ option_to_list w.doubt; doubt = doubt }) c.in-Some.ensures.after;
      image = kept_system w.log (system_of c.args.self.now.image) (system_of c.replay.new.image) w.doubt c.in-Some.record c.in-Some.ensures.value c.requires.image c.in_ok-replay.ensures;
    }
