use Rattle.std.proofs.Common.{subst, sym}
use Rattle.qm_history.specs.World.{IsSound}
use Rattle.qm_world.proofs.Worlds.{leads_on}
use Rattle.qm_world.proofs.walking.go_along.Goals as goal

pub loop-index-preserved : goal.loop-index-preserved
loop-index-preserved c =
    let step = c.in-Ok.ensures in
    record {
      at = record {
        sound = subst IsSound (sym step.after)
            (c.worlds_stay_sound.ensures.event c.loop-index.walker.world c.index-steps-index.result c.loop-index.invariant.at.sound step.can);
        image = step.image;
      };
      led = leads_on c.args.walker.now.world c.args.steps.now c.loop-index.index c.index-steps-index.result c.loop-index.walker.world c.step.new.walker.world
          c.loop-index-test.true c.index-steps-index.is c.loop-index.invariant.led step.can step.after;
    }
