use Rattle.std.proofs.Common.{◌∙◌, ℕ, ◌+◌, ◌*◌, ◌≤◌, List, length, arith}
use Rattle.qm_match.specs.declared.order.Key.{Key}
use Rattle.qm_ready.specs.declared.moves.TheConstants.{TIER}
use Rattle.qm_ready.proofs.Tiered.{run_on, slots_kept}
use Rattle.qm_ready.proofs.moves.push_on.Goals as goal

pub loop-at-preserved : goal.loop-at-preserved
loop-at-preserved c =
    let hs : List ℕ = c.args.heads.now in
    let xs : List Key = c.loop-at.keys.items in
    let ys : List Key = c.push_run-carry.new.keys.items in
    let run = c.run_from-run.result in
    let full : length hs * 512 ≤ length xs = omega (arith, c.requires.tiered.full, c.loop-at.invariant.len) in
    let inside : c.loop-at.at + run.count ≤ length xs = omega (arith, full, c.requires.within, c.run_from-run.ensures.within) in
    record {
      moved =
          run_on TIER hs run.count c.loop-at.at run.slot xs ys c.loop-at.carry c.push_run-carry.result c.run_from-run.ensures.slots full
          (slots_kept TIER hs c.loop-at.at run.slot run.count xs c.run_from-run.ensures.some c.run_from-run.ensures.slots full) inside c.push_run-carry.ensures.len c.push_run-carry.ensures.moved
          ∙ c.loop-at.invariant.moved;
      within = c.run_from-run.ensures.within;
      len = c.push_run-carry.ensures.len ∙ c.loop-at.invariant.len;
      capacity = c.push_run-carry.ensures.capacity ∙ c.loop-at.invariant.capacity;
    }
