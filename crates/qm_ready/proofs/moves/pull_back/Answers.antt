use Rattle.std.proofs.Common.{◌∙◌, ◌≡◌, ℕ, ◌+◌, ◌-◌, ◌*◌, ◌≤◌, List, length, insert, sym, ap, arith}
use Rattle.qm_match.specs.declared.order.Key.{Key}
use Rattle.qm_ready.specs.Tiers.{laid}
use Rattle.qm_ready.specs.declared.moves.TheConstants.{TIER}
use Rattle.qm_ready.proofs.Tiered.{run_on, slots_kept}
use Rattle.qm_ready.proofs.moves.pull_back.Goals as goal

pub loop-at-preserved : goal.loop-at-preserved
loop-at-preserved c =
    let hs : List ℕ = c.args.heads.now in
    let xs : List Key = c.loop-at.keys.items in
    let ys : List Key = c.pull_run-carry.new.keys.items in
    let run = c.run_to-run.result in
    let p : ℕ = c.loop-at.at - run.count in
    let back : p + run.count ≡ c.loop-at.at = omega (arith, c.run_to-run.ensures.within) in
    let full : length hs * 512 ≤ length xs = omega (arith, c.requires.tiered.full, c.loop-at.invariant.len) in
    let also : length hs * 512 ≤ length ys = omega (arith, full, c.pull_run-carry.ensures.len) in
    let inside : p + run.count ≤ length ys = omega (arith, back, also, c.requires.within, c.loop-at.invariant.within.1) in
    record {
      moved =
          sym (run_on TIER hs run.count p run.slot ys xs c.pull_run-carry.result c.loop-at.carry c.run_to-run.ensures.slots also
          (slots_kept TIER hs p run.slot run.count ys c.run_to-run.ensures.some c.run_to-run.ensures.slots also) inside (sym c.pull_run-carry.ensures.len) (sym c.pull_run-carry.ensures.moved))
          ∙ ap (λ (i : ℕ). insert (laid TIER hs xs) i c.loop-at.carry) back ∙ c.loop-at.invariant.moved;
      within = (omega (arith, c.run_to-run.ensures.within), omega (arith, c.loop-at.invariant.within.1));
      len = c.pull_run-carry.ensures.len ∙ c.loop-at.invariant.len;
      capacity = c.pull_run-carry.ensures.capacity ∙ c.loop-at.invariant.capacity;
    }
