use Rattle.std.proofs.Common.{◌≡◌, ◌≤◌, ◌<◌, ◌+◌, ◌-◌, ◌/◌, ◌∙◌, ℕ, Bool, true, false, List, length, get_or, refl, sym, arith}
use Rattle.std.specs.List.Sorted.{IsPartitionedBy}
use Rattle.qm_match.specs.declared.order.Key.{Key}
use Rattle.qm_match.specs.Keys.{comes_before}
use Rattle.qm_ready.proofs.Orders.{parted}
use Rattle.qm_ready.proofs.places.place_of.Goals as goal

-- where the key in the middle comes before, those in front of it do
in_front : (p : Key → Bool) (keys : List Key) (m k : ℕ) (d : Key) → IsPartitionedBy p keys → m < length keys → k ≤ m → p (get_or keys m d) ≡ true → p (get_or keys k d) ≡ true
in_front p keys m k d parts within le passes = parts k m d le within passes

-- and where it doesn't, those behind it don't
behind : (p : Key → Bool) (keys : List Key) (m k : ℕ) (d : Key) → IsPartitionedBy p keys → m ≤ k → k < length keys → p (get_or keys m d) ≡ false → p (get_or keys k d) ≡ false
behind p keys m k d parts le within fails = step (p (get_or keys k d)) refl
  where
    step : (b : Bool) → p (get_or keys k d) ≡ b → p (get_or keys k d) ≡ false
    step false is = is
    step true is = let passes : p (get_or keys m d) ≡ true = parts m k d le within is in absurd (cc)

pub loop-low-preserved-then-is_before_at : goal.loop-low-preserved-then-is_before_at
loop-low-preserved-then-is_before_at c =
    let keys : List Key = c.args.keys.now.list in
    let m : ℕ = c.loop-low.low + (c.loop-low.high - c.loop-low.low) / 2 in
    record {
      order = omega (arith, c.loop-low-test.true);
      within = c.loop-low.invariant.within;
      before = λ k d low below. in_front (λ u. comes_before c.args.schedule u c.args.key.now) keys m k d (parted c.args.schedule keys c.args.key.now c.requires.order)
          (omega (arith, c.loop-low-test.true, c.loop-low.invariant.within)) (omega (arith, below)) (sym (c.is_before_at.ensures d) ∙ c.if-is_before_at.true);
      behind = c.loop-low.invariant.behind;
    }

pub loop-low-preserved : goal.loop-low-preserved
loop-low-preserved c =
    let keys : List Key = c.args.keys.now.list in
    let m : ℕ = c.loop-low.low + (c.loop-low.high - c.loop-low.low) / 2 in
    record {
      order = omega arith;
      within = omega (arith, c.loop-low-test.true, c.loop-low.invariant.within);
      before = c.loop-low.invariant.before;
      behind = λ k d low within. behind (λ u. comes_before c.args.schedule u c.args.key.now) keys m k d (parted c.args.schedule keys c.args.key.now c.requires.order) low within
          (sym (c.is_before_at.ensures d) ∙ c.if-is_before_at.false);
    }
