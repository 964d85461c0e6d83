use Rattle.std.proofs.Common.{◌∷◌, [], ℕ, List, None, Option, get_or, length, ◌∙◌, ap, arith, length-append}
use Rattle.qm_parts.proofs.Bounds.{unknown_more}
use Rattle.qm_parts.proofs.parts.add_unknown.Goals as goal

pub loop-init : goal.loop-init
loop-init c = record {
  count = ap (λ (bounds : List (Option ℕ)). length bounds) c.requires;
  unknown = λ place. ap (λ (bounds : List (Option ℕ)). get_or bounds place None) c.requires;
}

pub loop-preserved : goal.loop-preserved
loop-preserved c =
    let bounds : List (Option ℕ) = c.loop.bounds.items in
    record {
      count = omega (arith, ap (λ (now : List (Option ℕ)). length now) c.in_ok-push.ensures.items, length-append bounds (None ∷ []), c.loop.invariant.count);
      unknown = λ place. ap (λ (now : List (Option ℕ)). get_or now place None) c.in_ok-push.ensures.items ∙ unknown_more bounds c.loop.invariant.unknown place;
    }
