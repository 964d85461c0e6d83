use Rattle.std.proofs.Common.{◌∙◌, ℕ, List, ap, arith}
use Rattle.qm_ready.specs.Tiers.{laid}
use Rattle.qm_ready.specs.declared.moves.TheConstants.{TIER}
use Rattle.qm_ready.proofs.Tiered.{closed}
use Rattle.qm_ready.proofs.tiers.close.Goals as goal

pub returns-then-keys-len-clause-list : goal.returns-then-keys-len-clause-list
returns-then-keys-len-clause-list c =
    ap (λ (l : List ℕ). laid TIER l c.args.keys.now) c.push_reserved.ensures.items ∙ closed TIER c.args.heads.now.items c.args.keys.now (omega (arith, c.args.heads.now.ok))
