use Rattle.std.proofs.Common.{ℕ, ◌^◌, ◌<◌, subst}
use Rattle.qm_chest.proofs.checking.check.Goals as goal

pub returns-in-Ok-clause-checked : goal.returns-in-Ok-clause-checked
returns-in-Ok-clause-checked g c = record {
  restored = c.in-Ok.ensures.restored;
  epoch = c.in-Ok.restored.loaded.has_more_epochs;
  reach = subst (λ (n : ℕ). n < 2 ^ 62) c.size.ensures c.if-size-lt-GREATEST_SIZE.true;
}
