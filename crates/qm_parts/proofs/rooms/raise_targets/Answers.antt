use Rattle.std.proofs.Common.{◌∙◌, ◌+◌, ◌||◌, ℕ, List, take, ap, arith, sym, subst, bytes_eq, take_all}
use Rattle.std.specs.List.{list_any}
use Rattle.std.proofs.lemmas.List.Folds.{list_any_more}
use Rattle.qm_parts.specs.Rooms.{IsRaisedWhere}
use Rattle.qm_parts.proofs.Widening.{raised_either}
use Rattle.qm_parts.proofs.rooms.raise_targets.Goals as goal

pub loop-target-preserved : goal.loop-target-preserved
loop-target-preserved c =
    let ts : List (List ℕ) = c.args.targets.now in
    let i = c.loop-target.target-index in
    record {
      raised =
          raised_either c.args.tables.now.queues (λ q. list_any (λ target. bytes_eq target q.name) (take i ts)) (λ q. bytes_eq c.target-item.result q.name) (λ q. list_any (λ target. bytes_eq target q.name) (take (i + 1) ts))
          c.args.bounds.now.items c.loop-target.bounds.items c.raise_named.new.bounds.items
          (λ q. list_any_more (λ target. bytes_eq target q.name) ts i c.target-item.result c.loop-target-test.true ∙ ap (λ (n : List ℕ). list_any (λ target. bytes_eq target q.name) (take i ts) || bytes_eq n q.name) (sym c.target-item.is))
          c.loop-target.invariant.raised c.raise_named.ensures.raised;
      count = c.raise_named.ensures.count ∙ c.loop-target.invariant.count;
    }

pub returns-clause-raised : goal.returns-clause-raised
returns-clause-raised c =
    let ts : List (List ℕ) = c.args.targets.now in
    subst (λ (us : List (List ℕ)). IsRaisedWhere (λ q. list_any (λ target. bytes_eq target q.name) us) c.args.tables.now.queues c.args.bounds.now.items c.loop-target.bounds.items)
    (take_all c.loop-target.target-index ts (omega (arith, c.loop-target-test.false))) c.loop-target.invariant.raised
