use Rattle.std.proofs.Common.{◌∙◌, ℕ, List, not, ap, sym, find, option_map}
use Rattle.std.proofs.Math.ListN.{drop_of_length-le}
use Rattle.qm_kinds.specs.declared.refusal.Refusal.TheVariants.{GenericTarget}
use Rattle.qm_model.specs.Queues.{is_target}
use Rattle.qm_rules.proofs.Given.{find_hit, find_miss}
use Rattle.qm_rules.proofs.initializing.refused_targets.Goals as goal

pub returns-then-not-is_target : goal.returns-then-not-is_target
returns-then-not-is_target c = λ s has.
    let missing = λ (name : List ℕ). not (is_target s c.args.new.now.kind name) in
    let hit = find_hit missing c.as_slice-targets.result.now c.loop-name.name-index c.name-item.result c.loop-name-test.true c.name-item.is (ap not (sym (c.if-not-is_target.ensures s has))) in
    sym (ap (option_map (λ name. GenericTarget name)) (ap (find missing) (sym c.as_slice-targets.ensures) ∙ sym (c.loop-name.invariant s has) ∙ hit))

pub loop-name-preserved : goal.loop-name-preserved
loop-name-preserved c = λ s has.
    let missing = λ (name : List ℕ). not (is_target s c.args.new.now.kind name) in
    find_miss missing c.as_slice-targets.result.now c.loop-name.name-index c.name-item.result c.loop-name-test.true c.name-item.is (ap not (sym (c.if-not-is_target.ensures s has)))
    ∙ c.loop-name.invariant s has

pub returns : goal.returns
returns c = λ s has.
    let missing = λ (name : List ℕ). not (is_target s c.args.new.now.kind name) in
    let none = ap (find missing) (drop_of_length-le c.as_slice-targets.result.now c.loop-name-test.false) in
    sym (ap (option_map (λ name. GenericTarget name)) (ap (find missing) (sym c.as_slice-targets.ensures) ∙ sym (c.loop-name.invariant s has) ∙ none))
