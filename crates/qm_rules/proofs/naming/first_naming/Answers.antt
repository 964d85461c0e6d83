use Rattle.std.proofs.Common.{◌∙◌, sym}
use Rattle.qm_tables.specs.Boxed.{contents}
use Rattle.qm_rules.specs.Naming.{names}
use Rattle.qm_rules.proofs.Given.{find_hit, find_miss}
use Rattle.qm_rules.proofs.Boxed.{value_at, value_within}
use Rattle.qm_rules.proofs.naming.first_naming.Goals as goal

pub returns-then-names : goal.returns-then-names
returns-then-names c =
    let is = value_at c.args.entries.now c.loop-boxed.boxed-index c.boxed-item.result c.as_ref-entry.result.now c.loop-boxed-test.true c.boxed-item.is c.as_ref-entry.ensures in
    let within = value_within c.args.entries.now c.loop-boxed.boxed-index c.boxed-item.result c.as_ref-entry.result.now c.loop-boxed-test.true c.boxed-item.is c.as_ref-entry.ensures in
    sym (find_hit (names c.args.named.now) (contents c.args.entries.now) c.loop-boxed.boxed-index c.as_ref-entry.result.now within is (sym c.names.ensures ∙ c.if-names.true))
    ∙ c.loop-boxed.invariant

pub loop-boxed-preserved : goal.loop-boxed-preserved
loop-boxed-preserved c =
    let is = value_at c.args.entries.now c.loop-boxed.boxed-index c.boxed-item.result c.as_ref-entry.result.now c.loop-boxed-test.true c.boxed-item.is c.as_ref-entry.ensures in
    let within = value_within c.args.entries.now c.loop-boxed.boxed-index c.boxed-item.result c.as_ref-entry.result.now c.loop-boxed-test.true c.boxed-item.is c.as_ref-entry.ensures in
    find_miss (names c.args.named.now) (contents c.args.entries.now) c.loop-boxed.boxed-index c.as_ref-entry.result.now within is (sym c.names.ensures ∙ c.if-names.false)
    ∙ c.loop-boxed.invariant
