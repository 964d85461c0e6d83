use Rattle.std.proofs.Common.{Bool, None}
use Rattle.qm_commands.specs.declared.rules.Takes.{Takes}
use Rattle.qm_commands.specs.declared.word.Word.{Word}
use Rattle.qm_commands.specs.Names.{is_name, rule_for}
use Rattle.qm_commands.proofs.RuleLemmas.{found_here, found_behind}
use Rattle.qm_grammar.proofs.rule.rule_among.Goals as goal

pub returns-in-Some : goal.returns-in-Some
returns-in-Some c =
    let p : Word × Takes → Bool = λ rule. is_name c.args.text.now c.args.verb None c.args.token rule.0 in
    found_here p c.loop-rest.rest.now _ c.in-Some.rule (rule_for c.args.text.now c.args.verb None c.args.token) c.in-len1-up.len_at_least c.in-Some.ensures c.loop-rest.invariant

pub loop-rest-preserved : goal.loop-rest-preserved
loop-rest-preserved c =
    let p : Word × Takes → Bool = λ rule. is_name c.args.text.now c.args.verb None c.args.token rule.0 in
    found_behind p c.loop-rest.rest.now _ (rule_for c.args.text.now c.args.verb None c.args.token) c.in-len1-up.len_at_least c.in-None.ensures c.loop-rest.invariant
