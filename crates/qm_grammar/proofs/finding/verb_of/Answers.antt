use Rattle.std.proofs.Common.{nat_lt, find, get_or, length, ap, arith, ◌∙◌}
use Rattle.qm_commands.specs.Names.{is_verb}
use Rattle.qm_grammar.proofs.VerbLemmas.{found_by}
use Rattle.qm_grammar.proofs.finding.verb_of.Goals as goal

pub returns-in-Some : goal.returns-in-Some
returns-in-Some c =
    let text = c.args.text.now in
    let word = c.bytes_of.ensures in
    let second = c.in-Some.second.now in
    c.verb_among.ensures ∙ ap (find (is_verb text c.args.token)) c.verbs_by.ensures
    ∙ found_by text c.args.token second c.to_ascii_uppercase.result
    (c.in-Some.ensures.lookup.0 ∙ ap (λ w. nat_lt 1 (length w)) word)
    (c.in-Some.ensures.lookup.4 (omega arith) 0 ∙ ap (λ w. get_or w 1 0) word)
    c.to_ascii_uppercase.ensures.value
