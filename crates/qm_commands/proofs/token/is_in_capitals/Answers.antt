use Rattle.std.proofs.Common.{◌==◌, ◌∙◌, rules, tests}
use Rattle.std.specs.Char.{to_ascii_uppercase}
use Rattle.std.proofs.lemmas.Iterator.{YieldsList-from_slice, YieldsList-from_zip}
use Rattle.std.proofs.lemmas.Iterator.Search.{all_from_yields_List}
use Rattle.qm_commands.proofs.SpellingLemmas.{same_bytes}
use Rattle.qm_commands.proofs.token.is_in_capitals.Goals as goal

pub returns-then-word-spelling : goal.returns-then-word-spelling
returns-then-word-spelling c =
    all_from_yields_List (λ p. to_ascii_uppercase p.0 == p.1) c.all.new.self _ _ c.all.ensures.ran
    (YieldsList-from_zip (YieldsList-from_slice c.args.word.now (cc)) (YieldsList-from_slice c.args.spelling.now (cc)))
    (λ x b q k. search (rules, tests))
    ∙ same_bytes c.args.word.now c.args.spelling.now c.if-word-spelling.true
