-- What an act did, without the bytes of a mark.
use Rattle.std.specs.Prelude.{ℕ, List, [], ◌++◌, codes}
use Rattle.qm_kinds.specs.declared.reply.Act.{Act}
use Rattle.qm_kinds.specs.declared.reply.Act.TheVariants.{Marked}
use Rattle.qm_model.specs.Words.{act_text, run_text}

-- the value of a mark that was recorded
abbrev pub mark_value : Act → List ℕ
mark_value (Marked run value) = value
mark_value _ = []

-- what stands before the value of a mark, and of any other act its whole text
abbrev pub act_words : Act → List ℕ
act_words (Marked run value) = run_text run ++ codes " mark "
act_words other = act_text other
