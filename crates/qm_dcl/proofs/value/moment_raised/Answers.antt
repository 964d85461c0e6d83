use Rattle.std.proofs.Common.{ℕ, ◌<◌, List, length, arith, map}
use Rattle.std.proofs.lemmas.List.{length-map}
use Rattle.std.specs.Char.{to_ascii_uppercase}
use Rattle.qm_time.proofs.LengthLemmas.{long_names_none}
use Rattle.qm_dcl.proofs.value.moment_raised.Goals as goal

-- a word that is too long stays so once it is raised
long_raised : (word : List ℕ) → 40 < length word → 40 < length (map to_ascii_uppercase word)
long_raised word long = omega (arith, length-map word to_ascii_uppercase)

pub returns-then-word-gt-TIME_BYTES : goal.returns-then-word-gt-TIME_BYTES
returns-then-word-gt-TIME_BYTES c = long_names_none _ _ (long_raised c.args.word.now (omega arith))
