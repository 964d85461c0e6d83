-- What stands before a line of an answer.
use Rattle.std.specs.Prelude.{ℕ, List, ◌++◌, codes, Option}
use Rattle.qm_model.specs.Transcript.{number_text}

-- the node, and the number of the script's line, or - where the node asked of itself
abbrev pub prefix_text : List ℕ → Option ℕ → List ℕ
prefix_text node number = node ++ codes " " ++ number_text number ++ codes ": "
