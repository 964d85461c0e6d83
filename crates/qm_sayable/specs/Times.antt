-- How a command says a moment.
-- OpenVMS User's Manual, on entering commands: absolute times and quoted strings.
use Rattle.std.specs.Prelude.{ℕ, List, ◌++◌, codes}
use Rattle.qm_model.specs.MomentText.{moment_text, without_blank}

-- A moment as an absolute time, to the hundredth of a second. It has a blank, and so stands in quotes, and no time has one in front.
abbrev pub time_text : ℕ → List ℕ
time_text moment = codes "\"" ++ without_blank (moment_text moment) ++ codes "\""
