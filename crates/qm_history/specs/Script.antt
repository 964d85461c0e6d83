-- The lines of a node, and who asks for what.
-- OpenVMS User's Manual, on command procedures; DCL Dictionary, SUBMIT, /USER. This site's own: the form of a script, and STEP.
use Rattle.std.specs.Prelude.{ℕ, List, filter, map, Option, None, bytes_eq}
use Rattle.qm_kinds.specs.Names.{system_user}
use Rattle.qm_model.specs.Script.{ScriptLine, Sort, steps_in}
use Rattle.qm_model.specs.Script as served

-- a command, a call by an item list, or an act at the site
pub data LineSort : Type 0 where
  Command : LineSort
  Items : LineSort
  Act : LineSort

-- a line of a script: its number, counted from 1, its node, its sort, and what stands behind the sort
pub record Line : Type 0 where
  pub number : ℕ
  pub node : List ℕ
  pub sort : LineSort
  pub text : List ℕ

-- a line, and the user who asks
pub record UserLine : Type 0 where
  pub line : Line
  pub user : List ℕ

-- the sorts that are served
abbrev pub sort_served : Sort → LineSort
sort_served served.Command = Command
sort_served served.Site = Act

-- a line of a script that is served, for which SYSTEM asks
abbrev pub line_by_system : ScriptLine → UserLine
line_by_system l = record { line = record { number = l.number; node = l.node; sort = sort_served l.sort; text = l.text }; user = system_user }

-- the lines of a script in which no user is named
abbrev pub asked_by_system : List ScriptLine → List UserLine
asked_by_system script = map line_by_system script

-- the lines of one node, with their numbers and users
abbrev pub lines_of : List ℕ → List UserLine → List UserLine
lines_of name script = filter (λ (l : UserLine). bytes_eq l.line.node name) script

-- how many steps a line allows, if it is a STEP line
abbrev pub steps_asked : LineSort → List ℕ → Option ℕ
steps_asked Command text = None
steps_asked Items text = None
steps_asked Act text = steps_in text
