-- What the program's words ask for.
use Rattle.std.specs.Prelude.{ℕ, if◌then◌else◌, List, [], ◌∷◌, ◌++◌, codes, option_map, option_and_then, Option, None, Some, bytes_eq}
use Rattle.qm_store.specs.Making.{IsQueueCap}
use Rattle.qm_history.specs.Common.{site_of, AreNodes}
use Rattle.qm_script.specs.Sites.{cap_of, nodes_of}
use Rattle.qm_program.specs.declared.task.Task.{Task}
use Rattle.qm_program.specs.declared.task.Task.TheVariants.{Run, Cluster, Show, Init}
use Rattle.qm_program.specs.declared.task.TheConstants.{USUAL_CAP}

-- a new site of the nodes that a word names, whose queue files have this cap, if there is one
abbrev pub init_of : List ℕ → Option ℕ → Option Task
init_of word cap = option_and_then (λ n. option_map (λ nodes. Init nodes n) (nodes_of word)) cap

-- what one word asks for
abbrev pub alone_of : List ℕ → Option Task
alone_of word =
    if bytes_eq word (codes "run") then Some Run
    else (if bytes_eq word (codes "cluster") then Some Cluster else (if bytes_eq word (codes "show") then Some Show else None))

-- `run`; `cluster`; `show`; or `init` and the nodes of a new site, and the most bytes of a queue file behind them or not; other words ask for nothing
abbrev pub task_of : List (List ℕ) → Option Task
task_of [] = None
task_of (word ∷ []) = alone_of word
task_of (word ∷ nodes ∷ []) = if bytes_eq word (codes "init") then init_of nodes (Some USUAL_CAP) else None
task_of (word ∷ nodes ∷ cap ∷ []) = if bytes_eq word (codes "init") then init_of nodes (cap_of cap) else None
task_of (word ∷ nodes ∷ cap ∷ other ∷ others) = None

-- the nodes are those that a site can have, and the cap is one of a queue file
abbrev pub NamesSite : Task → Type 0
NamesSite Run = Unit {0}
NamesSite Cluster = Unit {0}
NamesSite Show = Unit {0}
NamesSite (Init nodes cap) = AreNodes (site_of nodes).nodes × IsQueueCap cap

-- what is printed once the files are made
abbrev pub initialized : List ℕ
initialized = codes "initialized" ++ 10 ∷ []
