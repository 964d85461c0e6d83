-- What the commands of the queue manager mean, on worked texts.
use Rattle.std.proofs.Common.{◌≡◌, ℕ, List, [], ◌∷◌, None, Some, Result, Ok, Err, codes, refl}
use Rattle.qm_model.specs.Common.{Input, Show, TakeManager, ParseKind}
use Rattle.qm_kinds.specs.declared.refusal.ParseKind.TheVariants as fault
use Rattle.qm_commands.specs.declared.fault.Fault.{Fault}
use Rattle.qm_commands.specs.declared.table.Command.TheVariants.{ShowManagers, StartManager}
use Rattle.qm_grammar.specs.Finding.{named_command}
use Rattle.qm_grammar.specs.Parsed.{tokens_in}
use Rattle.qm_dcl.specs.Command.{meant}
use Rattle.qm_dcl.specs.Showing.{manager_query}

abbrev started : List ℕ → Result Input Fault
started text = meant (codes "SYSTEM") 0 text StartManager

abbrev at : ℕ → ParseKind → Result Input Fault
at place kind = Err (record { place = place; kind = kind })

-- without /ON= the nodes stay as they are
alone : started (codes "START/QUEUE/MANAGER") ≡ Ok (TakeManager None)
alone = refl

-- a list of nodes, and one node
listed : started (codes "start/queue/manager/on=(a, B)") ≡ Ok (TakeManager (Some (codes "A" ∷ codes "B" ∷ [])))
listed = refl

one : started (codes "START/QUEUE/ON=PLUTO/MANAGER") ≡ Ok (TakeManager (Some (codes "PLUTO" ∷ [])))
one = refl

-- all nodes
all : started (codes "START/QUEUE/MANAGER/ON=*") ≡ Ok (TakeManager (Some []))
all = refl

all_listed : started (codes "START/QUEUE/MANAGER/ON=(*)") ≡ Ok (TakeManager (Some []))
all_listed = refl

-- the last /ON= counts
last : started (codes "START/QUEUE/MANAGER/ON=A/ON=*") ≡ Ok (TakeManager (Some []))
last = refl

-- a * among others, a name of seven bytes, one with colons, no value, and a parameter
behind : started (codes "START/QUEUE/MANAGER/ON=(A,*)") ≡ at 26 fault.Value
behind = refl

before : started (codes "START/QUEUE/MANAGER/ON=(*,A)") ≡ at 24 fault.Value
before = refl

long : started (codes "START/QUEUE/MANAGER/ON=(A,ABCDEFG)") ≡ at 26 fault.Value
long = refl

colons : started (codes "START/QUEUE/MANAGER/ON=A::") ≡ at 23 fault.Value
colons = refl

none : started (codes "START/QUEUE/MANAGER/ON") ≡ at 22 fault.Missing
none = refl

extra : started (codes "START/QUEUE/MANAGER X") ≡ at 20 fault.Extra
extra = refl

-- both spellings of the option ask for the queue manager
shown : meant (codes "SYSTEM") 0 (codes "SHOW QUEUE/MANAGERS") ShowManagers ≡ Ok (Show manager_query)
shown = refl

shown_one : meant (codes "SYSTEM") 0 (codes "show queue/manager") ShowManagers ≡ Ok (Show manager_query)
shown_one = refl

named : named_command (codes "SHOW QUEUE/MANAGER") (tokens_in (codes "SHOW QUEUE/MANAGER")) ≡ Some ShowManagers
named = refl
