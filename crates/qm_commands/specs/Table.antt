-- The table of commands: which verbs there are, the options that make commands of them, and their parameters.
-- DCL Dictionary, on the commands of queues, jobs, forms and characteristics.
use Rattle.std.specs.Prelude.{ℕ, Bool, true, false, List, [], ◌∷◌, Option, None, Some}
use Rattle.qm_commands.specs.declared.table.Verb.{Verb}
use Rattle.qm_commands.specs.declared.table.Verb.TheVariants as verb
use Rattle.qm_commands.specs.declared.table.Command.{Command}
use Rattle.qm_commands.specs.declared.table.Command.TheVariants as command
use Rattle.qm_commands.specs.declared.table.Row.{Row}
use Rattle.qm_commands.specs.declared.word.Word.{Word}
use Rattle.qm_commands.specs.declared.word.Word.TheVariants as words

-- the verbs
abbrev pub verbs : List Verb
verbs = verb.Initialize ∷ verb.Set ∷ verb.Start ∷ verb.Stop ∷ verb.Delete ∷ verb.Assign ∷ verb.Define ∷ verb.Submit ∷ verb.Print ∷ verb.Show ∷ []

-- a command that needs and takes so many parameters, with the options behind a / that name it
abbrev pub row : Command → Option Word → Option Word → ℕ → ℕ → Row
row c option further least most = record { command = c; object = None; option = option; further = further; least = least; most = most; must_set = false }

-- a command whose first parameter names it, and perhaps an option behind a /; with that parameter it needs and takes so many
abbrev pub object_row : Command → Word → Option Word → ℕ → ℕ → Bool → Row
object_row c object option least most must_set = record { command = c; object = Some object; option = option; further = None; least = least; most = most; must_set = must_set }

-- the commands of a verb; one that names more of the options stands in front
abbrev pub rows_of : Verb → List Row
rows_of verb.Initialize =
    row command.InitializeQueue (Some words.Queue) None 1 1
    ∷ []
rows_of verb.Set =
    object_row command.SetEntry words.Entry None 2 2 true
    ∷ object_row command.SetQueue words.Queue None 2 2 true
    ∷ []
rows_of verb.Start =
    row command.StartManager (Some words.Queue) (Some words.Manager) 0 0
    ∷ row command.StartQueue (Some words.Queue) None 1 1
    ∷ []
rows_of verb.Stop =
    row command.StopQueue (Some words.Queue) None 1 1
    ∷ []
rows_of verb.Delete =
    row command.DeleteQueue (Some words.Queue) None 1 1
    ∷ row command.DeleteForm (Some words.Form) None 1 1
    ∷ row command.DeleteCharacteristic (Some words.Characteristic) None 1 1
    ∷ row command.DeleteEntry (Some words.Entry) None 0 0
    ∷ []
rows_of verb.Assign =
    row command.AssignMerge (Some words.Merge) None 2 2
    ∷ []
rows_of verb.Define =
    row command.DefineForm (Some words.Form) None 2 2
    ∷ row command.DefineCharacteristic (Some words.Characteristic) None 2 2
    ∷ []
rows_of verb.Submit =
    row command.Submit None None 1 1
    ∷ []
rows_of verb.Print =
    row command.Print None None 1 1
    ∷ []
rows_of verb.Show =
    object_row command.ShowForms words.Queue (Some words.Form) 1 2 false
    ∷ object_row command.ShowCharacteristics words.Queue (Some words.ShownCharacteristics) 1 2 false
    ∷ object_row command.ShowManagers words.Queue (Some words.Managers) 1 1 false
    ∷ object_row command.ShowQueue words.Queue None 1 2 false
    ∷ object_row command.ShowEntry words.Entry None 1 2 false
    ∷ []

-- the option of these verbs stands behind a /
abbrev pub takes_option : Verb → Bool
takes_option verb.Initialize = true
takes_option verb.Set = false
takes_option verb.Start = true
takes_option verb.Stop = true
takes_option verb.Delete = true
takes_option verb.Assign = true
takes_option verb.Define = true
takes_option verb.Submit = false
takes_option verb.Print = false
takes_option verb.Show = false

-- the option of these verbs is the first parameter
abbrev pub takes_object : Verb → Bool
takes_object verb.Initialize = false
takes_object verb.Set = true
takes_object verb.Start = false
takes_object verb.Stop = false
takes_object verb.Delete = false
takes_object verb.Assign = false
takes_object verb.Define = false
takes_object verb.Submit = false
takes_object verb.Print = false
takes_object verb.Show = true
