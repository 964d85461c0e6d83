-- Names that stand for something everywhere.
use Rattle.std.specs.Prelude.{ℕ, List, codes}

-- the form that is always there
abbrev pub default_form : List ℕ
default_form = codes "DEFAULT"

-- the batch queue that is there from the start
abbrev pub batch_queue : List ℕ
batch_queue = codes "SYS$BATCH"

-- the user of a line that names none
abbrev pub system_user : List ℕ
system_user = codes "SYSTEM"

-- the type of a batch file
abbrev pub command_type : List ℕ
command_type = codes "COM"

-- the queue of print jobs that name none
abbrev pub print_queue : List ℕ
print_queue = codes "SYS$PRINT"
