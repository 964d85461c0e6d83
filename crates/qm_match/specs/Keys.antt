-- What counts of jobs where a queue chooses one of them.
use Rattle.std.specs.Prelude.{ℕ, ◌==◌, nat_lt, Bool, ◌&&◌, ◌||◌, if◌then◌else◌}
use Rattle.qm_model.specs.Common.{Entry, Queue, is_print_queue}
use Rattle.qm_match.specs.declared.order.Key.{Key}
use Rattle.qm_match.specs.declared.order.Schedule.{Schedule}
use Rattle.qm_match.specs.declared.order.Schedule.TheVariants.{BySize, ByNumber}

-- a queue goes by size where it is a print queue and says so
abbrev pub schedule_of : Queue → Schedule
schedule_of q = if q.by_size && is_print_queue q.kind then BySize else ByNumber

-- what counts of a job
abbrev pub key_of : Entry → Key
key_of e = record { priority = e.priority; size = e.size; number = e.number }

-- what counts of a size
abbrev pub size_in : Schedule → ℕ → ℕ
size_in BySize size = size
size_in ByNumber size = 0

-- the greater priority comes first, then the smaller size, where size counts, then the smaller number
abbrev pub comes_before : Schedule → Key → Key → Bool
comes_before schedule a b =
    nat_lt b.priority a.priority
    || (a.priority == b.priority
    && (nat_lt (size_in schedule a.size) (size_in schedule b.size) || (size_in schedule a.size == size_in schedule b.size && nat_lt a.number b.number)))
