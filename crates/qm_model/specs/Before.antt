-- The order in which a queue takes the jobs that it can start.
-- OpenVMS System Manager's Manual, Setting Up and Maintaining Queues, on job scheduling; DCL Dictionary, INITIALIZE/QUEUE, /SCHEDULE.
-- This site's own: that jobs of equal size go by number.
use Rattle.std.specs.Prelude.{◌≡◌, ◌≢◌, ℕ, ◌==◌, nat_lt, Bool, true, false, ◌&&◌, ◌||◌, if◌then◌else◌, List, Option}
use Rattle.std.specs.List.{reduce}
use Rattle.qm_kinds.specs.declared.entry.Entry.{Entry}
use Rattle.qm_kinds.specs.declared.queue.Queue.{Queue}
use Rattle.qm_model.specs.Kinds.{is_print_queue}

-- what counts of a job's size: nothing, but in a print queue that goes by size
abbrev pub size_that_counts : Queue → Entry → ℕ
size_that_counts q e = if q.by_size && is_print_queue q.kind then e.size else 0

-- The greater priority comes first, then the smaller size, where size counts, then the smaller number.
abbrev pub before : Queue → Entry → Entry → Bool
before q a b =
    nat_lt b.priority a.priority
    || (a.priority == b.priority
    && (nat_lt (size_that_counts q a) (size_that_counts q b) || (size_that_counts q a == size_that_counts q b && nat_lt a.number b.number)))

-- the first job of a list in this order
abbrev pub first_of : Queue → List Entry → Option Entry
first_of q entries = reduce (λ first e. if before q e first then e else first) entries

-- none comes before itself
abbrev pub IsIrreflexive : {X : Type 0} → (X → X → Bool) → Type 0
IsIrreflexive {X} comes = (a : X) → comes a a ≡ false

-- one that comes before another comes before all that follow that one
abbrev pub IsTransitive : {X : Type 0} → (X → X → Bool) → Type 0
IsTransitive {X} comes = (a b c : X) → comes a b ≡ true → comes b c ≡ true → comes a c ≡ true

-- of two of different numbers one comes first
abbrev pub IsTotal : {X : Type 0} → (X → ℕ) → (X → X → Bool) → Type 0
IsTotal {X} number comes = (a b : X) → number a ≢ number b → (comes a b || comes b a) ≡ true
