-- The queues of a table: what its callers see, and what the calls make of it.
use Rattle.std.specs.Prelude.{ℕ, Bool, true, List, find, Option, None, Some}
use Rattle.std.specs.Ordering.{is_lt}
use Rattle.qm_model.specs.Common.{Queue, name_cmp, without_queue}
use Rattle.qm_model.specs.Inserting.{with_new_queue}

-- the queues in order of their names, and how many more have room
pub record Kept : Type 0 where
  pub queues : List Queue
  pub spare : ℕ

-- the queues with this one in its place by name, where it takes the place of any other of its name
abbrev pub with_queue_put : Queue → List Queue → List Queue
with_queue_put queue queues = with_new_queue queue (without_queue queue.name queues)

-- the queue's name is greater than this one, where one is given
abbrev pub comes_after : Option (List ℕ) → Queue → Bool
comes_after None q = true
comes_after (Some name) q = is_lt (name_cmp name q.name)

-- the first queue by name that comes after this name, or the first of all where none is given
abbrev pub queue_after : Option (List ℕ) → List Queue → Option Queue
queue_after name queues = find (comes_after name) queues
