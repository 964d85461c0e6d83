-- Whether jobs of a home reach a queue.
use Rattle.std.specs.Prelude.{◌≡◌, ℕ, Bool, false, ◌||◌, List, Option, bytes_eq}
use Rattle.std.specs.Option.{option_map_or}
use Rattle.qm_model.specs.Common.{Queue, queue_named, passes_on_to}
use Rattle.qm_parts.specs.declared.fitting.Asked.{Asked}

-- the home is the queue itself, or a generic queue that passes jobs on to it
abbrev pub is_way : List ℕ → Option Queue → Queue → Bool
is_way home row q = bytes_eq home q.name || option_map_or (passes_on_to q.name) row false

-- what is known of the home that was asked for last is so
abbrev pub KnowsWay : List Queue → Queue → Asked → Type 0
KnowsWay queues q asked = asked.reaches ≡ is_way asked.home (queue_named asked.home queues) q
