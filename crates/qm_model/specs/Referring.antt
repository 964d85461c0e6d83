-- What still names a thing keeps it from going.
-- DCL Dictionary, DELETE/FORM, DELETE/CHARACTERISTIC and DELETE/QUEUE, on things that are referenced.
-- This site's own: the refusal to delete a characteristic that is in use.
use Rattle.std.specs.Prelude.{Bool, List, find, Option, option_map}
use Rattle.qm_kinds.specs.declared.entry.Entry.{Entry}
use Rattle.qm_kinds.specs.declared.queue.Queue.{Queue}
use Rattle.qm_kinds.specs.declared.refusal.Refusal.{Refusal}
use Rattle.qm_kinds.specs.declared.refusal.Refusal.TheVariants.{Referenced}
use Rattle.qm_kinds.specs.declared.refusal.Holder.TheVariants as holder

-- the first queue by name that names it
abbrev pub refused_by_queue : (Queue → Bool) → List Queue → Option Refusal
refused_by_queue names queues = option_map (λ q. Referenced (holder.Queue q.name)) (find names queues)

-- the entry of the least number that names it
abbrev pub refused_by_entry : (Entry → Bool) → List Entry → Option Refusal
refused_by_entry names entries = option_map (λ e. Referenced (holder.Entry e.number)) (find names entries)
