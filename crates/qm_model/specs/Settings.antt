-- The settings of a queue, and which can be given to which kind of queue.
-- DCL Dictionary, INITIALIZE/QUEUE, SET QUEUE and START/QUEUE, on their qualifiers.
use Rattle.std.specs.Prelude.{ℕ, ◌==◌, nat_lt, Bool, false, not, ◌&&◌, ◌||◌, is_some, [], ◌∷◌, unwrap_or, Option}
use Rattle.std.specs.Option.{option_map_or, option_and_then, option_or}
use Rattle.qm_kinds.specs.declared.queue.Queue.{Queue}
use Rattle.qm_kinds.specs.declared.queue.QueueChange.{QueueChange}
use Rattle.qm_kinds.specs.declared.queue.QueueKind.{QueueKind}
use Rattle.qm_kinds.specs.declared.refusal.Refusal.{Refusal}
use Rattle.qm_kinds.specs.declared.refusal.Refusal.TheVariants.{WrongKind}
use Rattle.qm_kinds.specs.declared.system.System.{System}
use Rattle.qm_model.specs.Kinds.{is_generic, is_batch_queue, is_print_queue}
use Rattle.qm_model.specs.Outcome.{refused_where, first_refusal}
use Rattle.qm_model.specs.Wanted.{refused_form, refused_characteristics, characteristics_of, form_named}

-- the least size is 0 or above the greatest
abbrev pub are_bad_sizes : ℕ × ℕ → Bool
are_bad_sizes sizes = sizes.0 == 0 || nat_lt sizes.1 sizes.0

-- no job may run, or the sizes are bad
abbrev pub is_bad_change : QueueChange → Bool
is_bad_change change = option_map_or (λ limit. limit == 0) change.limit false || option_map_or are_bad_sizes change.blocks false

-- Only a batch queue has a job limit, only a print queue has a form, sizes and an order by size, and no generic queue has characteristics.
abbrev pub is_change_of_other_kind : QueueKind → QueueChange → Bool
is_change_of_other_kind kind change =
    (is_some change.limit && not (is_batch_queue kind))
    || ((is_some change.form || is_some change.blocks || is_some change.by_size) && not (is_print_queue kind))
    || (is_some change.characteristics && is_generic kind)

-- why a queue of this kind can't be given these settings, but for bad values
abbrev pub change_refusal : System → QueueKind → QueueChange → Option Refusal
change_refusal s kind change = first_refusal
    (refused_where (is_change_of_other_kind kind change) WrongKind
    ∷ option_and_then (refused_form s) change.form
    ∷ option_and_then (refused_characteristics s.characteristics) change.characteristics
    ∷ [])

-- what is given is set, and the rest stays
abbrev pub with_change : System → QueueChange → Queue → Queue
with_change s change q = record q {
  limit = unwrap_or change.limit q.limit;
  characteristics = option_map_or (characteristics_of s) change.characteristics q.characteristics;
  mounted = option_or (option_and_then (form_named s.forms) change.form) q.mounted;
  lower = option_map_or (λ sizes. sizes.0) change.blocks q.lower;
  upper = option_map_or (λ sizes. sizes.1) change.blocks q.upper;
  by_size = unwrap_or change.by_size q.by_size;
  retain = unwrap_or change.retain q.retain;
}
