-- What a queue is when settings were given.
use Rattle.std.specs.Prelude.{unwrap_or, Option}
use Rattle.std.specs.Option.{option_map_or, option_or}
use Rattle.qm_model.specs.Common.{Queue, QueueState}
use Rattle.qm_tables.specs.declared.queues.settings.Settings.{Settings}

-- what is given is set, and the rest stays
abbrev pub with_settings : Settings → Queue → Queue
with_settings given q = record q {
  limit = unwrap_or given.limit q.limit;
  characteristics = unwrap_or given.characteristics q.characteristics;
  mounted = option_or given.mounted q.mounted;
  lower = option_map_or (λ sizes. sizes.0) given.sizes q.lower;
  upper = option_map_or (λ sizes. sizes.1) given.sizes q.upper;
  by_size = unwrap_or given.by_size q.by_size;
  retain = unwrap_or given.retain q.retain;
}

-- the same, with this state where one is given
abbrev pub with_settings_and_state : Settings → Option QueueState → Queue → Queue
with_settings_and_state given state q = record (with_settings given q) { state = unwrap_or state q.state }

-- the queue in this state
abbrev pub with_state : QueueState → Queue → Queue
with_state state q = record q { state = state }
