-- What bounds the number of the jobs that start behind a change, by kinds of changes.
use Rattle.std.proofs.Common.{◌≡◌, ◌⊎◌, ⊎_elim, ℕ, ◌≤◌, List, length, Option, refl, sym, ap, subst, arith}
use Rattle.qm_model.specs.Common.{Queue, QueueState, System, settled, stopped_when_idle}
use Rattle.qm_tables.specs.declared.queues.settings.Settings.{Settings}
use Rattle.qm_sched.specs.Starts.{start_places}
use Rattle.qm_image.specs.declared.prepared.Change.{Change}
use Rattle.qm_image.specs.declared.prepared.Change.TheVariants.{NewFile, MoreBytes, MoreLines, RemoveFile, NewForm, RemoveForm, NewCharacteristic, RemoveCharacteristic, NewEntry, PutQueue, SetQueue, StopQueue, CutShort, RemoveQueue, Merge, ReplaceEntry, RemoveEntry, Report, NodeUp, LoseNodes, TakeOver, Tick}
use Rattle.qm_rules.specs.Ending.{report_of}
use Rattle.qm_image.specs.Preparing.{found, outcome_of, starts_behind}
use Rattle.qm_state.proofs.Bounds.{idle_places, stop_places, without_places, reported_queues, fewer_found}

-- ---- the places of the queues that are started

places_after : (change : Change) → ((x : Queue) → change ≡ PutQueue x → ⊥) → ((x : List ℕ) (y : Settings) (z : Option QueueState) → change ≡ SetQueue x y z → ⊥)
    → (now : ℕ) (node : List ℕ) (s : System) → start_places (outcome_of change now node s).system.queues ≤ start_places s.queues
places_after (NewFile name bytes) not_put not_set now node s = omega arith
places_after (MoreBytes name bytes) not_put not_set now node s = omega arith
places_after (MoreLines name bytes) not_put not_set now node s = omega arith
places_after (RemoveFile name) not_put not_set now node s = omega arith
places_after (NewForm form) not_put not_set now node s = omega arith
places_after (RemoveForm name) not_put not_set now node s = omega arith
places_after (NewCharacteristic characteristic) not_put not_set now node s = omega arith
places_after (RemoveCharacteristic name) not_put not_set now node s = omega arith
places_after (NewEntry entry) not_put not_set now node s = omega arith
places_after (PutQueue queue) not_put not_set now node s = absurd (not_put queue refl)
places_after (SetQueue name settings state) not_put not_set now node s = absurd (not_set name settings state refl)
places_after (StopQueue name how) not_put not_set now node s = stop_places how name s.queues
places_after (CutShort entry fate) not_put not_set now node s = omega arith
places_after (RemoveQueue name) not_put not_set now node s = without_places name s.queues
places_after (Merge to from) not_put not_set now node s = omega arith
places_after (ReplaceEntry entry) not_put not_set now node s = omega arith
places_after (RemoveEntry entry) not_put not_set now node s = omega arith
places_after (Report run report) not_put not_set now node s = omega (arith, ap start_places (reported_queues s now node run (report_of report)))
places_after NodeUp not_put not_set now node s = omega arith
places_after (LoseNodes nodes) not_put not_set now node s = omega arith
places_after (TakeOver epoch gone up may) not_put not_set now node s = omega arith
places_after Tick not_put not_set now node s = omega arith

pub places_bound : (change : Change) → ((x : Queue) → change ≡ PutQueue x → ⊥) → ((x : List ℕ) (y : Settings) (z : Option QueueState) → change ≡ SetQueue x y z → ⊥)
    → ((s : System) → length (settled s).started ≤ start_places s.queues) → (now : ℕ) (node : List ℕ) (s : System) → starts_behind change now node s ≤ start_places s.queues
places_bound change not_put not_set law now node s =
    let t : System = (outcome_of change now node (found now s)).system in
    omega (arith, law (stopped_when_idle t), idle_places t.entries t.queues, places_after change not_put not_set now node (found now s))

-- ---- the entries

abbrev SetsQueue : Change → Type 0
SetsQueue change = ((x : Queue) × change ≡ PutQueue x) ⊎ ((x : List ℕ) × (y : Settings) × (z : Option QueueState) × change ≡ SetQueue x y z)

pub entries_bound : (change : Change) → SetsQueue change → ((s : System) → length (settled s).started ≤ length s.entries) → (now : ℕ) (node : List ℕ) (s : System) → starts_behind change now node s ≤ length s.entries
entries_bound change which law now node s =
    let t : System = (outcome_of change now node (found now s)).system in
    omega (arith, law (stopped_when_idle t), fewer_found now s, same)
  where
    same : length (outcome_of change now node (found now s)).system.entries ≡ length (found now s).entries
    same = ⊎_elim
        (λ put. subst (λ (c : Change). length (outcome_of c now node (found now s)).system.entries ≡ length (found now s).entries) (sym put.1) refl)
        (λ sets. subst (λ (c : Change). length (outcome_of c now node (found now s)).system.entries ≡ length (found now s).entries) (sym sets.3) refl)
        which
