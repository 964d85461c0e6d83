-- Under which numbers keys are ready, once the states of queues changed.
use Rattle.std.proofs.Common.{◌≡◌, ◌∙◌, ℕ, ◌<◌, Bool, true, false, cond, ◌&&◌, ◌||◌, List, [], ◌∷◌, length, get_or, map, Option, None, Some, refl, sym, ap, subst, arith, bytes_eq}
use Rattle.std.specs.List.{list_any}
use Rattle.std.specs.Option.{option_map, option_map_or, option_and_then}
use Rattle.std.proofs.lemmas.List.{length-map, get_or-map}
use Rattle.qm_model.specs.Common.{Entry, Queue, QueueState, Stopped, Started, Paused, Stopping, entry_numbered, queue_named, is_started, is_of_kind, is_open, is_up, is_reached, passes_on_to, has_characteristics, has_stock, has_size, no_system, is_pending, is_generic, occupies, when_idle, state_when_idle}
use Rattle.qm_match.specs.Keys.{key_of}
use Rattle.qm_ready.specs.Rows.{Row}
use Rattle.qm_parts.specs.Ready.{key_where_ready, ready_key, IsRowOf, AreReady}
use Rattle.qm_parts.specs.Tables.{Tables, with_tables}

-- ---- which queue a name has

module _ (g : Queue → Queue) (names : (q : Queue) → (g q).name ≡ q.name) (name : List ℕ) where
  named_at : (q : Queue) (qs : List Queue) (b : Bool) → bytes_eq q.name name ≡ b → queue_named name (map g qs) ≡ option_map g (queue_named name qs)
      → queue_named name (g q ∷ map g qs) ≡ option_map g (cond b (Some q) (queue_named name qs))
  named_at q qs true is later = ap (λ (n : List ℕ). cond (bytes_eq n name) (Some (g q)) (queue_named name (map g qs))) (names q) ∙ ap (λ (b : Bool). cond b (Some (g q)) (queue_named name (map g qs))) is
  named_at q qs false is later =
      ap (λ (n : List ℕ). cond (bytes_eq n name) (Some (g q)) (queue_named name (map g qs))) (names q) ∙ ap (λ (b : Bool). cond b (Some (g q)) (queue_named name (map g qs))) is ∙ later

  pub named_mapped : (qs : List Queue) → queue_named name (map g qs) ≡ option_map g (queue_named name qs)
  named_mapped [] = refl
  named_mapped (q ∷ qs) = named_at q qs (bytes_eq q.name name) refl (named_mapped qs)

-- ---- which jobs fit

-- where the homes pass on as they did, the same jobs fit
module _ (t : Tables) (q : Queue) (g : Queue → Queue) (names : (q : Queue) → (g q).name ≡ q.name)
    (passes : (home : List ℕ) (p : Queue) → queue_named home t.queues ≡ Some p → passes_on_to q.name (g p) ≡ passes_on_to q.name p) where
  passes_at : (home : List ℕ) (o : Option Queue) → queue_named home t.queues ≡ o → option_map_or (passes_on_to q.name) (option_map g o) false ≡ option_map_or (passes_on_to q.name) o false
  passes_at home None is = refl
  passes_at home (Some p) is = passes home p is

  pub fits_still : (e : Entry) → key_where_ready (record t { queues = map g t.queues }) q e ≡ key_where_ready t q e
  fits_still e =
      ap (λ (b : Bool). cond (is_pending e.state && is_of_kind e q && is_open (with_tables no_system t) q && (bytes_eq e.home q.name || b) && has_characteristics e q && has_stock (with_tables no_system t) e q && has_size e q) (Some (key_of e)) None)
      (ap (λ (o : Option Queue). option_map_or (passes_on_to q.name) o false) (named_mapped g names e.home t.queues) ∙ passes_at e.home (queue_named e.home t.queues) refl)

-- what its state says of a queue is whether it is started
pub by_state : (t : Tables) (q : Queue) (state : QueueState) (e : Entry) → is_started state ≡ is_started q.state → key_where_ready t (record q { state = state }) e ≡ key_where_ready t q e
by_state t q state e same =
    ap (λ (b : Bool). cond (is_pending e.state && is_of_kind e q && (b && is_up t.nodes q.node) && is_reached (with_tables no_system t) e q && has_characteristics e q && has_stock (with_tables no_system t) e q && has_size e q) (Some (key_of e)) None) same

-- ---- queues that are stopping are stopped

idle_started : (b : Bool) (state : QueueState) → is_started (state_when_idle b state) ≡ is_started state
idle_started b Stopped = refl
idle_started b Started = refl
idle_started b Paused = refl
idle_started true Stopping = refl
idle_started false Stopping = refl

pub idle_keys : (t : Tables) (q : Queue) (number : ℕ) → ready_key (record t { queues = map (when_idle t.entries) t.queues }) (when_idle t.entries q) number ≡ ready_key t q number
idle_keys t q number = at_it (entry_numbered number t.entries)
  where
    passes : (name : List ℕ) (p : Queue) → passes_on_to name (when_idle t.entries p) ≡ passes_on_to name p
    passes name p = ap (λ (b : Bool). is_generic p.kind && b && list_any (λ target. bytes_eq target name) p.targets) (idle_started (list_any (occupies p.name) t.entries) p.state)

    at_it : (o : Option Entry) → option_and_then (key_where_ready (record t { queues = map (when_idle t.entries) t.queues }) (when_idle t.entries q)) o ≡ option_and_then (key_where_ready t q) o
    at_it None = refl
    at_it (Some e) =
        fits_still t (when_idle t.entries q) (when_idle t.entries) (λ p. refl) (λ home p is. passes q.name p) e
        ∙ by_state t q (state_when_idle (list_any (occupies q.name) t.entries) q.state) e (idle_started (list_any (occupies q.name) t.entries) q.state)

pub idle_rows : (t : Tables) (rows : List Row) → AreReady t rows → AreReady (record t { queues = map (when_idle t.entries) t.queues }) rows
idle_rows t rows ready place q row within =
    let inside : place < length t.queues = omega (arith, within, length-map t.queues (when_idle t.entries)) in
    let old = ready place q row inside in
    let p = get_or t.queues place q in
    subst (λ (x : Queue). IsRowOf x (ready_key (record t { queues = map (when_idle t.entries) t.queues }) x) (get_or rows place row))
    (sym (get_or-map (when_idle t.entries) t.queues place q q inside))
    (record { schedule = old.schedule; keys = λ number. old.keys number ∙ sym (idle_keys t p number) })
