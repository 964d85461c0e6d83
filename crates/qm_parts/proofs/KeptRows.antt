-- Rows that stay kept.
use Rattle.std.proofs.Common.{◌≡◌, ◌∙◌, ℕ, ◌+◌, ◌-◌, ◌<◌, ◌≤◌, true, false, not, cond, is_some, ⊎_elim, Bool, List, [], ◌∷◌, ◌++◌, length, get_or, set, Option, Some, None, refl, sym, ap, subst, arith, IfSome, is_lt, bytes_eq}
use Rattle.std.proofs.lemmas.Bool.{cases_lt}
use Rattle.std.specs.Cmp.Lexicographic.{texts_ties}
use Rattle.std.proofs.lemmas.Option.{same_Some}
use Rattle.qm_keyed.specs.Places.{StandsAt, BelongsAt}
use Rattle.qm_keyed.proofs.Rows.{passes, fails, find_at, find_none}
use Rattle.qm_tables.proofs.QueueNames.{name_of}
use Rattle.std.proofs.lemmas.List.{length-append, get_or_append_left, get_or_default, get_or-set_same, get_or-set_other, length-set}
use Rattle.qm_model.specs.Common.{Queue, name_cmp, queue_named, without_queue}
use Rattle.qm_match.specs.declared.order.Key.{Key}
use Rattle.qm_model.proofs.InsertLemmas.{fewer, longer, one_goes}
use Rattle.qm_tables.specs.Queues.{with_queue_put}
use Rattle.qm_ready.specs.Rows.{Row, key_numbered}
use Rattle.qm_parts.specs.Ready.{ready_key, IsRowOf, AreRowsOf, AreReady, KeepsRoom, KeepsKeys, AreKept}
use Rattle.qm_parts.specs.Rooms.{rooms_of, reach, HaveRoom, AreBounds}
use Rattle.qm_renewal.specs.Renewing.{room_of}
use Rattle.qm_parts.specs.Tables.{Tables}
use Rattle.qm_parts.proofs.Each.{AreDone}
use Rattle.qm_parts.proofs.Bounds.{at_most_more, bounds_behind}
use Rattle.qm_parts.proofs.Reach.{NoMore}
use Rattle.qm_parts.proofs.RowPlaces.{no_row, room_at, same_rooms, met_more}

-- ---- room

-- the room of a row stays
abbrev pub SameRoom : Row → Row → Type 0
SameRoom old new = room_of new ≡ room_of old

-- where each row that is changed keeps its room, all do
pub keeps_room : (R : ℕ → Row → Row → Type 0) (place : ℕ) (old now : List Row) → AreDone R place old now → ((k : ℕ) (a b : Row) → R k a b → SameRoom a b) → KeepsRoom old now
keeps_room R place old now done same =
    same_rooms old now done.count
    (λ k d within. ⊎_elim (λ (less : k < place). same k (get_or old k d) (get_or now k d) (done.changed k d less within)) (λ (past : place ≤ k). ap room_of (done.left k d past within)) (cases_lt k place))

-- ---- the same rows for the same keys

pub same_rows : (wanted also : Queue → ℕ → Option Key) (queues : List Queue) (rows : List Row) → ((q : Queue) (number : ℕ) → wanted q number ≡ also q number) → AreRowsOf wanted queues rows → AreRowsOf also queues rows
same_rows wanted also queues rows same are place q row within =
    let one = are place q row within in
    record { schedule = one.schedule; keys = λ number. one.keys number ∙ same (get_or queues place q) number }

-- ---- what stays kept

module _ (t : Tables) (rows : List Row) (most : List (Option ℕ)) (more : ℕ) (kept : AreKept t rows most more) where
  module _ (u : Tables) (no_more : NoMore t u) where
    -- there is a row for each of other queues, where these are no more
    pub enough_for : length u.queues ≤ length rows
    enough_for = omega (arith, kept.enough, no_more.queues)

    -- with room for the jobs that may come there, where these are no more
    pub room_for : HaveRoom u.queues u.entries (rooms_of rows)
    room_for place q within = omega (arith, kept.room place q (omega (arith, within, no_more.queues)), no_more.come place q within)

    bounds_for : AreBounds u.queues u.entries most
    bounds_for place q within =
        at_most_more (reach u.queues u.entries (get_or u.queues place q)) (reach t.queues t.entries (get_or t.queues place q)) (get_or most place None) (no_more.come place q within)
        (kept.bounds place q (omega (arith, within, no_more.queues)))

    -- the rows were built anew, or changed one by one
    pub kept_by : (now : List Row) → more ≤ u.spare_queues → length now ≡ length rows → KeepsRoom rows now → AreReady u now → AreKept u now most more
    kept_by now queues count room ready = record {
      queues = queues;
      enough = omega (arith, kept.enough, no_more.queues, count);
      bounded = kept.bounded ∙ sym count;
      room = subst (HaveRoom u.queues u.entries) (sym room) room_for;
      bounds = bounds_for;
      ready = ready;
    }

    -- the rows are those of other tables too
    pub kept_for : more ≤ u.spare_queues → AreReady u rows → AreKept u rows most more
    kept_for queues ready = kept_by rows queues refl refl ready

-- what is seen of tables that changed, where each row keeps its room and the change leaves rooms and places for queues alone
pub seen_as : (f : Tables → Tables) (u t old : Tables) (queues : ℕ) (rows now : List Row) → u ≡ f t → KeepsRoom rows now → record t { spare_queues = queues; rooms = rooms_of rows } ≡ old
    → ((v : Tables) (n : ℕ) (rooms : List ℕ) → record (f v) { spare_queues = n; rooms = rooms } ≡ f (record v { spare_queues = n; rooms = rooms })) → record u { spare_queues = queues; rooms = rooms_of now } ≡ f old
seen_as f u t old queues rows now is room view apart =
    ap (λ (v : Tables). record v { spare_queues = queues; rooms = rooms_of now }) is
    ∙ apart t queues (rooms_of now)
    ∙ ap (λ (rooms : List ℕ). f (record t { spare_queues = queues; rooms = rooms })) room
    ∙ ap f view

-- ---- more room

-- a row has the keys that it had, and no less room
pub record IsWider (place : ℕ) (old new : Row) : Type 0 where
  pub schedule : new.schedule ≡ old.schedule
  pub keys : new.keys ≡ old.keys
  pub more : old.spare ≤ new.spare

module _ (place : ℕ) (old now : List Row) (done : AreDone IsWider place old now) where
  wider_room : (k : ℕ) → k < length old → get_or (rooms_of old) k 0 ≤ get_or (rooms_of now) k 0
  wider_room k inside =
      omega (
        arith,
        room_at old k no_row inside,
        room_at now k no_row (omega (arith, inside, done.count)),
        ⊎_elim
            (λ (less : k < place). wider (get_or old k no_row) (get_or now k no_row) k (done.changed k no_row less inside))
            (λ (past : place ≤ k). let same = ap room_of (done.left k no_row past inside) in no_less (room_of (get_or old k no_row)) (room_of (get_or now k no_row)) same)
            (cases_lt k place),
      )
    where
      wider : (a b : Row) (i : ℕ) → IsWider i a b → room_of a ≤ room_of b
      wider a b i one = omega (arith, one.more, ap (λ (ks : List Key). length ks) one.keys)

      no_less : (m n : ℕ) → n ≡ m → m ≤ n
      no_less m n same = omega (arith, same)

  pub all_wider : KeepsKeys old now
  all_wider = record {
    count = done.count;
    schedules = λ k d inside. ⊎_elim (λ (less : k < place). (done.changed k d less inside).schedule) (λ (past : place ≤ k). ap (λ (r : Row). r.schedule) (done.left k d past inside)) (cases_lt k place);
    keys = λ k d inside. ⊎_elim (λ (less : k < place). (done.changed k d less inside).keys) (λ (past : place ≤ k). ap (λ (r : Row). r.keys) (done.left k d past inside)) (cases_lt k place);
    room = wider_room;
  }

-- so they are those of the same queues
pub same_keys : (wanted : Queue → ℕ → Option Key) (queues : List Queue) (old now : List Row) → length queues ≤ length old → KeepsKeys old now → AreRowsOf wanted queues old → AreRowsOf wanted queues now
same_keys wanted queues old now enough keeps are place q row within =
    let one = are place q row within in
    let inside : place < length old = omega (arith, within, enough) in
    record {
      schedule = keeps.schedules place row inside ∙ one.schedule;
      keys = λ number. ap (key_numbered number) (keeps.keys place row inside) ∙ one.keys number;
    }

-- and they stay kept
pub kept_wider : (t : Tables) (rows now : List Row) (most also : List (Option ℕ)) (more : ℕ) → AreKept t rows most more → KeepsKeys rows now → length also ≡ length most → AreBounds t.queues t.entries also
    → AreKept t now also more
kept_wider t rows now most also more kept keeps count bounds = record {
  queues = kept.queues;
  enough = omega (arith, kept.enough, keeps.count);
  bounded = count ∙ kept.bounded ∙ sym keeps.count;
  room = met_more (reach t.queues t.entries) t.queues (rooms_of rows) (rooms_of now) (λ k within. keeps.room k (omega (arith, within, kept.enough))) kept.room;
  bounds = bounds;
  ready = same_keys (ready_key t) t.queues rows now (omega (arith, kept.enough)) keeps kept.ready;
}

-- one row is wider
pub wider_set : (rows : List Row) (place : ℕ) (old new : Row) → place < length rows → old ≡ get_or rows place old → IsWider place old new → KeepsKeys rows (set rows place new)
wider_set rows place old new inside read wider = all_wider_at
  where
    at_it : (k : ℕ) (d : Row) → k < length rows → IsWider k (get_or rows k d) (get_or (set rows place new) k d)
    at_it k d within =
        ⊎_elim
        (λ (less : k < place). same k (get_or rows k d) (get_or (set rows place new) k d) (get_or-set_other rows place k new d (λ same. omega (arith, same, less))))
        (λ (past : place ≤ k). ⊎_elim
        (λ (more : place < k). same k (get_or rows k d) (get_or (set rows place new) k d) (get_or-set_other rows place k new d (λ same. omega (arith, same, more))))
        (λ (back : k ≤ place).
        let here : place ≡ k = omega (arith, past, back) in
        subst (λ (m : ℕ). IsWider m (get_or rows m d) (get_or (set rows place new) m d)) here
        (subst (IsWider place (get_or rows place d)) (sym (get_or-set_same rows place new d inside))
        (subst (λ (r : Row). IsWider place r new) (read ∙ get_or_default rows place old d inside) wider)))
        (cases_lt place k))
        (cases_lt k place)
      where
        same : (k : ℕ) (a b : Row) → b ≡ a → IsWider k a b
        same k a b is = record { schedule = ap (λ (r : Row). r.schedule) is; keys = ap (λ (r : Row). r.keys) is; more = omega (arith, ap (λ (r : Row). r.spare) is) }

    all_wider_at : KeepsKeys rows (set rows place new)
    all_wider_at = all_wider (length rows) rows (set rows place new) (record {
      count = length-set rows place new;
      changed = λ k d below within. at_it k d within;
      left = λ k d past within. absurd (omega (arith, past, within));
    })

-- one row more
pub rows_behind : (wanted : Queue → ℕ → Option Key) (queues : List Queue) (rows : List Row) (row : Row) → length queues ≤ length rows → AreRowsOf wanted queues rows → AreRowsOf wanted queues (rows ++ row ∷ [])
rows_behind wanted queues rows row enough are place q d within =
    subst (IsRowOf (get_or queues place q) (wanted (get_or queues place q))) (sym (get_or_append_left rows (row ∷ []) d place (omega (arith, within, enough)))) (are place q d within)

-- one row more, and one bound
pub kept_behind : (t : Tables) (rows : List Row) (most : List (Option ℕ)) (more : ℕ) (row : Row) → AreKept t rows most more → 0 < t.spare_queues → AreKept t (rows ++ row ∷ []) (most ++ None ∷ []) 1
kept_behind t rows most more row kept some =
    let enough : length t.queues ≤ length rows = omega (arith, kept.enough) in
    let count = length-append rows (row ∷ []) in
    record {
      queues = omega (arith, some);
      enough = omega (arith, enough, count);
      bounded = omega (arith, kept.bounded, count, length-append most (None ∷ []));
      room =
          met_more (reach t.queues t.entries) t.queues (rooms_of rows) (rooms_of (rows ++ row ∷ []))
          (λ k within.
          omega (
            arith,
            room_at rows k no_row (omega (arith, within, enough)),
            room_at (rows ++ row ∷ []) k no_row (omega (arith, within, enough, count)),
            ap room_of (get_or_append_left rows (row ∷ []) no_row k (omega (arith, within, enough))),
          ))
          kept.room;
      bounds = bounds_behind t.queues t.entries most (omega (arith, enough, kept.bounded)) kept.bounds;
      ready = rows_behind (ready_key t) t.queues rows row enough kept.ready;
    }

-- ---- a queue comes or goes

-- one of a name that is there leaves its place to the new one, and another one takes a place
pub room_put : (q : Queue) (qs : List Queue) (room : ℕ) → 0 < room → length (with_queue_put q qs) + cond (is_some (queue_named q.name qs)) room (room - 1) ≤ length qs + room
room_put q qs room some = step (is_some (queue_named q.name qs)) refl
  where
    size : length (with_queue_put q qs) ≡ length (without_queue q.name qs) + 1
    size = longer (λ (a b : Queue). is_lt (name_cmp a.name b.name)) q (without_queue q.name qs)

    step : (b : Bool) → is_some (queue_named q.name qs) ≡ b → length (with_queue_put q qs) + cond b room (room - 1) ≤ length qs + room
    step true there = omega (arith, size, one_goes (λ (p : Queue). bytes_eq p.name q.name) qs there)
    step false there = omega (arith, size, some, fewer (λ (p : Queue). not (bytes_eq p.name q.name)) qs)

pub room_left : (name : List ℕ) (qs : List Queue) (room : ℕ) → length (without_queue name qs) + cond (is_some (queue_named name qs)) (room + 1) room ≤ length qs + room
room_left name qs room = step (is_some (queue_named name qs)) refl
  where
    step : (b : Bool) → is_some (queue_named name qs) ≡ b → length (without_queue name qs) + cond b (room + 1) room ≤ length qs + room
    step true there = omega (arith, one_goes (λ (p : Queue). bytes_eq p.name name) qs there)
    step false there = omega (arith, fewer (λ (p : Queue). not (bytes_eq p.name name)) qs)

-- ---- the row of a name

module _ (qs : List Queue) (name : List ℕ) (place : ℕ) where
  pub named_at : StandsAt name_cmp name_of name qs place → (d : Queue) → queue_named name qs ≡ Some (get_or qs place d)
  named_at stands d = find_at (λ (q : Queue). bytes_eq q.name name) qs place d (passes name_of name (λ (q : Queue). bytes_eq q.name name) (λ q. texts_ties q.name name) qs place stands)

  pub none_named : BelongsAt name_cmp name_of name qs place → queue_named name qs ≡ None
  none_named belongs = find_none (λ (q : Queue). bytes_eq q.name name) qs (fails name_of name (λ (q : Queue). bytes_eq q.name name) (λ q. texts_ties q.name name) qs place belongs)

  pub is_named : StandsAt name_cmp name_of name qs place → true ≡ is_some (queue_named name qs)
  is_named stands = step qs stands
    where
      step : (ps : List Queue) → StandsAt name_cmp name_of name ps place → true ≡ is_some (queue_named name ps)
      step [] at = absurd (omega (arith, at.within))
      step (p ∷ ps) at = sym (ap is_some (find_at (λ (q : Queue). bytes_eq q.name name) (p ∷ ps) place p (passes name_of name (λ (q : Queue). bytes_eq q.name name) (λ q. texts_ties q.name name) (p ∷ ps) place at)))

  -- the queue at the place has the row at the place
  pub row_of_named : (wanted : Queue → ℕ → Option Key) (rows : List Row) (row : Row) → StandsAt name_cmp name_of name qs place → AreRowsOf wanted qs rows → row ≡ get_or rows place row
      → IfSome (queue_named name qs) (λ q. IsRowOf q (wanted q) row)
  row_of_named wanted rows row stands are read = at_it (queue_named name qs) refl
    where
      at_it : (o : Option Queue) → queue_named name qs ≡ o → IfSome o (λ q. IsRowOf q (wanted q) row)
      at_it None is = tt
      at_it (Some q) is =
          let same : get_or qs place q ≡ q = same_Some (get_or qs place q) q (sym (find_at (λ (p : Queue). bytes_eq p.name name) qs place q (passes name_of name (λ (p : Queue). bytes_eq p.name name) (λ p. texts_ties p.name name) qs place stands)) ∙ is) in
          subst (λ (x : Queue). IsRowOf x (wanted x) row) same
          (subst (IsRowOf (get_or qs place q) (wanted (get_or qs place q))) (sym read) (are place q row stands.within))
