-- The rooms of rows, where rows come, go and change their places with their queues.
use Rattle.std.proofs.Common.{◌≡◌, ◌∙◌, ℕ, zero, suc, ◌+◌, ◌<◌, ◌≤◌, ⊎_elim, List, [], ◌∷◌, ◌++◌, length, get_or, set, insert, remove, refl, sym, ap, subst, arith, is_eq, is_lt, Equal, bytes_eq}
use Rattle.std.specs.Cmp.Lexicographic.{texts_ties, on_texts}
use Rattle.std.proofs.lemmas.Bool.{cases_lt}
use Rattle.std.proofs.lemmas.List.{get_or-map, length-map, length-append, map-append, get_or_append_left, get_or-set_same, get_or-set_other, length-set, same_lists}
use Rattle.std.proofs.lemmas.Slice.Eq.{bytes_eq-Decides}
use Rattle.std.proofs.lemmas.List.Edits.{length-insert, get_or-insert_below, get_or-insert_at, get_or-insert_above, length-remove, get_or-remove_below, get_or-remove_above}
use Rattle.qm_keyed.specs.Places.{StandsAt, BelongsAt}
use Rattle.qm_keyed.proofs.Keys.{Keys, put_is, replaced_is, removed, kept}
use Rattle.qm_model.specs.Common.{Queue, name_cmp, without_queue}
use Rattle.qm_match.specs.declared.order.Schedule.TheVariants.{ByNumber}
use Rattle.qm_tables.proofs.QueueNames.{name_of}
use Rattle.qm_tables.specs.Queues.{with_queue_put}
use Rattle.qm_ready.specs.Rows.{Row}
use Rattle.qm_parts.specs.Rooms.{rooms_of, AreMet}
use Rattle.qm_renewal.specs.Renewing.{room_of}

-- names of which none is greater are the same
texts_same : (a b : List ℕ) → name_cmp a b ≡ Equal → a ≡ b
texts_same a b same = (bytes_eq-Decides a b).0 (texts_ties a b ∙ ap is_eq same)

abbrev pub no_row : Row
no_row = record { schedule = ByNumber; keys = []; spare = 0 }

-- what stands behind others
get_or_behind : (rows : List Row) (row d : Row) (i : ℕ) → length rows ≡ i → get_or (rows ++ row ∷ []) i d ≡ row
get_or_behind [] row d zero count = refl
get_or_behind [] row d (suc i) count = absurd (omega (arith, count))
get_or_behind (x ∷ xs) row d zero count = absurd (omega (arith, count))
get_or_behind (x ∷ xs) row d (suc i) count = get_or_behind xs row d i (omega (arith, count))

-- ---- the room of the row at a place

pub room_at : (rows : List Row) (place : ℕ) (row : Row) → place < length rows → get_or (rooms_of rows) place 0 ≡ room_of (get_or rows place row)
room_at rows place row within = get_or-map room_of rows place row 0 within

-- one row more behind the others
pub row_more : (needs : Queue → ℕ) (qs : List Queue) (rows : List Row) (row : Row) (i : ℕ) → length rows ≡ i → ((k : ℕ) (q : Queue) → k < i → needs (get_or qs k q) ≤ get_or (rooms_of rows) k 0)
    → ((q : Queue) → needs (get_or qs i q) ≤ room_of row) → (k : ℕ) (q : Queue) → k < i + 1 → needs (get_or qs k q) ≤ get_or (rooms_of (rows ++ row ∷ [])) k 0
row_more needs qs rows row i count room here k q below =
    let inside : k < length (rows ++ row ∷ []) = omega (arith, below, count, length-append rows (row ∷ [])) in
    ⊎_elim
    (λ (less : k < i).
    omega (
      arith,
      room k q less,
      room_at rows k no_row (omega (arith, less, count)),
      room_at (rows ++ row ∷ []) k no_row inside,
      ap room_of (get_or_append_left rows (row ∷ []) no_row k (omega (arith, less, count))),
    ))
    (λ (past : i ≤ k).
    let same : i ≡ k = omega (arith, below, past) in
    subst (λ (m : ℕ). needs (get_or qs m q) ≤ get_or (rooms_of (rows ++ row ∷ [])) m 0) same
    (omega (
      arith,
      here q,
      room_at (rows ++ row ∷ []) i no_row (omega (arith, count, length-append rows (row ∷ []))),
      ap room_of (get_or_behind rows row no_row i count),
    )))
    (cases_lt k i)

-- rows with the same room each
pub same_rooms : (old new : List Row) → length new ≡ length old → ((k : ℕ) (d : Row) → k < length old → room_of (get_or new k d) ≡ room_of (get_or old k d)) → rooms_of new ≡ rooms_of old
same_rooms old new count same =
    same_lists (rooms_of new) (rooms_of old) (omega (arith, count, length-map new room_of, length-map old room_of))
    (λ k d within.
    let inside : k < length new = omega (arith, within, length-map new room_of) in
    let there : k < length old = omega (arith, inside, count) in
    get_or-map room_of new k no_row d inside ∙ same k no_row there ∙ sym (get_or-map room_of old k no_row d there))

-- ---- places of queues

abbrev keys : Keys Queue (List ℕ)
keys = record {
  cmp = name_cmp;
  key = name_of;
  has = λ name q. bytes_eq q.name name;
  follows = λ name q. is_lt (name_cmp name q.name);
  total = on_texts (λ (name : List ℕ). name);
  has_tests = λ name q. texts_ties q.name name;
  follows_tests = λ name q. refl;
}

module _ (needs : Queue → ℕ) where
  -- more room is enough too
  pub met_more : (qs : List Queue) (old new : List ℕ) → ((k : ℕ) → k < length qs → get_or old k 0 ≤ get_or new k 0) → AreMet needs qs old → AreMet needs qs new
  met_more qs old new more met place q within = omega (arith, met place q within, more place within)

  pub met_less : (also : Queue → ℕ) → ((q : Queue) → also q ≤ needs q) → (qs : List Queue) (rooms : List ℕ) → AreMet needs qs rooms → AreMet also qs rooms
  met_less also less qs rooms met place q within = omega (arith, met place q within, less (get_or qs place q))

  -- a queue in the place of another one
  met_set : (qs : List Queue) (rooms : List ℕ) (place : ℕ) (new : Queue) → place < length qs → needs new ≤ get_or rooms place 0 → AreMet needs qs rooms → AreMet needs (set qs place new) rooms
  met_set qs rooms place new inside fits met k q within =
      let there : k < length qs = omega (arith, within, length-set qs place new) in
      ⊎_elim
      (λ (less : k < place). omega (arith, met k q there, ap needs (get_or-set_other qs place k new q (λ same. omega (arith, same, less)))))
      (λ (past : place ≤ k). ⊎_elim
      (λ (more : place < k). omega (arith, met k q there, ap needs (get_or-set_other qs place k new q (λ same. omega (arith, same, more)))))
      (λ (back : k ≤ place).
      let here : place ≡ k = omega (arith, past, back) in
      subst (λ (m : ℕ). needs (get_or (set qs place new) m q) ≤ get_or rooms m 0) here (omega (arith, fits, ap needs (get_or-set_same qs place new q inside))))
      (cases_lt place k))
      (cases_lt k place)

  -- one that comes, with its room
  met_insert : (qs : List Queue) (rooms : List ℕ) (place : ℕ) (new : Queue) (room : ℕ) → place ≤ length qs → length qs ≤ length rooms → needs new ≤ room → AreMet needs qs rooms
      → AreMet needs (insert qs place new) (insert rooms place room)
  met_insert qs rooms place new room inside enough fits met k q within =
      ⊎_elim
      (λ (less : k < place).
      omega (arith, met k q (omega (arith, less, inside)), ap needs (get_or-insert_below qs place new q k less inside), get_or-insert_below rooms place room 0 k less (omega (arith, inside, enough))))
      (λ (past : place ≤ k). ⊎_elim
      (λ (more : place < k). behind k more within)
      (λ (back : k ≤ place).
      let here : place ≡ k = omega (arith, past, back) in
      subst (λ (m : ℕ). needs (get_or (insert qs place new) m q) ≤ get_or (insert rooms place room) m 0) here
      (omega (arith, fits, ap needs (get_or-insert_at qs place new q inside), get_or-insert_at rooms place room 0 (omega (arith, inside, enough)))))
      (cases_lt place k))
      (cases_lt k place)
    where
      behind : (k : ℕ) → place < k → k < length (insert qs place new) → needs (get_or (insert qs place new) k q) ≤ get_or (insert rooms place room) k 0
      behind zero more within = absurd (omega (arith, more))
      behind (suc j) more within =
          let there : j < length qs = omega (arith, within, length-insert qs place new inside) in
          let is : j + 1 ≡ suc j = omega arith in
          subst (λ (m : ℕ). needs (get_or (insert qs place new) m q) ≤ get_or (insert rooms place room) m 0) is
          (omega (arith, met j q there, ap needs (get_or-insert_above qs place new q j (omega (arith, more)) inside), get_or-insert_above rooms place room 0 j (omega (arith, more)) (omega (arith, inside, enough))))

  -- and one that goes
  met_remove : (qs : List Queue) (rooms : List ℕ) (place : ℕ) → place < length qs → length qs ≤ length rooms → AreMet needs qs rooms → AreMet needs (remove qs place) (remove rooms place)
  met_remove qs rooms place inside enough met k q within =
      let left = length-remove qs place inside in
      ⊎_elim
      (λ (less : k < place).
      omega (arith, met k q (omega (arith, less, inside)), ap needs (get_or-remove_below qs place q k less inside), get_or-remove_below rooms place 0 k less (omega (arith, inside, enough))))
      (λ (past : place ≤ k).
      omega (arith, met (k + 1) q (omega (arith, within, left)), ap needs (get_or-remove_above qs place q k past inside), get_or-remove_above rooms place 0 k past (omega (arith, inside, enough))))
      (cases_lt k place)

-- ---- the rooms of rows that move

rooms_inserted : (place : ℕ) (row : Row) (xs : List Row) → place ≤ length xs → rooms_of (insert xs place row) ≡ insert (rooms_of xs) place (room_of row)
rooms_inserted zero row [] inside = refl
rooms_inserted zero row (x ∷ xs) inside = refl
rooms_inserted (suc k) row [] inside = absurd (omega (arith, inside))
rooms_inserted (suc k) row (x ∷ xs) inside = ap (λ (ns : List ℕ). room_of x ∷ ns) (rooms_inserted k row xs (omega (arith, inside)))

rooms_removed : (place : ℕ) (xs : List Row) → place < length xs → rooms_of (remove xs place) ≡ remove (rooms_of xs) place
rooms_removed k [] inside = absurd (omega (arith, inside))
rooms_removed zero (x ∷ xs) inside = refl
rooms_removed (suc k) (x ∷ xs) inside = ap (λ (ns : List ℕ). room_of x ∷ ns) (rooms_removed k xs (omega (arith, inside)))

module _ (needs : Queue → ℕ) (qs : List Queue) (rows : List Row) (met : AreMet needs qs (rooms_of rows)) where
  -- a queue comes, with the first row that had none
  pub met_in : (q : Queue) (place : ℕ) (moved : List Row) → BelongsAt name_cmp name_of q.name qs place → length qs < length rows → needs q ≤ get_or (rooms_of rows) (length qs) 0
      → ((row : Row) → moved ≡ insert (remove rows (length qs)) place (get_or rows (length qs) row)) → AreMet needs (with_queue_put q qs) (rooms_of moved)
  met_in q place moved belongs more fits is =
      let n = length qs in
      let left : List ℕ = remove (rooms_of rows) n in
      let rooms : length (rooms_of rows) ≡ length rows = length-map rows room_of in
      let some : n < length (rooms_of rows) = omega (arith, more, rooms) in
      let fewer : AreMet needs qs left = met_more needs qs (rooms_of rows) left (λ k within. omega (arith, get_or-remove_below (rooms_of rows) n 0 k within some)) met in
      let count = length-remove (rooms_of rows) n some in
      let row = get_or rows n no_row in
      let rows_left = length-remove rows n more in
      let now : rooms_of moved ≡ insert left place (room_of row) =
      ap rooms_of (is no_row) ∙ rooms_inserted place row (remove rows n) (omega (arith, belongs.within, rows_left))
      ∙ ap (λ (ns : List ℕ). insert ns place (room_of row)) (rooms_removed n rows more) in
      subst (AreMet needs (with_queue_put q qs)) (sym now)
      (subst (λ (ps : List Queue). AreMet needs ps (insert left place (room_of row))) (put_is keys q qs place belongs)
      (met_insert needs qs left place q (room_of row) belongs.within (omega (arith, count, some)) (omega (arith, fits, room_at rows n no_row more)) fewer))

  -- a queue comes in the place of another one of its name
  pub met_over : (q : Queue) (place : ℕ) → StandsAt name_cmp name_of q.name qs place → ((p : Queue) → p.name ≡ q.name → needs q ≤ needs p) → AreMet needs (with_queue_put q qs) (rooms_of rows)
  met_over q place stands by_name =
      subst (λ (ps : List Queue). AreMet needs ps (rooms_of rows)) (replaced_is keys q qs place stands)
      (met_set needs qs (rooms_of rows) place q stands.within
      (omega (arith, met place q stands.within, by_name (get_or qs place q) ((texts_same (get_or qs place q).name q.name (stands.here q)))))
      met)

  -- a queue goes, and its row stands behind the others
  pub met_out : (name : List ℕ) (place : ℕ) (moved : List Row) → StandsAt name_cmp name_of name qs place → length qs ≤ length rows
      → ((row : Row) → moved ≡ remove rows place ++ get_or rows place row ∷ []) → AreMet needs (without_queue name qs) (rooms_of moved)
  met_out name place moved stands enough is =
      let rooms : length (rooms_of rows) ≡ length rows = length-map rows room_of in
      let inside : place < length rows = omega (arith, stands.within, enough) in
      let row = get_or rows place no_row in
      let left = remove (rooms_of rows) place in
      let removed_rooms : rooms_of (remove rows place) ≡ left = rooms_removed place rows inside in
      let gone = length-remove qs place stands.within in
      let count = length-remove (rooms_of rows) place (omega (arith, inside, rooms)) in
      let now : rooms_of moved ≡ left ++ room_of row ∷ [] = ap rooms_of (is no_row) ∙ map-append room_of (remove rows place) (row ∷ []) ∙ ap (λ (ns : List ℕ). ns ++ room_of row ∷ []) removed_rooms in
      subst (AreMet needs (without_queue name qs)) (sym now)
      (subst (λ (ps : List Queue). AreMet needs ps (left ++ room_of row ∷ [])) (removed keys name qs place stands)
      (met_more needs (remove qs place) left (left ++ room_of row ∷ [])
      (λ k within. omega (arith, get_or_append_left left (room_of row ∷ []) 0 k (omega (arith, within, gone, count, rooms, enough))))
      (met_remove needs qs (rooms_of rows) place stands.within (omega (arith, rooms, enough)) met)))

  -- and where no queue has the name, none goes
  pub met_none : (name : List ℕ) (place : ℕ) → BelongsAt name_cmp name_of name qs place → AreMet needs (without_queue name qs) (rooms_of rows)
  met_none name place belongs = subst (λ (ps : List Queue). AreMet needs ps (rooms_of rows)) (kept keys name qs place belongs) met
