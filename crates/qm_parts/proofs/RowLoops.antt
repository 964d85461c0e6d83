-- Rows that are changed one by one.
use Rattle.std.proofs.Common.{◌≡◌, ◌∙◌, ℕ, ◌+◌, ◌<◌, ◌≤◌, ◌&&◌, ◌==◌, Bool, true, false, cond, List, length, get_or, Option, Some, None, refl, sym, ap, subst, arith}
use Rattle.std.proofs.lemmas.List.{get_or_default}
use Rattle.qm_model.specs.Common.{Entry, Queue, entry_numbered}
use Rattle.qm_match.specs.Keys.{key_of}
use Rattle.qm_match.specs.declared.order.Key.{Key}
use Rattle.qm_ready.specs.Rows.{Row, has_key, key_numbered, without}
use Rattle.qm_parts.specs.Ready.{ready_key, without_number, IsRowOf, AreRowsOf, KeepsRoom}
use Rattle.qm_parts.specs.Rooms.{reach, rooms_of, HaveRoom}
use Rattle.qm_renewal.specs.Renewing.{room_of}
use Rattle.qm_parts.specs.Tables.{Tables}
use Rattle.qm_parts.proofs.Each.{AreDone}
use Rattle.qm_parts.proofs.KeptRows.{SameRoom, keeps_room}
use Rattle.qm_parts.proofs.RowKeys.{forgotten}
use Rattle.qm_parts.proofs.RowPlaces.{room_at}

-- the row of a queue has room for the jobs that may come there
pub room_here : (queues : List Queue) (es : List Entry) (place : ℕ) (q : Queue) (row : Row) (rows : List Row) → HaveRoom queues es (rooms_of rows)
    → place < length queues → length queues ≤ length rows → q ≡ get_or queues place q → row ≡ get_or rows place row → reach queues es q ≤ room_of row
room_here queues es place q row rows room within enough is read =
    omega (arith, room place q within, ap (reach queues es) is, room_at rows place row (omega (arith, within, enough)), ap room_of read)

-- the row of a queue has what is wanted now, and the room that it had
pub record IsMade (wanted : Queue → ℕ → Option Key) (queues : List Queue) (place : ℕ) (old new : Row) : Type 0 where
  pub row : (q : Queue) → IsRowOf (get_or queues place q) (wanted (get_or queues place q)) new
  pub room : SameRoom old new

module _ (wanted : Queue → ℕ → Option Key) (queues : List Queue) where
  -- the row of the queue at a place is made
  pub made : (place : ℕ) (q : Queue) (rows : List Row) (old new : Row) → place < length queues → {n : ℕ} → place < n → length rows ≡ n → q ≡ get_or queues place q → old ≡ get_or rows place old
      → IsRowOf q (wanted q) new → SameRoom old new → (d : Row) → IsMade wanted queues place (get_or rows place d) new
  made place q rows old new within inside count is read row room d = record {
    row = λ p. subst (λ (x : Queue). IsRowOf x (wanted x) new) (is ∙ get_or_default queues place q p within) row;
    room = subst (λ (r : Row). SameRoom r new) (read ∙ get_or_default rows place old d (omega (arith, inside, count))) room;
  }

  -- and so are those of all
  pub all_made : (place : ℕ) (old now : List Row) → AreDone (IsMade wanted queues) place old now → length queues ≤ place → length queues ≤ length old → AreRowsOf wanted queues now
  all_made place old now done past enough k q row within = (done.changed k row (omega (arith, within, past)) (omega (arith, within, enough))).row q

  pub room_kept : (place : ℕ) (old now : List Row) → AreDone (IsMade wanted queues) place old now → KeepsRoom old now
  room_kept place old now done = keeps_room (IsMade wanted queues) place old now done (λ k a b is. is.room)

  -- the row that is next to be changed has the room that it had
  pub room_next : (es : List Entry) (place : ℕ) (q : Queue) (row : Row) (old now : List Row) → AreDone (IsMade wanted queues) place old now → HaveRoom queues es (rooms_of old)
      → place < length queues → length queues ≤ length old → q ≡ get_or queues place q → row ≡ get_or now place row → reach queues es q ≤ room_of row
  room_next es place q row old now done room within enough is read =
      let inside : place < length old = omega (arith, within, enough) in
      omega (
        arith,
        room place q within,
        ap (reach queues es) is,
        room_at old place row inside,
        ap room_of (read ∙ done.left place row (omega arith) inside),
      )

-- the key of a job goes from the row of the queue at a place
module _ (t : Tables) (e : Entry) (there : entry_numbered e.number t.entries ≡ Some e) where
  abbrev but : Queue → ℕ → Option Key
  but q = without_number e.number (ready_key t q)

  module _ (place : ℕ) (before now : List Row) (done : AreDone (IsMade but t.queues) place before now) (are : AreRowsOf (ready_key t) t.queues before)
      (within : place < length t.queues) (enough : length t.queues ≤ length before) (old new : Row) (read : old ≡ get_or now place old)
      (key : Key) (is : key ≡ key_of e) (found : Bool) (has : found ≡ has_key key old.keys)
      (removed : new ≡ cond found (record { schedule = old.schedule; keys = without key.number old.keys; spare = old.spare + 1 }) old)
      (each : (m : ℕ) → key_numbered m new.keys ≡ cond (found && (key.number == m)) None (key_numbered m old.keys)) (room : SameRoom old new) where
    same_schedule : (b : Bool) → (cond b (record { schedule = old.schedule; keys = without key.number old.keys; spare = old.spare + 1 }) old).schedule ≡ old.schedule
    same_schedule true = refl
    same_schedule false = refl

    was : (q : Queue) → IsRowOf (get_or t.queues place q) (ready_key t (get_or t.queues place q)) old
    was q =
        subst (IsRowOf (get_or t.queues place q) (ready_key t (get_or t.queues place q))) (sym (read ∙ done.left place old (omega arith) (omega (arith, within, enough)))) (are place q old within)

    pub forgotten_at : (d : Row) → IsMade but t.queues place (get_or now place d) new
    forgotten_at d = record {
      row = λ q.
          forgotten t (get_or t.queues place q) e there old new found (was q) (has ∙ ap (λ (k : Key). has_key k old.keys) is) (ap (λ (r : Row). r.schedule) removed ∙ same_schedule found)
          (λ m. each m ∙ ap (λ (k : Key). cond (found && (k.number == m)) None (key_numbered m old.keys)) is);
      room = subst (λ (r : Row). SameRoom r new) (read ∙ get_or_default now place old d (omega (arith, within, enough, done.count))) room;
    }
