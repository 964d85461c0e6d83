-- The room of the rows once a queue came or went.
use Rattle.std.proofs.Common.{◌≡◌, ℕ, ◌+◌, ◌≤◌, Bool, true, false, cond, List, length, get_or, count_by, None, refl, ap, arith}
use Rattle.qm_model.specs.Common.{Entry, Queue, queue_named, without_queue}
use Rattle.qm_tables.specs.Queues.{with_queue_put}
use Rattle.qm_ready.specs.Rows.{Row}
use Rattle.qm_parts.specs.Rooms.{AreMet, CanPut, HaveRoom, is_home, is_one_of, reach, rooms_of}
use Rattle.qm_parts.specs.Tables.{Tables}
use Rattle.qm_parts.proofs.Reach.{one_by_name, reach_by_name, reach_gone, reach_put}
use Rattle.qm_parts.proofs.RowPlaces.{met_less}

module _ (t : Tables) (more_queues : ℕ) (rows now : List Row) (new : Queue) (room : HaveRoom t.queues t.entries (rooms_of rows))
    (can : CanPut new (record t { spare_queues = more_queues; rooms = rooms_of rows }))
    (met : (q : Queue) (needs : Queue → ℕ) → q.name ≡ new.name → ((p : Queue) → p.name ≡ q.name → needs q ≤ needs p)
    → (queue_named new.name t.queues ≡ None → needs q ≤ get_or (rooms_of rows) (length t.queues) 0)
    → AreMet needs t.queues (rooms_of rows) → AreMet needs (with_queue_put q t.queues) (rooms_of now)) where
  abbrev here : ℕ
  here = count_by (is_home new.name) t.entries

  -- what the row of a queue needs then
  abbrev needs : Queue → ℕ
  needs p = reach t.queues t.entries p + cond (is_one_of new.name new.targets p) here 0

  if_le : (b : Bool) → cond b here 0 ≤ here
  if_le true = omega arith
  if_le false = omega arith

  by_name : (p : Queue) → p.name ≡ new.name → needs new ≤ needs p
  by_name p same =
      omega (arith, reach_by_name t.queues t.entries p new same, ap (λ (b : Bool). cond b here 0) (one_by_name new.name new.targets p new same))

  each : AreMet needs t.queues (rooms_of rows)
  each place q within = at_it (is_one_of new.name new.targets (get_or t.queues place q)) refl
    where
      at_it : (b : Bool) → is_one_of new.name new.targets (get_or t.queues place q) ≡ b → needs (get_or t.queues place q) ≤ get_or (rooms_of rows) place 0
      at_it true is = omega (arith, ap (λ (b : Bool). cond b here 0) is, can.places place q within is)
      at_it false is = omega (arith, ap (λ (b : Bool). cond b here 0) is, room place q within)

  pub room_with_queue : HaveRoom (with_queue_put new t.queues) t.entries (rooms_of now)
  room_with_queue =
      met_less needs (reach (with_queue_put new t.queues) t.entries) (reach_put new t.queues t.entries) (with_queue_put new t.queues) (rooms_of now)
      (met new needs refl by_name (λ absent. omega (arith, can.row absent, if_le (is_one_of new.name new.targets new))) each)

pub room_without_queue : (queues : List Queue) (entries : List Entry) (rows now : List Row) (name : List ℕ) → HaveRoom queues entries (rooms_of rows)
    → ((needs : Queue → ℕ) → AreMet needs queues (rooms_of rows) → AreMet needs (without_queue name queues) (rooms_of now)) → HaveRoom (without_queue name queues) entries (rooms_of now)
room_without_queue queues entries rows now name room met =
    met_less (reach queues entries) (reach (without_queue name queues) entries) (reach_gone name queues entries) (without_queue name queues) (rooms_of now) (met (reach queues entries) room)
