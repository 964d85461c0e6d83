-- Where no call is told of a damaged file, no node ends so.
use Rattle.std.proofs.Common.{ℕ, inl, inr, Bool, List, Option, IsTrue}
use Rattle.qm_symb.specs.Device.{Meaning}
use Rattle.qm_history.specs.declared.world.World.{World}
use Rattle.qm_node.specs.Answered.{EndsAt, EndsBy}
use Rattle.qm_node.specs.Ends.{IsUndamaged}
use Rattle.qm_node.specs.Seats.{HeldSeat}
use Rattle.qm_node.specs.declared.course.Next.{Next}
use Rattle.qm_node.specs.declared.turn.TurnEnd.{TurnEnd}
use Rattle.qm_node.proofs.Ends.{printing_undamaged, sound_end}
use Rattle.qm_turn.specs.Turns.{Known}
use Rattle.qm_cluster.specs.declared.noted.Noted.{Noted}
use Rattle.qm_cluster.specs.Passing.{IsTurnMade}

module _ {Y : Type 0} (y : Meaning Y) (tells : Bool) (may_begin : World → Type 0) (most : ℕ) (node : ℕ) (stopped : TurnEnd) (next : Next) (seat : HeldSeat) (was now : Y) (told then : Option (List ℕ))
    (before after : Known Noted) (taken given : Option (List ℕ))
  where
    pub undamaged_at : EndsAt (IsTurnMade tells may_begin most) y node stopped next seat was now told then before after taken given → IsTrue tells → IsUndamaged stopped
    undamaged_at (inl e) sure = by_answer e.ends
      where
        by_answer : EndsBy seat.name stopped e.asked.asked.call e.asked.answer taken given → IsUndamaged stopped
        by_answer (inl (stop, same)) = sound_end e.asked.answer stopped stop (e.asked.asks_it.undamaged sure)
        by_answer (inr (goes, front, which)) = printing_undamaged stopped which
    undamaged_at (inr e) sure = printing_undamaged stopped (inr e.memory)
