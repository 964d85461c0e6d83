-- What is asked by way of something is asked of that.
use Rattle.std.proofs.Common.{ℕ, inl, inr, ap, sym, subst, List, Option}
use Rattle.qm_symb.specs.Device.{Meaning}
use Rattle.qm_history.specs.declared.call.Answer.{Answer}
use Rattle.qm_history.specs.declared.call.Call.{Call}
use Rattle.qm_node.specs.Answered.{EndsAt, IsAskedFor, MakesTurn}
use Rattle.qm_node.specs.Seats.{HeldSeat}
use Rattle.qm_node.specs.declared.course.Next.{Next}
use Rattle.qm_node.specs.declared.turn.TurnEnd.{TurnEnd}

module _ {A B Y : Type 0} (asks : A → A → ℕ → ℕ → Call → Answer → Type 0) (knows : B → B → ℕ → ℕ → Call → Answer → Type 0) (known : A → B)
    (keeps : (old new : A) (node now : ℕ) (asked : Call) (told : Answer) → asks old new node now asked told → knows (known old) (known new) node now asked told)
    (y : Meaning Y) (node : ℕ) (next : Next) (old : HeldSeat) (was now : Y) (told then : Option (List ℕ)) (before after : A)
  where
    abbrev asked_by : IsAskedFor asks y node next old was now told then before after → IsAskedFor knows y node next old was now told then (known before) (known after)
    asked_by h = record { asked = h.asked; made = h.made; answer = h.answer; call = h.call; clock = h.clock; asks_it = keeps before after node h.asked.moment h.asked.call h.answer h.asks_it }

    module _ (taken given : Option (List ℕ)) where
      pub made_by : (new : HeldSeat) → MakesTurn asks y node next old new was now told then before after taken given → MakesTurn knows y node next old new was now told then (known before) (known after) taken given
      made_by new h = record { asked = asked_by h.asked; goes_on = h.goes_on; prints = h.prints; takes_in = h.takes_in }

      pub ended_by : (stopped : TurnEnd) → EndsAt asks y node stopped next old was now told then before after taken given → EndsAt knows y node stopped next old was now told then (known before) (known after) taken given
      ended_by stopped (inl h) = inl (record { asked = asked_by h.asked; ends = h.ends })
      ended_by stopped (inr h) = inr (record { memory = h.memory; quiet = h.quiet; clock = h.clock; none_asked = ap known h.none_asked; none_printed = h.none_printed })

-- what every call keeps, stays to the end
module _ {A Y : Type 0} (asks : A → A → ℕ → ℕ → Call → Answer → Type 0) (y : Meaning Y) (node : ℕ) (next : Next) (old : HeldSeat) (was now : Y) (told then : Option (List ℕ)) (before after : A) (taken given : Option (List ℕ))
    (Stays : A → A → Type 0) (none : (a : A) → Stays a a) (each : (old new : A) (node now : ℕ) (asked : Call) (told : Answer) → asks old new node now asked told → Stays old new)
  where
    pub stays_by : (stopped : TurnEnd) → EndsAt asks y node stopped next old was now told then before after taken given → Stays before after
    stays_by stopped (inl h) = each before after node h.asked.asked.moment h.asked.asked.call h.asked.answer h.asked.asks_it
    stays_by stopped (inr h) = subst (λ (a : A). Stays before a) (sym h.none_asked) (none before)
