-- A turn, from the call that a node made of what came next.
use Rattle.std.proofs.Common.{◌≡◌, ◌<◌, ℕ, List, [], ◌∷◌, inl, sym, subst, Option, None, Some, Result, Ok, Err, OnOk, IfErr}
use Rattle.std.specs.Io.KnownBytes.{Appends}
use Rattle.qm_symb.specs.Device as symb
use Rattle.qm_history.specs.declared.call.Answer.{Answer}
use Rattle.qm_history.specs.declared.call.Call.{Call}
use Rattle.qm_history.specs.Common.{IsAskable, input_of, next_at}
use Rattle.qm_node.specs.Answered.{EndsAt, EndsBy, IsAskedFor, IsCalled, MakesTurn, TakesIn, printed_of, stop_of}
use Rattle.qm_node.specs.Node.{CanBeMade, ComesNext, IsMadeFor, IsTurn}
use Rattle.qm_node.specs.Seats.{HeldSeat}
use Rattle.qm_node.specs.declared.course.Asked.{Asked}
use Rattle.qm_node.specs.declared.course.Next.{Next}
use Rattle.qm_node.specs.declared.turn.TurnEnd.{TurnEnd}
use Rattle.qm_node.proofs.Called.{call_askable, called_can, called_made, called_next}

-- Whom a node asks, as it was before and is behind a call of this node at this reading of its clock, which was answered so.
pub on_ok : {T E : Type 0} (r : Result T E) (P Q : Type 0) → OnOk r P → (P → Q) → OnOk r Q
on_ok (Ok x) P Q h f = f h
on_ok (Err e) P Q h f = h

pub if_err : {T E : Type 0} (r : Result T E) (P Q : E → Type 0) → IfErr r P → ((e : E) → P e → Q e) → IfErr r Q
if_err (Ok x) P Q h f = h
if_err (Err e) P Q h f = f e h

module _ {Y : Type 0} (y : symb.Meaning Y) (comes : Next) (here between : HeldSeat) (asked : Asked) (was now : Y) (called : IsCalled y comes here between asked was now) where
  abbrev plain : Asked
  plain = record { moment = asked.moment; call = called.plain }

  pub askable : IsAskable (input_of asked.call)
  askable = subst (λ (c : Call). IsAskable (input_of c)) (sym called.asked_is) (call_askable y here.begun here.node.state plain between.node was now comes called.by)

  pub next : IsTurn (next_at here.live here.node.state here.node.state.stage) (Some comes) → ComesNext between.node.state comes
  next is = called_next y here.begun here.node.state plain between.node was now comes here.live called.by is

  pub can : CanBeMade here.node.state comes → CanBeMade between.node.state comes
  can h = called_can y here.begun here.node.state plain between.node was now comes called.by h

  pub has_made : IsMadeFor comes between.node.made
  has_made = called_made y here.begun here.node.state plain between.node was now comes called.by

  pub few : (most : ℕ) → here.count < most → between.count < most
  few most less = subst (λ (s : HeldSeat). s.count < most) (sym called.same) less

  module _ {A : Type 0} (asks : A → A → ℕ → ℕ → Call → Answer → Type 0) (node : ℕ) (before after : A) (taken given told then : Option (List ℕ)) (clock : Appends told then (asked.moment ∷ [])) (answer : Answer) (asks_it : asks before after node asked.moment asked.call answer) where
    asked_for : IsAskedFor asks y node comes here was now told then before after
    asked_for = record {
      asked = asked;
      made = between.node;
      answer = answer;
      call = subst (λ (s : HeldSeat). IsCalled y comes here s asked was now) called.same called;
      clock = clock;
      asks_it = asks_it;
    }

    pub made : (there : HeldSeat) → stop_of answer ≡ None → Appends taken given (printed_of between.name asked.call answer) → TakesIn comes asked.call answer between there
        → MakesTurn asks y node comes here there was now told then before after taken given
    unfolding asked_for
    made there goes_on printed takes = record {
      asked = asked_for;
      goes_on = goes_on;
      prints = subst (λ (s : HeldSeat). Appends taken given (printed_of s.name asked.call answer)) called.same printed;
      takes_in = subst (λ (s : HeldSeat). TakesIn comes asked.call answer s there) called.same takes;
    }

    pub ended : (stopped : TurnEnd) → EndsBy between.name stopped asked.call answer taken given
        → EndsAt asks y node stopped comes here was now told then before after taken given
    unfolding asked_for
    ended stopped ends = inl (record { asked = asked_for; ends = subst (λ (s : HeldSeat). EndsBy s.name stopped asked.call answer taken given) called.same ends })
