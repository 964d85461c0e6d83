use Rattle.std.proofs.Common.{◌∙◌, sym, inl, inr, refl, subst, List, ℕ}
use Rattle.std.specs.Io.KnownBytes.{Appends}
use Rattle.qm_node.specs.declared.asking.CallKind.{CallKind}
use Rattle.qm_node.specs.Answered.{printed_by, printed_of}
use Rattle.qm_node.specs.Ends.{TakesFront}
use Rattle.qm_node.proofs.Ends.{none_written}
use Rattle.qm_node.proofs.Heard.{heard_of}
use Rattle.qm_node.proofs.Fronts.{front_of_all, none_of}
use Rattle.qm_node.proofs.Made.{askable, can, ended, few, has_made, made, next}
use Rattle.qm_node.proofs.turn.make_turn.Goals as goal

pub ask-answer-requires-clause-can : goal.ask-answer-requires-clause-can
ask-answer-requires-clause-can g c =
    c.requires.asks

pub ask-answer-requires-clause-askable : goal.ask-answer-requires-clause-askable
ask-answer-requires-clause-askable g c =
    askable g.Y.Symbiont.meaning c.args.next.now c.args.seat.now c.call.new.self c.in-Ok.asked c.args.station.now.symbiont c.call.new.station.symbiont c.in-Ok.ensures.call

pub take_in-requires-clause-next : goal.take_in-requires-clause-next
take_in-requires-clause-next g c =
    next g.Y.Symbiont.meaning c.args.next.now c.args.seat.now c.call.new.self c.in-Ok.asked c.args.station.now.symbiont c.call.new.station.symbiont c.in-Ok.ensures.call c.requires.next

pub take_in-requires-clause-can : goal.take_in-requires-clause-can
take_in-requires-clause-can g c =
    can g.Y.Symbiont.meaning c.args.next.now c.args.seat.now c.call.new.self c.in-Ok.asked c.args.station.now.symbiont c.call.new.station.symbiont c.in-Ok.ensures.call c.requires.can

pub take_in-requires-clause-made : goal.take_in-requires-clause-made
take_in-requires-clause-made g c =
    has_made g.Y.Symbiont.meaning c.args.next.now c.args.seat.now c.call.new.self c.in-Ok.asked c.args.station.now.symbiont c.call.new.station.symbiont c.in-Ok.ensures.call

pub take_in-requires-clause-few : goal.take_in-requires-clause-few
take_in-requires-clause-few g c =
    few g.Y.Symbiont.meaning c.args.next.now c.args.seat.now c.call.new.self c.in-Ok.asked c.args.station.now.symbiont c.call.new.station.symbiont c.in-Ok.ensures.call _ c.requires.few

pub take_in-requires-clause-duties : goal.take_in-requires-clause-duties
take_in-requires-clause-duties g c =
    heard_of c.ask-answer.result c.ask-answer.ensures.duties

pub returns-in-Some-clause-ends : goal.returns-in-Some-clause-ends
returns-in-Some-clause-ends g c =
    ended g.Y.Symbiont.meaning c.args.next.now c.args.seat.now c.call.new.self c.in-Ok.asked c.args.station.now.symbiont c.call.new.station.symbiont c.in-Ok.ensures.call
    g.A.Ask.asks c.args.node c.args.asker.now c.ask-answer.new.self (g.O.Sink.taken c.args.sink.now) (g.O.Sink.taken c.args.sink.now) (g.C.Clock.told c.args.station.now.clock) (g.C.Clock.told c.call.new.station.clock) c.in-Ok.ensures.clock c.ask-answer.result c.ask-answer.ensures.asks c.in-Some.end (inl (sym c.stop_of.ensures ∙ c.in-Some.is, refl))

pub returns-in-Some-clause-sink : goal.returns-in-Some-clause-sink
returns-in-Some-clause-sink g c =
    none_written (g.O.Sink.faults c.args.sink.now) c.ask-answer.result c.in-Some.end (sym c.stop_of.ensures ∙ c.in-Some.is)

pub returns-in-Err-clause-ends : goal.returns-in-Err-clause-ends
returns-in-Err-clause-ends g c =
    ended g.Y.Symbiont.meaning c.args.next.now c.args.seat.now c.call.new.self c.in-Ok.asked c.args.station.now.symbiont c.call.new.station.symbiont c.in-Ok.ensures.call
    g.A.Ask.asks c.args.node c.args.asker.now c.ask-answer.new.self (g.O.Sink.taken c.args.sink.now) (g.O.Sink.taken c.print_answer.new.sink) (g.C.Clock.told c.args.station.now.clock) (g.C.Clock.told c.call.new.station.clock) c.in-Ok.ensures.clock c.ask-answer.result c.ask-answer.ensures.asks c.in-Err.end (inr (
      (sym c.stop_of.ensures ∙ none_of c.stop_of.result c.in_default-stop_of.not-Some),
      (subst (λ (name : List ℕ). TakesFront (g.O.Sink.taken c.args.sink.now) (g.O.Sink.taken c.print_answer.new.sink) (printed_of name c.in-Ok.asked.call c.ask-answer.result)) c.name-name.ensures
          (subst (λ (kind : CallKind). TakesFront (g.O.Sink.taken c.args.sink.now) (g.O.Sink.taken c.print_answer.new.sink) (printed_by c.name-name.result kind c.ask-answer.result)) c.kind_of_call-kind.ensures
          c.in-Err.ensures.front)),
      c.in-Err.ensures.ends,
    ))

pub returns-in-Err-take_in-clause-ends : goal.returns-in-Err-take_in-clause-ends
returns-in-Err-take_in-clause-ends g c =
    ended g.Y.Symbiont.meaning c.args.next.now c.args.seat.now c.call.new.self c.in-Ok.asked c.args.station.now.symbiont c.call.new.station.symbiont c.in-Ok.ensures.call
    g.A.Ask.asks c.args.node c.args.asker.now c.ask-answer.new.self (g.O.Sink.taken c.args.sink.now) (g.O.Sink.taken c.print_answer.new.sink) (g.C.Clock.told c.args.station.now.clock) (g.C.Clock.told c.call.new.station.clock) c.in-Ok.ensures.clock c.ask-answer.result c.ask-answer.ensures.asks _ (inr (
      (sym c.stop_of.ensures ∙ none_of c.stop_of.result c.in_default-stop_of.not-Some),
      (subst (λ (name : List ℕ). TakesFront (g.O.Sink.taken c.args.sink.now) (g.O.Sink.taken c.print_answer.new.sink) (printed_of name c.in-Ok.asked.call c.ask-answer.result)) c.name-name.ensures
          (subst (λ (kind : CallKind). TakesFront (g.O.Sink.taken c.args.sink.now) (g.O.Sink.taken c.print_answer.new.sink) (printed_by c.name-name.result kind c.ask-answer.result)) c.kind_of_call-kind.ensures
          (front_of_all (g.O.Sink.taken c.args.sink.now) (g.O.Sink.taken c.print_answer.new.sink) _ c.in-Ok-print_answer.ensures.all))),
      inr refl,
    ))

pub returns-in-Ok-take_in-clause-made : goal.returns-in-Ok-take_in-clause-made
returns-in-Ok-take_in-clause-made g c =
    made g.Y.Symbiont.meaning c.args.next.now c.args.seat.now c.call.new.self c.in-Ok.asked c.args.station.now.symbiont c.call.new.station.symbiont c.in-Ok.ensures.call
    g.A.Ask.asks c.args.node c.args.asker.now c.ask-answer.new.self (g.O.Sink.taken c.args.sink.now) (g.O.Sink.taken c.print_answer.new.sink) (g.C.Clock.told c.args.station.now.clock) (g.C.Clock.told c.call.new.station.clock) c.in-Ok.ensures.clock c.ask-answer.result c.ask-answer.ensures.asks c.take_in.new.self (sym c.stop_of.ensures ∙ none_of c.stop_of.result c.in_default-stop_of.not-Some) (subst (λ (name : List ℕ). Appends (g.O.Sink.taken c.args.sink.now) (g.O.Sink.taken c.print_answer.new.sink) (printed_of name c.in-Ok.asked.call c.ask-answer.result)) c.name-name.ensures
    (subst (λ (kind : CallKind). Appends (g.O.Sink.taken c.args.sink.now) (g.O.Sink.taken c.print_answer.new.sink) (printed_by c.name-name.result kind c.ask-answer.result)) c.kind_of_call-kind.ensures
    c.in-Ok-print_answer.ensures.all)) (c.in-Ok-take_in.ensures c.in-Ok.asked.call c.kind_of_call-kind.ensures)
