use Rattle.std.proofs.Common.{◌≡◌, ◌∙◌, refl, inl, inr, arith}
use Rattle.std.proofs.lemmas.Option.{slice_get_within}
use Rattle.qm_node.specs.Seats.{standing_of}
use Rattle.qm_node.specs.Outside.{outside_at}
use Rattle.qm_cluster.specs.Parts.{IsWhyIn, IsWhyOf}
use Rattle.qm_node.proofs.Ends.{stop_on}
use Rattle.qm_cluster.proofs.Ending.{turn_stops, turn_undamaged}
use Rattle.qm_cluster.proofs.Going.{can_on, few_own, goes_may, one_turn, stops_may, turns_fall}
use Rattle.qm_cluster.proofs.Joining.{goes_none, then_goes, then_stops}
use Rattle.qm_cluster.proofs.Making.{turn_goes, turn_moves}
use Rattle.qm_cluster.proofs.Parts.{follows_name, follows_none, follows_on, leaves_lines, why_in}
use Rattle.qm_cluster.proofs.node.serve_part.Goals as goal

pub make_turn-requires-clause-asks : goal.make_turn-requires-clause-asks
make_turn-requires-clause-asks g c =
    (c.requires.can.serves, slice_get_within (g.S.Serve.meaning.nodes c.args.manager.now) c.args.node c.args.seat.now.name c.requires.can.there)

pub make_turn-requires-clause-few : goal.make_turn-requires-clause-few
make_turn-requires-clause-few g c =
    omega (arith, few_own g.S.Serve.meaning c.args.node c.args.manager.now c.args.seat.now c.requires.can)

pub make_turn-requires-clause-told : goal.make_turn-requires-clause-told
make_turn-requires-clause-told g c =
    c.requires.can.ready

pub make_turn-requires-clause-next : goal.make_turn-requires-clause-next
make_turn-requires-clause-next g c =
    c.requires.next

pub make_turn-requires-clause-can : goal.make_turn-requires-clause-can
make_turn-requires-clause-can g c =
    c.requires.made

pub make_turn-requires-in-Some-clause-asks : goal.make_turn-requires-in-Some-clause-asks
make_turn-requires-in-Some-clause-asks g c =
    (c.turns.invariant.can.serves, slice_get_within (g.S.Serve.meaning.nodes c.turns.manager) c.args.node c.turns.seat.name c.turns.invariant.can.there)

pub make_turn-requires-in-Some-clause-few : goal.make_turn-requires-in-Some-clause-few
make_turn-requires-in-Some-clause-few g c =
    omega (arith, few_own g.S.Serve.meaning c.args.node c.turns.manager c.turns.seat c.turns.invariant.can)

pub make_turn-requires-in-Some-clause-told : goal.make_turn-requires-in-Some-clause-told
make_turn-requires-in-Some-clause-told g c =
    c.turns.invariant.can.ready

pub make_turn-requires-in-Some-clause-next : goal.make_turn-requires-in-Some-clause-next
make_turn-requires-in-Some-clause-next g c =
    c.in-Some.ensures.next.turn_is

pub make_turn-requires-in-Some-clause-can : goal.make_turn-requires-in-Some-clause-can
make_turn-requires-in-Some-clause-can g c =
    c.in-Some.ensures.next.can

pub turns-init : goal.turns-init
turns-init g c =
    let goes = (turn_goes g.S.Serve.meaning g.Y.Symbiont.meaning c.args.node c.args.first.now c.args.seat.now c.make_turn.new.seat c.args.station.now.symbiont c.make_turn.new.station.symbiont (g.C.Clock.told c.args.station.now.clock) (g.C.Clock.told c.make_turn.new.station.clock) c.args.manager.now c.make_turn.new.asker (g.O.Sink.taken c.args.sink.now) (g.O.Sink.taken c.make_turn.new.sink) c.requires.next c.requires.can.there c.in-Ok.ensures.made) in
    let moves = (turn_moves g.S.Serve.meaning g.Y.Symbiont.meaning c.args.node c.args.first.now c.args.seat.now c.make_turn.new.seat c.args.station.now.symbiont c.make_turn.new.station.symbiont (g.C.Clock.told c.args.station.now.clock) (g.C.Clock.told c.make_turn.new.station.clock) c.args.manager.now c.make_turn.new.asker (g.O.Sink.taken c.args.sink.now) (g.O.Sink.taken c.make_turn.new.sink) c.in-Ok.ensures.made) in
    let can = (can_on g.S.Serve.meaning g.Y.Symbiont.meaning (IsWhyOf c.args.first.now) c.args.node c.args.first.now c.args.seat.now c.make_turn.new.seat (outside_at g.C.Clock.told c.args.manager.now (g.O.Sink.taken c.args.sink.now) c.args.station.now) (outside_at g.C.Clock.told c.make_turn.new.asker (g.O.Sink.taken c.make_turn.new.sink) c.make_turn.new.station) goes moves c.requires.can) in
    record {
      goes = goes_none g.S.Serve.meaning g.Y.Symbiont.meaning (IsWhyIn c.args.part) c.args.node (standing_of c.make_turn.new.seat) (outside_at g.C.Clock.told c.make_turn.new.asker (g.O.Sink.taken c.make_turn.new.sink) c.make_turn.new.station) can.serves can.few;
      can = can;
      follows = follows_none c.args.part c.args.first.now c.args.seat.now c.make_turn.new.seat c.requires.follows moves;
      sink = refl;
    }

pub turns-preserved : goal.turns-preserved
turns-preserved g c =
    let goes = (turn_goes g.S.Serve.meaning g.Y.Symbiont.meaning c.args.node c.in-Some.next c.turns.seat c.make_turn-in-Some.new.seat c.turns.station.symbiont c.make_turn-in-Some.new.station.symbiont (g.C.Clock.told c.turns.station.clock) (g.C.Clock.told c.make_turn-in-Some.new.station.clock) c.turns.manager c.make_turn-in-Some.new.asker (g.O.Sink.taken c.turns.sink) (g.O.Sink.taken c.make_turn-in-Some.new.sink) c.in-Some.ensures.next.turn_is c.turns.invariant.can.there c.in-Ok-make_turn.ensures.made) in
    let moves = (turn_moves g.S.Serve.meaning g.Y.Symbiont.meaning c.args.node c.in-Some.next c.turns.seat c.make_turn-in-Some.new.seat c.turns.station.symbiont c.make_turn-in-Some.new.station.symbiont (g.C.Clock.told c.turns.station.clock) (g.C.Clock.told c.make_turn-in-Some.new.station.clock) c.turns.manager c.make_turn-in-Some.new.asker (g.O.Sink.taken c.turns.sink) (g.O.Sink.taken c.make_turn-in-Some.new.sink) c.in-Ok-make_turn.ensures.made) in
    record {
      goes = then_goes g.S.Serve.meaning g.Y.Symbiont.meaning (IsWhyIn c.args.part) c.args.node (standing_of c.make_turn.new.seat) (standing_of c.turns.seat) (outside_at g.C.Clock.told c.make_turn.new.asker (g.O.Sink.taken c.make_turn.new.sink) c.make_turn.new.station) (outside_at g.C.Clock.told c.turns.manager (g.O.Sink.taken c.turns.sink) c.turns.station) c.turns.invariant.goes (standing_of c.make_turn-in-Some.new.seat) (outside_at g.C.Clock.told c.make_turn-in-Some.new.asker (g.O.Sink.taken c.make_turn-in-Some.new.sink) c.make_turn-in-Some.new.station)
          (goes_may g.S.Serve.meaning g.Y.Symbiont.meaning (IsWhyOf c.in-Some.next) (IsWhyIn c.args.part) (why_in c.args.part c.in-Some.next c.make_turn.new.seat c.turns.seat c.in-Some.ensures.next c.turns.invariant.follows) c.args.node (standing_of c.turns.seat) (standing_of c.make_turn-in-Some.new.seat) (outside_at g.C.Clock.told c.turns.manager (g.O.Sink.taken c.turns.sink) c.turns.station) (outside_at g.C.Clock.told c.make_turn-in-Some.new.asker (g.O.Sink.taken c.make_turn-in-Some.new.sink) c.make_turn-in-Some.new.station) goes);
      can = can_on g.S.Serve.meaning g.Y.Symbiont.meaning (IsWhyOf c.in-Some.next) c.args.node c.in-Some.next c.turns.seat c.make_turn-in-Some.new.seat (outside_at g.C.Clock.told c.turns.manager (g.O.Sink.taken c.turns.sink) c.turns.station) (outside_at g.C.Clock.told c.make_turn-in-Some.new.asker (g.O.Sink.taken c.make_turn-in-Some.new.sink) c.make_turn-in-Some.new.station) goes moves c.turns.invariant.can;
      follows = follows_on c.args.part c.in-Some.next c.make_turn.new.seat c.turns.seat c.make_turn-in-Some.new.seat c.in-Some.ensures.next c.turns.invariant.follows moves;
      sink = c.in-Ok-make_turn.ensures.sink ∙ c.turns.invariant.sink;
    }

pub turns-smaller : goal.turns-smaller
turns-smaller g c =
    let goes = (turn_goes g.S.Serve.meaning g.Y.Symbiont.meaning c.args.node c.in-Some.next c.turns.seat c.make_turn-in-Some.new.seat c.turns.station.symbiont c.make_turn-in-Some.new.station.symbiont (g.C.Clock.told c.turns.station.clock) (g.C.Clock.told c.make_turn-in-Some.new.station.clock) c.turns.manager c.make_turn-in-Some.new.asker (g.O.Sink.taken c.turns.sink) (g.O.Sink.taken c.make_turn-in-Some.new.sink) c.in-Some.ensures.next.turn_is c.turns.invariant.can.there c.in-Ok-make_turn.ensures.made) in
    let moves = (turn_moves g.S.Serve.meaning g.Y.Symbiont.meaning c.args.node c.in-Some.next c.turns.seat c.make_turn-in-Some.new.seat c.turns.station.symbiont c.make_turn-in-Some.new.station.symbiont (g.C.Clock.told c.turns.station.clock) (g.C.Clock.told c.make_turn-in-Some.new.station.clock) c.turns.manager c.make_turn-in-Some.new.asker (g.O.Sink.taken c.turns.sink) (g.O.Sink.taken c.make_turn-in-Some.new.sink) c.in-Ok-make_turn.ensures.made) in
    turns_fall g.S.Serve.meaning g.Y.Symbiont.meaning (IsWhyOf c.in-Some.next) c.args.node c.in-Some.next c.turns.seat c.make_turn-in-Some.new.seat (outside_at g.C.Clock.told c.turns.manager (g.O.Sink.taken c.turns.sink) c.turns.station) (outside_at g.C.Clock.told c.make_turn-in-Some.new.asker (g.O.Sink.taken c.make_turn-in-Some.new.sink) c.make_turn-in-Some.new.station) goes moves

pub returns-clause-serves : goal.returns-clause-serves
returns-clause-serves g c =
    let goes = (turn_goes g.S.Serve.meaning g.Y.Symbiont.meaning c.args.node c.args.first.now c.args.seat.now c.make_turn.new.seat c.args.station.now.symbiont c.make_turn.new.station.symbiont (g.C.Clock.told c.args.station.now.clock) (g.C.Clock.told c.make_turn.new.station.clock) c.args.manager.now c.make_turn.new.asker (g.O.Sink.taken c.args.sink.now) (g.O.Sink.taken c.make_turn.new.sink) c.requires.next c.requires.can.there c.in-Ok.ensures.made) in
    let moves = (turn_moves g.S.Serve.meaning g.Y.Symbiont.meaning c.args.node c.args.first.now c.args.seat.now c.make_turn.new.seat c.args.station.now.symbiont c.make_turn.new.station.symbiont (g.C.Clock.told c.args.station.now.clock) (g.C.Clock.told c.make_turn.new.station.clock) c.args.manager.now c.make_turn.new.asker (g.O.Sink.taken c.args.sink.now) (g.O.Sink.taken c.make_turn.new.sink) c.in-Ok.ensures.made) in
    record {
      goes = record {
        mid = c.make_turn.new.seat;
        between = (outside_at g.C.Clock.told c.make_turn.new.asker (g.O.Sink.taken c.make_turn.new.sink) c.make_turn.new.station);
        first = goes;
        one = one_turn g.S.Serve.meaning g.Y.Symbiont.meaning (IsWhyOf c.args.first.now) c.args.node c.args.first.now c.args.seat.now c.make_turn.new.seat (outside_at g.C.Clock.told c.args.manager.now (g.O.Sink.taken c.args.sink.now) c.args.station.now) (outside_at g.C.Clock.told c.make_turn.new.asker (g.O.Sink.taken c.make_turn.new.sink) c.make_turn.new.station) goes moves;
        second = c.turns.invariant.goes;
      };
      can = c.turns.invariant.can;
      name = follows_name c.args.part c.make_turn.new.seat c.turns.seat c.turns.invariant.follows ∙ moves.name;
      lines = leaves_lines c.args.part c.args.first.now c.args.seat.now c.make_turn.new.seat c.turns.seat moves c.turns.invariant.follows;
      none = c.in_default.ensures.none refl;
    }

pub returns-clause-stops : goal.returns-clause-stops
returns-clause-stops g c =
    tt

pub returns-clause-sink : goal.returns-clause-sink
returns-clause-sink g c =
    c.turns.invariant.sink ∙ c.in-Ok.ensures.sink

pub returns-clause-undamaged : goal.returns-clause-undamaged
returns-clause-undamaged g c =
    λ tells. tt

pub returns-in-Err-clause-stops : goal.returns-in-Err-clause-stops
returns-in-Err-clause-stops g c =
    inl (turn_stops g.S.Serve.meaning g.Y.Symbiont.meaning c.args.node c.args.first.now c.args.seat.now c.in-Err.end c.args.station.now.symbiont c.make_turn.new.station.symbiont (g.C.Clock.told c.args.station.now.clock) (g.C.Clock.told c.make_turn.new.station.clock) c.args.manager.now c.make_turn.new.asker (g.O.Sink.taken c.args.sink.now) (g.O.Sink.taken c.make_turn.new.sink) c.requires.next c.requires.can.there c.in-Err.ensures.ends)

pub returns-in-Err-clause-undamaged : goal.returns-in-Err-clause-undamaged
returns-in-Err-clause-undamaged g c =
    (λ tells. turn_undamaged g.S.Serve.meaning g.Y.Symbiont.meaning c.args.node c.args.first.now c.args.seat.now c.in-Err.end c.args.station.now.symbiont c.make_turn.new.station.symbiont (g.C.Clock.told c.args.station.now.clock) (g.C.Clock.told c.make_turn.new.station.clock) c.args.manager.now c.make_turn.new.asker (g.O.Sink.taken c.args.sink.now) (g.O.Sink.taken c.make_turn.new.sink) c.in-Err.ensures.ends tells)

pub returns-in-Err-make_turn-clause-stops : goal.returns-in-Err-make_turn-clause-stops
returns-in-Err-make_turn-clause-stops g c =
    let goes = (turn_goes g.S.Serve.meaning g.Y.Symbiont.meaning c.args.node c.args.first.now c.args.seat.now c.make_turn.new.seat c.args.station.now.symbiont c.make_turn.new.station.symbiont (g.C.Clock.told c.args.station.now.clock) (g.C.Clock.told c.make_turn.new.station.clock) c.args.manager.now c.make_turn.new.asker (g.O.Sink.taken c.args.sink.now) (g.O.Sink.taken c.make_turn.new.sink) c.requires.next c.requires.can.there c.in-Ok.ensures.made) in
    let moves = (turn_moves g.S.Serve.meaning g.Y.Symbiont.meaning c.args.node c.args.first.now c.args.seat.now c.make_turn.new.seat c.args.station.now.symbiont c.make_turn.new.station.symbiont (g.C.Clock.told c.args.station.now.clock) (g.C.Clock.told c.make_turn.new.station.clock) c.args.manager.now c.make_turn.new.asker (g.O.Sink.taken c.args.sink.now) (g.O.Sink.taken c.make_turn.new.sink) c.in-Ok.ensures.made) in
    inr (record {
      mid = c.make_turn.new.seat;
      between = (outside_at g.C.Clock.told c.make_turn.new.asker (g.O.Sink.taken c.make_turn.new.sink) c.make_turn.new.station);
      first = goes;
      one = one_turn g.S.Serve.meaning g.Y.Symbiont.meaning (IsWhyOf c.args.first.now) c.args.node c.args.first.now c.args.seat.now c.make_turn.new.seat (outside_at g.C.Clock.told c.args.manager.now (g.O.Sink.taken c.args.sink.now) c.args.station.now) (outside_at g.C.Clock.told c.make_turn.new.asker (g.O.Sink.taken c.make_turn.new.sink) c.make_turn.new.station) goes moves;
      second = then_stops g.S.Serve.meaning g.Y.Symbiont.meaning (IsWhyIn c.args.part) c.args.node (standing_of c.make_turn.new.seat) (standing_of c.turns.seat) (outside_at g.C.Clock.told c.make_turn.new.asker (g.O.Sink.taken c.make_turn.new.sink) c.make_turn.new.station) (outside_at g.C.Clock.told c.turns.manager (g.O.Sink.taken c.turns.sink) c.turns.station) c.turns.invariant.goes (outside_at g.C.Clock.told c.make_turn-in-Some.new.asker (g.O.Sink.taken c.make_turn-in-Some.new.sink) c.make_turn-in-Some.new.station) c.in-Err-make_turn.end
          (stops_may g.S.Serve.meaning g.Y.Symbiont.meaning (IsWhyOf c.in-Some.next) (IsWhyIn c.args.part) (why_in c.args.part c.in-Some.next c.make_turn.new.seat c.turns.seat c.in-Some.ensures.next c.turns.invariant.follows) c.args.node (standing_of c.turns.seat) (outside_at g.C.Clock.told c.turns.manager (g.O.Sink.taken c.turns.sink) c.turns.station) (outside_at g.C.Clock.told c.make_turn-in-Some.new.asker (g.O.Sink.taken c.make_turn-in-Some.new.sink) c.make_turn-in-Some.new.station) c.in-Err-make_turn.end (turn_stops g.S.Serve.meaning g.Y.Symbiont.meaning c.args.node c.in-Some.next c.turns.seat c.in-Err-make_turn.end c.turns.station.symbiont c.make_turn-in-Some.new.station.symbiont (g.C.Clock.told c.turns.station.clock) (g.C.Clock.told c.make_turn-in-Some.new.station.clock) c.turns.manager c.make_turn-in-Some.new.asker (g.O.Sink.taken c.turns.sink) (g.O.Sink.taken c.make_turn-in-Some.new.sink) c.in-Some.ensures.next.turn_is c.turns.invariant.can.there c.in-Err-make_turn.ensures.ends).0);
    })

pub returns-in-Err-make_turn-clause-undamaged : goal.returns-in-Err-make_turn-clause-undamaged
returns-in-Err-make_turn-clause-undamaged g c =
    (λ tells. turn_undamaged g.S.Serve.meaning g.Y.Symbiont.meaning c.args.node c.in-Some.next c.turns.seat c.in-Err-make_turn.end c.turns.station.symbiont c.make_turn-in-Some.new.station.symbiont (g.C.Clock.told c.turns.station.clock) (g.C.Clock.told c.make_turn-in-Some.new.station.clock) c.turns.manager c.make_turn-in-Some.new.asker (g.O.Sink.taken c.turns.sink) (g.O.Sink.taken c.make_turn-in-Some.new.sink) c.in-Err-make_turn.ensures.ends tells)

pub returns-in-Err-make_turn-clause-sink : goal.returns-in-Err-make_turn-clause-sink
returns-in-Err-make_turn-clause-sink g c =
    stop_on c.in-Err-make_turn.end (g.O.Sink.faults c.args.sink.now) (g.O.Sink.faults c.turns.sink) (g.O.Sink.faults c.make_turn-in-Some.new.sink) (c.turns.invariant.sink ∙ c.in-Ok.ensures.sink) c.in-Err-make_turn.ensures.sink
