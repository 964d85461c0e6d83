-- What the parts of a node's turns leave: those of a line, and those of the node's own.
use Rattle.std.proofs.Common.{◌≡◌, ◌∙◌, ℕ, drop, inl, inr}
use Rattle.qm_symb.specs.Device as symb
use Rattle.qm_history.specs.declared.turn.Why.{Why}
use Rattle.qm_history.specs.Course.{Reading}
use Rattle.qm_history.specs.Serving.{Meaning}
use Rattle.qm_history.specs.declared.turn.Why.TheVariants as why
use Rattle.qm_node.specs.Answered.{IsLineOrStep, lines_behind}
use Rattle.qm_node.specs.Coming.{why_next}
use Rattle.qm_node.specs.Outside.{Outside}
use Rattle.qm_node.specs.Seats.{HeldSeat, standing_of}
use Rattle.qm_node.specs.declared.course.Next.{Next}
use Rattle.qm_node.specs.declared.turn.TurnEnd.{TurnEnd}
use Rattle.qm_cluster.specs.Parts.{IsFetch, IsLineOf, IsWhyOf, RunsOut, ServesLine, ServesPart, StopsPart, StopsWorking}
use Rattle.qm_cluster.specs.declared.part.Part.TheVariants.{Steps, Own}
use Rattle.qm_cluster.proofs.Going.{goes_may, stops_may, why_is}

module _ {S Y : Type 0} (m : Meaning S) (y : symb.Meaning Y) (node : ℕ) where
  pub runs_out : (first : Next) (here there : HeldSeat) (old new : Outside S Y) → ((w : Why) → w ≡ why_next first → IsFetch w)
      → ServesPart m y node Own first here there old new → RunsOut m y node here there old new
  runs_out first here there old new fetch serves = record {
    goes = inr (record {
      mid = serves.goes.mid;
      between = serves.goes.between;
      first = goes_may m y (IsWhyOf first) IsFetch fetch node (standing_of here) (standing_of serves.goes.mid) old serves.goes.between serves.goes.first;
      one = serves.goes.one;
      second = serves.goes.second;
    });
    can = serves.can;
    name = serves.name;
    over = serves.none;
  }

  pub stops_working : (first : Next) (here : HeldSeat) (old new : Outside S Y) → ((w : Why) → w ≡ why_next first → IsFetch w)
      → (stopped : TurnEnd) → StopsPart m y node Own first here old new stopped → StopsWorking m y node here old new stopped
  stops_working first here old new fetch stopped (inl stops) = inl (stops_may m y (IsWhyOf first) IsFetch fetch node (standing_of here) old new stopped stops.0, stops.1)
  stops_working first here old new fetch stopped (inr behind) = inr (record {
    mid = behind.mid;
    between = behind.between;
    first = goes_may m y (IsWhyOf first) IsFetch fetch node (standing_of here) (standing_of behind.mid) old behind.between behind.first;
    one = behind.one;
    second = behind.second;
  })

  -- a line that a node serves which reads
  pub line_served : (first : Next) (number : ℕ) (here there : HeldSeat) (old new : Outside S Y) → why_next first ≡ why.Line number
      → lines_behind first here.node.state.lines ≡ drop 1 here.node.state.lines → IsLineOrStep first → here.node.state.stage ≡ Reading
      → ServesPart m y node Steps first here there old new → ServesLine m y node number here there old new
  line_served first number here there old new is behind line reads serves = record {
    goes = record {
      mid = serves.goes.mid;
      between = serves.goes.between;
      first = goes_may m y (IsWhyOf first) (IsLineOf number) (why_is first (why.Line number) is) node (standing_of here) (standing_of serves.goes.mid) old serves.goes.between serves.goes.first;
      one = serves.goes.one;
      second = serves.goes.second;
    };
    can = serves.can;
    name = serves.name;
    stage = serves.lines.1 line reads;
    lines = serves.lines.0 ∙ behind;
    waits = serves.none;
  }
