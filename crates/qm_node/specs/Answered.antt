-- What comes of one call of a node: its answer, what is printed of it, and what the node keeps behind it.
use Rattle.std.specs.Prelude.{◌≡◌, ◌⊎◌, ◌+◌, ◌∷◌, ℕ, List, [], drop, Option, None, Some}
use Rattle.std.specs.Io.KnownBytes.{Appends}
use Rattle.qm_history.specs.declared.call.Answer.{Answer}
use Rattle.qm_history.specs.declared.call.Answer.TheVariants as answer
use Rattle.qm_history.specs.declared.call.Call.{Call}
use Rattle.qm_history.specs.Common.{Reading, UserLine}
use Rattle.qm_node.specs.Node.{HeldNode, Hears, IsCallOf}
use Rattle.qm_node.specs.declared.course.Asked.{Asked}
use Rattle.qm_node.specs.declared.course.Next.{Next}
use Rattle.qm_node.specs.declared.course.Next.TheVariants as next
use Rattle.qm_scans.specs.Behind.{behind_answer, is_single, step_of}
use Rattle.qm_show.specs.Turns.{told_text}
use Rattle.qm_symb.specs.Device as symb
use Rattle.qm_node.specs.Asking.{built_call, kind_of_call}
use Rattle.qm_node.specs.Living.{presence_of, live_behind}
use Rattle.qm_node.specs.Seats.{HeldSeat}
use Rattle.qm_node.specs.Ends.{TakesFront}
use Rattle.qm_node.specs.Outside.{Outside}
use Rattle.qm_node.specs.declared.asking.CallKind.{CallKind}
use Rattle.qm_node.specs.declared.seat.Station.{Station}
use Rattle.qm_node.specs.declared.turn.TurnEnd.{TurnEnd}
use Rattle.qm_node.specs.declared.turn.TurnEnd.TheVariants as end

-- the lines that are left behind a turn
abbrev pub lines_behind : Next → List UserLine → List UserLine
lines_behind (next.Line line) lines = drop 1 lines
lines_behind (next.Step run) lines = lines
lines_behind next.Fetch lines = lines
lines_behind next.Leave lines = lines

-- the turn is made for a line, or tells of a step
abbrev pub IsLineOrStep : Next → Type 0
IsLineOrStep (next.Line line) = Unit {0}
IsLineOrStep (next.Step run) = Unit {0}
IsLineOrStep next.Fetch = ⊥
IsLineOrStep next.Leave = ⊥

-- What a node keeps between two turns whatever the disks tell: no step is untold, its name stays, its lines are those that are
-- left, and behind a line or a step it reads on where it read before.
pub record MovesOn (next : Next) (old new : HeldSeat) : Type 0 where
  pub name : new.name ≡ old.name
  pub ready : new.node.made ≡ None
  pub lines : new.node.state.lines ≡ lines_behind next old.node.state.lines
  pub reads : IsLineOrStep next → old.node.state.stage ≡ Reading → new.node.state.stage ≡ Reading
  pub count : new.count ≡ old.count + 1

-- the end behind an answer, where none can come
abbrev pub stop_of : Answer → Option TurnEnd
stop_of answer.HistoryFull = Some end.HistoryFull
stop_of (answer.Damaged file place) = Some (end.Damaged file place)
stop_of (answer.NoMemory took) = Some end.NoMemory
stop_of (answer.Done took moment reply) = None
stop_of (answer.Shown took moment rows) = None
stop_of (answer.Duties took moment duties) = None
stop_of (answer.Refused took refusal) = None
stop_of (answer.Full took need cap) = None
stop_of (answer.Journal took live) = None
stop_of (answer.Fenced held current) = None
stop_of (answer.NoManager took name) = None

-- what is printed at a node of this name of a call that was answered so
abbrev pub printed_by : List ℕ → CallKind → Answer → List ℕ
printed_by name kind told = told_text name kind.why (is_single kind.step) told

abbrev pub printed_of : List ℕ → Call → Answer → List ℕ
printed_of name asked told = printed_by name (kind_of_call asked) told

-- The call of what comes next was made, as far as that is built, and nothing else of the node changed.
pub record IsCalled {Y : Type 0} (y : symb.Meaning Y) (next : Next) (old new : HeldSeat) (asked : Asked) (was now : Y) : Type 0 where
  pub plain : Call
  pub asked_is : asked.call ≡ built_call plain
  pub by : IsCallOf y old.begun next old.node.state (record { moment = asked.moment; call = plain }) new.node was now
  pub same : new ≡ record old { node = new.node }

-- the same, by what is the node's own
abbrev pub CallsAt : {C Y : Type 0} → symb.Meaning Y → Next → HeldSeat → HeldSeat → Station C Y → Station C Y → Asked → Type 0
CallsAt y next old new was now asked = IsCalled y next old new asked was.symbiont now.symbiont

-- the node behind the answer of what came next
pub record TakesIn (next : Next) (asked : Call) (told : Answer) (old new : HeldSeat) : Type 0 where
  pub name : new.name ≡ old.name
  pub heard : Hears old.count next old.node told new.node
  pub live : new.live ≡ live_behind old.live (presence_of asked) told
  pub count : new.count ≡ old.count + 1
  pub begun : new.begun ≡ behind_answer old.begun (step_of asked) told

-- The call was told the end; or it was answered, and the sink took first bytes of that, or all.
abbrev pub EndsBy : List ℕ → TurnEnd → Call → Answer → Option (List ℕ) → Option (List ℕ) → Type 0
EndsBy name stopped asked told taken given =
    ((stop_of told ≡ Some stopped) × (given ≡ taken))
    ⊎ ((stop_of told ≡ None) × TakesFront taken given (printed_of name asked told) × ((stopped ≡ end.Write) ⊎ (stopped ≡ end.NoMemory)))

module _ {A Y : Type 0} (asks : A → A → ℕ → ℕ → Call → Answer → Type 0) (y : symb.Meaning Y) (node : ℕ) where
  -- What comes next was asked, with one reading of the clock.
  pub record IsAskedFor (next : Next) (old : HeldSeat) (was now : Y) (told then : Option (List ℕ)) (before after : A) : Type 0 where
    pub asked : Asked
    pub made : HeldNode
    pub answer : Answer
    pub call : IsCalled y next old (record old { node = made }) asked was now
    pub clock : Appends told then (asked.moment ∷ [])
    pub asks_it : asks before after node asked.moment asked.call answer

  -- Its answer was printed and taken in.
  pub record MakesTurn (next : Next) (old new : HeldSeat) (was now : Y) (told then : Option (List ℕ)) (before after : A) (taken given : Option (List ℕ)) : Type 0 where
    pub asked : IsAskedFor next old was now told then before after
    pub goes_on : stop_of asked.answer ≡ None
    pub prints : Appends taken given (printed_of old.name asked.asked.call asked.answer)
    pub takes_in : TakesIn next asked.asked.call asked.answer (record old { node = asked.made }) new

  -- The node's turns end at what comes next: it was asked, and its answer is the last; or it can't be asked, for want of memory,
  -- and no run made a step.
  pub record EndsAsked (stopped : TurnEnd) (next : Next) (old : HeldSeat) (was now : Y) (told then : Option (List ℕ)) (before after : A) (taken given : Option (List ℕ)) : Type 0 where
    pub asked : IsAskedFor next old was now told then before after
    pub ends : EndsBy old.name stopped asked.asked.call asked.answer taken given

  pub record EndsUnasked (stopped : TurnEnd) (was now : Y) (told then : Option (List ℕ)) (before after : A) (taken given : Option (List ℕ)) : Type 0 where
    pub memory : stopped ≡ end.NoMemory
    pub quiet : now ≡ was
    pub clock : (moment : ℕ) × Appends told then (moment ∷ [])
    pub none_asked : after ≡ before
    pub none_printed : given ≡ taken

  abbrev pub EndsAt : TurnEnd → Next → HeldSeat → Y → Y → Option (List ℕ) → Option (List ℕ) → A → A → Option (List ℕ) → Option (List ℕ) → Type 0
  EndsAt stopped next old was now told then before after taken given =
      EndsAsked stopped next old was now told then before after taken given ⊎ EndsUnasked stopped was now told then before after taken given

  -- the same, by what the turn touches
  abbrev pub Makes : Next → HeldSeat → HeldSeat → Outside A Y → Outside A Y → Type 0
  Makes next here there old new = MakesTurn next here there old.symbiont new.symbiont old.told new.told old.value new.value old.taken new.taken

  abbrev pub EndsIn : Next → HeldSeat → Outside A Y → Outside A Y → TurnEnd → Type 0
  EndsIn next here old new stopped = EndsAt stopped next here old.symbiont new.symbiont old.told new.told old.value new.value old.taken new.taken
