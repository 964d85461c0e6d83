-- How the turns of a node go on, whatever the disks tell.
use Rattle.std.proofs.Common.{◌≡◌, ◌+◌, ◌-◌, ◌<◌, ◌≤◌, ℕ, zero, suc, Bool, true, false, List, [], ◌∷◌, length, drop, refl, sym, ◌∙◌, ap, subst, None, Some, arith, slice_get}
use Rattle.qm_symb.specs.Device as symb
use Rattle.qm_history.specs.declared.turn.Turn.{Turn}
use Rattle.qm_history.specs.declared.turn.Why.{Why}
use Rattle.qm_history.specs.declared.turn.Why.TheVariants as why
use Rattle.qm_history.specs.Common.{turns_kept, UserLine}
use Rattle.qm_history.specs.Course.{NextTurn, ALine, AStep, AFetch, ALeave, NoTurn, NodeState, Reading, Fetching, Working, Leaving, Over, Stage, next_at, next_line, next_reading, next_working}
use Rattle.qm_node.specs.Node.{IsTurn}
use Rattle.qm_node.specs.declared.course.Next.{Next}
use Rattle.qm_node.specs.declared.course.Next.TheVariants as next
use Rattle.qm_node.specs.Answered.{IsLineOrStep, MovesOn, lines_behind}
use Rattle.qm_cluster.specs.Nodes.{CanGoOn, ReadsOn}
use Rattle.qm_cluster.specs.Parts.{IsFetch}
use Rattle.qm_cluster.specs.Runs.{IsReading}
use Rattle.qm_node.specs.Seats.{HeldSeat, standing_of}
use Rattle.qm_history.specs.Serving.{Meaning}
use Rattle.qm_node.specs.Standing.{Standing}
use Rattle.qm_node.specs.Outside.{Outside}
use Rattle.qm_cluster.specs.Turning.{AreOf, Goes, IsOwnWhy, Stops}
use Rattle.qm_node.specs.Coming.{IsNoStep, why_next}
use Rattle.qm_node.specs.declared.turn.TurnEnd.{TurnEnd}
use Rattle.qm_cluster.proofs.Joining.{length_append}

-- ---- reasons

pub of_may : (node : ℕ) (May Other : Why → Type 0) → ((w : Why) → May w → Other w) → (turns : List Turn) → AreOf node May turns → AreOf node Other turns
of_may node May Other weaker [] h = tt
of_may node May Other weaker (t ∷ turns) h = ((h.0.0, weaker t.why h.0.1), of_may node May Other weaker turns h.1)

module _ {S Y : Type 0} (m : Meaning S) (y : symb.Meaning Y) (May Other : Why → Type 0) (weaker : (w : Why) → May w → Other w) (node : ℕ) where
  abbrev pub goes_may : (here there : Standing) (old new : Outside S Y) → Goes m y May node here there old new → Goes m y Other node here there old new
  goes_may here there old new g = record {
    turns = g.turns;
    kept = g.kept;
    of_node = of_may node May Other weaker g.turns g.of_node;
    few = g.few;
    count = g.count;
    nodes = g.nodes;
    serves = g.serves;
    failed = g.failed;
    at = g.at;
  }

  abbrev pub stops_may : (here : Standing) (old new : Outside S Y) (stopped : TurnEnd) → Stops m y May node here old new stopped → Stops m y Other node here old new stopped
  stops_may here old new stopped g = record {
    turns = g.turns;
    kept = g.kept;
    of_node = of_may node May Other weaker g.turns g.of_node;
    full = g.full;
    nodes = g.nodes;
    failed = g.failed;
    at = g.at;
  }

pub why_is : (comes : Next) (why : Why) → why_next comes ≡ why → (w : Why) → w ≡ why_next comes → w ≡ why
why_is comes why is w h = h ∙ is

-- ---- one turn more

module _ {S Y : Type 0} (m : Meaning S) (y : symb.Meaning Y) (May : Why → Type 0) (node : ℕ) (comes : Next) (here there : HeldSeat) (old new : Outside S Y)
    (goes : Goes m y May node (standing_of here) (standing_of there) old new) (moves : MovesOn comes here there)
  where
    pub one_turn : length goes.turns ≡ 1
    one_turn = let a : there.count ≡ here.count + length goes.turns = goes.count in let b : there.count ≡ here.count + 1 = moves.count in omega (arith, a, b)

    one_longer : length (m.turns new.value) ≡ length (m.turns old.value) + 1
    one_longer = ap length goes.kept ∙ length_append (m.turns old.value) goes.turns ∙ ap (λ (k : ℕ). length (m.turns old.value) + k) one_turn

    pub can_on : CanGoOn m node old.value here → CanGoOn m node new.value there
    can_on can = record {
      serves = goes.serves;
      there = ap (λ (l : List (List ℕ)). slice_get l node) goes.nodes ∙ can.there ∙ ap Some (sym moves.name);
      ready = moves.ready;
      own = let a : there.count ≡ here.count + 1 = moves.count in let b : here.count ≤ length (m.turns old.value) = can.own in
          let c : length (m.turns new.value) ≡ length (m.turns old.value) + 1 = one_longer in omega (arith, a, b, c);
      few = goes.few;
    }

    pub turns_fall : turns_kept - length (m.turns new.value) < turns_kept - length (m.turns old.value)
    turns_fall = let a : length (m.turns new.value) ≤ turns_kept = goes.few in let c : length (m.turns new.value) ≡ length (m.turns old.value) + 1 = one_longer in omega (arith, a, c)

pub few_own : {S : Type 0} (m : Meaning S) (node : ℕ) (value : S) (seat : HeldSeat) → CanGoOn m node value seat → seat.count ≤ turns_kept
few_own m node value seat can = let a : seat.count ≤ length (m.turns value) = can.own in let b : length (m.turns value) ≤ turns_kept = can.few in omega (arith, a, b)

-- ---- lines and steps

report_steps : (comes : Next) (lines : List UserLine) → why_next comes ≡ why.Report → (lines_behind comes lines ≡ lines) × IsLineOrStep comes
report_steps (next.Line line) lines is = cc
report_steps (next.Step run) lines is = (refl, tt)
report_steps next.Fetch lines is = cc
report_steps next.Leave lines is = cc

pub reads_on : (comes : Next) (first here there : HeldSeat) → why_next comes ≡ why.Report → ReadsOn first here → MovesOn comes here there → ReadsOn first there
reads_on comes first here there is so_far moves =
    let both = report_steps comes here.node.state.lines is in
    record {
      name = moves.name ∙ so_far.name;
      lines = moves.lines ∙ both.0 ∙ so_far.lines;
      reads = λ reads. moves.reads both.1 (so_far.reads reads);
    }

pub none_left : (comes : Next) (here there : HeldSeat) → here.node.state.lines ≡ [] → MovesOn comes here there → there.node.state.lines ≡ []
none_left (next.Line line) here there none moves = moves.lines ∙ ap (λ (l : List UserLine). drop 1 l) none
none_left (next.Step run) here there none moves = moves.lines ∙ none
none_left next.Fetch here there none moves = moves.lines ∙ none
none_left next.Leave here there none moves = moves.lines ∙ none

no_line_next : (live : Bool) (l : UserLine) (rest : List UserLine) → next_line live [] ≡ ALine l rest → ⊥
no_line_next true l rest is = cc
no_line_next false l rest is = cc

no_reading : (live : Bool) (steps : ℕ) (round : List ℕ) (l : UserLine) (rest : List UserLine) → next_reading live steps round [] ≡ ALine l rest → ⊥
no_reading live zero round l rest is = no_line_next live l rest is
no_reading live (suc steps) [] l rest is = no_line_next live l rest is
no_reading live (suc steps) (run ∷ round) l rest is = cc

no_working : (round : List ℕ) (l : UserLine) (rest : List UserLine) → next_working round ≡ ALine l rest → ⊥
no_working [] l rest is = cc
no_working (run ∷ round) l rest is = cc

no_line : (live : Bool) (n : NodeState) (stage : Stage) (l : UserLine) (rest : List UserLine) → n.lines ≡ [] → next_at live n stage ≡ ALine l rest → ⊥
no_line live n Reading l rest none is = no_reading live n.kept.steps n.kept.round l rest (subst (λ (ls : List UserLine). next_reading live n.kept.steps n.kept.round ls ≡ ALine l rest) none is)
no_line live n Fetching l rest none is = cc
no_line live n Working l rest none is = no_working n.kept.round l rest is
no_line live n Leaving l rest none is = cc
no_line live n Over l rest none is = cc

own_next : (comes : Next) (nt : NextTurn) → ((l : UserLine) (rest : List UserLine) → nt ≡ ALine l rest → ⊥) → IsTurn nt (Some comes) → IsOwnWhy (why_next comes)
own_next (next.Line line) (ALine l rest) isnt is = isnt l rest refl
own_next (next.Line line) (AStep run others) isnt is = absurd is
own_next (next.Line line) AFetch isnt is = absurd is
own_next (next.Line line) ALeave isnt is = absurd is
own_next (next.Line line) NoTurn isnt is = absurd is
own_next (next.Step run) nt isnt is = tt
own_next next.Fetch nt isnt is = tt
own_next next.Leave nt isnt is = tt

pub own_why : (comes : Next) (live : Bool) (n : NodeState) → n.lines ≡ [] → IsTurn (next_at live n n.stage) (Some comes) → (w : Why) → w ≡ why_next comes → IsOwnWhy w
own_why comes live n none is w h = subst IsOwnWhy (sym h) (own_next comes (next_at live n n.stage) (λ l rest e. no_line live n n.stage l rest none e) is)

pub nothing_next : (nt : NextTurn) → IsTurn nt None → nt ≡ NoTurn
nothing_next (ALine l rest) is = absurd is
nothing_next (AStep run others) is = absurd is
nothing_next AFetch is = absurd is
nothing_next ALeave is = absurd is
nothing_next NoTurn is = refl

pub no_step : (nt : NextTurn) → IsTurn nt None → IsNoStep nt
no_step (ALine l rest) is = absurd is
no_step (AStep run others) is = absurd is
no_step AFetch is = absurd is
no_step ALeave is = absurd is
no_step NoTurn is = tt

-- a node that reads on, with no line left, fetches next if something comes next
fetch_of : (live : Bool) (comes : Next) → IsTurn (next_line live []) (Some comes) → comes ≡ next.Fetch
fetch_of true (next.Line line) is = absurd is
fetch_of true (next.Step run) is = absurd is
fetch_of true next.Fetch is = refl
fetch_of true next.Leave is = absurd is
fetch_of false comes is = absurd is

pub fetch_next : (seat : HeldSeat) (comes : Next) → IsReading [] seat → IsTurn (next_at seat.live seat.node.state seat.node.state.stage) (Some comes) → comes ≡ next.Fetch
fetch_next seat comes reading is =
    fetch_of seat.live comes (subst (λ (nt : NextTurn). IsTurn nt (Some comes)) (ap (λ (s : Stage). next_at seat.live seat.node.state s) reading.stage ∙ reading.waits) is)

pub fetch_why : (comes : Next) → comes ≡ next.Fetch → (w : Why) → w ≡ why_next comes → IsFetch w
fetch_why comes is w h = h ∙ ap why_next is
