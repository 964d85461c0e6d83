-- Turns of one node among those of others.
use Rattle.std.proofs.Common.{◌≡◌, ◌≢◌, ◌+◌, ℕ, Bool, true, false, cond, List, [], ◌∷◌, ◌++◌, refl, sym, ◌∙◌, ap, subst, None, Some, arith, ◌==◌}
use Rattle.std.proofs.lemmas.Bool.Decides.{nat_tests}
use Rattle.qm_symb.specs.Device as symb
use Rattle.qm_history.specs.declared.turn.Turn.{Turn}
use Rattle.qm_history.specs.declared.turn.Why.{Why}
use Rattle.qm_history.specs.declared.world.World.{World}
use Rattle.qm_history.specs.Common.{Whole, Begun, GoesOn, NodeState, failed_steps, next_at, after_turn, after_turns, Reaches, Visit, visits, visits_of, is_live}
use Rattle.qm_history.specs.Order.{IsWaiting, last_node}
use Rattle.qm_history.proofs.EventLemmas.{turns_append}
use Rattle.qm_history.proofs.HistoryLemmas.{visits_of_append}
use Rattle.qm_node.specs.Asking.{read_built}
use Rattle.qm_cluster.specs.Runs.{NodeGoes, NodeStops}
use Rattle.qm_node.specs.Sides.{Side}
use Rattle.qm_history.specs.Serving.{Meaning}
use Rattle.qm_node.specs.Standing.{IsBehind, Standing}
use Rattle.qm_node.specs.Outside.{Outside}
use Rattle.qm_node.specs.Taken.{AreTold}
use Rattle.qm_cluster.specs.Turning.{AreOf, GoesAt, StopsAt}
use Rattle.qm_node.specs.declared.turn.TurnEnd.{TurnEnd}
use Rattle.qm_cluster.proofs.Behind.{behind_none, behind_on}
use Rattle.qm_cluster.proofs.Counting.{appends_none, rose_on}
use Rattle.qm_cluster.proofs.Joining.{failed_append, few_on, rises_on, taken_on, told_on, told_to}
use Rattle.qm_cluster.proofs.Reached.{goes_on, reaches_on}
use Rattle.qm_cluster.proofs.Stepping.{none_taken}

-- ---- which turns are a node's

same_test : (a b : ℕ) → a ≡ b → (a == b) ≡ true
same_test a b is = grind (arith, nat_tests)

other_test : (a b : ℕ) → (a ≡ b → ⊥) → (a == b) ≡ false
other_test a b isnt = grind (arith, nat_tests)

pub all_of : (w : World) (node : ℕ) (May : Why → Type 0) (turns : List Turn) → AreOf node May turns → visits_of node w turns ≡ visits w turns
all_of w node May [] of = refl
all_of w node May (t ∷ turns) of =
    ap (λ (b : Bool). cond b (record { before = w; turn = t } ∷ visits_of node (after_turn w t) turns) (visits_of node (after_turn w t) turns)) (same_test t.node node of.0.0)
    ∙ ap (λ (vs : List Visit). record { before = w; turn = t } ∷ vs) (all_of (after_turn w t) node May turns of.1)

pub none_of_them : (w : World) (node other : ℕ) (May : Why → Type 0) (turns : List Turn) → AreOf node May turns → (other ≡ node → ⊥) → visits_of other w turns ≡ []
none_of_them w node other May [] of differs = refl
none_of_them w node other May (t ∷ turns) of differs =
    ap (λ (b : Bool). cond b (record { before = w; turn = t } ∷ visits_of other (after_turn w t) turns) (visits_of other (after_turn w t) turns))
    (other_test t.node other (λ same. differs (sym same ∙ of.0.0)))
    ∙ none_of_them (after_turn w t) node other May turns of.1 differs

-- the last of them is one of its own
pub last_of : (node : ℕ) (May : Why → Type 0) (t : Turn) (turns : List Turn) → AreOf node May (t ∷ turns) → last_node (t ∷ turns) ≡ Some node
last_of node May t [] of = ap Some of.0.0
last_of node May t (u ∷ turns) of = last_of node May u turns of.1

pub last_append : (a b : List Turn) (node : ℕ) → last_node b ≡ Some node → last_node (a ++ b) ≡ Some node
last_append [] b node is = is
last_append (t ∷ []) [] node is = cc
last_append (t ∷ []) (u ∷ b) node is = is
last_append (t ∷ u ∷ a) b node is = last_append (u ∷ a) b node is

-- ---- what a node does

abbrev pub side : {S Y : Type 0} → Outside S Y → Side Y
side o = record { told = o.told; symbiont = o.symbiont }

module _ {S Y : Type 0} (m : Meaning S) (y : symb.Meaning Y) where
  -- its own turns
  pub own_goes : (May : Why → Type 0) (w : World) (node : ℕ) (here there : Standing) (turns : List Turn) (old new : Outside S Y) → AreOf node May turns
      → GoesAt m y w node here there turns old new → NodeGoes m y w node here there turns (side old) (side new)
  own_goes May w node here there turns old new of g =
      let vs = all_of w node May turns of in
      record {
        steps = g.steps;
        reaches = λ earlier behind. subst (λ (l : List Visit). Reaches read_built here.state earlier here.live l g.steps there.state there.live) (sym vs) (g.reaches earlier behind);
        behind = λ earlier behind. subst (λ (l : List Visit). IsBehind (earlier ++ l) there) (sym vs) (g.behind earlier behind);
        live = λ live. g.live;
        down = g.down;
        told = subst (λ (l : List Visit). AreTold Whole l old.told new.told) (sym vs) g.told;
        rose = g.rose;
        taken = g.taken;
      }

  -- turns of another node
  pub other_goes : (May : Why → Type 0) (w : World) (node other : ℕ) (here : Standing) (turns : List Turn) (was : Side Y) → AreOf node May turns → (other ≡ node → ⊥)
      → is_live (after_turns w turns) other ≡ is_live w other → NodeGoes m y w other here here turns was was
  other_goes May w node other here turns was of differs stays =
      let vs = none_of_them w node other May turns of differs in
      record {
        steps = [];
        reaches = λ earlier behind. subst (λ (l : List Visit). Reaches read_built here.state earlier here.live l [] here.state here.live) (sym vs) (refl, refl, refl);
        behind = λ earlier behind. subst (λ (l : List Visit). IsBehind (earlier ++ l) here) (sym vs) (behind_none earlier here behind);
        live = λ live. live ∙ sym stays;
        down = λ was_down. was_down;
        told = subst (λ (l : List Visit). AreTold Whole l was.told was.told) (sym vs) (record { told = []; appended = appends_none was.told; are = refl });
        rose = refl;
        taken = none_taken y was.symbiont;
      }

  -- turns behind others
  pub node_then : (w : World) (node : ℕ) (here mid there : Standing) (a b : List Turn) (was between now : Side Y) → here.live ≡ is_live w node → NodeGoes m y w node here mid a was between
      → NodeGoes m y (after_turns w a) node mid there b between now → NodeGoes m y w node here there (a ++ b) was now
  node_then w node here mid there a b was between now live one two =
      let vs = visits_of_append node w a b in
      record {
        steps = one.steps ++ two.steps;
        reaches = λ earlier behind. subst (λ (l : List Visit). Reaches read_built here.state earlier here.live l (one.steps ++ two.steps) there.state there.live) (sym vs)
            (reaches_on (visits_of node (after_turns w a) b) two.steps mid.state there.state mid.live there.live (visits_of node w a) earlier here.state here.live one.steps
            (one.reaches earlier behind) (two.reaches (earlier ++ visits_of node w a) (one.behind earlier behind)));
        behind = λ earlier behind. subst (λ (l : List Visit). IsBehind (earlier ++ l) there) (sym vs)
            (behind_on earlier (visits_of node w a) (visits_of node (after_turns w a) b) there (two.behind (earlier ++ visits_of node w a) (one.behind earlier behind)));
        live = λ live. two.live (one.live live) ∙ ap (λ (v : World). is_live v node) (sym (turns_append w a b));
        down = λ was_down. two.down (one.down was_down);
        told = subst (λ (l : List Visit). AreTold Whole l was.told now.told) (sym vs)
            (told_on (visits_of node w a) (visits_of node (after_turns w a) b) was.told between.told now.told one.told two.told);
        rose = rises_on y one.steps two.steps was.symbiont between.symbiont now.symbiont one.rose two.rose;
        taken = taken_on y one.steps two.steps None was.symbiont between.symbiont now.symbiont one.taken two.taken;
      }

  -- up to an end
  pub node_stops_then : (w : World) (node : ℕ) (here mid : Standing) (a b : List Turn) (was between now : Side Y) → NodeGoes m y w node here mid a was between
      → NodeStops m y (after_turns w a) node mid b between now → NodeStops m y w node here (a ++ b) was now
  node_stops_then w node here mid a b was between now one two =
      let vs = visits_of_append node w a b in
      record {
        steps = one.steps ++ two.steps;
        broken = two.broken;
        goes_on = λ earlier behind. subst (λ (l : List Visit). GoesOn read_built Begun two.broken here.state earlier here.live l (one.steps ++ two.steps)) (sym vs)
            (goes_on Begun two.broken (visits_of node (after_turns w a) b) two.steps mid.state mid.live (visits_of node w a) earlier here.state here.live one.steps
            (one.reaches earlier behind) (two.goes_on (earlier ++ visits_of node w a) (one.behind earlier behind)));
        told = subst (λ (l : List Visit). AreTold Begun l was.told now.told) (sym vs)
            (told_to (visits_of node w a) (visits_of node (after_turns w a) b) was.told between.told now.told one.told two.told);
        faults = failed_steps one.steps + two.faults;
        rose = rose_on (failed_steps one.steps) two.faults (y.faults was.symbiont) (y.faults between.symbiont) (y.faults now.symbiont) one.rose two.rose;
        few_faults = few_on (failed_steps one.steps) (failed_steps two.steps) two.faults (failed_steps (one.steps ++ two.steps)) (failed_append one.steps two.steps) two.few_faults;
        taken = taken_on y one.steps two.steps two.broken was.symbiont between.symbiont now.symbiont one.taken two.taken;
        waits = λ isnt earlier behind.
            let waiting = two.waits (λ is. isnt (last_append a b node is)) (earlier ++ visits_of node w a) (one.behind earlier behind) in (
              waiting.0,
              waiting.1,
              subst (λ (l : List Visit). Reaches read_built here.state earlier here.live l (one.steps ++ two.steps) waiting.0 waiting.1) (sym vs)
                  (reaches_on (visits_of node (after_turns w a) b) two.steps mid.state waiting.0 mid.live waiting.1 (visits_of node w a) earlier here.state here.live one.steps
                  (one.reaches earlier behind) waiting.2),
              waiting.3,
            );
      }

  own_waits : (May : Why → Type 0) (w : World) (node : ℕ) (here : Standing) (turns : List Turn) (old new : Outside S Y) (stopped : TurnEnd) → AreOf node May turns
      → IsWaiting here.state.stage (next_at here.live here.state here.state.stage) → (g : StopsAt m y w node here turns old new stopped) → last_node turns ≢ Some node → (earlier : List Visit) → IsBehind earlier here
      → (then : NodeState) × (then_live : Bool) × Reaches read_built here.state earlier here.live (visits_of node w turns) g.steps then then_live × IsWaiting then.stage (next_at then_live then then.stage)
  own_waits May w node here [] old new stopped of waits g isnt earlier behind = (here.state, here.live, ((g.goes_on earlier behind).1, refl, refl), waits)
  own_waits May w node here (t ∷ turns) old new stopped of waits g isnt earlier behind = absurd (isnt (last_of node May t turns of))

  -- a node that stopped, whose turn was the last one, or that waits
  pub own_stops : (May : Why → Type 0) (w : World) (node : ℕ) (here : Standing) (turns : List Turn) (old new : Outside S Y) (stopped : TurnEnd) → AreOf node May turns
      → IsWaiting here.state.stage (next_at here.live here.state here.state.stage) → StopsAt m y w node here turns old new stopped → NodeStops m y w node here turns (side old) (side new)
  own_stops May w node here turns old new stopped of waits g =
      let vs = all_of w node May turns of in
      record {
        steps = g.steps;
        broken = g.broken;
        goes_on = λ earlier behind. subst (λ (l : List Visit). GoesOn read_built Begun g.broken here.state earlier here.live l g.steps) (sym vs) (g.goes_on earlier behind);
        told = subst (λ (l : List Visit). AreTold Begun l old.told new.told) (sym vs) g.told;
        faults = g.faults;
        rose = g.rose;
        few_faults = g.few_faults;
        taken = g.taken;
        waits = own_waits May w node here turns old new stopped of waits g;
      }

  pub other_stops : (May : Why → Type 0) (w : World) (node other : ℕ) (here : Standing) (turns : List Turn) (was : Side Y) → AreOf node May turns → (other ≡ node → ⊥)
      → IsWaiting here.state.stage (next_at here.live here.state here.state.stage) → NodeStops m y w other here turns was was
  other_stops May w node other here turns was of differs waits =
      let vs = none_of_them w node other May turns of differs in
      record {
        steps = [];
        broken = None;
        goes_on = λ earlier behind. subst (λ (l : List Visit). GoesOn read_built Begun None here.state earlier here.live l []) (sym vs) (tt, refl, tt);
        told = subst (λ (l : List Visit). AreTold Begun l was.told was.told) (sym vs) (record { told = []; appended = appends_none was.told; are = ([], refl, omega arith) });
        faults = 0;
        rose = refl;
        few_faults = omega arith;
        taken = none_taken y was.symbiont;
        waits = λ isnt earlier behind. (
          here.state,
          here.live,
          subst (λ (l : List Visit). Reaches read_built here.state earlier here.live l [] here.state here.live) (sym vs) (refl, refl, refl),
          waits,
        );
      }
