-- From the course of one node to what is said of all.
use Rattle.std.proofs.Common.{◌≡◌, ℕ, Bool, IsTrue, List, sym, ◌∙◌, subst, Result, Ok, Err, IfErr}
use Rattle.qm_symb.specs.Device.{Meaning}
use Rattle.qm_history.specs.declared.world.World.{World}
use Rattle.qm_history.specs.Common.{FileDamaged, NodeEnd, UserLine}
use Rattle.qm_node.specs.Sides.{Side}
use Rattle.qm_node.specs.declared.turn.TurnEnd.{TurnEnd}
use Rattle.qm_node.specs.declared.turn.TurnEnd.TheVariants as end
use Rattle.qm_node.specs.Ends.{IsUndamaged}
use Rattle.qm_cluster.specs.Driving.{HasDriven, IsDriven, node_end}
use Rattle.qm_cluster.specs.Passes.{AreOwn, turns_in}
use Rattle.qm_cluster.specs.Through.{AtTurnstile, IsThrough}

undamaged_end : (r : Result (Unit {0}) TurnEnd) (file place : ℕ) → IfErr r IsUndamaged → node_end r ≡ FileDamaged file place → ⊥
undamaged_end (Ok done) file place h is = cc
undamaged_end (Err end.Write) file place h is = cc
undamaged_end (Err end.HistoryFull) file place h is = cc
undamaged_end (Err (end.Damaged f p)) file place h is = absurd h
undamaged_end (Err end.NoMemory) file place h is = cc

pub is_through : {Y : Type 0} (y : Meaning Y) (tells : Bool) (may_begin : World → Type 0) (most node : ℕ) (name named : List ℕ) (lines lined : List UserLine) (r : Result (Unit {0}) TurnEnd) (old new : AtTurnstile) (was now : Side Y)
    → named ≡ name → lined ≡ lines → new.end ≡ node_end r
    → HasDriven most node (node_end r) old.known new.known was.told now.told
    → (IsTrue tells → (w : World) → may_begin w → AreOwn node new.known.seen
    → IsDriven y w node named lined (node_end r) (turns_in new.known.seen) was.symbiont now.symbiont old.text new.text)
    → (IsTrue tells → IfErr r IsUndamaged) → IsThrough y tells may_begin most node name lines old new was now
is_through y tells may_begin most node name named lines lined r old new was now same_name same_lines same_end knows drives undamaged =
    record {
      knows = subst (λ (e : NodeEnd). HasDriven most node e old.known new.known was.told now.told) (sym same_end) knows;
      drives = λ sure w begins own.
          subst (λ (n : List ℕ). IsDriven y w node n lines new.end (turns_in new.known.seen) was.symbiont now.symbiont old.text new.text) same_name
          (subst (λ (ls : List UserLine). IsDriven y w node named ls new.end (turns_in new.known.seen) was.symbiont now.symbiont old.text new.text) same_lines
          (subst (λ (e : NodeEnd). IsDriven y w node named lined e (turns_in new.known.seen) was.symbiont now.symbiont old.text new.text) (sym same_end) (drives sure w begins own)));
      undamaged = λ sure file place is. undamaged_end r file place (undamaged sure) (sym same_end ∙ is);
    }
