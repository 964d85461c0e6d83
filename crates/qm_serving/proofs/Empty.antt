-- A run of which no turn was made.
use Rattle.std.proofs.Common.{◌≡◌, ℕ, Bool, true, false, List, [], ◌∷◌, refl, sym, ◌∙◌, subst, arith, Option, None, Some, slice_get, append-nil}
use Rattle.std.specs.Io.KnownBytes.{Appends}
use Rattle.qm_cluster.specs.Runs.{IsNodeOf, IsRun}
use Rattle.qm_node.specs.Sides.{Side}
use Rattle.qm_history.specs.Serving.{Meaning}
use Rattle.qm_node.specs.Ends.{TakesFront}
use Rattle.qm_history.specs.Common.{Begun, Reading, at_first, next_at, IsWaiting, UserLine, lines_of, is_live}
use Rattle.qm_history.specs.declared.world.World.{World}
use Rattle.qm_symb.specs.Device as symb

pub appends_none : (taken : Option (List ℕ)) → Appends taken taken []
appends_none None = tt
appends_none (Some xs) = sym (append-nil xs)

pub takes_none : (taken : Option (List ℕ)) (text : List ℕ) → TakesFront taken taken text
takes_none taken text = ([], text, refl, appends_none taken)

-- before its first line a node waits
waits_first : (live : Bool) (lines : List UserLine) → IsWaiting Reading (next_at live (at_first lines) Reading)
waits_first true [] = tt
waits_first false [] = tt
waits_first true (l ∷ lines) = tt
waits_first false (l ∷ lines) = tt

module _ {S Y : Type 0} (m : Meaning S) (y : symb.Meaning Y) where
  none_of_node : (w : World) (node : ℕ) (lines : List UserLine) (side : Side Y) → IsNodeOf m y Begun w [] node lines side side
  none_of_node w node lines side = record {
    faults = 0;
    course = record { steps = []; broken = None; turns_are = (tt, refl, tt); few_faults = omega arith };
    rose = refl;
    told = record { told = []; appended = appends_none side.told; are = ([], refl, omega arith) };
    taken = record { handed = []; are_handed = tt; taken = λ tells. sym (append-nil (y.taken side.symbiont)) };
    waits = λ isnt. (at_first lines, is_live w node, (refl, refl, refl), waits_first (is_live w node) lines);
  }

  one_side : (sides : List (Side Y)) (node : ℕ) (before after : Side Y) → slice_get sides node ≡ Some before → slice_get sides node ≡ Some after → before ≡ after
  one_side sides node before after was now = let same : Some before ≡ Some after = sym was ∙ now in cc

  pub none_run : (w : World) (script : List UserLine) (names : List (List ℕ)) (sides : List (Side Y)) → IsRun m y Begun w script names [] sides sides
  none_run w script names sides = record {
    legal = tt;
    order = tt;
    nodes = λ node name before after named was now.
        subst (λ (side : Side Y). IsNodeOf m y Begun w [] node (lines_of name script) before side) (one_side sides node before after was now)
        (none_of_node w node (lines_of name script) before);
  }
