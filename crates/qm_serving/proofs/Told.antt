-- What is told of the turns of nodes, and what that says of the sink, the turns and the disks.
use Rattle.std.proofs.Common.{◌≡◌, inl, inr, ℕ, ◌≤◌, Bool, true, false, cond, List, [], length, refl, sym, ◌∙◌, subst, Option, None, Some, arith, slice_get}
use Rattle.std.specs.Io.KnownBytes.{Appends}
use Rattle.qm_node.specs.Ends.{TakesFront}
use Rattle.qm_cluster.proofs.Counting.{appends_none}
use Rattle.qm_history.specs.Common.{counted, turns_kept}
use Rattle.qm_history.specs.declared.turn.Turn.{Turn}
use Rattle.qm_history.specs.Ends.{Damaged, DiskFailed, FileDamaged, HistoryFull, NoMemory, NodeText, Served, ServingEnd, SinkFailed, TurnsSpent, worse}
use Rattle.qm_cluster.specs.Ends.{CountsSink, EndsBy, IsUndamaged, TakesTo, end_of_turns, some_disk_failed, stop_of}
use Rattle.qm_cluster.specs.AllTurns.{AreFull, NoneDamaged}
use Rattle.qm_cluster.proofs.Places.{made_from}
use Rattle.qm_cluster.specs.ClusterEnding.{IsToldBy, ends_of}
use Rattle.qm_serving.specs.ClusterServing.{MayHide}
use Rattle.qm_cluster.proofs.Worst.{AllEnded, NoneCut, Says, ended_none_cut, few_hidden, hidden, none_hidden}

module _ (left : List NodeText) (taken then : Option (List ℕ)) (before now : ℕ) (text : List ℕ) (turns : List Turn) (unread : ℕ) where
  -- what it says
  pub record SaysOf (end : ServingEnd) : Type 0 where
    pub ends : EndsBy end turns
    pub sink : CountsSink end before now
    pub whole : stop_of end ≡ None → AllEnded (ends_of left)
    pub hides : MayHide (stop_of end) (length left) unread
    pub undamaged : NoneDamaged left → IsUndamaged end
    pub printed : (all : List ℕ) → (NoneCut (ends_of left) → text ≡ all) → TakesTo (stop_of end) taken then all

  module _ (few : length turns ≤ turns_kept) (full : AreFull turns_kept turns left) (hides : unread ≤ hidden left) where
    none_hides : NoneCut (ends_of left) → unread ≡ 0
    none_hides whole = let none = none_hidden left whole in omega (arith, hides, none)

    one_hides : unread ≤ length left
    one_hides = let some = few_hidden left in omega (arith, hides, some)

    front_none : then ≡ taken → (all : List ℕ) → TakesFront taken then all
    front_none same all = subst (λ (o : Option (List ℕ)). TakesFront taken o all) (sym same) ([], all, refl, appends_none taken)

    served : Appends taken then text → now ≡ before → AllEnded (ends_of left) → (b : Bool) → some_disk_failed turns ≡ b → SaysOf (cond b DiskFailed Served)
    served took still all true is =
        record {
          ends = is;
          sink = still;
          whole = λ none. all;
          hides = none_hides (ended_none_cut (ends_of left) all);
          undamaged = λ none. tt;
          printed = λ everything same. subst (Appends taken then) (same (ended_none_cut (ends_of left) all)) took;
        }
    served took still all false is =
        record {
          ends = is;
          sink = still;
          whole = λ none. all;
          hides = none_hides (ended_none_cut (ends_of left) all);
          undamaged = λ none. tt;
          printed = λ everything same. subst (Appends taken then) (same (ended_none_cut (ends_of left) all)) took;
        }

    worse_served : (b : Bool) → worse Served (cond b DiskFailed Served) ≡ cond b DiskFailed Served
    worse_served true = refl
    worse_served false = refl

    worse_full : (b : Bool) → worse HistoryFull (cond b DiskFailed Served) ≡ HistoryFull
    worse_full true = refl
    worse_full false = refl

    spent : (k : ℕ) → slice_get (ends_of left) k ≡ Some TurnsSpent → length turns ≡ turns_kept
    spent k there =
        let at = made_from (λ (a : NodeText). a.end) left k TurnsSpent there in
        let most = full k at.0 at.1 at.2 in omega (arith, few, most)

    failed : TakesFront taken then text → now ≡ counted before → NoneCut (ends_of left) → SaysOf SinkFailed
    failed front rose whole =
        record {
          ends = tt;
          sink = rose;
          whole = λ none. cc;
          hides = none_hides whole;
          undamaged = λ none. tt;
          printed = λ everything same. subst (TakesFront taken then) (same whole) front;
        }

    pub told : (worst end : ServingEnd) → Says worst (ends_of left) → IsToldBy worst taken then before now text turns end → SaysOf end
    told Served end h (inl (took, still, is)) =
        subst SaysOf (sym (is ∙ worse_served (some_disk_failed turns))) (served took still h (some_disk_failed turns) refl)
    told Served end h (inr (front, rose, is)) = subst SaysOf (sym is) (failed front rose (ended_none_cut (ends_of left) h))
    told DiskFailed end h t = absurd h
    told SinkFailed end h t = absurd h
    told HistoryFull end h (inl (took, still, is)) =
        subst SaysOf (sym (is ∙ worse_full (some_disk_failed turns)))
        (record {
          ends = spent h.1.0 h.1.1;
          sink = still;
          whole = λ none. cc;
          hides = none_hides h.0;
          undamaged = λ none. tt;
          printed = λ everything same. subst (Appends taken then) (same h.0) took;
        })
    told HistoryFull end h (inr (front, rose, is)) = subst SaysOf (sym is) (failed front rose h.0)
    told (Damaged file place) end h (same_sink, still, is) =
        subst SaysOf (sym is)
        (record {
          ends = tt;
          sink = still;
          whole = λ none. cc;
          hides = one_hides;
          undamaged = λ none. (let at = made_from (λ (a : NodeText). a.end) left h.0 (FileDamaged file place) h.1 in none h.0 at.0 file place at.1 at.2);
          printed = λ everything same. front_none same_sink everything;
        })
    told NoMemory end h (same_sink, still, is) =
        subst SaysOf (sym is)
        (record { ends = tt; sink = still; whole = λ none. cc; hides = one_hides; undamaged = λ none. tt; printed = λ everything same. front_none same_sink everything })
