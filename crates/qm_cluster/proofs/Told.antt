-- How it is told what became of the turns of nodes.
use Rattle.std.proofs.Common.{◌≡◌, inl, inr, ℕ, Bool, true, false, List, sym, subst, Option}
use Rattle.std.specs.Io.KnownBytes.{Appends}
use Rattle.qm_node.specs.Ends.{TakesFront}
use Rattle.qm_disk.specs.Faults.{counted}
use Rattle.qm_history.specs.declared.turn.Turn.{Turn}
use Rattle.qm_history.specs.Ends.{ServingEnd, SinkFailed, worse}
use Rattle.qm_cluster.specs.Ends.{end_of_turns}
use Rattle.qm_cluster.specs.ClusterEnding.{IsTold, IsToldBy, lacks_text}

module _ (worst : ServingEnd) (taken then : Option (List ℕ)) (before now : ℕ) (text : List ℕ) (turns : List Turn) (end : ServingEnd) where
  -- nothing was printed
  pub none_told : lacks_text worst ≡ true → then ≡ taken → now ≡ before → end ≡ worst → IsToldBy worst taken then before now text turns end
  none_told lacks same still is = subst (λ (b : Bool). IsTold b worst taken then before now text turns end) (sym lacks) (same, still, is)

  -- the texts were printed
  pub whole_told : lacks_text worst ≡ false → Appends taken then text → now ≡ before → end ≡ worse worst (end_of_turns turns) → IsToldBy worst taken then before now text turns end
  whole_told lacks took still is = subst (λ (b : Bool). IsTold b worst taken then before now text turns end) (sym lacks) (inl (took, still, is))

  -- the sink failed
  pub failed_told : lacks_text worst ≡ false → TakesFront taken then text → now ≡ counted before → end ≡ SinkFailed → IsToldBy worst taken then before now text turns end
  failed_told lacks front rose is = subst (λ (b : Bool). IsTold b worst taken then before now text turns end) (sym lacks) (inr (front, rose, is))
