-- How serving ends, by how the turns of nodes did.
-- This site's own: which end counts, and that nothing is printed where a node's text may not be whole.
use Rattle.std.specs.Prelude.{◌≡◌, ◌⊎◌, ℕ, Bool, true, false, List, map, Option}
use Rattle.std.specs.Io.KnownBytes.{Appends}
use Rattle.qm_node.specs.Ends.{TakesFront}
use Rattle.qm_disk.specs.Faults.{counted}
use Rattle.qm_history.specs.declared.turn.Turn.{Turn}
use Rattle.qm_history.specs.Ends.{Damaged, DiskFailed, HistoryFull, NoMemory, NodeEnd, NodeText, Served, ServingEnd, SinkFailed, end_of, texts_printed, worse}
use Rattle.qm_cluster.specs.Ends.{end_of_turns}
use Rattle.qm_cluster.specs.Printing.{turns_line}

abbrev pub ends_of : List NodeText → List NodeEnd
ends_of left = map (λ (at : NodeText). at.end) left

-- the end that counts of those of the nodes' turns
abbrev pub worst_of : List NodeText → ServingEnd
worst_of left = end_of (ends_of left) Served

-- where it is this, some node's text may not be whole
abbrev pub lacks_text : ServingEnd → Bool
lacks_text Served = false
lacks_text DiskFailed = false
lacks_text SinkFailed = false
lacks_text HistoryFull = false
lacks_text (Damaged file place) = true
lacks_text NoMemory = true

-- Nothing was printed, and the end is that of the nodes; or the sink took the text, and the end is that of the nodes and the turns; or
-- it failed, which it counts, and took a beginning.
abbrev pub IsTold : Bool → ServingEnd → Option (List ℕ) → Option (List ℕ) → ℕ → ℕ → List ℕ → List Turn → ServingEnd → Type 0
IsTold true worst taken then before now text turns end = (then ≡ taken) × (now ≡ before) × (end ≡ worst)
IsTold false worst taken then before now text turns end =
    (Appends taken then text × (now ≡ before) × (end ≡ worse worst (end_of_turns turns))) ⊎ (TakesFront taken then text × (now ≡ counted before) × (end ≡ SinkFailed))

-- which of these, by the end that counts of the nodes'
abbrev pub IsToldBy : ServingEnd → Option (List ℕ) → Option (List ℕ) → ℕ → ℕ → List ℕ → List Turn → ServingEnd → Type 0
IsToldBy worst taken then before now text turns end = IsTold (lacks_text worst) worst taken then before now text turns end

-- which of these, by the texts that the nodes left, and the turns
abbrev pub TellsTexts : List (List ℕ) → List NodeText → List Turn → Option (List ℕ) → Option (List ℕ) → ℕ → ℕ → ServingEnd → Type 0
TellsTexts names left turns taken then before now end =
    IsToldBy (worst_of left) taken then before now (texts_printed (turns_line names turns) left) turns end
