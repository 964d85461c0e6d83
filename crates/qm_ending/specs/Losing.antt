-- What the loss of nodes leaves of an entry.
use Rattle.std.specs.Prelude.{◌≡◌, ℕ, true, List, Option}
use Rattle.qm_model.specs.Common.{Entry, Queue, after_loss}
use Rattle.qm_parts.specs.Nodes.{is_run_on_one}

-- this is left of the entry, whichever nodes are lost, so long as its run is on one of them
abbrev pub IsLeftByLoss : List Queue → ℕ → Entry → Option Entry → Type 0
IsLeftByLoss queues now e left = (lost : List (List ℕ)) → is_run_on_one lost e ≡ true → left ≡ after_loss queues now lost e.state e
