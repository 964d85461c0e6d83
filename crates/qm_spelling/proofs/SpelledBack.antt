-- Each full spelling is read as what it was spelled of.
use Rattle.std.proofs.Common.{ℕ, List}
use Rattle.qm_model.specs.Common.{Input, Ask, Show, TakeManager, Request, DefineForm, DeleteForm, DefineCharacteristic, DeleteCharacteristic, InitializeQueue, SetQueue, StartQueue, StopQueue, AbortJob, DeleteQueue, Merge, Submit, SetEntry, DeleteEntry}
use Rattle.qm_spelling.specs.Lawful.{IsRequestOf, IsInputOf}
use Rattle.qm_spelling.specs.ReadBack.{ReadsBack}
use Rattle.qm_spelling.proofs.SpelledTimes.{TimesRead}
use Rattle.qm_spelling.proofs.SpelledDeletions.{form_deletion, characteristic_deletion, queue_deletion, entry_deletion, merge}
use Rattle.qm_spelling.proofs.SpelledForms.{form_back, characteristic_back}
use Rattle.qm_spelling.proofs.SpelledQueues.{set_back, start_back}
use Rattle.qm_spelling.proofs.SpelledStops.{stop_back, abort_back}
use Rattle.qm_spelling.proofs.SpelledNewQueues.{new_back}
use Rattle.qm_spelling.proofs.SpelledListings.{query_back}
use Rattle.qm_spelling.proofs.SpelledManager.{manager_start_back}
use Rattle.qm_spelling.proofs.SpelledJobs.{submit_back}
use Rattle.qm_spelling.proofs.SpelledEntries.{entry_back}

module _ (times : TimesRead) (user : List ℕ) where
  request_back : (request : Request) → IsRequestOf user request → ReadsBack user (Ask request)
  request_back (DefineForm form) is = form_back user form is
  request_back (DeleteForm name) is = form_deletion user name is
  request_back (DefineCharacteristic characteristic) is = characteristic_back user characteristic is
  request_back (DeleteCharacteristic name) is = characteristic_deletion user name is
  request_back (InitializeQueue new) is = new_back user new is
  request_back (SetQueue name change) is = set_back user name is.0 change is.1
  request_back (StartQueue name change) is = start_back user name is.0 change is.1
  request_back (StopQueue name how) is = stop_back user name is how
  request_back (AbortJob queue entry requeue) is = abort_back user queue is.0 entry requeue is.1
  request_back (DeleteQueue name) is = queue_deletion user name is
  request_back (Merge to from) is = merge user to from is.0 is.1
  request_back (Submit job) is = submit_back times user job is
  request_back (SetEntry entry change) is = entry_back times user entry is.0 change is.1
  request_back (DeleteEntry entry) is = entry_deletion user entry is
  request_back _ is = λ now text h. absurd cc

  pub input_back : (input : Input) → IsInputOf user input → ReadsBack user input
  input_back (Ask request) is = request_back request is
  input_back (Show query) is = query_back user query is
  input_back (TakeManager on) is = manager_start_back user on is
  input_back _ is = λ now text h. absurd cc
