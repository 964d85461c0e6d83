-- What calls ask for, on worked lists of items.
use Rattle.std.proofs.Common.{◌≡◌, ℕ, List, [], ◌∷◌, false, None, Some, Result, Ok, Err, codes, refl}
use Rattle.qm_kinds.specs.declared.entry.JobKind.TheVariants.{Batch}
use Rattle.qm_model.specs.Common.{Default, Input, Ask, Show, Queues, ParseKind, Submit, DeleteEntry, StopQueue, SetEntry, Pause}
use Rattle.qm_kinds.specs.declared.refusal.ParseKind.TheVariants as fault
use Rattle.qm_values.specs.declared.items.item.Item.{Item}
use Rattle.qm_sjc.specs.declared.fault.Fault.{Fault}
use Rattle.qm_values.specs.Asked.{query_of}
use Rattle.qm_sjc.specs.Calls.{call_of}

abbrev item : ℕ → List ℕ → Item
item code value = record { code = code; value = value }

abbrev called : ℕ → List Item → Result Input Fault
called function items = call_of (codes "SMITH") function items

abbrev at_once : ParseKind → Result Input Fault
at_once kind = Err (record { place = 0; kind = kind })

-- a batch job, with all that isn't given
submitted : called 15 (item 1 (codes "NIGHT") ∷ item 2 (codes "J.COM") ∷ item 13 (1 ∷ []) ∷ []) ≡ Ok (Ask (Submit (record {
  user = codes "SMITH";
  kind = Batch;
  queue = codes "NIGHT";
  file = record { name = codes "J"; extension = Some (codes "COM") };
  name = codes "J";
  priority = 100;
  after = None;
  hold = false;
  retain = Default;
  restart = false;
  characteristics = [];
  form = None;
  copies = 1;
  flag = false;
})))
submitted = refl

deleted : called 17 (item 23 (1 ∷ 2 ∷ 0 ∷ 0 ∷ []) ∷ []) ≡ Ok (Ask (DeleteEntry 513))
deleted = refl

paused : called 11 (item 1 (codes "lp") ∷ []) ≡ Ok (Ask (StopQueue (codes "LP") Pause))
paused = refl

-- an empty characteristic alone takes all away
taken : called 16 (item 23 (1 ∷ 0 ∷ 0 ∷ 0 ∷ []) ∷ item 9 [] ∷ []) ≡ Ok (Ask (SetEntry 1 (record {
  release = false;
  hold = false;
  after = None;
  priority = None;
  name = None;
  characteristics = Some [];
  form = None;
  queue = None;
  restart = None;
  retain = None;
})))
taken = refl

listed : called 41 [] ≡ Ok (Show (query_of Queues []))
listed = refl

-- a number that is no function's, nothing to set, a lacking item, an item of another function, a value that is too long
no_function : called 18 [] ≡ at_once fault.Form
no_function = refl

nothing_set : called 9 (item 1 (codes "LP") ∷ []) ≡ at_once fault.Missing
nothing_set = refl

lacking : called 15 (item 13 (1 ∷ []) ∷ []) ≡ at_once fault.Missing
lacking = refl

not_taken : called 17 (item 1 (codes "LP") ∷ []) ≡ at_once fault.Code
not_taken = refl

too_long : called 17 (item 23 (1 ∷ 0 ∷ 0 ∷ 0 ∷ 0 ∷ []) ∷ []) ≡ at_once fault.Value
too_long = refl

flagged : called 15 (item 12 (1 ∷ []) ∷ item 13 (1 ∷ []) ∷ []) ≡ at_once fault.Value
flagged = refl
