-- What nodes ask for can be recorded.
use Rattle.std.proofs.Common.{◌≡◌, ℕ, ◌+◌, ◌^◌, ◌<◌, ◌≤◌, Bool, true, false, cond, nat_lt, ◌&&◌, ◌||◌, List, [], ◌∷◌, length, refl, arith, Option, None, Some, IsOk}
use Rattle.std.proofs.lemmas.Bool.Decides.{nat_tests}
use Rattle.qm_chest.specs.At.{CanBeAskedFor, CanBeRecorded}
use Rattle.qm_history.specs.Askable.{HasShortLists, IsAskable}
use Rattle.qm_history.specs.Common.{IsForUsers, FileName, Input, Refusal, Request, System, node_at}
use Rattle.qm_kinds.specs.declared.input.Input.TheVariants as input
use Rattle.qm_kinds.specs.declared.refusal.Refusal.TheVariants.{NumbersSpent, SpoolFull}
use Rattle.qm_kinds.specs.declared.request.Request.TheVariants as request
use Rattle.qm_model.specs.Appending.{bytes_of, is_spool_full, refused_as_named}
use Rattle.qm_model.specs.Applied.{applied, are_numbers_spent, asks_for_numbers, at_moment, change_of, completed, first_refusal_of, refusal_of}
use Rattle.qm_model.specs.Built.{is_built}
use Rattle.qm_model.specs.Due.{due}
use Rattle.qm_model.specs.Outcome.{Accepted, first_refusal, refused_where, unless_refused}
use Rattle.qm_model.proofs.BuiltLemmas.{built_lawful}
use Rattle.qm_record.specs.Spelling.{AreListsShort}

-- ---- what is accepted

not_refused : (o : Option Refusal) (made : Accepted) → IsOk (unless_refused o made) → o ≡ None
not_refused None made ok = refl
not_refused (Some r) made ok = cc

unspent : (spent : Bool) (o : Option Refusal) → cond spent (Some NumbersSpent) o ≡ None → o ≡ None
unspent true o e = cc
unspent false o e = e

-- no rule refuses what is accepted
unrefused : (s : System) (now node : ℕ) (r : Request) → IsOk (applied s now node r) → refusal_of s (node_at node s.nodes) r ≡ None
unrefused s now node r ok =
    unspent (asks_for_numbers r && are_numbers_spent s) (refusal_of s (node_at node s.nodes) r)
    (not_refused (first_refusal_of s (node_at node s.nodes) r) (completed (change_of (due now (at_moment now s)) now (node_at node s.nodes) r)) ok)

-- a file that has room has room for the bytes alone
small_enough : (have more others all known : ℕ) (a b : Bool) → (nat_lt 1048576 (have + more) || a || b) ≡ false → more ≤ 1048576
small_enough have more others all known a b e = grind (arith, nat_tests)

not_full : (test : Bool) → first_refusal (refused_where test SpoolFull ∷ []) ≡ None → test ≡ false
not_full true e = cc
not_full false e = refl

unnamed : (o : Option Refusal) (rest : List (Option Refusal)) → first_refusal (o ∷ rest) ≡ None → first_refusal rest ≡ None
unnamed None rest e = e
unnamed (Some r) rest e = cc

-- the bytes of a request that is accepted are few
accepted_bytes : (s : System) (now node : ℕ) (file : FileName) (bytes : List ℕ) → IsOk (applied s now node (request.Append file bytes)) → length bytes < 2 ^ 32
accepted_bytes s now node file bytes ok =
    let none = unnamed (refused_as_named file s.entries) (refused_where (is_spool_full file (length bytes) s.files) SpoolFull ∷ []) (unrefused s now node (request.Append file bytes) ok) in
    let few = small_enough (length (bytes_of file s.files)) (length bytes) 0 0 0 _ _ (not_full (is_spool_full file (length bytes) s.files) none) in
    omega (arith, few)

accepted_short : (s : System) (now node : ℕ) (r : Request) → is_built r ≡ true → HasShortLists r → IsOk (applied s now node r) → AreListsShort r
accepted_short s now node (request.Append file bytes) built short ok = accepted_bytes s now node file bytes ok
accepted_short s now node (request.Fill file lines) built short ok = tt
accepted_short s now node (request.Drop file) built short ok = tt
accepted_short s now node (request.DefineForm form) built short ok = tt
accepted_short s now node (request.DeleteForm name) built short ok = tt
accepted_short s now node (request.DefineCharacteristic characteristic) built short ok = tt
accepted_short s now node (request.DeleteCharacteristic name) built short ok = tt
accepted_short s now node (request.InitializeQueue new) built short ok = short
accepted_short s now node (request.SetQueue name change) built short ok = short
accepted_short s now node (request.StartQueue name change) built short ok = short
accepted_short s now node (request.StopQueue name how) built short ok = tt
accepted_short s now node (request.AbortJob queue entry requeue) built short ok = tt
accepted_short s now node (request.DeleteQueue name) built short ok = tt
accepted_short s now node (request.Merge to from) built short ok = tt
accepted_short s now node (request.Submit job) built short ok = short
accepted_short s now node (request.SetEntry entry change) built short ok = short
accepted_short s now node (request.DeleteEntry entry) built short ok = tt
accepted_short s now node (request.Mark run value) built short ok = tt
accepted_short s now node (request.Done run status) built short ok = tt
accepted_short s now node request.Tick built short ok = tt
accepted_short s now node request.NodeUp built short ok = tt
accepted_short s now node (request.NodeLost nodes) built short ok = cc
accepted_short s now node (request.Took epoch gone up may) built short ok = cc

built_outside : (r : Request) → is_built r ≡ true → IsForUsers r
built_outside (request.Append file bytes) built = tt
built_outside (request.Fill file lines) built = tt
built_outside (request.Drop file) built = tt
built_outside (request.DefineForm form) built = tt
built_outside (request.DeleteForm name) built = tt
built_outside (request.DefineCharacteristic characteristic) built = tt
built_outside (request.DeleteCharacteristic name) built = tt
built_outside (request.InitializeQueue new) built = tt
built_outside (request.SetQueue name change) built = tt
built_outside (request.StartQueue name change) built = tt
built_outside (request.StopQueue name how) built = tt
built_outside (request.AbortJob queue entry requeue) built = tt
built_outside (request.DeleteQueue name) built = tt
built_outside (request.Merge to from) built = tt
built_outside (request.Submit job) built = tt
built_outside (request.SetEntry entry change) built = tt
built_outside (request.DeleteEntry entry) built = tt
built_outside (request.Mark run value) built = tt
built_outside (request.Done run status) built = tt
built_outside request.Tick built = tt
built_outside request.NodeUp built = cc
built_outside (request.NodeLost nodes) built = cc
built_outside (request.Took epoch gone up may) built = cc

-- ---- what can be recorded

asked_recorded : (node : ℕ) (r : Request) → is_built r ≡ true → HasShortLists r → CanBeRecorded node r
asked_recorded node r built short = record {
  outside = built_outside r built;
  names = λ s there. built_lawful s node r there built;
  short = λ s moment ok. accepted_short s moment node r built short ok;
}

-- what nodes ask for
pub askable_can : (node : ℕ) (what : Input) → IsAskable what → CanBeAskedFor node what
askable_can node (input.Ask asked) can = asked_recorded node asked can.0 can.1
askable_can node (input.Show query) can = tt
askable_can node (input.Fetch known) can = tt
askable_can node input.Compact can = can
askable_can node (input.TakeManager on) can = tt
askable_can node input.StartNode can = tt
askable_can node input.StopNode can = tt
askable_can node (input.Fault place kind) can = tt
