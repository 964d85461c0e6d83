-- What an accepted request is to the queue file: its record can follow, and the file goes on with it.
use Rattle.std.proofs.Common.{◌≡◌, ℕ, List, [], ◌∷◌, ◌++◌, Result, Ok, refl, sym, ap, subst, IsOk}
use Rattle.qm_history.specs.Common.{CanFollow, Refusal, Request, System, applied, after_record, system_after, request_record, Accepted, HasSpelling}
use Rattle.qm_restore.specs.QueueFile.{IsSiteFile}
use Rattle.qm_restore.proofs.Going.{file_goes_on}
use Rattle.qm_acting.specs.Asking.{text_of, CanBeAsked}

pub is_ok : (s : System) (moment node : ℕ) (asked : Request) (a : Accepted) → applied s moment node asked ≡ Ok a → IsOk (applied s moment node asked)
is_ok s moment node asked a accepted = subst (λ (o : Result Accepted Refusal). IsOk o) (sym accepted) refl

-- its record can follow, where it is spelled
pub follows : (s : System) (moment node : ℕ) (asked : Request) (a : Accepted) → CanBeAsked s moment node asked → HasSpelling (request_record moment node asked)
    → applied s moment node asked ≡ Ok a → CanFollow s moment node asked
follows s moment node asked a can spelled accepted = record {
  spelled = spelled;
  node_there = can.node_there;
  not_earlier = can.not_earlier;
  names = can.names;
  lists = can.lists;
  accepted = is_ok s moment node asked a accepted;
}

-- the file goes on with the record, and stands for the system behind it
pub goes_on : (bodies : List (List ℕ)) (s : System) (moment node : ℕ) (asked : Request) → IsSiteFile bodies s → CanFollow s moment node asked
    → IsSiteFile (bodies ++ text_of moment node asked ∷ []) (after_record s (request_record moment node asked))
goes_on bodies s moment node asked file next =
    file_goes_on bodies s (after_record s (request_record moment node asked)) (request_record moment node asked) file next.spelled (next, refl)

-- the same by what is made of the request, and by the text that spells its record
pub goes_on_so : (bodies : List (List ℕ)) (s : System) (moment node : ℕ) (asked : Request) (a : Accepted) (text : List ℕ) → IsSiteFile bodies s → CanFollow s moment node asked
    → applied s moment node asked ≡ Ok a → text ≡ text_of moment node asked → IsSiteFile (bodies ++ text ∷ []) a.system
goes_on_so bodies s moment node asked a text file next accepted is =
    subst (λ (t : System). IsSiteFile (bodies ++ text ∷ []) t) (ap (system_after s) accepted)
    (subst (λ (x : List ℕ). IsSiteFile (bodies ++ x ∷ []) (after_record s (request_record moment node asked))) (sym is)
    (goes_on bodies s moment node asked file next))
