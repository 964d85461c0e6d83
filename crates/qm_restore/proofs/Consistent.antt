-- The records of a queue file stand for a consistent system, whose nodes are called as its first row says.
use Rattle.std.proofs.Common.{◌≡◌, ◌∙◌, ℕ, List, [], ◌∷◌, Result, Ok, Err, refl, sym, ap, subst}
use Rattle.qm_history.specs.Common.{CanStandBehind, Record, Body, Refusal, Request, Node, System, applied, IsConsistent, AreNodes, system_after, after_body, after_record, IsLawful, Accepted}
use Rattle.qm_kinds.specs.declared.record.Body.TheVariants.{Ask, Head, Form, Characteristic, File, Queue, Entry}
use Rattle.qm_restore.specs.QueueFile.{LeadTo, IsFileFrom, IsNewSite, IsSiteFile}
use Rattle.qm_restore.specs.Site.{names_of, new_system}

-- the system of a new site is consistent
abbrev pub BeginsSo : Type 0
BeginsSo = (nodes : List Node) → AreNodes nodes → IsConsistent (new_system nodes)

-- so is the first one of a queue file
pub first_consistent : BeginsSo → (first : System) → IsNewSite first → IsConsistent first
first_consistent begins first new = subst IsConsistent (sym new.is) (begins new.nodes new.proper)

-- a lawful request keeps a system consistent
abbrev pub Keeps : Type 0
Keeps = (s : System) (now node : ℕ) (request : Request) (a : Accepted) → IsConsistent s → IsLawful s node request → applied s now node request ≡ Ok a → IsConsistent a.system

-- a request leaves the nodes their names
abbrev pub LeavesNames : Type 0
LeavesNames = (s : System) (now node : ℕ) (request : Request) (a : Accepted) → applied s now node request ≡ Ok a → names_of a.system.nodes ≡ names_of s.nodes

module _ (leaves : LeavesNames) where
  names_answered : (s : System) (m n : ℕ) (r : Request) (o : Result Accepted Refusal) → applied s m n r ≡ o → names_of (system_after s o).nodes ≡ names_of s.nodes
  names_answered s m n r (Ok a) is = leaves s m n r a is
  names_answered s m n r (Err refusal) is = refl

  names_by_body : (s : System) (m n : ℕ) (b : Body) → CanStandBehind s m n b → names_of (after_body s m n b).nodes ≡ names_of s.nodes
  names_by_body s m n (Ask r) next = names_answered s m n r (applied s m n r) refl
  names_by_body s m n (Head nodes may next_entry next_run last) next = absurd next
  names_by_body s m n (Form f) next = absurd next
  names_by_body s m n (Characteristic c) next = absurd next
  names_by_body s m n (File f) next = absurd next
  names_by_body s m n (Queue q) next = absurd next
  names_by_body s m n (Entry e) next = absurd next

  all_keep : (s t : System) (rs : List Record) → LeadTo s rs t → names_of t.nodes ≡ names_of s.nodes
  all_keep s t [] lead = ap (λ (x : System). names_of x.nodes) (sym lead.leave)
  all_keep s t (r ∷ rs) lead =
      all_keep (after_record s r) t rs (record { stand = lead.stand.1; leave = lead.leave }) ∙ names_by_body s r.moment r.node r.body lead.stand.0

  -- the nodes of a queue file keep their names
  pub names_stay : (first s : System) (bodies : List (List ℕ)) → IsFileFrom first bodies s → names_of s.nodes ≡ names_of first.nodes
  names_stay first s bodies f = all_keep first s f.requests f.lead

module _ (keeps : Keeps) where
  answered : (s : System) (m n : ℕ) (r : Request) → IsConsistent s → IsLawful s n r → (o : Result Accepted Refusal) → applied s m n r ≡ o → IsConsistent (system_after s o)
  answered s m n r sound lawful (Ok a) is = keeps s m n r a sound lawful is
  answered s m n r sound lawful (Err refusal) is = sound

  by_body : (s : System) (m n : ℕ) (b : Body) → IsConsistent s → CanStandBehind s m n b → IsConsistent (after_body s m n b)
  by_body s m n (Ask r) sound next = answered s m n r sound next.names (applied s m n r) refl
  by_body s m n (Head nodes may next_entry next_run last) sound next = absurd next
  by_body s m n (Form f) sound next = absurd next
  by_body s m n (Characteristic c) sound next = absurd next
  by_body s m n (File f) sound next = absurd next
  by_body s m n (Queue q) sound next = absurd next
  by_body s m n (Entry e) sound next = absurd next

  all_records : (s t : System) (rs : List Record) → IsConsistent s → LeadTo s rs t → IsConsistent t
  all_records s t [] sound lead = subst IsConsistent lead.leave sound
  all_records s t (r ∷ rs) sound lead =
      all_records (after_record s r) t rs (by_body s r.moment r.node r.body sound lead.stand.0) (record { stand = lead.stand.1; leave = lead.leave })

  -- the records of a queue file from a consistent system on
  files_consistent : (first s : System) (bodies : List (List ℕ)) → IsConsistent first → IsFileFrom first bodies s → IsConsistent s
  files_consistent first s bodies sound f = all_records first s f.requests sound f.lead

  pub site_files_consistent : BeginsSo → (bodies : List (List ℕ)) (s : System) → IsSiteFile bodies s → IsConsistent s
  site_files_consistent begins bodies s f = files_consistent f.first s bodies (first_consistent begins f.first f.is_new) f.file
