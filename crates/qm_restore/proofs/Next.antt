-- Which record can be the next one of a queue file, and that its records are an accepted log.
use Rattle.std.proofs.Common.{◌≡◌, ◌∙◌, ℕ, List, [], ◌∷◌, ◌++◌, map, Result, Ok, Err, IsOk, refl, sym, ap, subst}
use Rattle.std.specs.List.{AllByRecursion}
use Rattle.qm_history.proofs.LogLemmas.{image_stands, replayed_append}
use Rattle.qm_history.specs.Common.{HasListsOfNodes, CanFollow, CanStandBehind, IsAccepted, IsNext, Record, Body, Refusal, Request, System, applied, IsConsistent, after_record, no_system, replayed, system_after, system_of, image_of, Accepted, HasSpelling, record_text}
use Rattle.qm_kinds.specs.declared.record.Body.TheVariants.{Ask, Head, Form, Characteristic, File, Queue, Entry}
use Rattle.qm_kinds.specs.declared.request.Request.TheVariants.{NodeLost, Took}
use Rattle.qm_restore.specs.QueueFile.{CanAct, IsFileFrom}
use Rattle.qm_restore.specs.Restoring.{GoesTo, CannotStand}

-- a request without lists of nodes
pub no_lists : (s : System) (asked : Request) → ((nodes : List (List ℕ)) → asked ≡ NodeLost nodes → ⊥) → ((epoch : ℕ) (gone up may : List (List ℕ)) → asked ≡ Took epoch gone up may → ⊥) → HasListsOfNodes s asked
no_lists s (NodeLost nodes) no_loss no_manager = absurd (no_loss nodes refl)
no_lists s (Took epoch gone up may) no_loss no_manager = absurd (no_manager epoch gone up may refl)
no_lists s _ no_loss no_manager = tt

-- a row can't be the next record
pub no_row : (s : System) (r : Record) → ((asked : Request) → r.body ≡ Ask asked → ⊥) → CannotStand s r
no_row s r not = by_body r.body not
  where
    by_body : (b : Body) → ((asked : Request) → b ≡ Ask asked → ⊥) → CanStandBehind s r.moment r.node b → ⊥
    by_body (Ask asked) other next = other asked refl
    by_body (Head nodes may next_entry next_run last) other next = next
    by_body (Form f) other next = next
    by_body (Characteristic c) other next = next
    by_body (File f) other next = next
    by_body (Queue q) other next = next
    by_body (Entry e) other next = next

module _ (s : System) (r : Record) (asked : Request) (is : r.body ≡ Ask asked) where
  -- what can be the next record
  can_follow : IsNext s r → CanFollow s r.moment r.node asked
  can_follow next = subst (λ (b : Body). CanStandBehind s r.moment r.node b) is next

  -- can act,
  pub cannot_act : (CanAct s r.moment r.node asked → ⊥) → CannotStand s r
  cannot_act not next =
      let follows = can_follow next in
      not (record { not_earlier = follows.not_earlier; node_there = follows.node_there; names = follows.names; lists = follows.lists })

  -- and isn't refused,
  pub is_refused : (refusal : Refusal) → applied s r.moment r.node asked ≡ Err refusal → CannotStand s r
  is_refused refusal refused next = no_answer (applied s r.moment r.node asked) refused (can_follow next).accepted
    where
      no_answer : (o : Result Accepted Refusal) → o ≡ Err refusal → IsOk o → ⊥
      no_answer (Ok a) is ok = cc
      no_answer (Err other) is ok = cc

  -- and the other way round
  pub is_next : HasSpelling r → CanAct s r.moment r.node asked → IsOk (applied s r.moment r.node asked) → IsNext s r
  is_next spelled can accepted = subst (λ (b : Body). CanStandBehind s r.moment r.node b) (sym is) (record {
    spelled = subst (λ (b : Body). HasSpelling (record { moment = r.moment; node = r.node; body = b })) is spelled;
    node_there = can.node_there;
    not_earlier = can.not_earlier;
    names = can.names;
    lists = can.lists;
    accepted = accepted;
  })

  -- it leaves what the rules of requests say
  pub goes_to : (a : Accepted) (t : System) → HasSpelling r → CanAct s r.moment r.node asked → applied s r.moment r.node asked ≡ Ok a → a.system ≡ t → GoesTo s r t
  goes_to a t spelled can accepted left = (
    is_next spelled can (subst (λ (o : Result Accepted Refusal). IsOk o) (sym accepted) refl),
    ap (λ (b : Body). after_record s (record { moment = r.moment; node = r.node; body = b })) is ∙ ap (system_after s) accepted ∙ left,
  )

-- those in front are spelled as all are
front_fits : (front behind : List Record) → AllByRecursion HasSpelling (front ++ behind) → AllByRecursion HasSpelling front
front_fits [] behind fits = tt
front_fits (r ∷ front) behind fits = (fits.0, front_fits front behind fits.1)

-- the records of a queue file from a consistent system on are an accepted log, which stands for its system
pub file_is_accepted : (first s : System) (bodies : List (List ℕ)) → IsConsistent first → IsFileFrom first bodies s
    → (log : List Record) × (bodies ≡ map record_text log) × IsAccepted log × (system_of log ≡ s)
file_is_accepted first s bodies consistent f = (
  image_of first ++ f.requests,
  f.spelled,
  record {
    image = first;
    requests = f.requests;
    consistent = consistent;
    spelled = front_fits (image_of first) f.requests f.fit;
    whole = refl;
    next = f.lead.stand;
  },
  replayed_append no_system (image_of first) f.requests ∙ ap (λ (t : System). replayed t f.requests) (image_stands first) ∙ f.lead.leave,
)
