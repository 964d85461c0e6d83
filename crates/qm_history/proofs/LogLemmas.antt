-- What records stand for, and which may follow.
use Rattle.std.proofs.Common.{◌≡◌, ℕ, List, [], ◌∷◌, ◌++◌, map, refl, sym, ◌∙◌, ap, subst, Ok, Err, Result, IsOk, append_assoc, append-nil}
use Rattle.qm_history.specs.Common.{Record, Body, Refusal, Request, System, applied, IsConsistent, IsLawful, Accepted, cluster, CanFollow, IsNext, AreNext, IsAccepted, CanStandBehind, no_system, system_after, after_body, after_record, replayed, system_of, row, image_of}
use Rattle.qm_kinds.specs.declared.record.Body.TheVariants as body

-- ---- records one behind another

pub replayed_append : (s : System) (a b : List Record) → replayed s (a ++ b) ≡ replayed (replayed s a) b
replayed_append s [] b = refl
replayed_append s (r ∷ a) b = replayed_append (after_record s r) a b

pub one_more : (log : List Record) (r : Record) → system_of (log ++ r ∷ []) ≡ after_record (system_of log) r
one_more log r = replayed_append no_system log (r ∷ [])

-- ---- an image stands for its system

-- rows of one kind, each of which adds one element
added : {X : Type 0} (to_row : X → Record) (whole : List X → System) → ((xs : List X) (x : X) → after_record (whole xs) (to_row x) ≡ whole (xs ++ x ∷ []))
    → (xs ys : List X) → replayed (whole xs) (map to_row ys) ≡ whole (xs ++ ys)
added to_row whole adds xs [] = ap whole (sym (append-nil xs))
added to_row whole adds xs (y ∷ ys) =
    ap (λ s. replayed s (map to_row ys)) (adds xs y) ∙ added to_row whole adds (xs ++ y ∷ []) ys ∙ ap whole (append_assoc xs (y ∷ []) ys)

-- the same, with rows behind them
added_before : {X : Type 0} (to_row : X → Record) (whole : List X → System) → ((xs : List X) (x : X) → after_record (whole xs) (to_row x) ≡ whole (xs ++ x ∷ []))
    → (ys : List X) (more : List Record) → replayed (whole []) (map to_row ys ++ more) ≡ replayed (whole ys) more
added_before to_row whole adds ys more = replayed_append (whole []) (map to_row ys) more ∙ ap (λ s. replayed s more) (added to_row whole adds [] ys)

pub image_stands : (s : System) → system_of (image_of s) ≡ s
image_stands s =
    let entry_rows : List Record = map (λ e. row (body.Entry e)) s.entries in
    let queue_rows : List Record = map (λ q. row (body.Queue q)) s.queues ++ entry_rows in
    let file_rows : List Record = map (λ f. row (body.File f)) s.files ++ queue_rows in
    let characteristic_rows : List Record = map (λ c. row (body.Characteristic c)) s.characteristics ++ file_rows in
    let head : System = record no_system { nodes = s.nodes; may = s.may; next_entry = s.next_entry; next_run = s.next_run; last = s.last } in
    added_before (λ f. row (body.Form f)) (λ fs. record head { forms = fs }) (λ xs x. refl) s.forms characteristic_rows
    ∙ added_before (λ c. row (body.Characteristic c)) (λ cs. record head { forms = s.forms; characteristics = cs }) (λ xs x. refl) s.characteristics file_rows
    ∙ added_before (λ f. row (body.File f)) (λ fs. record head { forms = s.forms; characteristics = s.characteristics; files = fs }) (λ xs x. refl) s.files queue_rows
    ∙ added_before (λ q. row (body.Queue q)) (λ qs. record head { forms = s.forms; characteristics = s.characteristics; files = s.files; queues = qs }) (λ xs x. refl) s.queues entry_rows
    ∙ added (λ e. row (body.Entry e)) (λ es. record s { entries = es }) (λ xs x. refl) [] s.entries

-- ---- a record that may follow

-- what an accepted request leaves
module _ (P : System → Type 0) (s : System) where
  after_ok : (res : Result Accepted Refusal) → ((a : Accepted) → res ≡ Ok a → P a.system) → IsOk res → P (system_after s res)
  after_ok (Ok a) each ok = each a refl
  after_ok (Err r) each ok = cc

-- where each request that may follow keeps a property of systems, each record does
module _ (P : System → System → Type 0)
    (keeps : (s : System) (now node : ℕ) (asked : Request) (a : Accepted) → CanFollow s now node asked → applied s now node asked ≡ Ok a → P s a.system)
  where
    pub next_keeps_body : (s : System) (now node : ℕ) (b : Body) → CanStandBehind s now node b → P s (after_body s now node b)
    next_keeps_body s now node (body.Ask asked) can =
        after_ok (P s) s (applied s now node asked) (λ a is. keeps s now node asked a can is) can.accepted
    next_keeps_body s now node (body.Head nodes may next_entry next_run last) can = absurd can
    next_keeps_body s now node _ can = absurd can

    pub next_keeps : (s : System) (r : Record) → IsNext s r → P s (after_record s r)
    next_keeps s r can = next_keeps_body s r.moment r.node r.body can

pub all_keep : (P : System → Type 0) → ((s : System) (r : Record) → IsNext s r → P s → P (after_record s r))
    → (s : System) (records : List Record) → AreNext s records → P s → P (replayed s records)
all_keep P keeps s [] next h = h
all_keep P keeps s (r ∷ records) next h = all_keep P keeps (after_record s r) records next.1 (keeps s r next.0 h)

-- one more
pub next_append : (s : System) (records : List Record) (r : Record) → AreNext s records → IsNext (replayed s records) r → AreNext s (records ++ r ∷ [])
next_append s [] r next can = (can, tt)
next_append s (x ∷ records) r next can = (next.0, next_append (after_record s x) records r next.1 can)

-- the system of an accepted log is what its requests leave of its image
pub of_accepted : (log : List Record) → (h : IsAccepted log) → system_of log ≡ replayed h.image h.requests
of_accepted log h =
    ap system_of h.whole ∙ replayed_append no_system (image_of h.image) h.requests ∙ ap (λ s. replayed s h.requests) (image_stands h.image)

pub accepted_append : (log : List Record) (r : Record) → IsAccepted log → IsNext (system_of log) r → IsAccepted (log ++ r ∷ [])
accepted_append log r h can = record {
  image = h.image;
  requests = h.requests ++ r ∷ [];
  consistent = h.consistent;
  spelled = h.spelled;
  whole = ap (λ x. x ++ r ∷ []) h.whole ∙ append_assoc (image_of h.image) h.requests (r ∷ []);
  next = next_append h.image h.requests r h.next (subst (λ s. IsNext s r) (of_accepted log h) can);
}

-- an accepted log stands for a consistent system, where accepted requests keep systems consistent
module _ (keeps : (s : System) (now node : ℕ) (asked : Request) (a : Accepted) → IsConsistent s → IsLawful s node asked → applied s now node asked ≡ Ok a → IsConsistent a.system) where
  pub next_consistent : (s : System) (r : Record) → IsNext s r → IsConsistent s → IsConsistent (after_record s r)
  next_consistent s r can sound =
      next_keeps (λ x y. IsConsistent x → IsConsistent y) (λ x now node asked a follows is h. keeps x now node asked a h follows.names is) s r can sound

  pub accepted_consistent : (log : List Record) → IsAccepted log → IsConsistent (system_of log)
  accepted_consistent log h =
      subst IsConsistent (sym (of_accepted log h)) (all_keep IsConsistent next_consistent h.image h.requests h.next h.consistent)

-- no record takes a node away, where no request does
module _ (names : (s : System) (now node : ℕ) (asked : Request) (a : Accepted) → applied s now node asked ≡ Ok a → map (λ n. n.name) a.system.nodes ≡ map (λ n. n.name) s.nodes) where
  pub next_cluster : (s : System) (r : Record) → IsNext s r → cluster (after_record s r) ≡ cluster s
  next_cluster s r can = next_keeps (λ x y. cluster y ≡ cluster x) (λ x now node asked a follows is. names x now node asked a is) s r can
