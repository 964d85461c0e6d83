-- What keeps a world sound.
use Rattle.std.proofs.Common.{◌≡◌, ℕ, ◌<◌, Bool, true, false, cond, List, [], ◌∷◌, ◌++◌, length, map, inl, inr, refl, sym, ◌∙◌, ap, subst, Option, None, Some, Ok, ◌==◌, IfSome, IsSome, IsNone, slice_set, option_to_list}
use Rattle.std.proofs.lemmas.List.{append-nil, length-set, length-map}
use Rattle.qm_history.specs.Common.{Record, Request, System, applied, Accepted, cluster, CanFollow, IsNext, IsAccepted, system_of, after_turn, after_turns, IsLegalTurn, IsLegal, request_record, unless_of, after_event, after_events, CanBeInDoubt, CanCome, CanAllCome, system_in, log_read, doubt_read, IsSound}
use Rattle.qm_kinds.specs.declared.request.Request.TheVariants as request
use Rattle.qm_history.specs.declared.event.Event.{Event}
use Rattle.qm_history.specs.declared.event.Event.TheVariants as event
use Rattle.qm_history.specs.declared.world.Role.{Role}
use Rattle.qm_history.specs.declared.world.World.{World}
use Rattle.qm_history.specs.declared.turn.Turn.{Turn}
use Rattle.qm_history.proofs.LogLemmas.{one_more, accepted_append, next_cluster}

none_beside : (d : Option Record) (m : Option Role) → IsSome m → (IsSome d → IsNone m) → d ≡ None
none_beside None m some alone = refl
none_beside (Some r) None some alone = cc
none_beside (Some r) (Some role) some alone = let none : IsNone {T = Role} (Some role) = alone refl in cc

if_none : (P : Record → Type 0) (d : Option Record) → d ≡ None → IfSome d P
if_none P d none = subst (λ x. IfSome x P) (sym none) tt

unless_at : (P : Role → Type 0) (role : Role) (b : Bool) → P role → IfSome (cond b None (Some role)) P
unless_at P role true h = tt
unless_at P role false h = h

unless_in : (P : Role → Type 0) (node : ℕ) (m : Option Role) → IfSome m P → IfSome (unless_of node m) P
unless_in P node None h = tt
unless_in P node (Some role) h = unless_at P role (role.node == node) h

unless_none : (node : ℕ) (m : Option Role) → IsNone m → IsNone (unless_of node m)
unless_none node None none = refl
unless_none node (Some role) none = cc

-- the events of a legal turn may all come
pub legal_comes : (w : World) (t : Turn) → IsLegalTurn w t → CanAllCome w t.events
legal_comes w t (asked, inl whole) = whole.0.can_come
legal_comes w t (asked, inr short) = short.0.can_come

module _ (names : (s : System) (now node : ℕ) (asked : Request) (a : Accepted) → applied s now node asked ≡ Ok a → map (λ n. n.name) a.system.nodes ≡ map (λ n. n.name) s.nodes) where
  pub as_many : (s t : System) → cluster t ≡ cluster s → length t.nodes ≡ length s.nodes
  as_many s t same = sym (length-map t.nodes (λ n. n.name)) ∙ ap length same ∙ length-map s.nodes (λ n. n.name)

  one_more_cluster : (log : List Record) (r : Record) → IsNext (system_of log) r → cluster (system_of (log ++ r ∷ [])) ≡ cluster (system_of log)
  one_more_cluster log r can = ap cluster (one_more log r) ∙ next_cluster names (system_of log) r can

  -- the log as reading shows it
  pub record IsReading (log before : List Record) : Type 0 where
    pub accepted : IsAccepted log
    pub same : cluster (system_of log) ≡ cluster (system_of before)

  pub with_doubt : (log : List Record) (d : Option Record) → IsAccepted log → IfSome d (IsNext (system_of log)) → IsReading (log ++ option_to_list d) log
  with_doubt log None h can = subst (λ x. IsReading x log) (sym (append-nil log)) (record { accepted = h; same = refl })
  with_doubt log (Some r) h can = record { accepted = accepted_append log r h can; same = one_more_cluster log r can }

  pub read_log : (w : World) (kept : Option Bool) → IsSound w → IsReading (log_read w kept) w.log
  read_log w None h = record { accepted = h.log; same = refl }
  read_log w (Some false) h = record { accepted = h.log; same = refl }
  read_log w (Some true) h = with_doubt w.log w.doubt h.log h.doubt

  -- a world with another log of the same cluster
  again : (w v : World) → IsSound w → IsAccepted v.log → cluster (system_in v) ≡ cluster (system_in w)
      → length v.live ≡ length w.live → length v.held ≡ length w.held → IfSome v.manager (λ (role : Role). role.node < length (system_in w).nodes)
      → IfSome v.doubt (IsNext (system_in v)) → (IsSome v.doubt → IsNone v.manager) → IsSound v
  again w v h log same live held manager doubt alone =
      let size : length (system_in v).nodes ≡ length (system_in w).nodes = as_many (system_in w) (system_in v) same in
      record {
        log = log;
        live = live ∙ h.live ∙ sym size;
        held = held ∙ h.held ∙ sym size;
        manager = subst (λ n. IfSome v.manager (λ (role : Role). role.node < n)) (sym size) manager;
        doubt = doubt;
        alone = alone;
      }

  pub doubt_follows : (w : World) (node moment : ℕ) (asked : Request) → CanBeInDoubt w node moment asked → CanFollow (system_in w) moment node asked
  doubt_follows w node moment (request.Took epoch gone up may) can = can.follows
  doubt_follows w node moment asked can = can.1

  done_sound : (w : World) (node moment : ℕ) (asked : Request) → IsSound w → IsSome w.manager → CanFollow (system_in w) moment node asked
      → IsSound (record w { log = w.log ++ request_record moment node asked ∷ [] })
  done_sound w node moment asked h up can =
      let r : Record = request_record moment node asked in
      let v : World = record w { log = w.log ++ r ∷ [] } in
      again w v h (accepted_append w.log r h.log can) (one_more_cluster w.log r can) refl refl h.manager
      (if_none (IsNext (system_in v)) w.doubt (none_beside w.doubt w.manager up h.alone)) h.alone

  read_doubt : (w : World) (kept : Option Bool) → IsSound w → IfSome (doubt_read w kept) (IsNext (system_of (log_read w kept)))
  read_doubt w None h = h.doubt
  read_doubt w (Some kept) h = tt

  going_sound : (w : World) (node : ℕ) → IsSound w → IsSound (record w { live = slice_set w.live node false; manager = unless_of node w.manager })
  going_sound w node h =
      again w (record w { live = slice_set w.live node false; manager = unless_of node w.manager }) h h.log refl (length-set w.live node false) refl
      (unless_in (λ (role : Role). role.node < length (system_in w).nodes) node w.manager h.manager) h.doubt (λ some. unless_none node w.manager (h.alone some))

  pub step_sound : (w : World) (e : Event) → IsSound w → CanCome w e → IsSound (after_event w e)
  step_sound w (event.Done node moment asked reply) h can = done_sound w node moment asked h can.0 can.1
  step_sound w (event.Doubt node moment asked) h can =
      again w (after_event w (event.Doubt node moment asked)) h h.log refl refl refl tt (doubt_follows w node moment asked can) (λ some. refl)
  step_sound w (event.Took node moment epoch gone up may kept) h can =
      let v : World = after_event w (event.Took node moment epoch gone up may kept) in
      let reading = read_log w kept h in
      let r : Record = request_record moment node (request.Took epoch gone up may) in
      let log : List Record = log_read w kept in
      again w v h (accepted_append log r reading.accepted can.follows) (one_more_cluster log r can.follows ∙ reading.same) refl (length-set w.held node epoch)
      (subst (λ n. node < n) (as_many (system_in w) (system_of log) reading.same) can.follows.node_there) tt (λ some. cc)
  step_sound w (event.TakeDoubt node tried kept) h can =
      let reading = read_log w kept h in
      again w (after_event w (event.TakeDoubt node tried kept)) h reading.accepted reading.same refl refl tt (read_doubt w kept h) (λ some. refl)
  step_sound w (event.CompactDoubt node) h can = again w (record w { manager = None }) h h.log refl refl refl tt h.doubt (λ some. refl)
  step_sound w (event.Stopped node) h can = going_sound w node h
  step_sound w (event.Left node) h can = going_sound w node h
  step_sound w (event.Started node) h can =
      again w (record w { live = slice_set w.live node true }) h h.log refl (length-set w.live node true) refl h.manager h.doubt h.alone
  step_sound w _ h can = h

  pub steps_sound : (w : World) (events : List Event) → IsSound w → CanAllCome w events → IsSound (after_events w events)
  steps_sound w [] h can = h
  steps_sound w (e ∷ events) h can = steps_sound (after_event w e) events (step_sound w e h can.0) can.1

  pub history_sound : (w : World) (turns : List Turn) → IsSound w → IsLegal w turns → IsSound (after_turns w turns)
  history_sound w [] h legal = h
  history_sound w (t ∷ turns) h legal = history_sound (after_turn w t) turns (steps_sound w t.events h (legal_comes w t legal.0)) legal.1
