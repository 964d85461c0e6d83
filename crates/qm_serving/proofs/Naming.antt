-- The names of a cluster's nodes, which stay through a history.
use Rattle.std.proofs.Common.{◌≡◌, ℕ, List, [], ◌∷◌, ◌++◌, map, refl, ◌∙◌, ap, Option, None, Some, Ok, slice_get}
use Rattle.std.specs.Option.{option_map, option_map_or, unwrap_or}
use Rattle.std.proofs.lemmas.Option.{slice_get-map}
use Rattle.qm_history.specs.Common.{Node, Record, Request, System, applied, system_of, request_record, Accepted, node_at, IsNext, cluster, IsLegalTurn, after_turn, CanAllCome, CanCome, after_event, after_events, IsSound, log_read, system_in}
use Rattle.qm_kinds.specs.declared.request.Request.TheVariants as request
use Rattle.qm_history.specs.declared.event.Event.{Event}
use Rattle.qm_history.specs.declared.event.Event.TheVariants as event
use Rattle.qm_history.specs.declared.turn.Turn.{Turn}
use Rattle.qm_history.specs.declared.world.World.{World}
use Rattle.qm_history.proofs.LogLemmas.{next_cluster, one_more}
use Rattle.qm_history.proofs.SoundLemmas.{legal_comes, read_log, step_sound, steps_sound}
use Rattle.qm_cluster.specs.Printing.{name_at}

-- the name at a place
pub name_there : (nodes : List Node) (k : ℕ) → name_at (map (λ (n : Node). n.name) nodes) k ≡ node_at k nodes
name_there nodes k = ap (λ (o : Option (List ℕ)). unwrap_or o []) (slice_get-map (λ (n : Node). n.name) nodes k) ∙ by_found (slice_get nodes k)
  where
    by_found : (found : Option Node) → unwrap_or (option_map (λ (n : Node). n.name) found) [] ≡ option_map_or (λ (n : Node). n.name) found []
    by_found None = refl
    by_found (Some n) = refl

module _ (names : (s : System) (now node : ℕ) (asked : Request) (a : Accepted) → applied s now node asked ≡ Ok a → map (λ n. n.name) a.system.nodes ≡ map (λ n. n.name) s.nodes) where
  record_more : (log : List Record) (r : Record) → IsNext (system_of log) r → cluster (system_of (log ++ r ∷ [])) ≡ cluster (system_of log)
  record_more log r can = ap cluster (one_more log r) ∙ next_cluster names (system_of log) r can

  step_names : (w : World) (e : Event) → IsSound w → CanCome w e → cluster (system_in (after_event w e)) ≡ cluster (system_in w)
  step_names w (event.Done node moment asked reply) h can = record_more w.log (request_record moment node asked) can.1
  step_names w (event.Doubt node moment asked) h can = refl
  step_names w (event.Took node moment epoch gone up may kept) h can =
      record_more (log_read w kept) (request_record moment node (request.Took epoch gone up may)) can.follows ∙ (read_log names w kept h).same
  step_names w (event.TakeDoubt node tried kept) h can = (read_log names w kept h).same
  step_names w (event.CompactDoubt node) h can = refl
  step_names w (event.Stopped node) h can = refl
  step_names w (event.Left node) h can = refl
  step_names w (event.Started node) h can = refl
  step_names w (event.Refused node moment input refusal) h can = refl
  step_names w (event.Shown node moment input) h can = refl
  step_names w (event.Full node need cap) h can = refl
  step_names w (event.NoManager node) h can = refl
  step_names w (event.Fenced node held current) h can = refl
  step_names w (event.Compacted node epoch file) h can = refl

  steps_names : (w : World) (events : List Event) → IsSound w → CanAllCome w events → cluster (system_in (after_events w events)) ≡ cluster (system_in w)
  steps_names w [] h can = refl
  steps_names w (e ∷ events) h can = steps_names (after_event w e) events (step_sound names w e h can.0) can.1 ∙ step_names w e h can.0

  pub turn_names_stay : (w : World) (t : Turn) → IsSound w → IsLegalTurn w t → cluster (system_in (after_turn w t)) ≡ cluster (system_in w)
  turn_names_stay w t h legal = steps_names w t.events h (legal_comes w t legal)

  pub turn_sound : (w : World) (t : Turn) → IsSound w → IsLegalTurn w t → IsSound (after_turn w t)
  turn_sound w t h legal = steps_sound names w t.events h (legal_comes w t legal)
