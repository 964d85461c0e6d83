-- A queue system between two turns, and what makes it sound.
-- OpenVMS System Manager's Manual, Managing the Queue Manager and Queue Database, on the queue manager and failover.
-- This site's own: that each takeover begins a new epoch, and the record in doubt.
use Rattle.std.specs.Prelude.{◌≡◌, ◌<◌, ℕ, ◌==◌, Bool, true, false, not, ◌&&◌, if◌then◌else◌, List, [], ◌∷◌, ◌++◌, length, slice_get, slice_set, unwrap_or, option_to_list, Option, None, Some, IfSome, IsSome, IsNone, option_map}
use Rattle.std.specs.List.{list_all}
use Rattle.qm_model.specs.Common.{Record, Node, System, ManagerRole, node_at, system_of}
use Rattle.qm_history.specs.declared.world.Role.{Role}
use Rattle.qm_history.specs.declared.world.World.{World}
use Rattle.qm_history.specs.Accepted.{cluster, IsAccepted, IsNext}

-- the system that the log stands for
abbrev pub system_in : World → System
system_in w = system_of w.log

-- the node is live: it serves its lines
abbrev pub is_live : World → ℕ → Bool
is_live w node = unwrap_or (slice_get w.live node) false

-- the epoch that the node holds, or 0
abbrev pub held_by : World → ℕ → ℕ
held_by w node = unwrap_or (slice_get w.held node) 0

-- the epoch of the present manager
abbrev pub epoch_of : World → Option ℕ
epoch_of w = option_map (λ (role : Role). role.epoch) w.manager

-- the manager as listings show it
abbrev pub role_in : World → Option ManagerRole
role_in w = option_map (λ (role : Role). record { node = node_at role.node (system_in w).nodes; epoch = role.epoch }) w.manager

-- the log with the record that was in doubt, where reading the file showed that it is there
abbrev pub log_read : World → Option Bool → List Record
log_read w None = w.log
log_read w (Some false) = w.log
log_read w (Some true) = w.log ++ option_to_list w.doubt

-- what is still in doubt once the file was read or not
abbrev pub doubt_read : World → Option Bool → Option Record
doubt_read w None = w.doubt
doubt_read w (Some kept) = None

-- the nodes that pass a test, which is told of each whether it is live
abbrev pub nodes_where : (Bool → Node → Bool) → List Bool → List Node → List (List ℕ)
nodes_where test live [] = []
nodes_where test [] (n ∷ nodes) = if test false n then n.name ∷ nodes_where test [] nodes else nodes_where test [] nodes
nodes_where test (l ∷ live) (n ∷ nodes) = if test l n then n.name ∷ nodes_where test live nodes else nodes_where test live nodes

-- no node of this run of the program has been manager so far
abbrev pub is_none_taken : World → Bool
is_none_taken w = list_all (λ epoch. epoch == 0) w.held

-- the nodes whose runs a takeover finds lost: all, where it is the program's first, and else those that are up and not live
abbrev pub gone_in : World → System → List (List ℕ)
gone_in w s = if is_none_taken w then cluster s else nodes_where (λ live n. n.up && not live) w.live s.nodes

-- the nodes that are up from a takeover on: the live ones, and the one that takes over
abbrev pub up_with : World → ℕ → System → List (List ℕ)
up_with w node s = nodes_where (λ live n. live) (slice_set w.live node true) s.nodes

-- The log is accepted, each node has a place in both lists, the manager is a node of the cluster, and a record in doubt may
-- stand behind the log, and stands beside no manager.
pub record IsSound (w : World) : Type 0 where
  pub log : IsAccepted w.log
  pub live : length w.live ≡ length (system_in w).nodes
  pub held : length w.held ≡ length (system_in w).nodes
  pub manager : IfSome w.manager (λ (role : Role). role.node < length (system_in w).nodes)
  pub doubt : IfSome w.doubt (IsNext (system_in w))
  pub alone : IsSome w.doubt → IsNone w.manager
