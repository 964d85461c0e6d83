-- What can be asked of a manager: requests of users, and what the queue manager writes down of nodes.
use Rattle.std.proofs.Common.{◌≡◌, ℕ, ◌<◌, List, [], ◌∷◌, length, sym, subst, arith}
use Rattle.qm_history.specs.Common.{Request, System, acting, IsConsistent, node_at, cluster, HasListsOfNodes, IsListOfNodes, IsForUsers}
use Rattle.qm_kinds.specs.declared.request.Request.TheVariants as request
use Rattle.qm_acting.specs.Asking.{CanBeAsked}
use Rattle.qm_history.proofs.NodeLemmas.{ArePicked, distinct_apart, one_picked, picked_is_list}
use Rattle.qm_chest.specs.At.{CanBeRecorded}

user_lists : (s : System) (asked : Request) → IsForUsers asked → HasListsOfNodes s asked
user_lists s (request.NodeLost nodes) users = absurd users
user_lists s (request.Took epoch gone up may) users = absurd users
user_lists s asked users = tt

-- a node of the cluster is a list of its nodes
one_is_list : (s : System) (node : ℕ) (name : List ℕ) → IsConsistent s → node < length s.nodes → name ≡ node_at node s.nodes → IsListOfNodes s (name ∷ [])
one_is_list s node name consistent there named =
    picked_is_list (name ∷ []) (cluster s) (distinct_apart s.nodes consistent.nodes.distinct)
    (subst (λ (n : List ℕ). ArePicked (n ∷ []) (cluster s)) (sym named) (one_picked node s.nodes there))

module _ (s : System) (node now : ℕ) (there : node < length s.nodes) where
  pub can_ask : (asked : Request) → CanBeRecorded node asked → CanBeAsked s (acting now s) node asked
  can_ask asked can = record {
    node_there = there;
    not_earlier = omega arith;
    names = can.names s there;
    lists = user_lists s asked can.outside;
    short = can.short s (acting now s);
  }

  pub can_start : CanBeAsked s (acting now s) node request.NodeUp
  can_start = record {
    node_there = there;
    not_earlier = omega arith;
    names = tt;
    lists = tt;
    short = λ ok. tt;
  }

  pub can_lose : (name : List ℕ) → name ≡ node_at node s.nodes → IsConsistent s → CanBeAsked s (acting now s) node (request.NodeLost (name ∷ []))
  can_lose name named consistent = record {
    node_there = there;
    not_earlier = omega arith;
    names = tt;
    lists = one_is_list s node name consistent there named;
    short = λ ok. omega arith;
  }
