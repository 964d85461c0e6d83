-- Where each event may come, and what it leaves.
-- OpenVMS System Manager's Manual, Managing the Queue Manager and Queue Database, on failover; DCL Dictionary,
-- START/QUEUE/MANAGER. This site's own: epochs, fenced calls and records in doubt.
use Rattle.std.specs.Prelude.{◌≡◌, ◌≢◌, ◌⊎◌, ℕ, ◌+◌, ◌==◌, Bool, true, false, if◌then◌else◌, List, [], ◌∷◌, ◌++◌, slice_set, is_some, Option, None, Some, Result, Ok, Err, IsSome, IsNone, IsTrue, option_and_then}
use Rattle.qm_model.specs.Common.{Refusal, Reply, Request, System, applied, is_among, Accepted, node_at, system_of, request_record}
use Rattle.qm_kinds.specs.declared.request.Request.TheVariants as request
use Rattle.qm_history.specs.declared.event.Event.{Event}
use Rattle.qm_history.specs.declared.event.Event.TheVariants as event
use Rattle.qm_history.specs.declared.world.Role.{Role}
use Rattle.qm_history.specs.declared.world.World.{World}
use Rattle.qm_history.specs.Accepted.{CanFollow}
use Rattle.qm_history.specs.World.{system_in, is_live, held_by, epoch_of, log_read, doubt_read, gone_in, up_with}

-- the role of manager, unless this node has it
abbrev pub unless_of : ℕ → Option Role → Option Role
unless_of node manager = option_and_then (λ (role : Role). if role.node == node then None else Some role) manager

-- the node serves no more, and is manager no more
abbrev pub without : World → ℕ → World
without w node = record w { live = slice_set w.live node false; manager = unless_of node w.manager }

-- the world behind an event; what isn't named stays
abbrev pub after_event : World → Event → World
after_event w (event.Done node moment asked reply) = record w { log = w.log ++ request_record moment node asked ∷ [] }
after_event w (event.Doubt node moment asked) = record w { doubt = Some (request_record moment node asked); manager = None }
after_event w (event.Took node moment epoch gone up may kept) = record w {
  log = log_read w kept ++ request_record moment node (request.Took epoch gone up may) ∷ [];
  doubt = None;
  manager = Some (record { node = node; epoch = epoch });
  greatest = epoch;
  held = slice_set w.held node epoch;
}
after_event w (event.TakeDoubt node tried kept) = record w { log = log_read w kept; doubt = doubt_read w kept; manager = None; greatest = tried }
after_event w (event.CompactDoubt node) = record w { manager = None }
after_event w (event.Stopped node) = without w node
after_event w (event.Left node) = without w node
after_event w (event.Started node) = record w { live = slice_set w.live node true }
after_event w (event.Refused node moment input refusal) = w
after_event w (event.Shown node moment input) = w
after_event w (event.Full node need cap) = w
after_event w (event.NoManager node) = w
after_event w (event.Fenced node held current) = w
after_event w (event.Compacted node epoch file) = w

-- the world behind events, the first one first
abbrev pub after_events : World → List Event → World
after_events w [] = w
after_events w (e ∷ events) = after_events (after_event w e) events

-- the reply of an accepted request is this one
abbrev pub IsReply : Reply → Result Accepted Refusal → Type 0
IsReply reply (Ok accepted) = reply ≡ accepted.reply
IsReply reply (Err refusal) = ⊥

-- the lists of a takeover say which nodes are gone and which are up, and name the node among those that may be manager
pub record NamesNodes (w : World) (s : System) (node : ℕ) (gone up may : List (List ℕ)) : Type 0 where
  pub gone_is : gone ≡ gone_in w s
  pub up_is : up ≡ up_with w node s
  pub named : IsTrue (is_among may (node_at node s.nodes))

-- A node takes over: its epoch is one above the greatest, it tells of the record in doubt where there is one, and its own
-- record follows what was read.
pub record IsTakeover (w : World) (node moment epoch : ℕ) (gone up may : List (List ℕ)) (kept : Option Bool) : Type 0 where
  pub next_epoch : epoch ≡ w.greatest + 1
  pub told : is_some kept ≡ is_some w.doubt
  pub nodes : NamesNodes w (system_of (log_read w kept)) node gone up may
  pub follows : CanFollow (system_of (log_read w kept)) moment node (request.Took epoch gone up may)

-- the record of a takeover may be in doubt where its epoch was recorded and no other record is in doubt
pub record IsTakeoverInDoubt (w : World) (node moment epoch : ℕ) (gone up may : List (List ℕ)) : Type 0 where
  pub no_manager : IsNone w.manager
  pub no_doubt : IsNone w.doubt
  pub epoch_is : epoch ≡ w.greatest
  pub nodes : NamesNodes w (system_in w) node gone up may
  pub follows : CanFollow (system_in w) moment node (request.Took epoch gone up may)

-- a takeover, or a request to the present manager
abbrev pub CanBeInDoubt : World → ℕ → ℕ → Request → Type 0
CanBeInDoubt w node moment (request.Took epoch gone up may) = IsTakeoverInDoubt w node moment epoch gone up may
CanBeInDoubt w node moment asked = IsSome w.manager × CanFollow (system_in w) moment node asked

-- the event may come in this world
abbrev pub CanCome : World → Event → Type 0
CanCome w (event.Took node moment epoch gone up may kept) = IsTakeover w node moment epoch gone up may kept
CanCome w (event.TakeDoubt node tried kept) = ((tried ≡ w.greatest) ⊎ (tried ≡ w.greatest + 1)) × (IsSome kept → IsSome w.doubt)
CanCome w (event.Doubt node moment asked) = CanBeInDoubt w node moment asked
CanCome w (event.Done node moment asked reply) =
    IsSome w.manager × CanFollow (system_in w) moment node asked × IsReply reply (applied (system_in w) moment node asked)
CanCome w (event.Fenced node held current) = (epoch_of w ≡ Some current) × (held ≡ held_by w node) × (held ≢ current)
CanCome w (event.Compacted node epoch file) = (epoch_of w ≡ Some epoch) × ((file ≡ 1) ⊎ (file ≡ 2))
CanCome w (event.CompactDoubt node) = IsSome w.manager
CanCome w (event.Stopped node) = is_live w node ≡ true
CanCome w (event.Left node) = is_live w node ≡ true
CanCome w (event.Started node) = is_live w node ≡ false
CanCome w (event.Refused node moment input refusal) = Unit {0}
CanCome w (event.Shown node moment input) = Unit {0}
CanCome w (event.Full node need cap) = Unit {0}
CanCome w (event.NoManager node) = Unit {0}

-- each event may come behind those before it
abbrev pub CanAllCome : World → List Event → Type 0
CanAllCome w [] = Unit {0}
CanAllCome w (e ∷ events) = CanCome w e × CanAllCome (after_event w e) events

-- an event leads from one world to another
abbrev pub IsStep : World → Event → World → Type 0
IsStep w e after = CanCome w e × (after ≡ after_event w e)
