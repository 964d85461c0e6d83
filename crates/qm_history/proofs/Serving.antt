-- Calls at a site whose disks don't fail, one after the other, and the turns that they make. For worked cases.
use Rattle.std.proofs.Common.{ℕ, true, false, List, [], ◌∷◌, Option, None, codes, option_map}
use Rattle.qm_kinds.specs.declared.query.Listing.{Listing}
use Rattle.qm_history.specs.Common.{Query, Row, Record, System, after_turn, image_of, site_of}
use Rattle.qm_history.specs.declared.call.Call.{Call}
use Rattle.qm_history.specs.declared.turn.Turn.{Turn}
use Rattle.qm_history.specs.declared.world.World.{World}
use Rattle.qm_history.specs.Computed.{turn_of}

-- a call of a node, when its clock told this
pub record Asked : Type 0 where
  pub node : ℕ
  pub reading : ℕ
  pub call : Call

-- the turn of a call, where a record in doubt is found
abbrev pub turn_made : World → Asked → Turn
turn_made w a = turn_of w a.node a.reading (option_map (λ (r : Record). true) w.doubt) a.call

-- the turns of calls
abbrev pub history : World → List Asked → List Turn
history w [] = []
history w (a ∷ asked) = turn_made w a ∷ history (after_turn w (turn_made w a)) asked

-- two nodes, both down, as they are on new disks
abbrev pub new_site : System
new_site = site_of (codes "A" ∷ codes "B" ∷ [])

-- a program begins on the disks of a site: each node is live, and none has been manager
abbrev pub world_of : System → World
world_of s = record { log = image_of s; doubt = None; manager = None; greatest = 0; live = true ∷ true ∷ []; held = 0 ∷ 0 ∷ [] }

-- a listing of everything, for a user's entries or all
abbrev pub listing_of : Listing → Option (List ℕ) → Query
listing_of what user = record {
  listing = what;
  pattern = codes "*";
  number = None;
  user = user;
  kinds = record { batch = true; print = true; generic_batch = true; generic_print = true };
  queue = None;
  after = None;
  single = false;
}

-- no row is printed as its items
abbrev pub no_items : Row → List ℕ
no_items r = []
