-- What a worked case shows of a turn that may be made: facts about literal worlds, each of which computes.
use Rattle.std.proofs.Common.{◌≡◌, ℕ, ◌<◌, ◌≤◌, ◌+◌, ◌^◌, lit<, lit≤, Bool, true, false, List, [], ◌∷◌, refl, length, inl, Option, codes, is_some, IsTrue, IsOk}
use Rattle.qm_history.specs.Common.{Request, System, applied, is_among, system_of, IsLawful, request_record, node_at, CanFollow, HasListsOfNodes, input_of, why_of, IsFromOutside, IsLegalTurn, IsServed, gone_in, log_read, system_in, up_with}
use Rattle.qm_kinds.specs.declared.request.Request.TheVariants as request
use Rattle.qm_bytes.specs.Spelling.{IsList, IsName}
use Rattle.qm_record.specs.Spelling.{HasSpelling, RequestFits}
use Rattle.qm_history.specs.declared.call.Call.{Call}
use Rattle.qm_history.specs.declared.turn.Turn.{Turn}
use Rattle.qm_history.specs.declared.world.World.{World}
use Rattle.qm_history.specs.Step.{CanAllCome, IsTakeover}

-- ---- spellings

not_so : {A : Type 0} → ◌≡◌ {A = Bool} false true → A
not_so is = absurd (cc)

-- the record of the request is spelled, at the moment of the cases, where the request is
pub says : {node : ℕ} {asked : Request} → node < 2 ^ 8 → RequestFits asked → HasSpelling (request_record 1000 node asked)
says there fits = record { moment_fits = lit≤ tt; node_fits = there; body_fits = fits; row_moment = not_so; row_node = not_so }

pub a_is_name : IsName (codes "A")
a_is_name = record { some = lit< tt; few = lit≤ tt; lawful = refl }

pub b_is_name : IsName (codes "B")
b_is_name = record { some = lit< tt; few = lit≤ tt; lawful = refl }

-- lists of the two nodes
pub none_fit : IsList IsName []
none_fit = record { few = lit< tt; each = tt }

pub a_fits : IsList IsName (codes "A" ∷ [])
a_fits = record { few = lit< tt; each = (a_is_name, tt) }

pub b_fits : IsList IsName (codes "B" ∷ [])
b_fits = record { few = lit< tt; each = (b_is_name, tt) }

pub both_fit : IsList IsName (codes "A" ∷ codes "B" ∷ [])
both_fit = record { few = lit< tt; each = (a_is_name, (b_is_name, tt)) }

-- ---- turns

-- the request can be the next record: it is spelled, its node is there, its moment isn't earlier, its names and lists keep their rules, and it
-- isn't refused
pub follows : {s : System} {moment node : ℕ} {asked : Request} → HasSpelling (request_record moment node asked) → node < length s.nodes → s.last ≤ moment → IsLawful s node asked
    → HasListsOfNodes s asked → IsOk (applied s moment node asked) → CanFollow s moment node asked
follows {s} {moment} {node} {asked} spelled there not_earlier names lists accepted =
    record { spelled = spelled; node_there = there; not_earlier = not_earlier; names = names; lists = lists; accepted = accepted }

-- the takeover may come: its epoch is the next one, it tells of the record in doubt, its lists of nodes are what they are, and
-- its record can be the next one
pub takes : {w : World} {node moment epoch : ℕ} {gone up may : List (List ℕ)} {kept : Option Bool} → epoch ≡ w.greatest + 1
    → is_some kept ≡ is_some w.doubt → gone ≡ gone_in w (system_of (log_read w kept)) → up ≡ up_with w node (system_of (log_read w kept))
    → IsTrue (is_among may (node_at node (system_of (log_read w kept)).nodes))
    → CanFollow (system_of (log_read w kept)) moment node (request.Took epoch gone up may)
    → IsTakeover w node moment epoch gone up may kept
takes {w} {node} {moment} {epoch} {gone} {up} {may} {kept} next told gone_is up_is named can =
    record { next_epoch = next; told = told; nodes = record { gone_is = gone_is; up_is = up_is; named = named }; follows = can }

-- the turn serves the call whole: its node is there, why it is made is so, the call comes from outside, its events may come, and
-- they serve the call
pub serves : {w : World} {t : Turn} (asked : Call) → t.node < length (system_in w).nodes → t.why ≡ why_of asked → IsFromOutside (input_of asked)
    → CanAllCome w t.events → IsServed w t.node t.moment asked t.events → IsLegalTurn w t
serves {w} {t} asked there why outside come served =
    (asked, inl (record { node_there = there; why_is = why; outside = outside; can_come = come }, served))
