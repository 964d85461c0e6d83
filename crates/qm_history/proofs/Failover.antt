-- A node takes the role of queue manager, another one takes it over, and the first one's TICK is fenced.
use Rattle.std.proofs.Common.{◌≡◌, ◌≢◌, ℕ, lit<, lit≤, List, [], ◌∷◌, refl, None, arith, codes}
use Rattle.std.specs.Fmt.{digits}
use Rattle.qm_history.specs.Common.{Input, IsLegal, text}
use Rattle.qm_kinds.specs.declared.input.Input.TheVariants as input
use Rattle.qm_kinds.specs.declared.query.Listing.TheVariants.{Manager}
use Rattle.qm_kinds.specs.declared.reply.Act.TheVariants as act
use Rattle.qm_kinds.specs.declared.request.Request.TheVariants as request
use Rattle.qm_history.specs.declared.call.Call.TheVariants as call
use Rattle.qm_history.specs.declared.event.Event.{Event}
use Rattle.qm_history.specs.declared.event.Event.TheVariants as event
use Rattle.qm_history.specs.declared.turn.Turn.{Turn}
use Rattle.qm_history.specs.declared.turn.Why.TheVariants as why
use Rattle.qm_history.specs.declared.world.World.{World}
use Rattle.qm_history.proofs.LegalTurns.{both_fit, follows, none_fit, says, serves, takes}
use Rattle.qm_history.proofs.Serving.{Asked, new_site, world_of, listing_of, history, no_items}

abbrev pub line_of : ℕ → ℕ → Input → Asked
line_of node line asked = record { node = node; reading = 1000; call = call.Line line asked }

-- A shows the manager, B takes the role, A and B each look at the clock
abbrev calls : List Asked
calls =
    line_of 0 1 (input.Show (listing_of Manager None))
    ∷ line_of 1 2 (input.TakeManager None)
    ∷ line_of 0 3 (input.Ask request.Tick)
    ∷ line_of 1 4 (input.Ask request.Tick)
    ∷ []

abbrev both : List (List ℕ)
both = codes "A" ∷ codes "B" ∷ []

abbrev turn : ℕ → ℕ → List Event → Turn
turn node line events = record { node = node; why = why.Line line; moment = 1000; events = events }

abbrev first : Turn
first = turn 0 1 (event.Took 0 1000 1 both both both None ∷ event.Shown 0 1000 (input.Show (listing_of Manager None)) ∷ [])

abbrev second : Turn
second = turn 1 2 (event.Took 1 1000 2 [] both both None ∷ [])

abbrev third : Turn
third = turn 0 3 (event.Fenced 0 1 2 ∷ [])

abbrev fourth : Turn
fourth = turn 1 4 (event.Done 1 1000 request.Tick (record { act = act.Ticked; started = [] }) ∷ [])

abbrev turns : List Turn
turns = first ∷ second ∷ third ∷ fourth ∷ []

abbrev site : World
site = world_of new_site

pub those_turns : history site calls ≡ turns
those_turns = refl

pub their_text : text no_items site turns
    ≡ codes "A 1: rows: 1\nA 1: manager on A::, epoch 1, may run on A,B\nB 2: manager on B::, epoch 2\nA 3: %QMAN-E-FENCED, held 1, current 2\nB 4: tick\n"
unfolding digits
their_text = refl

one_not_two : ◌≢◌ {A = ℕ} 1 2
one_not_two same = absurd (omega (arith, same))

pub they_are_legal : IsLegal site turns
they_are_legal = (
  serves (call.Line 1 (input.Show (listing_of Manager None))) (lit< tt) refl tt (takes refl refl refl refl refl (follows (says (lit< tt) (lit< tt, both_fit, both_fit, both_fit)) (lit< tt) (lit≤ tt) refl (refl, refl, refl) refl), (tt, tt)) (refl, refl, refl, refl),
  (
    serves (call.Line 2 (input.TakeManager None)) (lit< tt) refl tt (takes refl refl refl refl refl (follows (says (lit< tt) (lit< tt, none_fit, both_fit, both_fit)) (lit< tt) (lit≤ tt) refl (refl, refl, refl) refl), tt) (refl, refl, refl, refl),
    (
      serves (call.Line 3 (input.Ask request.Tick)) (lit< tt) refl tt ((refl, refl, one_not_two), tt) refl,
      (
        serves (call.Line 4 (input.Ask request.Tick)) (lit< tt) refl tt ((refl, follows (says (lit< tt) tt) (lit< tt) (lit≤ tt) tt tt refl, refl), tt) (refl, refl, refl, refl),
        tt,
      ),
    ),
  ),
)
