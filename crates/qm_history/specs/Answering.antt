-- Which answers a call may get of which this is the turn.
-- OpenVMS System Services Reference Manual, $SNDJBC and $GETQUI, on what a call returns. This site's own: want of memory behind
-- a takeover, and damage that shows at one.
use Rattle.std.specs.Prelude.{◌≡◌, true, List, [], ◌∷◌, None}
use Rattle.qm_history.specs.declared.call.Answer.{Answer}
use Rattle.qm_history.specs.declared.call.Answer.TheVariants as answer
use Rattle.qm_history.specs.declared.call.Call.{Call}
use Rattle.qm_history.specs.declared.event.Event.{Event}
use Rattle.qm_history.specs.declared.event.Event.TheVariants as event
use Rattle.qm_history.specs.declared.turn.Turn.{Turn}
use Rattle.qm_history.specs.declared.world.World.{World}
use Rattle.qm_history.specs.Answers.{answer_of, takeover_of}
use Rattle.qm_history.specs.Happening.{is_takeover}
use Rattle.qm_history.specs.Turn.{IsTurnOf, IsCutShort}

-- nothing but a takeover, which stands or failed
abbrev pub IsOneTakeover : List Event → Type 0
IsOneTakeover [] = ⊥
IsOneTakeover (e ∷ []) = is_takeover e ≡ true
IsOneTakeover (e ∷ next ∷ events) = ⊥

-- the call was served whole, and the answer is what the last event says
abbrev pub SaysItsEvents : World → Call → Turn → Answer → Type 0
SaysItsEvents w asked t told = IsTurnOf w asked t × (told ≡ answer_of w t)

-- What the events say; or no memory, where the turn holds its takeover and nothing else; or that a file is damaged, where the
-- takeover failed before an epoch was tried and nothing was read. Where no more turns are kept, no turn is made.
abbrev pub MayAnswer : World → Call → Turn → Answer → Type 0
MayAnswer w asked t (answer.NoMemory took) = IsCutShort w asked t × IsOneTakeover t.events × (took ≡ takeover_of w t.events)
MayAnswer w asked t (answer.Damaged file place) =
    IsTurnOf w asked t × (t.events ≡ event.TakeDoubt t.node w.greatest None ∷ [])
MayAnswer w asked t answer.HistoryFull = ⊥
MayAnswer w asked t (answer.Done took moment reply) = SaysItsEvents w asked t (answer.Done took moment reply)
MayAnswer w asked t (answer.Shown took moment rows) = SaysItsEvents w asked t (answer.Shown took moment rows)
MayAnswer w asked t (answer.Duties took moment duties) = SaysItsEvents w asked t (answer.Duties took moment duties)
MayAnswer w asked t (answer.Refused took refusal) = SaysItsEvents w asked t (answer.Refused took refusal)
MayAnswer w asked t (answer.Full took need cap) = SaysItsEvents w asked t (answer.Full took need cap)
MayAnswer w asked t (answer.Journal took live) = SaysItsEvents w asked t (answer.Journal took live)
MayAnswer w asked t (answer.Fenced held current) = SaysItsEvents w asked t (answer.Fenced held current)
MayAnswer w asked t (answer.NoManager took name) = SaysItsEvents w asked t (answer.NoManager took name)
