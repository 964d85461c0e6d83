-- Records in doubt, takeovers that fail, and losses that have no room.
use Rattle.std.proofs.Common.{◌≡◌, ℕ, lit<, lit≤, Bool, true, false, List, [], ◌∷◌, ◌++◌, refl, inr, None, Some, map, codes, option_to_list}
use Rattle.std.specs.Fmt.{digits}
use Rattle.qm_kinds.specs.declared.file.File.{File}
use Rattle.qm_history.specs.Common.{FileName, Request, after_turn, after_turns, IsLegal, IsLegalTurn, text, system_in}
use Rattle.qm_kinds.specs.declared.input.Input.TheVariants as input
use Rattle.qm_kinds.specs.declared.reply.Act.TheVariants as act
use Rattle.qm_kinds.specs.declared.request.Request.TheVariants as request
use Rattle.qm_record.specs.Spelling.{RequestFits}
use Rattle.qm_history.specs.declared.call.Call.TheVariants as call
use Rattle.qm_history.specs.declared.event.Event.{Event}
use Rattle.qm_history.specs.declared.event.Event.TheVariants as event
use Rattle.qm_history.specs.declared.turn.Turn.{Turn}
use Rattle.qm_history.specs.declared.turn.Why.TheVariants as why
use Rattle.qm_history.specs.declared.world.World.{World}
use Rattle.qm_history.specs.Leaving.{MayBeLeft}
use Rattle.qm_history.proofs.LegalTurns.{a_fits, both_fit, follows, none_fit, says, serves, takes}
use Rattle.qm_history.proofs.Serving.{new_site, world_of, no_items}

abbrev turn : ℕ → ℕ → List Event → Turn
turn node line events = record { node = node; why = why.Line line; moment = 1000; events = events }

abbrev both : List (List ℕ)
both = codes "A" ∷ codes "B" ∷ []

-- ---- an append whose record is in doubt

abbrev append : Request
append = request.Append (record { name = codes "J"; extension = Some (codes "COM") }) (codes "$ EXIT 1\n")

append_fits : RequestFits append
append_fits = (
  record { name = record { some = lit< tt; few = lit≤ tt; lawful = refl }; extension = record { some = lit< tt; few = lit≤ tt; lawful = refl } },
  record { few = lit< tt; all = (lit< tt, (lit< tt, (lit< tt, (lit< tt, (lit< tt, (lit< tt, (lit< tt, (lit< tt, (lit< tt, tt))))))))) },
)

-- A takes the role over, and a disk fails at the record of its append
abbrev failed : Turn
failed = turn 0 1 (event.Took 0 1000 1 both both both None ∷ event.Doubt 0 1000 append ∷ [])

-- the next call takes over, and reads whether the record is there
abbrev next : Bool → Turn
next kept = turn 1 2 (event.Took 1 1000 2 [] both both (Some kept) ∷ event.Done 1 1000 request.Tick (record { act = act.Ticked; started = [] }) ∷ [])

abbrev site : World
site = world_of new_site

abbrev both_turns : Bool → List Turn
both_turns kept = failed ∷ next kept ∷ []

pub text_of_kept : text no_items site (both_turns true) ≡ codes "A 1: %QMAN-F-JOURNAL\nB 2: %QMAN-I-KEPT\nB 2: tick\n"
unfolding digits
text_of_kept = refl

pub text_of_not_kept : text no_items site (both_turns false) ≡ codes "A 1: %QMAN-F-JOURNAL\nB 2: %QMAN-I-NOTKEPT\nB 2: tick\n"
unfolding digits
text_of_not_kept = refl

abbrev file_names : World → List FileName
file_names w = map (λ (f : File). f.name) (system_in w).files

pub the_file_is_there : file_names (after_turns site (both_turns true)) ≡ record { name = codes "J"; extension = Some (codes "COM") } ∷ []
the_file_is_there = refl

pub the_file_is_not_there : file_names (after_turns site (both_turns false)) ≡ []
the_file_is_not_there = refl

-- a crash behind the failed append leaves the log with its record or without it, and both are what a crash within the turn
-- may leave
pub left_with_it : MayBeLeft site failed ((after_turns site (failed ∷ [])).log ++ option_to_list (after_turns site (failed ∷ [])).doubt)
left_with_it = inr (inr (2, refl))

pub left_without_it : MayBeLeft site failed (after_turns site (failed ∷ [])).log
left_without_it = inr (inr (1, refl))

-- the next turn may leave the record that was in doubt, and behind it its own
pub left_by_the_next : MayBeLeft (after_turns site (failed ∷ [])) (next true) (after_turns site (both_turns true)).log
left_by_the_next = inr (inr (2, refl))

-- while the record is in doubt there is no manager
pub no_manager_in_doubt : (after_turns site (failed ∷ [])).manager ≡ None
no_manager_in_doubt = refl

failed_is_legal : IsLegalTurn site failed
failed_is_legal =
    serves (call.Line 1 (input.Ask append)) (lit< tt) refl tt
    (takes refl refl refl refl refl (follows (says (lit< tt) (lit< tt, both_fit, both_fit, both_fit)) (lit< tt) (lit≤ tt) refl (refl, refl, refl) refl), ((refl, follows (says (lit< tt) append_fits) (lit< tt) (lit≤ tt) tt tt refl), tt))
    (refl, refl, refl, (refl, refl, refl))

next_is_legal : (kept : Bool) → IsLegalTurn (after_turn site failed) (next kept)
next_is_legal true =
    serves (call.Line 2 (input.Ask request.Tick)) (lit< tt) refl tt
    (takes refl refl refl refl refl (follows (says (lit< tt) (lit< tt, none_fit, both_fit, both_fit)) (lit< tt) (lit≤ tt) refl (refl, refl, refl) refl), ((refl, follows (says (lit< tt) tt) (lit< tt) (lit≤ tt) tt tt refl, refl), tt))
    (refl, refl, refl, (refl, refl, refl, refl))
next_is_legal false =
    serves (call.Line 2 (input.Ask request.Tick)) (lit< tt) refl tt
    (takes refl refl refl refl refl (follows (says (lit< tt) (lit< tt, none_fit, both_fit, both_fit)) (lit< tt) (lit≤ tt) refl (refl, refl, refl) refl), ((refl, follows (says (lit< tt) tt) (lit< tt) (lit≤ tt) tt tt refl, refl), tt))
    (refl, refl, refl, (refl, refl, refl, refl))

pub both_are_legal : (kept : Bool) → IsLegal site (both_turns kept)
both_are_legal kept = (failed_is_legal, (next_is_legal kept, tt))

-- ---- a takeover that reads what became of the record, and then fails itself

abbrev failed_again : Turn
failed_again = turn 1 2 (event.TakeDoubt 1 2 (Some true) ∷ [])

pub text_of_a_failed_takeover : text no_items site (failed ∷ failed_again ∷ []) ≡ codes "A 1: %QMAN-F-JOURNAL\nB 2: %QMAN-I-KEPT\nB 2: %QMAN-F-JOURNAL\n"
unfolding digits
text_of_a_failed_takeover = refl

-- ---- a node that may not be manager tries to take over, which costs an epoch

abbrev for_A_alone : World
for_A_alone = world_of (record new_site { may = codes "A" ∷ [] })

abbrev refused : Turn
refused = turn 1 1 (event.TakeDoubt 1 1 None ∷ event.NoManager 1 ∷ [])

abbrev taken : Turn
taken = turn 0 2 (event.Took 0 1000 2 both both (codes "A" ∷ []) None ∷ [])

pub text_of_a_refused_takeover : text no_items for_A_alone (refused ∷ taken ∷ []) ≡ codes "B 1: %QMAN-E-NOMANAGER, B\nA 2: manager on A::, epoch 2\n"
unfolding digits
text_of_a_refused_takeover = refl

pub it_costs_an_epoch : (after_turns for_A_alone (refused ∷ [])).greatest ≡ 1
it_costs_an_epoch = refl

pub the_refusal_is_legal : IsLegal for_A_alone (refused ∷ taken ∷ [])
the_refusal_is_legal = (
  serves (call.Line 1 (input.Ask request.Tick)) (lit< tt) refl tt ((inr refl, λ some. some), (tt, tt)) (refl, (refl, refl, refl, refl)),
  (
    serves (call.Line 2 (input.TakeManager None)) (lit< tt) refl tt (takes refl refl refl refl refl (follows (says (lit< tt) (lit< tt, both_fit, both_fit, a_fits)) (lit< tt) (lit≤ tt) refl (refl, refl, refl) refl), tt) (refl, refl, refl, refl),
    tt,
  ),
)

-- ---- the manager has no room for the loss of a node: a node that leaves is gone all the same, and one that stops stays

abbrev managed : World
managed = after_turns site (turn 1 1 (event.Took 1 1000 1 both both both None ∷ []) ∷ [])

abbrev left : Turn
left = record { node = 0; why = why.Leave; moment = 1000; events = event.Left 0 ∷ event.Full 0 4200 4096 ∷ [] }

abbrev not_stopped : Turn
not_stopped = turn 0 2 (event.Full 0 4200 4096 ∷ [])

pub text_of_a_full_leave : text no_items managed (left ∷ []) ≡ codes "A -: %QMAN-E-FULL, need 4200, cap 4096\n"
unfolding digits
text_of_a_full_leave = refl

pub it_has_left : (after_turns managed (left ∷ [])).live ≡ false ∷ true ∷ []
it_has_left = refl

pub the_leave_is_legal : IsLegal managed (left ∷ [])
the_leave_is_legal = ((serves call.Leave (lit< tt) refl tt (refl, (tt, tt)) (inr (refl, refl))), tt)

pub text_of_a_full_stop : text no_items managed (not_stopped ∷ []) ≡ codes "A 2: %QMAN-E-FULL, need 4200, cap 4096\n"
unfolding digits
text_of_a_full_stop = refl

pub it_has_not_stopped : (after_turns managed (not_stopped ∷ [])).live ≡ true ∷ true ∷ []
it_has_not_stopped = refl

pub the_stop_is_legal : IsLegal managed (not_stopped ∷ [])
the_stop_is_legal = ((serves (call.Line 2 input.StopNode) (lit< tt) refl tt (tt, tt) (inr refl)), tt)
