-- A print job that a stop of its node interrupts goes on at its mark on the other node: each turn may be made.
use Rattle.std.proofs.Common.{◌≡◌, ℕ, lit<, lit≤, true, false, List, [], ◌∷◌, refl, None, Some, codes, decimal}
use Rattle.std.specs.Fmt.{digits}
use Rattle.qm_kinds.specs.declared.entry.EntryState.TheVariants.{Pending}
use Rattle.qm_kinds.specs.declared.entry.JobRetain.TheVariants.{Default, Failed}
use Rattle.qm_kinds.specs.declared.input.Input.TheVariants as input
use Rattle.qm_kinds.specs.declared.query.Listing.TheVariants.{Entries}
use Rattle.qm_kinds.specs.declared.queue.QueueState.TheVariants.{Started}
use Rattle.qm_kinds.specs.declared.reply.Act.TheVariants as act
use Rattle.qm_kinds.specs.declared.request.Request.TheVariants as request
use Rattle.qm_kinds.specs.declared.work.Report.TheVariants as report
use Rattle.qm_history.specs.declared.call.Call.TheVariants as call
use Rattle.qm_history.specs.declared.event.Event.{Event}
use Rattle.qm_history.specs.declared.event.Event.TheVariants as event
use Rattle.qm_history.specs.declared.turn.Turn.{Turn}
use Rattle.qm_history.specs.declared.turn.Why.{Why}
use Rattle.qm_history.specs.declared.turn.Why.TheVariants as why
use Rattle.qm_history.specs.declared.world.World.{World}
use Rattle.qm_history.specs.Legal.{after_turn, IsLegalTurn, IsLegal}
use Rattle.qm_history.proofs.LegalTurns.{a_fits, a_is_name, b_fits, b_is_name, both_fit, follows, says, serves, takes}
use Rattle.qm_history.proofs.Serving.{listing_of, history}
use Rattle.qm_history.proofs.Spelled.{generic_queue_fits, gp_is_name, listing_file_fits, lpa_is_name, lpb_is_name, lpc_is_name, print_job_fits, print_queue_fits}
use Rattle.qm_history.proofs.TwoNodes.{calls, site, listing_file, print_queue, generic_queue, print_job}

-- a turn may be made in a world
record MayBeMade (w : World) (t : Turn) : Type 0 where
  legal : IsLegalTurn w t

-- each of these turns may, behind those before it
abbrev MayAllBeMade : World → List Turn → Type 0
MayAllBeMade w [] = Unit {0}
MayAllBeMade w (t ∷ turns) = MayBeMade w t × MayAllBeMade (after_turn w t) turns

all_legal : (w : World) (turns : List Turn) → MayAllBeMade w turns → IsLegal w turns
all_legal w [] all = tt
all_legal w (t ∷ turns) all = (all.0.legal, all_legal (after_turn w t) turns all.1)

abbrev both : List (List ℕ)
both = codes "A" ∷ codes "B" ∷ []

abbrev turn : ℕ → Why → List Event → Turn
turn node because events = record { node = node; why = because; moment = 1000; events = events }

abbrev turn_1 : Turn
turn_1 = turn 0 (why.Line 1) (event.Took 0 1000 1 both both both None ∷ event.Done 0 1000 (request.Fill listing_file 420) (record { act = act.Filed listing_file 26880; started = [] }) ∷ [])

abbrev world_1 : World
world_1 = site

abbrev turn_2 : Turn
turn_2 = turn 0 (why.Line 2) (event.Done 0 1000 (print_queue (codes "A") (codes "LPA")) (record { act = act.QueueIs (codes "LPA") Started; started = [] }) ∷ [])

abbrev world_2 : World
world_2 = after_turn world_1 turn_1

abbrev turn_3 : Turn
turn_3 = turn 0 (why.Line 3) (event.Done 0 1000 (print_queue (codes "B") (codes "LPB")) (record { act = act.QueueIs (codes "LPB") Started; started = [] }) ∷ [])

abbrev world_3 : World
world_3 = after_turn world_2 turn_2

abbrev turn_4 : Turn
turn_4 = turn 0 (why.Line 4) (event.Done 0 1000 (generic_queue) (record { act = act.QueueIs (codes "GP") Started; started = [] }) ∷ [])

abbrev world_4 : World
world_4 = after_turn world_3 turn_3

abbrev turn_5 : Turn
turn_5 = turn 0 (why.Line 5) (event.Done 0 1000 (print_queue (codes "A") (codes "LPC")) (record { act = act.QueueIs (codes "LPC") Started; started = [] }) ∷ [])

abbrev world_5 : World
world_5 = after_turn world_4 turn_4

abbrev turn_6 : Turn
turn_6 = turn 0 (why.Line 6) (event.Done 0 1000 (request.Submit (print_job (codes "GP"))) (record { act = act.Submitted (codes "F") (codes "GP") 1 Pending; started = record { entry = 1; name = codes "F"; home = codes "GP"; queue = codes "LPA"; run = 1 } ∷ [] }) ∷ [])

abbrev world_6 : World
world_6 = after_turn world_5 turn_5

abbrev turn_7 : Turn
turn_7 = turn 0 (why.Line 7) (event.Done 0 1000 (request.Submit (record (print_job (codes "LPC")) { retain = Failed; restart = false })) (record { act = act.Submitted (codes "F") (codes "LPC") 2 Pending; started = record { entry = 2; name = codes "F"; home = codes "LPC"; queue = codes "LPC"; run = 2 } ∷ [] }) ∷ [])

abbrev world_7 : World
world_7 = after_turn world_6 turn_6

abbrev turn_8 : Turn
turn_8 = turn 0 (why.Line 8) (event.Shown 0 1000 (input.Fetch []) ∷ [])

abbrev world_8 : World
world_8 = after_turn world_7 turn_7

abbrev turn_9 : Turn
turn_9 = turn 0 why.Report (event.Done 0 1000 (request.Mark 1 (decimal 1)) (record { act = act.Marked 1 (decimal 1); started = [] }) ∷ [])

abbrev world_9 : World
world_9 = after_turn world_8 turn_8

abbrev turn_10 : Turn
turn_10 = turn 0 why.Report (event.Done 0 1000 (request.Mark 2 (decimal 1)) (record { act = act.Marked 2 (decimal 1); started = [] }) ∷ [])

abbrev world_10 : World
world_10 = after_turn world_9 turn_9

abbrev turn_11 : Turn
turn_11 = turn 0 why.Report (event.Done 0 1000 (request.Mark 1 (decimal 2)) (record { act = act.Marked 1 (decimal 2); started = [] }) ∷ [])

abbrev world_11 : World
world_11 = after_turn world_10 turn_10

abbrev turn_12 : Turn
turn_12 = turn 0 why.Report (event.Done 0 1000 (request.Mark 2 (decimal 2)) (record { act = act.Marked 2 (decimal 2); started = [] }) ∷ [])

abbrev world_12 : World
world_12 = after_turn world_11 turn_11

abbrev turn_13 : Turn
turn_13 = turn 0 why.Report (event.Done 0 1000 (request.Mark 1 (decimal 3)) (record { act = act.Marked 1 (decimal 3); started = [] }) ∷ [])

abbrev world_13 : World
world_13 = after_turn world_12 turn_12

abbrev turn_14 : Turn
turn_14 = turn 0 why.Report (event.Done 0 1000 (request.Mark 2 (decimal 3)) (record { act = act.Marked 2 (decimal 3); started = [] }) ∷ [])

abbrev world_14 : World
world_14 = after_turn world_13 turn_13

abbrev turn_15 : Turn
turn_15 = turn 0 (why.Line 9) (event.Stopped 0 ∷ [])

abbrev world_15 : World
world_15 = after_turn world_14 turn_14

abbrev turn_16 : Turn
turn_16 = turn 1 (why.Line 10) (event.Took 1 1000 2 (codes "A" ∷ []) (codes "B" ∷ []) both None ∷ event.Shown 1 1000 (input.Fetch []) ∷ [])

abbrev world_16 : World
world_16 = after_turn world_15 turn_15

abbrev turn_17 : Turn
turn_17 = turn 1 why.Report (event.Done 1 1000 (request.Mark 3 (decimal 4)) (record { act = act.Marked 3 (decimal 4); started = [] }) ∷ [])

abbrev world_17 : World
world_17 = after_turn world_16 turn_16

abbrev turn_18 : Turn
turn_18 = turn 1 (why.Line 11) (event.Shown 1 1000 (input.Show (listing_of Entries (Some (codes "SYSTEM")))) ∷ [])

abbrev world_18 : World
world_18 = after_turn world_17 turn_17

abbrev turn_19 : Turn
turn_19 = turn 1 why.Fetch (event.Shown 1 1000 (input.Fetch (3 ∷ [])) ∷ [])

abbrev world_19 : World
world_19 = after_turn world_18 turn_18

abbrev turn_20 : Turn
turn_20 = turn 1 why.Report (event.Done 1 1000 (request.Mark 3 (decimal 5)) (record { act = act.Marked 3 (decimal 5); started = [] }) ∷ [])

abbrev world_20 : World
world_20 = after_turn world_19 turn_19

abbrev turn_21 : Turn
turn_21 = turn 1 why.Report (event.Done 1 1000 (request.Mark 3 (decimal 6)) (record { act = act.Marked 3 (decimal 6); started = [] }) ∷ [])

abbrev world_21 : World
world_21 = after_turn world_20 turn_20

abbrev turn_22 : Turn
turn_22 = turn 1 why.Report (event.Done 1 1000 (request.Done 3 1) (record { act = act.RunCompleted 3 1; started = [] }) ∷ [])

abbrev world_22 : World
world_22 = after_turn world_21 turn_21

abbrev turn_23 : Turn
turn_23 = turn 1 why.Fetch (event.Shown 1 1000 (input.Fetch []) ∷ [])

abbrev world_23 : World
world_23 = after_turn world_22 turn_22

abbrev turn_24 : Turn
turn_24 = turn 1 why.Leave (event.Left 1 ∷ [])

abbrev world_24 : World
world_24 = after_turn world_23 turn_23

may_1 : MayBeMade world_1 turn_1
unfolding digits
may_1 = record { legal = serves (call.Line 1 (input.Ask (request.Fill listing_file 420))) (lit< tt) refl tt (takes refl refl refl refl refl (follows (says (lit< tt) (lit< tt, both_fit, both_fit, both_fit)) (lit< tt) (lit≤ tt) refl (refl, refl, refl) refl), ((refl, follows (says (lit< tt) (listing_file_fits, lit< tt)) (lit< tt) (lit≤ tt) tt tt refl, refl), tt)) (refl, refl, refl, (refl, refl, refl, refl)) }

may_2 : MayBeMade world_2 turn_2
unfolding digits
may_2 = record { legal = serves (call.Line 2 (input.Ask (print_queue (codes "A") (codes "LPA")))) (lit< tt) refl tt ((refl, follows (says (lit< tt) (print_queue_fits (codes "A") (codes "LPA") a_is_name lpa_is_name)) (lit< tt) (lit≤ tt) (lit≤ tt, tt, lit< tt) tt refl, refl), tt) (refl, refl, refl, refl) }

may_3 : MayBeMade world_3 turn_3
unfolding digits
may_3 = record { legal = serves (call.Line 3 (input.Ask (print_queue (codes "B") (codes "LPB")))) (lit< tt) refl tt ((refl, follows (says (lit< tt) (print_queue_fits (codes "B") (codes "LPB") b_is_name lpb_is_name)) (lit< tt) (lit≤ tt) (lit≤ tt, tt, lit< tt) tt refl, refl), tt) (refl, refl, refl, refl) }

may_4 : MayBeMade world_4 turn_4
unfolding digits
may_4 = record { legal = serves (call.Line 4 (input.Ask generic_queue)) (lit< tt) refl tt ((refl, follows (says (lit< tt) generic_queue_fits) (lit< tt) (lit≤ tt) (lit≤ tt, tt, lit< tt) tt refl, refl), tt) (refl, refl, refl, refl) }

may_5 : MayBeMade world_5 turn_5
unfolding digits
may_5 = record { legal = serves (call.Line 5 (input.Ask (print_queue (codes "A") (codes "LPC")))) (lit< tt) refl tt ((refl, follows (says (lit< tt) (print_queue_fits (codes "A") (codes "LPC") a_is_name lpc_is_name)) (lit< tt) (lit≤ tt) (lit≤ tt, tt, lit< tt) tt refl, refl), tt) (refl, refl, refl, refl) }

may_6 : MayBeMade world_6 turn_6
unfolding digits
may_6 = record { legal = serves (call.Line 6 (input.Ask (request.Submit (print_job (codes "GP"))))) (lit< tt) refl tt ((refl, follows (says (lit< tt) (print_job_fits (codes "GP") Default true gp_is_name tt)) (lit< tt) (lit≤ tt) tt tt refl, refl), tt) (refl, refl, refl, refl) }

may_7 : MayBeMade world_7 turn_7
unfolding digits
may_7 = record { legal = serves (call.Line 7 (input.Ask (request.Submit (record (print_job (codes "LPC")) { retain = Failed; restart = false })))) (lit< tt) refl tt ((refl, follows (says (lit< tt) (print_job_fits (codes "LPC") Failed false lpc_is_name tt)) (lit< tt) (lit≤ tt) tt tt refl, refl), tt) (refl, refl, refl, refl) }

may_8 : MayBeMade world_8 turn_8
unfolding digits
may_8 = record { legal = serves (call.Line 8 (input.Fetch [])) (lit< tt) refl tt (tt, tt) refl }

may_9 : MayBeMade world_9 turn_9
unfolding digits
may_9 = record { legal = serves (call.Report 1 (report.Mark (decimal 1) (record { at = 1; used = 0 }))) (lit< tt) refl tt ((refl, follows (says (lit< tt) (lit< tt, record { few = lit≤ tt; all = (lit< tt, tt) })) (lit< tt) (lit≤ tt) tt tt refl, refl), tt) (refl, refl, refl, refl) }

may_10 : MayBeMade world_10 turn_10
unfolding digits
may_10 = record { legal = serves (call.Report 2 (report.Mark (decimal 1) (record { at = 1; used = 0 }))) (lit< tt) refl tt ((refl, follows (says (lit< tt) (lit< tt, record { few = lit≤ tt; all = (lit< tt, tt) })) (lit< tt) (lit≤ tt) tt tt refl, refl), tt) (refl, refl, refl, refl) }

may_11 : MayBeMade world_11 turn_11
unfolding digits
may_11 = record { legal = serves (call.Report 1 (report.Mark (decimal 2) (record { at = 2; used = 0 }))) (lit< tt) refl tt ((refl, follows (says (lit< tt) (lit< tt, record { few = lit≤ tt; all = (lit< tt, tt) })) (lit< tt) (lit≤ tt) tt tt refl, refl), tt) (refl, refl, refl, refl) }

may_12 : MayBeMade world_12 turn_12
unfolding digits
may_12 = record { legal = serves (call.Report 2 (report.Mark (decimal 2) (record { at = 2; used = 0 }))) (lit< tt) refl tt ((refl, follows (says (lit< tt) (lit< tt, record { few = lit≤ tt; all = (lit< tt, tt) })) (lit< tt) (lit≤ tt) tt tt refl, refl), tt) (refl, refl, refl, refl) }

may_13 : MayBeMade world_13 turn_13
unfolding digits
may_13 = record { legal = serves (call.Report 1 (report.Mark (decimal 3) (record { at = 3; used = 0 }))) (lit< tt) refl tt ((refl, follows (says (lit< tt) (lit< tt, record { few = lit≤ tt; all = (lit< tt, tt) })) (lit< tt) (lit≤ tt) tt tt refl, refl), tt) (refl, refl, refl, refl) }

may_14 : MayBeMade world_14 turn_14
unfolding digits
may_14 = record { legal = serves (call.Report 2 (report.Mark (decimal 3) (record { at = 3; used = 0 }))) (lit< tt) refl tt ((refl, follows (says (lit< tt) (lit< tt, record { few = lit≤ tt; all = (lit< tt, tt) })) (lit< tt) (lit≤ tt) tt tt refl, refl), tt) (refl, refl, refl, refl) }

may_15 : MayBeMade world_15 turn_15
unfolding digits
may_15 = record { legal = serves (call.Line 9 (input.StopNode)) (lit< tt) refl tt (refl, tt) refl }

may_16 : MayBeMade world_16 turn_16
unfolding digits
may_16 = record { legal = serves (call.Line 10 (input.Fetch [])) (lit< tt) refl tt (takes refl refl refl refl refl (follows (says (lit< tt) (lit< tt, a_fits, b_fits, both_fit)) (lit< tt) (lit≤ tt) refl (refl, refl, refl) refl), (tt, tt)) (refl, refl, refl, refl) }

may_17 : MayBeMade world_17 turn_17
unfolding digits
may_17 = record { legal = serves (call.Report 3 (report.Mark (decimal 4) (record { at = 4; used = 0 }))) (lit< tt) refl tt ((refl, follows (says (lit< tt) (lit< tt, record { few = lit≤ tt; all = (lit< tt, tt) })) (lit< tt) (lit≤ tt) tt tt refl, refl), tt) (refl, refl, refl, refl) }

may_18 : MayBeMade world_18 turn_18
unfolding digits
may_18 = record { legal = serves (call.Line 11 (input.Show (listing_of Entries (Some (codes "SYSTEM"))))) (lit< tt) refl tt (tt, tt) refl }

may_19 : MayBeMade world_19 turn_19
unfolding digits
may_19 = record { legal = serves (call.Fetch (3 ∷ [])) (lit< tt) refl tt (tt, tt) refl }

may_20 : MayBeMade world_20 turn_20
unfolding digits
may_20 = record { legal = serves (call.Report 3 (report.Mark (decimal 5) (record { at = 5; used = 0 }))) (lit< tt) refl tt ((refl, follows (says (lit< tt) (lit< tt, record { few = lit≤ tt; all = (lit< tt, tt) })) (lit< tt) (lit≤ tt) tt tt refl, refl), tt) (refl, refl, refl, refl) }

may_21 : MayBeMade world_21 turn_21
unfolding digits
may_21 = record { legal = serves (call.Report 3 (report.Mark (decimal 6) (record { at = 6; used = 0 }))) (lit< tt) refl tt ((refl, follows (says (lit< tt) (lit< tt, record { few = lit≤ tt; all = (lit< tt, tt) })) (lit< tt) (lit≤ tt) tt tt refl, refl), tt) (refl, refl, refl, refl) }

may_22 : MayBeMade world_22 turn_22
unfolding digits
may_22 = record { legal = serves (call.Report 3 (report.Done 1)) (lit< tt) refl tt ((refl, follows (says (lit< tt) (lit< tt, lit< tt)) (lit< tt) (lit≤ tt) tt tt refl, refl), tt) (refl, refl, refl, refl) }

may_23 : MayBeMade world_23 turn_23
unfolding digits
may_23 = record { legal = serves (call.Fetch []) (lit< tt) refl tt (tt, tt) refl }

may_24 : MayBeMade world_24 turn_24
unfolding digits
may_24 = record { legal = serves call.Leave (lit< tt) refl tt (refl, tt) refl }

abbrev turns : List Turn
turns = turn_1 ∷ turn_2 ∷ turn_3 ∷ turn_4 ∷ turn_5 ∷ turn_6 ∷ turn_7 ∷ turn_8 ∷ turn_9 ∷ turn_10 ∷ turn_11 ∷ turn_12 ∷ turn_13 ∷ turn_14 ∷ turn_15 ∷ turn_16 ∷ turn_17 ∷ turn_18 ∷ turn_19 ∷ turn_20 ∷ turn_21 ∷ turn_22 ∷ turn_23 ∷ turn_24 ∷ []

pub those_turns : history site calls ≡ turns
unfolding digits
those_turns = refl

pub they_are_legal : IsLegal site turns
they_are_legal = all_legal site turns (may_1, (may_2, (may_3, (may_4, (may_5, (may_6, (may_7, (may_8, (may_9, (may_10, (may_11, (may_12, (may_13, (may_14, (may_15, (may_16, (may_17, (may_18, (may_19, (may_20, (may_21, (may_22, (may_23, (may_24, tt))))))))))))))))))))))))
