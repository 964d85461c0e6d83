-- A print job that a stop of its node interrupts goes on at its mark on the other node.
use Rattle.std.proofs.Common.{◌≡◌, ℕ, true, false, List, [], ◌∷◌, ◌++◌, refl, None, Some, codes, decimal}
use Rattle.std.specs.Fmt.{digits}
use Rattle.qm_kinds.specs.declared.entry.JobRetain.TheVariants.{Failed}
use Rattle.qm_history.specs.Common.{FileName, Input, QueueChange, Job, Request, text}
use Rattle.qm_kinds.specs.declared.input.Input.TheVariants as input
use Rattle.qm_kinds.specs.declared.query.Listing.TheVariants.{Entries}
use Rattle.qm_kinds.specs.declared.queue.QueueKind.TheVariants as queue
use Rattle.qm_kinds.specs.declared.request.Request.TheVariants as request
use Rattle.qm_kinds.specs.declared.work.Report.TheVariants as report
use Rattle.qm_model.proofs.Site.{a_print_job}
use Rattle.qm_history.specs.declared.call.Call.TheVariants as call
use Rattle.qm_history.specs.declared.world.World.{World}
use Rattle.qm_history.proofs.Serving.{Asked, new_site, world_of, listing_of, history, no_items}

abbrev pub asks : ℕ → ℕ → Input → Asked
asks node line what = record { node = node; reading = 1000; call = call.Line line what }

abbrev marks : ℕ → ℕ → ℕ → Asked
marks node run count = record { node = node; reading = 1000; call = call.Report run (report.Mark (decimal count) (record { at = count; used = 0 })) }

abbrev pub listing_file : FileName
listing_file = record { name = codes "F"; extension = Some (codes "LIS") }

abbrev pub no_change : QueueChange
no_change = record { limit = None; characteristics = None; form = None; blocks = None; by_size = None; retain = None }

abbrev pub print_queue : List ℕ → List ℕ → Request
print_queue node name = request.InitializeQueue (record { name = name; kind = queue.Print; node = Some node; device = None; targets = []; change = no_change; start = true })

abbrev pub generic_queue : Request
generic_queue = request.InitializeQueue (record { name = codes "GP"; kind = queue.GenericPrint; node = None; device = None; targets = codes "LPA" ∷ codes "LPB" ∷ []; change = no_change; start = true })

abbrev pub print_job : List ℕ → Job
print_job name = a_print_job name (codes "F")

-- A prints three pages of each of two jobs and stops. B goes on with the one that may restart.
abbrev pub calls : List Asked
calls =
    asks 0 1 (input.Ask (request.Fill listing_file 420))
    ∷ asks 0 2 (input.Ask (print_queue (codes "A") (codes "LPA")))
    ∷ asks 0 3 (input.Ask (print_queue (codes "B") (codes "LPB")))
    ∷ asks 0 4 (input.Ask generic_queue)
    ∷ asks 0 5 (input.Ask (print_queue (codes "A") (codes "LPC")))
    ∷ asks 0 6 (input.Ask (request.Submit (print_job (codes "GP"))))
    ∷ asks 0 7 (input.Ask (request.Submit (record (print_job (codes "LPC")) { retain = Failed; restart = false })))
    ∷ asks 0 8 (input.Fetch [])
    ∷ marks 0 1 1
    ∷ marks 0 2 1
    ∷ marks 0 1 2
    ∷ marks 0 2 2
    ∷ marks 0 1 3
    ∷ marks 0 2 3
    ∷ asks 0 9 input.StopNode
    ∷ asks 1 10 (input.Fetch [])
    ∷ marks 1 3 4
    ∷ asks 1 11 (input.Show (listing_of Entries (Some (codes "SYSTEM"))))
    ∷ record { node = 1; reading = 1000; call = call.Fetch (3 ∷ []) }
    ∷ marks 1 3 5
    ∷ marks 1 3 6
    ∷ record { node = 1; reading = 1000; call = call.Report 3 (report.Done 1) }
    ∷ record { node = 1; reading = 1000; call = call.Fetch [] }
    ∷ record { node = 1; reading = 1000; call = call.Leave }
    ∷ []

abbrev pub site : World
site = world_of new_site

pub their_text : text no_items site (history site calls)
    ≡ codes "A 1: file F.LIS, 26880 bytes\nA 2: queue LPA started\nA 3: queue LPB started\nA 4: queue GP started\nA 5: queue LPC started\n"
    ++ codes "A 6: Job F (queue GP, entry 1) pending\nA 6: Job F (queue GP, entry 1) started on LPA\n"
    ++ codes "A 7: Job F (queue LPC, entry 2) pending\nA 7: Job F (queue LPC, entry 2) started on LPC\n"
    ++ codes "A 8: runs: 2\nA -: run 1 mark 1\nA -: run 2 mark 1\nA -: run 1 mark 2\nA -: run 2 mark 2\nA -: run 1 mark 3\nA -: run 2 mark 3\n"
    ++ codes "A 9: node A stopped\nB 10: Job F (queue GP, entry 1) started on LPB\nB 10: runs: 1\nB -: run 3 mark 4\n"
    ++ codes "B 11: rows: 2\nB 11:      1 F                SYSTEM             53 executing on LPB\nB 11:      2 F                SYSTEM             53 retained, status 1020\n"
    ++ codes "B -: run 3 mark 5\nB -: run 3 mark 6\nB -: run 3 completed, status 1\n"
unfolding digits
their_text = refl
