-- A node's lines, the step behind its STEP line, its own fetches and steps, and its leave.
use Rattle.std.proofs.Common.{◌≡◌, ℕ, lit<, lit≤, false, List, [], ◌∷◌, ◌++◌, refl, map, length, None, true, codes, ◌==◌, if◌then◌else◌}
use Rattle.std.specs.Fmt.{digits}
use Rattle.qm_history.specs.Common.{Input, Report, Work, KeptRun, WentOn, MadeStep, Whole, IsCourse, text, Visit}
use Rattle.qm_kinds.specs.declared.input.Input.TheVariants as input
use Rattle.qm_kinds.specs.declared.request.Request.TheVariants as request
use Rattle.qm_kinds.specs.declared.work.Report.TheVariants as report
use Rattle.qm_kinds.specs.declared.entry.JobRetain.TheVariants.{Default}
use Rattle.qm_model.specs.Filing.{filling}
use Rattle.qm_history.specs.declared.call.Call.{Call}
use Rattle.qm_history.specs.declared.call.Call.TheVariants as call
use Rattle.qm_history.specs.declared.turn.Turn.{Turn}
use Rattle.qm_history.specs.declared.world.World.{World}
use Rattle.qm_history.specs.Blocks.{AreHanded, blocks_next}
use Rattle.qm_history.specs.Script.{UserLine, LineSort, Command, Act}
use Rattle.qm_history.proofs.LegalTurns.{follows, takes, a_is_name, both_fit, says}
use Rattle.qm_history.proofs.Serving.{Asked, new_site, world_of, history, no_items}
use Rattle.qm_model.proofs.Duties.{plain_work}
use Rattle.qm_history.proofs.TwoNodes.{asks, listing_file, print_queue, print_job}
use Rattle.qm_history.proofs.Spelled.{listing_file_fits, lp_is_name, print_job_fits, print_queue_fits}

abbrev reports : Report → Asked
reports told = record { node = 0; reading = 1000; call = call.Report 1 told }

abbrev own : Call → Asked
own what = record { node = 0; reading = 1000; call = what }

-- a print job of two pages: STEP 1 prints the first one, and the node's own step the other
abbrev calls : List Asked
calls =
    asks 0 1 (input.Ask (request.Fill listing_file 72))
    ∷ asks 0 2 (input.Ask (print_queue (codes "A") (codes "LP")))
    ∷ asks 0 3 (input.Ask (request.Submit (print_job (codes "LP"))))
    ∷ asks 0 4 (input.Fetch [])
    ∷ reports (report.Mark (codes "1") (record { at = 1; used = 0 }))
    ∷ own (call.Fetch (1 ∷ []))
    ∷ reports (report.Done 1)
    ∷ own (call.Fetch [])
    ∷ own call.Leave
    ∷ []

abbrev site : World
site = world_of new_site

abbrev turns : List Turn
turns = history site calls

pub their_text : text no_items site turns
    ≡ codes "A 1: file F.LIS, 4608 bytes\nA 2: queue LP started\nA 3: Job F (queue LP, entry 1) pending\nA 3: Job F (queue LP, entry 1) started on LP\n"
    ++ codes "A 4: runs: 1\nA -: run 1 mark 1\nA -: run 1 completed, status 1\n"
unfolding digits
their_text = refl

abbrev line : ℕ → LineSort → List ℕ → UserLine
line number sort what = record { line = record { number = number; node = codes "A"; sort = sort; text = what }; user = codes "SYSTEM" }

abbrev lines : List UserLine
lines =
    line 1 Act (codes "FILL F.LIS 72")
    ∷ line 2 Command (codes "INIT/QUEUE/START LP")
    ∷ line 3 Command (codes "PRINT/QUEUE=LP F")
    ∷ line 4 Act (codes "STEP 1")
    ∷ []

-- what these lines ask for
abbrev read : UserLine → ℕ → List Visit → List ℕ → Input
read l reading earlier known =
    if l.line.number == 1 then input.Ask (request.Fill listing_file 72) else
    if l.line.number == 2 then input.Ask (print_queue (codes "A") (codes "LP")) else
    if l.line.number == 3 then input.Ask (request.Submit (print_job (codes "LP"))) else input.Fetch known

-- the job as the node has it
abbrev pub work : Work
work = plain_work 1 (codes "F") (codes "LP") (filling 72)

abbrev pub run_at : ℕ → KeptRun
run_at block = record { run = 1; aborting = false; paused = false; work = work; place = record { at = block; used = 0 }; fetched = 3 }

abbrev steps : List MadeStep
steps = record { run = run_at 0; end = WentOn } ∷ record { run = run_at 1; end = WentOn } ∷ []

-- both pages were handed over, in order: 60 lines of 64 bytes and a form feed, and then the other 12
pub what_each_step_handed_over : AreHanded steps (blocks_next (run_at 0) ∷ blocks_next (run_at 1) ∷ [])
what_each_step_handed_over = (refl, (refl, tt))

pub what_the_device_got : map length (blocks_next (run_at 0) ++ blocks_next (run_at 1)) ≡ 3841 ∷ 769 ∷ []
what_the_device_got = refl

pub it_is_a_course : IsCourse read Whole site turns 0 lines 0
unfolding digits
it_is_a_course = record {
  steps = steps;
  broken = None;
  turns_are = (
    (
      record {
        node_there = lit< tt;
        why_is = refl;
        outside = tt;
        can_come = (
          takes refl refl refl refl refl (follows (says (lit< tt) (lit< tt, both_fit, both_fit, both_fit)) (lit< tt) (lit≤ tt) refl (refl, refl, refl) refl),
          ((refl, follows (says (lit< tt) (listing_file_fits, lit< tt)) (lit< tt) (lit≤ tt) tt tt refl, refl), tt),
        );
      },
      (refl, refl, refl, (refl, refl, refl, refl)),
    ),
    (
      (record { node_there = lit< tt; why_is = refl; outside = tt; can_come = ((refl, follows (says (lit< tt) (print_queue_fits (codes "A") (codes "LP") a_is_name lp_is_name)) (lit< tt) (lit≤ tt) (lit≤ tt, tt, lit< tt) tt refl, refl), tt) }, (refl, refl, refl, refl)),
      (
        (record { node_there = lit< tt; why_is = refl; outside = tt; can_come = ((refl, follows (says (lit< tt) (print_job_fits (codes "LP") Default true lp_is_name tt)) (lit< tt) (lit≤ tt) tt tt refl, refl), tt) }, (refl, refl, refl, refl)),
        (
          (record { node_there = lit< tt; why_is = refl; outside = tt; can_come = (tt, tt) }, refl),
          (
            (refl, tt),
            (record { node_there = lit< tt; why_is = refl; outside = tt; can_come = ((refl, follows (says (lit< tt) (lit< tt, record { few = lit≤ tt; all = (lit< tt, tt) })) (lit< tt) (lit≤ tt) tt tt refl, refl), tt) }, (refl, refl, refl, refl)),
            (
              (record { node_there = lit< tt; why_is = refl; outside = tt; can_come = (tt, tt) }, refl),
              (
                (refl, tt),
                (record { node_there = lit< tt; why_is = refl; outside = tt; can_come = ((refl, follows (says (lit< tt) (lit< tt, lit< tt)) (lit< tt) (lit≤ tt) tt tt refl, refl), tt) }, (refl, refl, refl, refl)),
                (
                  (record { node_there = lit< tt; why_is = refl; outside = tt; can_come = (tt, tt) }, refl),
                  (
                    (record { node_there = lit< tt; why_is = refl; outside = tt; can_come = (refl, tt) }, refl),
                    (refl, refl, tt),
                  ),
                ),
              ),
            ),
          ),
        ),
      ),
    ),
  );
  few_faults = lit≤ tt;
}
