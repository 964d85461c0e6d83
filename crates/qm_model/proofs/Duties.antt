-- What a node has to do for its runs, and what it gets of their jobs.
use Rattle.std.proofs.Common.{List, ◌≡◌, ℕ, Bool, true, false, [], ◌∷◌, ◌++◌, refl, map, None, Some, codes, is_some}
use Rattle.qm_kinds.specs.declared.entry.JobKind.TheVariants as job
use Rattle.qm_model.specs.Common.{Default, Shape, Name, Pause, System, first_system, Work, Duty, duties}
use Rattle.qm_kinds.specs.declared.queue.QueueKind.TheVariants as queue
use Rattle.qm_kinds.specs.declared.request.Request.TheVariants as request
use Rattle.qm_model.proofs.Site.{after, first_asks, file, listing_file, no_change, print_queue, print_job, batch_job, a_print_job}

abbrev letter : Shape
letter = record { length = 60; width = 80; top = 2; bottom = 2; left = 4; right = 3; wrap = true }

-- A print job with settings of its own runs in LP, and a batch job in SYS$BATCH. LQ is paused while its job runs, and the
-- job in LR is deleted while it runs.
abbrev four_runs : System
four_runs = after (first_system (codes "A")) (first_asks
    (request.Append (listing_file (codes "F")) (codes "one" ++ 10 ∷ codes "two")
    ∷ request.Append (file (codes "J") (codes "COM")) (codes "$ EXIT 3")
    ∷ request.DefineForm (record { name = codes "LETTER"; number = 1; stock = codes "DEFAULT"; shape = letter })
    ∷ request.InitializeQueue (record { name = codes "LP"; kind = queue.Print; node = None; device = Some (codes "LPA0"); targets = []; change = no_change; start = true })
    ∷ print_queue (codes "LQ") true no_change
    ∷ print_queue (codes "LR") true no_change
    ∷ request.StartQueue (codes "SYS$BATCH") no_change
    ∷ request.Submit (record (a_print_job (codes "LP") (codes "REPORT")) { user = codes "SMITH"; file = listing_file (codes "F"); form = Some (Name (codes "LETTER")); copies = 2; flag = true })
    ∷ batch_job (codes "SYS$BATCH") (codes "J") None Default
    ∷ print_job (codes "LQ") (codes "F")
    ∷ print_job (codes "LR") (codes "F")
    ∷ request.StopQueue (codes "LQ") Pause
    ∷ request.DeleteEntry 4
    ∷ []))

-- of a run: whether it is aborting, whether its queue is paused, and whether its work is told
abbrev how : Duty → ℕ × Bool × Bool × Bool
how d = (d.run, d.aborting, d.paused, is_some d.work)

-- the work is told of each run that the node doesn't know
pub duties_of_four_runs : map how (duties four_runs (codes "A") (2 ∷ 3 ∷ 9 ∷ []))
    ≡ (1, false, false, true) ∷ (2, false, false, false) ∷ (3, false, true, false) ∷ (4, true, false, true) ∷ []
duties_of_four_runs = refl

-- the work of a print job with the settings that a job has by default: its run, its name, the device of its queue, and the text of
-- its file
abbrev pub plain_work : ℕ → List ℕ → List ℕ → List ℕ → Work
plain_work run name device bytes = record {
  run = run;
  entry = run;
  kind = job.Print;
  name = name;
  user = codes "SYSTEM";
  device = device;
  text = bytes;
  shape = record { length = 66; width = 132; top = 0; bottom = 6; left = 0; right = 0; wrap = false };
  copies = 1;
  flag = false;
  again = false;
  mark = [];
}

-- the text of the job's file, the device of its queue and the shape of its form
abbrev report_work : Work
report_work =
    record (plain_work 1 (codes "REPORT") (codes "LPA0") (codes "one" ++ 10 ∷ codes "two")) { user = codes "SMITH"; shape = letter; copies = 2; flag = true }

-- a batch job has the shape of the form DEFAULT, and a queue's device is named as the queue where none was given
abbrev batch_work : Work
batch_work = record (plain_work 2 (codes "J") (codes "SYS$BATCH") (codes "$ EXIT 3")) { kind = job.Batch }

pub work_of_two_runs : map (λ (d : Duty). d.work) (duties four_runs (codes "A") (3 ∷ 4 ∷ [])) ≡ Some report_work ∷ Some batch_work ∷ None ∷ None ∷ []
work_of_two_runs = refl

-- the job of the first run is put back with its mark, and its next run is known to be another one
abbrev put_back : System
put_back = after four_runs (first_asks
    (request.Mark 1 (codes "1")
    ∷ request.AbortJob (codes "LP") (Some 1) true
    ∷ request.Mark 1 (codes "2")
    ∷ []))

pub work_of_the_next_run : map (λ (d : Duty). d.work) (duties put_back (codes "A") (2 ∷ 3 ∷ 4 ∷ []))
    ≡ None ∷ None ∷ None ∷ Some (record report_work { run = 5; again = true; mark = codes "1" }) ∷ []
work_of_the_next_run = refl
