-- Jobs that wait for a moment, at a site whose queue is stopped.
use Rattle.std.proofs.Common.{◌≡◌, ℕ, Bool, true, false, [], ◌∷◌, refl, Option, None, Some, codes}
use Rattle.qm_model.specs.Common.{Pending, Holding, Timed, Request, System, first_system}
use Rattle.qm_kinds.specs.declared.request.Request.TheVariants.{Append, Fill, Submit, Tick}
use Rattle.qm_model.proofs.Site.{Ask, after, states, file, listing_file, a_batch_job}

abbrev ask_at : ℕ → Request → Ask
ask_at now request = record { now = now; node = 0; request = request }

abbrev job : Bool → Option ℕ → Request
job hold moment = Submit (record (a_batch_job (codes "SYS$BATCH") (codes "F")) { hold = hold; after = moment })

-- At moment 100 four jobs are submitted: for moment 200, for the moment itself, held until it is released although it names
-- a moment, and for none.
abbrev site : System
site = after (first_system (codes "A"))
    (ask_at 0 (Fill (file (codes "F") (codes "COM")) 1)
    ∷ ask_at 100 (job false (Some 200))
    ∷ ask_at 100 (job false (Some 100))
    ∷ ask_at 100 (job true (Some 200))
    ∷ ask_at 100 (job false None)
    ∷ [])

pub as_submitted : states site ≡ Timed 200 ∷ Pending ∷ Holding ∷ Pending ∷ []
as_submitted = refl

-- the next request finds the job waiting up to the moment before its own
pub one_before_its_moment : states (after site (ask_at 199 (Append (listing_file (codes "X")) []) ∷ [])) ≡ Timed 200 ∷ Pending ∷ Holding ∷ Pending ∷ []
one_before_its_moment = refl

pub at_its_moment : states (after site (ask_at 200 (Append (listing_file (codes "X")) []) ∷ [])) ≡ Pending ∷ Pending ∷ Holding ∷ Pending ∷ []
at_its_moment = refl

pub at_a_tick : states (after site (ask_at 300 Tick ∷ [])) ≡ Pending ∷ Pending ∷ Holding ∷ Pending ∷ []
at_a_tick = refl

-- a request that is refused changes nothing, whatever is due
pub refused_at_its_moment : states (after site (ask_at 200 (Append (file (codes "F") (codes "COM")) []) ∷ [])) ≡ Timed 200 ∷ Pending ∷ Holding ∷ Pending ∷ []
refused_at_its_moment = refl
