-- Runs that stop with their node, and go on at another one behind their marks.
use Rattle.std.proofs.Common.{◌≡◌, ℕ, false, List, [], ◌∷◌, ◌++◌, refl, map, codes}
use Rattle.std.specs.Option.{option_map_or}
use Rattle.std.specs.Fmt.{digits}
use Rattle.qm_kinds.specs.declared.entry.JobRetain.TheVariants.{Failed}
use Rattle.qm_kinds.specs.declared.request.Request.TheVariants as request
use Rattle.qm_model.specs.Common.{System, Duty, duties}
use Rattle.qm_kinds.specs.declared.work.Report.TheVariants.{Done}
use Rattle.qm_model.specs.Reports.{Step, Handed, Reported, begin, course}
use Rattle.qm_model.specs.Words.{entry_text}
use Rattle.qm_model.proofs.Site.{Ask, after, first_asks, listing_file, print_queue_on, generic_queue, print_job, a_print_job}
use Rattle.qm_model.proofs.Ends.{two_nodes, B_takes_over}
use Rattle.qm_model.proofs.Blocks.{counted, full_page, letter_page}
use Rattle.qm_model.proofs.Listings.{site, day}

-- each run that a node has to serve, and what it does: the blocks that it hands over and its reports
abbrev served : System → List ℕ → List (ℕ × List Step)
served s node = map (λ (d : Duty). (d.run, option_map_or (λ work. course work (begin work)) d.work [])) (duties s node [])

-- On A a job of seven blocks runs that may go on at B, and one that may not restart. Both have printed three blocks when A is lost.
abbrev three_blocks_each : List Ask
three_blocks_each = first_asks
    (request.Fill (listing_file (codes "F")) 420
    ∷ print_queue_on (codes "A") (codes "LPA")
    ∷ print_queue_on (codes "B") (codes "LPB")
    ∷ generic_queue (codes "GP") (codes "LPA" ∷ codes "LPB" ∷ [])
    ∷ print_queue_on (codes "A") (codes "LPC")
    ∷ print_job (codes "GP") (codes "F")
    ∷ request.Submit (record (a_print_job (codes "LPC") (codes "F")) { retain = Failed; restart = false })
    ∷ request.Mark 1 (codes "1")
    ∷ request.Mark 2 (codes "1")
    ∷ request.Mark 1 (codes "2")
    ∷ request.Mark 2 (codes "2")
    ∷ request.Mark 1 (codes "3")
    ∷ request.Mark 2 (codes "3")
    ∷ [])

abbrev A_is_lost : System
A_is_lost = after two_nodes (three_blocks_each ++ B_takes_over ∷ [])

-- SHOW ENTRY: one job runs at B, and the other has ended
pub jobs_at_B : map entry_text A_is_lost.entries
    ≡ codes "     1 F                SYSTEM             53 executing on LPB"
    ∷ codes "     2 F                SYSTEM             53 retained, status 1020"
    ∷ []
unfolding digits
jobs_at_B = refl

-- the third run goes on behind the third block
pub goes_on_at_B : served A_is_lost (codes "B")
    ≡ (
      3,
      Handed full_page ∷ Reported (counted (codes "4") 4)
          ∷ Handed full_page ∷ Reported (counted (codes "5") 5)
          ∷ Handed full_page ∷ Reported (counted (codes "6") 6)
          ∷ Handed full_page ∷ Reported (Done 1)
          ∷ [],
    )
    ∷ []
unfolding digits
goes_on_at_B = refl

-- nothing is left to do at A
pub nothing_at_A : served A_is_lost (codes "A") ≡ []
nothing_at_A = refl

-- at the end of a small site's day PLUTO has a job of two blocks and a batch job to run
pub runs_of_the_day : served (after site day) (codes "PLUTO")
    ≡ (1, Handed (letter_page 56) ∷ Reported (counted (codes "1") 1) ∷ Handed (letter_page 44) ∷ Reported (Done 1) ∷ [])
    ∷ (3, Handed (codes "done" ++ 10 ∷ []) ∷ Reported (Done 1) ∷ [])
    ∷ []
unfolding digits
runs_of_the_day = refl

-- and then two copies of as many blocks, whose first run was lost with MARS before it had a mark
pub last_run_of_the_day : served (after (after site day) (first_asks (request.Mark 1 (codes "1") ∷ request.Done 3 1 ∷ request.Done 1 1 ∷ []))) (codes "PLUTO")
    ≡ (
      4,
      Handed (letter_page 56) ∷ Reported (counted (codes "1") 1)
          ∷ Handed (letter_page 44) ∷ Reported (counted (codes "2") 2)
          ∷ Handed (letter_page 56) ∷ Reported (counted (codes "3") 3)
          ∷ Handed (letter_page 44) ∷ Reported (Done 1)
          ∷ [],
    )
    ∷ []
unfolding digits
last_run_of_the_day = refl
