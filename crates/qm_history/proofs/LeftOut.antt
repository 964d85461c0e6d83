-- A run that another fetch gave, and that leaves out the block behind its mark, is no step of a course.
use Rattle.std.proofs.Common.{◌≡◌, ℕ, inl, inr, false, true, List, [], ◌∷◌, refl, ap, arith, codes}
use Rattle.std.specs.Fmt.{digits}
use Rattle.qm_history.specs.Common.{Place, KeptRun, WentOn, MadeStep}
use Rattle.qm_model.specs.Reports.{begin}
use Rattle.qm_history.specs.Blocks.{ComeInStretches, IsInStretch}
use Rattle.qm_history.proofs.OneCourse.{run_at, work}

-- the run printed its first page, and another fetch gave the job again, behind that page
abbrev first : MadeStep
first = record { run = run_at 0; end = WentOn }

abbrev given_again : ℕ → KeptRun
given_again block = record {
  run = 2;
  aborting = false;
  paused = false;
  work = record work { run = 2; again = true; mark = codes "1" };
  place = record { at = block; used = 0 };
  fetched = 7;
}

abbrev steps : ℕ → List MadeStep
steps block = first ∷ record { run = given_again block; end = WentOn } ∷ []

it_begins_behind_its_mark : begin (given_again 1).work ≡ record { at = 1; used = 0 }
unfolding digits
it_begins_behind_its_mark = refl

pub the_next_block_may_come : ComeInStretches [] (steps 1)
unfolding digits
the_next_block_may_come = (inl (tt, refl), (inl (tt, refl), tt))

two_is_not_one : ◌≡◌ {A = ℕ} 2 1 → ⊥
two_is_not_one bad = absurd (omega (arith, bad))

not_there : IsInStretch (first ∷ []) (given_again 2) → ⊥
unfolding digits
not_there (inl begins) = two_is_not_one (ap (λ (p : Place). p.at) begins.1)
not_there (inr left) = absurd left

pub no_block_is_left_out : ComeInStretches [] (steps 2) → ⊥
no_block_is_left_out h = not_there h.1.0
