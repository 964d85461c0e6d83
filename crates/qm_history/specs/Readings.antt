-- What a node's clock told, and what its turns made of it.
-- OpenVMS System Services Reference Manual, $GETTIM. This site's own: one reading for each turn.
use Rattle.std.specs.Prelude.{◌≡◌, ◌≤◌, ℕ, List, ◌++◌, length, map}
use Rattle.qm_history.specs.Course.{Extent, Whole, Begun}
use Rattle.qm_history.specs.Visits.{Visit}

-- the readings of a node's turns
abbrev pub readings_of : List Visit → List ℕ
readings_of visits = map (λ (v : Visit). v.turn.moment) visits

-- Each turn has the reading that the clock told for it, in order. Behind a course that was only begun one more may have been
-- told, for a call that left no turn.
abbrev pub AreReadings : Extent → List ℕ → List Visit → Type 0
AreReadings Whole told visits = told ≡ readings_of visits
AreReadings Begun told visits = (more : List ℕ) × (told ≡ readings_of visits ++ more) × (length more ≤ 1)
