-- What is prepared is what the model accepts.
use Rattle.std.specs.Prelude.{◌≡◌, ℕ, Ok}
use Rattle.qm_model.specs.Common.{Request, System, applied}
use Rattle.qm_image.specs.declared.prepared.Prepared.{Prepared}
use Rattle.qm_image.specs.Preparing.{made}

-- the system accepts the request of the node at the moment, and what is prepared makes just that of it
abbrev pub IsAccepted : System → ℕ → ℕ → Request → Prepared → Type 0
IsAccepted s now node request prepared = applied s now node request ≡ Ok (made prepared s)
