-- Which requests have a record.
use Rattle.std.specs.Prelude.{◌≡◌, ℕ, Option, None, Some}
use Rattle.qm_history.specs.Common.{Record, Request, request_record, HasSpelling}

-- the record of a request that has a spelling, or none where it has none
abbrev pub IsSpelled : ℕ → ℕ → Request → Option Record → Type 0
IsSpelled moment node asked (Some r) = (r ≡ request_record moment node asked) × HasSpelling (request_record moment node asked)
IsSpelled moment node asked None = HasSpelling (request_record moment node asked) → ⊥
