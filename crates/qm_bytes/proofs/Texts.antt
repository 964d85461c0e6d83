-- Bytes behind their length, as the code reads them.
use Rattle.std.proofs.Common.{◌≡◌, ℕ, zero, suc, ◌<◌, ◌≤◌, true, List, [], ◌∷◌, length, take, drop, get_or, Ok, Err, refl, arith}
use Rattle.qm_bytes.specs.Reading.{between, number_at, repeat_at, bytes_at, long_bytes_at}
use Rattle.qm_bytes.proofs.Fields.{passes_between}

-- so many bytes are there
pub bytes_there : (count : ℕ) (bytes : List ℕ) → ((i : ℕ) → get_or bytes i 0 < 256) → count ≤ length bytes
    → bytes_at count bytes ≡ Ok (take count bytes, drop count bytes)
unfolding bytes_at repeat_at
bytes_there zero bytes fits long = refl
bytes_there (suc count) [] fits long = absurd (omega (arith, long))
bytes_there (suc count) (b ∷ bytes) fits long =
    let passes : between 0 255 b ≡ true = passes_between 0 255 b (omega arith) (omega (arith, fits 0)) in
    rw (passes, bytes_there count bytes (λ i. fits (suc i)) (omega (arith, long))) refl

-- or fewer
pub bytes_short : (count : ℕ) (bytes : List ℕ) → ((i : ℕ) → get_or bytes i 0 < 256) → length bytes < count
    → bytes_at count bytes ≡ Err 0
unfolding bytes_at repeat_at
bytes_short zero bytes fits short = absurd (omega (arith, short))
bytes_short (suc count) [] fits short = refl
bytes_short (suc count) (b ∷ bytes) fits short =
    let passes : between 0 255 b ≡ true = passes_between 0 255 b (omega arith) (omega (arith, fits 0)) in
    rw (passes, bytes_short count bytes (λ i. fits (suc i)) (omega (arith, short))) refl

-- bytes behind their length
pub long_there : (bytes text middle rest : List ℕ) (size : ℕ) → number_at 4 bytes ≡ Ok (size, middle)
    → bytes_at size middle ≡ Ok (text, rest) → long_bytes_at bytes ≡ Ok (text, rest)
unfolding long_bytes_at
long_there bytes text middle rest size first second = rw (first, second) refl
