-- Numbers of so many bytes, as the code reads them.
use Rattle.std.proofs.Common.{◌≡◌, ℕ, zero, suc, ◌+◌, ◌-◌, ◌*◌, ◌/◌, ◌%◌, ◌^◌, ◌<◌, ◌≤◌, min, true, false, List, [], ◌∷◌, ◌++◌, length, take, drop, get_or, Result, Ok, Err, refl, sym, ap, subst, ◌∙◌, arith, length-append, IsOk, is_ok, drop_at, length-drop, get_or-drop, drop-drop, take-append-drop}
use Rattle.std.proofs.Math.Nat.{pow-suc, one-le-pow, div-div-eq-div-mul, div-one}
use Rattle.std.proofs.lemmas.Nat.{le_bytes_2, le_bytes_4, le_bytes_8}
use Rattle.std.specs.Int.{w16, w32, w64, from_le_bytes, bytes_low_first, byte_at}
use Rattle.qm_bytes.specs.Reading.{◌>>=◌, onward, pure, byte_where, between, number_up_to, number_at}
use Rattle.qm_bytes.specs.Spelling.{low_first}
use Rattle.qm_bytes.specs.Splitting.{IsSplit}
use Rattle.qm_bytes.proofs.Fields.{parts_of, passes_between, number_reader}

pub no_byte : (count limit : ℕ) (bytes : List ℕ) → count ≡ 0 → number_up_to count limit bytes ≡ Ok (0, bytes)
unfolding number_up_to
no_byte count limit bytes e = rw e refl

pub first_byte : (count limit : ℕ) (bytes : List ℕ) → (count ≡ 0 → ⊥)
    → number_up_to count limit bytes ≡ onward (byte_where (between 0 (min limit 255)) bytes) (λ low. number_up_to (count - 1) ((limit - low) / 256) >>= λ high. pure (low + 256 * high))
unfolding number_up_to
first_byte count limit bytes h =
    let k : count ≡ suc (count - 1) = omega (arith, h) in
    ap (λ n. number_up_to n limit bytes) k

length_low_first : (count n : ℕ) → length (low_first count n) ≡ count
length_low_first zero n = refl
length_low_first (suc count) n = ap suc (length_low_first count (n / 256))

found_low : (found : Result (ℕ × List ℕ) ℕ) (low : ℕ) → IsOk found → IsOk (onward found (λ high. pure (low + 256 * high)))
found_low (Ok x) low h = refl
found_low (Err e) low h = h

-- where there are bytes enough, there is a number
pub number_is_there : (count : ℕ) (bytes : List ℕ) → ((i : ℕ) → get_or bytes i 0 < 256) → count ≤ length bytes
    → IsOk (number_up_to count (256 ^ count - 1) bytes)
unfolding number_up_to
number_is_there zero bytes fits long = refl
number_is_there (suc count) [] fits long = absurd (omega (arith, long))
number_is_there (suc count) (b ∷ bytes) fits long =
    let split = pow-suc 256 count in
    let some = one-le-pow count 256 (omega arith) in
    let rest : (256 ^ suc count - 1 - b) / 256 ≡ 256 ^ count - 1 = omega (arith, split, some, fits 0) in
    let passes : between 0 (min (256 ^ suc count - 1) 255) b ≡ true =
    passes_between 0 (min (256 ^ suc count - 1) 255) b (omega arith) (omega (arith, split, some, fits 0)) in
    rw (passes, rest) (found_low (number_up_to count (256 ^ count - 1) bytes) b (number_is_there count bytes (λ i. fits (suc i)) (omega (arith, long))))

-- the number that is found stands in front
pub number_is_so : (count : ℕ) (bytes : List ℕ) (n : ℕ) (rest : List ℕ) → number_at count bytes ≡ Ok (n, rest)
    → (bytes ≡ low_first count n ++ rest) × (count ≤ length bytes) × (rest ≡ drop count bytes)
number_is_so count bytes n rest e =
    let t = (number_reader count).takes bytes n rest e in
    let parts : bytes ≡ low_first count n ++ rest = t.2 ∙ ap (λ (x : List ℕ). x ++ rest) t.1.is in
    let len : length bytes ≡ count + length rest =
    ap length parts ∙ length-append (low_first count n) rest ∙ ap (λ k. k + length rest) (length_low_first count n) in
    (parts, omega (arith, len), sym (rw parts (drop_at (low_first count n) rest count (length_low_first count n))))

-- a number that is found behind a place
pub found_at : (bytes rest : List ℕ) (at count n : ℕ) (behind : List ℕ) → rest ≡ drop at bytes → at ≤ length bytes
    → number_at count rest ≡ Ok (n, behind)
    → (at + count ≤ length bytes) × (drop at bytes ≡ low_first count n ++ drop (at + count) bytes)
found_at bytes rest at count n behind is within e =
    let s = number_is_so count rest n behind e in
    let len : length rest ≡ length bytes - at = ap length is ∙ length-drop at bytes in
    let last : behind ≡ drop (at + count) bytes = s.2 ∙ ap (drop count) is ∙ drop-drop count at bytes in
    (omega (arith, s.1, len, within), sym is ∙ s.0 ∙ ap (λ (x : List ℕ). low_first count n ++ x) last)

never_fails : (left : ℕ) (r : Result (ℕ × List ℕ) ℕ) → IsOk r → r ≡ Err left → ⊥
never_fails left r there fails = let no : false ≡ true = sym (ap is_ok fails) ∙ there in cc

-- where none is found, fewer bytes are left
pub none_at : (bytes rest : List ℕ) (at count left : ℕ) → ((i : ℕ) → get_or bytes i 0 < 256) → rest ≡ drop at bytes
    → number_at count rest ≡ Err left → at + count ≤ length bytes → ⊥
none_at bytes rest at count left fits is fails long =
    let len : length rest ≡ length bytes - at = ap length is ∙ length-drop at bytes in
    let rest_fits : (i : ℕ) → get_or rest i 0 < 256 = λ i. rw (is, get_or-drop) (fits (at + i)) in
    never_fails left (number_at count rest) (number_is_there count rest rest_fits (omega (arith, len, long))) fails

abbrev ok : ℕ → List ℕ → Result (ℕ × List ℕ) ℕ
ok n rest = Ok (n, rest)

-- what is spelled in front, and isn't above the limit, is found
pub found_again : (count limit n : ℕ) (rest : List ℕ) → n < 256 ^ count → n ≤ limit
    → number_up_to count limit (low_first count n ++ rest) ≡ Ok (n, rest)
unfolding number_up_to
found_again zero limit n rest fits le =
    let none : n ≡ 0 = omega (arith, fits) in
    rw none refl
found_again (suc count) limit n rest fits le =
    let split = pow-suc 256 count in
    let p = parts_of limit n le in
    let high = found_again count ((limit - n % 256) / 256) (n / 256) rest (omega (arith, fits, split)) p.1 in
    rw (p.0, high) (ap (λ m. ok m rest) (sym p.2))

-- ---- numbers of the machine's widths

byte_is : (i n : ℕ) → byte_at i n ≡ n / 256 ^ i % 256
byte_is zero n = ap (λ m. m % 256) (sym (div-one n))
byte_is (suc i) n = refl

low_bytes : (i count n : ℕ) → bytes_low_first i count n ≡ low_first count (n / 256 ^ i)
low_bytes i zero n = refl
low_bytes i (suc count) n =
    let next : n / 256 ^ suc i ≡ n / 256 ^ i / 256 =
    sym (div-div-eq-div-mul n (256 ^ i) 256 ∙ ap (λ m. n / m) (omega (arith, pow-suc 256 i))) in
    let others : bytes_low_first (suc i) count n ≡ low_first count (n / 256 ^ i / 256) =
    low_bytes (suc i) count n ∙ ap (low_first count) next in
    rw (byte_is i n, others) refl

all_low_bytes : (count n : ℕ) → bytes_low_first 0 count n ≡ low_first count n
all_low_bytes count n = low_bytes 0 count n ∙ ap (low_first count) (div-one n)

parted : (count n : ℕ) (bytes front rest : List ℕ) → front ≡ take count bytes → rest ≡ drop count bytes
    → bytes_low_first 0 count n ≡ front → bytes ≡ low_first count n ++ rest
parted count n bytes front rest f r spelled =
    let same : low_first count n ≡ take count bytes = sym (all_low_bytes count n) ∙ spelled ∙ f in
    sym (take-append-drop count bytes) ∙ rw (same, r) refl

-- the first of bytes are bytes
bytes_ahead : (count : ℕ) (bytes : List ℕ) → ((i : ℕ) → get_or bytes i 0 < 256) → (i : ℕ) → get_or (take count bytes) i 0 < 256
bytes_ahead zero bytes small i = omega arith
bytes_ahead (suc count) [] small i = omega arith
bytes_ahead (suc count) (b ∷ bytes) small zero = small 0
bytes_ahead (suc count) (b ∷ bytes) small (suc i) = bytes_ahead count bytes (λ j. small (suc j)) i

-- the first bytes of these, as a number of their width
pub two_split : (bytes front rest : List ℕ) (n : ℕ) → front ≡ take 2 bytes → rest ≡ drop 2 bytes → length front ≡ 2
    → ((i : ℕ) → get_or bytes i 0 < 256) → n ≡ from_le_bytes w16 front → n < 2 ^ 16 → IsSplit 2 bytes n rest
two_split bytes front rest n f r count small is fits =
    record { parts = parted 2 n bytes front rest f r (le_bytes_2 front n count (λ i. subst (λ (bs : List ℕ). get_or bs i 0 < 256) (sym f) (bytes_ahead 2 bytes small i)) is); fits = fits }

pub four_split : (bytes front rest : List ℕ) (n : ℕ) → front ≡ take 4 bytes → rest ≡ drop 4 bytes → length front ≡ 4
    → ((i : ℕ) → get_or bytes i 0 < 256) → n ≡ from_le_bytes w32 front → n < 2 ^ 32 → IsSplit 4 bytes n rest
four_split bytes front rest n f r count small is fits =
    record { parts = parted 4 n bytes front rest f r (le_bytes_4 front n count (λ i. subst (λ (bs : List ℕ). get_or bs i 0 < 256) (sym f) (bytes_ahead 4 bytes small i)) is); fits = fits }

pub eight_split : (bytes front rest : List ℕ) (n : ℕ) → front ≡ take 8 bytes → rest ≡ drop 8 bytes → length front ≡ 8
    → ((i : ℕ) → get_or bytes i 0 < 256) → n ≡ from_le_bytes w64 front → n < 2 ^ 64 → IsSplit 8 bytes n rest
eight_split bytes front rest n f r count small is fits =
    record { parts = parted 8 n bytes front rest f r (le_bytes_8 front n count (λ i. subst (λ (bs : List ℕ). get_or bs i 0 < 256) (sym f) (bytes_ahead 8 bytes small i)) is); fits = fits }

-- a number that was split off is found
pub split_found : (count limit n : ℕ) (bytes rest : List ℕ) → IsSplit count bytes n rest → n ≤ limit
    → number_up_to count limit bytes ≡ Ok (n, rest)
split_found count limit n bytes rest s le = ap (number_up_to count limit) s.parts ∙ found_again count limit n rest s.fits le
