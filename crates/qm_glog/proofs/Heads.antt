-- What the bytes that were read at a place tell of it.
use Rattle.std.proofs.Common.{◌≡◌, ◌≢◌, refl, sym, ◌∙◌, ap, subst, ℕ, ◌+◌, ◌^◌, ◌<◌, ◌≤◌, List, [], ◌∷◌, ◌++◌, length, get_or, take, drop, arith, take-append-drop, drop-drop}
use Rattle.std.specs.Int.{w32, to_le_bytes, from_le_bytes}
use Rattle.qm_glog.specs.Records.{behind_gate, IsBroken}
use Rattle.qm_glog.specs.Found.{length_bytes, IsClosed}

-- an open gate too near to the end
pub last_gate_broken : (rest read : List ℕ) → read ≡ take 1 rest → get_or read 0 0 ≡ 1 → length rest < 5 → IsBroken rest
last_gate_broken [] read is opened short = let none : 0 ≡ 1 = sym (ap (λ (l : List ℕ). get_or l 0 0) is) ∙ opened in absurd (omega (arith, none))
last_gate_broken (gate ∷ rest) read is opened short = (sym (ap (λ (l : List ℕ). get_or l 0 0) is) ∙ opened, omega arith)

pub closed_head : (rest head : List ℕ) → head ≡ take 5 rest → 5 ≤ length rest → get_or head 0 0 ≢ 1 → IsClosed rest
closed_head [] head is long shut = absurd (omega arith)
closed_head (gate ∷ rest) head is long shut = (gate, rest, refl, λ opened. shut (ap (λ (l : List ℕ). get_or l 0 0) is ∙ opened))

pub open_head : (rest head : List ℕ) (n : ℕ) → head ≡ take 5 rest → 5 ≤ length rest → get_or head 0 0 ≡ 1 → to_le_bytes w32 n ≡ length_bytes head → rest ≡ 1 ∷ (to_le_bytes w32 n ++ drop 5 rest)
open_head (g ∷ a ∷ b ∷ c ∷ d ∷ more) head n is long opened spelled =
    let bytes : to_le_bytes w32 n ≡ a ∷ b ∷ c ∷ d ∷ [] = spelled ∙ ap length_bytes is in
    let gate : g ≡ 1 = sym (ap (λ (l : List ℕ). get_or l 0 0) is) ∙ opened in
    (λ i. gate i ∷ a ∷ b ∷ c ∷ d ∷ more) ∙ ap (λ (l : List ℕ). 1 ∷ (l ++ more)) (sym bytes)
open_head [] head n is long opened spelled = absurd (omega arith)
open_head (g ∷ []) head n is long opened spelled = absurd (omega arith)
open_head (g ∷ a ∷ []) head n is long opened spelled = absurd (omega arith)
open_head (g ∷ a ∷ b ∷ []) head n is long opened spelled = absurd (omega arith)
open_head (g ∷ a ∷ b ∷ c ∷ []) head n is long opened spelled = absurd (omega arith)

pub broken_head : (rest head : List ℕ) (n : ℕ) → head ≡ take 5 rest → 5 ≤ length rest → get_or head 0 0 ≡ 1 → n ≡ from_le_bytes w32 (length_bytes head) → length rest < 5 + n → IsBroken rest
broken_head (g ∷ a ∷ b ∷ c ∷ d ∷ more) head n is long opened says short =
    let bytes : length_bytes head ≡ a ∷ b ∷ c ∷ d ∷ [] = ap length_bytes is in
    let length_is : n ≡ from_le_bytes w32 (a ∷ b ∷ c ∷ d ∷ []) = says ∙ ap (λ (l : List ℕ). from_le_bytes w32 l) bytes in
    (sym (ap (λ (l : List ℕ). get_or l 0 0) is) ∙ opened, subst (λ (k : ℕ). length (a ∷ b ∷ c ∷ d ∷ more) < 4 + k) length_is (omega arith))
broken_head [] head n is long opened says short = absurd (omega arith)
broken_head (g ∷ []) head n is long opened says short = absurd (omega arith)
broken_head (g ∷ a ∷ []) head n is long opened says short = absurd (omega arith)
broken_head (g ∷ a ∷ b ∷ []) head n is long opened says short = absurd (omega arith)
broken_head (g ∷ a ∷ b ∷ c ∷ []) head n is long opened says short = absurd (omega arith)

-- a head and the bytes behind it are a record
pub record_found : (seen : List ℕ) (place n : ℕ) (body : List ℕ) → length body ≡ n → n < 2 ^ 32 → (more : List ℕ) × (drop place seen ≡ 1 ∷ (to_le_bytes w32 n ++ more)) → body ≡ take n (drop (place + 5) seen)
    → (length body < 2 ^ 32) × (rest : List ℕ) × (drop place seen ≡ 1 ∷ (behind_gate body ++ rest))
unfolding behind_gate
record_found seen place n body size small head is =
    let more : List ℕ = head.0 in
    let behind : drop (place + 5) seen ≡ more = sym (drop-drop 5 place seen) ∙ ap (λ (l : List ℕ). drop 5 l) head.1 in
    let split : more ≡ body ++ drop n more = sym (take-append-drop n more) ∙ ap (λ (l : List ℕ). l ++ drop n more) (sym (is ∙ ap (λ (l : List ℕ). take n l) behind)) in
    let whole : drop place seen ≡ 1 ∷ (to_le_bytes w32 (length body) ++ (body ++ drop n more)) =
    head.1 ∙ ap (λ (l : List ℕ). 1 ∷ (to_le_bytes w32 n ++ l)) split ∙ ap (λ (k : ℕ). 1 ∷ (to_le_bytes w32 k ++ (body ++ drop n more))) (sym size) in
    (omega arith, drop n more, whole)
