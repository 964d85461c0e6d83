-- Bytes behind which only zeros stand are given back by those bytes.
use Rattle.std.proofs.Common.{◌≡◌, ℕ, ◌-◌, ◌≤◌, ◌++◌, List, length, take, drop, replicate, arith, ap, sym, ◌∙◌, take-append-drop, length-take-le, length-append, length-drop}
use Rattle.std.proofs.Math.Seq.{drop-append_seam, take-append_seam}
use Rattle.std.proofs.lemmas.List.{drop-replicate, length-replicate}

pub padded_size : (cap size : ℕ) (bytes : List ℕ) → size ≤ cap → length bytes ≡ cap → length (take size bytes) ≡ size
padded_size cap size bytes fits all = length-take-le size bytes (omega (arith, fits, all))

pub padded_bytes : (cap size : ℕ) (bytes : List ℕ) → size ≤ cap → length bytes ≡ cap → drop size bytes ≡ replicate (cap - size) 0 → take size bytes ++ replicate (cap - length (take size bytes)) 0 ≡ bytes
padded_bytes cap size bytes fits all rest =
    ap (λ n. take size bytes ++ replicate (cap - n) 0) (padded_size cap size bytes fits all)
    ∙ ap (λ xs. take size bytes ++ xs) (sym rest) ∙ take-append-drop size bytes

-- bytes in front of zeros are as long as there is room, and behind them stand the zeros that are left
pub padded : (cap : ℕ) (bytes : List ℕ) → length bytes ≤ cap → (length bytes ≤ cap) × (length (bytes ++ drop (length bytes) (replicate cap 0)) ≡ cap) × (drop (length bytes) (bytes ++ drop (length bytes) (replicate cap 0)) ≡ replicate (cap - length bytes) 0)
padded cap bytes fits = (
  fits,
  simp (length-append, length-drop, length-replicate) (omega (arith, fits)),
  drop-append_seam bytes (drop (length bytes) (replicate cap 0)) ∙ drop-replicate (length bytes) cap 0,
)

-- the bytes stand in front
pub front_of_padded : (cap : ℕ) (bytes : List ℕ) → take (length bytes) (bytes ++ drop (length bytes) (replicate cap 0)) ≡ bytes
front_of_padded cap bytes = take-append_seam bytes (drop (length bytes) (replicate cap 0))
