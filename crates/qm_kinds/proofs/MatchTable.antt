-- The rows of the table of matches, from the last byte of the pattern to its first.
use Rattle.std.proofs.Common.{◌≡◌, ◌≢◌, ◌⊎◌, inl, inr, ◌-◌, ◌≤◌, ◌<◌, ◌+◌, ◌||◌, ◌&&◌, ℕ, zero, suc, Bool, true, false, List, [], ◌∷◌, length, drop, set, replicate, get_or, arith, refl, sym, ◌∙◌, ap, get_or-set_same, get_or-set_other}
use Rattle.std.specs.List.{list_any}
use Rattle.std.proofs.lemmas.List.{drop_more}
use Rattle.std.proofs.Math.Seq.{drop-length}
use Rattle.qm_kinds.specs.Wildcards.{matches, suffixes}
use Rattle.qm_kinds.specs.MatchRows.{cell, fits_byte, IsRowOf, IsRowBeforeStar}

-- an empty row has no cell that holds
pub cell-replicate : (n k : ℕ) → cell (replicate n false) k ≡ false
cell-replicate zero k = refl
cell-replicate (suc n) zero = refl
cell-replicate (suc n) (suc k) = cell-replicate n k

-- nothing is left of a text at its end
pub nothing_left : (k : ℕ) (text : List ℕ) → k ≡ length text → drop k text ≡ []
nothing_left k text e = ap (λ n. drop n text) e ∙ drop-length text

-- a row with one cell that holds, at the end of the text
one_cell : (row : List Bool) (last : ℕ) → last < length row → ((k : ℕ) → cell row k ≡ false) → (text : List ℕ) → length text ≡ last → (k : ℕ) → k ≤ length text → (k < last) ⊎ (k ≡ last) → cell (set row last true) k ≡ matches [] (drop k text)
one_cell row last room blank text long k within (inl before) =
    let other : k ≢ last = omega arith in
    let more : k < length text = omega arith in
    get_or-set_other row last k true false other ∙ blank k ∙ sym (ap (matches []) (drop_more text k 0 more))
one_cell row last room blank text long k within (inr at) =
    ap (λ n. get_or (set row last true) n false) at ∙ get_or-set_same row last true false room ∙ sym (ap (matches []) (nothing_left k text (omega arith)))

before_or_at : (k n : ℕ) → k ≤ n → (k < n) ⊎ (k ≡ n)
before_or_at k n h = grind arith

-- the row of the empty pattern
pub empty_is_row : (last : ℕ) → last < 40 → (text : List ℕ) → length text ≡ last → IsRowOf [] text (set (replicate 40 false) last true)
empty_is_row last few text long = record { each = λ k within. one_cell (replicate 40 false) last few (cell-replicate 40) text long k within (before_or_at k last (omega arith)) }

or_false : (b : Bool) → (b || false) ≡ b
or_false b = grind arith

or_both : (a b c d : Bool) → a ≡ c → b ≡ d → (a || b) ≡ (c || d)
or_both a b c d e f = cc

-- a cell before * holds where the rest matches one of the ends of what is left there
star_cells : (rest text : List ℕ) (row before : List Bool) → IsRowBeforeStar (length text) row before → IsRowOf rest text row → (more k : ℕ) → k + more ≡ length text → cell before k ≡ list_any (matches rest) (suffixes (drop k text))
star_cells rest text row before star known zero k e =
    let at : k ≡ length text = omega arith in
    let left = nothing_left k text at in
    ap (cell before) at ∙ star.final ∙ ap (cell row) (sym at) ∙ known.each k (omega arith) ∙ ap (matches rest) left
    ∙ sym (or_false (matches rest [])) ∙ sym (ap (λ t. list_any (matches rest) (suffixes t)) left)
star_cells rest text row before star known (suc more) k e =
    let here : k < length text = omega arith in
    let left = drop_more text k 0 here in
    star.earlier k here
    ∙ or_both _ _ _ _ (known.each k (omega arith) ∙ ap (matches rest) left) (star_cells rest text row before star known more (k + 1) (omega arith))
    ∙ sym (ap (λ t. list_any (matches rest) (suffixes t)) left)

pub star_is_row : (rest text : List ℕ) (row before : List Bool) → IsRowBeforeStar (length text) row before → IsRowOf rest text row → IsRowOf (42 ∷ rest) text before
star_is_row rest text row before star known =
    record { each = λ k within. star_cells rest text row before star known (length text - k) k (omega arith) }

-- what the loop of a row before * has so far
pub record StarSoFar (last k : ℕ) (row before : List Bool) (any : Bool) : Type 0 where
  pub size : length before ≡ 40
  pub none : last < k → any ≡ false
  pub any_is : k ≤ last → any ≡ cell before k
  pub final : k ≤ last → cell before last ≡ cell row last
  pub earlier : (j : ℕ) → k ≤ j → j < last → cell before j ≡ (cell row j || cell before (j + 1))

-- what the loop of a row before a byte has so far
pub record ByteSoFar (byte k : ℕ) (text : List ℕ) (row before : List Bool) : Type 0 where
  pub size : length before ≡ 40
  pub untouched : (j : ℕ) → k ≤ j → cell before j ≡ false
  pub done : (j : ℕ) → j < k → cell before j ≡ (fits_byte byte (get_or text j 0) && cell row (j + 1))

pub no_byte_yet : (byte : ℕ) (text : List ℕ) (row : List Bool) → ByteSoFar byte 0 text row (replicate 40 false)
no_byte_yet byte text row = record { size = refl; untouched = λ j h. cell-replicate 40 j; done = λ j h. absurd (omega arith) }
