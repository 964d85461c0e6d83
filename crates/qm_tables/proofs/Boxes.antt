-- What lies in boxes, and what an edit of the boxes makes of that.
use Rattle.std.proofs.Common.{◌≡◌, ◌∙◌, ℕ, zero, suc, ◌+◌, ◌<◌, ◌≤◌, List, [], ◌∷◌, ◌++◌, length, get_or, map, take, drop, set, Some, None, refl, sym, ap, arith, Bool, true, false, cond, filter, remove, slice_get, Box}
use Rattle.std.specs.Box.{with_value}
use Rattle.std.proofs.lemmas.List.Edits.{map_over_more}
use Rattle.std.proofs.lemmas.List.{map-append, map-set, map_push, take-map, drop-map, get_or-map, get_or_at, length-map, length-take-le, drop_more}
use Rattle.qm_tables.specs.Boxed.{contents}

module _ {X Z : Type 0} (test : X → Bool) where
  kept_one : (b : Box X Z) (boxes : List (Box X Z)) (answer : Bool) → contents (filter (λ x. test x.value) boxes) ≡ filter test (contents boxes)
      → contents (cond answer (b ∷ filter (λ x. test x.value) boxes) (filter (λ x. test x.value) boxes)) ≡ cond answer (b.value ∷ filter test (contents boxes)) (filter test (contents boxes))
  kept_one b boxes true rest = ap (λ (xs : List X). b.value ∷ xs) rest
  kept_one b boxes false rest = rest

  -- what lies in the boxes that are kept
  pub contents_kept : (boxes : List (Box X Z)) → contents (filter (λ b. test b.value) boxes) ≡ filter test (contents boxes)
  contents_kept [] = refl
  contents_kept (b ∷ boxes) = kept_one b boxes (test b.value) (contents_kept boxes)

module _ {X Z : Type 0} where
  abbrev pub value_of : Box X Z → X
  value_of b = b.value

  pub place_within : (boxes : List (Box X Z)) (i : ℕ) (b : Box X Z) → i < length boxes → b ≡ get_or boxes i b → Some b.value ≡ slice_get (contents boxes) i
  place_within [] i b within read = absurd (omega (arith, within))
  place_within (c ∷ boxes) zero b within read = ap (λ (x : Box X Z). Some x.value) read
  place_within (c ∷ boxes) (suc i) b within read = place_within boxes i b (omega (arith, within)) read

  pub place_past : (boxes : List (Box X Z)) (i : ℕ) → length boxes ≤ i → None ≡ slice_get (contents boxes) i
  place_past [] i past = refl
  place_past (c ∷ boxes) zero past = absurd (omega (arith, past))
  place_past (c ∷ boxes) (suc i) past = place_past boxes i (omega (arith, past))

  module _ (boxes : List (Box X Z)) where
    pub contents_length : length (contents boxes) ≡ length boxes
    contents_length = length-map boxes value_of

    pub contents_set : (i : ℕ) (b : Box X Z) → contents (set boxes i b) ≡ set (contents boxes) i b.value
    contents_set i b = map-set value_of boxes i b

    pub contents_pushed : (b : Box X Z) → contents (boxes ++ b ∷ []) ≡ contents boxes ++ b.value ∷ []
    contents_pushed b = map_push value_of boxes b

    pub contents_removed : (i : ℕ) → contents (remove boxes i) ≡ remove (contents boxes) i
    contents_removed i = rw (take-map value_of i boxes, drop-map value_of (suc i) boxes) (map-append value_of (take i boxes) (drop (suc i) boxes))

    -- a loop that changes each value in turn, at its next step
    pub contents_more : (change : X → X) (boxes₀ : List (Box X Z)) (i : ℕ) (b : Box X Z) (x y : X) → i < length boxes₀ → length boxes ≡ length boxes₀
        → contents boxes ≡ map change (take i (contents boxes₀)) ++ drop i (contents boxes₀) → b ≡ get_or boxes i b → x ≡ b.value → y ≡ change x
        → contents (set boxes i (with_value (get_or boxes i b) y)) ≡ map change (take (i + 1) (contents boxes₀)) ++ drop (i + 1) (contents boxes₀)
    contents_more change boxes₀ i b x y within same before read is changed =
        let size = length-map boxes₀ value_of in
        contents_set i (with_value (get_or boxes i b) y)
        ∙ ap (set (contents boxes) i) (changed ∙ ap change is)
        ∙ map_over_more change (contents boxes₀) (contents boxes) i b.value (omega (arith, within, size)) before (ap value_of read ∙ sym (get_or-map value_of boxes i b b.value (omega (arith, within, same))))

    -- the value that such a loop reads is the one that was there
    pub read_unchanged : (change : X → X) (boxes₀ : List (Box X Z)) (i : ℕ) (b : Box X Z) (x : X) → i < length boxes₀ → length boxes ≡ length boxes₀
        → contents boxes ≡ map change (take i (contents boxes₀)) ++ drop i (contents boxes₀) → b ≡ get_or boxes i b → x ≡ b.value → get_or (contents boxes₀) i x ≡ x
    read_unchanged change boxes₀ i b x within same before read is =
        let size = length-map boxes₀ value_of in
        let front = map change (take i (contents boxes₀)) in
        let long : length front ≡ i = length-map (take i (contents boxes₀)) change ∙ length-take-le i (contents boxes₀) (omega (arith, within, size)) in
        let parts : contents boxes ≡ front ++ get_or (contents boxes₀) i x ∷ drop (i + 1) (contents boxes₀) =
        before ∙ ap (λ (rest : List X). front ++ rest) (drop_more (contents boxes₀) i x (omega (arith, within, size))) in
        let there : get_or (contents boxes) i x ≡ x =
        get_or-map value_of boxes i b x (omega (arith, within, same)) ∙ ap value_of (sym read) ∙ sym is in
        sym (get_or_at front _ _ x i long) ∙ ap (λ (xs : List X). get_or xs i x) (sym parts) ∙ there

    -- a value that was read is written back changed
    pub contents_changed : (change : X → X) (i : ℕ) (b : Box X Z) (x : X) → i < length boxes → b ≡ get_or boxes i b → x ≡ b.value → (d : X) → contents (set boxes i (with_value b (change x))) ≡ set (contents boxes) i (change (get_or (contents boxes) i d))
    contents_changed change i b x within read is d =
        contents_set i (with_value b (change x))
        ∙ ap (λ (y : X). set (contents boxes) i (change y)) (is ∙ ap value_of read ∙ sym (get_or-map value_of boxes i b d within))
