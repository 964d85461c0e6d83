-- What a loop over boxes has looked at.
use Rattle.std.proofs.Common.{◌≡◌, ◌∙◌, ℕ, ◌+◌, ◌<◌, Bool, true, false, List, [], ◌∷◌, ◌++◌, length, get_or, take, drop, cond, sym, ap, arith, filter, Box}
use Rattle.std.proofs.lemmas.List.{append_assoc, append-nil, length-map, get_or-map, drop_more}
use Rattle.std.proofs.lemmas.List.Elements.{filter_more}
use Rattle.qm_tables.specs.Boxed.{contents}

module _ {X Z : Type 0} (boxes : List (Box X Z)) (i : ℕ) (b : Box X Z) (x : X) (within : i < length boxes) (read : b ≡ get_or boxes i b) (is : x ≡ b.value) where
  -- the value that lies in the box of this place
  pub value_at : x ≡ get_or (contents boxes) i x
  value_at = is ∙ ap (λ (y : Box X Z). y.value) read ∙ sym (get_or-map (λ (y : Box X Z). y.value) boxes i b x within)

  pub value_within : i < length (contents boxes)
  value_within = omega (arith, within, length-map boxes (λ (y : Box X Z). y.value))

module _ {X : Type 0} (keeps : X → Bool) (xs : List X) (i : ℕ) (x : X) (within : i < length xs) (is : x ≡ get_or xs i x) where
  -- the next element stands between those that were kept and those that are left
  pub next_left : filter keeps (take i xs) ++ drop i xs ≡ filter keeps (take i xs) ++ x ∷ drop (i + 1) xs
  next_left = ap (λ (ys : List X). filter keeps (take i xs) ++ ys) (drop_more xs i x within ∙ ap (λ (y : X). y ∷ drop (i + 1) xs) (sym is))

  more_kept : filter keeps (take (i + 1) xs) ≡ filter keeps (take i xs) ++ cond (keeps x) (x ∷ []) []
  more_kept = filter_more keeps xs i x within ∙ ap (λ (y : X). filter keeps (take i xs) ++ cond (keeps y) (y ∷ []) []) (sym is)

  -- where it is kept, nothing has changed
  pub next_kept : keeps x ≡ true → filter keeps (take (i + 1) xs) ++ drop (i + 1) xs ≡ filter keeps (take i xs) ++ drop i xs
  next_kept stays =
      ap (λ (ys : List X). ys ++ drop (i + 1) xs) (more_kept ∙ ap (λ (b : Bool). filter keeps (take i xs) ++ cond b (x ∷ []) []) stays)
      ∙ append_assoc (filter keeps (take i xs)) (x ∷ []) (drop (i + 1) xs)
      ∙ sym next_left

  -- where it isn't, it is gone
  pub next_gone : keeps x ≡ false → filter keeps (take (i + 1) xs) ++ drop (i + 1) xs ≡ filter keeps (take i xs) ++ drop (i + 1) xs
  next_gone goes =
      ap (λ (ys : List X). ys ++ drop (i + 1) xs) (more_kept ∙ ap (λ (b : Bool). filter keeps (take i xs) ++ cond b (x ∷ []) []) goes ∙ append-nil (filter keeps (take i xs)))
