-- Reading and adding byte strings that stand one behind another.
use Rattle.std.proofs.Common.{◌≡◌, refl, sym, ◌∙◌, ap, ℕ, suc, zero, ◌-◌, ◌<◌, ◌≤◌, subst, List, [], ◌∷◌, ◌++◌, length, get_or, take, drop, Some, slice_get, arith, slice_range, take-take}
use Rattle.std.proofs.lemmas.Slice.{between_is, between_to_end}
use Rattle.qm_glog.specs.Cut.{cut, AreEnds}

pub length-cut : (from : ℕ) (ends bytes : List ℕ) → length (cut from ends bytes) ≡ length ends
length-cut from [] bytes = refl
length-cut from (end ∷ ends) bytes = omega (arith, length-cut end ends bytes)

-- the string of this index
pub cut_at : (from : ℕ) (ends bytes : List ℕ) (i : ℕ) → i < length ends → slice_get (cut from ends bytes) i ≡ Some (slice_range bytes (get_or (from ∷ ends) i 0) (get_or ends i 0))
cut_at from [] bytes i within = absurd (omega arith)
cut_at from (end ∷ ends) bytes zero within = refl
cut_at from (end ∷ ends) bytes (suc i) within = cut_at end ends bytes i (omega arith)

pub last_is_last : (from : ℕ) (ends : List ℕ) (last : ℕ) → AreEnds from ends last → from ≤ last
last_is_last from [] last are = omega (arith, are)
last_is_last from (end ∷ ends) last are = omega (arith, are.0, last_is_last end ends last are.1)

-- it begins before it ends, and ends within all bytes
pub ends_after_start : (from : ℕ) (ends : List ℕ) (last i : ℕ) → AreEnds from ends last → i < length ends → get_or (from ∷ ends) i 0 ≤ get_or ends i 0
ends_after_start from [] last i are within = absurd (omega arith)
ends_after_start from (end ∷ ends) last zero are within = are.0
ends_after_start from (end ∷ ends) last (suc i) are within = ends_after_start end ends last i are.1 (omega arith)

pub ends_within : (from : ℕ) (ends : List ℕ) (last i : ℕ) → AreEnds from ends last → i < length ends → get_or ends i 0 ≤ last
ends_within from [] last i are within = absurd (omega arith)
ends_within from (end ∷ ends) last zero are within = last_is_last end ends last are.1
ends_within from (end ∷ ends) last (suc i) are within = ends_within end ends last i are.1 (omega arith)

-- one end more
pub AreEnds-push : (from : ℕ) (ends : List ℕ) (last next : ℕ) → AreEnds from ends last → last ≤ next → AreEnds from (ends ++ next ∷ []) next
AreEnds-push from [] last next are later = (omega (arith, are), refl)
AreEnds-push from (end ∷ ends) last next are later = (are.0, AreEnds-push end ends last next are.1 later)

-- a string that ends among the first bytes stands there
same_range : (old new : List ℕ) (from end n : ℕ) → take n new ≡ old → end ≤ n → slice_range new from end ≡ slice_range old from end
same_range old new from end n same within =
    between_is new from end ∙ ap (λ (l : List ℕ). drop from l) (sym (take-take end n new within) ∙ ap (λ (l : List ℕ). take end l) same) ∙ sym (between_is old from end)

-- what stands behind the bytes so far, up to the end of all, is one string more
pub cut-push : (from : ℕ) (ends old new : List ℕ) → AreEnds from ends (length old) → take (length old) new ≡ old
    → cut from (ends ++ length new ∷ []) new ≡ cut from ends old ++ drop (length old) new ∷ []
cut-push from [] old new are same =
    ap (λ (l : List ℕ). l ∷ []) (between_to_end new from (length new) (omega arith) ∙ ap (λ (k : ℕ). drop k new) are)
cut-push from (end ∷ ends) old new are same =
    let within : end ≤ length old = last_is_last end ends (length old) are.1 in
    let first = same_range old new from end (length old) same within in
    let others = cut-push end ends old new are.1 same in
    (λ k. first k ∷ others k)

-- where the string of an index begins the one before it ends
pub start_is : (from : ℕ) (ends : List ℕ) (i : ℕ) → 0 < i → get_or (from ∷ ends) i 0 ≡ get_or ends (i - 1) 0
start_is from ends zero some = absurd (omega arith)
start_is from ends (suc i) some = ap (λ (k : ℕ). get_or ends k 0) (let same : i ≡ suc i - 1 = omega arith in same)

module _ (ends more : List ℕ) (last end : ℕ) (are : AreEnds 0 ends last) (added : more ≡ ends ++ end ∷ []) where
  pub AreEnds-on : (next : ℕ) → last ≤ next → end ≡ next → AreEnds 0 more next
  AreEnds-on next later is =
      subst (λ (l : List ℕ). AreEnds 0 l next) (sym (added ∙ ap (λ (k : ℕ). ends ++ k ∷ []) is)) (AreEnds-push 0 ends last next are later)

  pub list_on : (old new : List ℕ) → last ≡ length old → take last new ≡ old → end ≡ length new → cut 0 more new ≡ cut 0 ends old ++ drop last new ∷ []
  list_on old new long same is =
      ap (λ (l : List ℕ). cut 0 l new) (added ∙ ap (λ (k : ℕ). ends ++ k ∷ []) is)
      ∙ cut-push 0 ends old new (subst (λ (k : ℕ). AreEnds 0 ends k) long are) (ap (λ (k : ℕ). take k new) (sym long) ∙ same)
      ∙ ap (λ (k : ℕ). cut 0 ends old ++ drop k new ∷ []) (sym long)
