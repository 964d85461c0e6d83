-- What a loop makes of a list, place by place.
use Rattle.std.proofs.Common.{◌≡◌, ◌∙◌, ℕ, ◌+◌, ◌<◌, ◌≤◌, ⊎_elim, List, length, get_or, set, refl, sym, subst, arith, length-set, get_or-set_same, get_or-set_other}
use Rattle.std.proofs.lemmas.Bool.{cases_lt}

module _ {X : Type 0} (R : ℕ → X → X → Type 0) where
  -- the elements before the place are changed so, and the others aren't
  pub record AreDone (place : ℕ) (old now : List X) : Type 0 where
    pub count : length now ≡ length old
    pub changed : (k : ℕ) (d : X) → k < place → k < length old → R k (get_or old k d) (get_or now k d)
    pub left : (k : ℕ) (d : X) → place ≤ k → k < length old → get_or now k d ≡ get_or old k d

  pub none_done : (old : List X) → AreDone 0 old old
  none_done old = record {
    count = refl;
    changed = λ k d below within. absurd (omega (arith, below));
    left = λ k d behind within. refl;
  }

  module _ (place : ℕ) (old now : List X) (x : X) (done : AreDone place old now) (within : place < length old) (one : (d : X) → R place (get_or now place d) x) where
    at_it : (d : X) → R place (get_or old place d) (get_or (set now place x) place d)
    at_it d =
        subst (R place (get_or old place d)) (sym (get_or-set_same now place x d (omega (arith, within, done.count))))
        (subst (λ y. R place y x) (done.left place d (omega arith) within) (one d))

    one_changed : (k : ℕ) (d : X) → k < place + 1 → k < length old → R k (get_or old k d) (get_or (set now place x) k d)
    one_changed k d below there =
        ⊎_elim
        (λ (less : k < place). subst (R k (get_or old k d)) (sym (get_or-set_other now place k x d (λ same. omega (arith, same, less)))) (done.changed k d less there))
        (λ (past : place ≤ k). let here : place ≡ k = omega (arith, below, past) in subst (λ (m : ℕ). R m (get_or old m d) (get_or (set now place x) m d)) here (at_it d))
        (cases_lt k place)

    pub one_done : AreDone (place + 1) old (set now place x)
    one_done = record {
      count = length-set now place x ∙ done.count;
      changed = one_changed;
      left = λ k d behind there. get_or-set_other now place k x d (λ same. omega (arith, same, behind)) ∙ done.left k d (omega (arith, behind)) there;
    }
