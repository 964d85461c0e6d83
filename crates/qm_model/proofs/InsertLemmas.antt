-- Lists in order with one more element in its place, and lists that lose elements.
use Rattle.std.proofs.Common.{◌≡◌, ◌+◌, ◌<◌, ◌≤◌, ◌||◌, inl, inr, Bool, true, false, cond, not, List, [], ◌∷◌, length, refl, sym, ◌∙◌, ap, subst, arith, Option, None, Some, All, filter, find, IsSome}
use Rattle.std.specs.List.{list_any}
use Rattle.std.proofs.lemmas.List.Elements.{All-cons, All-nil, All-head, All-tail, All-weaker}
use Rattle.qm_model.specs.Inserting.{inserted}
use Rattle.qm_model.proofs.SettlingLemmas.{IsIn}
use Rattle.qm_model.proofs.ListLemmas.{Pairs, in_all}

-- ---- one more element

module _ {X : Type 0} (before : X → X → Bool) (x : X) where
  all_at : (P : X → Type 0) (y : X) (ys : List X) (b : Bool) → P x → All P (y ∷ ys) → (All P ys → All P (inserted before x ys)) → All P (cond b (x ∷ y ∷ ys) (y ∷ inserted before x ys))
  all_at P y ys true p h later = All-cons P x (y ∷ ys) p h
  all_at P y ys false p h later = All-cons P y (inserted before x ys) (All-head P y ys h) (later (All-tail P y ys h))

  pub all_inserted : (P : X → Type 0) (ys : List X) → P x → All P ys → All P (inserted before x ys)
  all_inserted P [] p h = All-cons P x [] p (All-nil P)
  all_inserted P (y ∷ ys) p h = all_at P y ys (before x y) p h (all_inserted P ys p)

  longer_at : (y : X) (ys : List X) (b : Bool) → length (inserted before x ys) ≡ length ys + 1 → length (cond b (x ∷ y ∷ ys) (y ∷ inserted before x ys)) ≡ length (y ∷ ys) + 1
  longer_at y ys true later = omega arith
  longer_at y ys false later = omega (arith, later)

  pub longer : (ys : List X) → length (inserted before x ys) ≡ length ys + 1
  longer [] = refl
  longer (y ∷ ys) = longer_at y ys (before x y) (longer ys)

  -- the new element stands before some elements and after the others
  abbrev pub Fits : (X → X → Type 0) → X → Type 0
  Fits R y = (before x y ≡ true → R x y) × (before x y ≡ false → R y x)

  order_at : (R : X → X → Type 0) → ((u v w : X) → R u v → R v w → R u w) → (y : X) (ys : List X) (b : Bool) → before x y ≡ b → Fits R y → Pairs R (y ∷ ys)
      → (Pairs R ys → Pairs R (inserted before x ys)) → Pairs R (cond b (x ∷ y ∷ ys) (y ∷ inserted before x ys))
  order_at R trans y ys true is fit h later = (All-cons (R x) y ys (fit.0 is) (All-weaker (R y) (R x) (λ z k. trans x y z (fit.0 is) k) ys h.0), h)
  order_at R trans y ys false is fit h later = (all_inserted (R y) ys (fit.1 is) h.0, later h.1)

  pub order_inserted : (R : X → X → Type 0) → ((u v w : X) → R u v → R v w → R u w) → (ys : List X) → All (Fits R) ys → Pairs R ys → Pairs R (inserted before x ys)
  order_inserted R trans [] fit h = (All-nil (R x), tt)
  order_inserted R trans (y ∷ ys) fit h = order_at R trans y ys (before x y) refl (All-head (Fits R) y ys fit) h (order_inserted R trans ys (All-tail (Fits R) y ys fit))

  apart_at : (R : X → X → Type 0) (y : X) (ys : List X) (b : Bool) → All (R x) (y ∷ ys) → R y x → Pairs R (y ∷ ys) → (Pairs R ys → Pairs R (inserted before x ys))
      → Pairs R (cond b (x ∷ y ∷ ys) (y ∷ inserted before x ys))
  apart_at R y ys true first last h later = (first, h)
  apart_at R y ys false first last h later = (all_inserted (R y) ys last h.0, later h.1)

  pub apart_inserted : (R : X → X → Type 0) (ys : List X) → All (R x) ys → All (λ y. R y x) ys → Pairs R ys → Pairs R (inserted before x ys)
  apart_inserted R [] first last h = (All-nil (R x), tt)
  apart_inserted R (y ∷ ys) first last h =
      apart_at R y ys (before x y) first (All-head (λ y. R y x) y ys last) h (apart_inserted R ys (All-tail (R x) y ys first) (All-tail (λ y. R y x) y ys last))

  missed_at : (p : X → Bool) (y : X) (ys : List X) (b : Bool) → p x ≡ false → find p (inserted before x ys) ≡ find p ys → find p (cond b (x ∷ y ∷ ys) (y ∷ inserted before x ys)) ≡ find p (y ∷ ys)
  missed_at p y ys true fails later = ap (λ (c : Bool). cond c (Some x) (find p (y ∷ ys))) fails
  missed_at p y ys false fails later = ap (λ (o : Option X). cond (p y) (Some y) o) later

  -- what isn't looked for doesn't matter
  pub missed : (p : X → Bool) (ys : List X) → p x ≡ false → find p (inserted before x ys) ≡ find p ys
  missed p [] fails = ap (λ (c : Bool). cond c (Some x) None) fails
  missed p (y ∷ ys) fails = missed_at p y ys (before x y) fails (missed p ys fails)

  hit_next : (p : X → Bool) (y : X) (ys : List X) (b : Bool) → p y ≡ b → cond b (Some y) (find p ys) ≡ None → (find p ys ≡ None → find p (inserted before x ys) ≡ Some x)
      → cond b (Some y) (find p (inserted before x ys)) ≡ Some x
  hit_next p y ys true is nothing later = cc
  hit_next p y ys false is nothing later = later nothing

  hit_at : (p : X → Bool) (y : X) (ys : List X) (b : Bool) → p x ≡ true → find p (y ∷ ys) ≡ None → (find p ys ≡ None → find p (inserted before x ys) ≡ Some x)
      → find p (cond b (x ∷ y ∷ ys) (y ∷ inserted before x ys)) ≡ Some x
  hit_at p y ys true holds nothing later = ap (λ (c : Bool). cond c (Some x) (find p (y ∷ ys))) holds
  hit_at p y ys false holds nothing later = hit_next p y ys (p y) refl nothing later

  -- where no other one is found, the new one is
  pub hit : (p : X → Bool) (ys : List X) → p x ≡ true → find p ys ≡ None → find p (inserted before x ys) ≡ Some x
  hit p [] holds nothing = ap (λ (c : Bool). cond c (Some x) None) holds
  hit p (y ∷ ys) holds nothing = hit_at p y ys (before x y) holds nothing (hit p ys holds)

  either_there : (o p : Option X) (b c : Bool) (y : X) → IsSome o → IsSome (cond b (Some y) o)
  either_there o p true c y h = refl
  either_there o p false c y h = h

  next_there : (b : Bool) (y : X) (o p : Option X) → (IsSome o → IsSome p) → IsSome (cond b (Some y) o) → IsSome (cond b (Some y) p)
  next_there true y o p later h = refl
  next_there false y o p later h = later h

  there_at : (p : X → Bool) (y : X) (ys : List X) (b : Bool) → (IsSome (find p ys) → IsSome (find p (inserted before x ys))) → IsSome (find p (y ∷ ys)) → IsSome (find p (cond b (x ∷ y ∷ ys) (y ∷ inserted before x ys)))
  there_at p y ys true later h = either_there (find p (y ∷ ys)) None (p x) true x h
  there_at p y ys false later h = next_there (p y) y (find p ys) (find p (inserted before x ys)) later h

  pub there_inserted : (p : X → Bool) (ys : List X) → IsSome (find p ys) → IsSome (find p (inserted before x ys))
  there_inserted p [] h = cc
  there_inserted p (y ∷ ys) h = there_at p y ys (before x y) (there_inserted p ys) h

-- ---- what is found

module _ {X : Type 0} (p q : X → Bool) (keeps : (y : X) → p y ≡ true → q y ≡ true) where
  kept_at : (y : X) (ys : List X) (b c : Bool) → p y ≡ b → q y ≡ c → find p (filter q ys) ≡ find p ys → find p (cond c (y ∷ filter q ys) (filter q ys)) ≡ cond b (Some y) (find p ys)
  kept_at y ys true true is also later = ap (λ (d : Bool). cond d (Some y) (find p (filter q ys))) is
  kept_at y ys true false is also later = let holds = keeps y is in cc
  kept_at y ys false true is also later = ap (λ (d : Bool). cond d (Some y) (find p (filter q ys))) is ∙ later
  kept_at y ys false false is also later = later

  -- what is found stays, where no such element goes
  pub found_kept : (ys : List X) → find p (filter q ys) ≡ find p ys
  found_kept [] = refl
  found_kept (y ∷ ys) = kept_at y ys (p y) (q y) refl refl (found_kept ys)

module _ {X : Type 0} (p : X → Bool) where
  not_found_at : (y : X) (ys : List X) (b : Bool) → p y ≡ b → cond b (Some y) (find p ys) ≡ None → (find p ys ≡ None → All (λ z. p z ≡ false) ys) → All (λ z. p z ≡ false) (y ∷ ys)
  not_found_at y ys true is h later = cc
  not_found_at y ys false is h later = All-cons (λ z. p z ≡ false) y ys is (later h)

  -- where none is found, none is there
  pub not_found : (ys : List X) → find p ys ≡ None → All (λ z. p z ≡ false) ys
  not_found [] h = All-nil (λ z. p z ≡ false)
  not_found (y ∷ ys) h = not_found_at y ys (p y) refl h (not_found ys)

  none_at : (y : X) (ys : List X) (b : Bool) → p y ≡ b → find p (filter (λ z. not (p z)) ys) ≡ None → find p (cond (not b) (y ∷ filter (λ z. not (p z)) ys) (filter (λ z. not (p z)) ys)) ≡ None
  none_at y ys true is later = later
  none_at y ys false is later = ap (λ (d : Bool). cond d (Some y) (find p (filter (λ z. not (p z)) ys))) is ∙ later

  pub none_left : (ys : List X) → find p (filter (λ z. not (p z)) ys) ≡ None
  none_left [] = refl
  none_left (y ∷ ys) = none_at y ys (p y) refl (none_left ys)

  only_at : (x y : X) (ys : List X) (b : Bool) → p y ≡ b → All (λ z. p y ≡ true → p z ≡ true → ⊥) ys → IsIn x (y ∷ ys) → p x ≡ true → (IsIn x ys → find p ys ≡ Some x) → (All (λ z. p y ≡ true → p z ≡ true → ⊥) ys → IsIn x ys → p y ≡ true → p x ≡ true → ⊥)
      → cond b (Some y) (find p ys) ≡ Some x
  only_at x y ys true is apart (inl same) holds later fails = ap (λ (z : X). Some z) (sym same)
  only_at x y ys true is apart (inr among) holds later fails = absurd (fails apart among is holds)
  only_at x y ys false is apart (inl same) holds later fails = let also : p y ≡ true = subst (λ z. p z ≡ true) same holds in cc
  only_at x y ys false is apart (inr among) holds later fails = later among

  -- the only one of its kind is found
  pub found_only : (x : X) (ys : List X) → Pairs (λ y z. p y ≡ true → p z ≡ true → ⊥) ys → IsIn x ys → p x ≡ true → find p ys ≡ Some x
  found_only x [] apart among holds = absurd among
  found_only x (y ∷ ys) apart among holds =
      only_at x y ys (p y) refl apart.0 among holds (λ later. found_only x ys apart.1 later holds) (λ h later. in_all (λ z. p y ≡ true → p z ≡ true → ⊥) x ys h later)

module _ {X : Type 0} where
  pub all_in : (xs : List X) → All (λ y. IsIn y xs) xs
  all_in [] = All-nil (λ y. IsIn y [])
  all_in (x ∷ xs) = All-cons (λ y. IsIn y (x ∷ xs)) x xs (inl refl) (All-weaker (λ y. IsIn y xs) (λ y. IsIn y (x ∷ xs)) (λ y h. inr h) xs (all_in xs))

  in_at : (before : X → X → Bool) (x y : X) (ys : List X) (b : Bool) → All (λ z. IsIn z (inserted before x ys)) ys × IsIn x (inserted before x ys)
      → All (λ z. IsIn z (cond b (x ∷ y ∷ ys) (y ∷ inserted before x ys))) (y ∷ ys) × IsIn x (cond b (x ∷ y ∷ ys) (y ∷ inserted before x ys))
  in_at before x y ys true later = (All-weaker (λ z. IsIn z (y ∷ ys)) (λ z. IsIn z (x ∷ y ∷ ys)) (λ z h. inr h) (y ∷ ys) (all_in (y ∷ ys)), inl refl)
  in_at before x y ys false later =
      (All-cons (λ z. IsIn z (y ∷ inserted before x ys)) y ys (inl refl) (All-weaker (λ z. IsIn z (inserted before x ys)) (λ z. IsIn z (y ∷ inserted before x ys)) (λ z h. inr h) ys later.0), inr later.1)

  pub in_inserted : (before : X → X → Bool) (x : X) (ys : List X) → All (λ y. IsIn y (inserted before x ys)) ys × IsIn x (inserted before x ys)
  in_inserted before x [] = (All-nil (λ y. IsIn y (x ∷ [])), inl refl)
  in_inserted before x (y ∷ ys) = in_at before x y ys (before x y) (in_inserted before x ys)

  in_kept_at : (q : X → Bool) (y : X) (ys : List X) (b : Bool) → q y ≡ b → All (λ z. q z ≡ true → IsIn z (filter q ys)) ys → All (λ z. q z ≡ true → IsIn z (cond b (y ∷ filter q ys) (filter q ys))) (y ∷ ys)
  in_kept_at q y ys true is later =
      All-cons (λ z. q z ≡ true → IsIn z (y ∷ filter q ys)) y ys (λ holds. inl refl) (All-weaker (λ z. q z ≡ true → IsIn z (filter q ys)) (λ z. q z ≡ true → IsIn z (y ∷ filter q ys)) (λ z h holds. inr (h holds)) ys later)
  in_kept_at q y ys false is later = All-cons (λ z. q z ≡ true → IsIn z (filter q ys)) y ys (λ holds. cc) later

  pub in_kept : (q : X → Bool) (ys : List X) → All (λ z. q z ≡ true → IsIn z (filter q ys)) ys
  in_kept q [] = All-nil (λ z. q z ≡ true → IsIn z [])
  in_kept q (y ∷ ys) = in_kept_at q y ys (q y) refl (in_kept q ys)

  all_kept_at : (q : X → Bool) (P : X → Type 0) (y : X) (ys : List X) (b : Bool) → q y ≡ b → (q y ≡ true → P y) → All P (filter q ys) → All P (cond b (y ∷ filter q ys) (filter q ys))
  all_kept_at q P y ys true is h later = All-cons P y (filter q ys) (h is) later
  all_kept_at q P y ys false is h later = later

  -- what holds of those that are kept
  pub all_kept : (q : X → Bool) (P : X → Type 0) (ys : List X) → All (λ y. q y ≡ true → P y) ys → All P (filter q ys)
  all_kept q P [] h = All-nil P
  all_kept q P (y ∷ ys) h = all_kept_at q P y ys (q y) refl (All-head (λ y. q y ≡ true → P y) y ys h) (all_kept q P ys (All-tail (λ y. q y ≡ true → P y) y ys h))

  fewer_at : (q : X → Bool) (y : X) (ys : List X) (b : Bool) → length (filter q ys) ≤ length ys → length (cond b (y ∷ filter q ys) (filter q ys)) ≤ length (y ∷ ys)
  fewer_at q y ys true later = omega (arith, later)
  fewer_at q y ys false later = omega (arith, later)

  pub fewer : (q : X → Bool) (ys : List X) → length (filter q ys) ≤ length ys
  fewer q [] = omega arith
  fewer q (y ∷ ys) = fewer_at q y ys (q y) (fewer q ys)

  one_goes_at : (p : X → Bool) (y : X) (ys : List X) (b : Bool) → IsSome (cond b (Some y) (find p ys)) → (IsSome (find p ys) → length (filter (λ z. not (p z)) ys) < length ys)
      → length (cond (not b) (y ∷ filter (λ z. not (p z)) ys) (filter (λ z. not (p z)) ys)) < length (y ∷ ys)
  one_goes_at p y ys true there later = omega (arith, fewer (λ z. not (p z)) ys)
  one_goes_at p y ys false there later = omega (arith, later there)

  -- where one is found, at least one goes
  pub one_goes : (p : X → Bool) (ys : List X) → IsSome (find p ys) → length (filter (λ z. not (p z)) ys) < length ys
  one_goes p [] there = cc
  one_goes p (y ∷ ys) there = one_goes_at p y ys (p y) there (one_goes p ys)

  none_any_at : (p : X → Bool) (y : X) (ys : List X) (b : Bool) → p y ≡ b → (b || list_any p ys) ≡ false → (list_any p ys ≡ false → All (λ z. p z ≡ false) ys) → All (λ z. p z ≡ false) (y ∷ ys)
  none_any_at p y ys true is h later = cc
  none_any_at p y ys false is h later = All-cons (λ z. p z ≡ false) y ys is (later h)

  pub none_any : (p : X → Bool) (ys : List X) → list_any p ys ≡ false → All (λ z. p z ≡ false) ys
  none_any p [] h = All-nil (λ z. p z ≡ false)
  none_any p (y ∷ ys) h = none_any_at p y ys (p y) refl h (none_any p ys)
