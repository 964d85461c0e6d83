-- What is done to tiers, and what comes of their list.
use Rattle.std.proofs.Common.{◌≡◌, ◌∙◌, ℕ, zero, suc, ◌+◌, ◌-◌, ◌*◌, ◌<◌, ◌≤◌, List, [], ◌∷◌, ◌++◌, length, get_or, set, take, drop, slice_get, Some, None, refl, sym, ap, subst, subst₂, inl, inr, arith, append_assoc, append-nil, suc-mul, zero-mul, All, insert, remove, IsPermutation}
use Rattle.std.proofs.lemmas.Bool.{cases_lt}
use Rattle.std.proofs.lemmas.List.{length-append, length-set, length-take, length-drop, take-append-drop, take_at, drop_at, get_or-append_right, get_or_append_left, get_or-drop, get_or-take, set-append_left, set-append_right, drop-set, take-set, drop-drop, drop-set-add, drop-set-lt, take-set-le, take_more, set-set, set-get_or, get_or-set_same}
use Rattle.std.proofs.lemmas.List.Edits.{insert-append_right, remove-append_right, length-remove}
use Rattle.std.proofs.lemmas.List.Elements.{All-head, All-tail, All-set}
use Rattle.std.proofs.lemmas.List.Sorted.{IsPermutation-refl, IsPermutation-append, IsPermutation-append_comm}
use Rattle.qm_ready.specs.Tiers.{turned, laid, AreSlots, IsInRing, IsInFront, IsSlot}

-- ---- lists with a hole

module _ {X : Type 0} where
  -- an element that goes into a place, for the one that stood there
  on_by_one : (xs : List X) (p : ℕ) (c d : X) → p < length xs → insert xs p c ≡ insert (set xs p c) (suc p) (get_or xs p d)
  on_by_one [] p c d within = absurd (omega arith)
  on_by_one (x ∷ xs) zero c d within = refl
  on_by_one (x ∷ xs) (suc p) c d within = ap (λ (l : List X). x ∷ l) (on_by_one xs p c d (omega arith))

  pub hole_on : (xs : List X) (p : ℕ) (c d : X) → p < length xs → insert xs p c ≡ insert (set xs p c) (p + 1) (get_or xs p d)
  hole_on xs p c d within = let same : suc p ≡ p + 1 = omega arith in on_by_one xs p c d within ∙ ap (λ (i : ℕ). insert (set xs p c) i (get_or xs p d)) same

  back_by_one : (xs : List X) (p : ℕ) (c d : X) → p < length xs → insert xs (suc p) c ≡ insert (set xs p c) p (get_or xs p d)
  back_by_one [] p c d within = absurd (omega arith)
  back_by_one (x ∷ xs) zero c d within = refl
  back_by_one (x ∷ xs) (suc p) c d within = ap (λ (l : List X). x ∷ l) (back_by_one xs p c d (omega arith))

  pub hole_back : (xs : List X) (p : ℕ) (c d : X) → p < length xs → insert xs (p + 1) c ≡ insert (set xs p c) p (get_or xs p d)
  hole_back xs p c d within = let same : p + 1 ≡ suc p = omega arith in ap (λ (i : ℕ). insert xs i c) same ∙ back_by_one xs p c d within

  -- a hole that is filled, and one that is made
  pub filled : (xs : List X) (p : ℕ) (d : X) → p < length xs → insert (remove xs p) p (get_or xs p d) ≡ xs
  filled [] p d within = absurd (omega arith)
  filled (x ∷ xs) zero d within = refl
  filled (x ∷ xs) (suc p) d within = ap (λ (l : List X). x ∷ l) (filled xs p d (omega arith))

  pub emptied : (xs : List X) (p : ℕ) (c : X) → p ≤ length xs → remove (insert xs p c) p ≡ xs
  emptied xs zero c within = refl
  emptied [] (suc p) c within = absurd (omega arith)
  emptied (x ∷ xs) (suc p) c within = ap (λ (l : List X). x ∷ l) (emptied xs p c (omega arith))

  pub put_there : (xs : List X) (p : ℕ) (c d : X) → p ≤ length xs → get_or (insert xs p c) p d ≡ c
  put_there xs zero c d within = refl
  put_there [] (suc p) c d within = absurd (omega arith)
  put_there (x ∷ xs) (suc p) c d within = put_there xs p c d (omega arith)

  -- a hole that is filled in front of one that is made, and behind it
  made_behind : (xs : List X) (p q : ℕ) (c : X) → q ≤ p → p < length xs → remove (insert xs q c) (suc p) ≡ insert (remove xs p) q c
  made_behind xs p zero c order within = refl
  made_behind [] p (suc q) c order within = absurd (omega arith)
  made_behind (x ∷ xs) zero (suc q) c order within = absurd (omega arith)
  made_behind (x ∷ xs) (suc p) (suc q) c order within = ap (λ (l : List X). x ∷ l) (made_behind xs p q c (omega arith) (omega arith))

  made_before : (xs : List X) (p q : ℕ) (c : X) → p ≤ q → q < length xs → remove (insert xs (suc q) c) p ≡ insert (remove xs p) q c
  made_before [] p q c order within = absurd (omega arith)
  made_before (x ∷ xs) zero q c order within = refl
  made_before (x ∷ xs) (suc p) zero c order within = absurd (omega arith)
  made_before (x ∷ xs) (suc p) (suc q) c order within = ap (λ (l : List X). x ∷ l) (made_before xs p q c (omega arith) (omega arith))

  -- a list in which an element came in front, and one behind it went
  pub went_on : (xs ys : List X) (p q : ℕ) (c r : X) → length ys ≡ length xs → q ≤ p → p < length xs → insert ys (p + 1) r ≡ insert xs q c → ys ≡ insert (remove xs p) q c
  went_on xs ys p q c r size order within is =
      let same : p + 1 ≡ suc p = omega arith in
      sym (emptied ys (p + 1) r (omega (arith, size, within))) ∙ ap (λ (l : List X). remove l (p + 1)) is ∙ ap (λ (i : ℕ). remove (insert xs q c) i) same
      ∙ made_behind xs p q c order within

  pub went_back : (xs ys : List X) (p q : ℕ) (c r : X) → length ys ≡ length xs → p ≤ q → q < length xs → insert ys p r ≡ insert xs (q + 1) c → ys ≡ insert (remove xs p) q c
  went_back xs ys p q c r size order within is =
      let same : q + 1 ≡ suc q = omega arith in
      sym (emptied ys p r (omega (arith, size, order, within))) ∙ ap (λ (l : List X). remove l p) (is ∙ ap (λ (i : ℕ). insert xs i c) same)
      ∙ made_before xs p q c order within

  -- an element goes through a part of a list
  split : (front back : List X) (n : ℕ) (x : X) → length front ≡ n → insert (front ++ back) n x ≡ front ++ x ∷ back
  split front back n x size = ap (λ (l : List X). l ++ x ∷ drop n (front ++ back)) (take_at front back n size) ∙ ap (λ (l : List X). front ++ x ∷ l) (drop_at front back n size)

  module _ (xs new : List X) (a k : ℕ) (c r : X) (within : a + k ≤ length xs) (same : length new ≡ length (take ((a + k) - a) (drop a xs))) where
    abbrev front : List X
    front = take a xs

    abbrev middle : List X
    middle = take ((a + k) - a) (drop a xs)

    abbrev behind : List X
    behind = drop ((a + k) - a) (drop a xs)

    whole : front ++ (middle ++ behind) ≡ xs
    whole = ap (λ (l : List X). front ++ l) (take-append-drop ((a + k) - a) (drop a xs)) ∙ take-append-drop a xs

    front_long : length front ≡ a
    front_long = omega (arith, length-take a xs, within)

    middle_long : length middle ≡ k
    middle_long = omega (arith, length-take ((a + k) - a) (drop a xs), length-drop a xs, within)

    both_long : (l : List X) → length l ≡ k → length (front ++ l) ≡ a + k
    both_long l size = omega (arith, length-append front l, front_long, size)

    pub part_on : new ++ r ∷ [] ≡ c ∷ middle → insert (front ++ (new ++ behind)) (a + k) r ≡ insert xs a c
    part_on moved =
        ap (λ (l : List X). insert l (a + k) r) (sym (append_assoc front new behind)) ∙ split (front ++ new) behind (a + k) r (both_long new (same ∙ middle_long))
        ∙ append_assoc front new (r ∷ behind) ∙ ap (λ (l : List X). front ++ l) (sym (append_assoc new (r ∷ []) behind) ∙ ap (λ (l : List X). l ++ behind) moved)
        ∙ sym (split front (middle ++ behind) a c front_long) ∙ ap (λ (l : List X). insert l a c) whole

    pub part_back : r ∷ new ≡ middle ++ c ∷ [] → insert (front ++ (new ++ behind)) a r ≡ insert xs (a + k) c
    part_back moved =
        split front (new ++ behind) a r front_long ∙ ap (λ (l : List X). front ++ (l ++ behind)) moved
        ∙ ap (λ (l : List X). front ++ l) (append_assoc middle (c ∷ []) behind) ∙ sym (append_assoc front middle (c ∷ behind))
        ∙ sym (split (front ++ middle) behind (a + k) c (both_long middle middle_long)) ∙ ap (λ (l : List X). insert l (a + k) c) (append_assoc front middle behind ∙ whole)

-- ---- one ring

module _ {X : Type 0} where
  pub length-turned : (h : ℕ) (b : List X) → length (turned h b) ≡ length b
  length-turned h b = length-append (drop h b) (take h b) ∙ omega (arith, length-drop h b, length-take h b)

  pub turned_zero : (b : List X) → turned 0 b ≡ b
  turned_zero b = append-nil b

  -- a place from the head
  ring_read : (b : List X) (n h o r : ℕ) (d : X) → length b ≡ n → h < n → o < n → IsInRing n h o r → get_or (turned h b) o d ≡ get_or b r d
  ring_read b n h o r d size below within ring = elim (cases_lt (h + o) n) [
    | inl less ↦
        let is : h + o ≡ r = omega (arith, ring.before less) in
        get_or_append_left (drop h b) (take h b) d o (omega (arith, less, length-drop h b, size)) ∙ get_or-drop h b o d ∙ ap (λ (i : ℕ). get_or b i d) is
    | inr more ↦
        let is : o - (n - h) ≡ r = omega (arith, ring.behind more) in
        get_or-append_right (drop h b) (take h b) (n - h) o d (omega (arith, length-drop h b, size)) (omega (arith, more))
        ∙ get_or-take h b (o - (n - h)) d (omega (arith, more)) ∙ ap (λ (i : ℕ). get_or b i d) is
  ]

  ring_write : (b : List X) (n h o r : ℕ) (x : X) → length b ≡ n → h < n → o < n → IsInRing n h o r → turned h (set b r x) ≡ set (turned h b) o x
  ring_write b n h o r x size below within ring = elim (cases_lt (h + o) n) [
    | inl less ↦
        let is : r ≡ h + o = ring.before less in
        let back : drop h (set b r x) ≡ set (drop h b) o x = ap (λ (i : ℕ). drop h (set b i x)) is ∙ drop-set-add h b o x in
        let front : take h (set b r x) ≡ take h b = take-set-le h b r x (omega arith) in
        ap (λ (l : List X). l ++ take h (set b r x)) back ∙ ap (λ (l : List X). set (drop h b) o x ++ l) front
        ∙ sym (set-append_left (drop h b) (take h b) o x (omega (arith, less, length-drop h b, size)))
    | inr more ↦
        let is : o - (n - h) ≡ r = omega (arith, ring.behind more) in
        let back : drop h (set b r x) ≡ drop h b = drop-set-lt h b r x (omega (arith, ring.behind more)) in
        let front : take h (set b r x) ≡ set (take h b) r x = front_write h b r x (omega (arith, ring.behind more)) in
        ap (λ (l : List X). l ++ take h (set b r x)) back ∙ ap (λ (l : List X). drop h b ++ l) (front ∙ ap (λ (i : ℕ). set (take h b) i x) (sym is))
        ∙ sym (set-append_right (drop h b) (take h b) (n - h) o x (omega (arith, length-drop h b, size)) (omega (arith, more)))
  ]
    where
      front_write : (h : ℕ) (b : List X) (r : ℕ) (x : X) → r < h → take h (set b r x) ≡ set (take h b) r x
      front_write zero b r x less = absurd (omega arith)
      front_write (suc h) [] r x less = refl
      front_write (suc h) (y ∷ b) zero x less = refl
      front_write (suc h) (y ∷ b) (suc r) x less = ap (λ (l : List X). y ∷ l) (front_write h b r x (omega arith))

  -- an element comes in front of the head, and the last one goes
  ring_on : (b : List X) (n h h' : ℕ) (c d : X) → length b ≡ n → h < n → IsInFront n h h' → turned h' (set b h' c) ++ get_or b h' d ∷ [] ≡ c ∷ turned h b
  ring_on b n zero h' c d size below front =
      let last : h' + 1 ≡ n = front.first refl in
      let back : drop h' (set b h' c) ≡ c ∷ [] = drop-set b h' c (omega arith) ∙ ap (λ (l : List X). c ∷ l) (drop_none (h' + 1) b (omega arith)) in
      let kept : take h' (set b h' c) ≡ take h' b = take-set b h' c in
      let whole : take h' b ++ get_or b h' d ∷ [] ≡ b = sym (take_more b h' d (omega arith)) ∙ take_whole (h' + 1) b (omega arith) in
      ap (λ (l : List X). (l ++ take h' (set b h' c)) ++ get_or b h' d ∷ []) back ∙ ap (λ (l : List X). c ∷ (l ++ get_or b h' d ∷ [])) kept
      ∙ ap (λ (l : List X). c ∷ l) (whole ∙ sym (append-nil b))
    where
      drop_none : (i : ℕ) (l : List X) → length l ≤ i → drop i l ≡ []
      drop_none zero [] short = refl
      drop_none zero (x ∷ l) short = absurd (omega arith)
      drop_none (suc i) [] short = refl
      drop_none (suc i) (x ∷ l) short = drop_none i l (omega arith)

      take_whole : (i : ℕ) (l : List X) → length l ≤ i → take i l ≡ l
      take_whole zero [] short = refl
      take_whole zero (x ∷ l) short = absurd (omega arith)
      take_whole (suc i) [] short = refl
      take_whole (suc i) (x ∷ l) short = ap (λ (m : List X). x ∷ m) (take_whole i l (omega arith))
  ring_on b n (suc h) h' c d size below front =
      let is : h' + 1 ≡ suc h = front.later (omega arith) in
      let back : drop h' (set b h' c) ≡ c ∷ drop (suc h) b = drop-set b h' c (omega arith) ∙ ap (λ (i : ℕ). c ∷ drop i b) is in
      let kept : take h' (set b h' c) ≡ take h' b = take-set b h' c in
      let more : take h' b ++ get_or b h' d ∷ [] ≡ take (suc h) b = sym (take_more b h' d (omega arith)) ∙ ap (λ (i : ℕ). take i b) is in
      ap (λ (l : List X). (l ++ take h' (set b h' c)) ++ get_or b h' d ∷ []) back ∙ ap (λ (l : List X). c ∷ ((drop (suc h) b ++ l) ++ get_or b h' d ∷ [])) kept
      ∙ ap (λ (l : List X). c ∷ l) (append_assoc (drop (suc h) b) (take h' b) (get_or b h' d ∷ []) ∙ ap (λ (l : List X). drop (suc h) b ++ l) more)

-- ---- tiers, one behind the other

in_first : (n i : ℕ) → 0 * n + i ≡ i
in_first n i = omega (arith, zero-mul n)

place_below : (n j m r : ℕ) → j < m → r < n → j * n + r < m * n
place_below n j zero r tier within = absurd (omega arith)
place_below n zero (suc m) r tier within = omega (arith, suc-mul m n, zero-mul n)
place_below n (suc j) (suc m) r tier within = omega (arith, suc-mul m n, suc-mul j n, place_below n j m r (omega (arith, tier)) within)

-- a ring's places further on, and back
ring_more : (n h o r i : ℕ) → IsInRing n h o r → r + i < n → IsInRing n h (o + i) (r + i)
ring_more n h o r i ring within = elim (cases_lt (h + o) n) [
  | inl less ↦ let is : r ≡ h + o = ring.before less in record { within = within; before = λ more. omega (arith, is); behind = λ more. absurd (omega (arith, is, more, within)) }
  | inr past ↦ let is : r + n ≡ h + o = ring.behind past in record { within = within; before = λ more. absurd (omega (arith, past, more)); behind = λ more. omega (arith, is) }
]

pub ring_less : (n h o r i : ℕ) → h < n → IsInRing n h (o + i) (r + i) → IsInRing n h o r
ring_less n h o r i below ring = elim (cases_lt (h + (o + i)) n) [
  | inl less ↦
      let is : r + i ≡ h + (o + i) = ring.before less in
      record { within = omega (arith, ring.within); before = λ more. omega (arith, is); behind = λ more. absurd (omega (arith, less, more)) }
  | inr past ↦
      let is : (r + i) + n ≡ h + (o + i) = ring.behind past in
      record { within = omega (arith, ring.within); before = λ more. absurd (omega (arith, is, more)); behind = λ more. omega (arith, is) }
]

module _ {X : Type 0} (n : ℕ) where
  -- by its first tier and the rest
  laid_cons : (h : ℕ) (hs : List ℕ) (b r : List X) → length b ≡ n → laid n (h ∷ hs) (b ++ r) ≡ turned h b ++ laid n hs r
  laid_cons h hs b r size = ap (λ (l : List X). turned h l ++ laid n hs (drop n (b ++ r))) (take_at b r n size) ∙ ap (λ (l : List X). turned h b ++ laid n hs l) (drop_at b r n size)

  pub length-laid : (hs : List ℕ) (xs : List X) → length (laid n hs xs) ≡ length xs
  length-laid [] xs = refl
  length-laid (h ∷ hs) xs =
      length-append (turned h (take n xs)) (laid n hs (drop n xs))
      ∙ omega (arith, length-turned h (take n xs), length-laid hs (drop n xs), length-take n xs, length-drop n xs)

  -- the rest has room for the other rings
  rest_full : (h : ℕ) (hs : List ℕ) (xs : List X) → length (h ∷ hs) * n ≤ length xs → (n ≤ length xs) × (length hs * n ≤ length (drop n xs))
  rest_full h hs xs full =
      let sum : suc (length hs) * n ≡ length hs * n + n = suc-mul (length hs) n in
      (omega (arith, sum), omega (arith, sum, length-drop n xs))

  front_size : (xs : List X) → n ≤ length xs → length (take n xs) ≡ n
  front_size xs enough = omega (arith, length-take n xs)

  turned_size : (h : ℕ) (xs : List X) → n ≤ length xs → length (turned h (take n xs)) ≡ n
  turned_size h xs enough = length-turned h (take n xs) ∙ front_size xs enough

  -- the slot of a place of a tier
  slot_reads : (hs : List ℕ) (j o r : ℕ) (xs : List X) (d : X) → j < length hs → o < n → All (λ h. h < n) hs → IsInRing n (get_or hs j 0) o r → length hs * n ≤ length xs
      → get_or (laid n hs xs) (j * n + o) d ≡ get_or xs (j * n + r) d
  slot_reads [] j o r xs d tier within heads ring full = absurd (omega arith)
  slot_reads (h ∷ hs) zero o r xs d tier within heads ring full =
      let enough = (rest_full h hs xs full).0 in
      ap (λ (i : ℕ). get_or (laid n (h ∷ hs) xs) i d) (in_first n o)
      ∙ get_or_append_left (turned h (take n xs)) (laid n hs (drop n xs)) d o (omega (arith, turned_size h xs enough))
      ∙ ring_read (take n xs) n h o r d (front_size xs enough) (All-head (λ h. h < n) h hs heads) within ring ∙ get_or-take n xs r d ring.within
      ∙ ap (λ (i : ℕ). get_or xs i d) (sym (in_first n r))
  slot_reads (h ∷ hs) (suc j) o r xs d tier within heads ring full =
      let rest = rest_full h hs xs full in
      let sum : suc j * n ≡ j * n + n = suc-mul j n in
      let here : (suc j * n + o) - n ≡ j * n + o = omega (arith, sum) in
      let there : n + (j * n + r) ≡ suc j * n + r = omega (arith, sum) in
      get_or-append_right (turned h (take n xs)) (laid n hs (drop n xs)) n (suc j * n + o) d (turned_size h xs rest.0) (omega (arith, sum))
      ∙ ap (λ (i : ℕ). get_or (laid n hs (drop n xs)) i d) here
      ∙ slot_reads hs j o r (drop n xs) d (omega (arith, tier)) within (All-tail (λ h. h < n) h hs heads) ring rest.1
      ∙ get_or-drop n xs (j * n + r) d ∙ ap (λ (i : ℕ). get_or xs i d) there

  slot_writes : (hs : List ℕ) (j o r : ℕ) (xs : List X) (x : X) → j < length hs → o < n → All (λ h. h < n) hs → IsInRing n (get_or hs j 0) o r → length hs * n ≤ length xs
      → laid n hs (set xs (j * n + r) x) ≡ set (laid n hs xs) (j * n + o) x
  slot_writes [] j o r xs x tier within heads ring full = absurd (omega arith)
  slot_writes (h ∷ hs) zero o r xs x tier within heads ring full =
      let enough = (rest_full h hs xs full).0 in
      let size = front_size xs enough in
      let is : set xs r x ≡ set (take n xs) r x ++ drop n xs = ap (λ (l : List X). set l r x) (sym (take-append-drop n xs)) ∙ set-append_left (take n xs) (drop n xs) r x (omega (arith, size, ring.within)) in
      ap (λ (i : ℕ). laid n (h ∷ hs) (set xs i x)) (in_first n r)
      ∙ ap (laid n (h ∷ hs)) is ∙ laid_cons h hs (set (take n xs) r x) (drop n xs) (length-set (take n xs) r x ∙ size)
      ∙ ap (λ (l : List X). l ++ laid n hs (drop n xs)) (ring_write (take n xs) n h o r x size (All-head (λ h. h < n) h hs heads) within ring)
      ∙ sym (set-append_left (turned h (take n xs)) (laid n hs (drop n xs)) o x (omega (arith, turned_size h xs enough)))
      ∙ ap (λ (i : ℕ). set (laid n (h ∷ hs) xs) i x) (sym (in_first n o))
  slot_writes (h ∷ hs) (suc j) o r xs x tier within heads ring full =
      let rest = rest_full h hs xs full in
      let size = front_size xs rest.0 in
      let sum : suc j * n ≡ j * n + n = suc-mul j n in
      let here : (suc j * n + o) - n ≡ j * n + o = omega (arith, sum) in
      let there : (suc j * n + r) - n ≡ j * n + r = omega (arith, sum) in
      let is : set xs (suc j * n + r) x ≡ take n xs ++ set (drop n xs) (j * n + r) x =
      ap (λ (l : List X). set l (suc j * n + r) x) (sym (take-append-drop n xs))
      ∙ set-append_right (take n xs) (drop n xs) n (suc j * n + r) x size (omega (arith, sum))
      ∙ ap (λ (i : ℕ). take n xs ++ set (drop n xs) i x) there in
      ap (laid n (h ∷ hs)) is ∙ laid_cons h hs (take n xs) (set (drop n xs) (j * n + r) x) size
      ∙ ap (λ (l : List X). turned h (take n xs) ++ l) (slot_writes hs j o r (drop n xs) x (omega (arith, tier)) within (All-tail (λ h. h < n) h hs heads) ring rest.1)
      ∙ sym (set-append_right (turned h (take n xs)) (laid n hs (drop n xs)) n (suc j * n + o) x (turned_size h xs rest.0) (omega (arith, sum)) ∙ ap (λ (i : ℕ). turned h (take n xs) ++ set (laid n hs (drop n xs)) i x) here)

  -- an element goes through a whole tier
  pub tier_on : (hs : List ℕ) (j h' : ℕ) (xs : List X) (c d : X) → j < length hs → All (λ h. h < n) hs → IsInFront n (get_or hs j 0) h' → length hs * n ≤ length xs
      → insert (laid n hs xs) (j * n) c ≡ insert (laid n (set hs j h') (set xs (j * n + h') c)) (j * n + n) (get_or xs (j * n + h') d)
  tier_on [] j h' xs c d tier heads front full = absurd (omega arith)
  tier_on (h ∷ hs) zero h' xs c d tier heads front full =
      let enough = (rest_full h hs xs full).0 in
      let size = front_size xs enough in
      let b : List X = take n xs in
      let l : List X = laid n hs (drop n xs) in
      let y : X = get_or xs h' d in
      let is : set xs h' c ≡ set b h' c ++ drop n xs = ap (λ (k : List X). set k h' c) (sym (take-append-drop n xs)) ∙ set-append_left b (drop n xs) h' c (omega (arith, size, front.within)) in
      let new : laid n (h' ∷ hs) (set xs h' c) ≡ turned h' (set b h' c) ++ l = ap (laid n (h' ∷ hs)) is ∙ laid_cons h' hs (set b h' c) (drop n xs) (length-set b h' c ∙ size) in
      let long : length (turned h' (set b h' c)) ≡ n = length-turned h' (set b h' c) ∙ length-set b h' c ∙ size in
      let ring : turned h' (set b h' c) ++ y ∷ [] ≡ c ∷ turned h b =
      ap (λ (z : X). turned h' (set b h' c) ++ z ∷ []) (sym (get_or-take n xs h' d front.within)) ∙ ring_on b n h h' c d size (All-head (λ h. h < n) h hs heads) front in
      let split : insert (turned h' (set b h' c) ++ l) n y ≡ turned h' (set b h' c) ++ y ∷ l =
      ap (λ (k : List X). k ++ y ∷ drop n (turned h' (set b h' c) ++ l)) (take_at (turned h' (set b h' c)) l n long) ∙ ap (λ (k : List X). turned h' (set b h' c) ++ y ∷ k) (drop_at (turned h' (set b h' c)) l n long) in
      ap (λ (i : ℕ). insert (laid n (h ∷ hs) xs) i c) (zero-mul n)
      ∙ sym (ap (λ (k : List X). insert k n y) new ∙ split ∙ sym (append_assoc (turned h' (set b h' c)) (y ∷ []) l) ∙ ap (λ (k : List X). k ++ l) ring)
      ∙ ap (λ (i : ℕ). insert (laid n (h' ∷ hs) (set xs h' c)) i y) (sym (in_first n n))
      ∙ ap (λ (i : ℕ). insert (laid n (h' ∷ hs) (set xs i c)) (0 * n + n) (get_or xs i d)) (sym (in_first n h'))
  tier_on (h ∷ hs) (suc j) h' xs c d tier heads front full =
      let rest = rest_full h hs xs full in
      let size = front_size xs rest.0 in
      let sum : suc j * n ≡ j * n + n = suc-mul j n in
      let b : List X = take n xs in
      let t : List X = turned h b in
      let y : X = get_or xs (suc j * n + h') d in
      let hs' : List ℕ = set hs j h' in
      let xs' : List X = set (drop n xs) (j * n + h') c in
      let is : set xs (suc j * n + h') c ≡ b ++ xs' =
      ap (λ (l : List X). set l (suc j * n + h') c) (sym (take-append-drop n xs))
      ∙ set-append_right b (drop n xs) n (suc j * n + h') c size (omega (arith, sum))
      ∙ ap (λ (i : ℕ). b ++ set (drop n xs) i c) (omega (arith, sum)) in
      let out : get_or (drop n xs) (j * n + h') d ≡ y = get_or-drop n xs (j * n + h') d ∙ ap (λ (i : ℕ). get_or xs i d) (omega (arith, sum)) in
      let new : laid n (h ∷ hs') (set xs (suc j * n + h') c) ≡ t ++ laid n hs' xs' = ap (laid n (h ∷ hs')) is ∙ laid_cons h hs' b xs' size in
      insert-append_right t (laid n hs (drop n xs)) n (suc j * n) c (turned_size h xs rest.0) (omega (arith, sum))
      ∙ ap (λ (i : ℕ). t ++ insert (laid n hs (drop n xs)) i c) (omega (arith, sum))
      ∙ ap (λ (l : List X). t ++ l) (tier_on hs j h' (drop n xs) c d (omega (arith, tier)) (All-tail (λ h. h < n) h hs heads) front rest.1)
      ∙ ap (λ (z : X). t ++ insert (laid n hs' xs') (j * n + n) z) out
      ∙ sym (ap (λ (l : List X). insert l (suc j * n + n) y) new ∙ insert-append_right t (laid n hs' xs') n (suc j * n + n) y (turned_size h xs rest.0) (omega (arith, sum))
      ∙ ap (λ (i : ℕ). t ++ insert (laid n hs' xs') i y) (omega (arith, sum)))

  -- what comes and goes behind the rings
  pub put_behind : (hs : List ℕ) (xs : List X) (p : ℕ) (x : X) → length hs * n ≤ p → p ≤ length xs → laid n hs (insert xs p x) ≡ insert (laid n hs xs) p x
  put_behind [] xs p x low high = refl
  put_behind (h ∷ hs) xs p x low high =
      let sum : suc (length hs) * n ≡ length hs * n + n = suc-mul (length hs) n in
      let size = front_size xs (omega (arith, sum)) in
      let is : insert xs p x ≡ take n xs ++ insert (drop n xs) (p - n) x =
      ap (λ (l : List X). insert l p x) (sym (take-append-drop n xs)) ∙ insert-append_right (take n xs) (drop n xs) n p x size (omega (arith, sum)) in
      ap (laid n (h ∷ hs)) is ∙ laid_cons h hs (take n xs) (insert (drop n xs) (p - n) x) size
      ∙ ap (λ (l : List X). turned h (take n xs) ++ l) (put_behind hs (drop n xs) (p - n) x (omega (arith, sum)) (omega (arith, sum, length-drop n xs)))
      ∙ sym (insert-append_right (turned h (take n xs)) (laid n hs (drop n xs)) n p x (turned_size h xs (omega (arith, sum))) (omega (arith, sum)))

  -- a last tier that is full becomes a ring,
  pub closed : (hs : List ℕ) (xs : List X) → length xs ≡ length hs * n + n → laid n (hs ++ 0 ∷ []) xs ≡ laid n hs xs
  closed [] xs size = ap (λ (l : List X). l ++ drop n xs) (turned_zero (take n xs)) ∙ take-append-drop n xs
  closed (h ∷ hs) xs size =
      let sum : suc (length hs) * n ≡ length hs * n + n = suc-mul (length hs) n in
      ap (λ (l : List X). turned h (take n xs) ++ l) (closed hs (drop n xs) (omega (arith, sum, length-drop n xs)))

  -- and a ring behind which nothing stands becomes a last tier
  pub opened : (hs : List ℕ) (h : ℕ) (xs : List X) → length xs ≡ length hs * n + n → laid n (hs ++ h ∷ []) xs ≡ laid n hs (take (length hs * n) xs ++ turned h (drop (length hs * n) xs))
  opened [] h xs size =
      let whole : take n xs ≡ xs = ends n xs (omega (arith, size)) in
      let nothing : drop n xs ≡ [] = stops n xs (omega (arith, size)) in
      ap (λ (l : List X). turned h l ++ drop n xs) whole ∙ ap (λ (l : List X). turned h xs ++ l) nothing ∙ append-nil (turned h xs)
      ∙ ap (λ (i : ℕ). take i xs ++ turned h (drop i xs)) (sym (zero-mul n))
    where
      ends : (i : ℕ) (l : List X) → length l ≤ i → take i l ≡ l
      ends zero [] short = refl
      ends zero (x ∷ l) short = absurd (omega arith)
      ends (suc i) [] short = refl
      ends (suc i) (x ∷ l) short = ap (λ (m : List X). x ∷ m) (ends i l (omega arith))

      stops : (i : ℕ) (l : List X) → length l ≤ i → drop i l ≡ []
      stops zero [] short = refl
      stops zero (x ∷ l) short = absurd (omega arith)
      stops (suc i) [] short = refl
      stops (suc i) (x ∷ l) short = stops i l (omega arith)
  opened (g ∷ hs) h xs size =
      let sum : suc (length hs) * n ≡ length hs * n + n = suc-mul (length hs) n in
      let m : ℕ = length hs * n in
      let front = front_size xs (omega (arith, sum)) in
      let r : List X = drop n xs in
      let is : take (suc (length hs) * n) xs ++ turned h (drop (suc (length hs) * n) xs) ≡ take n xs ++ (take m r ++ turned h (drop m r)) =
      ap (λ (i : ℕ). take i xs ++ turned h (drop i xs)) (omega (arith, sum)) ∙ ap (λ (l : List X). l ++ turned h (drop (n + m) xs)) (take_sum n m (n + m) xs refl)
      ∙ ap (λ (l : List X). (take n xs ++ take m r) ++ turned h l) (sym (drop-drop m n xs)) ∙ append_assoc (take n xs) (take m r) (turned h (drop m r)) in
      ap (λ (l : List X). turned g (take n xs) ++ l) (opened hs h r (omega (arith, sum, length-drop n xs)))
      ∙ sym (ap (laid n (g ∷ hs)) is ∙ laid_cons g hs (take n xs) (take m r ++ turned h (drop m r)) front)
    where
      none : (k : ℕ) → take {A = X} k [] ≡ []
      none zero = refl
      none (suc k) = refl

      take_sum : (i j k : ℕ) (l : List X) → k ≡ i + j → take k l ≡ take i l ++ take j (drop i l)
      take_sum zero j k l is = let same : k ≡ j = omega arith in ap (λ (m : ℕ). take m l) same
      take_sum (suc i) j zero l is = absurd (omega arith)
      take_sum (suc i) j (suc k) [] is = sym (none j)
      take_sum (suc i) j (suc k) (x ∷ l) is = ap (λ (m : List X). x ∷ m) (take_sum i j k l (omega (arith, is)))

  -- rings that begin in front are as they are kept
  pub laid_flat : (hs : List ℕ) (xs : List X) → All (λ h. h ≡ 0) hs → laid n hs xs ≡ xs
  laid_flat [] xs flat = refl
  laid_flat (h ∷ hs) xs flat =
      ap (λ (i : ℕ). turned i (take n xs) ++ laid n hs (drop n xs)) (All-head (λ h. h ≡ 0) h hs flat) ∙ ap (λ (l : List X). l ++ laid n hs (drop n xs)) (turned_zero (take n xs))
      ∙ ap (λ (l : List X). take n xs ++ l) (laid_flat hs (drop n xs) (All-tail (λ h. h ≡ 0) h hs flat)) ∙ take-append-drop n xs

  -- the list has what is kept
  pub laid_permutes : (hs : List ℕ) (xs : List X) → IsPermutation (laid n hs xs) xs
  laid_permutes [] xs = IsPermutation-refl xs
  laid_permutes (h ∷ hs) xs =
      let b : List X = take n xs in
      let ring : IsPermutation (turned h b) b = subst (λ (l : List X). IsPermutation (turned h b) l) (take-append-drop h b) (IsPermutation-append_comm (drop h b) (take h b)) in
      subst (λ (l : List X). IsPermutation (turned h b ++ laid n hs (drop n xs)) l) (take-append-drop n xs) (IsPermutation-append (turned h b) b (laid n hs (drop n xs)) (drop n xs) ring (laid_permutes hs (drop n xs)))

  -- the slot of a place
  pub slot_of : (hs : List ℕ) (j o r : ℕ) → j < length hs → o < n → All (λ h. h < n) hs → IsInRing n (get_or hs j 0) o r → IsSlot X n hs (j * n + o) (j * n + r)
  slot_of hs j o r tier within heads ring = record {
    within = place_below n j (length hs) r tier ring.within;
    reads = λ xs d full. slot_reads hs j o r xs d tier within heads ring full;
    writes = λ xs x full. slot_writes hs j o r xs x tier within heads ring full;
  }

  -- places that stand one behind the other, where neither the ring nor what is kept of it ends
  pub slots_on : (hs : List ℕ) (j o r k : ℕ) → j < length hs → All (λ h. h < n) hs → IsInRing n (get_or hs j 0) o r → o + k ≤ n → r + k ≤ n → AreSlots X n hs (j * n + o) (j * n + r) k
  slots_on hs j o r k tier heads ring offsets places i below =
      subst₂ (λ (a b : ℕ). IsSlot X n hs a b) (omega arith) (omega arith)
      (slot_of hs j (o + i) (r + i) tier (omega (arith, below, offsets)) heads (ring_more n (get_or hs j 0) o r i ring (omega (arith, below, places))))

  -- and the other way round
  pub tier_back : (hs : List ℕ) (j h' : ℕ) (xs : List X) (c d : X) → j < length hs → All (λ h. h < n) hs → h' < n → IsInFront n h' (get_or hs j 0) → length hs * n ≤ length xs
      → insert (laid n (set hs j h') (set xs (j * n + get_or hs j 0) c)) (j * n) (get_or xs (j * n + get_or hs j 0) d) ≡ insert (laid n hs xs) (j * n + n) c
  tier_back hs j h' xs c d tier heads below front full =
      let h : ℕ = get_or hs j 0 in
      let s : ℕ = j * n + h in
      let y : X = get_or xs s d in
      let within : s < length xs = omega (arith, place_below n j (length hs) h tier front.within, full) in
      let front' : IsInFront n (get_or (set hs j h') j 0) h = subst (λ (i : ℕ). IsInFront n i h) (sym (get_or-set_same hs j h' 0 tier)) front in
      tier_on (set hs j h') j h (set xs s c) y d (omega (arith, tier, length-set hs j h')) (All-set (λ i. i < n) hs j h' below heads) front' (subst₂ (λ (a b : ℕ). a * n ≤ b) (sym (length-set hs j h')) (sym (length-set xs s c)) full)
      ∙ ap (λ (l : List ℕ). insert (laid n l (set (set xs s c) s y)) (j * n + n) (get_or (set xs s c) s d)) (set-set hs j h' h ∙ set-get_or hs j 0)
      ∙ ap (λ (l : List X). insert (laid n hs l) (j * n + n) (get_or (set xs s c) s d)) (set-set xs s c y ∙ set-get_or xs s d)
      ∙ ap (λ (x : X). insert (laid n hs xs) (j * n + n) x) (get_or-set_same xs s c d within)

  -- a key goes into the slot of a place, for the one that was there
  pub slot_on : (hs : List ℕ) (p s : ℕ) (xs : List X) (c d : X) → IsSlot X n hs p s → length hs * n ≤ length xs → p < length xs → insert (laid n hs xs) p c ≡ insert (laid n hs (set xs s c)) (p + 1) (get_or xs s d)
  slot_on hs p s xs c d slot full within =
      hole_on (laid n hs xs) p c d (omega (arith, within, length-laid hs xs))
      ∙ ap (λ (l : List X). insert l (p + 1) (get_or (laid n hs xs) p d)) (sym (slot.writes xs c full))
      ∙ ap (λ (x : X). insert (laid n hs (set xs s c)) (p + 1) x) (slot.reads xs d full)

  pub slot_back : (hs : List ℕ) (p s : ℕ) (xs : List X) (c d : X) → IsSlot X n hs p s → length hs * n ≤ length xs → p < length xs → insert (laid n hs xs) (p + 1) c ≡ insert (laid n hs (set xs s c)) p (get_or xs s d)
  slot_back hs p s xs c d slot full within =
      hole_back (laid n hs xs) p c d (omega (arith, within, length-laid hs xs))
      ∙ ap (λ (l : List X). insert l p (get_or (laid n hs xs) p d)) (sym (slot.writes xs c full))
      ∙ ap (λ (x : X). insert (laid n hs (set xs s c)) p x) (slot.reads xs d full)

  -- a key goes through so many slots, one behind the other
  pub run_on : (hs : List ℕ) (k p s : ℕ) (xs ys : List X) (c r : X) → AreSlots X n hs p s k → length hs * n ≤ length xs → s + k ≤ length xs → p + k ≤ length xs → length ys ≡ length xs
      → insert ys (s + k) r ≡ insert xs s c → insert (laid n hs ys) (p + k) r ≡ insert (laid n hs xs) p c
  run_on hs zero p s xs ys c r slots full low within size is =
      let none : s + zero ≡ s = omega arith in
      let here : p + zero ≡ p = omega arith in
      let one : insert ys s r ≡ insert xs s c = ap (λ (i : ℕ). insert ys i r) (sym none) ∙ is in
      let same : ys ≡ xs = sym (emptied ys s r (omega (arith, low, size))) ∙ ap (λ (l : List X). remove l s) one ∙ emptied xs s c (omega (arith, low)) in
      let out : r ≡ c = sym (put_there ys s r r (omega (arith, low, size))) ∙ ap (λ (l : List X). get_or l s r) one ∙ put_there xs s c r (omega (arith, low)) in
      ap (λ (i : ℕ). insert (laid n hs ys) i r) here ∙ ap (λ (l : List X). insert (laid n hs l) p r) same ∙ ap (λ (x : X). insert (laid n hs xs) p x) out
  run_on hs (suc k) p s xs ys c r slots full low within size is =
      let slot : IsSlot X n hs p s = subst₂ (λ (a b : ℕ). IsSlot X n hs a b) (omega arith) (omega arith) (slots 0 (omega arith)) in
      let later : AreSlots X n hs (p + 1) (s + 1) k = λ i below. subst₂ (λ (a b : ℕ). IsSlot X n hs a b) (omega arith) (omega arith) (slots (i + 1) (omega (arith, below))) in
      let next : X = get_or xs s c in
      let more : insert ys ((s + 1) + k) r ≡ insert (set xs s c) (s + 1) next =
      ap (λ (i : ℕ). insert ys i r) (omega arith) ∙ is ∙ hole_on xs s c c (omega (arith, low)) in
      ap (λ (i : ℕ). insert (laid n hs ys) i r) (omega arith)
      ∙ run_on hs k (p + 1) (s + 1) (set xs s c) ys next r later (omega (arith, full, length-set xs s c)) (omega (arith, low, length-set xs s c)) (omega (arith, within, length-set xs s c)) (omega (arith, size, length-set xs s c)) more
      ∙ sym (slot_on hs p s xs c c slot full (omega (arith, within)))

  -- they are kept
  pub slots_kept : (hs : List ℕ) (p s k : ℕ) (xs : List X) → 0 < k → AreSlots X n hs p s k → length hs * n ≤ length xs → s + k ≤ length xs
  slots_kept hs p s k xs some slots full = let last = slots (k - 1) (omega (arith, some)) in omega (arith, some, full, last.within)

  -- behind the rings it is as it is kept
  pub run_behind : (hs : List ℕ) (p q : ℕ) (xs ys : List X) (c r : X) → length hs * n ≤ p → length hs * n ≤ q → p ≤ length xs → q ≤ length ys → insert ys q r ≡ insert xs p c
      → insert (laid n hs ys) q r ≡ insert (laid n hs xs) p c
  run_behind hs p q xs ys c r low also within inside is = sym (put_behind hs ys q r also inside) ∙ ap (laid n hs) is ∙ put_behind hs xs p c low within

  -- behind the rings all is as it is kept
  pub reads_behind : (hs : List ℕ) (xs : List X) (p : ℕ) (d : X) → length hs * n ≤ p → length hs * n ≤ length xs → get_or (laid n hs xs) p d ≡ get_or xs p d
  reads_behind [] xs p d low full = refl
  reads_behind (h ∷ hs) xs p d low full =
      let rest = rest_full h hs xs full in
      let sum : suc (length hs) * n ≡ length hs * n + n = suc-mul (length hs) n in
      let there : n + (p - n) ≡ p = omega (arith, sum) in
      get_or-append_right (turned h (take n xs)) (laid n hs (drop n xs)) n p d (turned_size h xs rest.0) (omega (arith, sum))
      ∙ reads_behind hs (drop n xs) (p - n) d (omega (arith, sum)) rest.1 ∙ get_or-drop n xs (p - n) d ∙ ap (λ (i : ℕ). get_or xs i d) there

  -- one goes from behind the rings
  pub take_behind : (hs : List ℕ) (xs : List X) (p : ℕ) → length hs * n ≤ p → p < length xs → laid n hs (remove xs p) ≡ remove (laid n hs xs) p
  take_behind [] xs p low high = refl
  take_behind (h ∷ hs) xs p low high =
      let sum : suc (length hs) * n ≡ length hs * n + n = suc-mul (length hs) n in
      let size = front_size xs (omega (arith, sum)) in
      let is : remove xs p ≡ take n xs ++ remove (drop n xs) (p - n) =
      ap (λ (l : List X). remove l p) (sym (take-append-drop n xs)) ∙ remove-append_right (take n xs) (drop n xs) n p size (omega (arith, sum)) in
      ap (laid n (h ∷ hs)) is ∙ laid_cons h hs (take n xs) (remove (drop n xs) (p - n)) size
      ∙ ap (λ (l : List X). turned h (take n xs) ++ l) (take_behind hs (drop n xs) (p - n) (omega (arith, sum)) (omega (arith, sum, length-drop n xs)))
      ∙ sym (remove-append_right (turned h (take n xs)) (laid n hs (drop n xs)) n p (turned_size h xs (omega (arith, sum))) (omega (arith, sum)))

  -- the first one behind the rings stands for a hole there
  pub hole_behind : (hs : List ℕ) (xs : List X) (p : ℕ) (d : X) → length hs * n ≤ p → p < length xs → insert (laid n hs (remove xs p)) p (get_or xs p d) ≡ laid n hs xs
  hole_behind hs xs p d low high =
      sym (put_behind hs (remove xs p) p (get_or xs p d) low (omega (arith, length-remove xs p high))) ∙ ap (laid n hs) (filled xs p d high)

module _ {X : Type 0} where
  pub slice_get_past : (xs : List X) (p : ℕ) → length xs ≤ p → slice_get xs p ≡ None
  slice_get_past [] p past = refl
  slice_get_past (x ∷ xs) zero past = absurd (omega arith)
  slice_get_past (x ∷ xs) (suc p) past = slice_get_past xs p (omega arith)

  pub slice_get_at : (xs : List X) (p : ℕ) (d : X) → p < length xs → slice_get xs p ≡ Some (get_or xs p d)
  slice_get_at [] p d within = absurd (omega arith)
  slice_get_at (x ∷ xs) zero d within = refl
  slice_get_at (x ∷ xs) (suc p) d within = slice_get_at xs p d (omega arith)
