-- The passes of all nodes, joined into the first of them.
use Rattle.std.proofs.Common.{◌≡◌, ℕ, ◌≤◌, List, [], ◌∷◌, ◌++◌, length, map, refl, sym, ◌∙◌, ap, subst, arith}
use Rattle.std.specs.List.{AllByRecursion, range_with_len}
use Rattle.std.proofs.lemmas.List.{append-nil, length-map}
use Rattle.std.proofs.lemmas.List.FromFn.{length-range_with_len}
use Rattle.qm_turn.specs.Turns.{Closed, IsLast, Known}
use Rattle.qm_cluster.specs.declared.noted.Noted.{Noted}
use Rattle.qm_cluster.specs.Passes.{TakesIn}
use Rattle.qm_cluster.specs.Gathered.{AreGathered}
use Rattle.qm_cluster.proofs.Gathering.{gathered, is_last}
use Rattle.qm_cluster.proofs.Places.{mapped}

-- there is one at least of those that are numbered
pub some_there : {X : Type 0} (number : X → ℕ) (xs : List X) (passes : ℕ) → map number xs ≡ range_with_len 0 passes → 1 ≤ passes → 1 ≤ length xs
some_there number xs passes numbers some =
    let long = sym (length-map xs number) ∙ ap length numbers ∙ length-range_with_len 0 passes in
    omega (arith, long, some)

-- nothing is left
pub none_left : {X : Type 0} (xs : List X) → length xs ≤ 0 → xs ≡ []
none_left [] none = refl
none_left (x ∷ xs) none = absurd (omega (arith, none))

module _ {A : Type 0} (pass_of : A → Known Noted) where
  nones : (seats : List A) → AllByRecursion (λ (a : A). (pass_of a).took ≡ []) seats → AllByRecursion (λ (p : Known Noted). p.took ≡ []) (map pass_of seats)
  nones [] none = tt
  nones (a ∷ seats) none = (none.0, nones seats none.1)

  -- what the first seat's pass knows once those of all others were taken in
  module _ (all rest done left : List A) (seat : A) (last : Known Noted) (first : all ≡ seat ∷ rest) (moved : rest ≡ done ++ left) (empty : length left ≤ 0) (takes : TakesIn (pass_of seat) (map pass_of done) last)
      (none : AllByRecursion (λ (a : A). (pass_of a).took ≡ []) all) (passes : ℕ) (numbers : map (λ (a : A). (pass_of a).number) all ≡ range_with_len 0 passes)
    where
      rest_done : rest ≡ done
      rest_done = moved ∙ ap (λ (l : List A). done ++ l) (none_left left empty) ∙ append-nil done

      whole : all ≡ seat ∷ done
      whole = first ∙ ap (λ (l : List A). seat ∷ l) rest_done

      none_too : AllByRecursion (λ (a : A). (pass_of a).took ≡ []) (seat ∷ done)
      none_too = subst (AllByRecursion (λ (a : A). (pass_of a).took ≡ [])) whole none

      numbered : map (λ (p : Known Noted). p.number) (pass_of seat ∷ map pass_of done) ≡ range_with_len 0 passes
      numbered =
          ap (λ (l : List ℕ). (pass_of seat).number ∷ l) (mapped (λ (p : Known Noted). p.number) pass_of done)
          ∙ ap (map (λ (a : A). (pass_of a).number)) (sym whole) ∙ numbers

      few : passes ≤ length (pass_of seat ∷ map pass_of done)
      few =
          let long = sym (length-map (pass_of seat ∷ map pass_of done) (λ (p : Known Noted). p.number)) ∙ ap length numbered ∙ length-range_with_len 0 passes in
          omega (arith, long)

      pub knows_all : IsLast passes last
      knows_all = is_last (pass_of seat) last (map pass_of done) takes none_too.0 (nones done none_too.1) passes numbered

      pub all_gathered : {V : Type 0} (stands : V → List Noted → Type 0) (value : V) → Closed stands passes last value → AreGathered stands (map pass_of all) value
      all_gathered stands value closed =
          subst (λ (l : List A). AreGathered stands (map pass_of l) value) (sym whole)
          (gathered (pass_of seat) last (map pass_of done) takes none_too.0 (nones done none_too.1) stands passes value few closed)

-- of two that hold of all, the latter
pub latter : {X : Type 0} (P Q : X → Type 0) (xs : List X) → AllByRecursion (λ (x : X). P x × Q x) xs → AllByRecursion Q xs
latter P Q [] all = tt
latter P Q (x ∷ xs) all = (all.0.1, latter P Q xs all.1)

-- the texts that were taken, one by one, of all
pub all_texts : {A B Z : Type 0} (f : A → Z) (g : B → Z) (all rest done left : List A) (seat : A) (text : B) (none start texts : List B) → none ≡ [] → start ≡ none ++ text ∷ [] → g text ≡ f seat
    → map g texts ≡ map g start ++ map f done → all ≡ seat ∷ rest → rest ≡ done ++ left → length left ≤ 0 → map g texts ≡ map f all
all_texts {A} {B} {Z} f g all rest done left seat text none start texts empty is same so_far first moved few =
    so_far ∙ ap (λ (l : List B). map g l ++ map f done) (is ∙ ap (λ (l : List B). l ++ text ∷ []) empty) ∙ ap (λ (z : Z). z ∷ map f done) same
    ∙ ap (map f) (sym (first ∙ ap (λ (l : List A). seat ∷ l) (moved ∙ ap (λ (l : List A). done ++ l) (none_left left few) ∙ append-nil done)))
