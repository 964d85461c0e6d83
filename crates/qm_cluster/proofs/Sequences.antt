-- Seats that are taken one behind another from the front of a list.
use Rattle.std.proofs.Common.{◌≡◌, ◌+◌, ◌<◌, List, [], ◌∷◌, ◌++◌, length, map, sym, ◌∙◌, ap, subst, take, drop, arith, append_assoc, slice_index_or}
use Rattle.std.proofs.lemmas.List.{map-append}
use Rattle.qm_turn.specs.Turns.{Joined, Known}
use Rattle.qm_cluster.specs.declared.noted.Noted.{Noted}
use Rattle.qm_cluster.specs.Passes.{TakesIn}
use Rattle.qm_cluster.proofs.Joins.{one_more}

module _ {X : Type 0} where
  -- the first element was taken
  pub taken_first : (xs rest : List X) (x : X) → 0 < length xs → x ≡ slice_index_or xs 0 x → rest ≡ take 0 xs ++ drop (0 + 1) xs → xs ≡ x ∷ rest
  taken_first [] rest x some is left = absurd (omega (arith, some))
  taken_first (y ∷ xs) rest x some is left = ap (λ (z : X). z ∷ xs) (sym is) ∙ ap (λ (l : List X). x ∷ l) (sym left)

module _ {A B Z : Type 0} (f : A → Z) (g : B → Z) where
  -- what is made of elements, one more of which was moved from the rest to the end
  pub moved_on : (xs : List A) (ys rest : List B) (x : A) (y : B) → ys ≡ y ∷ rest → f x ≡ g y → map f (xs ++ x ∷ []) ++ map g rest ≡ map f xs ++ map g ys
  moved_on xs ys rest x y first same =
      ap (λ (l : List Z). l ++ map g rest) (map-append f xs (x ∷ [])) ∙ append_assoc (map f xs) (f x ∷ []) (map g rest)
      ∙ ap (λ (z : Z). map f xs ++ z ∷ map g rest) same ∙ ap (λ (l : List B). map f xs ++ map g l) (sym first)

  -- one more of the one list, which is made of one more of the other
  pub one_text : (start texts then : List B) (text : B) (done : List A) (seat : A) → map g texts ≡ map g start ++ map f done → then ≡ texts ++ text ∷ [] → g text ≡ f seat
      → map g then ≡ map g start ++ map f (done ++ seat ∷ [])
  one_text start texts then text done seat so_far is same =
      ap (map g) is ∙ map-append g texts (text ∷ []) ∙ ap (λ (l : List Z). l ++ g text ∷ []) so_far ∙ append_assoc (map g start) (map f done) (g text ∷ [])
      ∙ ap (λ (z : Z). map g start ++ (map f done ++ z ∷ [])) same ∙ ap (λ (l : List Z). map g start ++ l) (sym (map-append f done (seat ∷ [])))

module _ {A : Type 0} (pass_of : A → Known Noted) (all done left rest : List A) (seat : A) (whole : all ≡ done ++ left) (next : left ≡ seat ∷ rest) where
  pub one_moved : all ≡ (done ++ seat ∷ []) ++ rest
  one_moved = whole ∙ ap (λ (l : List A). done ++ l) next ∙ sym (append_assoc done (seat ∷ []) rest)

  pub one_joined : (first before after : Known Noted) → TakesIn first (map pass_of done) before → Joined before (pass_of seat) after → TakesIn first (map pass_of (done ++ seat ∷ [])) after
  one_joined first before after takes joined =
      subst (λ (l : List (Known Noted)). TakesIn first l after) (sym (map-append pass_of done (seat ∷ []))) (one_more (map pass_of done) first (pass_of seat) before after takes joined)
