-- Texts, cut into parts one by one.
use Rattle.std.proofs.Common.{◌≡◌, ℕ, true, false, cond, ◌==◌, List, [], ◌∷◌, ◌++◌, refl, ◌∙◌, ap}
use Rattle.std.specs.List.{slice_split, onto_first}
use Rattle.qm_model.specs.Pages.{without_empty_end, parts_ended_by}
use Rattle.qm_symb.specs.TextParts.{part_in_front, part_behind}

-- ---- the parts of a text are its first one and those of what stands behind that

-- the parts behind the first one
abbrev parts_behind : ℕ → List ℕ → List (List ℕ)
parts_behind ender [] = []
parts_behind ender (b ∷ bs) = cond (b == ender) (slice_split (λ x. x == ender) bs) (parts_behind ender bs)

onto_first_of : (b : ℕ) (parts : List (List ℕ)) (part : List ℕ) (rest : List (List ℕ)) → parts ≡ part ∷ rest → onto_first b parts ≡ (b ∷ part) ∷ rest
onto_first_of b parts part rest is = rw is refl

split_in_two : (ender : ℕ) (text : List ℕ) → slice_split (λ x. x == ender) text ≡ part_in_front ender text ∷ parts_behind ender text
split_in_two ender [] = refl
split_in_two ender (b ∷ bs) =
    elim (b == ender) as (λ t. cond t ([] ∷ slice_split (λ x. x == ender) bs) (onto_first b (slice_split (λ x. x == ender) bs)) ≡ cond t [] (b ∷ part_in_front ender bs) ∷ cond t (slice_split (λ x. x == ender) bs) (parts_behind ender bs))
    [ true ↦ refl | false ↦ onto_first_of b _ _ _ (split_in_two ender bs) ]

-- a first part and parts behind it that aren't none
front_stays : (ender : ℕ) (front bs : List ℕ) → without_empty_end (front ∷ slice_split (λ x. x == ender) bs) ≡ front ∷ parts_ended_by ender bs
front_stays ender [] bs = rw (split_in_two ender bs) refl
front_stays ender (f ∷ fs) bs = rw (split_in_two ender bs) refl

some_front_stays : (ender f : ℕ) (fs text : List ℕ) → without_empty_end ((f ∷ fs) ∷ parts_behind ender text) ≡ (f ∷ fs) ∷ parts_ended_by ender (part_behind ender text)
some_front_stays ender f fs [] = refl
some_front_stays ender f fs (b ∷ bs) =
    elim (b == ender) as (λ t. without_empty_end ((f ∷ fs) ∷ cond t (slice_split (λ x. x == ender) bs) (parts_behind ender bs)) ≡ (f ∷ fs) ∷ parts_ended_by ender (cond t bs (part_behind ender bs)))
    [ true ↦ front_stays ender (f ∷ fs) bs | false ↦ some_front_stays ender f fs bs ]

pub parts_are : (ender b : ℕ) (bs : List ℕ) → parts_ended_by ender (b ∷ bs) ≡ part_in_front ender (b ∷ bs) ∷ parts_ended_by ender (part_behind ender (b ∷ bs))
parts_are ender b bs =
    ap without_empty_end (split_in_two ender (b ∷ bs))
    ∙ elim (b == ender) as (λ t. without_empty_end (cond t [] (b ∷ part_in_front ender bs) ∷ cond t (slice_split (λ x. x == ender) bs) (parts_behind ender bs)) ≡ cond t [] (b ∷ part_in_front ender bs) ∷ parts_ended_by ender (cond t bs (part_behind ender bs)))
    [ true ↦ front_stays ender [] bs | false ↦ some_front_stays ender b (part_in_front ender bs) bs ]

-- ---- a text behind bytes that end no line

-- no byte ends a part
abbrev pub Lacks : ℕ → List ℕ → Type 0
Lacks ender [] = Unit {0}
Lacks ender (b ∷ bs) = ((b == ender) ≡ false) × Lacks ender bs

pub front_behind : (ender : ℕ) (front text : List ℕ) → Lacks ender front → part_in_front ender (front ++ text) ≡ front ++ part_in_front ender text
front_behind ender [] text none = refl
front_behind ender (b ∷ bs) text none = let first = none.0 in rw first (ap (λ l. b ∷ l) (front_behind ender bs text none.1))

pub rest_behind : (ender : ℕ) (front text : List ℕ) → Lacks ender front → part_behind ender (front ++ text) ≡ part_behind ender text
rest_behind ender [] text none = refl
rest_behind ender (b ∷ bs) text none = let first = none.0 in rw first (rest_behind ender bs text none.1)
