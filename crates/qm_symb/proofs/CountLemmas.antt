-- How many blocks a job can have.
use Rattle.std.proofs.Common.{◌≡◌, ◌⊎◌, inl, inr, ⊎_elim, ℕ, zero, suc, ◌+◌, ◌*◌, ◌≤◌, ◌<◌, Bool, true, false, cond, ◌==◌, List, [], ◌∷◌, length, take, drop, length-drop, length-append, refl, ◌∙◌, ap, arith, flat_map, max}
use Rattle.std.specs.List.{repeat}
use mir.Val.{bool_byte}
use Rattle.std.proofs.lemmas.Nat.{mul-le}
use Rattle.std.proofs.lemmas.List.{length-map}
use Rattle.qm_model.specs.Common.{Shape, Work}
use Rattle.qm_model.specs.Pages.{parts_ended_by, rows, columns, fitted, wrapped, lines, sections, section_pages, pieces, page_block, text_blocks, flag_block, flag_blocks, page_blocks}
use Rattle.qm_symb.specs.TextParts.{part_in_front, part_behind}
use Rattle.qm_symb.proofs.PartLemmas.{parts_are}
use Rattle.qm_symb.proofs.PieceLemmas.{no_pieces, pieces_are}

-- a part and what is behind it are as long as the text, or one byte less
abbrev Split : ℕ → List ℕ → Type 0
Split ender text =
    (length (part_in_front ender text) + 1 + length (part_behind ender text) ≡ length text)
    ⊎ ((length (part_in_front ender text) ≡ length text) × (length (part_behind ender text) ≡ 0))

split_of : (ender b : ℕ) (bs : List ℕ) (t : Bool) → Split ender bs
    → (length (cond t [] (b ∷ part_in_front ender bs)) + 1 + length (cond t bs (part_behind ender bs)) ≡ suc (length bs))
    ⊎ ((length (cond t [] (b ∷ part_in_front ender bs)) ≡ suc (length bs)) × (length (cond t bs (part_behind ender bs)) ≡ 0))
split_of ender b bs true h = inl (omega arith)
split_of ender b bs false (inl h) = inl (omega (arith, h))
split_of ender b bs false (inr h) = inr (omega (arith, h.0), h.1)

split : (ender : ℕ) (text : List ℕ) → Split ender text
split ender [] = inr (refl, refl)
split ender (b ∷ bs) = split_of ender b bs (b == ender) (split ender bs)

first_and_rest : (ender b : ℕ) (bs : List ℕ) → max 1 (length (part_in_front ender (b ∷ bs))) + length (part_behind ender (b ∷ bs)) ≤ length (b ∷ bs)
first_and_rest ender b bs = ⊎_elim (λ h. omega (arith, h)) (λ h. omega (arith, h.0, h.1)) (split ender (b ∷ bs))

module _ {X : Type 0} (f : List ℕ → List X) (few : (part : List ℕ) → length (f part) ≤ max 1 (length part)) (ender : ℕ) where
  few_from : (room : ℕ) (text : List ℕ) → length text ≤ room → length (flat_map f (parts_ended_by ender text)) ≤ length text
  few_from room [] h = omega arith
  few_from zero (b ∷ bs) h = absurd (omega (arith, h))
  few_from (suc room) (b ∷ bs) h =
      let first : List ℕ = part_in_front ender (b ∷ bs) in
      let rest : List ℕ = part_behind ender (b ∷ bs) in
      let both = first_and_rest ender b bs in
      omega (
        arith,
        h,
        both,
        few first,
        few_from room rest (omega (arith, h, both)),
        ap (λ l. length (flat_map f l)) (parts_are ender b bs),
        length-append (f first) (flat_map f (parts_ended_by ender rest)),
      )

  pub few_of_parts : (text : List ℕ) → length (flat_map f (parts_ended_by ender text)) ≤ length text
  few_of_parts text = few_from (length text) text (omega arith)

module _ {X : Type 0} (size : ℕ) (some : 0 < size) where
  few_pieces_from : (room : ℕ) (xs : List X) → length xs ≤ room → length (pieces size xs) ≤ length xs
  few_pieces_from room [] h = omega (arith, ap length (no_pieces {X = X} size some))
  few_pieces_from zero (x ∷ xs) h = absurd (omega (arith, h))
  few_pieces_from (suc room) (x ∷ xs) h =
      omega (
        arith,
        h,
        some,
        ap length (pieces_are size (x ∷ xs) some (omega arith)),
        length-drop size (x ∷ xs),
        few_pieces_from room (drop size (x ∷ xs)) (omega (arith, h, some, length-drop size (x ∷ xs))),
      )

  few_pieces : (xs : List X) → length (pieces size xs) ≤ length xs
  few_pieces xs = few_pieces_from (length xs) xs (omega arith)

few_fitted_by : (shape : Shape) → 0 < columns shape → (wrap : Bool) (line : List ℕ) → length (cond wrap (wrapped (columns shape) line) (take (columns shape) line ∷ [])) ≤ max 1 (length line)
few_fitted_by shape some false line = omega arith
few_fitted_by shape some true [] = omega arith
few_fitted_by shape some true (b ∷ bs) = omega (arith, few_pieces (columns shape) some (b ∷ bs))

few_fitted : (shape : Shape) → 0 < columns shape → (line : List ℕ) → length (fitted shape line) ≤ max 1 (length line)
few_fitted shape some line = few_fitted_by shape some shape.wrap line

few_section_pages : (shape : Shape) → 0 < rows shape → 0 < columns shape → (section : List ℕ) → length (section_pages shape section) ≤ max 1 (length section)
few_section_pages shape rows_some columns_some [] = omega arith
few_section_pages shape rows_some columns_some (b ∷ bs) =
    omega (arith, few_pieces (rows shape) rows_some (flat_map (fitted shape) (lines (b ∷ bs))), few_of_parts (fitted shape) (few_fitted shape columns_some) 10 (b ∷ bs))

pub few_pages : (shape : Shape) → 0 < rows shape → 0 < columns shape → (text : List ℕ) → length (text_blocks shape text) ≤ length text
few_pages shape rows_some columns_some text =
    omega (
      arith,
      length-map (flat_map (section_pages shape) (sections text)) (page_block shape),
      few_of_parts (section_pages shape) (few_section_pages shape rows_some columns_some) 12 text,
    )

pub length_repeated : {X : Type 0} (n : ℕ) (xs : List X) → length (repeat n xs) ≡ n * length xs
length_repeated zero xs = omega arith
length_repeated (suc n) xs = omega (arith, length-append xs (repeat n xs), length_repeated n xs)

few_flags : (w : Work) → length (flag_blocks w) ≤ 1
few_flags w = elim w.flag as (λ t. length (cond t (flag_block w ∷ []) []) ≤ 1) [ true ↦ omega arith | false ↦ omega arith ]

-- a job of so much text has fewer blocks than a place can count
pub few_blocks : (w : Work) → 0 < rows w.shape → 0 < columns w.shape → length w.text ≤ 16777216 → w.copies ≤ 255 → length (page_blocks w) ≤ 255 * 16777216 + 1
few_blocks w rows_some columns_some short copies =
    let pages : List (List ℕ) = text_blocks w.shape w.text in
    omega (
      arith,
      length-append (flag_blocks w) (repeat w.copies pages),
      few_flags w,
      length_repeated w.copies pages,
      mul-le w.copies (length pages) 255 16777216 copies (omega (arith, few_pages w.shape rows_some columns_some w.text, short)),
    )

-- how many blocks a job has
pub blocks_counted : (w : Work) → length (page_blocks w) ≡ bool_byte w.flag + w.copies * length (text_blocks w.shape w.text)
blocks_counted w =
    let pages : List (List ℕ) = text_blocks w.shape w.text in
    length-append (flag_blocks w) (repeat w.copies pages) ∙ ap (λ n. n + length (repeat w.copies pages)) (flags w.flag) ∙ ap (λ n. bool_byte w.flag + n) (length_repeated w.copies pages)
  where
    flags : (t : Bool) → length (cond t (flag_block w ∷ []) []) ≡ bool_byte t
    flags true = refl
    flags false = refl
