-- What is left of a print job at its places.
use Rattle.std.proofs.Common.{◌≡◌, ◌⊎◌, inl, inr, ℕ, zero, suc, ◌+◌, ◌≤◌, ◌<◌, Bool, true, false, cond, ◌==◌, List, [], ◌∷◌, ◌++◌, length, map, take, drop, length-drop, length-append, refl, sym, ◌∙◌, ap, subst, arith}
use Rattle.std.specs.List.{repeat}
use Rattle.std.proofs.lemmas.List.{drop_all, drop-drop}
use Rattle.qm_model.specs.Common.{Work, Shape}
use Rattle.qm_model.specs.Pages.{rows, columns, fitted, wrapped, flag_block, flag_blocks, page_block, page_blocks, text_blocks}
use Rattle.qm_symb.specs.TextParts.{part_in_front, part_behind, section, others, is_in_section}
use Rattle.qm_symb.specs.PageLines.{IsFirstPage, first_page, printed_lines}
use Rattle.qm_symb.specs.PagePlaces.{flag_if, blocks_from, IsOneLess}
use Rattle.qm_symb.specs.declared.print.cursor.Cursor.{Cursor}
use Rattle.qm_symb.proofs.PieceLemmas.{pieces_are}
use Rattle.qm_symb.proofs.LineLemmas.{by_line, begins}
use Rattle.qm_symb.proofs.PageLemmas.{blank_page_is, blocks_in_section}

-- a place
abbrev pub place : Bool → ℕ → ℕ → Cursor
place flag copies at = record { flag = flag; copies = copies; at = at }

-- the pages of the copy at a place, and those of the copies behind it
abbrev pub pages_from : Work → ℕ → ℕ → List (List ℕ)
pages_from w copies at = text_blocks w.shape (drop at w.text) ++ repeat copies (text_blocks w.shape w.text)

pub blocks_are : (w : Work) (flag : Bool) (copies at : ℕ) → blocks_from w (place flag copies at) ≡ flag_if flag w ++ pages_from w copies at
unfolding blocks_from
blocks_are w flag copies at = refl

no_page_left : (w : Work) (at : ℕ) → length w.text ≤ at → text_blocks w.shape (drop at w.text) ≡ []
no_page_left w at past = ap (text_blocks w.shape) (drop_all at w.text past)

none_repeated : {X : Type 0} (n : ℕ) → repeat {A = X} n [] ≡ []
none_repeated zero = refl
none_repeated (suc n) = none_repeated n

pub starts : (w : Work) → blocks_from w (place w.flag w.copies (length w.text)) ≡ page_blocks w
unfolding blocks_from
starts w = ap (λ l. flag_blocks w ++ (l ++ repeat w.copies (text_blocks w.shape w.text))) (no_page_left w (length w.text) (omega arith))

pub turns : (w : Work) (flag : Bool) (copies at : ℕ) → length w.text ≤ at → blocks_from w (place flag copies 0) ≡ blocks_from w (place flag (suc copies) at)
unfolding blocks_from
turns w flag copies at past = ap (λ l. flag_if flag w ++ (l ++ repeat (suc copies) (text_blocks w.shape w.text))) (sym (no_page_left w at past))

pub no_copy_left : (w : Work) (at : ℕ) → length w.text ≤ at → blocks_from w (place false 0 at) ≡ []
unfolding blocks_from
no_copy_left w at past = ap (λ l. l ++ []) (no_page_left w at past)

pub no_text_left : (w : Work) (copies at : ℕ) → w.text ≡ [] → blocks_from w (place false copies at) ≡ []
unfolding blocks_from
no_text_left w copies at none =
    ap (λ l. text_blocks w.shape (drop at l) ++ repeat copies (text_blocks w.shape l)) none
    ∙ ap (λ l. text_blocks w.shape l ++ repeat copies []) (drop_all at [] (omega arith))
    ∙ none_repeated copies

pub flag_comes : (w : Work) (copies at : ℕ) → blocks_from w (place true copies at) ≡ flag_block w ∷ blocks_from w (place false copies at)
unfolding blocks_from
flag_comes w copies at = refl

pub page_comes : (w : Work) (copies at next : ℕ) (rest : List ℕ) → IsFirstPage w.shape (drop at w.text) rest → rest ≡ drop next w.text
    → blocks_from w (place false copies at) ≡ page_block w.shape (first_page w.shape (drop at w.text)) ∷ blocks_from w (place false copies next)
unfolding blocks_from
page_comes w copies at next rest page is =
    ap (λ l. l ++ repeat copies (text_blocks w.shape w.text)) page.blocks
    ∙ ap (λ l. page_block w.shape (first_page w.shape (drop at w.text)) ∷ (text_blocks w.shape l ++ repeat copies (text_blocks w.shape w.text))) is

pub one_less : (more : List (List ℕ)) (block : List ℕ) (less : List (List ℕ)) → more ≡ block ∷ less → IsOneLess more less
one_less more block less is = record { rest = ap (drop 1) is; count = omega (arith, ap length is) }

pub some_left : (more : List (List ℕ)) (block : List ℕ) (less : List (List ℕ)) → more ≡ block ∷ less → more ≡ [] → ⊥
some_left more block less is none = cc

-- ---- the same of places whose parts are known

pub nothing_left : (w : Work) (c : Cursor) → c.flag ≡ false → length w.text ≤ c.at → (c.copies ≡ 0) ⊎ (w.text ≡ []) → blocks_from w c ≡ []
nothing_left w c plain past (inl last) = ap (λ f. blocks_from w (place f c.copies c.at)) plain ∙ ap (λ n. blocks_from w (place false n c.at)) last ∙ no_copy_left w c.at past
nothing_left w c plain past (inr none) = ap (λ f. blocks_from w (place f c.copies c.at)) plain ∙ no_text_left w c.copies c.at none

pub turns_over : (w : Work) (flag : Bool) (copies less at : ℕ) → less + 1 ≡ copies → length w.text ≤ at → blocks_from w (place flag less 0) ≡ blocks_from w (place flag copies at)
turns_over w flag copies less at is past = turns w flag less at past ∙ ap (λ n. blocks_from w (place flag n at)) (next less ∙ is)
  where
    next : (n : ℕ) → suc n ≡ n + 1
    next n = omega arith

pub flag_first : (w : Work) (c : Cursor) → c.flag ≡ true → blocks_from w c ≡ flag_block w ∷ blocks_from w (place false c.copies c.at)
flag_first w c flagged = ap (λ f. blocks_from w (place f c.copies c.at)) flagged ∙ flag_comes w c.copies c.at

pub page_first : (w : Work) (c : Cursor) (flag : Bool) (next : ℕ) (text : List ℕ) → c.flag ≡ false → flag ≡ false → text ≡ drop c.at w.text → IsFirstPage w.shape text (drop next text)
    → blocks_from w c ≡ page_block w.shape (first_page w.shape text) ∷ blocks_from w (place flag c.copies (c.at + next))
page_first w c flag next text plain none is page =
    ap (λ f. blocks_from w (place f c.copies c.at)) plain
    ∙ page_comes w c.copies c.at (c.at + next) (drop next text) (subst (λ l. IsFirstPage w.shape l (drop next text)) is page) (ap (drop next) is ∙ drop-drop next c.at w.text)
    ∙ ap (λ l. page_block w.shape (first_page w.shape l) ∷ blocks_from w (place false c.copies (c.at + next))) (sym is)
    ∙ ap (λ f. page_block w.shape (first_page w.shape text) ∷ blocks_from w (place f c.copies (c.at + next))) (sym none)

-- ---- a text that isn't empty has a page

some_fitted : (shape : Shape) → 0 < columns shape → (wrap : Bool) (line : List ℕ) → 0 < length (cond wrap (wrapped (columns shape) line) (take (columns shape) line ∷ []))
some_fitted shape some false line = omega arith
some_fitted shape some true [] = omega arith
some_fitted shape some true (b ∷ bs) = omega (arith, ap length (pieces_are (columns shape) (b ∷ bs) some (omega arith)))

some_printed : (shape : Shape) → 0 < columns shape → (b : ℕ) (bs : List ℕ) → 0 < length (printed_lines shape (b ∷ bs))
some_printed shape some b bs =
    let first : List (List ℕ) = fitted shape (part_in_front 10 (b ∷ bs)) in
    let behind : List (List ℕ) = printed_lines shape (part_behind 10 (b ∷ bs)) in
    omega (arith, ap length (by_line shape b bs), length-append first behind, some_fitted shape some shape.wrap (part_in_front 10 (b ∷ bs)))

pub some_page : (shape : Shape) → 0 < rows shape → 0 < columns shape → (text : List ℕ) → 0 < length text → 0 < length (text_blocks shape text)
some_page shape rows_some columns_some [] h = absurd (omega (arith, h))
some_page shape rows_some columns_some (b ∷ bs) h = by_first (b == 12) refl
  where
    by_first : (t : Bool) → (b == 12) ≡ t → 0 < length (text_blocks shape (b ∷ bs))
    by_first true is = omega (arith, ap length ((blank_page_is shape b bs is).blocks))
    by_first false is =
        let inside : is_in_section (b ∷ bs) ≡ true = ap (λ t. cond t false true) is in
        let first = begins (b ∷ bs) inside in
        let all : List (List ℕ) = printed_lines shape (section (b ∷ bs)) in
        let some : 0 < length all = subst (λ l. 0 < length (printed_lines shape l)) (sym first.2) (some_printed shape columns_some first.0 first.1) in
        omega (arith, ap length (blocks_in_section shape (b ∷ bs) inside ∙ ap (λ l. map (page_block shape) l ++ text_blocks shape (others (b ∷ bs))) (pieces_are (rows shape) all rows_some some)))

pub more_left : (w : Work) (c : Cursor) → 0 < rows w.shape → 0 < columns w.shape → c.at < length w.text → blocks_from w c ≡ [] → ⊥
unfolding blocks_from
more_left w c rows_some columns_some inside none =
    let page = some_page w.shape rows_some columns_some (drop c.at w.text) (omega (arith, length-drop c.at w.text, inside)) in
    let behind : List (List ℕ) = repeat c.copies (text_blocks w.shape w.text) in
    omega (arith, ap length none, length-append (flag_if c.flag w) (text_blocks w.shape (drop c.at w.text) ++ behind), length-append (text_blocks w.shape (drop c.at w.text)) behind, page)
