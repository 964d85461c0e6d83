-- The pages of a text, one by one.
use Rattle.std.proofs.Common.{◌≡◌, ℕ, zero, suc, ◌+◌, ◌<◌, Bool, true, false, cond, ◌==◌, List, [], ◌∷◌, ◌++◌, length, map, take, drop, get_or, eq-eqb, length-drop, refl, sym, ◌∙◌, ap, subst, arith, flat_map}
use Rattle.std.proofs.lemmas.List.{take_all, drop_all, drop-drop, map-append, flat_map_more}
use Rattle.qm_kinds.specs.declared.form.Shape.{Shape}
use Rattle.qm_model.specs.Pages.{lines, sections, rows, section_pages, page_block, line_block, text_blocks, pieces}
use Rattle.qm_model.proofs.ReportLemmas.{drop_next}
use Rattle.qm_symb.specs.TextParts.{section, others, is_in_section}
use Rattle.qm_symb.specs.PageLines.{printed_lines, first_page, IsFirstLine, IsInFront, IsFirstPage}
use Rattle.qm_symb.proofs.PartLemmas.{parts_are}
use Rattle.qm_symb.proofs.PieceLemmas.{no_pieces, pieces_are}
use Rattle.qm_symb.proofs.LineLemmas.{begins, nothing_printed}

-- ---- the pages of the first section, and of what stands behind it

blocks_by_section : (shape : Shape) (b : ℕ) (bs : List ℕ)
    → text_blocks shape (b ∷ bs) ≡ map (page_block shape) (section_pages shape (section (b ∷ bs))) ++ text_blocks shape (others (b ∷ bs))
blocks_by_section shape b bs =
    ap (λ l. map (page_block shape) (flat_map (section_pages shape) l)) (parts_are 12 b bs)
    ∙ map-append (page_block shape) (section_pages shape (section (b ∷ bs))) (flat_map (section_pages shape) (sections (others (b ∷ bs))))

-- a section that isn't empty
pages_of : (shape : Shape) (c : ℕ) (cs : List ℕ) → section_pages shape (c ∷ cs) ≡ pieces (rows shape) (printed_lines shape (c ∷ cs))
unfolding printed_lines
pages_of shape c cs = refl

pub blocks_in_section : (shape : Shape) (text : List ℕ) → is_in_section text ≡ true
    → text_blocks shape text ≡ map (page_block shape) (pieces (rows shape) (printed_lines shape (section text))) ++ text_blocks shape (others text)
blocks_in_section shape [] inside = absurd (cc)
blocks_in_section shape (b ∷ bs) inside =
    let first = begins (b ∷ bs) inside in
    blocks_by_section shape b bs
    ∙ ap (λ l. map (page_block shape) l ++ text_blocks shape (others (b ∷ bs)))
    (ap (section_pages shape) first.2 ∙ pages_of shape first.0 first.1 ∙ ap (λ l. pieces (rows shape) (printed_lines shape l)) (sym first.2))

-- ---- a blank page

nothing : {X : Type 0} (n : ℕ) → take {A = X} n [] ≡ []
nothing zero = refl
nothing (suc n) = refl

blank_section : (shape : Shape) (b : ℕ) (bs : List ℕ) → (b == 12) ≡ true → section (b ∷ bs) ≡ []
blank_section shape b bs feed = ap (λ t. cond t [] (b ∷ section bs)) feed

pub blank_page : (shape : Shape) (b : ℕ) (bs : List ℕ) → (b == 12) ≡ true → first_page shape (b ∷ bs) ≡ []
unfolding first_page
blank_page shape b bs feed = ap (λ l. take (rows shape) (printed_lines shape l)) (blank_section shape b bs feed) ∙ ap (take (rows shape)) (nothing_printed shape) ∙ nothing (rows shape)

pub blank_page_is : (shape : Shape) (b : ℕ) (bs : List ℕ) → (b == 12) ≡ true → IsFirstPage shape (b ∷ bs) bs
blank_page_is shape b bs feed = record {
  blocks = blocks_by_section shape b bs
      ∙ ap (λ l. map (page_block shape) (section_pages shape l) ++ text_blocks shape (others (b ∷ bs))) (blank_section shape b bs feed)
      ∙ ap (λ t. page_block shape [] ∷ text_blocks shape (cond t bs (others bs))) feed
      ∙ ap (λ l. page_block shape l ∷ text_blocks shape bs) (sym (blank_page shape b bs feed));
}

-- ---- line by line

pub none_in_front : (shape : Shape) (text : List ℕ) → is_in_section text ≡ true → IsInFront shape text text 0
none_in_front shape text inside = record { begun = inside; printed = refl; few = omega arith; left = refl; inside = inside }

-- one element more of a list
take_after : {X : Type 0} (n : ℕ) (xs : List X) (y : X) (ys : List X) → drop n xs ≡ y ∷ ys → take (suc n) xs ≡ take n xs ++ y ∷ []
take_after zero [] y ys h = cc
take_after zero (x ∷ xs) y ys h = let same : x ≡ y = cc in ap (λ z. z ∷ []) same
take_after (suc n) [] y ys h = cc
take_after (suc n) (x ∷ xs) y ys h = ap (λ l. x ∷ l) (take_after n xs y ys h)

one_more : (n : ℕ) → suc n ≡ n + 1
one_more n = omega arith

take_next : {X : Type 0} (n : ℕ) (xs : List X) (y : X) (ys : List X) → drop n xs ≡ y ∷ ys → take (n + 1) xs ≡ take n xs ++ y ∷ []
take_next n xs y ys h = subst (λ m. take m xs ≡ take n xs ++ y ∷ []) (one_more n) (take_after n xs y ys h)

so_many : {X : Type 0} (n : ℕ) (xs : List X) (y : X) (ys : List X) → drop n xs ≡ y ∷ ys → length xs ≡ n + 1 + length ys
so_many n xs y ys h = omega (arith, length-drop n xs, ap length h)

module _ (shape : Shape) (text rest line next : List ℕ) (count : ℕ) (front : IsInFront shape text rest count) where
  pub one_more_in_front : IsFirstLine shape rest line next false → IsInFront shape text next (count + 1)
  one_more_in_front first =
      let all : List (List ℕ) = printed_lines shape (section text) in
      let left = front.printed ∙ first.printed in
      record {
        begun = front.begun;
        printed = drop_next count all line (printed_lines shape (section next)) left;
        few = omega (arith, so_many count all line (printed_lines shape (section next)) left);
        left = front.left ∙ first.left;
        inside = first.inside refl;
      }

  pub one_more_printed : (is_last : Bool) → IsFirstLine shape rest line next is_last
      → take (count + 1) (printed_lines shape (section text)) ≡ take count (printed_lines shape (section text)) ++ line ∷ []
  one_more_printed is_last first = take_next count (printed_lines shape (section text)) line _ (front.printed ∙ first.printed)

  -- the page ends with its section
  pub last_line_ends_page : count < rows shape → IsFirstLine shape rest line next true
      → IsFirstPage shape text next × (first_page shape text ≡ take (count + 1) (printed_lines shape (section text)))
  unfolding first_page
  last_line_ends_page room first =
      let all : List (List ℕ) = printed_lines shape (section text) in
      let many = so_many count all line [] (front.printed ∙ first.printed) in
      let none : drop (rows shape) all ≡ [] = drop_all (rows shape) all (omega (arith, many, room)) in
      let one : pieces (rows shape) all ≡ take (rows shape) all ∷ [] =
      pieces_are (rows shape) all (omega (arith, room)) (omega (arith, many))
      ∙ ap (λ l. take (rows shape) all ∷ pieces (rows shape) l) none
      ∙ ap (λ l. take (rows shape) all ∷ l) (no_pieces (rows shape) (omega (arith, room))) in (
        record {
          blocks = blocks_in_section shape text front.begun
              ∙ ap (λ l. map (page_block shape) l ++ text_blocks shape (others text)) one
              ∙ ap (λ l. page_block shape (take (rows shape) all) ∷ text_blocks shape l) (front.left ∙ first.left);
        },
        take_all (rows shape) all (omega (arith, many, room)) ∙ sym (take_all (count + 1) all (omega (arith, many))),
      )

-- the page is full
pub rows_end_page : (shape : Shape) (text rest : List ℕ) → 0 < rows shape → IsInFront shape text rest (rows shape) → IsFirstPage shape text rest
unfolding first_page
rows_end_page shape text rest some front =
    let all : List (List ℕ) = printed_lines shape (section text) in
    record {
      blocks = blocks_in_section shape text front.begun
          ∙ ap (λ l. map (page_block shape) l ++ text_blocks shape (others text)) (pieces_are (rows shape) all some (omega (arith, front.few, some)))
          ∙ ap (λ l. page_block shape (take (rows shape) all) ∷ (map (page_block shape) (pieces (rows shape) l) ++ text_blocks shape (others text))) front.printed
          ∙ ap (λ l. page_block shape (take (rows shape) all) ∷ (map (page_block shape) (pieces (rows shape) (printed_lines shape (section rest))) ++ text_blocks shape l)) front.left
          ∙ ap (λ l. page_block shape (take (rows shape) all) ∷ l) (sym (blocks_in_section shape rest front.inside));
    }

-- ---- the same by places in a text

module _ (shape : Shape) (text : List ℕ) where
  -- a line of the text behind a place
  line_behind : (at shown next : ℕ) (is_last : Bool) → (rest : List ℕ) → rest ≡ drop at text → IsFirstLine shape rest (take shown rest) (drop next rest) is_last
      → IsFirstLine shape (drop at text) (take shown rest) (drop (at + next) text) is_last
  line_behind at shown next is_last rest is first =
      subst (λ l. IsFirstLine shape l (take shown rest) (drop (at + next) text) is_last) is
      (subst (λ l. IsFirstLine shape rest (take shown rest) l is_last) (ap (drop next) is ∙ drop-drop next at text) first)

  pub blank_at : 0 < length text → get_or text 0 0 ≡ 12 → IsFirstPage shape text (drop 1 text) × (first_page shape text ≡ [])
  blank_at some feed = go text some feed
    where
      go : (l : List ℕ) → 0 < length l → get_or l 0 0 ≡ 12 → IsFirstPage shape l (drop 1 l) × (first_page shape l ≡ [])
      go [] h e = absurd (omega (arith, h))
      go (b ∷ bs) h e = (blank_page_is shape b bs (eq-eqb b 12 e), blank_page shape b bs (eq-eqb b 12 e))

  module _ (at row shown next : ℕ) (rest : List ℕ) (front : IsInFront shape text (drop at text) row) (is : rest ≡ drop at text) where
    pub next_row : (is_last : Bool) → is_last ≡ false → IsFirstLine shape rest (take shown rest) (drop next rest) is_last → IsInFront shape text (drop (at + next) text) (row + 1)
    next_row is_last more first =
        one_more_in_front shape text (drop at text) (take shown rest) (drop (at + next) text) row front
        (subst (λ b. IsFirstLine shape (drop at text) (take shown rest) (drop (at + next) text) b) more (line_behind at shown next is_last rest is first))

    pub next_printed : (is_last : Bool) → IsFirstLine shape rest (take shown rest) (drop next rest) is_last
        → take (row + 1) (printed_lines shape (section text)) ≡ take row (printed_lines shape (section text)) ++ take shown rest ∷ []
    next_printed is_last first = one_more_printed shape text (drop at text) (take shown rest) (drop (at + next) text) row front is_last (line_behind at shown next is_last rest is first)

    pub last_row : (is_last : Bool) → is_last ≡ true → row < rows shape → IsFirstLine shape rest (take shown rest) (drop next rest) is_last
        → IsFirstPage shape text (drop (at + next) text) × (first_page shape text ≡ take (row + 1) (printed_lines shape (section text)))
    last_row is_last last room first =
        last_line_ends_page shape text (drop at text) (take shown rest) (drop (at + next) text) row front room
        (subst (λ b. IsFirstLine shape (drop at text) (take shown rest) (drop (at + next) text) b) last (line_behind at shown next is_last rest is first))

-- all rows are full
pub page_is_full : (shape : Shape) (text rest : List ℕ) (row : ℕ) → rows shape ≡ row → 0 < row → IsInFront shape text rest row → IsFirstPage shape text rest
page_is_full shape text rest row is some front =
    rows_end_page shape text rest (subst (λ n. 0 < n) (sym is) some) (subst (λ n. IsInFront shape text rest n) (sym is) front)

-- ---- the lines as they are written

pub one_more_written : (left : ℕ) (initial before after : List ℕ) (lines next : List (List ℕ)) (line : List ℕ) → before ≡ initial ++ flat_map (line_block left) lines
    → after ≡ before ++ line_block left line → next ≡ lines ++ line ∷ [] → after ≡ initial ++ flat_map (line_block left) next
one_more_written left initial before after lines next line so_far written is =
    written ∙ ap (λ l. l ++ line_block left line) so_far ∙ flat_map_more (line_block left) initial lines line ∙ ap (λ l. initial ++ flat_map (line_block left) l) (sym is)

append_none : {X : Type 0} (xs : List X) → xs ++ [] ≡ xs
append_none [] = refl
append_none (x ∷ xs) = ap (λ l. x ∷ l) (append_none xs)

pub nothing_written : (left : ℕ) (initial : List ℕ) (lines : List (List ℕ)) → lines ≡ [] → initial ≡ initial ++ flat_map (line_block left) lines
nothing_written left initial lines none = sym (append_none initial) ∙ ap (λ l. initial ++ flat_map (line_block left) l) (sym none)

pub full_page_lines : (shape : Shape) (text : List ℕ) (row : ℕ) → rows shape ≡ row → take row (printed_lines shape (section text)) ≡ first_page shape text
unfolding first_page
full_page_lines shape text row is = ap (λ n. take n (printed_lines shape (section text))) (sym is)
