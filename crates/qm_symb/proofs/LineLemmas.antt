-- The lines that are printed of a text, one by one.
use Rattle.std.proofs.Common.{◌≡◌, ◌⊎◌, inl, inr, ⊎_elim, ℕ, zero, suc, ◌+◌, ◌≤◌, ◌<◌, Bool, true, false, cond, ◌==◌, ◌||◌, not, List, [], ◌∷◌, ◌++◌, length, take, drop, min, None, Some, refl, sym, ◌∙◌, ap, subst, arith, flat_map}
use Rattle.std.specs.List.{position, position_or_len}
use Rattle.std.proofs.lemmas.Bool.{cases_lt, lt-ltb, le-ltb}
use Rattle.std.proofs.lemmas.List.{take-append-drop, take_all, drop_all, take_at, drop_at, length-take-le}
use Rattle.std.proofs.lemmas.List.Sums.{prefix_len-le-length}
use Rattle.qm_kinds.specs.declared.form.Shape.{Shape}
use Rattle.qm_model.specs.Pages.{columns, fitted, wrapped, pieces}
use Rattle.qm_symb.specs.TextParts.{part_in_front, part_behind, section, others, is_in_section, ends_line, bytes_of_line, is_section_over, without_form_feed, behind_line}
use Rattle.qm_symb.specs.PageLines.{printed_lines, IsFirstLine}
use Rattle.qm_symb.proofs.PartLemmas.{parts_are, Lacks, front_behind, rest_behind}
use Rattle.qm_symb.proofs.PieceLemmas.{no_pieces, pieces_are}

-- ---- the bytes of a line

-- how many bytes there are, as a search finds it
same_count : (t : Bool) (n m : ℕ) → n ≡ m → cond (not t) (1 + n) 0 ≡ cond t 0 (suc m)
same_count true n m h = refl
same_count false n m h = omega (arith, h)

pub found_bytes : (most : ℕ) (text : List ℕ) → position_or_len ends_line (take most text) ≡ bytes_of_line most text
found_bytes zero text = refl
found_bytes (suc most) [] = refl
found_bytes (suc most) (b ∷ bs) = same_count (ends_line b) _ _ (found_bytes most bs)

-- the same of a search that may find none
pub found_some : (seen : List ℕ) (place : ℕ) → position ends_line seen ≡ Some place → position_or_len ends_line seen ≡ place
found_some seen place h =
    ⊎_elim (λ lt. let yes = lt-ltb _ _ lt in let e = rw yes at h in cc) (λ ge. let no = le-ltb _ _ ge in let e = rw no at h in cc)
    (cases_lt (position_or_len ends_line seen) (length seen))

pub found_none : (seen : List ℕ) → position ends_line seen ≡ None → position_or_len ends_line seen ≡ length seen
found_none seen h =
    ⊎_elim (λ lt. let yes = lt-ltb _ _ lt in let e = rw yes at h in cc) (λ ge. omega (arith, ge, prefix_len-le-length (λ x. not (ends_line x)) seen))
    (cases_lt (position_or_len ends_line seen) (length seen))

pub few_bytes : (most : ℕ) (text : List ℕ) → bytes_of_line most text ≤ most
few_bytes zero text = omega arith
few_bytes (suc most) [] = omega arith
few_bytes (suc most) (b ∷ bs) =
    let rest = few_bytes most bs in
    elim (ends_line b) as (λ t. cond t 0 (suc (bytes_of_line most bs)) ≤ suc most) [ true ↦ omega arith | false ↦ omega (arith, rest) ]

pub bytes_inside : (most : ℕ) (text : List ℕ) → bytes_of_line most text ≤ length text
bytes_inside zero text = omega arith
bytes_inside (suc most) [] = omega arith
bytes_inside (suc most) (b ∷ bs) =
    let rest = bytes_inside most bs in
    elim (ends_line b) as (λ t. cond t 0 (suc (bytes_of_line most bs)) ≤ suc (length bs)) [ true ↦ omega arith | false ↦ omega (arith, rest) ]

-- a byte that ends no line is neither of the two
not_line_feed : (b : ℕ) → ends_line b ≡ false → (b == 10) ≡ false
not_line_feed b h = elim (b == 10) as (λ t. (t || b == 12) ≡ false → t ≡ false) [ true ↦ λ e. e | false ↦ λ e. refl ] h

not_form_feed : (b : ℕ) → ends_line b ≡ false → (b == 12) ≡ false
not_form_feed b h = elim (b == 10) as (λ t. (t || b == 12) ≡ false → (b == 12) ≡ false) [ true ↦ λ e. absurd (cc) | false ↦ λ e. e ] h

module _ (ender : ℕ) (other : (b : ℕ) → ends_line b ≡ false → (b == ender) ≡ false) where
  lacks_first : (b : ℕ) (bs : List ℕ) (n : ℕ) (t : Bool) → ends_line b ≡ t → Lacks ender (take n bs) → Lacks ender (take (cond t 0 (suc n)) (b ∷ bs))
  lacks_first b bs n true is rest = tt
  lacks_first b bs n false is rest = (other b is, rest)

  lacks : (most : ℕ) (text : List ℕ) → Lacks ender (take (bytes_of_line most text) text)
  lacks zero text = tt
  lacks (suc most) [] = tt
  lacks (suc most) (b ∷ bs) = lacks_first b bs (bytes_of_line most bs) (ends_line b) refl (lacks most bs)

pub no_line_feed : (most : ℕ) (text : List ℕ) → Lacks 10 (take (bytes_of_line most text) text)
no_line_feed = lacks 10 not_line_feed

pub no_form_feed : (most : ℕ) (text : List ℕ) → Lacks 12 (take (bytes_of_line most text) text)
no_form_feed = lacks 12 not_form_feed

-- a text that is empty or begins with a byte that ends a line
abbrev pub stops : List ℕ → Bool
stops [] = true
stops (b ∷ bs) = ends_line b

stops_first : (b : ℕ) (bs : List ℕ) (n most : ℕ) (t : Bool) → ends_line b ≡ t → (n ≡ most) ⊎ (stops (drop n bs) ≡ true)
    → (cond t 0 (suc n) ≡ suc most) ⊎ (stops (drop (cond t 0 (suc n)) (b ∷ bs)) ≡ true)
stops_first b bs n most true is rest = inr is
stops_first b bs n most false is rest = ⊎_elim (λ h. inl (ap suc h)) (λ h. inr h) rest

pub full_or_stopped : (most : ℕ) (text : List ℕ) → (bytes_of_line most text ≡ most) ⊎ (stops (drop (bytes_of_line most text) text) ≡ true)
full_or_stopped zero text = inl refl
full_or_stopped (suc most) [] = inr refl
full_or_stopped (suc most) (b ∷ bs) = stops_first b bs (bytes_of_line most bs) most (ends_line b) refl (full_or_stopped most bs)

-- ---- what is printed of a line

-- a line that isn't cut, or not longer than the page is wide
one_line_of : (shape : Shape) (wrap : Bool) (run : List ℕ) → 0 < columns shape → (wrap ≡ false) ⊎ (length run ≤ columns shape)
    → cond wrap (wrapped (columns shape) run) (take (columns shape) run ∷ []) ≡ take (columns shape) run ∷ []
one_line_of shape false run some few = refl
one_line_of shape true [] some few = ap (λ l. l ∷ []) (sym (take_all (columns shape) [] (omega arith)))
one_line_of shape true (b ∷ bs) some (inl cut) = absurd (cc)
one_line_of shape true (b ∷ bs) some (inr few) =
    pieces_are (columns shape) (b ∷ bs) some (omega arith)
    ∙ ap (λ l. take (columns shape) (b ∷ bs) ∷ l) (ap (pieces (columns shape)) (drop_all (columns shape) (b ∷ bs) few) ∙ no_pieces (columns shape) some)

pub fits_one_line : (shape : Shape) (run : List ℕ) → 0 < columns shape → (shape.wrap ≡ false) ⊎ (length run ≤ columns shape) → fitted shape run ≡ take (columns shape) run ∷ []
fits_one_line shape run some few = one_line_of shape shape.wrap run some few

-- a line that is cut goes on in the next one
wraps : (width : ℕ) (run : List ℕ) (b : ℕ) (bs : List ℕ) → 0 < width → length run ≡ width → wrapped width (run ++ b ∷ bs) ≡ run ∷ wrapped width (b ∷ bs)
wraps width [] b bs some full = absurd (omega (arith, some, full))
wraps width (r ∷ rs) b bs some full =
    pieces_are width (r ∷ (rs ++ b ∷ bs)) some (omega arith)
    ∙ ap (λ l. l ∷ pieces width (drop width (r ∷ (rs ++ b ∷ bs)))) (take_at (r ∷ rs) (b ∷ bs) width full)
    ∙ ap (λ l. (r ∷ rs) ∷ pieces width l) (drop_at (r ∷ rs) (b ∷ bs) width full)

pub goes_on : (shape : Shape) (run : List ℕ) (b : ℕ) (bs : List ℕ) → 0 < columns shape → shape.wrap ≡ true → length run ≡ columns shape → fitted shape (run ++ b ∷ bs) ≡ run ∷ fitted shape (b ∷ bs)
goes_on shape run b bs some wrap full =
    ap (λ t. cond t (wrapped (columns shape) (run ++ b ∷ bs)) (take (columns shape) (run ++ b ∷ bs) ∷ [])) wrap
    ∙ wraps (columns shape) run b bs some full
    ∙ ap (λ t. run ∷ cond t (wrapped (columns shape) (b ∷ bs)) (take (columns shape) (b ∷ bs) ∷ [])) (sym wrap)

-- ---- the first line of a section

-- no lines are printed of an empty section
pub nothing_printed : (shape : Shape) → printed_lines shape [] ≡ []
unfolding printed_lines
nothing_printed shape = refl

append_none : {X : Type 0} (xs : List X) → xs ++ [] ≡ xs
append_none [] = refl
append_none (x ∷ xs) = ap (λ l. x ∷ l) (append_none xs)

-- the first line, and the lines behind it
pub by_line : (shape : Shape) (b : ℕ) (bs : List ℕ) → printed_lines shape (b ∷ bs) ≡ fitted shape (part_in_front 10 (b ∷ bs)) ++ printed_lines shape (part_behind 10 (b ∷ bs))
unfolding printed_lines
by_line shape b bs = ap (flat_map (fitted shape)) (parts_are 10 b bs)

cut_line : (shape : Shape) (run tail text : List ℕ) → Lacks 10 run → run ++ tail ≡ text → (c : ℕ) (cs : List ℕ) → text ≡ c ∷ cs
    → printed_lines shape text ≡ fitted shape (run ++ part_in_front 10 tail) ++ printed_lines shape (part_behind 10 tail)
cut_line shape run tail text lacks split c cs is =
    ap (printed_lines shape) is ∙ by_line shape c cs
    ∙ ap (λ l. fitted shape (part_in_front 10 l) ++ printed_lines shape (part_behind 10 l)) (sym is ∙ sym split)
    ∙ ap (λ l. fitted shape l ++ printed_lines shape (part_behind 10 (run ++ tail))) (front_behind 10 run tail lacks)
    ∙ ap (λ l. fitted shape (run ++ part_in_front 10 tail) ++ printed_lines shape l) (rest_behind 10 run tail lacks)

-- the lines behind a first one that is as long as it is shown
alone : (shape : Shape) (run front behind : List ℕ) → 0 < columns shape → (shape.wrap ≡ false) ⊎ (length run ≤ columns shape) → front ≡ []
    → fitted shape (run ++ front) ++ printed_lines shape behind ≡ take (columns shape) run ∷ printed_lines shape behind
alone shape run front behind some few none =
    ap (λ l. fitted shape (run ++ l) ++ printed_lines shape behind) none
    ∙ ap (λ l. fitted shape l ++ printed_lines shape behind) (append_none run)
    ∙ ap (λ l. l ++ printed_lines shape behind) (fits_one_line shape run some few)

carry : (shape : Shape) (text line rest other : List ℕ) (is_last last : Bool) → rest ≡ other → is_last ≡ last → IsFirstLine shape text line rest is_last → IsFirstLine shape text line other last
carry shape text line rest other is_last last same_rest same_last h =
    subst (λ l. IsFirstLine shape text line l last) same_rest (subst (λ b. IsFirstLine shape text line rest b) same_last h)

-- what is known of a first line: its bytes, and the text behind them
record Cut (shape : Shape) (text run tail : List ℕ) : Type 0 where
  printed : printed_lines shape (section text) ≡ fitted shape (run ++ part_in_front 10 (section tail)) ++ printed_lines shape (part_behind 10 (section tail))
  left : others text ≡ others tail

module _ (shape : Shape) (some : 0 < columns shape) (text run : List ℕ) where
  at_the_end : (shape.wrap ≡ false) ⊎ (length run ≤ columns shape) → Cut shape text run [] → IsFirstLine shape text (take (columns shape) run) [] true
  at_the_end few cut = record {
    printed = cut.printed ∙ alone shape run [] [] some few refl ∙ ap (λ l. take (columns shape) run ∷ l) (nothing_printed shape);
    left = cut.left;
    inside = λ e. absurd (cc);
  }

  at_form_feed : (b : ℕ) (bs : List ℕ) → (b == 12) ≡ true → (shape.wrap ≡ false) ⊎ (length run ≤ columns shape) → Cut shape text run (b ∷ bs)
      → IsFirstLine shape text (take (columns shape) run) bs true
  at_form_feed b bs feed few cut =
      let empty : section (b ∷ bs) ≡ [] = ap (λ t. cond t [] (b ∷ section bs)) feed in
      record {
        printed = cut.printed
            ∙ alone shape run (part_in_front 10 (section (b ∷ bs))) (part_behind 10 (section (b ∷ bs))) some few (ap (part_in_front 10) empty)
            ∙ ap (λ l. take (columns shape) run ∷ printed_lines shape (part_behind 10 l)) empty
            ∙ ap (λ l. take (columns shape) run ∷ l) (nothing_printed shape);
        left = cut.left ∙ ap (λ t. cond t bs (others bs)) feed;
        inside = λ e. absurd (cc);
      }

  -- behind a line feed
  record Fed (bs : List ℕ) : Type 0 where
    printed : printed_lines shape (section text) ≡ take (columns shape) run ∷ printed_lines shape (section bs)
    left : others text ≡ others bs

  fed : (b : ℕ) (bs : List ℕ) → (b == 12) ≡ false → (b == 10) ≡ true → (shape.wrap ≡ false) ⊎ (length run ≤ columns shape) → Cut shape text run (b ∷ bs) → Fed bs
  fed b bs other feed few cut =
      let more : section (b ∷ bs) ≡ b ∷ section bs = ap (λ t. cond t [] (b ∷ section bs)) other in
      let front : part_in_front 10 (section (b ∷ bs)) ≡ [] = ap (part_in_front 10) more ∙ ap (λ t. cond t [] (b ∷ part_in_front 10 (section bs))) feed in
      let behind : part_behind 10 (section (b ∷ bs)) ≡ section bs = ap (part_behind 10) more ∙ ap (λ t. cond t (section bs) (part_behind 10 (section bs))) feed in
      record {
        printed = cut.printed ∙ alone shape run _ (part_behind 10 (section (b ∷ bs))) some few front ∙ ap (λ l. take (columns shape) run ∷ printed_lines shape l) behind;
        left = cut.left ∙ ap (λ t. cond t bs (others bs)) other;
      }

  -- whether a section is over behind a line feed, and how the text goes on there
  abbrev over_behind : List ℕ → Bool
  over_behind bs = cond (is_in_section bs) false true

  fed_by : (d : ℕ) (ds : List ℕ) (t : Bool) → (d == 12) ≡ t → Fed (d ∷ ds) → IsFirstLine shape text (take (columns shape) run) (cond t ds (d ∷ ds)) (cond (cond t false true) false true)
  fed_by d ds true feed f = record {
    printed = f.printed ∙ ap (λ t. take (columns shape) run ∷ printed_lines shape (cond t [] (d ∷ section ds))) feed ∙ ap (λ l. take (columns shape) run ∷ l) (nothing_printed shape);
    left = f.left ∙ ap (λ t. cond t ds (others ds)) feed;
    inside = λ e. absurd (cc);
  }
  fed_by d ds false feed f = record { printed = f.printed; left = f.left; inside = λ e. ap (λ t. cond t false true) feed }

  behind_feed : (bs : List ℕ) → Fed bs → IsFirstLine shape text (take (columns shape) run) (without_form_feed bs) (over_behind bs)
  behind_feed [] f = record { printed = f.printed ∙ ap (λ l. take (columns shape) run ∷ l) (nothing_printed shape); left = f.left; inside = λ e. absurd (cc) }
  behind_feed (d ∷ ds) f = fed_by d ds (d == 12) refl f

  -- a line that is cut in front of another byte
  in_a_line : (b : ℕ) (bs : List ℕ) → (b == 12) ≡ false → (b == 10) ≡ false → shape.wrap ≡ true → length run ≡ columns shape → Cut shape text run (b ∷ bs)
      → IsFirstLine shape text (take (columns shape) run) (b ∷ bs) false
  in_a_line b bs other next wrap full cut =
      let more : section (b ∷ bs) ≡ b ∷ section bs = ap (λ t. cond t [] (b ∷ section bs)) other in
      let front : part_in_front 10 (section (b ∷ bs)) ≡ b ∷ part_in_front 10 (section bs) = ap (part_in_front 10) more ∙ ap (λ t. cond t [] (b ∷ part_in_front 10 (section bs))) next in
      let behind : printed_lines shape (section (b ∷ bs)) ≡ fitted shape (part_in_front 10 (section (b ∷ bs))) ++ printed_lines shape (part_behind 10 (section (b ∷ bs))) =
      ap (printed_lines shape) more ∙ by_line shape b (section bs) ∙ ap (λ l. fitted shape (part_in_front 10 l) ++ printed_lines shape (part_behind 10 l)) (sym more) in
      let whole : run ≡ take (columns shape) run = sym (take_all (columns shape) run (omega (arith, full))) in
      record {
        printed = cut.printed
            ∙ ap (λ l. fitted shape (run ++ l) ++ printed_lines shape (part_behind 10 (section (b ∷ bs)))) front
            ∙ ap (λ l. l ++ printed_lines shape (part_behind 10 (section (b ∷ bs)))) (goes_on shape run b (part_in_front 10 (section bs)) some wrap full)
            ∙ ap (λ l. run ∷ (fitted shape l ++ printed_lines shape (part_behind 10 (section (b ∷ bs))))) (sym front)
            ∙ ap (λ l. run ∷ l) (sym behind)
            ∙ ap (λ l. l ∷ printed_lines shape (section (b ∷ bs))) whole;
        left = cut.left;
        inside = λ e. ap (λ t. cond t false true) other;
      }

-- where the bytes of a line end: in front of a byte that ends it, or as many as fit where the line goes on
abbrev pub Ends : Shape → List ℕ → List ℕ → Type 0
Ends shape run tail = (((shape.wrap ≡ false) ⊎ (length run ≤ columns shape)) × (stops tail ≡ true)) ⊎ ((shape.wrap ≡ true) × (length run ≡ columns shape))

fits_where_it_ends : (shape : Shape) (run tail : List ℕ) → Ends shape run tail → (shape.wrap ≡ false) ⊎ (length run ≤ columns shape)
fits_where_it_ends shape run tail (inl h) = h.0
fits_where_it_ends shape run tail (inr h) = inr (omega (arith, h.1))

wraps_where_it_goes_on : (shape : Shape) (run : List ℕ) (b : ℕ) (bs : List ℕ) → (b == 12) ≡ false → (b == 10) ≡ false → Ends shape run (b ∷ bs)
    → (shape.wrap ≡ true) × (length run ≡ columns shape)
wraps_where_it_goes_on shape run b bs other next (inl h) = let e = rw (other, next) at h.1 in absurd (cc)
wraps_where_it_goes_on shape run b bs other next (inr h) = h

by_byte : (shape : Shape) → 0 < columns shape → (text run : List ℕ) (b : ℕ) (bs : List ℕ) → Ends shape run (b ∷ bs) → Cut shape text run (b ∷ bs)
    → (feed line : Bool) → (b == 12) ≡ feed → (b == 10) ≡ line
    → IsFirstLine shape text (take (columns shape) run) (cond feed bs (cond line (without_form_feed bs) (b ∷ bs))) (cond feed true (cond line (cond (is_in_section bs) false true) false))
by_byte shape some text run b bs ends cut true line feed_is line_is = at_form_feed shape some text run b bs feed_is (fits_where_it_ends shape run (b ∷ bs) ends) cut
by_byte shape some text run b bs ends cut false true feed_is line_is = behind_feed shape some text run bs (fed shape some text run b bs feed_is line_is (fits_where_it_ends shape run (b ∷ bs) ends) cut)
by_byte shape some text run b bs ends cut false false feed_is line_is =
    let h = wraps_where_it_goes_on shape run b bs feed_is line_is ends in in_a_line shape some text run b bs feed_is line_is h.0 h.1 cut

by_tail : (shape : Shape) → 0 < columns shape → (text run tail : List ℕ) → Ends shape run tail → Cut shape text run tail
    → IsFirstLine shape text (take (columns shape) run) (behind_line tail) (is_section_over tail)
by_tail shape some text run [] ends cut = at_the_end shape some text run (fits_where_it_ends shape run [] ends) cut
by_tail shape some text run (b ∷ bs) ends cut = by_byte shape some text run b bs ends cut (b == 12) (b == 10) refl refl

-- a text that begins in a section has a section that isn't empty
pub begins : (text : List ℕ) → is_in_section text ≡ true → (c : ℕ) × (cs : List ℕ) × (section text ≡ c ∷ cs)
begins [] h = absurd (cc)
begins (b ∷ bs) h = (b, section bs, elim (b == 12) as (λ t. cond t false true ≡ true → cond t [] (b ∷ section bs) ≡ b ∷ section bs) [ true ↦ λ e. absurd (cc) | false ↦ λ e. refl ] h)

cut_at : (shape : Shape) (text run tail : List ℕ) → is_in_section text ≡ true → Lacks 10 run → Lacks 12 run → run ++ tail ≡ text → Cut shape text run tail
cut_at shape text run tail inside no10 no12 split =
    let b = begins text inside in
    record {
      printed = cut_line shape run (section tail) (section text) no10 (sym (front_behind 12 run tail no12) ∙ ap section split) b.0 b.1 b.2;
      left = ap others (sym split) ∙ rest_behind 12 run tail no12;
    }

-- the first line of a text, whose bytes were counted
pub first_line_is : (shape : Shape) (most : ℕ) (text : List ℕ) → 0 < columns shape → is_in_section text ≡ true
    → ((shape.wrap ≡ false) × (most ≡ length text)) ⊎ ((shape.wrap ≡ true) × (most ≡ columns shape))
    → IsFirstLine shape text (take (columns shape) (take (bytes_of_line most text) text)) (behind_line (drop (bytes_of_line most text) text)) (is_section_over (drop (bytes_of_line most text) text))
first_line_is shape most text some inside limit =
    let n : ℕ = bytes_of_line most text in
    by_tail shape some text (take n text) (drop n text) (ends n refl)
    (cut_at shape text (take n text) (drop n text) inside (no_line_feed most text) (no_form_feed most text) (take-append-drop n text))
  where
    shown : (n : ℕ) → bytes_of_line most text ≡ n → length (take n text) ≡ n
    shown n is = length-take-le n text (omega (arith, is, bytes_inside most text))

    stopped : (n : ℕ) → bytes_of_line most text ≡ n → most ≡ length text → stops (drop n text) ≡ true
    stopped n is whole =
        ⊎_elim (λ full. ap stops (drop_all n text (omega (arith, is, full, whole)))) (λ h. ap (λ m. stops (drop m text)) (sym is) ∙ h) (full_or_stopped most text)

    wide : (n : ℕ) → bytes_of_line most text ≡ n → shape.wrap ≡ true → most ≡ columns shape → Ends shape (take n text) (drop n text)
    wide n is wrap width =
        let long = shown n is in
        ⊎_elim (λ full. inr (wrap, long ∙ sym is ∙ full ∙ width))
        (λ h. inl (inr (omega (arith, long, is, few_bytes most text, width)), ap (λ m. stops (drop m text)) (sym is) ∙ h)) (full_or_stopped most text)

    ends : (n : ℕ) → bytes_of_line most text ≡ n → Ends shape (take n text) (drop n text)
    ends n is = ⊎_elim (λ h. inl (inl h.0, stopped n is h.1)) (λ h. wide n is h.0 h.1) limit

next_least : (n m : ℕ) → min (suc n) (suc m) ≡ suc (min n m)
next_least n m = omega arith

least_none : (n : ℕ) → min n zero ≡ zero
least_none n = omega arith

least_of_none : (n : ℕ) → min zero n ≡ zero
least_of_none n = omega arith

nothing_of : (n : ℕ) → take {A = ℕ} n [] ≡ []
nothing_of zero = refl
nothing_of (suc n) = refl

-- the bytes that are shown of a line
pub shown_bytes : (bytes width : ℕ) (text : List ℕ) → take (min bytes width) text ≡ take width (take bytes text)
shown_bytes zero width text = ap (λ n. take n text) (least_of_none width) ∙ sym (nothing_of width)
shown_bytes (suc bytes) zero text = ap (λ n. take n text) (least_none (suc bytes))
shown_bytes (suc bytes) (suc width) [] = ap (λ n. take n []) (next_least bytes width)
shown_bytes (suc bytes) (suc width) (b ∷ bs) = ap (λ n. take n (b ∷ bs)) (next_least bytes width) ∙ ap (λ l. b ∷ l) (shown_bytes bytes width bs)

-- ---- behind each line there is less

not_longer : (bs : List ℕ) → length (without_form_feed bs) ≤ length bs
not_longer [] = omega arith
not_longer (b ∷ bs) = elim (b == 12) as (λ t. length (cond t bs (b ∷ bs)) ≤ length (b ∷ bs)) [ true ↦ omega arith | false ↦ omega arith ]

shorter_by : (b : ℕ) (bs : List ℕ) (feed line : Bool) → (line || feed) ≡ true → length (cond feed bs (cond line (without_form_feed bs) (b ∷ bs))) ≤ length bs
shorter_by b bs true line h = omega arith
shorter_by b bs false true h = not_longer bs
shorter_by b bs false false h = absurd (cc)

shorter : (b : ℕ) (bs : List ℕ) → ends_line b ≡ true → length (behind_line (b ∷ bs)) ≤ length bs
shorter b bs h = shorter_by b bs (b == 12) (b == 10) h

moves : (next : ℕ) (text : List ℕ) → is_in_section text ≡ true → stops text ≡ true → drop next text ≡ behind_line text → 0 < next
moves zero [] inside h is = absurd (cc)
moves zero (b ∷ bs) inside h is = absurd (omega (arith, shorter b bs h, ap length is))
moves (suc next) text inside h is = omega arith

pub line_moves : (most : ℕ) (text : List ℕ) (bytes next : ℕ) → 0 < most → is_in_section text ≡ true → bytes ≡ bytes_of_line most text
    → drop next (drop bytes text) ≡ behind_line (drop bytes text) → 0 < bytes + next
line_moves most text zero next some inside is rest =
    let first = ⊎_elim (λ full. absurd (omega (arith, is, full, some))) (λ h. ap (λ m. stops (drop m text)) is ∙ h) (full_or_stopped most text) in
    omega (arith, moves next text inside first rest)
line_moves most text (suc bytes) next some inside is rest = omega arith

pub section_has_bytes : (text : List ℕ) → is_in_section text ≡ true → 0 < length text
section_has_bytes [] h = absurd (cc)
section_has_bytes (b ∷ bs) h = omega arith

-- the same, in the places that are told
pub is_first_line : (shape : Shape) (most : ℕ) (text : List ℕ) (bytes shown next : ℕ) (last : Bool) → 0 < columns shape → is_in_section text ≡ true
    → ((shape.wrap ≡ false) × (most ≡ length text)) ⊎ ((shape.wrap ≡ true) × (most ≡ columns shape))
    → bytes ≡ bytes_of_line most text → shown ≡ min bytes (columns shape) → drop next text ≡ behind_line (drop bytes text) → last ≡ is_section_over (drop bytes text)
    → IsFirstLine shape text (take shown text) (drop next text) last
is_first_line shape most text bytes shown next last some inside limit counted shown_is rest last_is =
    subst (λ l. IsFirstLine shape text l (drop next text) last)
    (ap (λ n. take (columns shape) (take n text)) (sym counted) ∙ sym (shown_bytes bytes (columns shape) text) ∙ ap (λ n. take n text) (sym shown_is))
    (carry shape text _ _ (drop next text) _ last (ap (λ n. behind_line (drop n text)) (sym counted) ∙ sym rest) (ap (λ n. is_section_over (drop n text)) (sym counted) ∙ sym last_is)
    (first_line_is shape most text some inside limit))
