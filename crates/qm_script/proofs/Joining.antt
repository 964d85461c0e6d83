-- Texts that go on in the next line, joined.
use Rattle.std.proofs.Common.{◌≡◌, ◌<◌, ◌≤◌, ◌+◌, ◌-◌, ◌==◌, ℕ, suc, Bool, true, false, ◌&&◌, ◌||◌, not, cond, nat_eq, List, [], ◌∷◌, ◌++◌, length, take, drop, take_all, get_or, position, Option, None, Some, Result, arith, refl, sym, ◌∙◌, ap, append_assoc, append-nil, eqb-true, length-append, take-append-drop}
use Rattle.std.specs.List.{list_all, list_any, onto_first, slice_split, position_or_len, ends_with}
use Rattle.std.proofs.lemmas.List.Sums.{split_at_first, passes_at_first}
use Rattle.std.proofs.lemmas.Bool.Decides.{Decides-eqb}
use Rattle.std.proofs.lemmas.Slice.Eq.{ends_is}
use Rattle.std.proofs.Math.Seq.{take-append_seam}
use Rattle.qm_history.specs.Common.{is_line_byte, UserLine}
use Rattle.qm_history.specs.Lines.{LineFault, lines_from, without_last, cut_short, line_of, one_more}
use Rattle.qm_script.specs.Extents.{is_feed, parts_of, joined, lines_with}
use Rattle.qm_script.proofs.Parts.{some_part, found_at, found_none}

-- ---- texts without a line feed

pub tail_plain : (first rest : Bool) → (first || rest) ≡ false → rest ≡ false
tail_plain true rest h = absurd (cc)
tail_plain false rest h = h

pub head_plain : (first rest : Bool) → (first || rest) ≡ false → first ≡ false
head_plain true rest h = h
head_plain false rest h = refl

unbroken : (dash feed : Bool) (a b : List ℕ) → feed ≡ false → cond (dash && feed) a b ≡ b
unbroken true feed a b h = rw h refl
unbroken false feed a b h = refl

pub joined_plain : (text : List ℕ) → list_any is_feed text ≡ false → joined text ≡ text
joined_plain [] plain = refl
joined_plain (b ∷ []) plain = refl
joined_plain (b ∷ next ∷ rest) plain =
    let more = tail_plain (b == 10) (list_any is_feed (next ∷ rest)) plain in
    unbroken (b == 45) (next == 10) (joined rest) (b ∷ joined (next ∷ rest)) (head_plain (next == 10) (list_any is_feed rest) more)
    ∙ ap (λ (l : List ℕ). b ∷ l) (joined_plain (next ∷ rest) more)

pub plain_behind : (front text : List ℕ) → list_any is_feed (front ++ text) ≡ false → list_any is_feed text ≡ false
plain_behind [] text plain = plain
plain_behind (b ∷ front) text plain = plain_behind front text (tail_plain (b == 10) (list_any is_feed (front ++ text)) plain)

pub plain_front : (front text : List ℕ) → list_any is_feed (front ++ text) ≡ false → list_any is_feed front ≡ false
plain_front [] text plain = refl
plain_front (b ∷ front) text plain =
    let none = head_plain (b == 10) (list_any is_feed (front ++ text)) plain in
    let more = plain_front front text (tail_plain (b == 10) (list_any is_feed (front ++ text)) plain) in rw (none, more) refl

pub drop_seam : (front text : List ℕ) → drop (length front) (front ++ text) ≡ text
drop_seam [] text = refl
drop_seam (b ∷ front) text = drop_seam front text

either_false : (a b : Bool) → a ≡ false → b ≡ false → (a || b) ≡ false
either_false true b first second = first
either_false false b first second = second

-- ---- a text whose bytes can all be printed goes on nowhere

both_true : (a b : Bool) → (a && b) ≡ true → (a ≡ true) × (b ≡ true)
both_true true b h = (refl, h)
both_true false b h = absurd (cc)

ten_is_no_line_byte : (b : ℕ) → b ≡ 10 → is_line_byte b ≡ false
ten_is_no_line_byte b ten = rw ten refl

no_feed_byte : (b : ℕ) (is : Bool) → (b == 10) ≡ is → is_line_byte b ≡ true → is ≡ false
no_feed_byte b false e h = refl
no_feed_byte b true e h = let no = ten_is_no_line_byte b (eqb-true b 10 e) in absurd (cc)

of_line_plain : (text : List ℕ) → list_all is_line_byte text ≡ true → list_any is_feed text ≡ false
of_line_plain [] h = refl
of_line_plain (b ∷ rest) h =
    let each = both_true (is_line_byte b) (list_all is_line_byte rest) h in
    either_false (b == 10) (list_any is_feed rest) (no_feed_byte b (b == 10) refl each.0) (of_line_plain rest each.1)

pub joined_of_line : (text : List ℕ) → true ≡ list_all is_line_byte text → joined text ≡ text
joined_of_line text h = joined_plain text (of_line_plain text (sym h))

place_of : (passes : Bool) (x : ℕ) (rest : List ℕ) → (x == 10) ≡ passes → position_or_len is_feed (x ∷ rest) ≡ cond (not passes) (1 + position_or_len is_feed rest) 0
place_of passes x rest is = ap (λ (t : Bool). cond (not t) (1 + position_or_len is_feed rest) 0) is

plain_taken : (passes : Bool) (x : ℕ) (rest : List ℕ) → (x == 10) ≡ passes → list_any is_feed (take (position_or_len is_feed rest) rest) ≡ false
    → list_any is_feed (take (position_or_len is_feed (x ∷ rest)) (x ∷ rest)) ≡ false
plain_taken true x rest is plain = ap (λ (n : ℕ). list_any is_feed (take n (x ∷ rest))) (place_of true x rest is)
plain_taken false x rest is plain =
    let place : position_or_len is_feed (x ∷ rest) ≡ suc (position_or_len is_feed rest) = place_of false x rest is ∙ omega arith in
    ap (λ (n : ℕ). list_any is_feed (take n (x ∷ rest))) place ∙ either_false (x == 10) (list_any is_feed (take (position_or_len is_feed rest) rest)) is plain

pub plain_before : (text : List ℕ) → list_any is_feed (take (position_or_len is_feed text) text) ≡ false
plain_before [] = refl
plain_before (x ∷ rest) = plain_taken (x == 10) x rest refl (plain_before rest)

-- a text with a line feed: what stands before the first, and what behind it
pub before_feed : (text : List ℕ) (place : ℕ) → Some place ≡ position is_feed text → list_any is_feed (take place text) ≡ false
before_feed text place e = let at = found_at (position_or_len is_feed text) (length text) place e in rw at.0 (plain_before text)

pub at_feed : (text : List ℕ) (place : ℕ) → Some place ≡ position is_feed text → text ≡ take place text ++ 10 ∷ drop (place + 1) text
at_feed text place e =
    let at = found_at (position_or_len is_feed text) (length text) place e in
    let is = eqb-true (get_or text (position_or_len is_feed text) 0) 10 (passes_at_first is_feed text 0 at.1) in
    split_at_first is_feed text 0 at.1 ∙ ap (λ (b : ℕ). take (position_or_len is_feed text) text ++ b ∷ drop (position_or_len is_feed text + 1) text) is
    ∙ ap (λ (p : ℕ). take p text ++ 10 ∷ drop (p + 1) text) (sym at.0)

-- a text without one
pub no_feed : (text : List ℕ) → None ≡ position is_feed text → list_any is_feed text ≡ false
no_feed text e =
    let beyond = found_none (position_or_len is_feed text) (length text) e in
    sym (ap (list_any is_feed) (take_all (position_or_len is_feed text) text beyond)) ∙ plain_before text

-- ---- the parts of a text

onto : (feed : Bool) (x : ℕ) (text : List ℕ) (more parts : List (List ℕ)) → feed ≡ false → parts ≡ text ∷ more
    → cond feed ([] ∷ parts) (onto_first x parts) ≡ (x ∷ text) ∷ more
onto feed x text more parts plain is = rw (plain, is) refl

pub parts_cut : (text rest : List ℕ) → list_any is_feed text ≡ false → parts_of (text ++ 10 ∷ rest) ≡ text ∷ parts_of rest
parts_cut [] rest plain = refl
parts_cut (x ∷ text) rest plain =
    onto (x == 10) x text (parts_of rest) (parts_of (text ++ 10 ∷ rest)) (head_plain (x == 10) (list_any is_feed text) plain)
    (parts_cut text rest (tail_plain (x == 10) (list_any is_feed text) plain))

pub parts_whole : (text : List ℕ) → list_any is_feed text ≡ false → parts_of text ≡ text ∷ []
parts_whole [] plain = refl
parts_whole (x ∷ text) plain =
    onto (x == 10) x text [] (parts_of text) (head_plain (x == 10) (list_any is_feed text) plain)
    (parts_whole text (tail_plain (x == 10) (list_any is_feed text) plain))

-- ---- a `-` and a line feed

one_behind : (dash : Bool) (a b : List ℕ) → cond (dash && false) a b ≡ b
one_behind true a b = refl
one_behind false a b = refl

both_behind : (goes : Bool) (b : ℕ) (a a' c c' z : List ℕ) → a ≡ a' ++ z → c ≡ c' ++ z → cond goes a (b ∷ c) ≡ cond goes a' (b ∷ c') ++ z
both_behind true b a a' c c' z e f = e
both_behind false b a a' c c' z e f = ap (λ (l : List ℕ). b ∷ l) f

pub joined_at_break : (x y : List ℕ) → joined (x ++ 45 ∷ 10 ∷ y) ≡ joined x ++ joined y
joined_at_break [] y = refl
joined_at_break (b ∷ []) y = one_behind (b == 45) (joined (10 ∷ y)) (b ∷ joined y)
joined_at_break (b ∷ next ∷ rest) y =
    both_behind (b == 45 && next == 10) b (joined (rest ++ 45 ∷ 10 ∷ y)) (joined rest) (joined (next ∷ rest ++ 45 ∷ 10 ∷ y)) (joined (next ∷ rest)) (joined y)
    (joined_at_break rest y) (joined_at_break (next ∷ rest) y)

-- what stands behind it is joined by itself
abbrev pub JoinsOn : List ℕ → Type 0
JoinsOn x = (y : List ℕ) → joined (x ++ y) ≡ joined x ++ joined y

pub joined_ended : (x : List ℕ) → joined (x ++ 45 ∷ 10 ∷ []) ≡ joined x
joined_ended x = joined_at_break x [] ∙ append-nil (joined x)

pub break_joins : (x : List ℕ) → JoinsOn (x ++ 45 ∷ 10 ∷ [])
break_joins x y = ap joined (append_assoc x (45 ∷ 10 ∷ []) y) ∙ joined_at_break x y ∙ ap (λ (l : List ℕ). l ++ joined y) (sym (joined_ended x))

-- ---- a part that ends in `-`

pub ends_in_dash : (part : List ℕ) → ends_with nat_eq part (45 ∷ []) ≡ true → part ≡ without_last part ++ 45 ∷ []
ends_in_dash part e = (ends_is Decides-eqb part (45 ∷ []) (ends_with nat_eq part (45 ∷ [])) refl).0 e

-- the last byte of a text is that of its last part
pub without_last_behind : (front part : List ℕ) → without_last (front ++ part ++ 45 ∷ []) ≡ front ++ part
without_last_behind front part =
    ap (λ (n : ℕ). take n ((front ++ part) ++ 45 ∷ [])) (one_less (front ++ part)) ∙ take-append_seam (front ++ part) (45 ∷ [])
  where
    one_less : (text : List ℕ) → length (text ++ 45 ∷ []) - 1 ≡ length text
    one_less text = simp length-append (omega arith)

-- ---- the lines of a script from a text on that has begun

module _ (names : Option (List (List ℕ))) (number at : ℕ) (front : List ℕ) (text part rest : List ℕ) (cut : parts_of text ≡ part ∷ parts_of rest) where
  -- it goes on
  pub text_goes_on : ends_with nat_eq part (45 ∷ []) ≡ true
      → lines_from names (Some (number, front)) at (parts_of text) ≡ lines_from names (Some (number, without_last (front ++ part))) (at + 1) (parts_of rest)
  text_goes_on goes = let parts = some_part rest in rw (cut, parts.2, goes) refl

  -- it ends
  pub text_ends : ends_with nat_eq part (45 ∷ []) ≡ false
      → lines_from names (Some (number, front)) at (parts_of text) ≡ lines_with names number (front ++ part) (at + 1) true rest
  text_ends goes = let parts = some_part rest in rw (cut, parts.2, goes) refl

-- the script ends within it
pub text_cut : (names : Option (List (List ℕ))) (number at behind : ℕ) (front text rest : List ℕ) → parts_of text ≡ text ∷ []
    → lines_from names (Some (number, front)) at (parts_of text) ≡ lines_with names number (front ++ text) behind false rest
text_cut names number at behind front text rest cut = rw cut refl
