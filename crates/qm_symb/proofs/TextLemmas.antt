-- The lines of a text, one by one.
use Rattle.std.proofs.Common.{◌≡◌, ⊎_elim, ℕ, suc, ◌+◌, ◌<◌, ◌≤◌, Bool, true, false, cond, not, List, [], ◌∷◌, length, take, drop, length-drop, length-take, Some, None, refl, sym, ◌∙◌, ap, arith, nat_le}
use Rattle.std.specs.List.{position, position_or_len, position_from}
use Rattle.std.proofs.lemmas.Bool.{cases_lt, lt-ltb, le-ltb, le-leb, lt-leb}
use Rattle.std.proofs.lemmas.List.{drop_all, drop-drop}
use Rattle.std.proofs.lemmas.List.Sums.{prefix_len-le-length}
use Rattle.std.proofs.lemmas.Iterator.Adapters.{position_from-zero}
use Rattle.qm_model.specs.Pages.{lines}
use Rattle.qm_model.proofs.ReportLemmas.{drop_next}
use Rattle.qm_symb.specs.TextParts.{part_in_front, part_behind}
use Rattle.qm_symb.proofs.PartLemmas.{parts_are}
use Rattle.qm_symb.specs.BatchCursors.{is_line_feed, IsInText, IsLineAt}
use Rattle.qm_symb.specs.declared.batch.cursor.Cursor.{Cursor}

-- ---- the first line

one_add : (n : ℕ) → 1 + n ≡ suc n
one_add n = omega arith

one_add_more : (n : ℕ) → 1 + n + 1 ≡ suc (n + 1)
one_add_more n = omega arith

front_by : (t : Bool) (b n : ℕ) (bs front : List ℕ) → take n bs ≡ front → take (cond (not t) (1 + n) 0) (b ∷ bs) ≡ cond t [] (b ∷ front)
front_by true b n bs front is = refl
front_by false b n bs front is = ap (λ m. take m (b ∷ bs)) (one_add n) ∙ ap (λ l. b ∷ l) is

front_found : (text : List ℕ) → take (position_or_len is_line_feed text) text ≡ part_in_front 10 text
front_found [] = refl
front_found (b ∷ bs) = front_by (is_line_feed b) b (position_or_len is_line_feed bs) bs (part_in_front 10 bs) (front_found bs)

rest_by : (t : Bool) (b n : ℕ) (bs rest : List ℕ) → drop (n + 1) bs ≡ rest → drop (cond (not t) (1 + n) 0 + 1) (b ∷ bs) ≡ cond t bs rest
rest_by true b n bs rest is = refl
rest_by false b n bs rest is = ap (λ m. drop m (b ∷ bs)) (one_add_more n) ∙ is

rest_found : (text : List ℕ) → drop (position_or_len is_line_feed text + 1) text ≡ part_behind 10 text
rest_found [] = refl
rest_found (b ∷ bs) = rest_by (is_line_feed b) b (position_or_len is_line_feed bs) bs (part_behind 10 bs) (rest_found bs)

-- the place that a search finds
found_some : (p : ℕ → Bool) (text : List ℕ) (place : ℕ) → position p text ≡ Some place → position_or_len p text ≡ place
found_some p text place h =
    ⊎_elim (λ lt. let yes = lt-ltb _ _ lt in let e = rw yes at h in cc) (λ ge. let no = le-ltb _ _ ge in let e = rw no at h in cc)
    (cases_lt (position_or_len p text) (length text))

found_none : (p : ℕ → Bool) (text : List ℕ) → position p text ≡ None → position_or_len p text ≡ length text
found_none p text h =
    ⊎_elim (λ lt. let yes = lt-ltb _ _ lt in let e = rw yes at h in cc) (λ ge. omega (arith, ge, prefix_len-le-length (λ x. not (p x)) text))
    (cases_lt (position_or_len p text) (length text))

pub front_at_feed : (text : List ℕ) (place : ℕ) → position is_line_feed text ≡ Some place → take place text ≡ part_in_front 10 text
front_at_feed text place h = ap (λ n. take n text) (sym (found_some is_line_feed text place h)) ∙ front_found text

pub rest_at_feed : (text : List ℕ) (place : ℕ) → position is_line_feed text ≡ Some place → drop (place + 1) text ≡ part_behind 10 text
rest_at_feed text place h = ap (λ n. drop (n + 1) text) (sym (found_some is_line_feed text place h)) ∙ rest_found text

pub feed_inside : (text : List ℕ) (place : ℕ) → position is_line_feed text ≡ Some place → place < length text
feed_inside text place h =
    ⊎_elim (λ lt. omega (arith, lt, found_some is_line_feed text place h)) (λ ge. let no = le-ltb _ _ ge in let e = rw no at h in absurd (cc))
    (cases_lt (position_or_len is_line_feed text) (length text))

pub front_without_feed : (text : List ℕ) → position is_line_feed text ≡ None → take (length text) text ≡ part_in_front 10 text
front_without_feed text h = ap (λ n. take n text) (sym (found_none is_line_feed text h)) ∙ front_found text

pub rest_without_feed : (text : List ℕ) → position is_line_feed text ≡ None → drop (length text) text ≡ part_behind 10 text
rest_without_feed text h =
    drop_all (length text) text (omega arith) ∙ sym (drop_all (position_or_len is_line_feed text + 1) text (omega (arith, found_none is_line_feed text h))) ∙ rest_found text

-- ---- the line at a cursor

lines_are : (text : List ℕ) → 0 < length text → lines text ≡ part_in_front 10 text ∷ lines (part_behind 10 text)
lines_are [] some = absurd (omega (arith, some))
lines_are (b ∷ bs) some = parts_are 10 b bs

module _ (text : List ℕ) (c : Cursor) (in_text : IsInText text c) where
  pub no_line_at : (rest : List ℕ) → rest ≡ drop c.byte text → rest ≡ [] → drop c.line (lines text) ≡ []
  no_line_at rest is none = sym in_text.behind ∙ ap lines (sym is ∙ none)

  pub line_is_at : (rest : List ℕ) (bytes next : ℕ) → rest ≡ drop c.byte text → 0 < length rest → take bytes rest ≡ part_in_front 10 rest → drop next rest ≡ part_behind 10 rest
      → next ≤ length rest → 0 < next → IsLineAt text c (take bytes rest) (record { line = c.line + 1; byte = c.byte + next })
  line_is_at rest bytes next is some front behind inside moves =
      let here : drop c.line (lines text) ≡ take bytes rest ∷ lines (drop (c.byte + next) text) =
      sym in_text.behind
      ∙ ap lines (sym is)
      ∙ lines_are rest some
      ∙ ap (λ l. l ∷ lines (part_behind 10 rest)) (sym front)
      ∙ ap (λ l. take bytes rest ∷ lines l) (sym behind ∙ ap (drop next) is ∙ drop-drop next c.byte text) in
      let left : drop (c.line + 1) (lines text) ≡ lines (drop (c.byte + next) text) = drop_next c.line (lines text) _ _ here in
      record {
        first = here ∙ ap (λ l. take bytes rest ∷ l) (sym left);
        count = refl;
        moves = omega (arith, moves);
        no_longer = omega (arith, length-take bytes rest, ap length is, length-drop c.byte text);
        in_text = record {
          behind = sym left;
          inside = omega (arith, inside, in_text.inside, ap length is, length-drop c.byte text);
          few = omega (arith, in_text.few, moves);
        };
      }

-- the beginning of a text
pub in_text_first : (text : List ℕ) → IsInText text (record { line = 0; byte = 0 })
in_text_first text = record { behind = refl; inside = omega arith; few = omega arith }

-- ---- whether lines are left

drop_some : {X : Type 0} (n : ℕ) (xs : List X) → 0 < length (drop n xs) → n < length xs
drop_some n xs some = omega (arith, some, length-drop n xs)

module _ (text : List ℕ) (c : Cursor) (in_text : IsInText text c) where
  pub some_line_left : c.byte < length text → nat_le (length (lines text)) c.line ≡ false
  some_line_left more =
      let some : 0 < length (drop c.byte text) = omega (arith, more, length-drop c.byte text) in
      lt-leb (length (lines text)) c.line
      (drop_some c.line (lines text) (omega (arith, ap length (lines_are (drop c.byte text) some), ap length in_text.behind)))

  pub no_line_left : length text ≤ c.byte → nat_le (length (lines text)) c.line ≡ true
  no_line_left past =
      let none : drop c.line (lines text) ≡ [] = sym in_text.behind ∙ ap lines (drop_all c.byte text past) in
      le-leb (length (lines text)) c.line (omega (arith, ap length none, length-drop c.line (lines text)))

-- ---- the search for a line

module _ {X : Type 0} (test : X → Bool) (n : ℕ) (xs : List X) where
  pub here_is : (x : X) (ys : List X) → xs ≡ x ∷ ys → test x ≡ true → position_from test n xs ≡ Some n
  here_is x ys is found = ap (position_from test n) is ∙ ap (λ t. cond t (Some n) (position_from test (n + 1) ys)) found

  pub further_on : (x : X) (ys : List X) → xs ≡ x ∷ ys → test x ≡ false → position_from test n xs ≡ position_from test (n + 1) ys
  further_on x ys is other = ap (position_from test n) is ∙ ap (λ t. cond t (Some n) (position_from test (n + 1) ys)) other

  pub nowhere : xs ≡ [] → position_from test n xs ≡ None
  nowhere none = ap (position_from test n) none

pub search_begins : {X : Type 0} (test : X → Bool) (xs : List X) → position test xs ≡ position_from test 0 xs
search_begins test xs = position_from-zero test xs
