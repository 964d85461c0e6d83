-- What comes of the line at a place.
use Rattle.std.proofs.Common.{◌≡◌, ℕ, zero, suc, Bool, true, false, cond, List, [], ◌∷◌, drop, slice_get, Option, Some, None, refl, sym, ◌∙◌, ap, subst}
use Rattle.std.specs.Option.{option_map_or}
use Rattle.qm_model.specs.Pages.{lines}
use Rattle.qm_symb.specs.BatchCursors.{IsLineAt}
use Rattle.qm_symb.specs.declared.batch.cursor.Cursor.{Cursor}
use Rattle.qm_model.specs.Batch.{BatchLine, BatchMove, EndRun, batch_line, move_of, move_at, normal_status}

get_at : {X : Type 0} (n : ℕ) (xs : List X) (x : X) (ys : List X) → drop n xs ≡ x ∷ ys → slice_get xs n ≡ Some x
get_at zero [] x ys h = cc
get_at zero (y ∷ xs) x ys h = cc
get_at (suc n) [] x ys h = cc
get_at (suc n) (y ∷ xs) x ys h = get_at n xs x ys h

get_none : {X : Type 0} (n : ℕ) (xs : List X) → drop n xs ≡ [] → slice_get xs n ≡ None
get_none zero [] h = refl
get_none zero (y ∷ xs) h = cc
get_none (suc n) [] h = refl
get_none (suc n) (y ∷ xs) h = get_none n xs h

module _ (all : List (List ℕ)) (again : Bool) (mark : List ℕ) (at : ℕ) where
  -- what comes of a line, or of the end
  abbrev move_by : Option (List ℕ) → BatchMove
  move_by found = option_map_or (λ line. move_of all again mark at (batch_line line)) found (EndRun normal_status)

  pub move_behind : drop at all ≡ [] → move_at all again mark at ≡ EndRun normal_status
  move_behind none = ap move_by (get_none at all none)

  pub move_is : (line : List ℕ) (rest : List (List ℕ)) (read : BatchLine) → drop at all ≡ line ∷ rest → read ≡ batch_line line → move_at all again mark at ≡ move_of all again mark at read
  move_is line rest read here is = ap move_by (get_at at all line rest here) ∙ ap (move_of all again mark at) (sym is)

-- the same of the line at a cursor
pub move_of_line : (text other : List ℕ) (again : Bool) (mark : List ℕ) (here : Cursor) (line : List ℕ) (next : Cursor) (read : BatchLine) → other ≡ text
    → IsLineAt other here line next → read ≡ batch_line line → move_at (lines text) again mark here.line ≡ move_of (lines text) again mark here.line read
move_of_line text other again mark here line next read same found is =
    move_is (lines text) again mark here.line line (drop next.line (lines text)) read (subst (λ t. drop here.line (lines t) ≡ line ∷ drop next.line (lines t)) same found.first) is

-- ---- a job that runs again

module _ {X : Type 0} (test : Bool) (mark : List ℕ) (go : List ℕ → X) (on : X) where
  pub goes_to_mark : (label : List ℕ) → Some label ≡ cond test (Some mark) None → cond test (go mark) on ≡ go label
  goes_to_mark label is = by test is
    where
      by : (t : Bool) → Some label ≡ cond t (Some mark) None → cond t (go mark) on ≡ go label
      by true h = let same : mark ≡ label = cc in ap go same
      by false h = absurd (cc)

  pub goes_past : None ≡ cond test (Some mark) None → cond test (go mark) on ≡ on
  goes_past is = by test is
    where
      by : (t : Bool) → None ≡ cond t (Some mark) None → cond t (go mark) on ≡ on
      by true h = absurd (cc)
      by false h = refl
