-- The first line of a script, or what is wrong there.
use Rattle.std.proofs.Common.{◌≡◌, ◌<◌, ◌+◌, ◌==◌, ℕ, Bool, true, false, ◌&&◌, cond, if◌then◌else◌, List, [], ◌∷◌, ◌++◌, length, take, drop, Option, None, Some, Result, Ok, Err, arith, refl, sym, ◌∙◌, ap, append_assoc, append-nil, ne_eqb, option_to_list, option_map}
use Rattle.std.specs.List.{list_all, list_any}
use Rattle.std.proofs.lemmas.List.{map-append}
use Rattle.std.proofs.Math.Seq.{take-append_seam}
use Rattle.qm_history.specs.Common.{ScriptKind, is_line_byte, cut_at_blank}
use Rattle.qm_kinds.specs.declared.script.ScriptKind.TheVariants as wrong
use Rattle.qm_history.specs.Lines.{LineFault, cut_short, ends_open, goes_on, line_from, line_of, lines_from, may_be_of, one_more}
use Rattle.qm_history.specs.Script.{LineSort, Command, Items, Act, UserLine}
use Rattle.qm_script.specs.declared.extent.Extent.{Extent}
use Rattle.qm_script.specs.declared.lines.UserLine.{UserLine as Line}
use Rattle.qm_script.specs.Heads.{behind_lines}
use Rattle.qm_script.specs.ClusterLines.{user_line_view, user_lines_view, whole}
use Rattle.qm_script.specs.Extents.{CutsFirst, IsTextOf, is_feed, joined, lines_with, parts_of}
use Rattle.qm_script.proofs.Fronts.{line_with, line_is, none_always}
use Rattle.qm_script.proofs.Joining.{drop_seam, joined_plain, parts_cut, parts_whole, plain_behind}
use Rattle.qm_script.proofs.Parts.{some_part}

some_bytes : (text : List ℕ) → 0 < length text → (length text == 0) ≡ false
some_bytes text full = ne_eqb (length text) 0 (omega (arith, full))

-- ---- the parts of a script

pub first_part : (script part rest : List ℕ) → CutsFirst script part true rest → parts_of script ≡ part ∷ parts_of rest
first_part script part rest cut = ap parts_of cut.1 ∙ parts_cut part rest cut.0

pub only_part : (script part rest : List ℕ) → CutsFirst script part false rest → parts_of script ≡ part ∷ []
only_part script part rest cut = ap parts_of cut.1 ∙ parts_whole part cut.0

-- ---- a part that doesn't go on is a line, if it is the last or not

pub part_alone : (names : Option (List (List ℕ))) (number : ℕ) (script part rest : List ℕ) (ended : Bool) → CutsFirst script part ended rest
    → 0 < length part → goes_on part ≡ false
    → lines_from names None number (parts_of script) ≡ lines_with names number part (number + cond ended 1 0) ended rest
part_alone names number script part rest true cut full goes =
    let parts = some_part rest in rw (first_part script part rest cut, parts.2, some_bytes part full, goes) refl
part_alone names number script part rest false cut full goes = rw (only_part script part rest cut, some_bytes part full) refl

-- a command that may go on
pub part_begun : (names : Option (List (List ℕ))) (number : ℕ) (script tail part rest front text : List ℕ) (ended : Bool) → CutsFirst script part ended rest
    → CutsFirst tail text ended rest → 0 < length part → goes_on part ≡ ends_open Command text → part ≡ front ++ text
    → lines_from names None number (parts_of script) ≡ lines_from names (Some (number, front)) number (parts_of tail)
part_begun names number script tail part rest front text true cut cut_tail full goes whole =
    let parts = some_part rest in
    rw (first_part script part rest cut, first_part tail text rest cut_tail, parts.2, some_bytes part full, goes, whole) refl
part_begun names number script tail part rest front text false cut cut_tail full goes whole =
    rw (only_part script part rest cut, only_part tail text rest cut_tail, some_bytes part full, whole) refl

-- ---- a line that is at fault, or isn't

pub with_fault : (names : Option (List (List ℕ))) (number : ℕ) (text : List ℕ) (behind : ℕ) (ended : Bool) (rest : List ℕ) (f : LineFault)
    → line_of names number text ≡ Err f → lines_with names number text behind ended rest ≡ Err f
with_fault names number text behind true rest f is = rw is refl
with_fault names number text behind false rest f is = rw is refl

pub with_line : (names : Option (List (List ℕ))) (number : ℕ) (text : List ℕ) (behind : ℕ) (rest : List ℕ) (l : UserLine)
    → line_of names number text ≡ Ok l → lines_with names number text behind true rest ≡ one_more (Ok l) (lines_from names None behind (parts_of rest))
with_line names number text behind rest l is = rw is refl

pub with_end : (names : Option (List (List ℕ))) (number : ℕ) (text : List ℕ) (behind : ℕ) (rest : List ℕ) (l : UserLine)
    → line_of names number text ≡ Ok l → lines_with names number text behind false rest ≡ Err (record { line = number; kind = wrong.End })
with_end names number text behind rest l is = rw is refl

-- ---- a part that is no line

abbrev pub err : ℕ → ScriptKind → Result UserLine LineFault
err number kind = Err (record { line = number; kind = kind })

kind_of : (number : ℕ) (bytes : Bool) → cond bytes (err number wrong.Form) (err number wrong.Byte) ≡ err number (cond bytes wrong.Form wrong.Byte)
kind_of number true = refl
kind_of number false = refl

goes_nowhere : (part : List ℕ) → None ≡ line_from 0 (cut_at_blank part) → goes_on part ≡ false
goes_nowhere part none = rw (← none) refl

pub no_line : (names : Option (List (List ℕ))) (number : ℕ) (script part rest : List ℕ) (ended : Bool) → CutsFirst script part ended rest
    → 0 < length part → None ≡ line_from 0 (cut_at_blank part)
    → lines_from names None number (parts_of script) ≡ Err (record { line = number; kind = cond (list_all is_line_byte part) wrong.Form wrong.Byte })
no_line names number script part rest ended cut full none =
    part_alone names number script part rest ended cut full (goes_nowhere part none)
    ∙ with_fault names number part (number + cond ended 1 0) ended rest _
    (rw (← none_always 0 number (cut_at_blank part) none) (kind_of number (list_all is_line_byte part)))

-- ---- a part that is a line

-- a text that doesn't go on is joined as it stands
pub same_bytes : (sort : LineSort) (tail : List ℕ) (first : Extent) (text : List ℕ) (x : Extent) → list_any is_feed text ≡ false
    → IsTextOf sort tail first text x → joined x.text.now ≡ whole sort x.text.now
same_bytes Command tail first text x plain is = refl
same_bytes Items tail first text x plain is = joined_plain x.text.now (ap (list_any is_feed) is.0 ∙ plain)
same_bytes Act tail first text x plain is = joined_plain x.text.now (ap (list_any is_feed) is.0 ∙ plain)

same_extent : (names : Option (List (List ℕ))) (number : ℕ) (front text rest : List ℕ) (ended : Bool) (first x : Extent)
    → first.rest.now ≡ rest → first.is_ended ≡ ended → first.lines ≡ cond first.is_ended 1 0
    → x.text.now ≡ text → x.rest.now ≡ first.rest.now → x.lines ≡ first.lines → x.is_ended ≡ first.is_ended
    → lines_with names number (front ++ text) (number + cond ended 1 0) ended rest ≡ lines_with names number (front ++ x.text.now) (number + x.lines) x.is_ended x.rest.now
same_extent names number front text rest ended first x rest_is ended_is lines_is text_at rest_at lines_at ended_at =
    rw (text_at, rest_at, lines_at, ended_at, lines_is, rest_is, ended_is) refl

module _ (names : Option (List (List ℕ))) (number : ℕ) (script tail part rest front text : List ℕ) (first x : Extent)
    (cut : CutsFirst script part first.is_ended rest) (cut_tail : CutsFirst tail text first.is_ended rest) (full : 0 < length part)
    (cuts : part ≡ front ++ text) (rest_is : first.rest.now ≡ rest) (lines_is : first.lines ≡ cond first.is_ended 1 0) where
  whole_line : (sort : LineSort) → goes_on part ≡ ends_open sort text → IsTextOf sort tail first text x
      → lines_from names None number (parts_of script) ≡ lines_with names number (front ++ whole sort x.text.now) (number + x.lines) x.is_ended x.rest.now
  whole_line Command goes is = part_begun names number script tail part rest front text first.is_ended cut cut_tail full goes cuts ∙ is names number number front
  whole_line Items goes is =
      part_alone names number script part rest first.is_ended cut full goes
      ∙ ap (λ (t : List ℕ). lines_with names number t (number + cond first.is_ended 1 0) first.is_ended rest) cuts
      ∙ same_extent names number front text rest first.is_ended first x rest_is refl lines_is is.0 is.1 is.2 is.3
  whole_line Act goes is =
      part_alone names number script part rest first.is_ended cut full goes
      ∙ ap (λ (t : List ℕ). lines_with names number t (number + cond first.is_ended 1 0) first.is_ended rest) cuts
      ∙ same_extent names number front text rest first.is_ended first x rest_is refl lines_is is.0 is.1 is.2 is.3

  pub line_begun : (l : UserLine) → Some l ≡ line_from 0 (cut_at_blank part) → text ≡ l.line.text → IsTextOf l.line.sort tail first text x
      → lines_from names None number (parts_of script) ≡ lines_with names number (front ++ whole l.line.sort x.text.now) (number + x.lines) x.is_ended x.rest.now
  line_begun l is text_is goes = whole_line l.line.sort (rw (← is, text_is) refl) goes

-- ---- what the line is

module _ (names : Option (List (List ℕ))) (number : ℕ) (l : UserLine) (front text : List ℕ)
    (always : (n : ℕ) (t : List ℕ) → line_from n (cut_at_blank (front ++ t)) ≡ Some (line_with l n t)) where
  pub wrong_byte : (list_all is_line_byte front && list_all is_line_byte text) ≡ false → line_of names number (front ++ text) ≡ err number wrong.Byte
  wrong_byte bytes = line_is names number l front text always ∙ rw bytes refl

  pub wrong_node : (list_all is_line_byte front && list_all is_line_byte text) ≡ true → may_be_of names l.line.node ≡ false
      → line_of names number (front ++ text) ≡ err number wrong.Node
  wrong_node bytes node = line_is names number l front text always ∙ rw (bytes, node) refl

  pub right_line : (list_all is_line_byte front && list_all is_line_byte text) ≡ true → may_be_of names l.line.node ≡ true
      → line_of names number (front ++ text) ≡ Ok (line_with l number text)
  right_line bytes node = line_is names number l front text always ∙ rw (bytes, node) refl

-- ---- the tail of a script behind a front

pub tail_of : (script part rest front text : List ℕ) (ended : Bool) → CutsFirst script part ended rest → part ≡ front ++ text
    → CutsFirst (drop (length front) script) text ended rest
tail_of script part rest front text true cut cuts = (
  plain_behind front text (ap (list_any is_feed) (sym cuts) ∙ cut.0),
  ap (drop (length front)) (cut.1 ∙ ap (λ (p : List ℕ). p ++ 10 ∷ rest) cuts ∙ append_assoc front text (10 ∷ rest)) ∙ drop_seam front (text ++ 10 ∷ rest),
)
tail_of script part rest front text false cut cuts = (
  plain_behind front text (ap (list_any is_feed) (sym cuts) ∙ cut.0),
  ap (drop (length front)) (cut.1 ∙ cuts) ∙ drop_seam front text,
  cut.2,
)

pub front_of : (script part rest front text : List ℕ) (ended : Bool) → CutsFirst script part ended rest → part ≡ front ++ text
    → take (length front) script ≡ front
front_of script part rest front text true cut cuts =
    ap (take (length front)) (cut.1 ∙ ap (λ (p : List ℕ). p ++ 10 ∷ rest) cuts ∙ append_assoc front text (10 ∷ rest)) ∙ take-append_seam front (text ++ 10 ∷ rest)
front_of script part rest front text false cut cuts = ap (take (length front)) (cut.1 ∙ cuts) ∙ take-append_seam front text

-- ---- lines so far, and those of the rest

abbrev pub ok : List UserLine → Result (List UserLine) LineFault
ok lines = Ok lines

pub behind_more : (front lines : List UserLine) (others : Result (List UserLine) LineFault) → behind_lines (front ++ lines) others ≡ behind_lines front (behind_lines lines others)
behind_more front lines (Ok others) = ap (λ (all : List UserLine). ok all) (append_assoc front lines others)
behind_more front lines (Err f) = refl

pub behind_none : (others : Result (List UserLine) LineFault) → behind_lines [] others ≡ others
behind_none (Ok others) = refl
behind_none (Err f) = refl

pub behind_one : (l : UserLine) (others : Result (List UserLine) LineFault) → one_more (Ok l) others ≡ behind_lines (l ∷ []) others
behind_one l (Ok others) = refl
behind_one l (Err f) = refl

-- an empty line
pub line_skipped : (names : Option (List (List ℕ))) (number lines : ℕ) (script text rest : List ℕ) (ended : Bool) → CutsFirst script text ended rest → 0 < length script
    → length text ≡ 0 → lines ≡ cond ended 1 0
    → lines_from names None number (parts_of script) ≡ behind_lines [] (lines_from names None (number + lines) (parts_of rest))
line_skipped names number lines script [] rest true cut some empty is =
    let parts = some_part rest in
    let step : lines_from names None number (parts_of script) ≡ lines_from names None (number + 1) (parts_of rest) = rw (first_part script [] rest cut, parts.2) refl in
    step ∙ sym (behind_none (lines_from names None (number + 1) (parts_of rest))) ∙ ap (λ (n : ℕ). behind_lines [] (lines_from names None (number + n) (parts_of rest))) (sym is)
line_skipped names number lines script [] rest false cut some empty is = let none = ap length cut.1 in absurd (omega (arith, none, some))
line_skipped names number lines script (b ∷ text) rest ended cut some empty is = absurd (omega (arith, empty))

module _ (names : Option (List (List ℕ))) (number : ℕ) (rest : List ℕ) (front : List UserLine) (all : Result (List UserLine) LineFault)
    (so_far : behind_lines front (lines_from names None number (parts_of rest)) ≡ all) where
  pub lines_taken : (lines : List UserLine) (next : ℕ) (behind : List ℕ)
      → lines_from names None number (parts_of rest) ≡ behind_lines lines (lines_from names None next (parts_of behind))
      → behind_lines (front ++ lines) (lines_from names None next (parts_of behind)) ≡ all
  lines_taken lines next behind is = behind_more front lines (lines_from names None next (parts_of behind)) ∙ ap (behind_lines front) (sym is) ∙ so_far

  pub line_wrong : (f : LineFault) → lines_from names None number (parts_of rest) ≡ Err f → all ≡ Err f
  line_wrong f is = sym so_far ∙ ap (behind_lines front) is

  pub all_read : lines_from names None number (parts_of rest) ≡ Ok [] → all ≡ Ok front
  all_read none = sym so_far ∙ ap (behind_lines front) none ∙ ap (λ (lines : List UserLine). ok lines) (append-nil front)

-- no line was put behind those so far
pub none_put : (now : Bool) (lines : List Line) (line : Option Line) (so_far : List UserLine) → line ≡ None → (now ≡ true → user_lines_view lines ≡ so_far)
    → now ≡ true → user_lines_view lines ≡ so_far ++ option_to_list (option_map user_line_view line)
none_put now lines line so_far none all e =
    all e ∙ sym (append-nil so_far) ∙ ap (λ (o : Option Line). so_far ++ option_to_list (option_map user_line_view o)) (sym none)

-- one was, if all of them were
pub some_put : (before put now : Bool) (lines more : List Line) (line : Option Line) (l : Line) (so_far : List UserLine) → line ≡ Some l → now ≡ (before && put)
    → more ≡ (if put then lines ++ l ∷ [] else lines) → (before ≡ true → user_lines_view lines ≡ so_far)
    → now ≡ true → user_lines_view more ≡ so_far ++ option_to_list (option_map user_line_view line)
some_put true true now lines more line l so_far some is more_is all e =
    rw (more_is, map-append) (ap (λ (front : List UserLine). front ++ user_line_view l ∷ []) (all refl))
    ∙ ap (λ (o : Option Line). so_far ++ option_to_list (option_map user_line_view o)) (sym some)
some_put true false now lines more line l so_far some is more_is all e = cc
some_put false put now lines more line l so_far some is more_is all e = cc
