-- What the first line of a script is, by what was found of it.
use Rattle.std.proofs.Common.{◌≡◌, ◌<◌, ◌≤◌, ◌+◌, ◌-◌, ◌==◌, ℕ, Bool, true, false, ◌&&◌, cond, List, [], ◌∷◌, ◌++◌, length, take, drop, Option, None, Some, Result, Ok, Err, arith, refl, sym, ◌∙◌, ap, subst, length-append}
use Rattle.std.specs.List.{list_all, list_any}
use Rattle.qm_history.specs.Common.{ScriptKind, is_line_byte, cut_at_blank, LineSort, UserLine}
use Rattle.qm_kinds.specs.declared.script.ScriptKind.TheVariants as wrong
use Rattle.qm_history.specs.Lines.{LineFault, line_from, line_of, lines_from, may_be_of}
use Rattle.qm_script.specs.declared.extent.Extent.{Extent}
use Rattle.qm_script.specs.ClusterLines.{whole}
use Rattle.qm_script.specs.Heads.{behind_lines}
use Rattle.qm_script.specs.Extents.{CutsFirst, IsFirstLine, IsTextOf, is_feed, joined, lines_with, parts_of}
use Rattle.qm_script.proofs.Fronts.{HasFront, has_front, line_with}
use Rattle.qm_script.proofs.Parts.{rest_of}
use Rattle.qm_script.proofs.Taking.{behind_one, front_of, line_begun, no_line, right_line, same_bytes, tail_of, with_end, with_fault, with_line, wrong_byte, wrong_node}

-- ---- how much is left behind a first line

within_of : (script text rest : List ℕ) (ended : Bool) → CutsFirst script text ended rest → cond ended 1 0 + length rest ≤ length script
within_of script text rest true cut = let all = ap length cut.1 ∙ length-append text (10 ∷ rest) in omega (arith, all)
within_of script text rest false cut = let none = ap length cut.2 in omega (arith, none)

pub cut_within : (script text rest : List ℕ) (ended : Bool) (lines : ℕ) → CutsFirst script text ended rest → lines ≡ cond ended 1 0 → lines + length rest ≤ length script
cut_within script text rest ended lines cut is = rw is (within_of script text rest ended cut)

less_of : (script text rest : List ℕ) (ended : Bool) → CutsFirst script text ended rest → ended ≡ true → length rest < length script
less_of script text rest true cut is = let all = ap length cut.1 ∙ length-append text (10 ∷ rest) in omega (arith, all)
less_of script text rest false cut is = absurd (cc)

pub cut_less : (script text rest : List ℕ) (ended : Bool) → CutsFirst script text ended rest → ended ≡ true → length rest < length script
cut_less script text rest ended cut is = less_of script text rest ended cut is

no_feed_in : (script text rest : List ℕ) (ended : Bool) → CutsFirst script text ended rest → list_any is_feed text ≡ false
no_feed_in script text rest true cut = cut.0
no_feed_in script text rest false cut = cut.0

within_first : (script text rest : List ℕ) (ended : Bool) → CutsFirst script text ended rest → length text ≤ length script
within_first script text rest true cut = let all = ap length cut.1 ∙ length-append text (10 ∷ rest) in omega (arith, all)
within_first script text rest false cut = let all = ap length cut.1 in omega (arith, all)

pub first_within : (script : List ℕ) (first : Extent) → IsFirstLine script first → length first.text.now ≤ length script
first_within script first is = within_first script first.text.now first.rest.now first.is_ended is.0

pub head_within : (part : List ℕ) (l : UserLine) → Some l ≡ line_from 0 (cut_at_blank part) → length l.line.text ≤ length part
head_within part l head =
    let parted = has_front part l 0 head in
    let all = ap length parted.whole ∙ length-append parted.front l.line.text in omega (arith, all)

-- ---- no line

abbrev pub wrong_at : ℕ → ScriptKind → Result (List UserLine) LineFault
wrong_at number kind = Err (record { line = number; kind = kind })

pub exit_headless : (names : Option (List (List ℕ))) (number : ℕ) (script : List ℕ) (first : Extent) → IsFirstLine script first → 0 < length first.text.now
    → None ≡ line_from 0 (cut_at_blank first.text.now) → (kind : ScriptKind) → kind ≡ cond (list_all is_line_byte first.text.now) wrong.Form wrong.Byte
    → lines_from names None number (parts_of script) ≡ Err (record { line = number; kind = kind })
exit_headless names number script first is full none kind kind_is =
    no_line names number script first.text.now first.rest.now first.is_ended is.0 full none ∙ ap (wrong_at number) (sym kind_is)

-- ---- a line with a front

module _ (names : Option (List (List ℕ))) (number : ℕ) (script : List ℕ) (first : Extent) (l : UserLine) (front : ℕ) (is : IsFirstLine script first)
    (full : 0 < length first.text.now) (head : Some l ≡ line_from 0 (cut_at_blank first.text.now)) (at : front ≡ length first.text.now - length l.line.text) where
  parted : HasFront first.text.now l
  parted = has_front first.text.now l 0 head

  front_at : front ≡ length parted.front
  front_at = let all = ap length parted.whole ∙ length-append parted.front l.line.text in omega (arith, at, all)

  -- the text is in the script behind the front
  pub text_begins : CutsFirst (take (length script - front) (drop front script)) l.line.text first.is_ended first.rest.now
  text_begins =
      subst (λ (s : List ℕ). CutsFirst s l.line.text first.is_ended first.rest.now)
      (ap (λ (n : ℕ). drop n script) (sym front_at) ∙ sym (rest_of script front))
      (tail_of script first.text.now first.rest.now parted.front l.line.text first.is_ended is.0 parted.whole)

  pub front_within : front ≤ length first.text.now
  front_within = omega (arith, at)

  before : take front script ≡ parted.front
  before = ap (λ (n : ℕ). take n script) front_at ∙ front_of script first.text.now first.rest.now parted.front l.line.text first.is_ended is.0 parted.whole

  module _ (x : Extent) (goes : IsTextOf l.line.sort (take (length script - front) (drop front script)) first l.line.text x)
      (p m : Bool) (p_is : p ≡ (list_all is_line_byte (take front script) && list_all is_line_byte (joined x.text.now))) (m_is : m ≡ may_be_of names l.line.node) where
    begun : lines_from names None number (parts_of script) ≡ lines_with names number (parted.front ++ whole l.line.sort x.text.now) (number + x.lines) x.is_ended x.rest.now
    begun =
        line_begun names number script (take (length script - front) (drop front script)) first.text.now first.rest.now parted.front l.line.text first x
        is.0 text_begins full parted.whole refl is.1 l head refl goes

    bytes : (list_all is_line_byte parted.front && list_all is_line_byte (whole l.line.sort x.text.now)) ≡ p
    bytes =
        let behind = same_bytes l.line.sort (take (length script - front) (drop front script)) first l.line.text x (no_feed_in (take (length script - front) (drop front script)) l.line.text first.rest.now first.is_ended text_begins) goes in
        rw (p_is, before, behind) refl

    pub exit_byte : p ≡ false → lines_from names None number (parts_of script) ≡ wrong_at number wrong.Byte
    exit_byte bad =
        begun ∙ with_fault names number (parted.front ++ whole l.line.sort x.text.now) (number + x.lines) x.is_ended x.rest.now _
        (wrong_byte names number l parted.front (whole l.line.sort x.text.now) parted.always (bytes ∙ bad))

    pub exit_node : p ≡ true → m ≡ false → lines_from names None number (parts_of script) ≡ wrong_at number wrong.Node
    exit_node good not_there =
        begun ∙ with_fault names number (parted.front ++ whole l.line.sort x.text.now) (number + x.lines) x.is_ended x.rest.now _
        (wrong_node names number l parted.front (whole l.line.sort x.text.now) parted.always (bytes ∙ good) (sym m_is ∙ not_there))

    line : p ≡ true → m ≡ true → line_of names number (parted.front ++ whole l.line.sort x.text.now) ≡ Ok (line_with l number (whole l.line.sort x.text.now))
    line good there = right_line names number l parted.front (whole l.line.sort x.text.now) parted.always (bytes ∙ good) (sym m_is ∙ there)

    pub exit_end : p ≡ true → m ≡ true → x.is_ended ≡ false → lines_from names None number (parts_of script) ≡ wrong_at number wrong.End
    exit_end good there open_end =
        begun ∙ ap (λ (e : Bool). lines_with names number (parted.front ++ whole l.line.sort x.text.now) (number + x.lines) e x.rest.now) open_end
        ∙ with_end names number (parted.front ++ whole l.line.sort x.text.now) (number + x.lines) x.rest.now (line_with l number (whole l.line.sort x.text.now)) (line good there)

    pub exit_line : p ≡ true → m ≡ true → x.is_ended ≡ true
        → lines_from names None number (parts_of script) ≡ behind_lines (line_with l number (whole l.line.sort x.text.now) ∷ []) (lines_from names None (number + x.lines) (parts_of x.rest.now))
    exit_line good there ended =
        begun ∙ ap (λ (e : Bool). lines_with names number (parted.front ++ whole l.line.sort x.text.now) (number + x.lines) e x.rest.now) ended
        ∙ with_line names number (parted.front ++ whole l.line.sort x.text.now) (number + x.lines) x.rest.now (line_with l number (whole l.line.sort x.text.now)) (line good there)
        ∙ behind_one (line_with l number (whole l.line.sort x.text.now)) (lines_from names None (number + x.lines) (parts_of x.rest.now))
