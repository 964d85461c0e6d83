-- What stands in front of the text of a line stays where the text goes on.
use Rattle.std.proofs.Common.{◌≡◌, ◌<◌, ◌≤◌, ◌+◌, ◌==◌, ℕ, suc, Bool, true, false, ◌&&◌, ◌||◌, not, cond, nat_lt, List, [], ◌∷◌, ◌++◌, length, take, drop, get_or, position, Option, None, Some, Result, Ok, Err, arith, refl, sym, ◌∙◌, ap, append_assoc, eqb-true, lt-ltb, length-append, option_map, option_and_then}
use Rattle.std.specs.List.{list_all, list_any, position_or_len}
use Rattle.std.proofs.lemmas.List.Folds.{list_all-append}
use Rattle.std.proofs.lemmas.List.Sums.{split_at_first, passes_at_first}
use Rattle.std.proofs.Math.Seq.{take-append_seam, drop-append-add}
use Rattle.qm_history.specs.Common.{ScriptKind, is_line_byte, LineSort, UserLine}
use Rattle.qm_kinds.specs.declared.script.ScriptKind.TheVariants as wrong
use Rattle.qm_model.specs.Texts.{cut_at, cut_at_blank}
use Rattle.qm_history.specs.Lines.{LineFault, asker_of, is_to_go_on, line_from, line_made, line_of, may_be_of, sort_of, sorted}
use Rattle.qm_script.proofs.Joining.{head_plain, tail_plain}
use Rattle.qm_script.proofs.Parts.{found_at}

abbrev is_blank : ℕ → Bool
is_blank b = b == 32

-- ---- the first blank

place_on : (blank : Bool) (x n : ℕ) → blank ≡ false → cond (not blank) (1 + n) 0 ≡ 1 + n
place_on blank x n plain = rw plain refl

first_blank : (who rest : List ℕ) → list_any is_blank who ≡ false → position_or_len is_blank (who ++ 32 ∷ rest) ≡ length who
first_blank [] rest plain = refl
first_blank (x ∷ who) rest plain =
    place_on (x == 32) x (position_or_len is_blank (who ++ 32 ∷ rest)) (head_plain (x == 32) (list_any is_blank who) plain)
    ∙ ap (λ (n : ℕ). 1 + n) (first_blank who rest (tail_plain (x == 32) (list_any is_blank who) plain)) ∙ omega arith

taken_there : (i n place : ℕ) → i ≡ place → place < n → cond (nat_lt i n) (Some i) None ≡ Some place
taken_there i n place is within = rw (is, lt-ltb place n within) refl

cut_known : (who rest : List ℕ) → list_any is_blank who ≡ false → cut_at_blank (who ++ 32 ∷ rest) ≡ Some (who, rest)
cut_known who rest plain =
    let few : length who < length (who ++ 32 ∷ rest) = simp length-append (omega arith) in
    ap (λ (place : Option ℕ). cut_at place (who ++ 32 ∷ rest)) (taken_there (position_or_len is_blank (who ++ 32 ∷ rest)) (length (who ++ 32 ∷ rest)) (length who) (first_blank who rest plain) few)
    ∙ rw (take-append_seam who (32 ∷ rest), drop-append-add who (32 ∷ rest) 1) refl

either_false : (a b : Bool) → a ≡ false → b ≡ false → (a || b) ≡ false
either_false true b first second = first
either_false false b first second = second

place_of : (passes : Bool) (x : ℕ) (rest : List ℕ) → (x == 32) ≡ passes → position_or_len is_blank (x ∷ rest) ≡ cond (not passes) (1 + position_or_len is_blank rest) 0
place_of passes x rest is = ap (λ (t : Bool). cond (not t) (1 + position_or_len is_blank rest) 0) is

plain_taken : (passes : Bool) (x : ℕ) (rest : List ℕ) → (x == 32) ≡ passes → list_any is_blank (take (position_or_len is_blank rest) rest) ≡ false
    → list_any is_blank (take (position_or_len is_blank (x ∷ rest)) (x ∷ rest)) ≡ false
plain_taken true x rest is plain = ap (λ (n : ℕ). list_any is_blank (take n (x ∷ rest))) (place_of true x rest is)
plain_taken false x rest is plain =
    let place : position_or_len is_blank (x ∷ rest) ≡ suc (position_or_len is_blank rest) = place_of false x rest is ∙ omega arith in
    ap (λ (n : ℕ). list_any is_blank (take n (x ∷ rest))) place ∙ either_false (x == 32) (list_any is_blank (take (position_or_len is_blank rest) rest)) is plain

before_first_blank : (text : List ℕ) → list_any is_blank (take (position_or_len is_blank text) text) ≡ false
before_first_blank [] = refl
before_first_blank (x ∷ rest) = plain_taken (x == 32) x rest refl (before_first_blank rest)

-- ---- a line, and what stands in front of its text

-- the same line with another number and another text
abbrev pub line_with : UserLine → ℕ → List ℕ → UserLine
line_with l number text = record { line = record { number = number; node = l.line.node; sort = l.line.sort; text = text }; user = l.user }

-- the part is a front and the text of a line, and with each text the front is such a line
pub record HasFront (part : List ℕ) (l : UserLine) : Type 0 where
  pub front : List ℕ
  pub whole : part ≡ front ++ l.line.text
  pub always : (number : ℕ) (text : List ℕ) → line_from number (cut_at_blank (front ++ text)) ≡ Some (line_with l number text)

made_is : (n : ℕ) (asker : List ℕ × List ℕ) (s : LineSort) (text : List ℕ) (l : UserLine) → Some l ≡ Some (line_made n asker (s, text)) → l ≡ line_made n asker (s, text)
made_is n asker s text l h = cc

sorted_known : (mark : ℕ) (s : LineSort) (text : List ℕ) → Some s ≡ sort_of mark → sorted (mark ∷ 32 ∷ text) ≡ Some (s, text)
sorted_known mark s text is = rw (← is) refl

module _ (part who : List ℕ) (l : UserLine) (n : ℕ) (plain : list_any is_blank who ≡ false) (asker : List ℕ × List ℕ) (asks : Some asker ≡ asker_of who) where
  always_known : (mark : ℕ) (s : LineSort) (number : ℕ) (text : List ℕ) → Some s ≡ sort_of mark
      → line_from number (cut_at_blank ((who ++ 32 ∷ mark ∷ 32 ∷ []) ++ text)) ≡ Some (line_made number asker (s, text))
  always_known mark s number text is =
      ap (λ (t : List ℕ). line_from number (cut_at_blank t)) (append_assoc who (32 ∷ mark ∷ 32 ∷ []) text)
      ∙ ap (line_from number) (cut_known who (mark ∷ 32 ∷ text) plain)
      ∙ rw (← asks, sorted_known mark s text is) refl

  of_sort : (mark blank : ℕ) (text : List ℕ) (s : Option LineSort) → part ≡ who ++ 32 ∷ mark ∷ blank ∷ text → (blank == 32) ≡ true → s ≡ sort_of mark
      → Some l ≡ option_map (line_made n asker) (option_map (λ (sort : LineSort). (sort, text)) s) → HasFront part l
  of_sort mark blank text None whole blanks is h = absurd (cc)
  of_sort mark blank text (Some s) whole blanks is h =
      let same : l ≡ line_made n asker (s, text) = cc in record {
        front = who ++ 32 ∷ mark ∷ 32 ∷ [];
        whole = whole ∙ ap (λ (b : ℕ). who ++ 32 ∷ mark ∷ b ∷ text) (eqb-true blank 32 blanks) ∙ sym (append_assoc who (32 ∷ mark ∷ 32 ∷ []) text)
            ∙ ap (λ (t : List ℕ). (who ++ 32 ∷ mark ∷ 32 ∷ []) ++ t) (sym (ap (λ (x : UserLine). x.line.text) same));
        always = λ number t. always_known mark s number t is ∙ ap (λ (x : UserLine). Some (line_with x number t)) (sym same);
      }

  of_blank : (mark blank : ℕ) (text : List ℕ) (b : Bool) → part ≡ who ++ 32 ∷ mark ∷ blank ∷ text → (blank == 32) ≡ b
      → Some l ≡ option_map (line_made n asker) (cond b (option_map (λ (sort : LineSort). (sort, text)) (sort_of mark)) None) → HasFront part l
  of_blank mark blank text true whole blanks h = of_sort mark blank text (sort_of mark) whole blanks refl h
  of_blank mark blank text false whole blanks h = absurd (cc)

  of_rest : (rest : List ℕ) → part ≡ who ++ 32 ∷ rest → Some l ≡ option_map (line_made n asker) (sorted rest) → HasFront part l
  of_rest [] whole h = absurd (cc)
  of_rest (mark ∷ []) whole h = absurd (cc)
  of_rest (mark ∷ blank ∷ text) whole h = of_blank mark blank text (blank == 32) whole refl h

of_asker : (part who rest : List ℕ) (l : UserLine) (n : ℕ) (asker : Option (List ℕ × List ℕ)) → list_any is_blank who ≡ false → part ≡ who ++ 32 ∷ rest
    → asker ≡ asker_of who → Some l ≡ option_and_then (λ (a : List ℕ × List ℕ). option_map (line_made n a) (sorted rest)) asker → HasFront part l
of_asker part who rest l n None plain whole asks h = absurd (cc)
of_asker part who rest l n (Some asker) plain whole asks h = of_rest part who l n plain asker asks rest whole h

at_blank : (text : List ℕ) (place : ℕ) → Some place ≡ position is_blank text
    → (text ≡ take place text ++ 32 ∷ drop (place + 1) text) × (list_any is_blank (take place text) ≡ false)
at_blank text place e =
    let at = found_at (position_or_len is_blank text) (length text) place e in
    let is = eqb-true (get_or text (position_or_len is_blank text) 0) 32 (passes_at_first is_blank text 0 at.1) in (
      split_at_first is_blank text 0 at.1 ∙ ap (λ (b : ℕ). take (position_or_len is_blank text) text ++ b ∷ drop (position_or_len is_blank text + 1) text) is
          ∙ ap (λ (p : ℕ). take p text ++ 32 ∷ drop (p + 1) text) (sym at.0),
      rw at.0 (before_first_blank text),
    )

of_place : (part : List ℕ) (l : UserLine) (n : ℕ) (place : Option ℕ) → place ≡ position is_blank part → Some l ≡ line_from n (cut_at place part) → HasFront part l
of_place part l n None is h = absurd (cc)
of_place part l n (Some place) is h =
    let at = at_blank part place is in
    of_asker part (take place part) (drop (place + 1) part) l n (asker_of (take place part)) at.1 at.0 refl h

pub has_front : (part : List ℕ) (l : UserLine) (n : ℕ) → Some l ≡ line_from n (cut_at_blank part) → HasFront part l
has_front part l n h = of_place part l n (position is_blank part) refl h

-- ---- a text that is no line is none under each number

none_sorted : (n m : ℕ) (asker : List ℕ × List ℕ) (rest : Option (LineSort × List ℕ)) → None ≡ option_map (line_made n asker) rest → None ≡ option_map (line_made m asker) rest
none_sorted n m asker None h = refl
none_sorted n m asker (Some rest) h = absurd (cc)

none_asked : (n m : ℕ) (asker : Option (List ℕ × List ℕ)) (rest : Option (LineSort × List ℕ))
    → None ≡ option_and_then (λ (a : List ℕ × List ℕ). option_map (line_made n a) rest) asker
    → None ≡ option_and_then (λ (a : List ℕ × List ℕ). option_map (line_made m a) rest) asker
none_asked n m None rest h = refl
none_asked n m (Some asker) rest h = none_sorted n m asker rest h

pub none_always : (n m : ℕ) (parts : Option (List ℕ × List ℕ)) → None ≡ line_from n parts → None ≡ line_from m parts
none_always n m None h = refl
none_always n m (Some parts) h = none_asked n m (asker_of parts.0) (sorted parts.1) h

-- ---- the line of a front and a text

pub line_is : (names : Option (List (List ℕ))) (number : ℕ) (l : UserLine) (front text : List ℕ)
    → ((n : ℕ) (t : List ℕ) → line_from n (cut_at_blank (front ++ t)) ≡ Some (line_with l n t))
    → line_of names number (front ++ text)
    ≡ cond (list_all is_line_byte front && list_all is_line_byte text)
    (cond (may_be_of names l.line.node) (Ok (line_with l number text)) (Err (record { line = number; kind = wrong.Node })))
    (Err (record { line = number; kind = wrong.Byte }))
line_is names number l front text always = rw (list_all-append is_line_byte front text, always number text) refl
