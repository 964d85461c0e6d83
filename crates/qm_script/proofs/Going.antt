-- How far the text of a command goes.
use Rattle.std.proofs.Common.{◌≡◌, ◌<◌, ◌≤◌, ◌+◌, ◌-◌, ◌==◌, ℕ, Bool, true, false, nat_eq, List, [], ◌∷◌, ◌++◌, length, take, drop, position, Option, None, Some, Result, arith, refl, sym, ◌∙◌, ap, append_assoc, append-nil, length-append, length-take-le}
use Rattle.std.specs.List.{list_any, position_or_len, ends_with}
use Rattle.std.proofs.Math.Seq.{take-append-add, drop-append-add}
use Rattle.qm_history.specs.Lines.{lines_from, without_last}
use Rattle.qm_script.specs.Extents.{is_feed, joined, lines_with, parts_of}
use Rattle.qm_script.proofs.Joining.{JoinsOn, at_feed, before_feed, break_joins, drop_seam, ends_in_dash, joined_ended, joined_plain, no_feed, parts_cut, parts_whole, plain_front, text_cut, text_ends, text_goes_on, without_last_behind}
use Rattle.qm_script.proofs.Parts.{found_at, rest_of}

-- ---- a line of the text ends at a place behind the front

module _ (front behind : List ℕ) (place : ℕ) (found : Some place ≡ position is_feed behind) where
  abbrev part : List ℕ
  part = take place behind

  abbrev rest : List ℕ
  rest = drop (place + 1) behind

  pub within : place < length behind
  within = let at = found_at (position_or_len is_feed behind) (length behind) place found in omega (arith, at.0, at.1)

  part_long : length part ≡ place
  part_long = length-take-le place behind (omega (arith, within))

  cut : parts_of behind ≡ part ∷ parts_of rest
  cut = ap parts_of (at_feed behind place found) ∙ parts_cut part rest (before_feed behind place found)

  -- the script behind the line
  pub whole_part : front ++ behind ≡ (front ++ part) ++ 10 ∷ rest
  whole_part = ap (λ (b : List ℕ). front ++ b) (at_feed behind place found) ∙ sym (append_assoc front part (10 ∷ rest))

  pub front_long : length (front ++ part) ≡ length front + place
  front_long = length-append front part ∙ ap (λ (n : ℕ). length front + n) part_long

  -- it goes on
  module _ (goes : ends_with nat_eq part (45 ∷ []) ≡ true) where
    abbrev pub longer : List ℕ
    longer = (front ++ without_last part) ++ 45 ∷ 10 ∷ []

    dashed : part ≡ without_last part ++ 45 ∷ []
    dashed = ends_in_dash part goes

    pub whole_longer : front ++ behind ≡ longer ++ rest
    whole_longer =
        whole_part ∙ ap (λ (p : List ℕ). (front ++ p) ++ 10 ∷ rest) dashed ∙ simp append_assoc

    pub longer_long : length longer ≡ length front + place + 1
    longer_long =
        let dash = ap length dashed in
        let parted = length-append (without_last part) (45 ∷ []) in
        let all = length-append (front ++ without_last part) (45 ∷ 10 ∷ []) in
        let both = length-append front (without_last part) in omega (arith, dash, parted, all, both, part_long)

    pub joins_longer : JoinsOn longer
    joins_longer = break_joins (front ++ without_last part)

    module _ (joins : JoinsOn front) where
      plain_part : list_any is_feed (without_last part) ≡ false
      plain_part = plain_front (without_last part) (45 ∷ []) (ap (list_any is_feed) (sym dashed) ∙ before_feed behind place found)

      joined_longer : joined longer ≡ joined front ++ without_last part
      joined_longer =
          joined_ended (front ++ without_last part) ∙ joins (without_last part)
          ∙ ap (λ (t : List ℕ). joined front ++ t) (joined_plain (without_last part) plain_part)

      begun_longer : (begun : List ℕ) → without_last ((begun ++ joined front) ++ part) ≡ begun ++ joined longer
      begun_longer begun =
          ap (λ (p : List ℕ). without_last ((begun ++ joined front) ++ p)) dashed
          ∙ ap without_last (sym (append_assoc (begun ++ joined front) (without_last part) (45 ∷ [])))
          ∙ without_last_behind (begun ++ joined front) (without_last part)
          ∙ append_assoc begun (joined front) (without_last part)
          ∙ ap (λ (t : List ℕ). begun ++ t) (sym joined_longer)

      pub goes_longer : (names : Option (List (List ℕ))) (number at : ℕ) (begun : List ℕ)
          → lines_from names (Some (number, begun ++ joined front)) at (parts_of behind) ≡ lines_from names (Some (number, begun ++ joined longer)) (at + 1) (parts_of rest)
      goes_longer names number at begun =
          text_goes_on names number at (begun ++ joined front) behind part rest cut goes
          ∙ ap (λ (t : List ℕ). lines_from names (Some (number, t)) (at + 1) (parts_of rest)) (begun_longer begun)

  -- it ends
  pub ends_there : JoinsOn front → ends_with nat_eq part (45 ∷ []) ≡ false → (names : Option (List (List ℕ))) (number at : ℕ) (begun : List ℕ)
      → lines_from names (Some (number, begun ++ joined front)) at (parts_of behind) ≡ lines_with names number (begun ++ joined (front ++ part)) (at + 1) true rest
  ends_there joins goes names number at begun =
      text_ends names number at (begun ++ joined front) behind part rest cut goes
      ∙ ap (λ (t : List ℕ). lines_with names number t (at + 1) true rest)
      (append_assoc begun (joined front) part
      ∙ ap (λ (t : List ℕ). begun ++ t) (ap (λ (p : List ℕ). joined front ++ p) (sym (joined_plain part (before_feed behind place found))) ∙ sym (joins part)))

-- ---- the script ends within the text

pub ends_never : (front behind rest : List ℕ) → None ≡ position is_feed behind → JoinsOn front → (names : Option (List (List ℕ))) (number at after : ℕ) (begun : List ℕ)
    → lines_from names (Some (number, begun ++ joined front)) at (parts_of behind) ≡ lines_with names number (begun ++ joined (front ++ behind)) after false rest
ends_never front behind rest none joins names number at after begun =
    let plain = no_feed behind none in
    text_cut names number at after (begun ++ joined front) behind rest (parts_whole behind plain)
    ∙ ap (λ (t : List ℕ). lines_with names number t after false rest)
    (append_assoc begun (joined front) behind
    ∙ ap (λ (t : List ℕ). begun ++ t) (ap (λ (p : List ℕ). joined front ++ p) (sym (joined_plain behind plain)) ∙ sym (joins behind)))

-- ---- the pieces of a script by their places

module _ (script front behind : List ℕ) (at : ℕ) (whole : script ≡ front ++ behind) (at_is : at ≡ length front) where
  pub behind_is : take (length script - at) (drop at script) ≡ behind
  behind_is = rest_of script at ∙ ap (λ (n : ℕ). drop n script) at_is ∙ ap (drop (length front)) whole ∙ drop_seam front behind

  pub part_is : (place : ℕ) → take (at + place - at) (drop at script) ≡ take place behind
  part_is place =
      ap (λ (n : ℕ). take n (drop at script)) (omega arith) ∙ ap (λ (n : ℕ). take place (drop n script)) at_is
      ∙ ap (λ (s : List ℕ). take place (drop (length front) s)) whole ∙ ap (take place) (drop_seam front behind)

  pub taken_is : (place : ℕ) → take (at + place) script ≡ front ++ take place behind
  taken_is place = ap (λ (n : ℕ). take (n + place) script) at_is ∙ ap (take (length front + place)) whole ∙ take-append-add front behind place

  pub rest_is : (place : ℕ) → take (length script - (at + place + 1)) (drop (at + place + 1) script) ≡ drop (place + 1) behind
  rest_is place =
      rest_of script (at + place + 1) ∙ ap (λ (n : ℕ). drop (n + place + 1) script) at_is ∙ ap (drop (length front + place + 1)) whole
      ∙ ap (λ (n : ℕ). drop n (front ++ behind)) (omega arith) ∙ drop-append-add front behind (place + 1)

-- in front of the text nothing has gone on
pub goes_at_first : (script : List ℕ) (names : Option (List (List ℕ))) (number at : ℕ) (begun : List ℕ)
    → lines_from names (Some (number, begun)) at (parts_of script) ≡ lines_from names (Some (number, begun ++ joined [])) (at + 0) (parts_of script)
goes_at_first script names number at begun =
    ap (λ (t : List ℕ). lines_from names (Some (number, t)) at (parts_of script)) (sym (append-nil begun))
    ∙ ap (λ (k : ℕ). lines_from names (Some (number, begun ++ [])) k (parts_of script)) (omega arith)
