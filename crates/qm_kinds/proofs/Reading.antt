-- What is read as a name or a pattern is one.
use Rattle.std.proofs.Common.{◌≡◌, ◌<◌, ◌≤◌, ◌+◌, ◌++◌, [], ◌∷◌, take, set, ℕ, Bool, true, false, not, cond, List, map, length, position, Option, None, Some, Ok, arith, sym, ◌∙◌, ap, get_or, nat_lt}
use Rattle.std.specs.List.{list_all, position_or_len, AllPass}
use Rattle.std.specs.Char.{to_ascii_uppercase}
use Rattle.std.proofs.lemmas.List.Sums.{fails_before_first, list_all-from_AllPass}
use Rattle.std.proofs.lemmas.List.Folds.{list_all-map}
use Rattle.std.proofs.lemmas.List.{length-map, take_more_set, take_more, map-append, length-set}
use Rattle.std.proofs.lemmas.Bool.Decides.{nat_tests}
use Rattle.qm_kinds.specs.Text.{IsText, text_unless, raised_unless}

not_false : (b : Bool) → not b ≡ false → b ≡ true
not_false b h = grind arith

none_is_late : (i n : ℕ) → cond (nat_lt i n) (Some i) None ≡ None → n ≤ i
none_is_late i n h = grind (arith, nat_tests)

all_pass : (allowed : ℕ → Bool) (text : List ℕ) → length text ≤ position_or_len (λ b. not (allowed (to_ascii_uppercase b))) text → AllPass (λ b. allowed (to_ascii_uppercase b)) text
all_pass allowed text late i d within =
    not_false _ (fails_before_first (λ b. not (allowed (to_ascii_uppercase b))) text i d (omega (arith, late, within)))

pub none_is_bad : (allowed : ℕ → Bool) (text : List ℕ) → position (λ b. not (allowed (to_ascii_uppercase b))) text ≡ None → list_all allowed (map to_ascii_uppercase text) ≡ true
none_is_bad allowed text h =
    list_all-map allowed to_ascii_uppercase text ∙ list_all-from_AllPass (λ b. allowed (to_ascii_uppercase b)) text (all_pass allowed text (none_is_late _ _ h))

read_parts : (bad : Option ℕ) (text found : List ℕ) → Ok found ≡ text_unless bad text → (0 < length text) × (length text ≤ 39) × (raised_unless bad text ≡ Ok found)
read_parts bad text found e = first_of (grind (arith, nat_tests), grind arith)

raised_is_lawful : (allowed : ℕ → Bool) (bad : Option ℕ) (text found : List ℕ) → bad ≡ position (λ b. not (allowed (to_ascii_uppercase b))) text → raised_unless bad text ≡ Ok found → (length found ≡ length text) × (list_all allowed found ≡ true)
raised_is_lawful allowed None text found none e =
    let same : map to_ascii_uppercase text ≡ found = cc in
    (ap length (sym same) ∙ length-map text to_ascii_uppercase, ap (list_all allowed) (sym same) ∙ none_is_bad allowed text (sym none))
raised_is_lawful allowed (Some place) text found some e = cc

-- what is read has 1 to 39 bytes, and each is allowed
pub read_is_lawful : (allowed : ℕ → Bool) (bad : Option ℕ) (text found : List ℕ) → bad ≡ position (λ b. not (allowed (to_ascii_uppercase b))) text → Ok found ≡ text_unless bad text → IsText allowed found
read_is_lawful allowed bad text found place e =
    let parts = read_parts bad text found e in
    let lawful = raised_is_lawful allowed bad text found place parts.2 in
    record { some = omega (arith, parts.0, lawful.0); few = omega (arith, parts.1, lawful.0); lawful = lawful.1 }

-- one more byte of the text is raised
pub raise_one_more : (raised text : List ℕ) (i cap b : ℕ) → i < length text → length text ≤ cap → b ≡ to_ascii_uppercase (get_or text i 0) → (length raised ≡ cap) × (take i raised ≡ map to_ascii_uppercase (take i text)) → (length (set raised i b) ≡ cap) × (take (i + 1) (set raised i b) ≡ map to_ascii_uppercase (take (i + 1) text))
raise_one_more raised text i cap b within fits is so_far = (
  simp length-set so_far.0,
  take_more_set raised i b (omega (arith, within, fits, so_far.0))
      ∙ ap (λ xs. xs ++ b ∷ []) so_far.1
      ∙ ap (λ c. map to_ascii_uppercase (take i text) ++ c ∷ []) is
      ∙ sym (ap (map to_ascii_uppercase) (take_more text i 0 within) ∙ map-append to_ascii_uppercase (take i text) (get_or text i 0 ∷ [])),
)
