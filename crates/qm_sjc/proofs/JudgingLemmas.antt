-- One item more of a call, which isn't at fault.
use Rattle.std.proofs.Common.{◌≡◌, ℕ, ◌+◌, ◌^◌, ◌<◌, ◌≤◌, ◌==◌, Bool, true, false, cond, List, [], ◌∷◌, ◌++◌, length, get_or, take, drop, append_assoc, Option, None, refl, sym, ap, ◌∙◌, arith, option_map}
use Rattle.std.specs.Option.{option_or}
use Rattle.std.proofs.lemmas.List.{length-append, take-append-drop, take_more, drop_more}
use Rattle.std.proofs.lemmas.List.Sums.{count_by_more_yes, count_by_more_no}
use Rattle.qm_kinds.specs.declared.refusal.ParseKind.{ParseKind}
use Rattle.qm_values.specs.declared.items.item.Item.{Item}
use Rattle.qm_values.specs.ItemText.{item_text, text}
use Rattle.qm_values.proofs.ItemTexts.{length-item_text, text_more}
use Rattle.qm_sjc.specs.declared.fault.Fault.{Fault}
use Rattle.qm_values.specs.declared.function.Function.{Function}
use Rattle.qm_sjc.specs.Judging.{field_in, count_in, kind_of, fault_behind}

text-append : (a b : List Item) → text (a ++ b) ≡ text a ++ text b
text-append [] b = refl
text-append (item ∷ a) b = ap (λ (l : List ℕ). item_text item ++ l) (text-append a b) ∙ sym (append_assoc (item_text item) (text a) (text b))

-- items in front have no more bytes than all
no_more : (items : List Item) (n : ℕ) → length (text (take n items)) ≤ length (text items)
no_more items n =
    let whole : text items ≡ text (take n items) ++ text (drop n items) = ap text (sym (take-append-drop n items)) ∙ text-append (take n items) (drop n items) in
    omega (arith, ap length whole, length-append (text (take n items)) (text (drop n items)))

module _ (items : List Item) (i : ℕ) (item : Item) (within : i < length items) (is : get_or items i item ≡ item) where
  -- where the next item begins
  pub place_more : (place len : ℕ) → place ≡ length (text (take i items)) → len ≡ length item.value → place + (4 + len) ≡ length (text (take (i + 1) items))
  place_more place len at long =
      let more = ap length (text_more items i item within is) in
      omega (arith, at, long, more, length-append (text (take i items)) (item_text item), length-item_text item)

  pub place_fits : (place len : ℕ) → place ≡ length (text (take i items)) → len ≡ length item.value → length (text items) < 2 ^ 64 → place + (4 + len) < 2 ^ 64
  place_fits place len at long short = omega (arith, place_more place len at long, no_more items (i + 1), short)

  count_by_code : (code : ℕ) (b : Bool) → (item.code == code) ≡ b → count_in code (take (i + 1) items) ≡ count_in code (take i items) + cond b 1 0
  count_by_code code true has =
      count_by_more_yes (λ (x : Item). x.code == code) items i item within (ap (λ (x : Item). x.code == code) is ∙ has)
  count_by_code code false lacks =
      let same = count_by_more_no (λ (x : Item). x.code == code) items i item within (ap (λ (x : Item). x.code == code) is ∙ lacks) in
      omega (arith, same)

  -- how many there are of a code
  pub count_more : (code count next : ℕ) → count ≡ count_in code (take i items) → next ≡ count + cond (item.code == code) 1 0 → next ≡ count_in code (take (i + 1) items)
  count_more code count next so_far one = let more = count_by_code code (item.code == code) refl in omega (arith, so_far, one, more)

  -- the first fault stands behind it
  pub fault_more : (function : Function) (first : Option Fault) → None ≡ kind_of items (take i items) item (field_in function item.code)
      → fault_behind function items (take i items) (drop i items) ≡ first → fault_behind function items (take (i + 1) items) (drop (i + 1) items) ≡ first
  fault_more function first none before =
      ap (λ (l : List Item). fault_behind function items l (drop (i + 1) items)) (take_more items i item within ∙ ap (λ (x : Item). take i items ++ x ∷ []) is)
      ∙ ap (λ (k : Option ParseKind). option_or (option_map (λ kind. record { place = length (text (take i items)); kind = kind }) k) (fault_behind function items (take i items ++ item ∷ []) (drop (i + 1) items))) none
      ∙ sym (ap (fault_behind function items (take i items)) (drop_more items i item within ∙ ap (λ (x : Item). x ∷ drop (i + 1) items) is))
      ∙ before
