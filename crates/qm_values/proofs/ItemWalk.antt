-- One item more of a list is read, or its end.
use Rattle.std.proofs.Common.{◌≡◌, ℕ, ◌+◌, ◌<◌, ◌≤◌, List, [], ◌∷◌, ◌++◌, length, take, drop, refl, sym, ◌∙◌, ap, subst, arith, length-append, length-take, length-drop, take-append-drop, Ok, drop_at, drop-drop}
use Rattle.std.specs.Int.{w16, to_le_bytes}
use Rattle.std.specs.List.{AllByRecursion}
use Rattle.std.proofs.lemmas.List.Elements.{All-from_recursion}
use Rattle.qm_values.specs.declared.items.item.Item.{Item}
use Rattle.qm_values.specs.ItemText.{item_text, text, list_end, list_text, CanStand}
use Rattle.qm_values.specs.ItemFaults.{GoesOn, StandsAt}
use Rattle.qm_values.specs.ItemHeads.{IsHead, HeadAt}
use Rattle.qm_values.specs.declared.items.reading.Head.{Head}
use Rattle.qm_values.specs.declared.items.reading.Head.TheVariants.{End}
use Rattle.qm_values.specs.declared.items.reading.Head.TheVariants as head
use Rattle.qm_values.proofs.ItemTexts.{length-item_text, text-push, text-append_one, all-push}

-- whole items stand in front of a place
pub record Passed (bytes : List ℕ) (items : List Item) (place : ℕ) : Type 0 where
  pub place_is : place ≡ length (text items)
  pub within : place ≤ length bytes
  pub split : bytes ≡ text items ++ drop place bytes
  pub each : AllByRecursion CanStand items

pub none_passed : (bytes : List ℕ) → Passed bytes [] 0
none_passed bytes = record { place_is = refl; within = omega arith; split = refl; each = tt }

-- an item whose value stands behind its head
item_there : (rest : List ℕ) (code count : ℕ) (item : Item) → IsHead rest code count → item.code ≡ code → item.value ≡ take count (drop 4 rest)
    → (length item.value ≡ count) × (rest ≡ item_text item ++ drop count (drop 4 rest))
unfolding item_text
item_there rest code count item head code_is value_is =
    let behind : drop 4 rest ≡ head.behind = ap (λ (l : List ℕ). drop 4 l) head.is in
    let counted : length item.value ≡ count = omega (arith, head.within, ap (λ (l : List ℕ). length l) value_is, length-take count (drop 4 rest), ap (λ (l : List ℕ). length l) behind) in
    let parts : head.behind ≡ item.value ++ drop count (drop 4 rest) = sym behind ∙ sym (take-append-drop count (drop 4 rest)) ∙ ap (λ (l : List ℕ). l ++ drop count (drop 4 rest)) (sym value_is) in (
      counted,
      head.is ∙ ap (λ (l : List ℕ). to_le_bytes w16 count ++ (to_le_bytes w16 code ++ l)) parts
          ∙ ap (λ (n : ℕ). to_le_bytes w16 n ++ (to_le_bytes w16 code ++ (item.value ++ drop count (drop 4 rest)))) (sym counted)
          ∙ ap (λ (n : ℕ). to_le_bytes w16 (length item.value) ++ (to_le_bytes w16 n ++ (item.value ++ drop count (drop 4 rest)))) (sym code_is),
    )

can_stand : (rest : List ℕ) (code count : ℕ) (item : Item) → IsHead rest code count → item.code ≡ code → length item.value ≡ count → CanStand item
can_stand rest code count item head code_is counted = record {
  short = omega (arith, head.short, counted);
  code = omega (arith, head.code_fits, code_is);
  no_end = λ none same. head.no_end (sym counted ∙ none) (sym code_is ∙ same);
}

-- one item more is passed
pub item_passed : (bytes : List ℕ) (items more : List Item) (place next code count : ℕ) (item : Item) → Passed bytes items place → IsHead (drop place bytes) code count
    → item.code ≡ code → item.value ≡ take count (drop (place + 4) bytes) → more ≡ items ++ item ∷ [] → next ≡ place + (4 + count) → Passed bytes more next
item_passed bytes items more place next code count item passed head code_is value_is more_is next_is =
    let rest = drop place bytes in
    let value : item.value ≡ take count (drop 4 (drop place bytes)) = value_is ∙ ap (λ (l : List ℕ). take count l) (sym (drop-drop 4 place bytes)) in
    let there = item_there (drop place bytes) code count item head code_is value in
    let behind : List ℕ = drop count (drop 4 (drop place bytes)) in
    let whole : bytes ≡ text (items ++ item ∷ []) ++ drop count (drop 4 (drop place bytes)) =
    passed.split ∙ ap (λ (l : List ℕ). text items ++ l) there.1 ∙ sym (text-push items item (drop count (drop 4 (drop place bytes)))) in
    let size : length (text (items ++ item ∷ [])) ≡ next =
    omega (arith, ap (λ (l : List ℕ). length l) (text-append_one items item), length-append (text items) (item_text item), length-item_text item, there.0, passed.place_is, next_is) in
    let left : drop next bytes ≡ drop count (drop 4 (drop place bytes)) =
    ap (λ (l : List ℕ). drop next l) whole ∙ drop_at (text (items ++ item ∷ [])) (drop count (drop 4 (drop place bytes))) next size in
    subst (λ (l : List Item). Passed bytes l next) (sym more_is) (record {
      place_is = sym size;
      within = omega (arith, ap (λ (l : List ℕ). length l) whole, length-append (text (items ++ item ∷ [])) (drop count (drop 4 (drop place bytes))), size);
      split = whole ∙ ap (λ (l : List ℕ). text (items ++ item ∷ []) ++ l) (sym left);
      each = all-push items item passed.each (can_stand (drop place bytes) code count item head code_is there.0);
    })

-- what stands behind the items that are passed
pub stands_there : (bytes : List ℕ) (items : List Item) (place : ℕ) (Rest : List ℕ → Type 0) → Passed bytes items place → Rest (drop place bytes) → StandsAt bytes place Rest
stands_there bytes items place Rest passed is = record {
  items = items;
  rest = drop place bytes;
  each = All-from_recursion CanStand items passed.each;
  whole = passed.split;
  place_is = passed.place_is;
  is = is;
}

-- the end stands there, and nothing behind it
pub list_ended : (bytes : List ℕ) (items : List Item) (place : ℕ) → Passed bytes items place → (more : List ℕ) → drop place bytes ≡ list_end ++ more → length bytes ≤ place + 4 → bytes ≡ list_text items
list_ended bytes items place passed [] end short = passed.split ∙ ap (λ (l : List ℕ). text items ++ l) end
list_ended bytes items place passed (byte ∷ more) end short =
    absurd (omega (arith, short, ap (λ (l : List ℕ). length l) end, length-drop place bytes))

-- more stands behind it
pub list_goes_on : (bytes : List ℕ) (place : ℕ) (more : List ℕ) → drop place bytes ≡ list_end ++ more → place + 4 < length bytes → GoesOn (drop place bytes)
list_goes_on bytes place [] end long = absurd (omega (arith, long, ap (λ (l : List ℕ). length l) end, length-drop place bytes))
list_goes_on bytes place (byte ∷ more) end long = (byte, more, end)

-- what is no item is the end
pub end_there : (rest : List ℕ) (place : ℕ) (found : Head) → HeadAt rest place (Ok found) → ((code count : ℕ) → found ≡ head.Item code count → ⊥) → (more : List ℕ) × (rest ≡ list_end ++ more)
end_there rest place End at none = at
end_there rest place (head.Item code count) at none = absurd (none code count refl)
