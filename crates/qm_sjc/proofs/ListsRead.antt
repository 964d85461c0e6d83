-- Bytes are read as the list that they are, and else their fault is told.
use Rattle.std.proofs.Common.{◌≡◌, ℕ, zero, suc, ◌+◌, ◌^◌, ◌<◌, ◌≤◌, ◌==◌, Bool, true, false, List, [], ◌∷◌, ◌++◌, length, take, drop, Option, None, Some, Result, Ok, Err, All, refl, sym, ◌∙◌, ap, subst, arith, length-append, append_assoc, nat_lt, take_at, drop_at}
use Rattle.std.specs.Int.{w16, from_le_bytes}
use Rattle.std.specs.List.{AllByRecursion}
use Rattle.std.proofs.lemmas.Bool.Decides.{nat_tests}
use Rattle.std.proofs.lemmas.List.Elements.{recursion_from_All}
use Rattle.std.proofs.lemmas.Slice.Eq.{bytes_eq-Decides}
use Rattle.qm_kinds.specs.declared.input.Input.TheVariants as input
use Rattle.qm_kinds.specs.declared.refusal.ParseKind.TheVariants as parse
use Rattle.qm_values.specs.declared.items.fault.ItemFault.{ItemFault}
use Rattle.qm_values.specs.declared.items.fault.ItemFault.TheVariants.{Cut, NoEnd, After, NoMemory}
use Rattle.qm_values.specs.declared.items.item.Item.{Item}
use Rattle.qm_values.specs.ItemFaults.{IsCut, GoesOn, StandsAt, IsFault}
use Rattle.qm_values.specs.ItemText.{item_text, text, list_end, list_text, CanStand}
use Rattle.qm_values.proofs.ItemTexts.{length-item_text, count_at, code_at, behind_head, none_behind}
use Rattle.qm_sjc.specs.declared.fault.Fault.{Fault}
use Rattle.qm_sjc.specs.Calls.{call_of}
use Rattle.qm_sjc.specs.Meant.{behind_item, count_here, is_cut, is_end, item_here, items_from, items_mean, items_read, list_fault, one_item, or_fault}

abbrev Read : Type 0
Read = Result (List Item) Fault

-- ---- one item

not_less : (a b : ℕ) → b ≤ a → nat_lt a b ≡ false
not_less a b h = grind (arith, nat_tests)

less : (a b : ℕ) → a < b → nat_lt a b ≡ true
less a b h = grind (arith, nat_tests)

not_none : (n : ℕ) → 0 < n → (n == 0) ≡ false
not_none n h = grind (arith, nat_tests)

not_four : (n : ℕ) → 4 < n → (n == 4) ≡ false
not_four n h = grind (arith, nat_tests)

one_more : (most place : ℕ) (rest : List ℕ) → (length rest == 0) ≡ false → is_cut rest ≡ false → is_end rest ≡ false
    → items_from (suc most) place rest ≡ one_item (item_here rest) (items_from most (place + 4 + count_here rest) (behind_item rest))
one_more most place rest some whole goes = rw (some, whole, goes) refl

length_here : (item : Item) (rest : List ℕ) → length (item_text item ++ rest) ≡ 4 + length item.value + length rest
length_here item rest = omega (arith, length-append (item_text item) rest, length-item_text item)

front_count : (item : Item) (rest : List ℕ) → take 2 (take 4 (item_text item ++ rest)) ≡ take 2 (item_text item ++ rest)
unfolding item_text
front_count item rest = refl

front_code : (item : Item) (rest : List ℕ) → take 2 (drop 2 (take 4 (item_text item ++ rest))) ≡ take 2 (drop 2 (item_text item ++ rest))
unfolding item_text
front_code item rest = refl

-- an item isn't the end of a list
not_end : (item : Item) (rest : List ℕ) → CanStand item → is_end (item_text item ++ rest) ≡ false
not_end item rest can = by_test (is_end (item_text item ++ rest)) refl
  where
    by_test : (b : Bool) → is_end (item_text item ++ rest) ≡ b → b ≡ false
    by_test true is =
        let same : take 4 (item_text item ++ rest) ≡ list_end = (bytes_eq-Decides (take 4 (item_text item ++ rest)) list_end).0 is in
        let count : length item.value ≡ 0 =
        sym (count_at item rest can) ∙ ap (λ (l : List ℕ). from_le_bytes w16 l) (sym (front_count item rest))
        ∙ ap (λ (l : List ℕ). from_le_bytes w16 (take 2 l)) same ∙ none_behind in
        let code : item.code ≡ 0 =
        sym (code_at item rest can) ∙ ap (λ (l : List ℕ). from_le_bytes w16 l) (sym (front_code item rest))
        ∙ ap (λ (l : List ℕ). from_le_bytes w16 (take 2 (drop 2 l))) same ∙ none_behind in
        absurd (can.no_end count code)
    by_test false is = refl

abbrev item_of : ℕ → List ℕ → Item
item_of code value = record { code = code; value = value }

item_is : (item : Item) (rest : List ℕ) → CanStand item → item_here (item_text item ++ rest) ≡ item
item_is item rest can =
    let value : take (count_here (item_text item ++ rest)) (drop 4 (item_text item ++ rest)) ≡ item.value =
    ap (λ (n : ℕ). take n (drop 4 (item_text item ++ rest))) (count_at item rest can)
    ∙ ap (λ (l : List ℕ). take (length item.value) l) (behind_head item rest) ∙ take_at item.value rest (length item.value) refl in
    ap (λ (n : ℕ). item_of n (take (count_here (item_text item ++ rest)) (drop 4 (item_text item ++ rest)))) (code_at item rest can)
    ∙ ap (λ (l : List ℕ). item_of item.code l) value

behind_is : (item : Item) (rest : List ℕ) → CanStand item → behind_item (item_text item ++ rest) ≡ rest
behind_is item rest can =
    ap (λ (n : ℕ). drop n (drop 4 (item_text item ++ rest))) (count_at item rest can)
    ∙ ap (λ (l : List ℕ). drop (length item.value) l) (behind_head item rest) ∙ drop_at item.value rest (length item.value) refl

item_first : (most place : ℕ) (item : Item) (rest : List ℕ) → CanStand item
    → items_from (suc most) place (item_text item ++ rest) ≡ one_item item (items_from most (place + 4 + length item.value) rest)
item_first most place item rest can =
    let whole = item_text item ++ rest in
    let counted : count_here whole ≡ length item.value = count_at item rest can in
    one_more most place whole (not_none (length whole) (omega (arith, length_here item rest)))
    (not_less (length whole) (4 + count_here whole) (omega (arith, length_here item rest, counted))) (not_end item rest can)
    ∙ ap (λ (i : Item). one_item i (items_from most (place + 4 + count_here whole) (behind_item whole))) (item_is item rest can)
    ∙ ap (λ (n : ℕ). one_item item (items_from most (place + 4 + n) (behind_item whole))) counted
    ∙ ap (λ (l : List ℕ). one_item item (items_from most (place + 4 + length item.value) l)) (behind_is item rest can)

-- ---- items one behind another

-- items in front of what is read behind them
abbrev with_items : List Item → Read → Read
with_items [] r = r
with_items (item ∷ items) r = one_item item (with_items items r)

with_ok : (items : List Item) → with_items items (Ok []) ≡ Ok items
with_ok [] = refl
with_ok (item ∷ items) = ap (one_item item) (with_ok items)

with_err : (items : List Item) (f : Fault) → with_items items (Err f) ≡ Err f
with_err [] f = refl
with_err (item ∷ items) f = ap (one_item item) (with_err items f)

walked : (items : List Item) (rest : List ℕ) (most place : ℕ) (r : Read) → AllByRecursion CanStand items → length (text items ++ rest) ≤ most
    → ((left : ℕ) → length rest ≤ left → items_from left (place + length (text items)) rest ≡ r)
    → items_from most place (text items ++ rest) ≡ with_items items r
walked [] rest most place r each few end =
    let here : place ≡ place + length (text []) = omega arith in
    ap (λ (p : ℕ). items_from most p rest) here ∙ end most few
walked (item ∷ items) rest zero place r each few end =
    absurd (omega (arith, few, length-append (text (item ∷ items)) rest, length-append (item_text item) (text items), length-item_text item))
walked (item ∷ items) rest (suc most) place r each few end =
    let longer : length (text (item ∷ items)) ≡ 4 + length item.value + length (text items) = omega (arith, length-append (item_text item) (text items), length-item_text item) in
    let fewer : length (text items ++ rest) ≤ most = omega (arith, few, longer, length-append (text (item ∷ items)) rest, length-append (text items) rest) in
    let there : place + 4 + length item.value + length (text items) ≡ place + length (text (item ∷ items)) = omega (arith, longer) in
    ap (λ (l : List ℕ). items_from (suc most) place l) (append_assoc (item_text item) (text items) rest)
    ∙ item_first most place item (text items ++ rest) each.0
    ∙ ap (one_item item) (walked items rest most (place + 4 + length item.value) r each.1 fewer
    (λ left enough. ap (λ (p : ℕ). items_from left p rest) there ∙ end left enough))

-- ---- what stands behind the items

at_end : (left place : ℕ) → length list_end ≤ left → items_from left place list_end ≡ Ok []
at_end zero place enough = absurd (omega (arith, enough))
at_end (suc left) place enough = refl

at_nothing : (left place : ℕ) → items_from left place [] ≡ Err (record { place = place; kind = parse.NoEnd })
at_nothing zero place = refl
at_nothing (suc left) place = refl

at_cut : (left place : ℕ) (rest : List ℕ) → IsCut rest → length rest ≤ left → items_from left place rest ≡ Err (record { place = place; kind = parse.Cut })
at_cut zero place rest cut enough = absurd (omega (arith, cut.0, enough))
at_cut (suc left) place rest cut enough =
    rw (not_none (length rest) cut.0, less (length rest) (4 + count_here rest) cut.1) refl

at_more : (left place byte : ℕ) (more : List ℕ) → length (list_end ++ byte ∷ more) ≤ left
    → items_from left place (list_end ++ byte ∷ more) ≡ Err (record { place = place + 4; kind = parse.After })
at_more zero place byte more enough = absurd (omega (arith, enough))
at_more (suc left) place byte more enough =
    let rest = list_end ++ byte ∷ more in
    let none : count_here rest ≡ 0 = none_behind in
    let whole : is_cut rest ≡ false = not_less (length rest) (4 + count_here rest) (omega (arith, none)) in
    rw (not_none (length rest) (omega arith), whole, not_four (length rest) (omega arith)) refl

-- ---- the whole

read_behind : (items : List Item) (rest bytes : List ℕ) (r : Read) → All CanStand items → bytes ≡ text items ++ rest
    → ((left : ℕ) → length rest ≤ left → items_from left (0 + length (text items)) rest ≡ r) → items_read bytes ≡ with_items items r
read_behind items rest bytes r each is end =
    ap (λ (l : List ℕ). items_from (length l) 0 l) is
    ∙ walked items rest (length (text items ++ rest)) 0 r (recursion_from_All CanStand items each) (omega arith) end

pub list_read : (items : List Item) → All CanStand items → items_read (list_text items) ≡ Ok items
list_read items each =
    read_behind items list_end (list_text items) (Ok []) each refl (λ left enough. at_end left (0 + length (text items)) enough) ∙ with_ok items

stands_read : (Rest : List ℕ → Type 0) (bytes : List ℕ) (place : ℕ) (f : Fault) (s : StandsAt bytes place Rest)
    → ((left : ℕ) → length s.rest ≤ left → items_from left place s.rest ≡ Err f) → items_read bytes ≡ Err f
stands_read Rest bytes place f s end =
    let here : 0 + length (text s.items) ≡ place = omega (arith, s.place_is) in
    read_behind s.items s.rest bytes (Err f) s.each s.whole (λ left enough. ap (λ (p : ℕ). items_from left p s.rest) here ∙ end left enough)
    ∙ with_err s.items f

-- the bytes have this fault, where there is one
abbrev Told : List ℕ → Option Fault → Type 0
Told bytes None = Unit {0}
Told bytes (Some f) = items_read bytes ≡ Err f

pub fault_read : (bytes : List ℕ) (fault : ItemFault) (told : Fault) → IsFault bytes fault → list_fault fault ≡ Some told → items_read bytes ≡ Err told
fault_read bytes (Cut place) told is says =
    subst (λ (o : Option Fault). Told bytes o) says (stands_read IsCut bytes place _ is (λ left enough. at_cut left place is.rest is.is enough))
fault_read bytes (NoEnd place) told is says =
    subst (λ (o : Option Fault). Told bytes o) says
    (stands_read (λ rest. rest ≡ []) bytes place _ is (λ left enough. ap (λ (l : List ℕ). items_from left place l) is.is ∙ at_nothing left place))
fault_read bytes (After place) told is says =
    let on = is.2.is in
    subst (λ (o : Option Fault). Told bytes o) says
    (stands_read GoesOn bytes is.0 (record { place = place; kind = parse.After }) is.2
    (λ left enough. ap (λ (l : List ℕ). items_from left is.0 l) on.2
    ∙ at_more left is.0 on.0 on.1 (subst (λ (l : List ℕ). length l ≤ left) on.2 enough)
    ∙ ap (λ (p : ℕ). Err (record { place = p; kind = parse.After })) (sym is.1)))
fault_read bytes NoMemory told is says = cc

pub fault_told : (function : ℕ) (bytes user : List ℕ) (fault : ItemFault) (told : Fault) → IsFault bytes fault → list_fault fault ≡ Some told
    → items_mean function bytes user ≡ input.Fault told.place told.kind
fault_told function bytes user fault told is says = rw (fault_read bytes fault told is says) refl

pub list_meant : (function : ℕ) (bytes user : List ℕ) (items : List Item) → bytes ≡ list_text items → All CanStand items
    → items_mean function bytes user ≡ or_fault (call_of user function items)
list_meant function bytes user items is each = rw (is, list_read items each) refl

pub text_short : (bytes : List ℕ) (items : List Item) → bytes ≡ list_text items → length bytes < 2 ^ 64 → length (text items) < 2 ^ 64
text_short bytes items is few = omega (arith, few, ap (λ (l : List ℕ). length l) is, length-append (text items) list_end)
