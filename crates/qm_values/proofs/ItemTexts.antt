-- Laws of lists of items.
use Rattle.std.proofs.Common.{◌≡◌, ◌≢◌, ℕ, ◌+◌, ◌<◌, List, [], ◌∷◌, ◌++◌, length, get_or, take, drop, refl, sym, ◌∙◌, ap, subst, arith, length-append, append_assoc}
use Rattle.std.specs.Int.{w16, to_le_bytes, from_le_bytes}
use Rattle.std.specs.List.{All, AllByRecursion}
use Rattle.std.proofs.lemmas.List.Elements.{recursion_from_All}
use Rattle.std.proofs.lemmas.List.{append-nil, take_at, take_more, drop_at}
use Rattle.std.proofs.lemmas.Nat.{from_le_bytes-to_le_bytes_2}
use Rattle.qm_values.specs.declared.items.fault.ItemFault.{ItemFault}
use Rattle.qm_values.specs.declared.items.fault.ItemFault.TheVariants.{Cut, NoEnd, After, NoMemory}
use Rattle.qm_values.specs.declared.items.item.Item.{Item}
use Rattle.qm_values.specs.ItemText.{item_text, text, list_end, list_text, CanStand}
use Rattle.qm_values.specs.ItemFaults.{IsCut, GoesOn, StandsAt, IsFault}

pub length-item_text : (item : Item) → length (item_text item) ≡ 4 + length item.value
unfolding item_text
length-item_text item = omega (arith, length-append (to_le_bytes w16 (length item.value)) (to_le_bytes w16 item.code ++ item.value), length-append (to_le_bytes w16 item.code) item.value)

-- one item more
pub text-push : (items : List Item) (item : Item) (rest : List ℕ) → text (items ++ item ∷ []) ++ rest ≡ text items ++ (item_text item ++ rest)
text-push [] item rest = ap (λ (l : List ℕ). l ++ rest) (append-nil (item_text item))
text-push (first ∷ items) item rest =
    append_assoc (item_text first) (text (items ++ item ∷ [])) rest
    ∙ ap (λ (l : List ℕ). item_text first ++ l) (text-push items item rest)
    ∙ sym (append_assoc (item_text first) (text items) (item_text item ++ rest))

-- the items of a list are spelled one behind another
pub text-append_one : (items : List Item) (item : Item) → text (items ++ item ∷ []) ≡ text items ++ item_text item
text-append_one items item =
    sym (append-nil (text (items ++ item ∷ []))) ∙ text-push items item [] ∙ ap (λ (l : List ℕ). text items ++ l) (append-nil (item_text item))

-- one item more of a list
pub text_more : (items : List Item) (i : ℕ) (item : Item) → i < length items → get_or items i item ≡ item → text (take (i + 1) items) ≡ text (take i items) ++ item_text item
text_more items i item within is =
    ap text (take_more items i item within) ∙ text-append_one (take i items) (get_or items i item) ∙ ap (λ (x : Item). text (take i items) ++ item_text x) is

pub all-push : (items : List Item) (item : Item) → AllByRecursion CanStand items → CanStand item → AllByRecursion CanStand (items ++ item ∷ [])
all-push [] item each can = (can, tt)
all-push (first ∷ items) item each can = (each.0, all-push items item each.1 can)

-- what an item begins with tells its length and its code
pub count_at : (item : Item) (rest : List ℕ) → CanStand item → from_le_bytes w16 (take 2 (item_text item ++ rest)) ≡ length item.value
unfolding item_text
count_at item rest can =
    let front : take 2 (item_text item ++ rest) ≡ to_le_bytes w16 (length item.value) = refl in
    ap (λ (l : List ℕ). from_le_bytes w16 l) front ∙ from_le_bytes-to_le_bytes_2 (length item.value) can.short

pub code_at : (item : Item) (rest : List ℕ) → CanStand item → from_le_bytes w16 (take 2 (drop 2 (item_text item ++ rest))) ≡ item.code
unfolding item_text
code_at item rest can =
    let front : take 2 (drop 2 (item_text item ++ rest)) ≡ to_le_bytes w16 item.code = refl in
    ap (λ (l : List ℕ). from_le_bytes w16 l) front ∙ from_le_bytes-to_le_bytes_2 item.code can.code

pub behind_head : (item : Item) (rest : List ℕ) → drop 4 (item_text item ++ rest) ≡ item.value ++ rest
unfolding item_text
behind_head item rest = refl

abbrev item_of : ℕ → List ℕ → Item
item_of code value = record { code = code; value = value }

-- two items that begin alike are one
same_item : (a b : Item) (x y : List ℕ) → CanStand a → CanStand b → item_text a ++ x ≡ item_text b ++ y → (a ≡ b) × (x ≡ y)
same_item a b x y can_a can_b same =
    let lengths : length a.value ≡ length b.value = sym (count_at a x can_a) ∙ ap (λ (l : List ℕ). from_le_bytes w16 (take 2 l)) same ∙ count_at b y can_b in
    let codes : a.code ≡ b.code = sym (code_at a x can_a) ∙ ap (λ (l : List ℕ). from_le_bytes w16 (take 2 (drop 2 l))) same ∙ code_at b y can_b in
    let tails : a.value ++ x ≡ b.value ++ y = sym (behind_head a x) ∙ ap (λ (l : List ℕ). drop 4 l) same ∙ behind_head b y in
    let values : a.value ≡ b.value = sym (take_at a.value x (length a.value) refl) ∙ ap (λ (l : List ℕ). take (length a.value) l) tails ∙ take_at b.value y (length a.value) (sym lengths) in
    let rests : x ≡ y = sym (drop_at a.value x (length a.value) refl) ∙ ap (λ (l : List ℕ). drop (length a.value) l) tails ∙ drop_at b.value y (length a.value) (sym lengths) in
    (ap (λ (n : ℕ). item_of n a.value) codes ∙ ap (λ (l : List ℕ). item_of b.code l) values, rests)

-- no item begins here
abbrev pub IsStop : List ℕ → Type 0
IsStop rest = (item : Item) (more : List ℕ) → CanStand item → rest ≡ item_text item ++ more → ⊥

nil_stops : IsStop []
nil_stops item more can same = absurd (omega (arith, ap (λ (l : List ℕ). length l) same, length-append (item_text item) more, length-item_text item))

cut_stops : (rest : List ℕ) → IsCut rest → IsStop rest
cut_stops rest cut item more can same =
    let says : from_le_bytes w16 (take 2 rest) ≡ length item.value = ap (λ (l : List ℕ). from_le_bytes w16 (take 2 l)) same ∙ count_at item more can in
    absurd (omega (arith, cut.1, says, ap (λ (l : List ℕ). length l) same, length-append (item_text item) more, length-item_text item))

pub none_behind : from_le_bytes w16 (0 ∷ 0 ∷ []) ≡ 0
none_behind = refl

end_stops : (more : List ℕ) → IsStop (list_end ++ more)
end_stops more item behind can same =
    let count : length item.value ≡ 0 = sym (count_at item behind can) ∙ ap (λ (l : List ℕ). from_le_bytes w16 (take 2 l)) (sym same) ∙ none_behind in
    let code : item.code ≡ 0 = sym (code_at item behind can) ∙ ap (λ (l : List ℕ). from_le_bytes w16 (take 2 (drop 2 l))) (sym same) ∙ none_behind in
    can.no_end count code

-- bytes have one reading
one_split : (a b : List Item) (x y : List ℕ) → AllByRecursion CanStand a → AllByRecursion CanStand b → IsStop x → IsStop y → text a ++ x ≡ text b ++ y → (a ≡ b) × (x ≡ y)
one_split [] [] x y each_a each_b stop_x stop_y same = (refl, same)
one_split [] (b ∷ bs) x y each_a each_b stop_x stop_y same =
    absurd (stop_x b (text bs ++ y) each_b.0 (same ∙ append_assoc (item_text b) (text bs) y))
one_split (a ∷ others) [] x y each_a each_b stop_x stop_y same =
    absurd (stop_y a (text others ++ x) each_a.0 (sym same ∙ append_assoc (item_text a) (text others) x))
one_split (a ∷ others) (b ∷ bs) x y each_a each_b stop_x stop_y same =
    let first = same_item a b (text others ++ x) (text bs ++ y) each_a.0 each_b.0 (sym (append_assoc (item_text a) (text others) x) ∙ same ∙ append_assoc (item_text b) (text bs) y) in
    let rest = one_split others bs x y each_a.1 each_b.1 stop_x stop_y first.1 in
    (ap (λ (i : Item). i ∷ others) first.0 ∙ ap (λ (is : List Item). b ∷ is) rest.0, rest.1)

pub one_list : (a b : List Item) → All CanStand a → All CanStand b → list_text a ≡ list_text b → a ≡ b
one_list a b each_a each_b same =
    (one_split a b list_end list_end (recursion_from_All CanStand a each_a) (recursion_from_All CanStand b each_b) (end_stops []) (end_stops []) same).0

-- ---- faults

goes_on_stops : (rest : List ℕ) → GoesOn rest → IsStop rest
goes_on_stops rest on = subst IsStop (sym on.2) (end_stops (on.0 ∷ on.1))

empty_stops : (rest : List ℕ) → rest ≡ [] → IsStop rest
empty_stops rest empty = subst IsStop (sym empty) nil_stops

-- where two things stand behind whole items, the items and what stands there are the same
record Same (Left Right : List ℕ → Type 0) (p q : ℕ) : Type 0 where
  places : p ≡ q
  rest : List ℕ
  left : Left rest
  right : Right rest

both_stand : (Left Right : List ℕ → Type 0) (bytes : List ℕ) (p q : ℕ) → ((rest : List ℕ) → Left rest → IsStop rest) → ((rest : List ℕ) → Right rest → IsStop rest)
    → StandsAt bytes p Left → StandsAt bytes q Right → Same Left Right p q
both_stand Left Right bytes p q stops_left stops_right a b =
    let same = one_split a.items b.items a.rest b.rest (recursion_from_All CanStand a.items a.each) (recursion_from_All CanStand b.items b.each) (stops_left a.rest a.is) (stops_right b.rest b.is) (sym a.whole ∙ b.whole) in
    record {
      places = a.place_is ∙ ap (λ (items : List Item). length (text items)) same.0 ∙ sym b.place_is;
      rest = b.rest;
      left = subst Left same.1 a.is;
      right = b.is;
    }

cut_not_empty : (rest : List ℕ) → IsCut rest → rest ≡ [] → ⊥
cut_not_empty rest cut empty = omega (arith, cut.0, ap (λ (l : List ℕ). length l) empty)

-- an end isn't cut short
cut_not_end : (rest more : List ℕ) → IsCut rest → rest ≡ list_end ++ more → ⊥
cut_not_end rest more cut end =
    let says : from_le_bytes w16 (take 2 rest) ≡ 0 = ap (λ (l : List ℕ). from_le_bytes w16 (take 2 l)) end ∙ none_behind in
    omega (arith, cut.1, says, ap (λ (l : List ℕ). length l) end)

empty_not_end : (rest more : List ℕ) → rest ≡ [] → rest ≡ list_end ++ more → ⊥
empty_not_end rest more empty end = omega (arith, ap (λ (l : List ℕ). length l) empty, ap (λ (l : List ℕ). length l) end)

end_stands : (items : List Item) → All CanStand items → StandsAt (list_text items) (length (text items)) (λ rest. rest ≡ list_end)
end_stands items each = record { items = items; rest = list_end; each = each; whole = refl; place_is = refl; is = refl }

whole_stops : (rest : List ℕ) → rest ≡ list_end → IsStop rest
whole_stops rest end = subst IsStop (sym end) (end_stops [])

pub no_fault : (items : List Item) (fault : ItemFault) → All CanStand items → IsFault (list_text items) fault → fault ≡ NoMemory
no_fault items (Cut place) each is =
    let s = both_stand (λ rest. rest ≡ list_end) IsCut (list_text items) (length (text items)) place whole_stops cut_stops (end_stands items each) is in
    absurd (cut_not_end s.rest [] s.right s.left)
no_fault items (NoEnd place) each is =
    let s = both_stand (λ rest. rest ≡ list_end) (λ rest. rest ≡ []) (list_text items) (length (text items)) place whole_stops empty_stops (end_stands items each) is in
    absurd (empty_not_end s.rest [] s.right s.left)
no_fault items (After place) each is =
    let s = both_stand (λ rest. rest ≡ list_end) GoesOn (list_text items) (length (text items)) is.0 whole_stops goes_on_stops (end_stands items each) is.2 in
    absurd (omega (arith, ap (λ (l : List ℕ). length l) s.left, ap (λ (l : List ℕ). length l) s.right.2))
no_fault items NoMemory each is = refl

pub one_fault : (bytes : List ℕ) (f g : ItemFault) → f ≢ NoMemory → g ≢ NoMemory → IsFault bytes f → IsFault bytes g → f ≡ g
one_fault bytes (Cut p) (Cut q) told other a b = ap (λ (n : ℕ). Cut n) (both_stand IsCut IsCut bytes p q cut_stops cut_stops a b).places
one_fault bytes (Cut p) (NoEnd q) told other a b =
    let s = both_stand IsCut (λ rest. rest ≡ []) bytes p q cut_stops empty_stops a b in absurd (cut_not_empty s.rest s.left s.right)
one_fault bytes (Cut p) (After q) told other a b =
    let s = both_stand IsCut GoesOn bytes p b.0 cut_stops goes_on_stops a b.2 in absurd (cut_not_end s.rest (s.right.0 ∷ s.right.1) s.left s.right.2)
one_fault bytes (NoEnd p) (Cut q) told other a b =
    let s = both_stand IsCut (λ rest. rest ≡ []) bytes q p cut_stops empty_stops b a in absurd (cut_not_empty s.rest s.left s.right)
one_fault bytes (NoEnd p) (NoEnd q) told other a b = ap (λ (n : ℕ). NoEnd n) (both_stand (λ rest. rest ≡ []) (λ rest. rest ≡ []) bytes p q empty_stops empty_stops a b).places
one_fault bytes (NoEnd p) (After q) told other a b =
    let s = both_stand (λ rest. rest ≡ []) GoesOn bytes p b.0 empty_stops goes_on_stops a b.2 in absurd (empty_not_end s.rest (s.right.0 ∷ s.right.1) s.left s.right.2)
one_fault bytes (After p) (Cut q) told other a b =
    let s = both_stand IsCut GoesOn bytes q a.0 cut_stops goes_on_stops b a.2 in absurd (cut_not_end s.rest (s.right.0 ∷ s.right.1) s.left s.right.2)
one_fault bytes (After p) (NoEnd q) told other a b =
    let s = both_stand (λ rest. rest ≡ []) GoesOn bytes q a.0 empty_stops goes_on_stops b a.2 in absurd (empty_not_end s.rest (s.right.0 ∷ s.right.1) s.left s.right.2)
one_fault bytes (After p) (After q) told other a b =
    let s = both_stand GoesOn GoesOn bytes a.0 b.0 goes_on_stops goes_on_stops a.2 b.2 in
    ap (λ (n : ℕ). After n) (a.1 ∙ ap (λ (n : ℕ). n + 4) s.places ∙ sym b.1)
one_fault bytes NoMemory g told other a b = absurd (told refl)
one_fault bytes f NoMemory told other a b = absurd (other refl)
