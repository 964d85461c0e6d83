-- The form of a name: where it stands, and that it stands alone.
use Rattle.std.proofs.Common.{◌≡◌, ◌≢◌, ◌∙◌, ℕ, suc, ◌<◌, ◌==◌, ◌⊎◌, inl, inr, Bool, true, false, List, [], ◌∷◌, length, get_or, Some, None, refl, sym, ap₂, arith, Less, All, HoldsAt, nat_cmp, bytes_eq}
use Rattle.std.specs.Cmp.{unsigned_ties}
use Rattle.std.specs.Cmp.Lexicographic.{nat_list_cmp_total, texts_ties}
use Rattle.std.proofs.lemmas.List.Elements.{All-cons, All-nil}
use Rattle.std.proofs.lemmas.Slice.Eq.{bytes_eq-Decides}
use Rattle.qm_model.specs.Common.{Form, Name, Number, IsInOrder, AreDistinct, name_cmp, form_wanted}
use Rattle.qm_keyed.specs.Places.{StandsAt, BelongsAt}
use Rattle.qm_keyed.proofs.Rows.{PassesAt, passes, fails, find_at, find_none}

abbrev pub name_of : Form → List ℕ
name_of = λ (f : Form). f.name

abbrev pub number_of : Form → ℕ
number_of = λ (f : Form). f.number

abbrev pub is_named : List ℕ → Form → Bool
is_named name = λ (f : Form). bytes_eq f.name name

-- what a place by name finds, and one by number
module _ (forms : List Form) (i : ℕ) where
  pub named_at : (name : List ℕ) (d : Form) → StandsAt name_cmp name_of name forms i → form_wanted (Name name) forms ≡ Some (get_or forms i d)
  named_at name d stands = find_at (is_named name) forms i d (passes name_of name (is_named name) (λ f. texts_ties f.name name) forms i stands)

  pub unnamed : (name : List ℕ) → BelongsAt name_cmp name_of name forms i → form_wanted (Name name) forms ≡ None
  unnamed name belongs = find_none (is_named name) forms (fails name_of name (is_named name) (λ f. texts_ties f.name name) forms i belongs)

  pub numbered_at : (number : ℕ) (d : Form) → StandsAt nat_cmp number_of number forms i → form_wanted (Number number) forms ≡ Some (get_or forms i d)
  numbered_at number d stands = find_at (λ (f : Form). f.number == number) forms i d (passes number_of number (λ (f : Form). f.number == number) (λ f. unsigned_ties f.number number) forms i stands)

  pub unnumbered : (number : ℕ) → BelongsAt nat_cmp number_of number forms i → form_wanted (Number number) forms ≡ None
  unnumbered number belongs = find_none (λ (f : Form). f.number == number) forms (fails number_of number (λ (f : Form). f.number == number) (λ f. unsigned_ties f.number number) forms i belongs)

-- a test tells other names apart
pub apart : (a b : List ℕ) → a ≢ b → bytes_eq a b ≡ false
apart a b other = last (bytes_eq a b) refl
  where
    last : (t : Bool) → bytes_eq a b ≡ t → bytes_eq a b ≡ false
    last false e = e
    last true e = absurd (other ((bytes_eq-Decides a b).0 e))

-- no element passes, or there is one that does
pub reached : {X : Type 0} (p : X → Bool) (xs : List X) → All (λ x. p x ≡ false) xs ⊎ ((i : ℕ) × (i < length xs) × HoldsAt (λ x. p x ≡ true) xs i)
reached p [] = inl (All-nil (λ x. p x ≡ false))
reached {X} p (x ∷ xs) = first (p x) refl (reached p xs)
  where
    first : (b : Bool) → p x ≡ b → All (λ y. p y ≡ false) xs ⊎ ((i : ℕ) × (i < length xs) × HoldsAt (λ y. p y ≡ true) xs i)
        → All (λ y. p y ≡ false) (x ∷ xs) ⊎ ((i : ℕ) × (i < length (x ∷ xs)) × HoldsAt (λ y. p y ≡ true) (x ∷ xs) i)
    first true e rest = inr (0, omega arith, λ d. e)
    first false e (inl none) = inl (All-cons (λ y. p y ≡ false) x xs e none)
    first false e (inr at) = inr (suc at.0, omega (arith, at.1), λ d. at.2 d)

-- under names of their own, a form that has a name is the only one
pub alone : (forms : List Form) (name : List ℕ) (i : ℕ) → AreDistinct name_of forms → i < length forms → HoldsAt (λ f. is_named name f ≡ true) forms i → PassesAt (is_named name) forms i
alone forms name i distinct within here = record {
  within = within;
  before = λ k d low below. other (get_or forms k d).name (get_or forms i d).name (here d) (distinct k i d below within);
  here = here;
  behind = λ k d low inside. other (get_or forms k d).name (get_or forms i d).name (here d) (λ same. distinct i k d (omega (arith, low)) inside (sym same));
}
  where
    other : (a b : List ℕ) → bytes_eq b name ≡ true → a ≢ b → bytes_eq a name ≡ false
    other a b e differ = apart a name (λ same. differ (same ∙ sym ((bytes_eq-Decides b name).0 e)))

-- none of the forms has the name, or one alone
pub none_or_one : (forms : List Form) (name : List ℕ) → AreDistinct name_of forms → All (λ f. is_named name f ≡ false) forms ⊎ ((i : ℕ) × PassesAt (is_named name) forms i)
none_or_one forms name distinct = cases (reached (is_named name) forms)
  where
    cases : All (λ f. is_named name f ≡ false) forms ⊎ ((i : ℕ) × (i < length forms) × HoldsAt (λ f. is_named name f ≡ true) forms i) → All (λ f. is_named name f ≡ false) forms ⊎ ((i : ℕ) × PassesAt (is_named name) forms i)
    cases (inl none) = inl none
    cases (inr at) = inr (at.0, alone forms name at.0 distinct at.1 at.2)

-- names in order are names of their own
pub distinct_in_order : (forms : List Form) → IsInOrder name_cmp name_of forms → AreDistinct name_of forms
distinct_in_order forms order i j d below within same =
    let less : name_cmp (get_or forms i d).name (get_or forms j d).name ≡ Less = order i j d below within in
    let turned = nat_list_cmp_total.antisymm (get_or forms i d).name (get_or forms j d).name in
    let equal : name_cmp (get_or forms i d).name (get_or forms j d).name ≡ name_cmp (get_or forms j d).name (get_or forms i d).name = ap₂ name_cmp same (sym same) in
    cc (less, turned, equal)
