-- Rows by number under names of their own: what a place by number says of them, and what keeps them so.
use Rattle.std.proofs.Common.{◌≡◌, ◌≢◌, ◌∙◌, ℕ, ◌≤◌, ◌==◌, nat_lt, Bool, true, false, ◌||◌, List, ◌∷◌, get_or, take, drop, is_some, refl, sym, ap, arith, All, insert, find, filter, nat_cmp, Less, bytes_eq, take-append-drop}
use Rattle.std.specs.Cmp.{nat_cmp_total, unsigned_ties}
use Rattle.std.proofs.lemmas.List.Elements.{All-append, All-cons, All-take, All-drop}
use Rattle.std.proofs.lemmas.List.Kept.{AllPairs-filter}
use Rattle.std.proofs.lemmas.Slice.Eq.{bytes_eq-Decides}
use Rattle.qm_model.specs.Common.{Form, Characteristic, inserted}
use Rattle.qm_keyed.specs.Places.{StandsAt, BelongsAt}
use Rattle.qm_keyed.proofs.Rows.{passes, find_at, lesser_is}
use Rattle.qm_keyed.proofs.Inserted.{inserted_at}
use Rattle.qm_keyed.proofs.Orders.{order_around}
use Rattle.qm_keyed.proofs.Pairs.{pairs_around}
use Rattle.qm_tables.specs.Forms.{Defined}
use Rattle.qm_tables.specs.FormsNumbered.{AreNumbered}
use Rattle.qm_tables.proofs.FormsFound.{none_found}

-- names that a test tells apart
pub differs : (a b : List ℕ) → bytes_eq a b ≡ false → a ≢ b
differs a b test same = let equal : bytes_eq a b ≡ true = (bytes_eq-Decides a b).1 same in cc (test, equal)

-- neither holds where one of them doesn't
pub or_false : (a b : Bool) → (a || b) ≡ false → (a ≡ false) × (b ≡ false)
or_false true b e = absurd (cc e)
or_false false b e = (refl, e)

module _ {X : Type 0} (number : X → ℕ) (name : X → List ℕ) (rows : List X) (x : X) (i : ℕ) where
  -- where no row has the number, none stands at its place
  pub untaken : StandsAt nat_cmp number (number x) rows i → is_some (find (λ (r : X). number r == number x) rows) ≡ false → ⊥
  untaken stands none =
      let found = find_at (λ (r : X). number r == number x) rows i x (passes number (number x) (λ (r : X). number r == number x) (λ r. unsigned_ties (number r) (number x)) rows i stands) in
      let some : is_some (find (λ (r : X). number r == number x) rows) ≡ true = ap is_some found in
      cc (some, none)

  -- a new row in its place
  pub put_is : BelongsAt nat_cmp number (number x) rows i → insert rows i x ≡ inserted (λ a b. nat_lt (number a) (number b)) x rows
  put_is belongs =
      sym (inserted_at nat_cmp_total number (λ (a b : X). nat_lt (number a) (number b)) x (λ y. lesser_is (number x) (number y)) rows i i belongs.before belongs.behind)
      ∙ ap (inserted (λ (a b : X). nat_lt (number a) (number b)) x) (take-append-drop i rows)

  -- its number and its name are new
  pub numbered_put : AreNumbered number name rows → BelongsAt nat_cmp number (number x) rows i → is_some (find (λ (r : X). bytes_eq (name r) (name x)) rows) ≡ false → AreNumbered number name (insert rows i x)
  numbered_put numbered belongs free =
      let others = none_found (λ (r : X). bytes_eq (name r) (name x)) rows free in
      record {
        order = order_around nat_cmp_total number rows numbered.order i i x (omega arith) belongs.before belongs.behind;
        distinct = pairs_around (λ (a b : X). name a ≢ name b) rows i i x (omega arith) numbered.distinct
            (λ k d low below. differs (name (get_or rows k d)) (name x) (others k d (omega (arith, below, belongs.within))))
            (λ k d low within same. differs (name (get_or rows k d)) (name x) (others k d within) (sym same));
      }

-- fewer rows
pub numbered_kept : {X : Type 0} (number : X → ℕ) (name : X → List ℕ) (p : X → Bool) (rows : List X) → AreNumbered number name rows → AreNumbered number name (filter p rows)
numbered_kept number name p rows numbered = record {
  order = AllPairs-filter (λ a b. nat_cmp (number a) (number b) ≡ Less) p rows numbered.order;
  distinct = AllPairs-filter (λ a b. name a ≢ name b) p rows numbered.distinct;
}

-- a small number more
pub small_put : (rows : List Characteristic) (c : Characteristic) (i : ℕ) → All (λ (d : Characteristic). d.number ≤ 127) rows → c.number ≤ 127 → All (λ (d : Characteristic). d.number ≤ 127) (insert rows i c)
small_put rows c i all small =
    All-append (λ (d : Characteristic). d.number ≤ 127) (take i rows) (c ∷ drop i rows)
    (All-take (λ (d : Characteristic). d.number ≤ 127) i rows all)
    (All-cons (λ (d : Characteristic). d.number ≤ 127) c (drop i rows) small (All-drop (λ (d : Characteristic). d.number ≤ 127) i rows all))

-- a table, by its parts
abbrev pub defined : List Form → List Characteristic → ℕ → ℕ → Defined
defined forms characteristics k l = record { forms = forms; characteristics = characteristics; spare_forms = k; spare_characteristics = l }

pub defined_is : (fs gs : List Form) (cs ds : List Characteristic) (k l m n : ℕ) → fs ≡ gs → cs ≡ ds → k ≡ l → m ≡ n → defined fs cs k m ≡ defined gs ds l n
defined_is fs gs cs ds k l m n forms characteristics first second =
    ap (λ (xs : List Form). defined xs cs k m) forms ∙ ap (λ (xs : List Characteristic). defined gs xs k m) characteristics
    ∙ ap (λ (i : ℕ). defined gs ds i m) first ∙ ap (λ (i : ℕ). defined gs ds l i) second
