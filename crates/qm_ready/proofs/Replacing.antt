-- One key in the place of another one of its number: where it belongs, and what becomes of the row.
use Rattle.std.proofs.Common.{◌≡◌, ◌≢◌, ◌∙◌, ℕ, ◌-◌, ◌+◌, ◌<◌, ◌≤◌, ◌==◌, Bool, true, false, cond, List, length, get_or, Option, Some, None, refl, sym, ap, subst, ⊎_elim, arith, All, insert, remove}
use Rattle.std.proofs.lemmas.Bool.{cases_lt}
use Rattle.std.proofs.lemmas.Bool.Decides.{nat_tests}
use Rattle.std.proofs.lemmas.List.Edits.{length-remove, get_or-remove_below, get_or-remove_above}
use Rattle.qm_match.specs.declared.order.Key.{Key}
use Rattle.qm_match.specs.declared.order.Schedule.{Schedule}
use Rattle.qm_match.specs.Keys.{comes_before}
use Rattle.qm_ready.specs.Rows.{IsRow, key_numbered, with_key, without}
use Rattle.qm_ready.specs.Kept.{IsPlaceOf}
use Rattle.qm_ready.proofs.Keeping.{put_is, row_put, row_without}
use Rattle.qm_ready.proofs.Numbers.{absent_all, numbered-inserted, numbered-without}
use Rattle.qm_ready.proofs.Searches.{StandsAt, taken_out}

-- the place of a key among all keys but one
module _ (s : Schedule) (keys : List Key) (p i : ℕ) (key : Key) (within : p < length keys) (place : IsPlaceOf s key keys i) where
  front : (k : ℕ) (d : Key) → (k < p → comes_before s (get_or keys k d) key ≡ true) → (p ≤ k → comes_before s (get_or keys (k + 1) d) key ≡ true) → comes_before s (get_or (remove keys p) k d) key ≡ true
  front k d below above = ⊎_elim
      (λ (less : k < p). ap (λ (u : Key). comes_before s u key) (get_or-remove_below keys p d k less within) ∙ below less)
      (λ (past : p ≤ k). ap (λ (u : Key). comes_before s u key) (get_or-remove_above keys p d k past within) ∙ above past)
      (cases_lt k p)

  back : (k : ℕ) (d : Key) → (k < p → comes_before s (get_or keys k d) key ≡ false) → (p ≤ k → comes_before s (get_or keys (k + 1) d) key ≡ false) → comes_before s (get_or (remove keys p) k d) key ≡ false
  back k d below above = ⊎_elim
      (λ (less : k < p). ap (λ (u : Key). comes_before s u key) (get_or-remove_below keys p d k less within) ∙ below less)
      (λ (past : p ≤ k). ap (λ (u : Key). comes_before s u key) (get_or-remove_above keys p d k past within) ∙ above past)
      (cases_lt k p)

  -- that one stands before it,
  pub beside_before : p < i → IsPlaceOf s key (remove keys p) (i - 1)
  beside_before order =
      let size = length-remove keys p within in
      record {
        within = omega (arith, size, place.within);
        before = λ k d low below. front k d (λ less. place.before k d (omega arith) (omega (arith, below))) (λ past. place.before (k + 1) d (omega arith) (omega (arith, below, order)));
        behind = λ k d low inside. back k d (λ less. absurd (omega (arith, low, order, less))) (λ past. place.behind (k + 1) d (omega (arith, low)) (omega (arith, inside, size)));
      }

  -- or not
  pub beside_behind : i ≤ p → IsPlaceOf s key (remove keys p) i
  beside_behind order =
      let size = length-remove keys p within in
      record {
        within = omega (arith, size, order, within);
        before = λ k d low below. front k d (λ less. place.before k d (omega arith) below) (λ past. absurd (omega (arith, below, order, past)));
        behind = λ k d low inside. back k d (λ less. place.behind k d low (omega (arith, less, within))) (λ past. place.behind (k + 1) d (omega (arith, low)) (omega (arith, inside, size)));
      }

-- what becomes of the row
module _ (s : Schedule) (keys : List Key) (row : IsRow s keys) (p i : ℕ) (key : Key) (at : StandsAt keys p key.number) (place : IsPlaceOf s key (remove keys p) i) where
  gone : remove keys p ≡ without key.number keys
  gone = taken_out keys p key.number row.once at

  none : key_numbered key.number (remove keys p) ≡ None
  none =
      let same : (key.number == key.number) ≡ true = grind (arith, nat_tests) in
      ap (key_numbered key.number) gone ∙ numbered-without key.number key.number keys
      ∙ ap (λ (b : Bool). cond b None (key_numbered key.number keys)) same

  others : All (λ k. k.number ≢ key.number) (remove keys p)
  others = absent_all key.number (remove keys p) none

  pub replaced_is : insert (remove keys p) i key ≡ with_key s key (without key.number keys)
  replaced_is = put_is s (remove keys p) i key place others ∙ ap (λ (l : List Key). with_key s key l) gone

  pub replaced_row : IsRow s (insert (remove keys p) i key)
  replaced_row = row_put s (remove keys p) i key place others (subst (IsRow s) (sym gone) (row_without s keys key.number row))

  either : (b : Bool) (o : Option Key) → cond b (Some key) (cond b None o) ≡ cond b (Some key) o
  either true o = refl
  either false o = refl

  pub replaced_numbers : (number : ℕ) → key_numbered number (insert (remove keys p) i key) ≡ cond (key.number == number) (Some key) (key_numbered number keys)
  replaced_numbers number =
      ap (key_numbered number) (put_is s (remove keys p) i key place others) ∙ numbered-inserted (comes_before s) key (remove keys p) others number
      ∙ ap (λ (l : List Key). cond (key.number == number) (Some key) (key_numbered number l)) gone
      ∙ ap (λ (o : Option Key). cond (key.number == number) (Some key) o) (numbered-without number key.number keys)
      ∙ either (key.number == number) (key_numbered number keys)
