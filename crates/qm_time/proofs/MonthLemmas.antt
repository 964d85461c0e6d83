-- Words in front of a text.
use Rattle.std.proofs.Common.{◌≡◌, ℕ, zero, suc, ◌+◌, ◌-◌, ◌<◌, ◌≤◌, cond, nat_eq, max, List, [], length, drop, get_or, Option, None, Some, refl, sym, arith, eq-eqb, false, true, is_some, Bool, ◌∷◌, ne_eqb}
use Rattle.std.specs.List.{common_prefix_len}
use Rattle.std.proofs.lemmas.List.Sums.{common_prefix_len-drop_yes, common_prefix_len-drop_no}
use Rattle.std.proofs.lemmas.List.{drop_all}
use Rattle.qm_model.specs.MomentText.{month_letters}
use Rattle.qm_time.specs.Months.{shared, month_in_front, most_shared}

-- one more byte is shared
pub shared-on : (word text : List ℕ) (i : ℕ) → i < length word → i < length text → get_or text i 0 ≡ get_or word i 0 → common_prefix_len nat_eq (drop i word) (drop i text) ≡ 1 + common_prefix_len nat_eq (drop (i + 1) word) (drop (i + 1) text)
shared-on word text i inside there same =
    common_prefix_len-drop_yes nat_eq word text i 0 0 inside there (eq-eqb _ _ (sym same))

-- no more bytes are shared where they differ
pub shared-differ : (word text : List ℕ) (i : ℕ) → i < length word → i < length text → (get_or text i 0 ≡ get_or word i 0 → ⊥) → common_prefix_len nat_eq (drop i word) (drop i text) ≡ 0
shared-differ word text i inside there differ =
    common_prefix_len-drop_no nat_eq word text i 0 0 inside there (ne_eqb _ _ (λ e. differ (sym e)))

shared-none : (word : List ℕ) → common_prefix_len nat_eq word [] ≡ 0
shared-none [] = refl
shared-none (w ∷ word) = refl

-- or where the text ends
pub shared-end : (word text : List ℕ) (i : ℕ) → i ≡ length text → common_prefix_len nat_eq (drop i word) (drop i text) ≡ 0
shared-end word text i e = rw (drop_all i text (omega (arith, e))) (shared-none (drop i word))

none_then : (o p : Option ℕ) (b : Bool) → o ≡ None → b ≡ false → cond (is_some o) o (cond b p None) ≡ None
none_then o p b e f = rw (e, f) refl

some_then : (o : Option ℕ) (m : ℕ) (b : Bool) → o ≡ None → b ≡ true → cond (is_some o) o (cond b (Some m) None) ≡ Some m
some_then o m b e f = rw (e, f) refl

-- a further month isn't there
pub month_in_front-none : (month : ℕ) (text : List ℕ) → 1 ≤ month → month_in_front (month - 1) text ≡ None → (shared (month_letters month) text ≡ 3 → ⊥) → month_in_front month text ≡ None
unfolding month_in_front
month_in_front-none zero text low none other = absurd (omega arith)
month_in_front-none (suc month) text low none other =
    let back : suc month - 1 ≡ month = omega arith in
    none_then _ _ _ (rw back at none) (ne_eqb _ _ other)

pub most_shared-more : (month : ℕ) (text : List ℕ) → 1 ≤ month → most_shared month text ≡ max (most_shared (month - 1) text) (shared (month_letters month) text)
unfolding most_shared
most_shared-more zero text low = absurd (omega arith)
most_shared-more (suc month) text low =
    let back : suc month - 1 ≡ month = omega arith in
    rw back (refl)

-- or it is, and then it is the first of more months too
pub month_in_front-some : (month : ℕ) (text : List ℕ) → 1 ≤ month → month_in_front (month - 1) text ≡ None → shared (month_letters month) text ≡ 3 → month_in_front month text ≡ Some month
unfolding month_in_front
month_in_front-some zero text low none same = absurd (omega arith)
month_in_front-some (suc month) text low none same =
    let back : suc month - 1 ≡ month = omega arith in
    some_then _ _ _ (rw back at none) (eq-eqb _ _ same)

stays : (o p : Option ℕ) (m : ℕ) → o ≡ Some m → cond (is_some o) o p ≡ Some m
stays o p m e = rw e refl

pub month_in_front-stays : (more month found : ℕ) (text : List ℕ) → month_in_front month text ≡ Some found → month_in_front (more + month) text ≡ Some found
unfolding month_in_front
month_in_front-stays zero month found text is = let same : zero + month ≡ month = omega arith in rw same is
month_in_front-stays (suc more) month found text is =
    let next : suc more + month ≡ suc (more + month) = omega arith in
    rw next (stays _ _ found (month_in_front-stays more month found text is))
