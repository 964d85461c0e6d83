-- The text of a moment is ASCII.
use Rattle.std.proofs.Common.{◌≡◌, ℕ, zero, suc, ◌/◌, ◌%◌, ◌<◌, List, [], ◌∷◌, length, lit<, refl, arith, ℤ, pos, to_z, of_z, nat_abs, ◌^◌, slice_index, ◌==◌, cond, Bool, true, false, IsAscii, IsUtf8}
use Rattle.std.specs.Int.{Width}
use Rattle.jiff_core.proofs.SignedLemmas.{back_small}
use Rattle.qm_model.specs.Calendar.{date_of_day}
use Rattle.qm_model.specs.MomentText.{two_digits, four_digits, right_in_two, month_letters, moment_text}
use mir.Val.{hbits}
use Rattle.std.proofs.lemmas.Str.{IsUtf8-from_ascii}

-- ASCII is text
pub ascii_is_text : (bytes : List ℕ) → (length bytes ≡ 23) × IsAscii bytes → IsUtf8 bytes
ascii_is_text bytes h = IsUtf8-from_ascii bytes h.1

-- the same as a record, from which the bytes can be inferred
pub record Low (bytes : List ℕ) : Type 0 where
  pub each : IsAscii bytes

low_nil : Low []
low_nil = record { each = λ i. lit< tt }

low_cons : (b : ℕ) (bs : List ℕ) → b < 128 → Low bs → Low (b ∷ bs)
low_cons b bs low rest = record { each = each } where
  each : IsAscii (b ∷ bs)
  each zero = low
  each (suc i) = rest.each i

-- three bytes, each at its place
abbrev pub by_three : List ℕ → List ℕ
by_three xs = slice_index xs 0 ∷ slice_index xs 1 ∷ slice_index xs 2 ∷ []

of_two : (b : Bool) (xs ys : List ℕ) → xs ≡ by_three xs → ys ≡ by_three ys → cond b xs ys ≡ by_three (cond b xs ys)
of_two true xs ys x y = x
of_two false xs ys x y = y

-- a month has three letters
pub month_letters-three : (month : ℕ) → month_letters month ≡ by_three (month_letters month)
unfolding month_letters
month_letters-three month =
    of_two (month == 1) _ _ refl (of_two (month == 2) _ _ refl (of_two (month == 3) _ _ refl (of_two (month == 4) _ _ refl (of_two (month == 5) _ _ refl (of_two (month == 6) _ _ refl
    (of_two (month == 7) _ _ refl (of_two (month == 8) _ _ refl (of_two (month == 9) _ _ refl (of_two (month == 10) _ _ refl (of_two (month == 11) _ _ refl refl))))))))))

-- what goes through a signed number and back is what it was
pub plain : (w : Width) (z : ℤ) (n : ℕ) → z ≡ pos n → n < 2 ^ hbits w → nat_abs (to_z w (of_z w z)) ≡ n
plain w z n e low = rw (e, back_small w (pos n) low) refl

-- the pieces of a moment's text, one behind another
pub spelled : (moment : ℕ) (d m y h n s c : List ℕ)
    → d ≡ right_in_two (date_of_day (moment / 8640000)).day
    → m ≡ month_letters (date_of_day (moment / 8640000)).month
    → y ≡ four_digits (date_of_day (moment / 8640000)).year
    → h ≡ two_digits (moment % 8640000 / 360000)
    → n ≡ two_digits (moment % 8640000 / 6000 % 60)
    → s ≡ two_digits (moment % 8640000 / 100 % 60)
    → c ≡ two_digits (moment % 8640000 % 100)
    → slice_index d 0 ∷ slice_index d 1 ∷ 45 ∷ slice_index m 0 ∷ slice_index m 1 ∷ slice_index m 2 ∷ 45 ∷ slice_index y 0 ∷ slice_index y 1 ∷ slice_index y 2 ∷ slice_index y 3 ∷ 32
    ∷ slice_index h 0 ∷ slice_index h 1 ∷ 58 ∷ slice_index n 0 ∷ slice_index n 1 ∷ 58 ∷ slice_index s 0 ∷ slice_index s 1 ∷ 46 ∷ slice_index c 0 ∷ slice_index c 1 ∷ []
    ≡ moment_text moment
unfolding moment_text
spelled moment d m y h n s c ed em ey eh en es ec =
    rw (ed, em, ey, eh, en, es, ec) (rw (month_letters-three (date_of_day (moment / 8640000)).month) refl)

pub spelled_is_ascii : (d m y h n s c : List ℕ) → IsAscii d → IsAscii m → IsAscii y → IsAscii h → IsAscii n → IsAscii s → IsAscii c
    → IsAscii (slice_index d 0 ∷ slice_index d 1 ∷ 45 ∷ slice_index m 0 ∷ slice_index m 1 ∷ slice_index m 2 ∷ 45 ∷ slice_index y 0 ∷ slice_index y 1 ∷ slice_index y 2 ∷ slice_index y 3 ∷ 32
    ∷ slice_index h 0 ∷ slice_index h 1 ∷ 58 ∷ slice_index n 0 ∷ slice_index n 1 ∷ 58 ∷ slice_index s 0 ∷ slice_index s 1 ∷ 46 ∷ slice_index c 0 ∷ slice_index c 1 ∷ [])
spelled_is_ascii d m y h n s c ad am ay ah an as_ ac =
    (low_cons (slice_index d 0) _ (ad 0) (low_cons (slice_index d 1) _ (ad 1) (low_cons 45 _ (omega arith) (low_cons (slice_index m 0) _ (am 0) (low_cons (slice_index m 1) _ (am 1) (low_cons (slice_index m 2) _ (am 2) (low_cons 45 _ (omega arith)
    (low_cons (slice_index y 0) _ (ay 0) (low_cons (slice_index y 1) _ (ay 1) (low_cons (slice_index y 2) _ (ay 2) (low_cons (slice_index y 3) _ (ay 3) (low_cons 32 _ (omega arith)
    (low_cons (slice_index h 0) _ (ah 0) (low_cons (slice_index h 1) _ (ah 1) (low_cons 58 _ (omega arith) (low_cons (slice_index n 0) _ (an 0) (low_cons (slice_index n 1) _ (an 1) (low_cons 58 _ (omega arith)
    (low_cons (slice_index s 0) _ (as_ 0) (low_cons (slice_index s 1) _ (as_ 1) (low_cons 46 _ (omega arith) (low_cons (slice_index c 0) _ (ac 0) (low_cons (slice_index c 1) _ (ac 1) low_nil))))))))))))))))))))))).each
