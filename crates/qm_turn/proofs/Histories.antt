-- Histories that grow, and what passes know of them.
use Rattle.std.proofs.Common.{◌≡◌, ◌≢◌, ℕ, suc, ◌+◌, List, [], ◌∷◌, ◌++◌, length, refl, sym, ap, ◌∙◌, arith, append_assoc, append-nil}
use mathlib.Core.List.{IsPrefix}
use Rattle.std.proofs.lemmas.Bool.Decides.{nat_tests}
use Rattle.qm_turn.specs.History.{notes, note_by, notes_by, Agrees, numbers_of, times}
use Rattle.qm_turn.specs.Rule.{count}

module _ {N : Type 0} where
  pub prefix_same : (xs : List (ℕ × N)) → IsPrefix xs xs
  prefix_same xs = ([], append-nil xs)

  pub prefix_more : (xs ys zs : List (ℕ × N)) → IsPrefix xs ys → IsPrefix xs (ys ++ zs)
  prefix_more xs ys zs p = (p.0 ++ zs, sym (append_assoc xs p.0 zs) ∙ ap (λ l. l ++ zs) p.1)

  pub prefix_nil : (xs : List (ℕ × N)) → IsPrefix [] xs
  prefix_nil xs = (xs, refl)

  pub notes-append : (xs ys : List (ℕ × N)) → notes (xs ++ ys) ≡ notes xs ++ notes ys
  notes-append [] ys = refl
  notes-append (x ∷ xs) ys = ap (λ l. x.1 ∷ l) (notes-append xs ys)

  pub notes_by-append : (k : ℕ) (xs ys : List (ℕ × N)) → notes_by k (xs ++ ys) ≡ notes_by k xs ++ notes_by k ys
  notes_by-append k [] ys = refl
  notes_by-append k (x ∷ xs) ys = ap (λ l. note_by k x ++ l) (notes_by-append k xs ys) ∙ sym (append_assoc (note_by k x) (notes_by k xs) (notes_by k ys))

  note_by_other : (k n : ℕ) (x : N) → n ≢ k → note_by k (n, x) ≡ []
  note_by_other k n x apart = grind (arith, nat_tests)

  note_by_same : (n : ℕ) (x : N) → note_by n (n, x) ≡ x ∷ []
  note_by_same n x = grind (arith, nat_tests)

  pub notes_by_other : (log : List (ℕ × N)) (k n : ℕ) (x : N) → n ≢ k → notes_by k (log ++ (n, x) ∷ []) ≡ notes_by k log
  notes_by_other log k n x apart =
      notes_by-append k log ((n, x) ∷ []) ∙ ap (λ l. notes_by k log ++ (l ++ [])) (note_by_other k n x apart) ∙ append-nil (notes_by k log)

  pub notes_by_same : (log : List (ℕ × N)) (n : ℕ) (x : N) → notes_by n (log ++ (n, x) ∷ []) ≡ notes_by n log ++ x ∷ []
  notes_by_same log n x = notes_by-append n log ((n, x) ∷ []) ∙ ap (λ l. notes_by n log ++ (l ++ [])) (note_by_same n x)

  -- a turn of another pass changes nothing
  pub agrees_more : (log : List (ℕ × N)) (n : ℕ) (x : N) (ps : List (ℕ × List N)) → times n (numbers_of ps) ≡ 0 → Agrees log ps → Agrees (log ++ (n, x) ∷ []) ps
  agrees_more log n x [] none a = tt
  agrees_more log n x (p ∷ ps) none a =
      let apart : n ≢ p.0 = λ e. apart_from n p.0 (numbers_of ps) none (sym e) in
      (notes_by_other log p.0 n x apart ∙ a.0, agrees_more log n x ps (omega arith) a.1)
    where
      apart_from : (n m : ℕ) (ns : List ℕ) → times n (m ∷ ns) ≡ 0 → m ≡ n → ⊥
      apart_from n m ns none e = grind (arith, nat_tests)

  pub agrees-append : (log : List (ℕ × N)) (ps qs : List (ℕ × List N)) → Agrees log ps → Agrees log qs → Agrees log (ps ++ qs)
  agrees-append log [] qs a b = b
  agrees-append log (p ∷ ps) qs a b = (a.0, agrees-append log ps qs a.1 b)

  pub numbers_of-append : (ps qs : List (ℕ × List N)) → numbers_of (ps ++ qs) ≡ numbers_of ps ++ numbers_of qs
  numbers_of-append [] qs = refl
  numbers_of-append (p ∷ ps) qs = ap (λ l. p.0 ∷ l) (numbers_of-append ps qs)

  pub length-numbers_of : (ps : List (ℕ × List N)) → length (numbers_of ps) ≡ length ps
  length-numbers_of [] = refl
  length-numbers_of (p ∷ ps) = ap suc (length-numbers_of ps)

  pub count-append : (ps qs : List (ℕ × List N)) → count (ps ++ qs) ≡ count ps + count qs
  count-append [] qs = omega arith
  count-append (p ∷ ps) qs = let h = count-append ps qs in omega arith
