-- Starts one after another, up to where nothing is left to start.
use Rattle.std.proofs.Common.{◌≡◌, ◌+◌, ◌≤◌, List, [], ◌∷◌, ◌++◌, length, refl, sym, ◌∙◌, ap, subst, arith, Option, None, Some, IfSome, IsSome, length-append}
use Rattle.qm_model.specs.Common.{Start, System}
use Rattle.qm_model.specs.Settling.{Choice, Settled, AreStarts, next_choice, after_start, start_of, settled}
use Rattle.qm_model.proofs.SettlingLemmas.{nothing_starts}
use Rattle.qm_model.proofs.StartLemmas.{are_starts}

-- the first of the starts, and the others
pub record Step (s : System) (x : Start) (xs : List Start) (end : System) : Type 0 where
  pub choice : Choice
  pub is : next_choice s ≡ Some choice
  pub start : x ≡ start_of s choice
  pub later : AreStarts (after_start s choice) xs end

step_at : (s : System) (x : Start) (xs : List Start) (end : System) (o : Option Choice) → next_choice s ≡ o
    → IsSome o × IfSome o (λ c. (x ≡ start_of s c) × AreStarts (after_start s c) xs end) → Step s x xs end
step_at s x xs end None is h = let some = h.0 in cc
step_at s x xs end (Some c) is h = record { choice = c; is = is; start = h.1.0; later = h.1.1 }

pub step : (s : System) (x : Start) (xs : List Start) (end : System) → AreStarts s (x ∷ xs) end → Step s x xs end
step s x xs end h = step_at s x xs end (next_choice s) refl h

pub first_step : (s : System) (c : Choice) (xs : List Start) (end : System) → next_choice s ≡ Some c → AreStarts (after_start s c) xs end → AreStarts s (start_of s c ∷ xs) end
first_step s c xs end is later =
    subst (λ (o : Option Choice). IsSome o × IfSome o (λ d. (start_of s c ≡ start_of s d) × AreStarts (after_start s d) xs end)) (sym is) (refl, (refl, later))

-- one start more
pub pushed : (s : System) (xs : List Start) (m : System) (c : Choice) → AreStarts s xs m → next_choice m ≡ Some c → AreStarts s (xs ++ start_of m c ∷ []) (after_start m c)
pushed s [] m c h is = subst (λ (t : System). AreStarts t (start_of m c ∷ []) (after_start m c)) h (first_step m c [] (after_start m c) is refl)
pushed s (x ∷ xs) m c h is =
    let st = step s x xs m h in
    subst (λ (y : Start). AreStarts s (y ∷ (xs ++ start_of m c ∷ [])) (after_start m c)) (sym st.start)
    (first_step s st.choice (xs ++ start_of m c ∷ []) (after_start m c) st.is (pushed (after_start s st.choice) xs m c st.later is))

one_choice : (s : System) (c d : Choice) → next_choice s ≡ Some c → next_choice s ≡ Some d → d ≡ c
one_choice s c d h k = cc

not_none : (s e : System) (c : Choice) → next_choice s ≡ Some c → next_choice e ≡ None → e ≡ s → ⊥
not_none s e c some none same = let at : next_choice s ≡ None = ap next_choice (sym same) ∙ none in cc

no_longer : (s : System) (xs ys : List Start) (m e : System) → AreStarts s xs m → AreStarts s ys e → next_choice e ≡ None → length xs ≤ length ys
no_longer s [] ys m e h k none = omega arith
no_longer s (x ∷ xs) [] m e h k none = let st = step s x xs m h in absurd (not_none s e st.choice st.is none k)
no_longer s (x ∷ xs) (y ∷ ys) m e h k none =
    let st = step s x xs m h in
    let other = step s y ys e k in
    let later : AreStarts (after_start s st.choice) ys e =
    subst (λ (c : Choice). AreStarts (after_start s c) ys e) (one_choice s st.choice other.choice st.is other.is) other.later in
    omega (arith, no_longer (after_start s st.choice) xs ys m e st.later later none)

-- what is started can't be more than what settling starts
pub within_settled : (s : System) (xs : List Start) (m : System) (c : Choice) → AreStarts s xs m → next_choice m ≡ Some c → length xs + 1 ≤ length (settled s).started
within_settled s xs m c h is =
    omega (
      arith,
      length-append xs (start_of m c ∷ []),
      no_longer s (xs ++ start_of m c ∷ []) (settled s).started (after_start m c) (settled s).system (pushed s xs m c h is) (are_starts s) (nothing_starts s),
    )

same_starts : (s : System) (xs ys : List Start) (m e : System) → AreStarts s xs m → next_choice m ≡ None → AreStarts s ys e → next_choice e ≡ None → (xs ≡ ys) × (m ≡ e)
same_starts s [] [] m e h none k also = (refl, h ∙ sym k)
same_starts s [] (y ∷ ys) m e h none k also = let st = step s y ys e k in absurd (not_none s m st.choice st.is none h)
same_starts s (x ∷ xs) [] m e h none k also = let st = step s x xs m h in absurd (not_none s e st.choice st.is also k)
same_starts s (x ∷ xs) (y ∷ ys) m e h none k also =
    let st = step s x xs m h in
    let other = step s y ys e k in
    let one : other.choice ≡ st.choice = one_choice s st.choice other.choice st.is other.is in
    let later : AreStarts (after_start s st.choice) ys e = subst (λ (c : Choice). AreStarts (after_start s c) ys e) one other.later in
    let rest = same_starts (after_start s st.choice) xs ys m e st.later none later also in
    let front : x ≡ y = st.start ∙ ap (start_of s) (sym one) ∙ sym other.start in
    (ap (λ z. z ∷ xs) front ∙ ap (λ l. y ∷ l) rest.0, rest.1)

abbrev settled_as : System → List Start → Settled
settled_as s xs = record { system = s; started = xs }

-- where nothing is left to start, the system is settled
pub all_started : (s : System) (xs : List Start) (m : System) → AreStarts s xs m → next_choice m ≡ None → settled s ≡ record { system = m; started = xs }
all_started s xs m h none =
    let same = same_starts s (settled s).started xs (settled s).system m (are_starts s) (nothing_starts s) h none in
    ap (λ (t : System). settled_as t (settled s).started) same.1 ∙ ap (settled_as m) same.0
