-- Laws of files of gated records.
use Rattle.std.proofs.Common.{inl, inr, refl, sym, ◌∙◌, ap, subst, arith, length-append, append_assoc, ◌≡◌, ◌≢◌, ◌⊎◌, ℕ, ◌+◌, ◌^◌, ◌<◌, List, [], ◌∷◌, ◌++◌, length, take, drop, append-nil, take_at, drop_at}
use Rattle.std.specs.Int.{w32, to_le_bytes, from_le_bytes}
use Rattle.std.proofs.lemmas.Nat.{from_le_bytes-to_le_bytes_4}
use Rattle.qm_glog.specs.Records.{behind_gate, text, size_of, Fit, IsLog, IsBroken, IsDamaged}

pub length-behind_gate : (body : List ℕ) → length (behind_gate body) ≡ 4 + length body
unfolding behind_gate
length-behind_gate body = omega (arith, length-append (to_le_bytes w32 (length body)) body)

-- one record more
pub text-push : (bodies : List (List ℕ)) (body rest : List ℕ) → text (bodies ++ body ∷ []) ++ rest ≡ text bodies ++ 1 ∷ (behind_gate body ++ rest)
text-push [] body rest = ap (λ (l : List ℕ). 1 ∷ (l ++ rest)) (append-nil (behind_gate body))
text-push (b ∷ bodies) body rest =
    append_assoc (1 ∷ behind_gate b) (text (bodies ++ body ∷ [])) rest
    ∙ ap (λ (l : List ℕ). (1 ∷ behind_gate b) ++ l) (text-push bodies body rest)
    ∙ sym (append_assoc (1 ∷ behind_gate b) (text bodies) (1 ∷ (behind_gate body ++ rest)))

-- records take as many bytes as their size says
pub length-text : (bodies : List (List ℕ)) → length (text bodies) ≡ size_of bodies
length-text [] = refl
length-text (body ∷ bodies) = omega (arith, length-append (behind_gate body) (text bodies), length-behind_gate body, length-text bodies)

pub size_of-push : (bodies : List (List ℕ)) (body : List ℕ) → size_of (bodies ++ body ∷ []) ≡ size_of bodies + 5 + length body
size_of-push [] body = omega arith
size_of-push (b ∷ bodies) body = omega (arith, size_of-push bodies body)

-- short records are fit
pub Fit-short : (bodies : List (List ℕ)) → size_of bodies < 2 ^ 32 → Fit bodies
Fit-short [] short = tt
Fit-short (body ∷ bodies) short = (omega (arith, short), Fit-short bodies (omega (arith, short)))

-- records behind others
pub size_of-append : (a b : List (List ℕ)) → size_of (a ++ b) ≡ size_of a + size_of b
size_of-append [] b = omega arith
size_of-append (body ∷ a) b = omega (arith, size_of-append a b)

pub Fit-push : (bodies : List (List ℕ)) (body : List ℕ) → Fit bodies → length body < 2 ^ 32 → Fit (bodies ++ body ∷ [])
Fit-push [] body fit small = (small, tt)
Fit-push (b ∷ bodies) body fit small = (fit.0, Fit-push bodies body fit.1 small)

-- what stands behind a gate tells the body's length
pub length_at_gate : (body rest : List ℕ) → length body < 2 ^ 32 → from_le_bytes w32 (take 4 (behind_gate body ++ rest)) ≡ length body
unfolding behind_gate
length_at_gate body rest small =
    let front : take 4 (to_le_bytes w32 (length body) ++ body ++ rest) ≡ to_le_bytes w32 (length body) = refl in
    ap (λ (l : List ℕ). from_le_bytes w32 l) front ∙ from_le_bytes-to_le_bytes_4 (length body) small

behind_length : (body rest : List ℕ) → drop 4 (behind_gate body ++ rest) ≡ body ++ rest
unfolding behind_gate
behind_length body rest = refl

-- two records that begin alike are one
pub same_record : (a b x y : List ℕ) → length a < 2 ^ 32 → length b < 2 ^ 32 → behind_gate a ++ x ≡ behind_gate b ++ y → (a ≡ b) × (x ≡ y)
same_record a b x y small_a small_b same =
    let lengths : length a ≡ length b =
    sym (length_at_gate a x small_a) ∙ ap (λ (l : List ℕ). from_le_bytes w32 (take 4 l)) same ∙ length_at_gate b y small_b in
    let tails : a ++ x ≡ b ++ y = sym (behind_length a x) ∙ ap (λ (l : List ℕ). drop 4 l) same ∙ behind_length b y in
    let bodies : a ≡ b = sym (take_at a x (length a) refl) ∙ ap (λ (l : List ℕ). take (length a) l) tails ∙ take_at b y (length a) (sym lengths) in
    let rests : x ≡ y = sym (drop_at a x (length a) refl) ∙ ap (λ (l : List ℕ). drop (length a) l) tails ∙ drop_at b y (length a) (sym lengths) in
    (bodies, rests)

-- what behind whole records is no further record: a closed gate, or the end
abbrev pub IsEnd : List ℕ → Type 0
IsEnd [] = Unit {0}
IsEnd (gate ∷ rest) = (gate ≢ 1) ⊎ IsBroken (gate ∷ rest)

-- a record isn't broken
whole_record : (body x : List ℕ) → length body < 2 ^ 32 → IsEnd (1 ∷ (behind_gate body ++ x)) → ⊥
whole_record body x small (inl shut) = shut refl
whole_record body x small (inr broken) =
    let says : from_le_bytes w32 (take 4 (behind_gate body ++ x)) ≡ length body = length_at_gate body x small in
    omega (arith, broken.1, says, length-append (behind_gate body) x, length-behind_gate body)

-- a file has one reading
pub one_split : (a b : List (List ℕ)) (x y : List ℕ) → Fit a → Fit b → IsEnd x → IsEnd y → text a ++ x ≡ text b ++ y → (a ≡ b) × (x ≡ y)
one_split [] [] x y fit_a fit_b end_x end_y same = (refl, same)
one_split [] (b ∷ bs) x y fit_a fit_b end_x end_y same =
    absurd (whole_record b (text bs ++ y) fit_b.0 (subst IsEnd (same ∙ append_assoc (1 ∷ behind_gate b) (text bs) y) end_x))
one_split (a ∷ as') [] x y fit_a fit_b end_x end_y same =
    absurd (whole_record a (text as' ++ x) fit_a.0 (subst IsEnd (sym same ∙ append_assoc (1 ∷ behind_gate a) (text as') x) end_y))
one_split (a ∷ as') (b ∷ bs) x y fit_a fit_b end_x end_y same =
    let behind : 1 ∷ (behind_gate a ++ (text as' ++ x)) ≡ 1 ∷ (behind_gate b ++ (text bs ++ y)) =
    sym (append_assoc (1 ∷ behind_gate a) (text as') x) ∙ same ∙ append_assoc (1 ∷ behind_gate b) (text bs) y in
    let first = same_record a b (text as' ++ x) (text bs ++ y) fit_a.0 fit_b.0 (ap (λ (l : List ℕ). drop 1 l) behind) in
    let others = one_split as' bs x y fit_a.1 fit_b.1 end_x end_y first.1 in
    ((λ i. first.0 i ∷ others.0 i), others.1)

broken_ends : (x : List ℕ) → IsBroken x → IsEnd x
broken_ends [] broken = tt
broken_ends (gate ∷ rest) broken = inr broken

-- a file is the log of one list of records
pub one_list : (file : List ℕ) (a b : List (List ℕ)) → IsLog file a → IsLog file b → a ≡ b
one_list file a b left right =
    (one_split a b (left.gate ∷ left.rest) (right.gate ∷ right.rest) left.fit right.fit (inl left.shut) (inl right.shut) (sym left.whole ∙ right.whole)).0

-- a log isn't damaged
pub sound_if_log : (file : List ℕ) (a : List (List ℕ)) (place : ℕ) → IsLog file a → IsDamaged file place → ⊥
sound_if_log file a place log damaged =
    let same = one_split a damaged.bodies (log.gate ∷ log.rest) damaged.rest log.fit damaged.fit (inl log.shut) (broken_ends damaged.rest damaged.broken) (sym log.whole ∙ damaged.whole) in
    let broken : IsBroken (log.gate ∷ log.rest) = subst IsBroken (sym same.1) damaged.broken in
    log.shut broken.0

-- a file is damaged at one place
pub one_place : (file : List ℕ) (p q : ℕ) → IsDamaged file p → IsDamaged file q → p ≡ q
one_place file p q left right =
    let same = one_split left.bodies right.bodies left.rest right.rest left.fit right.fit (broken_ends left.rest left.broken) (broken_ends right.rest right.broken) (sym left.whole ∙ right.whole) in
    left.place_is ∙ ap size_of same.0 ∙ sym right.place_is
