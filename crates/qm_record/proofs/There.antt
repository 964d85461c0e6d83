-- What is there to be read, though it isn't kept.
use Rattle.std.proofs.Common.{◌≡◌, ℕ, List, Result, Ok, Err, refl, false, Some, zero, suc, arith, ◌==◌}
use Rattle.std.proofs.lemmas.Bool.Decides.{nat_tests}
use Rattle.qm_bytes.specs.Reading.{Reader, onward, pure, IsThere, GivesKept, byte_where, between, optional_at, list_at}

-- a field that was read, and what is there behind it
pub then_there : {A B : Type 0} {found : Result (A × List ℕ) ℕ} (next : A → Reader B) {middle rest : List ℕ} {x : A}
    → found ≡ Ok (x, middle) → IsThere rest (next x middle) → IsThere rest (onward found next)
then_there next e there = (there.0, rw e there.1)

-- a field that is there, and what is there behind it, whatever the field is
behind_there : {A B : Type 0} {found : Result (A × List ℕ) ℕ} (next : A → Reader B) {middle rest : List ℕ}
    → IsThere middle found → ((x : A) → IsThere rest (next x middle)) → IsThere rest (onward found next)
behind_there next first there = ((there first.0).0, rw first.1 (there first.0).1)

-- the same of a field that may have been kept
pub kept_there : {A B E : Type 0} (found : Result (A × List ℕ) ℕ) (next : A → Reader B) {middle rest : List ℕ} (kept : Result A E)
    → GivesKept (Ok kept) middle found → ((x : A) → IsThere rest (next x middle)) → IsThere rest (onward found next)
kept_there found next (Ok x) e there = behind_there next (x, e) there
kept_there found next (Err no_memory) first there = behind_there next first there

-- nothing more is read
pub all_there : {A : Type 0} (x : A) (rest : List ℕ) → IsThere rest (pure x rest)
all_there x rest = (x, refl)

-- a value is made of what is there
pub made_there : {A B : Type 0} {read : Result (A × List ℕ) ℕ} (make : A → B) {rest : List ℕ} → IsThere rest read
    → IsThere rest (onward read (λ x. pure (make x)))
made_there make there = (make there.0, rw there.1 refl)

not_zero : (b : ℕ) → (b ≡ 0 → ⊥) → (b == 0) ≡ false
not_zero zero h = absurd (h refl)
not_zero (suc n) h = grind (arith, nat_tests)

pub some_list_there : {A : Type 0} (read : Reader A) (bytes : List ℕ) (b : ℕ) (middle rest : List ℕ)
    → byte_where (between 0 1) bytes ≡ Ok (b, middle)
    → (b ≡ 0 → ⊥) → IsThere rest (list_at read middle) → IsThere rest (optional_at (list_at read) bytes)
unfolding optional_at
some_list_there read bytes b middle rest first test there = (Some there.0, rw (first, not_zero b test, there.1) refl)
