-- What is known where a request isn't refused.
use Rattle.std.proofs.Common.{◌≡◌, ℕ, ◌<◌, ◌≤◌, Bool, true, false, cond, not, ◌||◌, List, ◌∷◌, refl, arith, Option, None, Some, Ok, All, find, ◌==◌, nat_lt, nat_le, is_none, IfSome, IsSome}
use Rattle.std.specs.Option.{option_map, option_map_or}
use Rattle.std.proofs.lemmas.Bool.Decides.{nat_tests}
use Rattle.qm_model.specs.Common.{Entry, JobKind, Queue, Refusal, NumbersSpent, job_kind, is_same_kind, is_other_kind, Accepted, refused_where, first_refusal, unless_refused, refused_by_queue, refused_by_entry}
use Rattle.qm_kinds.specs.declared.entry.JobKind.TheVariants.{Batch, Print}
use Rattle.qm_model.proofs.InsertLemmas.{not_found}

pub none_first : (o : Option Refusal) (os : List (Option Refusal)) → first_refusal (o ∷ os) ≡ None → (o ≡ None) × (first_refusal os ≡ None)
none_first None os h = (refl, h)
none_first (Some refusal) os h = cc

pub not_refused : (b : Bool) (refusal : Refusal) → refused_where b refusal ≡ None → b ≡ false
not_refused true refusal h = cc
not_refused false refusal h = refl

pub is_there : {X : Type 0} (o : Option X) → is_none o ≡ false → IsSome o
is_there None h = cc
is_there (Some x) h = refl

pub accepted_unrefused : (o : Option Refusal) (x a : Accepted) → unless_refused o x ≡ Ok a → o ≡ None
accepted_unrefused None x a h = refl
accepted_unrefused (Some refusal) x a h = cc

pub numbers_left : (b : Bool) (o : Option Refusal) → cond b (Some NumbersSpent) o ≡ None → o ≡ None
numbers_left true o h = cc
numbers_left false o h = h

pub not_true : (b : Bool) → not b ≡ true → b ≡ false
not_true true h = cc
not_true false h = refl

pub not_false : (b : Bool) → not b ≡ false → b ≡ true
not_false true h = refl
not_false false h = cc

pub or_false_left : (a b : Bool) → (a || b) ≡ false → a ≡ false
or_false_left true b h = h
or_false_left false b h = refl

pub or_false_right : (a b : Bool) → (a || b) ≡ false → b ≡ false
or_false_right true b h = cc
or_false_right false b h = h

same_kind : (a b : JobKind) → not (is_same_kind a b) ≡ false → b ≡ a
same_kind Batch Batch h = refl
same_kind Batch Print h = cc
same_kind Print Batch h = cc
same_kind Print Print h = refl

pub of_kind : (kind : JobKind) (o : Option Queue) → IsSome o → option_map_or (is_other_kind kind) o false ≡ false → IfSome o (λ q. job_kind q.kind ≡ kind)
of_kind kind None there h = tt
of_kind kind (Some q) there h = same_kind kind (job_kind q.kind) h

pub not_zero : (n : ℕ) → (n == 0) ≡ false → 0 < n
not_zero n h = grind (arith, nat_tests)

pub at_most : (m n : ℕ) → nat_lt m n ≡ false → n ≤ m
at_most m n h = grind (arith, nat_tests)

pub not_at_least : (m n : ℕ) → nat_le m n ≡ false → n < m
not_at_least m n h = grind (arith, nat_tests)

pub no_map : {X Y : Type 0} (f : X → Y) (o : Option X) → option_map f o ≡ None → o ≡ None
no_map f None h = refl
no_map f (Some x) h = cc

pub none_by_queue : (names : Queue → Bool) (qs : List Queue) → refused_by_queue names qs ≡ None → All (λ (q : Queue). names q ≡ false) qs
none_by_queue names qs h = not_found names qs (no_map _ (find names qs) h)

pub none_by_entry : (names : Entry → Bool) (es : List Entry) → refused_by_entry names es ≡ None → All (λ (x : Entry). names x ≡ false) es
none_by_entry names es h = not_found names es (no_map _ (find names es) h)
