-- Counts of calls that failed, and bytes that were appended.
use Rattle.std.proofs.Common.{◌≡◌, ◌+◌, ℕ, zero, suc, List, [], ◌++◌, sym, ◌∙◌, ap, Option, None, Some, arith, append_assoc, append-nil}
use Rattle.std.specs.Io.KnownBytes.{Appends}
use Rattle.qm_disk.specs.Faults.{counted}
use Rattle.qm_node.specs.Taken.{RoseBy, counted_often}

pub often_more : (a b old : ℕ) → counted_often (a + b) old ≡ counted_often b (counted_often a old)
often_more a zero old = ap (λ (n : ℕ). counted_often n old) (omega arith)
often_more a (suc b) old =
    let same : a + suc b ≡ suc (a + b) = omega arith in
    ap (λ (n : ℕ). counted_often n old) same ∙ ap counted (often_more a b old)

pub rose_on : (a b old mid new : ℕ) → RoseBy a old mid → RoseBy b mid new → RoseBy (a + b) old new
rose_on a b old mid new first second = second ∙ ap (counted_often b) first ∙ sym (often_more a b old)

pub appends_on : (a b : List ℕ) (old mid new : Option (List ℕ)) → Appends old mid a → Appends mid new b → Appends old new (a ++ b)
appends_on a b None mid new first second = tt
appends_on a b (Some xs) None new first second = absurd first
appends_on a b (Some xs) (Some ys) None first second = absurd second
appends_on a b (Some xs) (Some ys) (Some zs) first second = second ∙ ap (λ (l : List ℕ). l ++ b) first ∙ append_assoc xs a b

pub appends_none : (old : Option (List ℕ)) → Appends old old []
appends_none None = tt
appends_none (Some xs) = sym (append-nil xs)
