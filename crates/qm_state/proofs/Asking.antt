-- What the model makes of a request, where the numbers of runs are spent and where they aren't.
use Rattle.std.proofs.Common.{◌≡◌, ◌∙◌, ℕ, ◌&&◌, Bool, false, cond, List, Option, None, Some, Ok, ap, sym, subst}
use Rattle.qm_model.specs.Common.{Refusal, NumbersSpent, Request, System, applied, are_numbers_spent, asks_for_numbers, change_of, completed, first_refusal_of, refusal_of, IsConsistent, IsLawful, Accepted, unless_refused, node_at, stopped_when_idle}
use Rattle.qm_model.proofs.JobLemmas.{change_is_consistent}
use Rattle.qm_image.specs.declared.image.Image.{Image}
use Rattle.qm_image.specs.declared.prepared.Change.{Change}
use Rattle.qm_image.specs.Image.{system_of}
use Rattle.qm_image.specs.Deciding.{PreparesAt}
use Rattle.qm_image.specs.Preparing.{found, outcome_of}

-- the request needs numbers of runs, and they are spent
abbrev pub is_spent : System → Request → Bool
is_spent s r = asks_for_numbers r && are_numbers_spent s

-- the first refusal, by that
abbrev first_by : System → List ℕ → Request → Bool → Option Refusal
first_by s name r spent = cond spent (Some NumbersSpent) (refusal_of s name r)

first_left : (s : System) (name : List ℕ) (r : Request) → is_spent s r ≡ false → first_refusal_of s name r ≡ refusal_of s name r
first_left s name r left = ap (first_by s name r) left

-- where numbers are left, the request decides
pub decided : (s : System) (now node : ℕ) (name : List ℕ) (r : Request) → name ≡ node_at node s.nodes → is_spent s r ≡ false
    → applied s now node r ≡ unless_refused (refusal_of s name r) (completed (change_of (found now s) now name r))
decided s now node name r named left =
    subst (λ (n : List ℕ). applied s now node r ≡ unless_refused (refusal_of s n r) (completed (change_of (found now s) now n r))) (sym named)
    (ap (λ (b : Bool). unless_refused (first_by s (node_at node s.nodes) r b) (completed (change_of (found now s) now (node_at node s.nodes) r))) left)

-- where memory was taken for the request, the change that is prepared is the model's
pub accepted : {now : ℕ} {name : List ℕ} (old new : Image) (node : ℕ) (r : Request) (change : Change) → name ≡ node_at node (system_of old).nodes → is_spent (system_of old) r ≡ false
    → PreparesAt now name r old new (Ok change) → applied (system_of old) now node r ≡ Ok (completed (outcome_of change now name (found now (system_of old))))
accepted {now} {name} old new node r change named left taken =
    let s = system_of old in
    decided s now node name r named left
    ∙ ap (λ (o : Option Refusal). unless_refused o (completed (change_of (found now s) now name r))) taken.decided
    ∙ ap (λ (a : Accepted). Ok (completed a)) (sym taken.takes.made)

-- a lawful request that nothing refuses leaves a consistent system, also before any job is started
pub sound_after : {now : ℕ} {name : List ℕ} (old new : Image) (t : System) (node : ℕ) (r : Request) (change : Change) → t ≡ system_of old → name ≡ node_at node (system_of old).nodes
    → IsConsistent (system_of old) → IsLawful (system_of old) node r → is_spent (system_of old) r ≡ false → PreparesAt now name r old new (Ok change)
    → IsConsistent (stopped_when_idle (outcome_of change now name (found now t)).system)
sound_after {now} {name} old new t node r change same named sound lawful left taken =
    let s = system_of old in
    let clear = subst (λ (n : List ℕ). first_refusal_of s n r ≡ None) named (first_left s name r left ∙ taken.decided) in
    let kept = subst (λ (n : List ℕ). IsConsistent (stopped_when_idle (change_of (found now s) now n r).system)) (sym named) (change_is_consistent s now node r sound lawful clear) in
    subst (λ (u : System). IsConsistent (stopped_when_idle (outcome_of change now name (found now u)).system)) (sym same)
    (subst (λ (a : Accepted). IsConsistent (stopped_when_idle a.system)) (sym taken.takes.made) kept)
