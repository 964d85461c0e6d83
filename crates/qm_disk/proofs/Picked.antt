-- What a crash of each kind keeps is one of the things that a crash may leave.
use Rattle.std.proofs.Common.{◌≡◌, refl, ℕ, zero, suc, ◌≤◌, ◌==◌, Bool, true, false, if◌then◌else◌, List, [], ◌∷◌, length, take, Vec, arith, length-take, MatchBool}
use Rattle.std.specs.declared.alloc.Global.{Global}
use Rattle.qm_disk.specs.Disk.{spliced, Torn, Cut}
use Rattle.qm_disk.specs.Calls.{padded, part, content_after, Outcome, Outcomes, first_of, LeftOf, crash_changed, crashed}
use Rattle.qm_disk.specs.Crash.{torn_none, torn_spliced, cut_none, cut_whole, AfterCall}
use Rattle.qm_disk.specs.declared.calls.Change.{Change}
use Rattle.qm_disk.specs.declared.calls.Change.TheVariants.{Look, Write, Truncate, Sync}
use Rattle.qm_disk.specs.declared.calls.Call.{Call}

picked_write : (none : Bool) (at k : ℕ) (bytes kept : List ℕ) → Torn at (length bytes) kept (if none then kept else spliced at (take k bytes) (padded at kept))
picked_write true at k bytes kept = torn_none at (length bytes) kept
picked_write false at k bytes kept = torn_spliced at (length bytes) (take k bytes) kept (omega (arith, length-take k bytes))

picked_cut : (none : Bool) (size : ℕ) (kept : List ℕ) → Cut size kept (if none then kept else take size kept)
picked_cut true size kept = cut_none size kept
picked_cut false size kept = cut_whole size kept

picked_change : (pick : ℕ) (change : Change) (content : List ℕ) (old : List ℕ → Type 0) (kept : List ℕ) → old kept → Outcome change content old (crash_changed pick change content kept)
picked_change pick Look content old kept was = was
picked_change pick (Write at bytes held) content old kept was = (kept, was, picked_write (pick == 0) at (part pick (length bytes.items)) bytes.items kept)
picked_change pick (Truncate size held) content old kept was = (kept, was, picked_cut (pick == 0) size kept)
picked_change pick (Sync true) content old kept was = refl
picked_change pick (Sync false) content old kept was = was

picked_call : (b : Bool) (pick : ℕ) (change : Change) (content : List ℕ) (old : List ℕ → Type 0) (kept : List ℕ) → old kept
    → MatchBool b (Outcome change content old (if b then crash_changed pick change content kept else kept)) (old (if b then crash_changed pick change content kept else kept))
picked_call true pick change content old kept was = picked_change pick change content old kept was
picked_call false pick change content old kept was = was

crashed_is_left : (pick f : ℕ) (calls : List Call) (content : List ℕ) (old : List ℕ → Type 0) (kept : List ℕ) → old kept → Outcomes f calls content old (crashed pick f calls content kept)
crashed_is_left pick f [] content old kept was = was
crashed_is_left pick f (call ∷ calls) content old kept was =
    crashed_is_left pick f calls (content_after f content call) (AfterCall f call content old) _ (picked_call (call.file == f) pick call.change content old kept was)

pub crash_is_left : (first : List (Vec ℕ Global)) (calls : List Call) (pick f : ℕ) → LeftOf first calls f (crashed pick f calls (first_of first f) (first_of first f))
crash_is_left first calls pick f = crashed_is_left pick f calls (first_of first f) (λ c. c ≡ first_of first f) (first_of first f) refl

pub of_three : (P : ℕ → Type 0) → P 0 → P 1 → P 2 → (f : ℕ) → f ≤ 2 → P f
of_three P a b c zero le = a
of_three P a b c (suc zero) le = b
of_three P a b c (suc (suc zero)) le = c
of_three P a b c (suc (suc (suc f))) le = absurd (omega arith)
