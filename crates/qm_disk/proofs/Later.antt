-- What one call more makes of what the files read and of what a crash may leave.
use Rattle.std.proofs.Common.{inl, inr, refl, sym, subst, arith, length-append, ◌≡◌, ◌⊎◌, ℕ, ◌≤◌, List, [], ◌∷◌, ◌++◌, length, take, Vec}
use Rattle.std.proofs.lemmas.List.{take-append-le, take_all}
use Rattle.std.proofs.lemmas.Bool.{cases_lt}
use Rattle.std.specs.declared.alloc.Global.{Global}
use Rattle.qm_disk.specs.Disk.{CrashState, IsLeft}
use Rattle.qm_disk.specs.Calls.{content_after, replayed, Outcomes, LeftOf, LeftSince}
use Rattle.qm_disk.specs.Crash.{AfterCall}
use Rattle.qm_disk.specs.declared.calls.Call.{Call}

pub replayed-push : (f : ℕ) (calls : List Call) (call : Call) (content : List ℕ) → replayed f (calls ++ call ∷ []) content ≡ content_after f (replayed f calls content) call
replayed-push f [] call content = refl
replayed-push f (c ∷ calls) call content = replayed-push f calls call (content_after f content c)

pub Outcomes-push : (f : ℕ) (calls : List Call) (call : Call) (content : List ℕ) (old : List ℕ → Type 0) (c : List ℕ)
    → Outcomes f (calls ++ call ∷ []) content old c → AfterCall f call (replayed f calls content) (Outcomes f calls content old) c
Outcomes-push f [] call content old c left = left
Outcomes-push f (d ∷ calls) call content old c left = Outcomes-push f calls call (content_after f content d) (AfterCall f d content old) c left

pub push-Outcomes : (f : ℕ) (calls : List Call) (call : Call) (content : List ℕ) (old : List ℕ → Type 0) (c : List ℕ)
    → AfterCall f call (replayed f calls content) (Outcomes f calls content old) c → Outcomes f (calls ++ call ∷ []) content old c
push-Outcomes f [] call content old c left = left
push-Outcomes f (d ∷ calls) call content old c left = push-Outcomes f calls call (content_after f content d) (AfterCall f d content old) c left

-- one call more takes time
module _ (first : List (Vec ℕ Global)) (calls : List Call) (call : Call) where
  earlier : (k : ℕ) → k ≤ length calls → take k (calls ++ call ∷ []) ≡ take k calls
  earlier k le = take-append-le k calls (call ∷ []) le

  pub nothing_else : (t : ℕ) (crashed : CrashState) → t ≤ length calls → LeftSince first (calls ++ call ∷ []) t crashed → LeftSince first calls t crashed ⊎ IsLeft (LeftOf first (calls ++ call ∷ [])) crashed
  nothing_else t crashed le left = elim (cases_lt (length calls) left.0) [
    | inr before ↦ inl (left.0, left.1, before, subst (λ (l : List Call). IsLeft (LeftOf first l) crashed) (earlier left.0 before) left.3)
    | inl now ↦ inr (subst (λ (l : List Call). IsLeft (LeftOf first l) crashed) (take_all left.0 (calls ++ call ∷ []) (omega (arith, length-append calls (call ∷ [])))) left.3)
  ]

  pub keeps : (t : ℕ) (crashed : CrashState) → t ≤ length calls → LeftSince first calls t crashed → LeftSince first (calls ++ call ∷ []) t crashed
  keeps t crashed le left =
      let longer : length calls ≤ length (calls ++ call ∷ []) = omega (arith, length-append calls (call ∷ [])) in
      let within : left.0 ≤ length (calls ++ call ∷ []) = omega (arith, left.2) in
      (left.0, left.1, within, subst (λ (l : List Call). IsLeft (LeftOf first l) crashed) (sym (earlier left.0 left.2)) left.3)
