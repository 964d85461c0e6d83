-- A kind of requests is read as its number is written.
use Rattle.std.proofs.Common.{◌≡◌, ℕ, Bool, true, false, cond, eqb, Option, Some, None, refl, ap, ◌∙◌, eqb-true}
use Rattle.qm_kinds.specs.declared.request_kind.RequestKind.{RequestKind}
use Rattle.qm_kinds.specs.declared.request_kind.RequestKind.TheVariants as request
use Rattle.qm_kinds.specs.Requests.{request_kind, request_number}

abbrev some : {K : Type 0} → K → Option K
some k = Some k

pub same_kind : {K : Type 0} (a b : K) → some a ≡ some b → a ≡ b
same_kind a b e = cc

-- In a table of kinds by their numbers, what one comparison finds has the number, or what those behind it find.
module _ {K : Type 0} (number : K → ℕ) where
  found_by : (n : ℕ) (there k : K) (behind : Option K) (test : Bool) → eqb n (number there) ≡ test
      → (behind ≡ some k → n ≡ number k) → cond test (Some there) behind ≡ some k → n ≡ number k
  found_by n there k behind true is others h = eqb-true n (number there) is ∙ ap number (same_kind there k h)
  found_by n there k behind false is others h = others h

  pub tells : (n : ℕ) (there k : K) {behind : Option K} → (behind ≡ some k → n ≡ number k)
      → cond (eqb n (number there)) (Some there) behind ≡ some k → n ≡ number k
  tells n there k {behind} others h = found_by n there k behind (eqb n (number there)) refl others h

  pub tells_none : (n : ℕ) (k : K) → None ≡ some k → n ≡ number k
  tells_none n k h = absurd cc

pub kind_again : (k : RequestKind) → request_kind (request_number k) ≡ Some k
kind_again request.Append = refl
kind_again request.Fill = refl
kind_again request.Drop = refl
kind_again request.DefineForm = refl
kind_again request.DeleteForm = refl
kind_again request.DefineCharacteristic = refl
kind_again request.DeleteCharacteristic = refl
kind_again request.InitializeQueue = refl
kind_again request.SetQueue = refl
kind_again request.StartQueue = refl
kind_again request.StopQueue = refl
kind_again request.AbortJob = refl
kind_again request.DeleteQueue = refl
kind_again request.Merge = refl
kind_again request.Submit = refl
kind_again request.SetEntry = refl
kind_again request.DeleteEntry = refl

pub number_back : (n : ℕ) (k : RequestKind) → request_kind n ≡ Some k → n ≡ request_number k
number_back n k =
    tells request_number n request.Append k
    (tells request_number n request.Fill k
    (tells request_number n request.Drop k
    (tells request_number n request.DefineForm k
    (tells request_number n request.DeleteForm k
    (tells request_number n request.DefineCharacteristic k
    (tells request_number n request.DeleteCharacteristic k
    (tells request_number n request.InitializeQueue k
    (tells request_number n request.SetQueue k
    (tells request_number n request.StartQueue k
    (tells request_number n request.StopQueue k
    (tells request_number n request.AbortJob k
    (tells request_number n request.DeleteQueue k
    (tells request_number n request.Merge k
    (tells request_number n request.Submit k
    (tells request_number n request.SetEntry k
    (tells request_number n request.DeleteEntry k
    (tells_none request_number n k)))))))))))))))))
