-- One record more of a file is read, or its end.
use Rattle.std.proofs.Common.{◌≡◌, refl, sym, ◌∙◌, ap, subst, ℕ, ◌+◌, ◌≤◌, List, [], ◌∷◌, ◌++◌, length, take, drop, Result, Ok, Err, IsErrAnd, arith, length-take, length-drop, append_assoc, drop_at}
use Rattle.qm_glog.specs.Records.{behind_gate, text, size_of, Fit, BeginsWithRecord}
use Rattle.qm_glog.proofs.Texts.{text-push, length-text, size_of-push, Fit-push}
use Rattle.qm_glog.specs.Found.{HeadAt, IsReadFault, RecordsOf}
use Rattle.qm_glog.specs.declared.bodies.Bodies.{Bodies}
use Rattle.qm_glog.specs.declared.fault.OpenFault.{OpenFault}
use Rattle.qm_glog.specs.declared.fault.OpenFault.TheVariants.{NoMemory}
use Rattle.qm_glog.specs.declared.reading.Head.TheVariants.{Open}
use Rattle.qm_glog.proofs.Heads.{record_found}

-- what stands behind a record that stands behind others
pub split_on : (seen : List ℕ) (bodies : List (List ℕ)) (place next : ℕ) → place ≡ size_of bodies → seen ≡ text bodies ++ drop place seen
    → (body more : List ℕ) → drop place seen ≡ 1 ∷ (behind_gate body ++ more) → next ≡ place + 5 + length body → seen ≡ text (bodies ++ body ∷ []) ++ drop next seen
split_on seen bodies place next is split body more at on =
    let whole : seen ≡ text (bodies ++ body ∷ []) ++ more =
    split ∙ ap (λ (l : List ℕ). text bodies ++ l) at ∙ sym (text-push bodies body more) in
    let behind : drop next seen ≡ more =
    ap (λ (l : List ℕ). drop next l) whole
    ∙ drop_at (text (bodies ++ body ∷ [])) more next (omega (arith, is, on, length-text (bodies ++ body ∷ []), size_of-push bodies body)) in
    whole ∙ ap (λ (l : List ℕ). text (bodies ++ body ∷ []) ++ l) (sym behind)

-- an open gate, a length and so many bytes behind them are one record more
pub record_on : (seen : List ℕ) (bodies added : List (List ℕ)) (place next n : ℕ) → place ≡ size_of bodies → seen ≡ text bodies ++ drop place seen → Fit bodies
    → (number : ℕ) → HeadAt number (drop place seen) place (Ok (Open n)) → place + 5 + n ≤ length seen → added ≡ bodies ++ take n (drop (place + 5) seen) ∷ [] → next ≡ place + 5 + n
    → (seen ≡ text added ++ drop next seen) × Fit added
record_on seen bodies added place next n is split fit number head within more on =
    let body : List ℕ = take n (drop (place + 5) seen) in
    let size : length (take n (drop (place + 5) seen)) ≡ n = omega (arith, length-take n (drop (place + 5) seen), length-drop (place + 5) seen) in
    let found = record_found seen place n body size head.0 (head.1, head.2) refl in
    let whole = split_on seen bodies place next is split body found.1 found.2 (omega (arith, on, size)) in
    (subst (λ (l : List (List ℕ)). seen ≡ text l ++ drop next seen) (sym more) whole, subst Fit (sym more) (Fit-push bodies body fit found.0))

-- records at the front of a file, of which there is one
begins : (seen : List ℕ) (bodies : List (List ℕ)) (body rest : List ℕ) → seen ≡ text (bodies ++ body ∷ []) ++ rest → Fit (bodies ++ body ∷ []) → BeginsWithRecord seen
begins seen [] body rest whole fit = (body, [] ++ rest, fit.0, whole ∙ append_assoc (1 ∷ behind_gate body) [] rest)
begins seen (first ∷ bodies) body rest whole fit = (first, text (bodies ++ body ∷ []) ++ rest, fit.0, whole ∙ append_assoc (1 ∷ behind_gate first) (text (bodies ++ body ∷ [])) rest)

-- an open gate, a length and so many bytes behind records, or behind none
pub begins_with_record : (seen : List ℕ) (bodies : List (List ℕ)) (place n : ℕ) → place ≡ size_of bodies → seen ≡ text bodies ++ drop place seen → Fit bodies
    → (number : ℕ) → HeadAt number (drop place seen) place (Ok (Open n)) → place + 5 + n ≤ length seen → BeginsWithRecord seen
begins_with_record seen bodies place n is split fit number head within =
    let body : List ℕ = take n (drop (place + 5) seen) in
    let on = record_on seen bodies (bodies ++ body ∷ []) place (place + 5 + n) n is split fit number head within refl refl in
    begins seen bodies body (drop (place + 5 + n) seen) on.0 on.1

-- where memory ran out, a record stands there
pub out_of_memory : (number : ℕ) (file : List ℕ) (result : Result (Bodies × ℕ) OpenFault) → IsErrAnd result (λ e. e ≡ NoMemory) → BeginsWithRecord file → RecordsOf number file result
out_of_memory number file (Ok found) is begun = absurd is
out_of_memory number file (Err e) is begun = subst (IsReadFault number file) (sym is) begun
