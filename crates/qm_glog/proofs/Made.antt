-- A file that is made of records.
use Rattle.std.proofs.Common.{◌≡◌, sym, ◌∙◌, ap, subst, ℕ, ◌+◌, ◌^◌, ◌<◌, ◌≤◌, List, [], ◌∷◌, ◌++◌, length, get_or, take, drop, Vec, arith, take-append-drop}
use Rattle.std.proofs.lemmas.List.{take_more, map-append, append-nil, drop_all}
use Rattle.std.specs.declared.alloc.Global.{Global}
use Rattle.qm_disk.specs.Disk.{Meaning, Only, spliced}
use Rattle.qm_glog.specs.Records.{behind_gate, text, size_of, IsLog}
use Rattle.qm_glog.specs.Bodies.{contents}
use Rattle.qm_glog.specs.Log.{bodies_of, StandsIn, IsAsLeft}
use Rattle.qm_glog.specs.declared.log.Log.{Log}
use Rattle.qm_glog.proofs.Texts.{text-push, size_of-push, size_of-append, Fit-short}

-- what is written where nothing is, is all
pub spliced_over_none : (bytes : List ℕ) → spliced 0 bytes [] ≡ bytes
spliced_over_none bytes = ap (λ (l : List ℕ). bytes ++ l) (drop_all (0 + length bytes) [] (omega arith)) ∙ append-nil bytes

-- one record more of a list
pub contents_more : (rows : List (Vec ℕ Global)) (i : ℕ) (row : Vec ℕ Global) → i < length rows → get_or rows i row ≡ row → contents (take (i + 1) rows) ≡ contents (take i rows) ++ row.items ∷ []
contents_more rows i row within is =
    ap contents (take_more rows i row within ∙ ap (λ (r : Vec ℕ Global). take i rows ++ r ∷ []) is) ∙ map-append (λ (v : Vec ℕ Global). v.items) (take i rows) (row ∷ [])

-- no record of a list is as long as the whole list
pub row_within : (rows : List (Vec ℕ Global)) (i : ℕ) (row : Vec ℕ Global) → i < length rows → get_or rows i row ≡ row → length row.items ≤ size_of (contents rows)
row_within rows i row within is =
    let grown : size_of (contents (take (i + 1) rows)) ≡ size_of (contents (take i rows)) + 5 + length row.items =
    ap size_of (contents_more rows i row within is) ∙ size_of-push (contents (take i rows)) row.items in
    let whole : contents rows ≡ contents (take (i + 1) rows) ++ contents (drop (i + 1) rows) =
    ap contents (sym (take-append-drop (i + 1) rows)) ∙ map-append (λ (v : Vec ℕ Global). v.items) (take (i + 1) rows) (drop (i + 1) rows) in
    omega (arith, grown, ap size_of whole, size_of-append (contents (take (i + 1) rows)) (contents (drop (i + 1) rows)))

-- its text
pub text_more : (rows : List (Vec ℕ Global)) (i : ℕ) (row : Vec ℕ Global) → i < length rows → get_or rows i row ≡ row
    → text (contents (take (i + 1) rows)) ≡ text (contents (take i rows)) ++ 1 ∷ behind_gate row.items
text_more rows i row within is =
    ap text (contents_more rows i row within is)
    ∙ sym (append-nil (text (contents (take i rows) ++ row.items ∷ [])))
    ∙ text-push (contents (take i rows)) row.items []
    ∙ ap (λ (l : List ℕ). text (contents (take i rows)) ++ 1 ∷ l) (append-nil (behind_gate row.items))

-- records and a closed gate are a log
pub is_made : (file : List ℕ) (bodies : List (List ℕ)) → size_of bodies < 2 ^ 32 → file ≡ text bodies ++ 0 ∷ [] → IsLog file bodies
is_made file bodies short is = record { gate = 0; rest = []; whole = is; shut = omega arith; fit = Fit-short bodies short }

-- and a log over them is as its making left it
pub is_left : {D : Type 0} (m : Meaning D) (file cap : ℕ) (log : Log) (disk : D) (bodies : List (List ℕ)) → StandsIn file cap log → bodies_of log ≡ bodies
    → IsLog (m.seen disk file) bodies → Only (m.seen disk file) (m.may_leave disk file) → IsAsLeft m log disk
is_left m file cap log disk bodies stands same records durable = record {
  records = subst (λ (f : ℕ). IsLog (m.seen disk f) (bodies_of log)) (sym stands.file_is) (subst (λ (l : List (List ℕ)). IsLog (m.seen disk file) l) (sym same) records);
  durable = subst (λ (f : ℕ). Only (m.seen disk f) (m.may_leave disk f)) (sym stands.file_is) durable;
}
