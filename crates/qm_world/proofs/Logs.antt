-- Lists of records, and their bytes.
use Rattle.std.proofs.Common.{◌≡◌, ◌∙◌, ◌+◌, ◌<◌, ℕ, List, [], ◌∷◌, ◌++◌, length, map, take, get_or, refl, sym, ap, subst, Some, Vec, slice_get}
use Rattle.std.specs.List.{All, AllByRecursion}
use Rattle.std.proofs.lemmas.List.{append-nil, map-append, take_more}
use Rattle.std.proofs.lemmas.List.Elements.{All-append, All-cons, All-nil, recursion_from_All}
use Rattle.std.proofs.lemmas.Option.{get_or_from_slice_get, slice_get_within}
use Rattle.std.specs.declared.alloc.Global.{Global}
use Rattle.qm_history.specs.Common.{Spells, Record, System, system_of, HasSpelling, record_text, IsAccepted}
use Rattle.qm_restore.specs.QueueFile.{IsSiteFile}
use Rattle.qm_world.specs.Texts.{texts}
use Rattle.qm_world.proofs.Spelled.{log_spelled}

-- ---- one record more

pub one_more_spelled : (log : List Record) (r : Record) → All HasSpelling log → HasSpelling r → All HasSpelling (log ++ r ∷ [])
one_more_spelled log r all one = All-append HasSpelling log (r ∷ []) all (All-cons HasSpelling r [] one (All-nil HasSpelling))

pub read_more : (bodies : List (List ℕ)) (log : List Record) (i : ℕ) (body : List ℕ) (r : Record) → slice_get bodies i ≡ Some body → Spells HasSpelling record_text r body
    → take i bodies ≡ map record_text log → take (i + 1) bodies ≡ map record_text (log ++ r ∷ [])
read_more bodies log i body r there spelled same =
    take_more bodies i body (slice_get_within bodies i body there)
    ∙ ap (λ (b : List ℕ). take i bodies ++ b ∷ []) (get_or_from_slice_get bodies i body body there ∙ spelled.is)
    ∙ ap (λ (l : List (List ℕ)). l ++ record_text r ∷ []) same
    ∙ sym (map-append record_text log (r ∷ []))

pub spelled_more : (log : List Record) (spelled : List (Vec ℕ Global)) (i : ℕ) (r : Record) (text : Vec ℕ Global) → i < length log → r ≡ get_or log i r → Spells HasSpelling record_text r text.items
    → texts spelled ≡ map record_text (take i log) → texts (spelled ++ text ∷ []) ≡ map record_text (take (i + 1) log)
spelled_more log spelled i r text within there is same =
    map-append (λ (v : Vec ℕ Global). v.items) spelled (text ∷ [])
    ∙ ap (λ (l : List (List ℕ)). l ++ text.items ∷ []) same
    ∙ ap (λ (t : List ℕ). map record_text (take i log) ++ t ∷ []) (is.is ∙ ap record_text there)
    ∙ sym (ap (λ (l : List Record). map record_text l) (take_more log i r within) ∙ map-append record_text (take i log) (get_or log i r ∷ []))

pub spelled_last : (log : List Record) (spelled : List (Vec ℕ Global)) (r : Record) (text : Vec ℕ Global) → Spells HasSpelling record_text r text.items
    → texts spelled ≡ map record_text log → texts (spelled ++ text ∷ []) ≡ map record_text (log ++ r ∷ [])
spelled_last log spelled r text is same =
    map-append (λ (v : Vec ℕ Global). v.items) spelled (text ∷ [])
    ∙ ap (λ (l : List (List ℕ)). l ++ text.items ∷ []) same
    ∙ ap (λ (t : List ℕ). map record_text log ++ t ∷ []) is.is
    ∙ sym (map-append record_text log (r ∷ []))

-- ---- a log that was read is accepted

same_first : (a b : List ℕ) (xs ys : List (List ℕ)) → a ∷ xs ≡ b ∷ ys → a ≡ b
same_first a b xs ys h = cc

same_others : (a b : List ℕ) (xs ys : List (List ℕ)) → a ∷ xs ≡ b ∷ ys → xs ≡ ys
same_others a b xs ys h = cc

module _ (alone : (a b : Record) (rest : List ℕ) → HasSpelling a → HasSpelling b → record_text b ≡ record_text a ++ rest → (b ≡ a) × (rest ≡ [])) where
  one_record : (q r : Record) → HasSpelling q → HasSpelling r → record_text q ≡ record_text r → q ≡ r
  one_record q r q_fits r_fits same = (alone r q [] r_fits q_fits (same ∙ sym (append-nil (record_text r)))).0

  one_log : (a b : List Record) → AllByRecursion HasSpelling a → AllByRecursion HasSpelling b → map record_text a ≡ map record_text b → a ≡ b
  one_log [] [] all others same = refl
  one_log [] (y ∷ b) all others same = cc
  one_log (x ∷ a) [] all others same = cc
  one_log (x ∷ a) (y ∷ b) all others same =
      let first : x ≡ y = one_record x y all.0 others.0 (same_first (record_text x) (record_text y) (map record_text a) (map record_text b) same) in
      let more : a ≡ b = one_log a b all.1 others.1 (same_others (record_text x) (record_text y) (map record_text a) (map record_text b) same) in
      λ i. first i ∷ more i

  module _ (accepted : (bodies : List (List ℕ)) (s : System) → IsSiteFile bodies s → (log : List Record) × (bodies ≡ map record_text log) × IsAccepted log × (system_of log ≡ s))
      (bodies : List (List ℕ)) (s : System) (site : IsSiteFile bodies s) (log : List Record) (spelled : All HasSpelling log) (same : bodies ≡ map record_text log)
    where
      abbrev found : (log : List Record) × (bodies ≡ map record_text log) × IsAccepted log × (system_of log ≡ s)
      found = accepted bodies s site

      is_found : found.0 ≡ log
      is_found =
          one_log found.0 log (recursion_from_All HasSpelling found.0 (log_spelled found.0 found.2)) (recursion_from_All HasSpelling log spelled) (sym found.1 ∙ same)

      pub log_accepted : IsAccepted log
      log_accepted = subst IsAccepted is_found found.2

      pub log_system : system_of log ≡ s
      log_system = ap (λ (l : List Record). system_of l) (sym is_found) ∙ found.3
