-- A queue file that goes on, record by record.
use Rattle.std.proofs.Common.{◌≡◌, ℕ, ◌+◌, ◌<◌, ◌≤◌, List, [], ◌∷◌, ◌++◌, length, map, take, drop, Some, Result, Ok, Err, refl, sym, ap, subst, ◌∙◌, arith, append_assoc, IfOk, IfErr, OnOk, IsErrOf}
use Rattle.std.specs.List.{AllByRecursion, slice_get}
use Rattle.std.proofs.lemmas.List.{take_more, take_all, map-append, append-nil}
use Rattle.std.proofs.lemmas.Option.{slice_get_within, get_or_from_slice_get}
use Rattle.qm_history.specs.Common.{Record, Node, System, Spells, after_record, image_of, HasSpelling, record_text}
use Rattle.qm_record.specs.Faults.{IsRead as IsReadSo, IsRecord}
use Rattle.qm_record.specs.declared.fault.RecordFault.{RecordFault}
use Rattle.qm_record.specs.declared.fault.RecordFault.TheVariants.{Bad}
use Rattle.qm_record.specs.declared.fault.RecordFault.TheVariants as record_fault
use Rattle.qm_restore.specs.Site.{new_system, new_rows}
use Rattle.qm_restore.specs.QueueFile.{LeadTo, IsFileFrom, IsSiteFile, IsFirstUnlawful}
use Rattle.qm_restore.specs.Restoring.{BeginsWithRows, Judges, GoesOn, GoesTo, Stands, CannotStand, Leaves, LeavesNothing, LeavesBy, IsRefused, RefusesRead, IsFlawOf, IsFlawOfRead, IsFlaw}
use Rattle.qm_restore.specs.declared.fault.RestoreFault.{RestoreFault}
use Rattle.qm_restore.specs.declared.fault.RestoreFault.TheVariants.{Unlawful, NoMemory}
use Rattle.qm_restore.specs.declared.fault.Flaw.{Flaw}
use Rattle.qm_restore.specs.declared.fault.Flaw.TheVariants.{Unreadable, NoRow, Refused}
use Rattle.qm_restore.proofs.Beginning.{begins_new, new_site_file}
use Rattle.qm_restore.proofs.Leading.{lead_more, first_leads, first_cannot}

fit_more : (rs : List Record) (r : Record) → AllByRecursion HasSpelling rs → HasSpelling r → AllByRecursion HasSpelling (rs ++ r ∷ [])
fit_more [] r all fits = (fits, tt)
fit_more (q ∷ rs) r all fits = (all.0, fit_more rs r all.1 fits)

-- ---- the rows

rows_go_on : (nodes : List Node) (more : List (List ℕ)) (t : System) → IsFileFrom (new_system nodes) (map record_text (new_rows nodes) ++ more) t → GoesOn (new_system nodes) more t
rows_go_on nodes more t f = record {
  records = f.requests;
  fit = f.fit.1.1.1;
  spelled = ap (λ (l : List (List ℕ)). drop 3 l) f.spelled;
  lead = f.lead;
}

pub rows_stand : (bodies : List (List ℕ)) (nodes : List Node) → BeginsWithRows bodies nodes → Stands (take 3 bodies) (new_system nodes)
rows_stand bodies nodes b =
    let front : take 3 bodies ≡ map record_text (new_rows nodes) = ap (λ (l : List (List ℕ)). take 3 l) b.rows in
    subst (λ (l : List (List ℕ)). Stands l (new_system nodes)) (sym front) (record {
      lawful = new_site_file nodes b.proper b.fit;
      goes_on = λ more t f.
          let whole = begins_new (map record_text (new_rows nodes) ++ more) t f in
          rows_go_on nodes more t
          (subst (λ (ns : List Node). IsFileFrom (new_system ns) (map record_text (new_rows nodes) ++ more) t) (b.only f.is_new.nodes more t whole) whole);
    })

pub rows_are_there : (bodies : List (List ℕ)) (nodes : List Node) → BeginsWithRows bodies nodes → 3 ≤ length bodies
rows_are_there bodies nodes b = omega (arith, ap (λ (l : List (List ℕ)). length l) b.rows)

-- ---- one more record

-- a queue file with one record more
file_more : (first : System) (bodies : List (List ℕ)) (s t : System) (r : Record) → IsFileFrom first bodies s → HasSpelling r → GoesTo s r t
    → IsFileFrom first (bodies ++ record_text r ∷ []) t
file_more first bodies s t r f fits leaves =
    let log = append_assoc (image_of first) f.requests (r ∷ []) in
    record {
      requests = f.requests ++ r ∷ [];
      fit = subst (AllByRecursion HasSpelling) log (fit_more (image_of first ++ f.requests) r f.fit fits);
      spelled = ap (λ (x : List (List ℕ)). x ++ record_text r ∷ []) f.spelled
          ∙ sym (map-append record_text (image_of first ++ f.requests) (r ∷ []))
          ∙ ap (λ (rs : List Record). map record_text rs) log;
      lead = lead_more first s t f.requests r f.lead leaves;
    }

pub file_goes_on : (bodies : List (List ℕ)) (s t : System) (r : Record) → IsSiteFile bodies s → HasSpelling r → GoesTo s r t → IsSiteFile (bodies ++ record_text r ∷ []) t
file_goes_on bodies s t r f fits leaves = record { first = f.first; is_new = f.is_new; file = file_more f.first bodies s t r f.file fits leaves }

lawful_more : (front : List (List ℕ)) (s : System) (body : List ℕ) (t : System) → IsSiteFile front s → Leaves body s t → IsSiteFile (front ++ body ∷ []) t
lawful_more front s body t f l =
    subst (λ (b : List ℕ). IsSiteFile (front ++ b ∷ []) t) (sym l.spells.is) (file_goes_on front s t l.value f l.spells.fits l.leaves)

same_first : (a b : List ℕ) (xs ys : List (List ℕ)) → a ∷ xs ≡ b ∷ ys → a ≡ b
same_first a b xs ys h = cc

same_others : (a b : List ℕ) (xs ys : List (List ℕ)) → a ∷ xs ≡ b ∷ ys → xs ≡ ys
same_others a b xs ys h = cc

not_empty : (a : List ℕ) (xs : List (List ℕ)) → a ∷ xs ≡ [] → ⊥
not_empty a xs h = cc

from_records : (s : System) (body : List ℕ) (more : List (List ℕ)) (t u : System) → Leaves body s t → (rs : List Record) → AllByRecursion HasSpelling rs
    → body ∷ more ≡ map record_text rs → LeadTo s rs u → GoesOn t more u
from_records s body more t u l [] fit spelled lead = absurd (not_empty body more spelled)
from_records s body more t u l (r ∷ rs) fit spelled lead =
    let is : body ≡ record_text r = same_first body (record_text r) more (map record_text rs) spelled in
    let leaves : after_record s r ≡ t = ap (after_record s) (l.only r fit.0 is) ∙ l.leaves.1 in
    record {
      records = rs;
      fit = fit.1;
      spelled = same_others body (record_text r) more (map record_text rs) spelled;
      lead = first_leads s t r rs u leaves lead;
    }

-- what goes on with a body goes on with a record of it
goes_on_from : (s : System) (body : List ℕ) (more : List (List ℕ)) (t u : System) → Leaves body s t → GoesOn s (body ∷ more) u → GoesOn t more u
goes_on_from s body more t u l g = from_records s body more t u l g.records g.fit g.spelled g.lead

none_from : (s : System) (body : List ℕ) (more : List (List ℕ)) (u : System) → LeavesNothing body s → (rs : List Record) → AllByRecursion HasSpelling rs
    → body ∷ more ≡ map record_text rs → LeadTo s rs u → ⊥
none_from s body more u none [] fit spelled lead = not_empty body more spelled
none_from s body more u none (r ∷ rs) fit spelled lead =
    first_cannot s r rs u (none r fit.0 (same_first body (record_text r) more (map record_text rs) spelled)) lead

nothing_goes_on : (s : System) (body : List ℕ) (more : List (List ℕ)) (u : System) → LeavesNothing body s → GoesOn s (body ∷ more) u → ⊥
nothing_goes_on s body more u none g = none_from s body more u none g.records g.fit g.spelled g.lead

stand_more : (front : List (List ℕ)) (s : System) (body : List ℕ) (t : System) → Stands front s → Leaves body s t → Stands (front ++ body ∷ []) t
stand_more front s body t stands l = record {
  lawful = lawful_more front s body t stands.lawful l;
  goes_on = λ more u f. goes_on_from s body more t u l (stands.goes_on (body ∷ more) u (subst (λ (x : List (List ℕ)). IsSiteFile x u) (append_assoc front (body ∷ []) more) f));
}

take_next : (bodies : List (List ℕ)) (index : ℕ) (body : List ℕ) → slice_get bodies index ≡ Some body → take (index + 1) bodies ≡ take index bodies ++ body ∷ []
take_next bodies index body is =
    take_more bodies index [] (slice_get_within bodies index body is) ∙ ap (λ (b : List ℕ). take index bodies ++ b ∷ []) (get_or_from_slice_get bodies index body [] is)

pub next_stands : (bodies : List (List ℕ)) (index : ℕ) (body : List ℕ) (s t : System) → slice_get bodies index ≡ Some body
    → Stands (take index bodies) s → Leaves body s t → Stands (take (index + 1) bodies) t
next_stands bodies index body s t is stands l =
    subst (λ (x : List (List ℕ)). Stands x t) (sym (take_next bodies index body is)) (stand_more (take index bodies) s body t stands l)

-- a record that leaves nothing is the first unlawful one
unlawful_next : (bodies : List (List ℕ)) (index : ℕ) (body : List ℕ) (s : System) → slice_get bodies index ≡ Some body
    → Stands (take index bodies) s → LeavesNothing body s → IsFirstUnlawful bodies index
unlawful_next bodies index body s is stands none =
    let inside : index < length bodies = slice_get_within bodies index body is in
    record {
      within = omega (arith, inside);
      begins = record { more = []; system = s; is = subst (λ (x : List (List ℕ)). IsSiteFile x s) (sym (append-nil (take index bodies))) stands.lawful };
      ends = λ _ g. nothing_goes_on s body g.more g.system none (stands.goes_on (body ∷ g.more) g.system
          (subst (λ (x : List (List ℕ)). IsSiteFile x g.system) (ap (λ (x : List (List ℕ)). x ++ g.more) (take_next bodies index body is) ∙ append_assoc (take index bodies) (body ∷ []) g.more) g.is));
      unfinished = λ end u f. absurd (omega (arith, inside, end));
    }

-- what is wrong with a body behind the rows
flaw_behind : (bodies : List (List ℕ)) (index : ℕ) (body : List ℕ) (flaw : Flaw) → slice_get bodies index ≡ Some body → 3 ≤ index → IsFlawOf body flaw → IsFlaw bodies index flaw
flaw_behind bodies index body Unreadable is behind flaw = (body, is, flaw)
flaw_behind bodies index body NoRow is behind flaw = absurd flaw
flaw_behind bodies index body Refused is behind flaw = (behind, (body, is, flaw))

-- the same of an index that is told
judged_at : (bodies : List (List ℕ)) (i index : ℕ) (flaw : Flaw) → i ≡ index → Judges bodies (Unlawful index flaw) → Judges bodies (Unlawful i flaw)
judged_at bodies i index flaw same judged = subst (λ (n : ℕ). Judges bodies (Unlawful n flaw)) (sym same) judged

pub next_is_judged : (bodies : List (List ℕ)) (index : ℕ) (body : List ℕ) (s : System) (fault : RestoreFault) → slice_get bodies index ≡ Some body → 3 ≤ index
    → Stands (take index bodies) s → IsRefused index body s fault → Judges bodies fault
next_is_judged bodies index body s (Unlawful i flaw) is behind stands refused =
    judged_at bodies i index flaw refused.0 (unlawful_next bodies index body s is stands refused.1, flaw_behind bodies index body flaw is behind refused.2)
next_is_judged bodies index body s NoMemory is behind stands refused = tt

pub all_stand : (bodies : List (List ℕ)) (index : ℕ) (s : System) → length bodies ≤ index → Stands (take index bodies) s → IsSiteFile bodies s
all_stand bodies index s end stands = subst (λ (x : List (List ℕ)). IsSiteFile x s) (take_all index bodies end) stands.lawful

-- ---- one record of the file

read_leaves : (body : List ℕ) (r : Record) (s t : System) → Spells HasSpelling record_text r body
    → ((other : Record) → HasSpelling other → body ≡ record_text other → r ≡ other) → GoesTo s r t → Leaves body s t
read_leaves body r s t spells only leaves = record {
  value = r;
  spells = spells;
  leaves = leaves;
  only = λ other fits is. sym (only other fits is);
}

read_leaves_nothing : (body : List ℕ) (r : Record) (s : System) → ((other : Record) → HasSpelling other → body ≡ record_text other → r ≡ other) → CannotStand s r → LeavesNothing body s
read_leaves_nothing body r s only cannot other fits is = subst (CannotStand s) (only other fits is) cannot

pub on_ok : {X E P Q : Type 0} (result : Result X E) → (P → Q) → OnOk result P → OnOk result Q
on_ok (Ok x) step holds = step holds
on_ok (Err e) step holds = tt

pub if_err : {X E : Type 0} {P Q : E → Type 0} (result : Result X E) → ((e : E) → P e → Q e) → IfErr result P → IfErr result Q
if_err (Ok x) step holds = tt
if_err (Err e) step holds = step e holds

pub record_leaves : (read : Result Record RecordFault) (body : List ℕ) (s t : System) → IfOk read (λ r. Spells HasSpelling record_text r body)
    → ((other : Record) → HasSpelling other → body ≡ record_text other → IsReadSo other read) → LeavesBy read s t → Leaves body s t
record_leaves (Ok r) body s t spells only leaves = read_leaves body r s t spells only leaves
record_leaves (Err fault) body s t spells only leaves = absurd leaves

read_flaw : (r : Record) (body : List ℕ) (flaw : Flaw) → Spells HasSpelling record_text r body → IsFlawOfRead (Ok r) flaw → IsFlawOf body flaw
read_flaw r body Unreadable spells flaw = absurd flaw
read_flaw r body NoRow spells flaw = absurd flaw
read_flaw r body Refused spells flaw = record { value = r; spells = spells }

unread_flaw : (place : ℕ) (body : List ℕ) (flaw : Flaw) → ((other : Record) → HasSpelling other → body ≡ record_text other → ⊥) → IsFlawOfRead (Err (Bad place)) flaw → IsFlawOf body flaw
unread_flaw place body Unreadable none flaw = λ is. none is.value is.spells.fits is.spells.is
unread_flaw place body NoRow none flaw = absurd flaw
unread_flaw place body Refused none flaw = absurd flaw

pub record_is_refused : (index : ℕ) (read : Result Record RecordFault) (body : List ℕ) (s : System) (fault : RestoreFault) → IfOk read (λ r. Spells HasSpelling record_text r body)
    → ((other : Record) → HasSpelling other → body ≡ record_text other → IsReadSo other read) → (IsErrOf read record_fault.NoMemory → IsRecord body)
    → RefusesRead index read s fault → IsRefused index body s fault
record_is_refused index (Ok r) body s (Unlawful i flaw) found only out refused = (refused.0, read_leaves_nothing body r s only refused.1, read_flaw r body flaw found refused.2)
record_is_refused index (Ok r) body s NoMemory found only out refused = record { value = r; spells = found }
record_is_refused index (Err (Bad place)) body s (Unlawful i flaw) found only out refused = (refused.0, λ other fits is. absurd (only other fits is), unread_flaw place body flaw only refused.1)
record_is_refused index (Err (Bad place)) body s NoMemory found only out refused = absurd refused
record_is_refused index (Err record_fault.NoMemory) body s (Unlawful i flaw) found only out refused = absurd refused
record_is_refused index (Err record_fault.NoMemory) body s NoMemory found only out refused = out refl
