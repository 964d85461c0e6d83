-- What was read before a takeover: the world's log, with what it tells of a record in doubt.
use Rattle.std.proofs.Common.{◌≡◌, inl, inr, ⊎_elim, ℕ, zero, suc, ◌+◌, arith, Bool, true, false, List, [], ◌∷◌, ◌++◌, length, map, refl, sym, ◌∙◌, ap, subst, Option, None, Some, is_some, option_to_list, append-nil, length-append}
use Rattle.std.specs.List.{AllByRecursion}
use Rattle.qm_history.specs.Common.{CrashState, Meaning, OnlyLooks, IsLog, Record, System, no_system, replayed, system_of, HasSpelling, record_text, image_of, cluster, IsSound, doubt_read, log_read, system_in}
use Rattle.qm_record.proofs.Records.{no_prefix}
use Rattle.qm_store.specs.Recorded.{Recorded, Holds, IsAtRest}
use Rattle.qm_store.proofs.Contents.{one_content}
use Rattle.qm_store.proofs.Moving.{live_le}
use Rattle.qm_restore.specs.QueueFile.{IsSiteFile}
use Rattle.qm_acting.specs.Reading.{IsTold}
use Rattle.qm_acting.specs.Standing.{Standing}
use Rattle.qm_history.specs.declared.event.Event.{Event}
use Rattle.qm_history.specs.declared.world.World.{World}
use Rattle.qm_history.proofs.LogLemmas.{image_stands, replayed_append}
use Rattle.qm_history.proofs.SoundLemmas.{read_log}
use Rattle.qm_chest.specs.declared.place.Place.{Place}
use Rattle.qm_chest.specs.Holding.{IsFound, MayHold, SomeHold, AllHold}
use Rattle.qm_chest.specs.Parts.{HoldsWithin}
use Rattle.qm_chest.specs.Taking.{Finds, IsReadOf}
use Rattle.qm_chest.proofs.Holding.{SiteFilesAreAccepted, holds_log, left_of}
use Rattle.qm_chest.proofs.Kept.{NodesKeepTheirNames}

-- ---- a queue file stands for one system

same_first : (a b : List ℕ) (xs ys : List (List ℕ)) → a ∷ xs ≡ b ∷ ys → a ≡ b
same_first a b xs ys h = cc

same_others : (a b : List ℕ) (xs ys : List (List ℕ)) → a ∷ xs ≡ b ∷ ys → xs ≡ ys
same_others a b xs ys h = cc

one_record : (q r : Record) → HasSpelling q → HasSpelling r → record_text q ≡ record_text r → q ≡ r
one_record q r q_fits r_fits same = sym (no_prefix q r [] q_fits r_fits (sym same ∙ sym (append-nil (record_text q)))).0

one_list : (xs ys : List Record) → AllByRecursion HasSpelling xs → AllByRecursion HasSpelling ys → map record_text xs ≡ map record_text ys → xs ≡ ys
one_list [] [] all others same = refl
one_list [] (y ∷ ys) all others same = cc
one_list (x ∷ xs) [] all others same = cc
one_list (x ∷ xs) (y ∷ ys) all others same =
    let first : x ≡ y = one_record x y all.0 others.0 (same_first (record_text x) (record_text y) (map record_text xs) (map record_text ys) same) in
    let more : xs ≡ ys = one_list xs ys all.1 others.1 (same_others (record_text x) (record_text y) (map record_text xs) (map record_text ys) same) in
    λ i. first i ∷ more i

-- its records, and the system that they stand for
records_of : (bodies : List (List ℕ)) (s : System) → IsSiteFile bodies s → List Record
records_of bodies s site = image_of site.first ++ site.file.requests

stand_for : (bodies : List (List ℕ)) (s : System) (site : IsSiteFile bodies s) → system_of (image_of site.first ++ site.file.requests) ≡ s
stand_for bodies s site =
    replayed_append no_system (image_of site.first) site.file.requests
    ∙ ap (λ (t : System). replayed t site.file.requests) (image_stands site.first) ∙ site.file.lead.leave

pub one_system : (bodies : List (List ℕ)) (s t : System) → IsSiteFile bodies s → IsSiteFile bodies t → s ≡ t
one_system bodies s t a b =
    let same : image_of a.first ++ a.file.requests ≡ image_of b.first ++ b.file.requests =
    one_list (image_of a.first ++ a.file.requests) (image_of b.first ++ b.file.requests) a.file.fit b.file.fit (sym a.file.spelled ∙ b.file.spelled) in
    sym (stand_for bodies s a) ∙ ap system_of same ∙ stand_for bodies t b

-- ---- what was found of a record in doubt

split_last : {X : Type 0} (xs : List X) (n : ℕ) → length xs ≡ n + 1 → (front : List X) × (last : X) × (length front ≡ n) × (xs ≡ front ++ last ∷ [])
split_last [] n size = absurd (omega (arith, size))
split_last (x ∷ []) n size = ([], x, omega (arith, size), refl)
split_last (x ∷ y ∷ xs) zero size = absurd (omega (arith, size))
split_last (x ∷ y ∷ xs) (suc n) size =
    let more = split_last (y ∷ xs) n (omega (arith, size)) in
    (x ∷ more.0, more.1, omega (arith, more.2), ap (λ (l : List _). x ∷ l) more.3)

-- the bodies of a file that has one more than were there before, or no more
found_kept : (r : Recorded) (live before : ℕ) → IsTold r live before false → r.says.live ≡ live → length r.bodies ≡ before + 1 → ⊥
found_kept r live before told same size =
    let parts = split_last r.bodies before size in
    let is : r.bodies ≡ parts.0 = told parts.0 parts.1 parts.2 same (inr parts.3) in
    omega (arith, size, ap length is, parts.2)

found_not : (r : Recorded) (live before : ℕ) → IsTold r live before true → r.says.live ≡ live → length r.bodies ≡ before → ⊥
found_not r live before told same size =
    let is : r.bodies ≡ r.bodies ++ [] ∷ [] = told r.bodies [] size same (inl refl) in
    omega (arith, ap length is, length-append r.bodies ([] ∷ []))

-- reading tells what became of the record in doubt
pub log_found : (w : World) (doubt : Option Record) (place : Option Place) (kept : Option Bool) (log : List Record) (r : Recorded) → w.doubt ≡ doubt → Finds r place kept → IsFound doubt place w.log log r
    → (is_some kept ≡ is_some doubt) × (log ≡ log_read w kept)
log_found w None None kept log r is finds found = (ap is_some finds, found ∙ ap (log_read w) (sym finds))
log_found w None (Some place) kept log r is finds found = absurd found
log_found w (Some d) None kept log r is finds found = absurd found
log_found w (Some d) (Some place) None log r is finds found = absurd finds
log_found w (Some d) (Some place) (Some false) log r is finds (live, inl a) = (refl, a.1)
log_found w (Some d) (Some place) (Some false) log r is finds (live, inr b) = absurd (found_kept r place.file place.before finds live b.0)
log_found w (Some d) (Some place) (Some true) log r is finds (live, inl a) = absurd (found_not r place.file place.before finds live a.0)
log_found w (Some d) (Some place) (Some true) log r is finds (live, inr b) = (refl, b.1 ∙ ap (λ (o : Option Record). w.log ++ option_to_list o) (sym is))

-- nothing is in doubt any more
no_doubt_at : (o : Option Record) → is_some o ≡ false → o ≡ None
no_doubt_at None h = refl
no_doubt_at (Some r) h = cc

pub sure_read : (w : World) (kept : Option Bool) → is_some kept ≡ is_some w.doubt → doubt_read w kept ≡ None
sure_read w None told = no_doubt_at w.doubt (sym told)
sure_read w (Some k) told = refl

pub found_at : (doubt : Option Record) (before log : List Record) (r : Recorded) → doubt ≡ None → log ≡ before → IsFound doubt None before log r
found_at None before log r none same = same
found_at (Some d) before log r none same = cc

-- ---- what the files hold

-- files that hold a log of the world hold what a crash within any events may leave
pub some_within : SiteFilesAreAccepted → (cap : ℕ) (w : World) (place : Option Place) (events : List Event) (files : CrashState) → SomeHold (MayHold cap w place) files → HoldsWithin w events files
some_within accepted cap w place events files some = record {
  log = some.is.log;
  left = ⊎_elim (λ a. inl a) (λ b. inr (inl b)) (left_of w.doubt place w.log some.is.log some.recorded some.is.found);
  holds = holds_log accepted files some.recorded some.is.log some.holds some.is.site;
  recorded = some.is.recorded;
}

-- what files at rest hold was there before they were looked at
pub held_before : {D : Type 0} (m : Meaning D) (old disk : D) (r : Recorded) → IsAtRest m r disk → OnlyLooks m old disk → Holds (m.seen old) r
held_before m old disk r rest looks = record {
  master_is_log = subst (λ (f : List ℕ). IsLog f r.master) (looks.reads 0 (omega arith)) rest.holds.master_is_log;
  is_master = rest.holds.is_master;
  live_is_log = subst (λ (f : List ℕ). IsLog f r.bodies) (looks.reads r.says.live (live_le m r disk rest)) rest.holds.live_is_log;
}

module _ (accepted : SiteFilesAreAccepted) {D : Type 0} (m : Meaning D) (cap : ℕ) (w : World) (place : Option Place) (kept : Option Bool) (old disk : D) (st : Standing)
    (all : AllHold m (MayHold cap w place) old) (holds : Holds (m.seen old) st.recorded) (site : IsSiteFile st.recorded.bodies st.system) (rest : IsAtRest m st.recorded disk)
    (looks : OnlyLooks m old disk) (finds : Finds st.recorded place kept)
  where
    may_read : MayHold cap w place st.recorded
    may_read = subst (MayHold cap w place) (one_content (m.seen old) all.reads.recorded st.recorded all.reads.holds holds) all.reads.is

    told_read : (is_some kept ≡ is_some w.doubt) × (may_read.log ≡ log_read w kept)
    told_read = log_found w w.doubt place kept may_read.log st.recorded refl finds may_read.found

    pub was_read : IsReadOf m cap w kept old st disk
    was_read = record {
      told = told_read.0;
      system = one_system st.recorded.bodies st.system (system_of may_read.log) site may_read.site ∙ ap system_of told_read.1;
      may = record {
        log = may_read.log;
        found = found_at (doubt_read w kept) (log_read w kept) may_read.log st.recorded (sure_read w kept told_read.0) told_read.1;
        site = may_read.site;
        cap_is = may_read.cap_is;
        fits = may_read.fits;
        epoch = may_read.epoch;
        recorded = may_read.recorded;
      };
      at_rest = rest;
      looks = looks;
      before = λ events crashed left. some_within accepted cap w place events crashed (all.crash crashed left);
    }

-- ---- the nodes

-- what was read is of the same nodes
pub nodes_read : NodesKeepTheirNames → (w : World) (kept : Option Bool) → IsSound w → cluster (system_of (log_read w kept)) ≡ cluster (system_in w)
nodes_read names w kept sound = (read_log names w kept sound).same
