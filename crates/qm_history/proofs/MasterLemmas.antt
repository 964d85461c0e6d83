-- A master is sound, unformatted or damaged at one place, and never two of these.
use Rattle.std.proofs.Common.{◌≡◌, ℕ, ◌<◌, ◌^◌, inl, inr, List, [], ◌∷◌, ◌++◌, length, map, refl, sym, ◌∙◌, ap, subst, arith, append_assoc, append-nil}
use Rattle.qm_glog.specs.Records.{IsLog}
use Rattle.qm_history.specs.Judged.{ReadsOneWay}
use Rattle.qm_history.specs.Master.{MasterRecord, MasterState, master_text, master_of, no_master, AreMaster, AllStandInMaster, CanStandInMaster}
use Rattle.qm_history.specs.Start.{IsFirstBadMaster, IsMasterDamaged, IsUnformatted, place_of}
use Rattle.qm_history.proofs.StartLemmas.{one_small, one_text, master_append}

-- no record of this text can stand there
abbrev pub NoneCanStand : List MasterRecord → List ℕ → Type 0
NoneCanStand before bad = (r : MasterRecord) → master_text r ≡ bad → CanStandInMaster before r → ⊥

module _ (done : List MasterRecord) (small : (master_of no_master done).epoch < 2 ^ 62) (q r : MasterRecord) where
  -- records of one text that can stand in one place are the same
  same_record : CanStandInMaster done q → CanStandInMaster done r → master_text q ≡ master_text r → q ≡ r
  same_record can can_too same = one_text q r (one_small done q small can).0 (one_small done r small can_too).0 same

  small_behind : CanStandInMaster done q → (master_of no_master (done ++ q ∷ [])).epoch < 2 ^ 62
  small_behind can = subst (λ (m : MasterState). m.epoch < 2 ^ 62) (sym (master_append no_master done q)) (one_small done q small can).1

behind_one : (done before : List MasterRecord) (q : MasterRecord) (bad : List ℕ) → NoneCanStand (done ++ q ∷ before) bad → NoneCanStand ((done ++ q ∷ []) ++ before) bad
behind_one done before q bad none = subst (λ l. NoneCanStand l bad) (sym (append_assoc done (q ∷ []) before)) none

here_none : (done : List MasterRecord) (bad : List ℕ) → NoneCanStand (done ++ []) bad → NoneCanStand done bad
here_none done bad none = subst (λ l. NoneCanStand l bad) (append-nil done) none

-- records that can all stand have none that can't
clash : (done records before : List MasterRecord) (bad : List ℕ) (behind : List (List ℕ)) → (master_of no_master done).epoch < 2 ^ 62 → AllStandInMaster done records → AllStandInMaster done before
    → map master_text records ≡ map master_text before ++ bad ∷ behind → NoneCanStand (done ++ before) bad → ⊥
clash done [] [] bad behind small all each same none = cc
clash done [] (q ∷ before) bad behind small all each same none = cc
clash done (r ∷ records) [] bad behind small all each same none = let text : master_text r ≡ bad = cc in here_none done bad none r text all.0
clash done (r ∷ records) (q ∷ before) bad behind small all each same none =
    let text : master_text r ≡ master_text q = cc in
    let rest : map master_text records ≡ map master_text before ++ bad ∷ behind = cc in
    let one : r ≡ q = same_record done small r q all.0 each.0 text in
    clash (done ++ q ∷ []) records before bad behind (small_behind done small q r each.0) (subst (λ x. AllStandInMaster (done ++ x ∷ []) records) one all.1) each.1 rest
    (behind_one done before q bad none)

-- the first one that can't stand is in one place
first_place : (done a b : List MasterRecord) (bad worse : List ℕ) (behind more : List (List ℕ)) → (master_of no_master done).epoch < 2 ^ 62 → AllStandInMaster done a → AllStandInMaster done b
    → map master_text a ++ bad ∷ behind ≡ map master_text b ++ worse ∷ more → NoneCanStand (done ++ a) bad → NoneCanStand (done ++ b) worse → length a ≡ length b
first_place done [] [] bad worse behind more small all each same none none_too = refl
first_place done [] (r ∷ b) bad worse behind more small all each same none none_too =
    let text : master_text r ≡ bad = cc in absurd (here_none done bad none r text each.0)
first_place done (q ∷ a) [] bad worse behind more small all each same none none_too =
    let text : master_text q ≡ worse = cc in absurd (here_none done worse none_too q text all.0)
first_place done (q ∷ a) (r ∷ b) bad worse behind more small all each same none none_too =
    let text : master_text q ≡ master_text r = cc in
    let rest : map master_text a ++ bad ∷ behind ≡ map master_text b ++ worse ∷ more = cc in
    let one : r ≡ q = sym (same_record done small q r all.0 each.0 text) in
    let further : length a ≡ length b =
    first_place (done ++ q ∷ []) a b bad worse behind more (small_behind done small q r all.0) all.1 (subst (λ x. AllStandInMaster (done ++ x ∷ []) b) one each.1) rest
    (behind_one done a q bad none) (behind_one done b q worse (subst (λ x. NoneCanStand (done ++ x ∷ b) worse) one none_too)) in
    omega (arith, further)

module _ (one_way : ReadsOneWay) where
  abbrev FirstBad : List (List ℕ) → ℕ → Type 0
  FirstBad bodies index = IsFirstBadMaster bodies index

  abbrev Damaged : List ℕ → ℕ → Type 0
  Damaged file place = IsMasterDamaged file place

  never_bad : (masters : List MasterRecord) (index : ℕ) → AreMaster masters → FirstBad (map master_text masters) index → ⊥
  never_bad masters index are bad = clash [] masters bad.before bad.bad bad.behind (omega arith) are.each bad.each bad.whole bad.none

  one_index : (bodies : List (List ℕ)) (p q : ℕ) → FirstBad bodies p → FirstBad bodies q → p ≡ q
  one_index bodies p q a b =
      a.index_is ∙ first_place [] a.before b.before a.bad b.bad a.behind b.behind (omega arith) a.each b.each (sym a.whole ∙ b.whole) a.none b.none ∙ sym b.index_is

  pub sound_master : (file : List ℕ) (masters : List MasterRecord) (place : ℕ) → IsLog file (map master_text masters) → AreMaster masters → Damaged file place → ⊥
  sound_master file masters place log are (begins, inl broken) = one_way.sound file (map master_text masters) place log broken
  sound_master file masters place log are (begins, inr (bodies, index, log_too, bad, place_is)) =
      never_bad masters index are (subst (λ b. FirstBad b index) (one_way.logs file bodies (map master_text masters) log_too log) bad)

  pub one_place : (file : List ℕ) (p q : ℕ) → Damaged file p → Damaged file q → p ≡ q
  one_place file p q (begins, inl broken) (begins_too, inl broken_too) = one_way.place file p q broken broken_too
  one_place file p q (begins, inl broken) (begins_too, inr (bodies, index, log, bad, place_is)) = absurd (one_way.sound file bodies p log broken)
  one_place file p q (begins, inr (bodies, index, log, bad, place_is)) (begins_too, inl broken) = absurd (one_way.sound file bodies q log broken)
  one_place file p q (begins, inr (bodies, index, log, bad, place_is)) (begins_too, inr (others, at, log_too, bad_too, place_is_too)) =
      let same : bodies ≡ others = one_way.logs file bodies others log log_too in
      let index_is : index ≡ at = one_index others index at (subst (λ b. FirstBad b index) same bad) bad_too in
      place_is ∙ ap (λ b. place_of b index) same ∙ ap (place_of others) index_is ∙ sym place_is_too

  pub unformatted_apart : (files : ℕ → List ℕ) (byte place : ℕ) → IsUnformatted files byte → Damaged (files 0) place → ⊥
  unformatted_apart files byte place (is, other) (begins, damage) = other (is ∙ begins)
