-- How the records of a master are gone through.
use Rattle.std.proofs.Common.{◌≡◌, refl, sym, ◌∙◌, ap, subst, arith, ℕ, ◌<◌, ◌^◌, List, [], ◌∷◌, ◌++◌, length, map, append_assoc, length-append, Option, None, Some}
use Rattle.std.proofs.lemmas.List.{append-nil, map-append, length-map}
use Rattle.qm_history.specs.Master.{MasterRecord, MasterState, Found, Epoch, Live, master_text, after_master, master_of, no_master, CanBeFirst, CanBeLater, CanStandInMaster, AllStandInMaster, AreMaster}
use Rattle.qm_history.proofs.StartLemmas.{IsSmall, one_text, one_small, master_append}
use Rattle.qm_store.specs.MasterRecords.{record_of, HasWidth, IsBegun, SaysNext, SaysFirst, SaysBehind}
use Rattle.qm_store.specs.declared.master.record.MasterRecord.{MasterRecord as Read}
use Rattle.qm_store.specs.declared.master.record.MasterRecord.TheVariants as read
use Rattle.qm_store.specs.declared.master.state.MasterState.{MasterState as State}
use Rattle.qm_store.specs.MasterJudging.{IsMaster, IsFirstBad, IsLawful}

-- a record that can stand in a master has small numbers
pub small_first : (r : MasterRecord) → CanBeFirst r → IsSmall r
small_first (Found cap file) can = let below = can.1 in omega (arith, below)
small_first (Epoch epoch node) can = absurd can
small_first (Live file epoch) can = absurd can

pub small_later : (m : MasterState) (r : MasterRecord) → m.epoch < 2 ^ 64 → CanBeLater m r → IsSmall r
small_later m (Found cap file) small can = absurd can
small_later m (Epoch epoch node) small can = let below = can.1 in omega (arith, below)
small_later m (Live file epoch) small can = let same : epoch ≡ m.epoch = can.1 in omega (arith, same)

-- one record more stands behind those before it
all_stand_more : (before records : List MasterRecord) (r : MasterRecord) → AllStandInMaster before records → CanStandInMaster (before ++ records) r → AllStandInMaster before (records ++ r ∷ [])
all_stand_more before [] r all can = (subst (λ (l : List MasterRecord). CanStandInMaster l r) (append-nil before) can, tt)
all_stand_more before (q ∷ records) r all can =
    (all.0, all_stand_more (before ++ q ∷ []) records r all.1 (subst (λ (l : List MasterRecord). CanStandInMaster l r) (sym (append_assoc before (q ∷ []) records)) can))

-- behind the first record one can stand that is later than what they say
stands_behind : (masters : List MasterRecord) (r : MasterRecord) → AreMaster masters → CanBeLater (master_of no_master masters) r → CanStandInMaster masters r
stands_behind masters r are can =
    subst (λ (l : List MasterRecord). CanStandInMaster l r) (sym are.whole) (subst (λ (l : List MasterRecord). CanBeLater (master_of no_master l) r) are.whole can)

later_of : (masters : List MasterRecord) (r : MasterRecord) → AreMaster masters → CanStandInMaster masters r → CanBeLater (master_of no_master masters) r
later_of masters r are can =
    subst (λ (l : List MasterRecord). CanBeLater (master_of no_master l) r) (sym are.whole) (subst (λ (l : List MasterRecord). CanStandInMaster l r) are.whole can)

-- a first record makes a master
pub master_begins : (body : List ℕ) (r : MasterRecord) (says : MasterState) → body ≡ master_text r → CanBeFirst r → says ≡ after_master no_master r → IsMaster (body ∷ []) says
master_begins body r says text can is = record {
  masters = r ∷ [];
  whole = ap (λ (l : List ℕ). l ∷ []) text;
  are_master = record { first = r; others = []; whole = refl; each = (can, tt) };
  says_is = is;
}

-- a later one makes it longer
pub master_grows : (bodies : List (List ℕ)) (body : List ℕ) (before says : MasterState) (r : MasterRecord) → IsMaster bodies before → body ≡ master_text r → CanBeLater before r → says ≡ after_master before r
    → IsMaster (bodies ++ body ∷ []) says
master_grows bodies body before says r old text can is = record {
  masters = old.masters ++ r ∷ [];
  whole = ap (λ (l : List (List ℕ)). l ++ body ∷ []) old.whole ∙ ap (λ (l : List ℕ). map master_text old.masters ++ l ∷ []) text ∙ sym (map-append master_text old.masters (r ∷ []));
  are_master = record {
    first = old.are_master.first;
    others = old.are_master.others ++ r ∷ [];
    whole = ap (λ (l : List MasterRecord). l ++ r ∷ []) old.are_master.whole;
    each = all_stand_more [] old.masters r old.are_master.each (stands_behind old.masters r old.are_master (subst (λ (m : MasterState). CanBeLater m r) old.says_is can));
  };
  says_is = is ∙ ap (λ (m : MasterState). after_master m r) old.says_is ∙ sym (master_append no_master old.masters r);
}

-- a body that can't be the first is the first that is wrong
pub first_is_bad : (body : List ℕ) (behind : List (List ℕ)) → ((r : MasterRecord) → master_text r ≡ body → CanBeFirst r → ⊥) → IsFirstBad (body ∷ behind) 0
first_is_bad body behind none = record { before = []; bad = body; behind = behind; whole = refl; index_is = refl; each = tt; none = none }

-- and so is one that can't stand behind those before it
pub next_is_bad : (bodies : List (List ℕ)) (body : List ℕ) (behind : List (List ℕ)) (says : MasterState) → IsMaster bodies says → ((r : MasterRecord) → master_text r ≡ body → CanBeLater says r → ⊥)
    → IsFirstBad (bodies ++ body ∷ behind) (length bodies)
next_is_bad bodies body behind says old none = record {
  before = old.masters;
  bad = body;
  behind = behind;
  whole = ap (λ (l : List (List ℕ)). l ++ body ∷ behind) old.whole;
  index_is = ap length old.whole ∙ length-map old.masters master_text;
  each = old.are_master.each;
  none = λ r text can. none r text (subst (λ (m : MasterState). CanBeLater m r) (sym old.says_is) (later_of old.masters r old.are_master can));
}

-- what a record that was read can't be, no record of these bytes can
pub no_other_first : (body : List ℕ) (read : MasterRecord) → body ≡ master_text read → IsSmall read → (CanBeFirst read → ⊥) → (r : MasterRecord) → master_text r ≡ body → CanBeFirst r → ⊥
no_other_first body read is small cannot r text can = cannot (subst CanBeFirst (one_text r read (small_first r can) small (text ∙ is)) can)

pub no_other_later : (m : MasterState) (body : List ℕ) (read : MasterRecord) → m.epoch < 2 ^ 64 → body ≡ master_text read → IsSmall read → (CanBeLater m read → ⊥)
    → (r : MasterRecord) → master_text r ≡ body → CanBeLater m r → ⊥
no_other_later m body read fits is small cannot r text can = cannot (subst (CanBeLater m) (one_text r read (small_later m r fits can) small (text ∙ is)) can)

-- ---- records that were read

wide_small : (r : Read) → HasWidth r → IsSmall (record_of r)
wide_small (read.Found cap file) wide = wide
wide_small (read.Epoch epoch node) wide = wide
wide_small (read.Live file epoch) wide = wide

pub first_said : (body : List ℕ) (r : Read) (result : Option State) → body ≡ master_text (record_of r) → HasWidth r → IsBegun (record_of r) result → SaysFirst body result
first_said body r None text wide cannot = no_other_first body (record_of r) text (wide_small r wide) cannot
first_said body r (Some says) text wide can = (record_of r, text, can.0, can.1)

pub next_said : (m : MasterState) (body : List ℕ) (r : Read) (result : Option State) → m.epoch < 2 ^ 62 → body ≡ master_text (record_of r) → HasWidth r → SaysNext m (record_of r) result → SaysBehind m body result
next_said m body r None early text wide cannot = no_other_later m body (record_of r) (omega (arith, early)) text (wide_small r wide) cannot
next_said m body r (Some says) early text wide can = (record_of r, text, can.0, can.1)

-- ---- what a master can say

lawful_first : (r : MasterRecord) → CanBeFirst r → IsLawful (after_master no_master r)
lawful_first (Found cap file) can = record { least = can.0; greatest = can.1; live = can.2; epoch = omega arith }
lawful_first (Epoch epoch node) can = absurd can
lawful_first (Live file epoch) can = absurd can

lawful_next : (m : MasterState) (r : MasterRecord) → IsLawful m → CanBeLater m r → IsLawful (after_master m r)
lawful_next m (Found cap file) lawful can = absurd can
lawful_next m (Epoch epoch node) lawful can = record { least = lawful.least; greatest = lawful.greatest; live = lawful.live; epoch = can.1 }
lawful_next m (Live file epoch) lawful can = record { least = lawful.least; greatest = lawful.greatest; live = can.0; epoch = lawful.epoch }

lawful_behind : (first : MasterRecord) (before others : List MasterRecord) → IsLawful (master_of no_master (first ∷ before)) → AllStandInMaster (first ∷ before) others
    → IsLawful (master_of no_master ((first ∷ before) ++ others))
lawful_behind first before [] lawful all = subst (λ (l : List MasterRecord). IsLawful (master_of no_master l)) (sym (append-nil (first ∷ before))) lawful
lawful_behind first before (r ∷ others) lawful all =
    let next : IsLawful (master_of no_master ((first ∷ before) ++ r ∷ [])) =
    subst IsLawful (sym (master_append no_master (first ∷ before) r)) (lawful_next (master_of no_master (first ∷ before)) r lawful all.0) in
    subst (λ (l : List MasterRecord). IsLawful (master_of no_master l)) (append_assoc (first ∷ before) (r ∷ []) others) (lawful_behind first (before ++ r ∷ []) others next all.1)

pub lawful_master : (masters : List MasterRecord) → AreMaster masters → IsLawful (master_of no_master masters)
lawful_master masters are =
    let all : AllStandInMaster [] (are.first ∷ are.others) = subst (AllStandInMaster []) are.whole are.each in
    subst (λ (l : List MasterRecord). IsLawful (master_of no_master l)) (sym are.whole) (lawful_behind are.first [] are.others (lawful_first are.first all.0) all.1)

pub says_lawful : (bodies : List (List ℕ)) (says : MasterState) → IsMaster bodies says → IsLawful says
says_lawful bodies says is = subst IsLawful (sym is.says_is) (lawful_master is.masters is.are_master)

-- a master has a record
pub has_record : (bodies : List (List ℕ)) (says : MasterState) → IsMaster bodies says → 0 < length bodies
has_record bodies says is =
    let same : length bodies ≡ length (map master_text (is.are_master.first ∷ is.are_master.others)) = ap length is.whole ∙ ap (λ (l : List MasterRecord). length (map master_text l)) is.are_master.whole in
    omega (arith, same)

-- a body that is the first wrong one is one of them
pub bad_within : (bodies : List (List ℕ)) (index : ℕ) → IsFirstBad bodies index → index < length bodies
bad_within bodies index bad =
    omega (arith, bad.index_is, ap length bad.whole, length-append (map master_text bad.before) (bad.bad ∷ bad.behind), length-map bad.before master_text)

-- ---- bodies say one thing

-- records of one text at one place of a master are one
one_by_one : (done a b : List MasterRecord) → (master_of no_master done).epoch < 2 ^ 62 → AllStandInMaster done a → AllStandInMaster done b → map master_text a ≡ map master_text b → a ≡ b
one_by_one done [] [] small all each same = refl
one_by_one done [] (r ∷ b) small all each same = cc
one_by_one done (r ∷ a) [] small all each same = cc
one_by_one done (q ∷ a) (r ∷ b) small all each same =
    let text : master_text q ≡ master_text r = cc in
    let rest : map master_text a ≡ map master_text b = cc in
    let first = one_small done q small all.0 in
    let one : q ≡ r = one_text q r first.0 (one_small done r small each.0).0 text in
    let grown : (master_of no_master (done ++ q ∷ [])).epoch < 2 ^ 62 = subst (λ (m : MasterState). m.epoch < 2 ^ 62) (sym (master_append no_master done q)) first.1 in
    let others : a ≡ b = one_by_one (done ++ q ∷ []) a b grown all.1 (subst (λ (x : MasterRecord). AllStandInMaster (done ++ x ∷ []) b) (sym one) each.1) rest in
    cc

pub one_master : (bodies : List (List ℕ)) (a b : MasterState) → IsMaster bodies a → IsMaster bodies b → a ≡ b
one_master bodies a b left right =
    left.says_is
    ∙ ap (master_of no_master) (one_by_one [] left.masters right.masters (omega arith) left.are_master.each right.are_master.each (sym left.whole ∙ right.whole))
    ∙ sym right.says_is
