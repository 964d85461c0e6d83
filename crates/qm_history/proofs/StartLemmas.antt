-- Worlds with which programs begin.
use Rattle.std.proofs.Common.{◌≡◌, ℕ, ◌<◌, ◌≤◌, ◌^◌, true, List, [], ◌∷◌, ◌++◌, length, map, take, drop, refl, sym, ◌∙◌, ap, subst, arith}
use Rattle.std.specs.Int.{w64, to_le_bytes, from_le_bytes}
use Rattle.std.specs.List.{AllByRecursion}
use Rattle.std.proofs.lemmas.List.{length-replicate}
use Rattle.std.proofs.lemmas.Nat.{from_le_bytes-to_le_bytes_8}
use Rattle.qm_history.specs.Common.{Record, Body, System, AreNext, IsAccepted, CanStandBehind, after_record, system_of, image_of, first_world, Hold, HoldRecords, Starts, system_in, IsSound, IsLog, HasSpelling, record_text}
use Rattle.qm_kinds.specs.declared.record.Body.TheVariants as body
use Rattle.qm_history.specs.declared.world.World.{World}
use Rattle.qm_history.specs.Master.{MasterRecord, Found, Epoch, Live, MasterState, master_text, after_master, master_of, no_master, CanBeLater, CanStandInMaster, AllStandInMaster, AreMaster}

pub first_sound : (log : List Record) (epoch : ℕ) → IsAccepted log → IsSound (first_world log epoch)
first_sound log epoch h = record {
  log = h;
  live = length-replicate (length (system_of log).nodes) true;
  held = length-replicate (length (system_of log).nodes) 0;
  manager = tt;
  doubt = tt;
  alone = λ some. refl;
}

-- ---- masters

-- the numbers of a record have eight bytes
abbrev pub IsSmall : MasterRecord → Type 0
IsSmall (Found cap file) = cap < 2 ^ 64
IsSmall (Epoch epoch node) = epoch < 2 ^ 64
IsSmall (Live file epoch) = epoch < 2 ^ 64

same_eight : (a b : ℕ) → a < 2 ^ 64 → b < 2 ^ 64 → to_le_bytes w64 a ≡ to_le_bytes w64 b → a ≡ b
same_eight a b small_a small_b same = sym (from_le_bytes-to_le_bytes_8 a small_a) ∙ ap (from_le_bytes w64) same ∙ from_le_bytes-to_le_bytes_8 b small_b

pub one_text : (a b : MasterRecord) → IsSmall a → IsSmall b → master_text a ≡ master_text b → a ≡ b
one_text (Found cap file) (Found c f) small_a small_b same =
    let number : cap ≡ c = same_eight cap c small_a small_b (ap (λ xs. take 8 (drop 2 xs)) same) in
    let last : file ≡ f = cc in
    cc
one_text (Epoch epoch node) (Epoch e n) small_a small_b same =
    let number : epoch ≡ e = same_eight epoch e small_a small_b (ap (λ xs. take 8 (drop 2 xs)) same) in
    let last : node ≡ n = cc in
    cc
one_text (Live file epoch) (Live f e) small_a small_b same =
    let number : epoch ≡ e = same_eight epoch e small_a small_b (ap (λ xs. take 8 (drop 3 xs)) same) in
    let first : file ≡ f = cc in
    cc
one_text (Found cap file) (Epoch e n) small_a small_b same = let bad : ◌≡◌ {A = ℕ} 64 65 = cc in absurd (omega (arith, bad))
one_text (Found cap file) (Live f e) small_a small_b same = let bad : ◌≡◌ {A = ℕ} 64 66 = cc in absurd (omega (arith, bad))
one_text (Epoch epoch node) (Found c f) small_a small_b same = let bad : ◌≡◌ {A = ℕ} 65 64 = cc in absurd (omega (arith, bad))
one_text (Epoch epoch node) (Live f e) small_a small_b same = let bad : ◌≡◌ {A = ℕ} 65 66 = cc in absurd (omega (arith, bad))
one_text (Live file epoch) (Found c f) small_a small_b same = let bad : ◌≡◌ {A = ℕ} 66 64 = cc in absurd (omega (arith, bad))
one_text (Live file epoch) (Epoch e n) small_a small_b same = let bad : ◌≡◌ {A = ℕ} 66 65 = cc in absurd (omega (arith, bad))

-- each number is small
abbrev AllSmall : List MasterRecord → Type 0
AllSmall [] = Unit {0}
AllSmall (r ∷ records) = IsSmall r × AllSmall records

one_list : (a b : List MasterRecord) → AllSmall a → AllSmall b → map master_text a ≡ map master_text b → a ≡ b
one_list [] [] small_a small_b same = refl
one_list [] (r ∷ b) small_a small_b same = cc
one_list (r ∷ a) [] small_a small_b same = cc
one_list (q ∷ a) (r ∷ b) small_a small_b same =
    let first : master_text q ≡ master_text r = cc in
    let others : map master_text a ≡ map master_text b = cc in
    let one : q ≡ r = one_text q r small_a.0 small_b.0 first in
    let more : a ≡ b = one_list a b small_a.1 small_b.1 others in
    cc

pub master_append : (m : MasterState) (a : List MasterRecord) (r : MasterRecord) → master_of m (a ++ r ∷ []) ≡ after_master (master_of m a) r
master_append m [] r = refl
master_append m (x ∷ a) r = master_append (after_master m x) a r

-- what the master says of epochs is small
first_small : (r : MasterRecord) → CanStandInMaster [] r → IsSmall r × ((after_master no_master r).epoch < 2 ^ 62)
first_small (Found cap file) h = let below : cap ≤ 268435456 = h.1 in (omega arith, omega arith)
first_small (Epoch epoch node) h = absurd h
first_small (Live file epoch) h = absurd h

later_small : (m : MasterState) (r : MasterRecord) → m.epoch < 2 ^ 62 → CanBeLater m r → IsSmall r × ((after_master m r).epoch < 2 ^ 62)
later_small m (Found cap file) small h = absurd h
later_small m (Epoch epoch node) small h = let below : epoch < 2 ^ 62 = h.1 in (omega arith, below)
later_small m (Live file epoch) small h = let same : epoch ≡ m.epoch = h.1 in (omega arith, small)

pub one_small : (before : List MasterRecord) (r : MasterRecord) → (master_of no_master before).epoch < 2 ^ 62 → CanStandInMaster before r
    → IsSmall r × ((after_master (master_of no_master before) r).epoch < 2 ^ 62)
one_small [] r small h = first_small r h
one_small (first ∷ before) r small h = later_small (master_of no_master (first ∷ before)) r small h

all_small : (before records : List MasterRecord) → (master_of no_master before).epoch < 2 ^ 62 → AllStandInMaster before records → AllSmall records
all_small before [] small h = tt
all_small before (r ∷ records) small h =
    let one = one_small before r small h.0 in
    (one.0, all_small (before ++ r ∷ []) records (subst (λ (m : MasterState). m.epoch < 2 ^ 62) (sym (master_append no_master before r)) one.1) h.1)

masters_small : (records : List MasterRecord) → AreMaster records → AllSmall records
masters_small records h = all_small [] records (omega arith) h.each

-- ---- records

pub hold_begins : (files : ℕ → List ℕ) (log : List Record) → Hold files log
    → (w : World) × Starts files w × IsSound w × (system_in w ≡ system_of log)
hold_begins files log h = (
  first_world h.records h.says.epoch,
  record { says = h.says; records = h.records; hold = h.hold; begins = refl },
  first_sound h.records h.says.epoch h.hold.accepted,
  h.same,
)

pub starts_sound : (files : ℕ → List ℕ) (w : World) → Starts files w → IsSound w
starts_sound files w h = subst IsSound (sym h.begins) (first_sound h.records h.says.epoch h.hold.accepted)

pub starts_hold : (files : ℕ → List ℕ) (w : World) → Starts files w → Hold files w.log
starts_hold files w h = record { says = h.says; records = h.records; hold = h.hold; same = ap (λ (v : World). system_of v.log) (sym h.begins) }

module _ (one_log : (file : List ℕ) (a b : List (List ℕ)) → IsLog file a → IsLog file b → a ≡ b) (one_record : (q r : Record) → HasSpelling q → HasSpelling r → record_text q ≡ record_text r → q ≡ r) where
  abbrev AllSpelled : List Record → Type 0
  AllSpelled records = AllByRecursion HasSpelling records

  same_records : (a b : List Record) → AllSpelled a → AllSpelled b → map record_text a ≡ map record_text b → a ≡ b
  same_records [] [] spelled_a spelled_b same = refl
  same_records [] (r ∷ b) spelled_a spelled_b same = cc
  same_records (r ∷ a) [] spelled_a spelled_b same = cc
  same_records (q ∷ a) (r ∷ b) spelled_a spelled_b same =
      let first : record_text q ≡ record_text r = cc in
      let others : map record_text a ≡ map record_text b = cc in
      let one : q ≡ r = one_record q r spelled_a.0 spelled_b.0 first in
      let more : a ≡ b = same_records a b spelled_a.1 spelled_b.1 others in
      cc

  both_spelled : (a b : List Record) → AllSpelled a → AllSpelled b → AllSpelled (a ++ b)
  both_spelled [] b first second = second
  both_spelled (r ∷ a) b first second = (first.0, both_spelled a b first.1 second)

  body_spelled : (s : System) (moment node : ℕ) (b : Body) → CanStandBehind s moment node b → HasSpelling (record { moment = moment; node = node; body = b })
  body_spelled s moment node (body.Ask asked) can = can.spelled
  body_spelled s moment node _ can = absurd can

  next_spelled : (s : System) (records : List Record) → AreNext s records → AllSpelled records
  next_spelled s [] next = tt
  next_spelled s (r ∷ records) next = (body_spelled s r.moment r.node r.body next.0, next_spelled (after_record s r) records next.1)

  accepted_spelled : (log : List Record) → IsAccepted log → AllSpelled log
  accepted_spelled log h = subst AllSpelled (sym h.whole) (both_spelled (image_of h.image) h.requests h.spelled (next_spelled h.image h.requests h.next))

  -- files have one master
  pub says_one : (files : ℕ → List ℕ) (says said : MasterState) (records others : List Record) → HoldRecords files says records
      → HoldRecords files said others → says ≡ said
  says_one files says said records others h k =
      let masters : h.masters ≡ k.masters =
      one_list h.masters k.masters (masters_small h.masters h.are_master) (masters_small k.masters k.are_master)
      (one_log (files 0) (map master_text h.masters) (map master_text k.masters) h.master_is_log k.master_is_log) in
      h.says_is ∙ ap (master_of no_master) masters ∙ sym k.says_is

  pub starts_one : (files : ℕ → List ℕ) (w v : World) → Starts files w → Starts files v → w ≡ v
  starts_one files w v h k =
      let says : h.says ≡ k.says = says_one files h.says k.says h.records k.records h.hold k.hold in
      let live : IsLog (files k.says.live) (map record_text h.records) = subst (λ (m : MasterState). IsLog (files m.live) (map record_text h.records)) says h.hold.live_is_log in
      let records : h.records ≡ k.records =
      same_records h.records k.records (accepted_spelled h.records h.hold.accepted) (accepted_spelled k.records k.hold.accepted)
      (one_log (files k.says.live) (map record_text h.records) (map record_text k.records) live k.hold.live_is_log) in
      h.begins ∙ ap (λ (x : List Record). first_world x h.says.epoch) records ∙ ap (λ (m : MasterState). first_world k.records m.epoch) says ∙ sym k.begins

  -- files stand for one system
  pub starts_system : (files : ℕ → List ℕ) (log : List Record) (v : World) → Hold files log → Starts files v
      → system_in v ≡ system_of log
  starts_system files log v h k =
      let begun = hold_begins files log h in ap system_in (starts_one files v begun.0 k begun.1) ∙ begun.3

  pub hold_one : (files : ℕ → List ℕ) (a b : List Record) → Hold files a → Hold files b → system_of a ≡ system_of b
  hold_one files a b h k = let begun = hold_begins files a h in sym begun.3 ∙ starts_system files b begun.0 k begun.1
