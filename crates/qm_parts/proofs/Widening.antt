-- The rows and the bounds of the queues that are named.
use Rattle.std.proofs.Common.{◌≡◌, ◌≢◌, ◌∙◌, ℕ, ◌+◌, ◌<◌, ◌≤◌, ◌||◌, ⊎_elim, Bool, true, false, cond, List, [], length, get_or, set, Option, None, Result, Ok, Err, refl, sym, ap, subst, arith, OnOk, is_eq, bytes_eq}
use Rattle.std.specs.List.{list_any}
use Rattle.std.specs.Option.{option_map_or}
use Rattle.std.specs.Cmp.Lexicographic.{texts_ties}
use Rattle.std.proofs.lemmas.Bool.{cases_lt}
use Rattle.std.proofs.lemmas.List.{length-set, get_or_default, get_or-set_same, get_or-set_other}
use Rattle.std.proofs.lemmas.Slice.Eq.{bytes_eq-Decides}
use Rattle.qm_keyed.specs.Places.{StandsAt, BelongsAt}
use Rattle.qm_model.specs.Common.{Queue, name_cmp}
use Rattle.qm_tables.proofs.QueueNames.{name_of}
use Rattle.qm_ready.specs.Rows.{Row}
use Rattle.qm_parts.specs.Ready.{KeepsKeys}
use Rattle.qm_parts.specs.Rooms.{HasRoomWhere, IsAtMost, IsRaisedWhere, leads_to, reach, rooms_of, targets_of}
use Rattle.qm_renewal.specs.Renewing.{room_of}
use Rattle.qm_parts.specs.Tables.{Tables}
use Rattle.qm_parts.proofs.Bounds.{at_most_more}
use Rattle.qm_parts.proofs.KeptRows.{IsWider, named_at, none_named}
use Rattle.qm_parts.proofs.RowPlaces.{no_row, room_at}

-- ---- the queue of a name

other_way : (a b : List ℕ) → bytes_eq a b ≡ true → bytes_eq b a ≡ true
other_way a b is =
    let same : a ≡ b = (bytes_eq-Decides a b).0 is in
    subst (λ (x : List ℕ). bytes_eq x a ≡ true) same (subst (λ (x : List ℕ). bytes_eq a x ≡ true) (sym same) is)

pub not_both : (b : Bool) → b ≡ true → b ≡ false → ⊥
not_both b holds fails = cc

module _ (qs : List Queue) (name : List ℕ) where
  -- it stands at its place alone,
  pub only_there : (place : ℕ) → StandsAt name_cmp name_of name qs place → (k : ℕ) (q : Queue) → k < length qs → bytes_eq name (get_or qs k q).name ≡ true → k ≡ place
  only_there place stands k q within is =
      let has : bytes_eq (get_or qs k q).name name ≡ true = other_way name (get_or qs k q).name is in
      ⊎_elim
      (λ (less : k < place). absurd (not_both (bytes_eq (get_or qs k q).name name) has (texts_ties (get_or qs k q).name name ∙ ap is_eq (stands.before k q (omega arith) less))))
      (λ (past : place ≤ k). ⊎_elim
      (λ (more : place < k). absurd (not_both (bytes_eq (get_or qs k q).name name) has (texts_ties (get_or qs k q).name name ∙ ap is_eq (stands.behind k q (omega (arith, more)) within))))
      (λ (back : k ≤ place). omega (arith, past, back))
      (cases_lt place k))
      (cases_lt k place)

  -- or there is none
  pub none_there : (place : ℕ) → BelongsAt name_cmp name_of name qs place → (k : ℕ) (q : Queue) → k < length qs → bytes_eq name (get_or qs k q).name ≡ true → ⊥
  none_there place belongs k q within is =
      let has : bytes_eq (get_or qs k q).name name ≡ true = other_way name (get_or qs k q).name is in
      ⊎_elim
      (λ (less : k < place). not_both (bytes_eq (get_or qs k q).name name) has (texts_ties (get_or qs k q).name name ∙ ap is_eq (belongs.before k q (omega arith) less)))
      (λ (past : place ≤ k). not_both (bytes_eq (get_or qs k q).name name) has (texts_ties (get_or qs k q).name name ∙ ap is_eq (belongs.behind k q past within)))
      (cases_lt k place)

  -- and so are its targets
  pub targets_there : (place : ℕ) → StandsAt name_cmp name_of name qs place → (d : Queue) → targets_of qs name ≡ (get_or qs place d).targets
  targets_there place stands d = ap (λ (o : Option Queue). option_map_or (λ (q : Queue). q.targets) o []) (named_at qs name place stands d)

  pub no_targets : (place : ℕ) → BelongsAt name_cmp name_of name qs place → targets_of qs name ≡ []
  no_targets place belongs = ap (λ (o : Option Queue). option_map_or (λ (q : Queue). q.targets) o []) (none_named qs name place belongs)

  pub none_named_so : (place : ℕ) → BelongsAt name_cmp name_of name qs place → (k : ℕ) (q : Queue) → k < length qs → bytes_eq name (get_or qs k q).name ≡ false
  none_named_so place belongs k q within = step (bytes_eq name (get_or qs k q).name) refl
    where
      step : (b : Bool) → bytes_eq name (get_or qs k q).name ≡ b → b ≡ false
      step true is = absurd (none_there place belongs k q within is)
      step false is = refl

  pub leads_nowhere : (place : ℕ) → BelongsAt name_cmp name_of name qs place → (k : ℕ) (q : Queue) → k < length qs → leads_to qs (get_or qs k q) name ≡ false
  leads_nowhere place belongs k q within =
      ap (λ (b : Bool). b || list_any (λ target. bytes_eq target (get_or qs k q).name) (targets_of qs name)) (none_named_so place belongs k q within)
      ∙ ap (λ (ts : List (List ℕ)). list_any (λ target. bytes_eq target (get_or qs k q).name) ts) (no_targets place belongs)

-- ---- wider rows

pub keeps_same : (rows : List Row) → KeepsKeys rows rows
keeps_same rows = record {
  count = refl;
  schedules = λ place row within. refl;
  keys = λ place row within. refl;
  room = λ place within. omega arith;
}

pub keeps_on : (a b c : List Row) → KeepsKeys a b → KeepsKeys b c → KeepsKeys a c
keeps_on a b c one more = record {
  count = more.count ∙ one.count;
  schedules = λ place row within. more.schedules place row (omega (arith, within, one.count)) ∙ one.schedules place row within;
  keys = λ place row within. more.keys place row (omega (arith, within, one.count)) ∙ one.keys place row within;
  room = λ place within. omega (arith, one.room place within, more.room place (omega (arith, within, one.count)));
}

pub wider_of : (place : ℕ) (old new : Row) → new ≡ record old { spare = new.spare } → old.spare ≤ new.spare → IsWider place old new
wider_of place old new same less = record { schedule = ap (λ (r : Row). r.schedule) same; keys = ap (λ (r : Row). r.keys) same; more = less }

-- what follows where a call succeeds
pub if_ok : {E : Type 0} {P Q : Type 0} (r : Result (Unit {0}) E) → (P → Q) → OnOk r P → OnOk r Q
if_ok (Ok u) f holds = f holds
if_ok (Err e) f holds = tt

module _ (t : Tables) (more : ℕ) where
  -- room isn't lost
  pub still_room : (test : Queue → Bool) (rows now : List Row) → length t.queues ≤ length rows → KeepsKeys rows now → HasRoomWhere test more t rows → HasRoomWhere test more t now
  still_room test rows now enough keeps room place q within passes = omega (arith, room place q within passes, keeps.room place (omega (arith, within, enough)))

  -- where either test passes
  either_of : (a b : Bool) → (a || b) ≡ true → (b ≡ false → a ≡ true)
  either_of true b is fails = refl
  either_of false b is fails = absurd (not_both b is fails)

  pub room_either : (one also both : Queue → Bool) (rows : List Row) → ((q : Queue) → both q ≡ (one q || also q)) → HasRoomWhere one more t rows → HasRoomWhere also more t rows → HasRoomWhere both more t rows
  room_either one also both rows is room room_too place q within passes = step (also (get_or t.queues place q)) refl
    where
      step : (b : Bool) → also (get_or t.queues place q) ≡ b → reach t.queues t.entries (get_or t.queues place q) + more ≤ get_or (rooms_of rows) place 0
      step true too = room_too place q within too
      step false not_too = room place q within (either_of (one (get_or t.queues place q)) (also (get_or t.queues place q)) (sym (is (get_or t.queues place q)) ∙ passes) not_too)

  -- the row of the queue of a name has it
  pub room_there : (name : List ℕ) (place : ℕ) → StandsAt name_cmp name_of name t.queues place → (p : Queue) (rows : List Row) (new : Row) → place < length rows → p ≡ get_or t.queues place p
      → reach t.queues t.entries p + more ≤ room_of new → length t.queues ≤ length rows → HasRoomWhere (λ q. bytes_eq name q.name) more t (set rows place new)
  room_there name place stands p rows new inside read room enough k q within is =
      let here : k ≡ place = only_there t.queues name place stands k q within is in
      subst (λ (i : ℕ). reach t.queues t.entries (get_or t.queues i q) + more ≤ get_or (rooms_of (set rows place new)) i 0) (sym here)
      (omega (
        arith,
        room,
        ap (reach t.queues t.entries) (read ∙ get_or_default t.queues place p q stands.within),
        at_it,
      ))
    where
      at_it : get_or (rooms_of (set rows place new)) place 0 ≡ room_of new
      at_it = room_at (set rows place new) place no_row (omega (arith, inside, length-set rows place new)) ∙ ap room_of (get_or-set_same rows place new no_row inside)

-- ---- raised bounds

more_or : (a b : Bool) → cond (a || b) 1 0 ≤ cond a 1 0 + cond b 1 0
more_or true b = omega arith
more_or false true = omega arith
more_or false false = omega arith

module _ (queues : List Queue) where
  pub raised_either : (one also both : Queue → Bool) (a b c : List (Option ℕ)) → ((q : Queue) → both q ≡ (one q || also q)) → IsRaisedWhere one queues a b → IsRaisedWhere also queues b c → IsRaisedWhere both queues a c
  raised_either one also both a b c is first second place n q within most =
      let p = get_or queues place q in
      at_most_more (n + cond (both p) 1 0) (n + cond (one p) 1 0 + cond (also p) 1 0) (get_or c place None)
      (omega (arith, ap {B = ℕ} (λ (x : Bool). cond x 1 0) (is p), more_or (one p) (also p)))
      (second place (n + cond (one p) 1 0) q within (first place n q within most))

  -- where none passes nothing is raised
  pub raised_none : (test : Queue → Bool) (bounds : List (Option ℕ)) → ((k : ℕ) (q : Queue) → k < length queues → test (get_or queues k q) ≡ false) → IsRaisedWhere test queues bounds bounds
  raised_none test bounds none place n q within most =
      at_most_more (n + cond (test (get_or queues place q)) 1 0) n (get_or bounds place None) (omega (arith, ap {B = ℕ} (λ (x : Bool). cond x 1 0) (none place q within))) most

  -- and where one alone does, its bound is
  pub raised_there : (test : Queue → Bool) (bounds : List (Option ℕ)) (place : ℕ) (old new : Option ℕ) → place < length bounds → old ≡ get_or bounds place old → ((n : ℕ) → IsAtMost n old → IsAtMost (n + 1) new)
      → ((k : ℕ) (q : Queue) → k < length queues → test (get_or queues k q) ≡ true → k ≡ place) → IsRaisedWhere test queues bounds (set bounds place new)
  raised_there test bounds place old new inside read raise only k n q within most = step (test (get_or queues k q)) refl
    where
      at_it : (b : Bool) → k ≡ place → IsAtMost (n + cond b 1 0) (get_or (set bounds place new) k None)
      at_it b here =
          subst (λ (i : ℕ). IsAtMost (n + cond b 1 0) (get_or (set bounds place new) i None)) (sym here)
          (subst (IsAtMost (n + cond b 1 0)) (sym (get_or-set_same bounds place new None inside))
          (at_most_more (n + cond b 1 0) (n + 1) new (one_at_most b)
          (raise n (subst (IsAtMost n) (ap (λ (i : ℕ). get_or bounds i None) here ∙ sym (read ∙ get_or_default bounds place old None inside)) most))))
        where
          one_at_most : (x : Bool) → n + cond x 1 0 ≤ n + 1
          one_at_most true = omega arith
          one_at_most false = omega arith

      step : (b : Bool) → test (get_or queues k q) ≡ b → IsAtMost (n + cond b 1 0) (get_or (set bounds place new) k None)
      step true passes = at_it true (only k q within passes)
      step false fails =
          ⊎_elim (λ (less : k < place). other (λ same. omega (arith, same, less)))
          (λ (past : place ≤ k). ⊎_elim (λ (more : place < k). other (λ same. omega (arith, same, more))) (λ (back : k ≤ place). at_it false (omega (arith, past, back))) (cases_lt place k))
          (cases_lt k place)
        where
          other : k ≢ place → IsAtMost (n + cond false 1 0) (get_or (set bounds place new) k None)
          other differs =
              subst (IsAtMost (n + 0)) (sym (get_or-set_other bounds place k new None differs)) (at_most_more (n + 0) n (get_or bounds k None) (omega arith) most)
