-- The rows of tables in which one queue got another state, or other settings.
use Rattle.std.proofs.Common.{◌≡◌, ◌≢◌, ◌∙◌, ℕ, ◌<◌, ◌≤◌, ⊎_elim, Bool, true, false, cond, ◌&&◌, List, length, get_or, set, map, Option, None, Some, refl, sym, ap, subst, arith, option_map, option_and_then, is_eq, bytes_eq}
use Rattle.std.specs.List.{list_any}
use Rattle.std.specs.Cmp.Lexicographic.{texts_ties}
use Rattle.std.proofs.lemmas.Bool.{cases_lt}
use Rattle.std.proofs.lemmas.List.{get_or_default, get_or-map, get_or-set_same, get_or-set_other, length-map, length-set}
use Rattle.std.proofs.lemmas.Option.{same_Some}
use Rattle.std.proofs.lemmas.Slice.Eq.{bytes_eq-Decides}
use Rattle.qm_keyed.specs.Places.{StandsAt}
use Rattle.qm_model.specs.Common.{Entry, Queue, name_cmp, entry_numbered, queue_named, is_started, passes_on_to, is_generic, with_queue}
use Rattle.qm_tables.proofs.QueueNames.{name_of}
use Rattle.qm_ready.specs.Rows.{Row}
use Rattle.qm_parts.specs.Ready.{key_where_ready, ready_key, IsRowOf, AreReady, KeepsRoom, LeavesKind}
use Rattle.qm_renewal.specs.Renewing.{room_of}
use Rattle.qm_parts.specs.Tables.{Tables}
use Rattle.qm_parts.proofs.Counts.{found_passes}
use Rattle.qm_parts.proofs.KeptRows.{SameRoom, named_at}
use Rattle.qm_parts.proofs.RowPlaces.{same_rooms}
use Rattle.qm_parts.proofs.ReadyQueues.{fits_still, named_mapped}

-- ---- one row is another

pub row_set : (rows : List Row) (place : ℕ) (old new : Row) → place < length rows → old ≡ get_or rows place old → SameRoom old new → KeepsRoom rows (set rows place new)
row_set rows place old new inside read room = same_rooms rows (set rows place new) (length-set rows place new) at_it
  where
    at_it : (k : ℕ) (d : Row) → k < length rows → room_of (get_or (set rows place new) k d) ≡ room_of (get_or rows k d)
    at_it k d within =
        ⊎_elim
        (λ (less : k < place). ap room_of (get_or-set_other rows place k new d (λ same. omega (arith, same, less))))
        (λ (past : place ≤ k). ⊎_elim
        (λ (more : place < k). ap room_of (get_or-set_other rows place k new d (λ same. omega (arith, same, more))))
        (λ (back : k ≤ place).
        let here : place ≡ k = omega (arith, past, back) in
        subst (λ (m : ℕ). room_of (get_or (set rows place new) m d) ≡ room_of (get_or rows m d)) here
        (ap room_of (get_or-set_same rows place new d inside) ∙ room ∙ ap room_of (read ∙ get_or_default rows place old d inside)))
        (cases_lt place k))
        (cases_lt k place)

-- ---- what fits the others

found_has : (name : List ℕ) (p : Queue) (qs : List Queue) → queue_named name qs ≡ Some p → bytes_eq p.name name ≡ true
found_has name p qs found = found_passes (λ (q : Queue). bytes_eq q.name name) p qs found

-- the queue of a name is changed
abbrev pub one_changed : List ℕ → (Queue → Queue) → Queue → Queue
one_changed name change q = cond (bytes_eq q.name name) (change q) q

module _ (name : List ℕ) (change : Queue → Queue) (leaves : LeavesKind change) where
  pub one_name : (q : Queue) → (one_changed name change q).name ≡ q.name
  one_name q = at_it (bytes_eq q.name name)
    where
      at_it : (b : Bool) → (cond b (change q) q).name ≡ q.name
      at_it true = leaves.name q
      at_it false = refl

  pub one_targets : (q : Queue) → (one_changed name change q).targets ≡ q.targets
  one_targets q = at_it (bytes_eq q.name name)
    where
      at_it : (b : Bool) → (cond b (change q) q).targets ≡ q.targets
      at_it true = leaves.targets q
      at_it false = refl

module _ (t : Tables) (name : List ℕ) (change : Queue → Queue) (leaves : LeavesKind change) where
  abbrev g : Queue → Queue
  g = one_changed name change

  names : (q : Queue) → (g q).name ≡ q.name
  names = one_name name change leaves

  module _ (place : ℕ) (stands : StandsAt name_cmp name_of name (map g t.queues) place) (kind : (q : Queue) → is_generic (get_or (map g t.queues) place q).kind ≡ false) where
    -- the queue of the name is no generic one
    no_generic : (p : Queue) → queue_named name t.queues ≡ Some p → is_generic p.kind ≡ false
    no_generic p found =
        let has : bytes_eq p.name name ≡ true = found_has name p t.queues found in
        let now : queue_named name (map g t.queues) ≡ Some (g p) = named_mapped g names name t.queues ∙ ap (option_map g) found in
        let it : get_or (map g t.queues) place p ≡ g p = same_Some (get_or (map g t.queues) place p) (g p) (sym (named_at (map g t.queues) name place stands p) ∙ now) in
        let same : (g p).kind ≡ p.kind = ap (λ (b : Bool). (cond b (change p) p).kind) has ∙ leaves.kind p in
        sym (ap is_generic same) ∙ ap (λ (q : Queue). is_generic q.kind) (sym it) ∙ kind p

    passes_at : (n : List ℕ) (home : List ℕ) (p : Queue) (b : Bool) → bytes_eq p.name name ≡ b → queue_named home t.queues ≡ Some p → passes_on_to n (cond b (change p) p) ≡ passes_on_to n p
    passes_at n home p true is found =
        let same : home ≡ name = sym ((bytes_eq-Decides p.name home).0 (found_has home p t.queues found)) ∙ (bytes_eq-Decides p.name name).0 is in
        let none = no_generic p (ap (λ (h : List ℕ). queue_named h t.queues) (sym same) ∙ found) in
        ap (λ k. is_generic k && is_started (change p).state && list_any (λ target. bytes_eq target n) (change p).targets) (leaves.kind p)
        ∙ ap (λ (b : Bool). b && is_started (change p).state && list_any (λ target. bytes_eq target n) (change p).targets) none
        ∙ sym (ap (λ (b : Bool). b && is_started p.state && list_any (λ target. bytes_eq target n) p.targets) none)
    passes_at n home p false is found = refl

    key_stays : (q : Queue) (o : Option Entry) → option_and_then (key_where_ready (record t { queues = map g t.queues }) q) o ≡ option_and_then (key_where_ready t q) o
    key_stays q None = refl
    key_stays q (Some e) = fits_still t q g names (λ home p found. passes_at q.name home p (bytes_eq p.name name) refl found) e

    -- a queue at another place is another one
    other_at : (k : ℕ) (q : Queue) → k < length (map g t.queues) → k ≢ place → bytes_eq (get_or (map g t.queues) k q).name name ≡ false
    other_at k q within other =
        texts_ties (get_or (map g t.queues) k q).name name
        ∙ ⊎_elim
        (λ (less : k < place). ap is_eq (stands.before k q (omega arith) less))
        (λ (past : place ≤ k). ap is_eq (stands.behind k q (⊎_elim (λ (more : place < k). omega (arith, more)) (λ (back : k ≤ place). absurd (other (omega (arith, past, back)))) (cases_lt place k)) within))
        (cases_lt k place)

    other_stays : (k : ℕ) (q : Queue) → k < length t.queues → k ≢ place → get_or (map g t.queues) k q ≡ get_or t.queues k q
    other_stays k q within other =
        let p = get_or t.queues k q in
        let is : get_or (map g t.queues) k q ≡ g p = get_or-map g t.queues k q q within in
        let no : bytes_eq p.name name ≡ false =
        ap (λ (n : List ℕ). bytes_eq n name) (sym (ap (λ (x : Queue). x.name) is ∙ names p)) ∙ other_at k q (omega (arith, within, length-map t.queues g)) other in
        is ∙ ap (λ (b : Bool). cond b (change p) p) no

    one_at : (rows : List Row) (new : Row) → AreReady t rows → place < length rows
        → ((q : Queue) → IsRowOf (get_or (map g t.queues) place q) (ready_key (record t { queues = map g t.queues }) (get_or (map g t.queues) place q)) new)
        → AreReady (record t { queues = map g t.queues }) (set rows place new)
    one_at rows new are inside row k q d within =
        ⊎_elim (λ (less : k < place). another (λ same. omega (arith, same, less)))
        (λ (past : place ≤ k). ⊎_elim (λ (more : place < k). another (λ same. omega (arith, same, more)))
        (λ (back : k ≤ place).
        let here : place ≡ k = omega (arith, past, back) in
        subst (λ (m : ℕ). IsRowOf (get_or (map g t.queues) m q) (ready_key (record t { queues = map g t.queues }) (get_or (map g t.queues) m q)) (get_or (set rows place new) m d)) here
        (subst (IsRowOf (get_or (map g t.queues) place q) (ready_key (record t { queues = map g t.queues }) (get_or (map g t.queues) place q))) (sym (get_or-set_same rows place new d inside)) (row q)))
        (cases_lt place k))
        (cases_lt k place)
      where
        there : k < length t.queues
        there = omega (arith, within, length-map t.queues g)

        another : k ≢ place → IsRowOf (get_or (map g t.queues) k q) (ready_key (record t { queues = map g t.queues }) (get_or (map g t.queues) k q)) (get_or (set rows place new) k d)
        another other =
            let old = are k q d there in
            subst (IsRowOf (get_or (map g t.queues) k q) (ready_key (record t { queues = map g t.queues }) (get_or (map g t.queues) k q))) (sym (get_or-set_other rows place k new d other))
            (subst (λ (x : Queue). IsRowOf x (ready_key (record t { queues = map g t.queues }) x) (get_or rows k d)) (sym (other_stays k q there other))
            (record { schedule = old.schedule; keys = λ n. old.keys n ∙ sym (key_stays (get_or t.queues k q) (entry_numbered n t.entries)) }))

  -- so the row of the queue alone is another one
  pub one_row : (u : Tables) → u ≡ record t { queues = with_queue name change t.queues } → (place : ℕ) → StandsAt name_cmp name_of name u.queues place → ((q : Queue) → is_generic (get_or u.queues place q).kind ≡ false)
      → (rows : List Row) (p : Queue) (new : Row) → AreReady t rows → place < length rows → p ≡ get_or u.queues place p → IsRowOf p (ready_key u p) new → AreReady u (set rows place new)
  one_row u is place stands kind rows p new are inside read row =
      let all : (q : Queue) → IsRowOf (get_or u.queues place q) (ready_key u (get_or u.queues place q)) new =
      λ q. subst (λ (x : Queue). IsRowOf x (ready_key u x) new) (read ∙ get_or_default u.queues place p q stands.within) row in
      subst (λ (v : Tables). AreReady v (set rows place new)) (sym is)
      (one_at place (subst (λ (v : Tables). StandsAt name_cmp name_of name v.queues place) is stands) (subst (λ (v : Tables). (q : Queue) → is_generic (get_or v.queues place q).kind ≡ false) is kind) rows new are inside
      (subst (λ (v : Tables). (q : Queue) → IsRowOf (get_or v.queues place q) (ready_key v (get_or v.queues place q)) new) is all))
