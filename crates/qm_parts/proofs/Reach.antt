-- How many jobs may come to a queue, once something became of entries or queues.
use Rattle.std.proofs.Common.{◌≡◌, ◌∙◌, ℕ, ◌+◌, ◌<◌, ◌≤◌, Bool, true, false, cond, not, ◌&&◌, ◌||◌, ◌==◌, List, [], ◌∷◌, ◌++◌, length, get_or, take, drop, map, filter, find, count_by, Option, None, Some, refl, sym, ap, subst, arith, IfSome, is_lt, nat_cmp, bytes_eq}
use Rattle.std.specs.List.{list_any}
use Rattle.std.specs.Option.{option_map, option_map_or}
use Rattle.std.proofs.lemmas.List.{length-map, get_or-map, take-append-drop}
use Rattle.std.proofs.lemmas.Slice.Eq.{bytes_eq-Decides}
use Rattle.qm_tables.proofs.Outcomes.{flat_changed, flat_gone}
use Rattle.qm_model.specs.Common.{Entry, Queue, System, IsInOrder, name_cmp, queue_named, entry_numbered, fits, is_of_kind, is_open, is_reached, is_started, has_characteristics, has_stock, has_size, passes_on_to, inserted, is_pending, is_waiting, is_generic, without_queue, with_entry}
use Rattle.qm_model.proofs.QueueLemmas.{still_named}
use Rattle.qm_model.specs.Merging.{moved_to, waits_in}
use Rattle.qm_tables.specs.Queues.{with_queue_put}
use Rattle.qm_parts.specs.Rooms.{targets_of, is_one_of, leads_to, may_come, reach, is_home, HaveRoom}
use Rattle.qm_parts.specs.Tables.{Tables}
use Rattle.qm_parts.proofs.Counts.{one_if, count_cons, count_append, count_agree, count_filter, both_le_second}
use Rattle.qm_parts.proofs.Left.{absent_stays, that_one}
use Rattle.qm_parts.proofs.Ordered.{once}
use Rattle.qm_parts.proofs.ReadyQueues.{named_mapped}

-- ---- counts

module _ {X : Type 0} where
  -- those that pass are no more than those that pass one of two others
  pub count_either : (p q r : X → Bool) → ((x : X) → p x ≡ true → (q x || r x) ≡ true) → (xs : List X) → count_by p xs ≤ count_by q xs + count_by r xs
  count_either p q r either [] = omega arith
  count_either p q r either (x ∷ xs) = omega (arith, count_cons p x xs, count_cons q x xs, count_cons r x xs, count_either p q r either xs, at_it (p x) (q x) (r x) (either x))
    where
      at_it : (a b c : Bool) → (a ≡ true → (b || c) ≡ true) → one_if a ≤ one_if b + one_if c
      at_it false b c h = omega arith
      at_it true true c h = omega arith
      at_it true false true h = omega arith
      at_it true false false h = absurd (let no : false ≡ true = h refl in cc)

  pub count_le : (p q : X → Bool) → ((x : X) → p x ≡ true → q x ≡ true) → (xs : List X) → count_by p xs ≤ count_by q xs
  count_le p q passes [] = omega arith
  count_le p q passes (x ∷ xs) = omega (arith, count_cons p x xs, count_cons q x xs, count_le p q passes xs, at_it (p x) (q x) (passes x))
    where
      at_it : (a b : Bool) → (a ≡ true → b ≡ true) → one_if a ≤ one_if b
      at_it false b h = omega arith
      at_it true true h = omega arith
      at_it true false h = absurd (let no : false ≡ true = h refl in cc)

  pub count_map : (p : X → Bool) (f : X → X) (xs : List X) → count_by p (map f xs) ≡ count_by (λ x. p (f x)) xs
  count_map p f [] = refl
  count_map p f (x ∷ xs) = omega (arith, count_cons p (f x) (map f xs), count_cons (λ y. p (f y)) x xs, count_map p f xs)

  pub count_filter_le : (p q : X → Bool) (xs : List X) → count_by p (filter q xs) ≤ count_by p xs
  count_filter_le p q xs = omega (arith, count_filter p q xs, both_le_second q p xs)

  pub count_take_le : (p : X → Bool) (n : ℕ) (xs : List X) → count_by p (take n xs) ≤ count_by p xs
  count_take_le p n xs = omega (arith, count_append p (take n xs) (drop n xs), ap (count_by p) (take-append-drop n xs))

-- ---- a job that fits may come

both_then : (a b : Bool) → (a && b) ≡ true → b ≡ true
both_then true b h = h
both_then false b h = absurd (cc)

both_first : (a b : Bool) → (a && b) ≡ true → a ≡ true
both_first true b h = refl
both_first false b h = absurd (cc)

or_more : (a b c : Bool) → (b ≡ true → c ≡ true) → (a || b) ≡ true → (a || c) ≡ true
or_more true b c more h = refl
or_more false b c more h = more h

passes_named : (name : List ℕ) (o : Option Queue) → option_map_or (passes_on_to name) o false ≡ true → list_any (λ target. bytes_eq target name) (option_map_or (λ q. q.targets) o []) ≡ true
passes_named name None h = absurd (cc)
passes_named name (Some p) h =
    both_then (is_generic p.kind && is_started p.state) (list_any (λ target. bytes_eq target name) p.targets) h

pub reached_comes : (s : System) (e : Entry) (q : Queue) → is_reached s e q ≡ true → may_come s.queues q e ≡ true
reached_comes s e q h =
    or_more (bytes_eq e.home q.name) (option_map_or (passes_on_to q.name) (queue_named e.home s.queues) false)
    (list_any (λ target. bytes_eq target q.name) (targets_of s.queues e.home)) (passes_named q.name (queue_named e.home s.queues)) h

pub fit_comes : (s : System) (q : Queue) (e : Entry) → fits s e q ≡ true → may_come s.queues q e ≡ true
fit_comes s q e h =
    let before = is_pending e.state && is_of_kind e q && is_open s q in
    let reached = before && is_reached s e q in
    let asked = reached && has_characteristics e q in
    let printed = asked && has_stock s e q in
    reached_comes s e q
    (both_then before (is_reached s e q) (both_first reached (has_characteristics e q) (both_first asked (has_stock s e q) (both_first printed (has_size e q) h))))

-- so no more jobs fit than may come
pub fitting_reach : (s : System) (q : Queue) (es : List Entry) → count_by (λ e. fits s e q) es ≤ reach s.queues es q
fitting_reach s q es = count_le (λ e. fits s e q) (may_come s.queues q) (fit_comes s q) es

-- ---- no more jobs may come than before

pub record NoMore (t u : Tables) : Type 0 where
  pub queues : length u.queues ≤ length t.queues
  pub come : (place : ℕ) (q : Queue) → place < length u.queues → reach u.queues u.entries (get_or u.queues place q) ≤ reach t.queues t.entries (get_or t.queues place q)

module _ (t u : Tables) (queues : u.queues ≡ t.queues) where
  pub by_entries : ((q : Queue) → reach t.queues u.entries q ≤ reach t.queues t.entries q) → NoMore t u
  by_entries less = record {
    queues = omega (arith, ap length queues);
    come = λ place q within. subst (λ (qs : List Queue). reach qs u.entries (get_or qs place q) ≤ reach t.queues t.entries (get_or t.queues place q)) (sym queues) (less (get_or t.queues place q));
  }

  pub all_stay : u.entries ≡ t.entries → NoMore t u
  all_stay entries = by_entries (λ q. omega (arith, ap (λ (es : List Entry). reach t.queues es q) entries))

  -- the homes stay
  pub homes_stay : (f : Entry → Entry) → u.entries ≡ map f t.entries → ((e : Entry) → (f e).home ≡ e.home) → NoMore t u
  homes_stay f entries homes =
      by_entries (λ q.
      omega (
        arith,
        ap (λ (es : List Entry). reach t.queues es q) entries,
        count_map (may_come t.queues q) f t.entries,
        count_agree (λ e. may_come t.queues q (f e)) (may_come t.queues q) t.entries (λ i d within. ap (leads_to t.queues q) (homes (get_or t.entries i d))),
      ))

  one_home : (f : Entry → Entry) → ((e : Entry) → (f e).home ≡ e.home) → (e : Entry) (b : Bool) → (cond b (f e) e).home ≡ e.home
  one_home f homes e true = homes e
  one_home f homes e false = refl

  pub home_stays : (n : ℕ) (f : Entry → Entry) → u.entries ≡ with_entry n (λ e. Some (f e)) t.entries → ((e : Entry) → (f e).home ≡ e.home) → NoMore t u
  home_stays n f entries homes =
      homes_stay (λ e. cond (e.number == n) (f e) e) (entries ∙ flat_changed (λ (e : Entry). e.number == n) f t.entries) (λ e. one_home f homes e (e.number == n))

  -- some go
  pub some_stay : (p : Entry → Bool) → u.entries ≡ filter p t.entries → NoMore t u
  some_stay p entries = by_entries (λ q. omega (arith, ap (λ (es : List Entry). reach t.queues es q) entries, count_filter_le (may_come t.queues q) p t.entries))

  pub one_goes : (n : ℕ) → u.entries ≡ with_entry n (λ e. None) t.entries → NoMore t u
  one_goes n entries = some_stay (λ e. not (e.number == n)) (entries ∙ flat_gone (λ (e : Entry). e.number == n) t.entries)

-- where queues keep their names and targets
module _ (g : Queue → Queue) (names : (q : Queue) → (g q).name ≡ q.name) (targets : (q : Queue) → (g q).targets ≡ q.targets) where
  targets_at : (o : Option Queue) → option_map_or (λ q. q.targets) (option_map g o) [] ≡ option_map_or (λ q. q.targets) o []
  targets_at None = refl
  targets_at (Some q) = targets q

  pub same_targets : (qs : List Queue) (home : List ℕ) → targets_of (map g qs) home ≡ targets_of qs home
  same_targets qs home = ap (λ (o : Option Queue). option_map_or (λ q. q.targets) o []) (named_mapped g names home qs) ∙ targets_at (queue_named home qs)

  same_leads : (qs : List Queue) (q : Queue) (home : List ℕ) → leads_to (map g qs) (g q) home ≡ leads_to qs q home
  same_leads qs q home = ap (λ (ts : List (List ℕ)). is_one_of home ts (g q)) (same_targets qs home) ∙ ap (λ (n : List ℕ). bytes_eq home n || list_any (λ target. bytes_eq target n) (targets_of qs home)) (names q)

  pub queues_stay : (t u : Tables) → u.queues ≡ map g t.queues → u.entries ≡ t.entries → NoMore t u
  queues_stay t u queues entries = record {
    queues = omega (arith, ap length queues, length-map t.queues g);
    come = λ place q within.
        let inside : place < length t.queues = omega (arith, within, ap length queues, length-map t.queues g) in
        let p = get_or t.queues place q in
        omega (
          arith,
          ap (λ (qs : List Queue). reach qs u.entries (get_or qs place q)) queues,
          ap (λ (x : Queue). reach (map g t.queues) u.entries x) (get_or-map g t.queues place q q inside),
          ap (λ (es : List Entry). reach (map g t.queues) es (g p)) entries,
          count_agree (may_come (map g t.queues) (g p)) (may_come t.queues p) t.entries (λ i d at. same_leads t.queues p (get_or t.entries i d).home),
        );
  }

-- ---- one job more

-- it stands behind the others,
pub reach_behind : (qs : List Queue) (es : List Entry) (new : Entry) (q : Queue) → reach qs (es ++ new ∷ []) q ≡ reach qs es q + cond (leads_to qs q new.home) 1 0
reach_behind qs es new q = omega (arith, count_append (may_come qs q) es (new ∷ []), count_cons (may_come qs q) new [])

-- where a test passes that another one passed, or else, if that is so, a third one
count_if : {X : Type 0} (c : Bool) (p q r : X → Bool) → ((x : X) → p x ≡ true → (q x || (c && r x)) ≡ true) → (xs : List X) → count_by p xs ≤ count_by q xs + cond c (count_by r xs) 0
count_if true p q r either xs = count_either p q r either xs
count_if false p q r either xs = omega (arith, count_le p q (λ x h. or_false (q x) (either x h)) xs)
  where
    or_false : (b : Bool) → (b || false) ≡ true → b ≡ true
    or_false true h = refl
    or_false false h = h

-- or takes the place of another one,
module _ (qs : List Queue) (es : List Entry) (new : Entry) (order : IsInOrder nat_cmp (λ (e : Entry). e.number) es) where
  abbrev replacing : Entry → Entry
  replacing e = cond (e.number == new.number) new e

  as_map : with_entry new.number (λ e. Some new) es ≡ map replacing es
  as_map = flat_changed (λ (e : Entry). e.number == new.number) (λ (e : Entry). new) es

  either_home : (q : Queue) (e : Entry) (b : Bool) → (e.number == new.number) ≡ b → may_come qs q (cond b new e) ≡ true → (may_come qs q e || (may_come qs q new && e.number == new.number)) ≡ true
  either_home q e true is h = or_last (may_come qs q e) (may_come qs q new && e.number == new.number) (ap (λ (b : Bool). b && e.number == new.number) h ∙ is)
    where
      or_last : (a b : Bool) → b ≡ true → (a || b) ≡ true
      or_last true b h = refl
      or_last false b h = h
  either_home q e false is h = ap (λ (b : Bool). b || (may_come qs q new && e.number == new.number)) h

  pub reach_replaced : (q : Queue) → reach qs (with_entry new.number (λ e. Some new) es) q ≤ reach qs es q + cond (leads_to qs q new.home) 1 0
  reach_replaced q =
      omega (
        arith,
        ap (λ (xs : List Entry). reach qs xs q) as_map,
        count_map (may_come qs q) replacing es,
        count_if (may_come qs q new) (λ e. may_come qs q (replacing e)) (may_come qs q) (λ e. e.number == new.number) (λ e. either_home q e (e.number == new.number) refl) es,
        one_if_there (may_come qs q new) (once (λ (e : Entry). e.number) new.number es order),
      )
    where
      one_if_there : (b : Bool) → count_by (λ (e : Entry). e.number == new.number) es ≤ 1 → cond b (count_by (λ (e : Entry). e.number == new.number) es) 0 ≤ cond b 1 0
      one_if_there true one = one
      one_if_there false one = omega arith

  -- at the same home
  pub reach_same_home : (old : Entry) → entry_numbered new.number es ≡ Some old → old.home ≡ new.home → (q : Queue) → reach qs (with_entry new.number (λ e. Some new) es) q ≤ reach qs es q
  reach_same_home old found home q =
      omega (
        arith,
        ap (λ (xs : List Entry). reach qs xs q) as_map,
        count_map (may_come qs q) replacing es,
        count_agree (λ e. may_come qs q (replacing e)) (may_come qs q) es
            (λ i d within. same_at (get_or es i d) ((get_or es i d).number == new.number) refl (that_one new.number old es order found i d within)),
      )
    where
      same_at : (e : Entry) (b : Bool) → (e.number == new.number) ≡ b → ((e.number == new.number) ≡ true → e ≡ old) → may_come qs q (cond b new e) ≡ may_come qs q e
      same_at e true is that = ap (leads_to qs q) (sym home ∙ ap (λ (x : Entry). x.home) (sym (that is)))
      same_at e false is that = refl

-- or all that wait at one home have another one
moved_comes : (qs : List Queue) (to from : List ℕ) (q : Queue) (e : Entry) (b : Bool) → waits_in from e ≡ b → may_come qs q (cond b (record e { home = to }) e) ≡ true
    → (may_come qs q e || (leads_to qs q to && is_home from e)) ≡ true
moved_comes qs to from q e true is h =
    or_last (may_come qs q e) (leads_to qs q to && is_home from e) (ap (λ (b : Bool). b && is_home from e) h ∙ both_then (is_waiting e.state) (bytes_eq e.home from) is)
  where
    or_last : (a b : Bool) → b ≡ true → (a || b) ≡ true
    or_last true b h = refl
    or_last false b h = h
moved_comes qs to from q e false is h = ap (λ (b : Bool). b || (leads_to qs q to && is_home from e)) h

pub reach_moved : (qs : List Queue) (es : List Entry) (to from : List ℕ) (q : Queue) → reach qs (map (moved_to to from) es) q ≤ reach qs es q + cond (leads_to qs q to) (count_by (is_home from) es) 0
reach_moved qs es to from q =
    omega (
      arith,
      count_map (may_come qs q) (moved_to to from) es,
      count_if (leads_to qs q to) (λ e. may_come qs q (moved_to to from e)) (may_come qs q) (is_home from) (λ e. moved_comes qs to from q e (waits_in from e) refl) es,
    )

-- ---- a queue comes

module _ {X : Type 0} (p : X → Bool) (before : X → X → Bool) (x : X) where
  other_found_at : (y : X) (ys : List X) (b : Bool) → p x ≡ false → find p (inserted before x ys) ≡ find p ys → find p (cond b (x ∷ y ∷ ys) (y ∷ inserted before x ys)) ≡ find p (y ∷ ys)
  other_found_at y ys true fails later = ap (λ (b : Bool). cond b (Some x) (find p (y ∷ ys))) fails
  other_found_at y ys false fails later = ap (λ (o : Option X). cond (p y) (Some y) o) later

  other_found : p x ≡ false → (ys : List X) → find p (inserted before x ys) ≡ find p ys
  other_found fails [] = ap (λ (b : Bool). cond b (Some x) None) fails
  other_found fails (y ∷ ys) = other_found_at y ys (before x y) fails (other_found fails ys)

  itself_found_at : (y : X) (ys : List X) (b c : Bool) → p x ≡ true → p y ≡ c → cond c (Some y) (find p ys) ≡ None → (find p ys ≡ None → find p (inserted before x ys) ≡ Some x)
      → find p (cond b (x ∷ y ∷ ys) (y ∷ inserted before x ys)) ≡ Some x
  itself_found_at y ys true c passes is none later = ap (λ (b : Bool). cond b (Some x) (find p (y ∷ ys))) passes
  itself_found_at y ys false true passes is none later = absurd (cc)
  itself_found_at y ys false false passes is none later = ap (λ (b : Bool). cond b (Some y) (find p (inserted before x ys))) is ∙ later none

  itself_found : p x ≡ true → (ys : List X) → find p ys ≡ None → find p (inserted before x ys) ≡ Some x
  itself_found passes [] none = ap (λ (b : Bool). cond b (Some x) None) passes
  itself_found passes (y ∷ ys) none = itself_found_at y ys (before x y) (p y) passes refl none (itself_found passes ys)

none_left_at : {X : Type 0} (p : X → Bool) (x : X) (xs : List X) (b : Bool) → p x ≡ b → find p (filter (λ y. not (p y)) xs) ≡ None → find p (cond (not b) (x ∷ filter (λ y. not (p y)) xs) (filter (λ y. not (p y)) xs)) ≡ None
none_left_at p x xs true is later = later
none_left_at p x xs false is later = ap (λ (b : Bool). cond b (Some x) (find p (filter (λ y. not (p y)) xs))) is ∙ later

none_left : {X : Type 0} (p : X → Bool) (xs : List X) → find p (filter (λ x. not (p x)) xs) ≡ None
none_left p [] = refl
none_left p (x ∷ xs) = none_left_at p x xs (p x) refl (none_left p xs)

module _ (new : Queue) (qs : List Queue) where
  abbrev stands_before : Queue → Queue → Bool
  stands_before a b = is_lt (name_cmp a.name b.name)

  put_other : (home : List ℕ) → bytes_eq new.name home ≡ false → targets_of (with_queue_put new qs) home ≡ targets_of qs home
  put_other home other =
      ap (λ (o : Option Queue). option_map_or (λ q. q.targets) o [])
      (other_found (λ (q : Queue). bytes_eq q.name home) stands_before new other (without_queue new.name qs) ∙ still_named new.name home qs other)

  put_itself : (home : List ℕ) → new.name ≡ home → targets_of (with_queue_put new qs) home ≡ new.targets
  put_itself home same =
      subst (λ (n : List ℕ). targets_of (with_queue_put new qs) n ≡ new.targets) same
      (ap (λ (o : Option Queue). option_map_or (λ q. q.targets) o [])
      (itself_found (λ (q : Queue). bytes_eq q.name new.name) stands_before new ((bytes_eq-Decides new.name new.name).1 refl) (without_queue new.name qs)
      (none_left (λ (q : Queue). bytes_eq q.name new.name) qs)))

  put_comes : (p : Queue) (e : Entry) (b : Bool) → bytes_eq new.name e.home ≡ b → may_come (with_queue_put new qs) p e ≡ true
      → (may_come qs p e || (is_one_of new.name new.targets p && is_home new.name e)) ≡ true
  put_comes p e true is h =
      let same : new.name ≡ e.home = (bytes_eq-Decides new.name e.home).0 is in
      let one : is_one_of new.name new.targets p ≡ true =
      ap (λ (n : List ℕ). is_one_of n new.targets p) same ∙ ap (λ (ts : List (List ℕ)). is_one_of e.home ts p) (sym (put_itself e.home same)) ∙ h in
      let at : is_home new.name e ≡ true = (bytes_eq-Decides e.home new.name).1 (sym same) in
      or_last (may_come qs p e) (is_one_of new.name new.targets p && is_home new.name e) (ap (λ (b : Bool). b && is_home new.name e) one ∙ at)
    where
      or_last : (a b : Bool) → b ≡ true → (a || b) ≡ true
      or_last true b h = refl
      or_last false b h = h
  put_comes p e false is h =
      ap (λ (b : Bool). b || (is_one_of new.name new.targets p && is_home new.name e)) (ap (λ (ts : List (List ℕ)). is_one_of e.home ts p) (sym (put_other e.home is)) ∙ h)

  pub reach_put : (es : List Entry) (p : Queue) → reach (with_queue_put new qs) es p ≤ reach qs es p + cond (is_one_of new.name new.targets p) (count_by (is_home new.name) es) 0
  reach_put es p =
      count_if (is_one_of new.name new.targets p) (may_come (with_queue_put new qs) p) (may_come qs p) (is_home new.name) (λ e. put_comes p e (bytes_eq new.name e.home) refl) es

-- ---- a queue goes

module _ (name : List ℕ) (qs : List Queue) where
  gone_itself : (home : List ℕ) → name ≡ home → targets_of (without_queue name qs) home ≡ []
  gone_itself home same =
      subst (λ (n : List ℕ). targets_of (without_queue name qs) n ≡ []) same
      (ap (λ (o : Option Queue). option_map_or (λ q. q.targets) o []) (none_left (λ (q : Queue). bytes_eq q.name name) qs))

  gone_comes : (p : Queue) (e : Entry) (b : Bool) → bytes_eq name e.home ≡ b → may_come (without_queue name qs) p e ≡ true → may_come qs p e ≡ true
  gone_comes p e true is h =
      let none = gone_itself e.home ((bytes_eq-Decides name e.home).0 is) in
      or_more (bytes_eq e.home p.name) false (list_any (λ target. bytes_eq target p.name) (targets_of qs e.home)) (λ never. absurd (cc))
      (ap (λ (ts : List (List ℕ)). is_one_of e.home ts p) (sym none) ∙ h)
  gone_comes p e false is h =
      ap (λ (o : Option Queue). is_one_of e.home (option_map_or (λ q. q.targets) o []) p) (sym (still_named name e.home qs is)) ∙ h

  pub reach_gone : (es : List Entry) (p : Queue) → reach (without_queue name qs) es p ≤ reach qs es p
  reach_gone es p = count_le (may_come (without_queue name qs) p) (may_come qs p) (λ e. gone_comes p e (bytes_eq name e.home) refl) es

-- ---- what a queue's name alone says

pub reach_by_name : (qs : List Queue) (es : List Entry) (p q : Queue) → p.name ≡ q.name → reach qs es q ≡ reach qs es p
reach_by_name qs es p q same = ap (λ (n : List ℕ). count_by (λ (e : Entry). bytes_eq e.home n || list_any (λ target. bytes_eq target n) (targets_of qs e.home)) es) (sym same)

pub one_by_name : (name : List ℕ) (targets : List (List ℕ)) (p q : Queue) → p.name ≡ q.name → is_one_of name targets q ≡ is_one_of name targets p
one_by_name name targets p q same = ap (λ (n : List ℕ). bytes_eq name n || list_any (λ target. bytes_eq target n) targets) (sym same)

-- ---- room for more jobs

-- where those that come have places
pub more_room : (n : ℕ) (leads : Queue → Bool) (qs : List Queue) (es also : List Entry) (rooms : List ℕ) → ((q : Queue) → reach qs also q ≤ reach qs es q + cond (leads q) n 0) → HaveRoom qs es rooms
    → ((place : ℕ) (q : Queue) → place < length qs → leads (get_or qs place q) ≡ true → reach qs es (get_or qs place q) + n ≤ get_or rooms place 0) → HaveRoom qs also rooms
more_room n leads qs es also rooms less room places place q within = at_it (leads (get_or qs place q)) refl
  where
    at_it : (b : Bool) → leads (get_or qs place q) ≡ b → reach qs also (get_or qs place q) ≤ get_or rooms place 0
    at_it true is = omega (arith, less (get_or qs place q), ap (λ (b : Bool). cond b n 0) is, places place q within is)
    at_it false is = omega (arith, less (get_or qs place q), ap (λ (b : Bool). cond b n 0) is, room place q within)

-- where an entry takes the place of another one
module _ (qs : List Queue) (es : List Entry) (new : Entry) (rooms : List ℕ) (order : IsInOrder nat_cmp (λ (e : Entry). e.number) es) (room : HaveRoom qs es rooms) where
  abbrev Free : Type 0
  Free = (place : ℕ) (q : Queue) → place < length qs → leads_to qs (get_or qs place q) new.home ≡ true → reach qs es (get_or qs place q) + 1 ≤ get_or rooms place 0

  free_at : (old : Entry) (b : Bool) → bytes_eq old.home new.home ≡ b → entry_numbered new.number es ≡ Some old → (bytes_eq old.home new.home ≡ false → Free) → HaveRoom qs (with_entry new.number (λ e. Some new) es) rooms
  free_at old true same found free =
      λ place q within. omega (arith, room place q within, reach_same_home qs es new order old found ((bytes_eq-Decides old.home new.home).0 same) (get_or qs place q))
  free_at old false other found free =
      more_room 1 (λ q. leads_to qs q new.home) qs es (with_entry new.number (λ e. Some new) es) rooms (reach_replaced qs es new order) room (free other)

  pub room_replaced : IfSome (entry_numbered new.number es) (λ old. bytes_eq old.home new.home ≡ false → Free) → HaveRoom qs (with_entry new.number (λ e. Some new) es) rooms
  room_replaced free = at_it (entry_numbered new.number es) refl free
    where
      at_it : (o : Option Entry) → entry_numbered new.number es ≡ o → IfSome o (λ old. bytes_eq old.home new.home ≡ false → Free) → HaveRoom qs (with_entry new.number (λ e. Some new) es) rooms
      at_it None none free = subst (λ (xs : List Entry). HaveRoom qs xs rooms) (sym (absent_stays new.number (λ e. Some new) es none)) room
      at_it (Some old) found free = free_at old (bytes_eq old.home new.home) refl found free
