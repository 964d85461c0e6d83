-- Each start takes a place of a queue that is started, and no later start gives it back.
use Rattle.std.proofs.Common.{◌≡◌, ℕ, zero, suc, ◌+◌, ◌-◌, ◌<◌, ◌≤◌, inl, inr, Bool, true, false, cond, ◌&&◌, ◌||◌, not, List, [], ◌∷◌, ◌++◌, length, refl, sym, ◌∙◌, ap, subst, arith, lit≤, Option, None, Some, ◌==◌, sum_by, count_by, option_to_list, bytes_eq}
use Rattle.std.specs.List.{list_any}
use Rattle.std.proofs.lemmas.Bool.Decides.{nat_tests, Decides-eqb, Decides-ltb}
use Rattle.std.proofs.lemmas.List.Recursion.{is_sum_by, is_count_by}
use Rattle.std.proofs.lemmas.Slice.Eq.{bytes_eq-Decides}
use Rattle.qm_model.specs.Common.{Entry, Queue, System, with_entry, occupies, is_started, is_up, is_pending, places, places_taken}
use Rattle.qm_model.specs.Settling.{Choice, next_choice, made_running, after_start, settled_within, settled}
use Rattle.qm_model.proofs.SettlingLemmas.{IsIn, and_left, and_right, fits_pending, settled_by}
use Rattle.qm_model.proofs.SoundLemmas.{IsChoice, choice_is}
use Rattle.qm_model.proofs.ChoiceLemmas.{choice_is_free}
use Rattle.qm_sched.specs.Starts.{start_places}

-- ---- no more than entries

entries_by : (n : ℕ) (s : System) (o : Option Choice) → ((t : System) → length (settled_within n t).started ≤ n) → length (settled_by n s o).started ≤ suc n
entries_by n s None later = omega arith
entries_by n s (Some c) later = omega (arith, later (after_start s c))

entries_within : (n : ℕ) (s : System) → length (settled_within n s).started ≤ n
entries_within zero s = lit≤ tt
entries_within (suc n) s = entries_by n s (next_choice s) (entries_within n)

pub few_by_entries : (s : System) → length (settled s).started ≤ length s.entries
few_by_entries s = entries_within (length s.entries) s

-- ---- entries that pass a test, where those of one number change

abbrev pub one_if : Bool → ℕ
one_if b = cond b 1 0

abbrev pub counted : (Entry → Bool) → List Entry → ℕ
counted p [] = 0
counted p (e ∷ es) = one_if (p e) + counted p es

one_counted : (b : Bool) (k : ℕ) → one_if b + k ≡ cond b (1 + k) k
one_counted true k = refl
one_counted false k = omega arith

pub counted_is : (p : Entry → Bool) (es : List Entry) → counted p es ≡ count_by p es
counted_is p es = is_count_by (counted p) p refl (λ x xs. one_counted (p x) (counted p xs)) es

fewer_if : (a b : Bool) → one_if (a && b) ≤ one_if a
fewer_if true true = lit≤ tt
fewer_if true false = lit≤ tt
fewer_if false b = lit≤ tt

counted_both : (p r : Entry → Bool) (es : List Entry) → counted (λ e. p e && r e) es ≤ counted p es
counted_both p r [] = lit≤ tt
counted_both p r (e ∷ es) = omega (arith, fewer_if (p e) (r e), counted_both p r es)

module _ (p r : Entry → Bool) (n : ℕ) (f : Entry → Entry) where
  abbrev changed : List Entry → List Entry
  changed es = with_entry n (λ e. Some (f e)) es

  pub no_fewer_at : (b : Bool) (e : Entry) (es fs : List Entry) → (b ≡ true → p e ≡ false) → (b ≡ false → r e ≡ p e) → counted p es ≤ counted r fs
      → counted p (e ∷ es) ≤ counted r (cond b (option_to_list (Some (f e))) (e ∷ []) ++ fs)
  no_fewer_at true e es fs gone same h = rw (gone refl) (omega arith)
  no_fewer_at false e es fs gone same h = rw (same refl) (omega arith)

  one_more_at : (b : Bool) (e : Entry) (es fs : List Entry) → b ≡ true → p e ≡ false → r (f e) ≡ true → counted p es ≤ counted r fs
      → counted p (e ∷ es) + 1 ≤ counted r (cond b (option_to_list (Some (f e))) (e ∷ []) ++ fs)
  one_more_at true e es fs is gone comes h = rw (gone, comes) (omega arith)
  one_more_at false e es fs is gone comes h = cc

  more_at : (b : Bool) (e : Entry) (es fs : List Entry) → (b ≡ true → p e ≡ false) → (b ≡ false → r e ≡ p e) → counted p es + 1 ≤ counted r fs
      → counted p (e ∷ es) + 1 ≤ counted r (cond b (option_to_list (Some (f e))) (e ∷ []) ++ fs)
  more_at true e es fs gone same h = rw (gone refl) (omega arith)
  more_at false e es fs gone same h = rw (same refl) (omega arith)

  module _ (gone : (e : Entry) → (e.number == n) ≡ true → p e ≡ false) (same : (e : Entry) → (e.number == n) ≡ false → r e ≡ p e) where
    no_fewer : (es : List Entry) → counted p es ≤ counted r (changed es)
    no_fewer [] = lit≤ tt
    no_fewer (e ∷ es) = no_fewer_at (e.number == n) e es (changed es) (gone e) (same e) (no_fewer es)

    module _ (comes : (e : Entry) → (e.number == n) ≡ true → r (f e) ≡ true) (x : Entry) (is : x.number ≡ n) where
      one_more : (es : List Entry) → IsIn x es → counted p es + 1 ≤ counted r (changed es)
      one_more [] among = absurd among
      one_more (e ∷ es) (inl here) =
          let number : (e.number == n) ≡ true = (Decides-eqb e.number n).1 (ap (λ (d : Entry). d.number) (sym here) ∙ is) in
          one_more_at (e.number == n) e es (changed es) number (gone e number) (comes e number) (no_fewer es)
      one_more (e ∷ es) (inr among) = more_at (e.number == n) e es (changed es) (gone e) (same e) (one_more es among)

-- ---- numbers under which an entry is pending

abbrev is_pending_under : ℕ → Entry → Bool
is_pending_under m e = e.number == m && is_pending e.state

abbrev some_pending : List Entry → ℕ → Bool
some_pending es m = list_any (is_pending_under m) es

or_right : (a b : Bool) → b ≡ true → (a || b) ≡ true
or_right true b h = refl
or_right false b h = h

pending_there : (x : Entry) (es : List Entry) → is_pending x.state ≡ true → IsIn x es → some_pending es x.number ≡ true
pending_there x [] pending among = absurd among
pending_there x (e ∷ es) pending (inl here) =
    let it : is_pending_under x.number x ≡ true = grind (arith, nat_tests) in
    let at : is_pending_under x.number e ≡ true = ap (is_pending_under x.number) (sym here) ∙ it in
    ap (λ b. b || some_pending es x.number) at
pending_there x (e ∷ es) pending (inr among) = or_right (is_pending_under x.number e) (some_pending es x.number) (pending_there x es pending among)

module _ (n run : ℕ) (q : Queue) where
  abbrev running : List Entry → List Entry
  running es = with_entry n (λ e. Some (made_running run q e)) es

  none_pending_at : (b : Bool) (e : Entry) (fs : List Entry) → (e.number == n) ≡ b → some_pending fs n ≡ false
      → some_pending (cond b (option_to_list (Some (made_running run q e))) (e ∷ []) ++ fs) n ≡ false
  none_pending_at true e fs is later = ap (λ b. (b && false) || some_pending fs n) is ∙ later
  none_pending_at false e fs is later = ap (λ b. (b && is_pending e.state) || some_pending fs n) is ∙ later

  none_pending : (es : List Entry) → some_pending (running es) n ≡ false
  none_pending [] = refl
  none_pending (e ∷ es) = none_pending_at (e.number == n) e (running es) refl (none_pending es)

  differs : (m k : ℕ) → (m == n) ≡ false → (k == n) ≡ true → (k == m) ≡ false
  differs m k other is = grind (arith, nat_tests)

  others_pending_at : (m : ℕ) (b : Bool) (e : Entry) (es fs : List Entry) → (e.number == n) ≡ b → (m == n) ≡ false → some_pending fs m ≡ some_pending es m
      → some_pending (cond b (option_to_list (Some (made_running run q e))) (e ∷ []) ++ fs) m ≡ some_pending (e ∷ es) m
  others_pending_at m true e es fs is other same =
      let apart : (e.number == m) ≡ false = differs m e.number other is in
      ap (λ b. (b && false) || some_pending fs m) apart ∙ same ∙ sym (ap (λ b. (b && is_pending e.state) || some_pending es m) apart)
  others_pending_at m false e es fs is other same = ap (λ b. (e.number == m && is_pending e.state) || b) same

  others_pending : (m : ℕ) (es : List Entry) → (m == n) ≡ false → some_pending (running es) m ≡ some_pending es m
  others_pending m [] other = refl
  others_pending m (e ∷ es) other = others_pending_at m (e.number == n) e es (running es) refl other (others_pending m es other)

-- ---- the places that stay taken

-- the entry has its run in the queue, and no entry of its number is pending, so that no start moves it
abbrev stays_in : List Entry → List ℕ → Entry → Bool
stays_in es name e = occupies name e && not (some_pending es e.number)

abbrev staying : List Entry → List ℕ → ℕ
staying es name = counted (stays_in es name) es

staying_few : (es : List Entry) (name : List ℕ) → staying es name ≤ places_taken es name
staying_few es name = omega (arith, counted_both (occupies name) (λ e. not (some_pending es e.number)) es, counted_is (occupies name) es)

nothing_of : (a b : Bool) → b ≡ true → (a && not b) ≡ false
nothing_of true b h = ap not h
nothing_of false b h = refl

module _ (s : System) (c : Choice) (is : next_choice s ≡ Some c) where
  choice : IsChoice s c
  choice = choice_is s c is

  abbrev after : List Entry
  after = (after_start s c).entries

  chosen_pending : some_pending s.entries c.entry.number ≡ true
  chosen_pending = pending_there c.entry s.entries (fits_pending s c.entry c.queue choice.fit) choice.entry

  leaves : (name : List ℕ) (e : Entry) → (e.number == c.entry.number) ≡ true → stays_in s.entries name e ≡ false
  leaves name e number =
      let same : e.number ≡ c.entry.number = (Decides-eqb e.number c.entry.number).0 number in
      nothing_of (occupies name e) (some_pending s.entries e.number) (ap (some_pending s.entries) same ∙ chosen_pending)

  keeps : (name : List ℕ) (e : Entry) → (e.number == c.entry.number) ≡ false → stays_in after name e ≡ stays_in s.entries name e
  keeps name e other = ap (λ b. occupies name e && not b) (others_pending c.entry.number s.next_run c.queue e.number s.entries other)

  comes : (e : Entry) → (e.number == c.entry.number) ≡ true → stays_in after c.queue.name (made_running s.next_run c.queue e) ≡ true
  comes e number =
      let same : e.number ≡ c.entry.number = (Decides-eqb e.number c.entry.number).0 number in
      let none : some_pending after e.number ≡ false = ap (some_pending after) same ∙ none_pending c.entry.number s.next_run c.queue s.entries in
      let here : bytes_eq c.queue.name c.queue.name ≡ true = (bytes_eq-Decides c.queue.name c.queue.name).1 refl in
      ap (λ a. a && not (some_pending after e.number)) here ∙ ap not none

  no_fewer_stay : (name : List ℕ) → staying s.entries name ≤ staying after name
  no_fewer_stay name =
      no_fewer (stays_in s.entries name) (stays_in after name) c.entry.number (made_running s.next_run c.queue) (leaves name) (keeps name) s.entries

  one_more_stays : staying s.entries c.queue.name + 1 ≤ staying after c.queue.name
  one_more_stays =
      one_more (stays_in s.entries c.queue.name) (stays_in after c.queue.name) c.entry.number (made_running s.next_run c.queue)
      (leaves c.queue.name) (keeps c.queue.name) comes c.entry refl s.entries choice.entry

  has_place : staying s.entries c.queue.name < places c.queue
  has_place = omega (arith, staying_few s.entries c.queue.name, (Decides-ltb (places_taken s.entries c.queue.name) (places c.queue)).0 (choice_is_free s c is))

  starts : is_started c.queue.state ≡ true
  starts = and_left (is_started c.queue.state) (is_up s.nodes c.queue.node) (and_right _ _ (and_left _ _ (and_left _ _ (and_left _ _ (and_left _ _ choice.fit)))))

-- ---- the places that are left

abbrev total : (Queue → ℕ) → List Queue → ℕ
total f [] = 0
total f (q ∷ qs) = f q + total f qs

total_is : (f : Queue → ℕ) (qs : List Queue) → total f qs ≡ sum_by f qs
total_is f qs = is_sum_by (total f) f refl (λ x xs. refl) qs

module _ (f g : Queue → ℕ) (below : (q : Queue) → f q ≤ g q) where
  no_more : (qs : List Queue) → total f qs ≤ total g qs
  no_more [] = lit≤ tt
  no_more (q ∷ qs) = omega (arith, below q, no_more qs)

  one_less : (x : Queue) → f x + 1 ≤ g x → (qs : List Queue) → IsIn x qs → total f qs + 1 ≤ total g qs
  one_less x less [] among = absurd among
  one_less x less (q ∷ qs) (inl here) =
      let at : f q + 1 ≤ g q = subst (λ (p : Queue). f p + 1 ≤ g p) here less in
      omega (arith, at, no_more qs)
  one_less x less (q ∷ qs) (inr among) = omega (arith, below q, one_less x less qs among)

abbrev left_if : Bool → ℕ → ℕ → ℕ
left_if b n taken = cond b (n - taken) 0

fewer_left : (b : Bool) (n i j : ℕ) → i ≤ j → left_if b n j ≤ left_if b n i
fewer_left true n i j h = omega arith
fewer_left false n i j h = lit≤ tt

one_left : (b : Bool) (n i j : ℕ) → b ≡ true → i < n → i + 1 ≤ j → left_if b n j + 1 ≤ left_if b n i
one_left true n i j is within h = omega arith
one_left false n i j is within h = cc

none_taken : (b : Bool) (n i : ℕ) → left_if b n i ≤ cond b n 0
none_taken true n i = omega arith
none_taken false n i = lit≤ tt

abbrev left_in : List Entry → Queue → ℕ
left_in es q = left_if (is_started q.state) (places q) (staying es q.name)

start_takes_place : (s : System) (c : Choice) → next_choice s ≡ Some c → total (left_in (after_start s c).entries) s.queues + 1 ≤ total (left_in s.entries) s.queues
start_takes_place s c is =
    one_less (left_in (after_start s c).entries) (left_in s.entries)
    (λ q. fewer_left (is_started q.state) (places q) (staying s.entries q.name) (staying (after_start s c).entries q.name) (no_fewer_stay s c is q.name))
    c.queue
    (one_left (is_started c.queue.state) (places c.queue) (staying s.entries c.queue.name) (staying (after_start s c).entries c.queue.name)
    (starts s c is) (has_place s c is) (one_more_stays s c is))
    s.queues (choice_is s c is).queue

places_by : (n : ℕ) (s : System) (o : Option Choice) → next_choice s ≡ o → ((t : System) → length (settled_within n t).started ≤ total (left_in t.entries) t.queues)
    → length (settled_by n s o).started ≤ total (left_in s.entries) s.queues
places_by n s None is later = omega arith
places_by n s (Some c) is later = omega (arith, later (after_start s c), start_takes_place s c is)

places_within : (n : ℕ) (s : System) → length (settled_within n s).started ≤ total (left_in s.entries) s.queues
places_within zero s = omega arith
places_within (suc n) s = places_by n s (next_choice s) refl (places_within n)

pub few_by_places : (s : System) → length (settled s).started ≤ start_places s.queues
few_by_places s =
    let all : Queue → ℕ = λ q. cond (is_started q.state) (places q) 0 in
    omega (
      arith,
      places_within (length s.entries) s,
      no_more (left_in s.entries) all (λ q. none_taken (is_started q.state) (places q) (staying s.entries q.name)) s.queues,
      total_is all s.queues,
    )
