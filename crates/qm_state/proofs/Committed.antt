-- A change that was prepared is made on what the moment finds, and the jobs are started behind it.
use Rattle.std.proofs.Common.{◌≡◌, ◌∙◌, ℕ, zero, suc, ◌+◌, ◌≤◌, true, List, [], ◌∷◌, length, map, Option, None, Some, refl, sym, ap, subst, nat_cmp, Less}
use Rattle.std.specs.Option.{option_map_or}
use Rattle.qm_model.specs.Common.{Entry, EntryState, Pending, Holding, Timed, Running, Aborting, Retained, Act, Start, System, completed, IsConsistent, entry_numbered, is_pending, Accepted, when_idle, stopped_when_idle}
use Rattle.qm_model.specs.Settling.{Choice, Settled, settled, settled_within, next_choice, after_start, start_of, preceded_by, made_running}
use Rattle.qm_model.proofs.ListLemmas.{pairs_of}
use Rattle.qm_model.proofs.SettlingLemmas.{fits_pending}
use Rattle.qm_model.proofs.SoundLemmas.{choice_is, start_is_consistent}
use Rattle.qm_parts.proofs.Left.{that_one}
use Rattle.qm_sched.proofs.Starting.{entry_found}
use Rattle.qm_parts.specs.Tables.{Tables, with_tables}
use Rattle.qm_tables.proofs.SpoolCounting.{counts_changed}
use Rattle.qm_tables.specs.SpoolCounts.{CountsOf}
use Rattle.qm_tables.specs.Spool.{Counted}
use Rattle.qm_image.proofs.Timed.{wanted_changed}
use Rattle.qm_image.specs.declared.image.Image.{Image}
use Rattle.qm_image.specs.declared.prepared.Prepared.{Prepared}
use Rattle.qm_image.specs.Timers.{moment_in, AreTimersOf}
use Rattle.qm_image.specs.Image.{system_of}
use Rattle.qm_image.specs.Preparing.{found, made, changed, outcome_of}

-- ---- settling reads the tables alone

within_same : (n : ℕ) (s t : System) (tables : Tables) → (settled_within n (with_tables s tables)).started ≡ (settled_within n (with_tables t tables)).started
within_same zero s t tables = refl
within_same (suc n) s t tables = step (next_choice (with_tables s tables)) (λ (c : Choice). within_same n s t (record tables { entries = (after_start (with_tables s tables) c).entries; next_run = tables.next_run + 1 }))
  where
    step : (o : Option Choice)
        → ((c : Choice) → (settled_within n (after_start (with_tables s tables) c)).started ≡ (settled_within n (after_start (with_tables t tables) c)).started)
        → (option_map_or (λ c. preceded_by (start_of (with_tables s tables) c) (settled_within n (after_start (with_tables s tables) c))) o (record { system = with_tables s tables; started = [] })).started
        ≡ (option_map_or (λ c. preceded_by (start_of (with_tables t tables) c) (settled_within n (after_start (with_tables t tables) c))) o (record { system = with_tables t tables; started = [] })).started
    step None later = refl
    step (Some c) later = ap (λ (starts : List Start). start_of (with_tables s tables) c ∷ starts) (later c)

settled_same : (s t : System) (tables : Tables) → (settled (with_tables s tables)).started ≡ (settled (with_tables t tables)).started
settled_same s t tables = within_same (length tables.entries) s t tables

-- ---- a start leaves what is counted and what waits

module _ (P : System → Type 0) (starts : (s : System) (c : Choice) → next_choice s ≡ Some c → P s → P (after_start s c)) where
  within_keeps : (n : ℕ) (s : System) → P s → P (settled_within n s).system
  within_keeps zero s has = has
  within_keeps (suc n) s has = step (next_choice s) refl (λ (c : Choice) (is : next_choice s ≡ Some c). within_keeps n (after_start s c) (starts s c is has))
    where
      step : (o : Option Choice) → next_choice s ≡ o → ((c : Choice) → next_choice s ≡ Some c → P (settled_within n (after_start s c)).system)
          → P (option_map_or (λ c. preceded_by (start_of s c) (settled_within n (after_start s c))) o (record { system = s; started = [] })).system
      step None is later = has
      step (Some c) is later = later c is

  pub settled_keeps : (s : System) (tables : Tables) (started : List Start) (t : Tables) → settled (with_tables s tables) ≡ record { system = with_tables s t; started = started } → P (with_tables s tables) → P (with_tables s t)
  settled_keeps s tables started t is has =
      let same : (settled (with_tables s tables)).system ≡ with_tables s t = ap (λ (x : Settled). x.system) is in
      subst P same (within_keeps (length tables.entries) (with_tables s tables) has)

start_counts : (counts : List Counted) (s : System) (c : Choice) → next_choice s ≡ Some c → CountsOf s.entries counts → CountsOf (after_start s c).entries counts
start_counts counts s c is of = counts_changed c.entry.number (made_running s.next_run c.queue) (λ e. refl) s.entries counts of

-- a pending job wants no timer, and one that runs neither
pending_moment : (state : EntryState) → is_pending state ≡ true → moment_in state ≡ None
pending_moment Pending h = refl
pending_moment Holding h = refl
pending_moment (Timed at) h = absurd (cc)
pending_moment (Running queue node run) h = refl
pending_moment (Aborting queue node run fate) h = refl
pending_moment (Retained status until) h = absurd (cc)

record Keeps (timers : List (ℕ × ℕ)) (s : System) : Type 0 where
  sound : IsConsistent s
  timed : AreTimersOf s.entries timers

start_timers : (timers : List (ℕ × ℕ)) (s : System) (c : Choice) → next_choice s ≡ Some c → Keeps timers s → Keeps timers (after_start s c)
start_timers timers s c is keeps =
    let choice = choice_is s c is in
    let found : entry_numbered c.entry.number s.entries ≡ Some c.entry =
    entry_found c.entry s.entries (pairs_of (λ (a b : Entry). nat_cmp a.number b.number ≡ Less) s.entries keeps.sound.entries.order) choice.entry in
    let only = that_one c.entry.number c.entry s.entries keeps.sound.entries.order found in
    record {
      sound = start_is_consistent s c keeps.sound choice;
      timed = λ m.
          keeps.timed m
          ∙ sym (wanted_changed (made_running s.next_run c.queue) m c.entry.number (λ e. refl) s.entries
          (λ k d within is'.
          sym (ap (λ (e : Entry). moment_in e.state) (only k d within is') ∙ pending_moment c.entry.state (fits_pending s c.entry c.queue choice.fit))));
    }

pub settled_counts : (counts : List Counted) (s : System) (tables : Tables) (started : List Start) (t : Tables) → settled (with_tables s tables) ≡ record { system = with_tables s t; started = started } → CountsOf tables.entries counts → CountsOf t.entries counts
settled_counts counts s tables started t is of = settled_keeps (λ u. CountsOf u.entries counts) (start_counts counts) s tables started t is of

pub settled_timers : (timers : List (ℕ × ℕ)) (s : System) (tables : Tables) (started : List Start) (t : Tables) → settled (with_tables s tables) ≡ record { system = with_tables s t; started = started }
    → IsConsistent (with_tables s tables) → AreTimersOf tables.entries timers → AreTimersOf t.entries timers
settled_timers timers s tables started t is sound timed = (settled_keeps (Keeps timers) (start_timers timers) s tables started t is (record { sound = sound; timed = timed })).timed

-- ---- what is made

module _ (p : Prepared) (old reached new : Image) (act : Act) (idle : Tables) (rows : system_of reached ≡ found p.at (system_of old))
    (done : outcome_of p.change p.at p.node (system_of reached) ≡ record { system = system_of new; reply = record { act = act; started = [] } })
    (stopped : idle ≡ record new.parts { queues = map (when_idle new.parts.entries) new.parts.queues }) where
  is_changed : changed p (system_of old) ≡ record { system = system_of new; reply = record { act = act; started = [] } }
  unfolding changed
  is_changed = ap (λ (s : System). outcome_of p.change p.at p.node s) (sym rows) ∙ done

  pub idle_sound : IsConsistent (stopped_when_idle (changed p (system_of old)).system) → IsConsistent (with_tables (system_of new) idle)
  unfolding system_of
  idle_sound sound =
      let left : IsConsistent (stopped_when_idle (system_of new)) = subst (λ (a : Accepted). IsConsistent (stopped_when_idle a.system)) is_changed sound in
      subst (λ (t : Tables). IsConsistent (with_tables (system_of new) t)) (sym stopped) left

  after : Tables → Accepted
  after t = record { system = (settled (with_tables (system_of new) t)).system; reply = record { act = act; started = (settled (with_tables (system_of new) t)).started } }

  is_made : made p (system_of old) ≡ after idle
  unfolding made system_of after
  is_made = ap completed is_changed ∙ ap after (sym stopped)

  pub few_starts : (n : ℕ) → length (made p (system_of old)).reply.started ≤ n → (s : System) → length (settled (with_tables s idle)).started ≤ n
  unfolding after
  few_starts n few s =
      let same : (made p (system_of old)).reply.started ≡ (settled (with_tables s idle)).started = ap (λ (a : Accepted). a.reply.started) is_made ∙ settled_same (system_of new) s idle in
      subst (λ (starts : List Start). length starts ≤ n) same few

  pub is_done : (last : Tables) (started told : List Start) → settled (with_tables (system_of new) idle) ≡ record { system = with_tables (system_of new) last; started = started } → started ≡ told
      → made p (system_of old) ≡ record { system = with_tables (system_of new) last; reply = record { act = act; started = told } }
  unfolding after
  is_done last started told is all =
      is_made ∙ ap (λ (x : Settled). record { system = x.system; reply = record { act = act; started = x.started } }) is
      ∙ ap (λ (starts : List Start). record { system = with_tables (system_of new) last; reply = record { act = act; started = starts } }) all
