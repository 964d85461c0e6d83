-- What fetches show.
use Rattle.std.proofs.Common.{◌≡◌, ℕ, zero, suc, ◌⊎◌, inl, inr, Bool, true, false, cond, List, [], ◌∷◌, map, filter, refl, sym, ◌∙◌, ap, subst, arith, Option, None, Some, Contains, fold, ◌==◌, nat_lt}
use Rattle.std.specs.List.{list_any}
use Rattle.qm_kinds.specs.declared.entry.Entry.{Entry}
use Rattle.qm_history.specs.Common.{Input, System, Duty, Work, shown_answer, taken_answer, event_answer, events_answer, takeover_of, last_moment, answered, after_event, Visit, system_in}
use Rattle.qm_kinds.specs.declared.input.Input.TheVariants as input
use Rattle.qm_model.specs.Duties.{run_number, work_of, duty_of, by_run, duties}
use Rattle.qm_model.specs.Inserting.{inserted}
use Rattle.qm_model.specs.Standing.{node_at, is_run_on}
use Rattle.qm_history.specs.declared.call.Answer.{Answer}
use Rattle.qm_history.specs.declared.call.Answer.TheVariants as answer
use Rattle.qm_history.specs.declared.call.Takeover.{Takeover}
use Rattle.qm_history.specs.declared.event.Event.{Event}
use Rattle.qm_history.specs.declared.event.Event.TheVariants as event
use Rattle.qm_history.specs.declared.turn.Why.{Why}
use Rattle.qm_history.specs.declared.turn.Why.TheVariants as why
use Rattle.qm_history.specs.declared.world.World.{World}
use Rattle.qm_history.specs.Blocks.{world_at_last, system_shown, IsWorkOf, Gives}

-- ---- what stands in lists

module _ {X : Type 0} where
  abbrev pub IsAmong : X → List X → Type 0
  IsAmong x [] = ⊥
  IsAmong x (y ∷ ys) = (y ≡ x) ⊎ IsAmong x ys

  pub among : (xs : List X) (x : X) → Contains xs x → IsAmong x xs
  among [] x found = absurd (omega (arith, found.1))
  among (y ∷ ys) x (zero, within, is) = inl is
  among (y ∷ ys) x (suc k, within, is) = inr (among ys x (k, omega arith, is))

  pub contained : (xs : List X) (x : X) → IsAmong x xs → Contains xs x
  contained [] x h = absurd h
  contained (y ∷ ys) x (inl is) = (zero, omega arith, is)
  contained (y ∷ ys) x (inr h) = let further = contained ys x h in (suc further.0, omega (arith, further.1), further.2)

  filtered_at : (b : Bool) (x y : X) (ys : List X) → IsAmong x (cond b (y ∷ ys) ys) → (y ≡ x) ⊎ IsAmong x ys
  filtered_at true x y ys h = h
  filtered_at false x y ys h = inr h

  filtered_on : (p : X → Bool) (x y : X) (ys : List X) → (IsAmong x (filter p ys) → IsAmong x ys) → (y ≡ x) ⊎ IsAmong x (filter p ys) → (y ≡ x) ⊎ IsAmong x ys
  filtered_on p x y ys on (inl is) = inl is
  filtered_on p x y ys on (inr h) = inr (on h)

  filtered : (p : X → Bool) (x : X) (xs : List X) → IsAmong x (filter p xs) → IsAmong x xs
  filtered p x [] h = h
  filtered p x (y ∷ ys) h = filtered_on p x y ys (filtered p x ys) (filtered_at (p y) x y (filter p ys) h)

  inserted_at : (b : Bool) (x y z : X) (zs others : List X) → (IsAmong x others → (y ≡ x) ⊎ IsAmong x zs) → IsAmong x (cond b (y ∷ z ∷ zs) (z ∷ others)) → (y ≡ x) ⊎ IsAmong x (z ∷ zs)
  inserted_at true x y z zs others on h = h
  inserted_at false x y z zs others on (inl is) = inr (inl is)
  inserted_at false x y z zs others on (inr h) = further (on h)
    where
      further : (y ≡ x) ⊎ IsAmong x zs → (y ≡ x) ⊎ IsAmong x (z ∷ zs)
      further (inl is) = inl is
      further (inr k) = inr (inr k)

  in_inserted : (before : X → X → Bool) (x y : X) (zs : List X) → IsAmong x (inserted before y zs) → (y ≡ x) ⊎ IsAmong x zs
  in_inserted before x y [] h = h
  in_inserted before x y (z ∷ zs) h = inserted_at (before y z) x y z zs (inserted before y zs) (in_inserted before x y zs) h

  in_sorted : (before : X → X → Bool) (x : X) (xs sorted : List X) → IsAmong x (fold (λ (zs : List X) (y : X). inserted before y zs) sorted xs) → IsAmong x sorted ⊎ IsAmong x xs
  in_sorted before x [] sorted h = inl h
  in_sorted before x (y ∷ ys) sorted h = step (in_sorted before x ys (inserted before y sorted) h)
    where
      at : (y ≡ x) ⊎ IsAmong x sorted → IsAmong x sorted ⊎ IsAmong x (y ∷ ys)
      at (inl is) = inr (inl is)
      at (inr k) = inl k

      step : IsAmong x (inserted before y sorted) ⊎ IsAmong x ys → IsAmong x sorted ⊎ IsAmong x (y ∷ ys)
      step (inl k) = at (in_inserted before x y sorted k)
      step (inr k) = inr (inr k)

mapped : {X Y : Type 0} (f : X → Y) (y : Y) (xs : List X) → IsAmong y (map f xs) → (x : X) × IsAmong x xs × (f x ≡ y)
mapped f y [] h = absurd h
mapped f y (x ∷ xs) (inl is) = (x, inl refl, is)
mapped f y (x ∷ xs) (inr h) = let further = mapped f y xs h in (further.0, inr further.1, further.2)

-- ---- duties

work_at : (b : Bool) (s : System) (e : Entry) (work : Work) → cond b None (Some (work_of s e)) ≡ Some work → work ≡ work_of s e
work_at true s e work h = cc
work_at false s e work h = cc

none_sorted : (x : Entry) (xs : List Entry) → IsAmong x [] ⊎ IsAmong x xs → IsAmong x xs
none_sorted x xs (inl h) = absurd h
none_sorted x xs (inr h) = h

of_duty : (s : System) (node : List ℕ) (known : List ℕ) (d : Duty) (run : ℕ) (work : Work) → Contains (duties s node known) d → d.run ≡ run → d.work ≡ Some work → IsWorkOf s run work
of_duty s node known d run work inside run_is work_is =
    let running : List Entry = filter (is_run_on node) s.entries in
    let one = mapped (duty_of s known) d (by_run running) (among (duties s node known) d inside) in
    let e : Entry = one.0 in
    let here : IsAmong e running = none_sorted e running (in_sorted (λ a b. nat_lt (run_number a) (run_number b)) e running [] one.1) in (
      e,
      contained s.entries e (filtered (is_run_on node) e s.entries here),
      sym run_is ∙ sym (ap (λ (x : Duty). x.run) one.2),
      work_at (list_any (λ r. r == run_number e) known) s e work (ap (λ (x : Duty). x.work) one.2 ∙ work_is),
    )

-- ---- answers

-- the duties of this system
abbrev AreOf : System → List Duty → Type 0
AreOf s shown = (node : List ℕ) × (known : List ℕ) × (shown ≡ duties s node known)

shown_of : (w : World) (node : ℕ) (took : Option Takeover) (moment : ℕ) (asked : Input) (t : Option Takeover) (m : ℕ) (shown : List Duty) → shown_answer w node took moment asked ≡ answer.Duties t m shown → AreOf (system_in w) shown
shown_of w node took moment (input.Fetch known) t m shown h =
    let same : duties (system_in w) (node_at node (system_in w).nodes) known ≡ shown = cc in (node_at node (system_in w).nodes, known, sym same)
shown_of w node took moment (input.Show query) t m shown h = cc
shown_of w node took moment _ t m shown h = cc

taken_of : (took : Option Takeover) (moment : ℕ) (name : List ℕ) (epoch : ℕ) (because : Why) (t : Option Takeover) (m : ℕ) (shown : List Duty) → taken_answer took moment name epoch because ≡ answer.Duties t m shown → ⊥
taken_of took moment name epoch (why.Line line) t m shown h = cc
taken_of took moment name epoch _ t m shown h = cc

one_of : (w : World) (took : Option Takeover) (because : Why) (moment : ℕ) (e : Event) (t : Option Takeover) (m : ℕ) (shown : List Duty) → event_answer w took because moment e ≡ answer.Duties t m shown → AreOf (system_in w) shown
one_of w took because moment (event.Shown node acted asked) t m shown h = shown_of w node took moment asked t m shown h
one_of w took because moment (event.Took node acted epoch gone up may kept) t m shown h = absurd (taken_of took moment (node_at node (system_in w).nodes) epoch because t m shown h)
one_of w took because moment _ t m shown h = cc

all_of : (w : World) (took : Option Takeover) (because : Why) (moment : ℕ) (events : List Event) (t : Option Takeover) (m : ℕ) (shown : List Duty) → events_answer w took because moment events ≡ answer.Duties t m shown
    → AreOf (system_in (world_at_last w events)) shown
all_of w took because moment [] t m shown h = cc
all_of w took because moment (e ∷ []) t m shown h = one_of w took because moment e t m shown h
all_of w took because moment (e ∷ next ∷ events) t m shown h = all_of (after_event w e) took because moment (next ∷ events) t m shown h

gives_work_at : (s : System) (replied : Answer) (run : ℕ) (work : Work) → ((t : Option Takeover) (m : ℕ) (shown : List Duty) → replied ≡ answer.Duties t m shown → AreOf s shown) → Gives replied run work → IsWorkOf s run work
gives_work_at s (answer.Duties took moment shown) run work of (d, inside, run_is, work_is) =
    let those = of took moment shown refl in of_duty s those.0 those.1 d run work (subst (λ ds. Contains ds d) those.2 inside) run_is work_is
gives_work_at s replied run work of gives = absurd gives

pub gives_work : (v : Visit) (run : ℕ) (work : Work) → Gives (answered v) run work → IsWorkOf (system_shown v) run work
gives_work v run work gives =
    gives_work_at (system_shown v) (answered v) run work
    (λ t m shown h. all_of v.before (takeover_of v.before v.turn.events) v.turn.why (last_moment v.turn.moment v.turn.events) v.turn.events t m shown h) gives
