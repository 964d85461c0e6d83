-- Turns that change nothing, and what is told of a history turn by turn.
use Rattle.std.proofs.Common.{◌≡◌, ◌≢◌, ℕ, ◌<◌, ◌⊎◌, inl, inr, Bool, true, false, cond, not, ◌&&◌, List, [], ◌∷◌, ◌++◌, length, refl, sym, ◌∙◌, ap, subst, arith, Option, None, Some, filter, ◌==◌, flat_map, is_none, option_map, append-nil}
use Rattle.std.proofs.lemmas.Bool.Decides.{nat_tests}
use Rattle.std.proofs.lemmas.Grind.{flat_map-append}
use Rattle.std.proofs.lemmas.List.Elements.{filter-append}
use Rattle.qm_history.specs.Common.{Input, Row, input_of, is_start, Extent, IsCourse, GoesOn, at_first, after_turn, after_turns, IsLegalTurn, IsLegal, UserLine, after_events, takes_over, Visit, visits, visits_of, system_in, is_live, held_by}
use Rattle.qm_kinds.specs.declared.input.Input.TheVariants as input
use Rattle.qm_kinds.specs.declared.request.Request.TheVariants as request
use Rattle.qm_history.specs.declared.call.Call.{Call}
use Rattle.qm_history.specs.declared.call.Call.TheVariants as call
use Rattle.qm_history.specs.declared.event.Event.{Event}
use Rattle.qm_history.specs.declared.event.Event.TheVariants as event
use Rattle.qm_history.specs.declared.turn.Turn.{Turn}
use Rattle.qm_history.specs.declared.turn.Why.TheVariants as why
use Rattle.qm_history.specs.declared.world.Role.{Role}
use Rattle.qm_history.specs.declared.world.World.{World}
use Rattle.qm_history.specs.Happening.{IsForManager, IsCompactionAlone}
use Rattle.qm_history.specs.Text.{text, text_of_node, visit_text}
use Rattle.qm_history.specs.Turn.{Nothing, fence, FencedOr, IsAsked, IsCompaction, IsOwn, IsBehindTakeover, UnlessDown, is_down, IsServed, IsTurnOf, IsCutShort}

-- ---- fenced turns

fence_at : (w : World) (node : ℕ) (m : Option Role) (role : Role) → m ≡ Some role → held_by w node ≢ role.epoch
    → fence (record w { manager = m }) node ≡ Some (event.Fenced node (held_by w node) role.epoch)
fence_at w node m role is other =
    let differ : (held_by w node == role.epoch) ≡ false = grind (arith, nat_tests) in
    subst (λ x. fence (record w { manager = x }) node ≡ Some (event.Fenced node (held_by w node) role.epoch)) (sym is)
    (ap (λ b. cond b None (Some (event.Fenced node (held_by w node) role.epoch))) differ)

is_fenced : (w : World) (node : ℕ) (role : Role) → w.manager ≡ Some role → held_by w node ≢ role.epoch → fence w node ≡ Some (event.Fenced node (held_by w node) role.epoch)
is_fenced w node role is other = fence_at w node w.manager role is other

own_fenced : (w : World) (node reading : ℕ) (asked : Call) (what : Input) (e : Event) → fence w node ≡ Some e → IsForManager what → (events : List Event)
    → IsOwn w node reading asked Nothing what events → events ≡ e ∷ []
own_fenced w node reading asked (input.Ask request.Tick) e is manager events own = subst (λ f. FencedOr f (IsAsked w node reading request.Tick events) events) is own
own_fenced w node reading asked input.Compact e is manager events own = subst (λ f. FencedOr f (IsCompaction node events) events) is own
own_fenced w node reading asked _ e is manager events own = absurd manager

takes_none : (w : World) (role : Role) (what : Input) → w.manager ≡ Some role → IsForManager what → takes_over w what ≡ false
takes_none w role (input.Ask request.Tick) is manager = subst (λ m. is_none m ≡ false) (sym is) refl
takes_none w role input.Compact is manager = subst (λ m. is_none m ≡ false) (sym is) refl
takes_none w role _ is manager = absurd manager

not_down : (w : World) (node : ℕ) (what : Input) → is_live w node ≡ true → is_down w node what ≡ false
not_down w node what live = subst (λ b. (not b && not (is_start what)) ≡ false) (sym live) refl

module _ (w : World) (node reading : ℕ) (asked : Call) (role : Role) (is : w.manager ≡ Some role) (other : held_by w node ≢ role.epoch) (manager : IsForManager (input_of asked)) (events : List Event) where
  abbrev fenced : List Event
  fenced = event.Fenced node (held_by w node) role.epoch ∷ []

  behind_fenced : IsBehindTakeover w node reading asked (takes_over w (input_of asked)) events → events ≡ fenced
  behind_fenced h =
      own_fenced w node reading asked (input_of asked) (event.Fenced node (held_by w node) role.epoch) (is_fenced w node role is other) manager events
      (subst (λ b. IsBehindTakeover w node reading asked b events) (takes_none w role (input_of asked) is manager) h)

  pub served_fenced : is_live w node ≡ true → IsServed w node reading asked events → events ≡ fenced
  served_fenced live h =
      behind_fenced (subst (λ b. UnlessDown b node reading (input_of asked) (IsBehindTakeover w node reading asked (takes_over w (input_of asked)) events) events) (not_down w node (input_of asked) live) h)

  stays_at : (down : Bool) → UnlessDown down node reading (input_of asked) (IsBehindTakeover w node reading asked (takes_over w (input_of asked)) events) events → after_events w events ≡ w
  stays_at true h = ap (after_events w) h
  stays_at false h = ap (after_events w) (behind_fenced h)

  pub served_stays : IsServed w node reading asked events → after_events w events ≡ w
  served_stays h = stays_at (is_down w node (input_of asked)) h

  pub not_alone : takes_over w (input_of asked) ≡ true → ⊥
  not_alone takes = let none : takes_over w (input_of asked) ≡ false = takes_none w role (input_of asked) is manager in cc

pub turn_stays : (w : World) (asked : Call) (t : Turn) (role : Role) → w.manager ≡ Some role → held_by w t.node ≢ role.epoch → IsForManager (input_of asked)
    → IsTurnOf w asked t ⊎ IsCutShort w asked t → after_turn w t ≡ w
turn_stays w asked t role is other manager (inl whole) = served_stays w t.node t.moment asked role is other manager t.events whole.1
turn_stays w asked t role is other manager (inr short) = absurd (not_alone w t.node t.moment asked role is other manager t.events short.1.1)

pub turn_fenced : (w : World) (asked : Call) (t : Turn) (role : Role) → w.manager ≡ Some role → held_by w t.node ≢ role.epoch → IsForManager (input_of asked)
    → IsTurnOf w asked t ⊎ IsCutShort w asked t → is_live w t.node ≡ true → t.events ≡ event.Fenced t.node (held_by w t.node) role.epoch ∷ []
turn_fenced w asked t role is other manager (inl whole) live = served_fenced w t.node t.moment asked role is other manager t.events live whole.1
turn_fenced w asked t role is other manager (inr short) live = absurd (not_alone w t.node t.moment asked role is other manager t.events short.1.1)

-- ---- compactions

pub alone_stays : (w : World) (t : Turn) → IsCompactionAlone t → after_turn w t ≡ w
alone_stays w t (node, epoch, file, is) = ap (after_events w) is

pub compaction_goes : (w : World) (before behind : List Turn) (t : Turn) → IsCompactionAlone t → IsLegal w (before ++ t ∷ behind) → IsLegal w (before ++ behind)
compaction_goes w [] behind t alone legal = subst (λ v. IsLegal v behind) (alone_stays w t alone) legal.1
compaction_goes w (x ∷ before) behind t alone legal = (legal.0, compaction_goes (after_turn w x) before behind t alone legal.1)

pub compaction_comes : (w : World) (before behind : List Turn) (t : Turn) → IsCompactionAlone t → IsLegalTurn (after_turns w before) t
    → IsLegal w (before ++ behind) → IsLegal w (before ++ t ∷ behind)
compaction_comes w [] behind t alone may legal = (may, subst (λ v. IsLegal v behind) (sym (alone_stays w t alone)) legal)
compaction_comes w (x ∷ before) behind t alone may legal = (legal.0, compaction_comes (after_turn w x) before behind t alone may legal.1)

fence_none : (w : World) (node : ℕ) (m : Option Role) (role : Role) → m ≡ Some role → held_by w node ≡ role.epoch → fence (record w { manager = m }) node ≡ None
fence_none w node m role is same =
    let equal : (held_by w node == role.epoch) ≡ true = grind (arith, nat_tests) in
    subst (λ x. fence (record w { manager = x }) node ≡ None) (sym is) (ap (λ b. cond b None (Some (event.Fenced node (held_by w node) role.epoch))) equal)

pub compaction_may_come : (w : World) (role : Role) (node file line moment : ℕ) → w.manager ≡ Some role → held_by w node ≡ role.epoch → is_live w node ≡ true → node < length (system_in w).nodes
    → (file ≡ 1) ⊎ (file ≡ 2) → IsLegalTurn w (record { node = node; why = why.Line line; moment = moment; events = event.Compacted node role.epoch file ∷ [] })
compaction_may_come w role node file line moment is same live within is_file =
    let events : List Event = event.Compacted node role.epoch file ∷ [] in
    let asked : Call = call.Line line input.Compact in
    let own : FencedOr (fence w node) (IsCompaction node events) events = subst (λ f. FencedOr f (IsCompaction node events) events) (sym (fence_none w node w.manager role is same)) refl in
    let behind : IsBehindTakeover w node moment asked (takes_over w input.Compact) events =
    subst (λ b. IsBehindTakeover w node moment asked b events) (sym (takes_none w role input.Compact is tt)) own in
    let served : IsServed w node moment asked events =
    subst (λ b. UnlessDown b node moment input.Compact (IsBehindTakeover w node moment asked (takes_over w input.Compact) events) events) (sym (not_down w node input.Compact live)) behind in
    (asked, inl (record { node_there = within; why_is = refl; outside = tt; can_come = ((ap (λ (m : Option Role). option_map (λ (r : Role). r.epoch) m) is, is_file), tt) }, served))

pub visits_append : (w : World) (a b : List Turn) → visits w (a ++ b) ≡ visits w a ++ visits (after_turns w a) b
visits_append w [] b = refl
visits_append w (t ∷ a) b = ap (λ vs. record { before = w; turn = t } ∷ vs) (visits_append (after_turn w t) a b)

pub visits_with : (w : World) (before behind : List Turn) (t : Turn) → IsCompactionAlone t
    → visits w (before ++ t ∷ behind) ≡ visits w before ++ record { before = after_turns w before; turn = t } ∷ visits (after_turns w before) behind
visits_with w before behind t alone =
    visits_append w before (t ∷ behind)
    ∙ ap (λ v. visits w before ++ record { before = after_turns w before; turn = t } ∷ visits v behind) (alone_stays (after_turns w before) t alone)

-- ---- texts

module _ (items_line : Row → List ℕ) where
  pub text_append : (w : World) (a b : List Turn) → text items_line w (a ++ b) ≡ text items_line w a ++ text items_line (after_turns w a) b
  text_append w a b =
      ap (flat_map (visit_text items_line)) (visits_append w a b) ∙ flat_map-append (visit_text items_line) (visits w a) (visits (after_turns w a) b)

pub visits_of_append : (node : ℕ) (w : World) (a b : List Turn) → visits_of node w (a ++ b) ≡ visits_of node w a ++ visits_of node (after_turns w a) b
visits_of_append node w a b =
    ap (filter (λ (v : Visit). v.turn.node == node)) (visits_append w a b) ∙ filter-append (λ (v : Visit). v.turn.node == node) (visits w a) (visits (after_turns w a) b)

module _ (items_line : Row → List ℕ) where
  pub node_text_append : (node : ℕ) (w : World) (a b : List Turn) → text_of_node items_line node w (a ++ b) ≡ text_of_node items_line node w a ++ text_of_node items_line node (after_turns w a) b
  node_text_append node w a b =
      ap (flat_map (visit_text items_line)) (visits_of_append node w a b) ∙ flat_map-append (visit_text items_line) (visits_of node w a) (visits_of node (after_turns w a) b)

-- ---- courses

other_visit : (node : ℕ) (w : World) (t : Turn) → t.node ≢ node → visits_of node w (t ∷ []) ≡ []
other_visit node w t other =
    let differ : (t.node == node) ≡ false = grind (arith, nat_tests) in
    ap (λ b. cond b (record { before = w; turn = t } ∷ []) []) differ

module _ (read : UserLine → ℕ → List Visit → List ℕ → Input) where
  pub same_course : (extent : Extent) (w v : World) (turns others : List Turn) (node : ℕ) (lines : List UserLine) (faults : ℕ) → is_live w node ≡ is_live v node
      → visits_of node w turns ≡ visits_of node v others → IsCourse read extent w turns node lines faults → IsCourse read extent v others node lines faults
  same_course extent w v turns others node lines faults live same h = record {
    steps = h.steps;
    broken = h.broken;
    turns_are =
        subst (λ b. GoesOn read extent h.broken (at_first lines) [] b (visits_of node v others) h.steps) live
        (subst (λ vs. GoesOn read extent h.broken (at_first lines) [] (is_live w node) vs h.steps) same h.turns_are);
    few_faults = h.few_faults;
  }

  pub course_behind : (extent : Extent) (w : World) (turns : List Turn) (t : Turn) (node : ℕ) (lines : List UserLine) (faults : ℕ) → t.node ≢ node
      → IsCourse read extent w turns node lines faults → IsCourse read extent w (turns ++ t ∷ []) node lines faults
  course_behind extent w turns t node lines faults other h =
      same_course extent w w turns (turns ++ t ∷ []) node lines faults refl
      (sym (visits_of_append node w turns (t ∷ []) ∙ ap (λ vs. visits_of node w turns ++ vs) (other_visit node (after_turns w turns) t other) ∙ append-nil (visits_of node w turns))) h
