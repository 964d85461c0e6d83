-- Runs are moved behind a fetch, from the last duty to the first.
use Rattle.std.proofs.Common.{◌≡◌, ◌∙◌, ℕ, ◌+◌, ◌-◌, ◌<◌, Bool, true, false, not, cond, List, [], ◌∷◌, ◌++◌, length, get_or, drop, map, reverse, refl, sym, ap, subst, arith, Option, None, Some, ◌==◌, IfSome, IsSome, option_map, nat_cmp, Less}
use Rattle.std.specs.List.{All, AllByRecursion, cons_option, filter, find}
use Rattle.std.proofs.lemmas.List.{append_assoc, drop_more, get_or_append_left, get_or_at, get_or-reverse, length-append, length-reverse, map-append, reverse-append}
use Rattle.std.proofs.lemmas.List.Elements.{All-filter, All-tail}
use Rattle.qm_history.specs.Common.{Duty, Place, Work, IsInOrder}
use Rattle.qm_keyed.proofs.Mapped.{order_unmapped}
use Rattle.qm_model.specs.Kept.{KeptRun, kept_after, kept_of, may_step, round_of, run_kept}
use Rattle.qm_symb.specs.Symbiont.{IsWithinLimits}
use Rattle.qm_node.specs.declared.row.Row.{Row}
use Rattle.qm_node.specs.Duties.{AreLearnable}
use Rattle.qm_node.specs.Rows.{AreAtPlaces, AreHeld, IsSound, StandOnce, all_bare, bare}
use Rattle.qm_node.proofs.Rows.{kept_bare, kept_without, order_bare, without_bare}
use Rattle.qm_node.proofs.Rounds.{last_apart, round_kept, round_once, shown_last, shown_same}

-- so far the last ones of all runs that are to be kept were moved, the last one first; the duties that are left show the others
pub record Moved {C : Type 0} (fetch : ℕ) (S : Work → Place → C → Type 0) (all : List KeptRun) (old : List (Row C)) (duties : List Duty) (rows : List (Row C)) : Type 0 where
  pub shown : kept_after fetch (all_bare old) duties ++ reverse (all_bare rows) ≡ all
  pub order : IsInOrder nat_cmp (λ (row : Row C). row.run) old
  pub each : AreAtPlaces S old
  pub moved : AreAtPlaces S rows
  pub learnable : AreLearnable duties

learnable_but_last : (ds : List Duty) (d : Duty) → AreLearnable (ds ++ d ∷ []) → AreLearnable ds
learnable_but_last ds d h =
    let size = length-append ds (d ∷ []) in
    record {
      order = λ i j e below within.
          subst (λ (x : Duty). nat_cmp x.run (get_or ds j e).run ≡ Less) (get_or_append_left ds (d ∷ []) e i (omega (arith, below, within)))
          (subst (λ (x : Duty). nat_cmp (get_or (ds ++ d ∷ []) i e).run x.run ≡ Less) (get_or_append_left ds (d ∷ []) e j within) (h.order i j e below (omega (arith, within, size))));
      limits = λ i e within.
          subst (λ (x : Duty). IfSome x.work IsWithinLimits) (get_or_append_left ds (d ∷ []) e i within) (h.limits i e (omega (arith, within, size)));
    }

pub last_limits : (ds : List Duty) (d : Duty) → AreLearnable (ds ++ d ∷ []) → IfSome d.work IsWithinLimits
last_limits ds d h =
    subst (λ (x : Duty). IfSome x.work IsWithinLimits) (get_or_at ds d [] d (length ds) refl) (h.limits (length ds) d (omega (arith, length-append ds (d ∷ []))))

onto : (o : Option KeptRun) (ks : List KeptRun) → reverse (cons_option o []) ++ ks ≡ cons_option o [] ++ ks
onto None ks = refl
onto (Some k) ks = refl

-- the last duty is done
pub moved_one : {C : Type 0} (fetch : ℕ) (S : Work → Place → C → Type 0) (all : List KeptRun) (old left : List (Row C)) (ds : List Duty) (d : Duty) (rows more : List (Row C)) → Moved fetch S all old (ds ++ d ∷ []) rows
    → all_bare more ≡ all_bare rows ++ cons_option (kept_of fetch (all_bare old) d d.work) []
    → ((run : ℕ) → (run == d.run) ≡ false → run_kept run (all_bare left) ≡ run_kept run (all_bare old))
    → IsInOrder nat_cmp (λ (row : Row C). row.run) left → AreAtPlaces S left → AreAtPlaces S more → Moved fetch S all left ds more
moved_one fetch S all old left ds d rows more h shown others order each moved =
    let o : Option KeptRun = kept_of fetch (all_bare old) d d.work in
    let same : kept_after fetch (all_bare old) ds ≡ kept_after fetch (all_bare left) ds = shown_same fetch (all_bare old) (all_bare left) d.run others ds (last_apart ds d h.learnable.order) in
    let back : reverse (all_bare more) ≡ cons_option o [] ++ reverse (all_bare rows) =
    ap (λ (ks : List KeptRun). reverse ks) shown ∙ reverse-append (all_bare rows) (cons_option o []) ∙ onto o (reverse (all_bare rows)) in
    record {
      shown =
          ap (λ (ks : List KeptRun). ks ++ reverse (all_bare more)) (sym same)
          ∙ ap (λ (ks : List KeptRun). kept_after fetch (all_bare old) ds ++ ks) back
          ∙ sym (append_assoc (kept_after fetch (all_bare old) ds) (cons_option o []) (reverse (all_bare rows)))
          ∙ ap (λ (ks : List KeptRun). ks ++ reverse (all_bare rows)) (sym (shown_last fetch (all_bare old) ds d))
          ∙ h.shown;
      order = order;
      each = each;
      moved = moved;
      learnable = learnable_but_last ds d h.learnable;
    }

-- ---- the round of a run and of others

round_at : (k : KeptRun) (ks : List KeptRun) (b : Bool) → map (λ (k : KeptRun). k.run) (cond b (k ∷ filter may_step ks) (filter may_step ks)) ≡ cond b (k.run ∷ round_of ks) (round_of ks)
round_at k ks true = refl
round_at k ks false = refl

-- ---- one run is taken out

module _ {C : Type 0} where
  flagged : (d : Duty) (o : Option (Row C)) → option_map (λ (row : Row C). bare (record row { aborting = d.aborting; paused = d.paused })) o ≡ option_map (λ (k : KeptRun). record k { aborting = d.aborting; paused = d.paused }) (option_map bare o)
  flagged d None = refl
  flagged d (Some row) = refl

  -- a known run as its duty shows it
  pub shown_known : (fetch : ℕ) (rows : List (Row C)) (d : Duty) (o : Option (Row C)) → o ≡ find (λ (row : Row C). row.run == d.run) rows → d.work ≡ None
      → option_map (λ (row : Row C). bare (record row { aborting = d.aborting; paused = d.paused })) o ≡ kept_of fetch (all_bare rows) d d.work
  shown_known fetch rows d o taken none =
      flagged d o
      ∙ ap (λ (x : Option (Row C)). option_map (λ (k : KeptRun). record k { aborting = d.aborting; paused = d.paused }) (option_map bare x)) taken
      ∙ ap (λ (x : Option KeptRun). option_map (λ (k : KeptRun). record k { aborting = d.aborting; paused = d.paused }) x) (sym (kept_bare d.run rows))
      ∙ ap (λ (work : Option Work). kept_of fetch (all_bare rows) d work) (sym none)

  found_at : (P : Row C → Type 0) (row : Row C) (o : Option (Row C)) → P row → IfSome o P → (b : Bool) → IfSome (cond b (Some row) o) P
  found_at P row o here rest true = here
  found_at P row o here rest false = rest

  pub found_sound : (P : Row C → Type 0) (run : ℕ) (rows : List (Row C)) → All P rows → IfSome (find (λ (row : Row C). row.run == run) rows) P
  found_sound P run [] all = tt
  found_sound P run (row ∷ rows) all = found_at P row _ (all 0 row (omega arith)) (found_sound P run rows (All-tail P row rows all)) (row.run == run)

  pub taken_sound : (P : Row C → Type 0) (run : ℕ) (rows : List (Row C)) (row : Row C) → Some row ≡ find (λ (row : Row C). row.run == run) rows → All P rows → P row
  taken_sound P run rows row taken all = let found : IfSome (Some row) P = subst (λ (o : Option (Row C)). IfSome o P) (sym taken) (found_sound P run rows all) in found

  -- the others are found as before
  pub found_others : (run : ℕ) (rows left : List (Row C)) → left ≡ filter (λ (row : Row C). not (row.run == run)) rows → (other : ℕ) → (other == run) ≡ false → run_kept other (all_bare left) ≡ run_kept other (all_bare rows)
  found_others run rows left is other apart =
      ap (λ (xs : List (Row C)). run_kept other (all_bare xs)) is ∙ ap (λ (ks : List KeptRun). run_kept other ks) (without_bare run rows) ∙ kept_without other run apart (all_bare rows)

  pub left_sound : (P : Row C → Type 0) (run : ℕ) (rows left : List (Row C)) → left ≡ filter (λ (row : Row C). not (row.run == run)) rows → All P rows → All P left
  left_sound P run rows left is all = subst (λ (xs : List (Row C)). All P xs) (sym is) (All-filter (λ (row : Row C). not (row.run == run)) P rows all)

  -- ---- what is held then

  pub held_new : (S : Work → Place → C → Type 0) (rows : List (Row C)) (round : List ℕ) → IsInOrder nat_cmp (λ (row : Row C). row.run) rows → AreAtPlaces S rows → round ≡ round_of (all_bare rows)
      → AreHeld S rows round None
  held_new S rows round order each is = record {
    order = order;
    each = each;
    kept = subst (λ (runs : List ℕ). AllByRecursion (λ (run : ℕ). IsSome (run_kept run (all_bare rows))) runs) (sym is) (round_kept (all_bare rows));
    once = subst (λ (runs : List ℕ). StandOnce runs) (sym is) (round_once (all_bare rows) (order_bare rows order));
    stepping = tt;
  }

  -- ---- the round is filled

  round_rest : (rows : List (Row C)) (i : ℕ) (x : Row C) → i < length rows → x ≡ get_or rows i x
      → round_of (all_bare (drop i rows)) ≡ cond (may_step (bare x)) (x.run ∷ round_of (all_bare (drop (i + 1) rows))) (round_of (all_bare (drop (i + 1) rows)))
  round_rest rows i x within is =
      ap (λ (xs : List (Row C)). round_of (all_bare xs)) (drop_more rows i x within)
      ∙ ap (λ (row : Row C). round_of (bare row ∷ all_bare (drop (i + 1) rows))) (sym is)
      ∙ round_at (bare x) (all_bare (drop (i + 1) rows)) (may_step (bare x))

  pub round_pushed : (rows : List (Row C)) (i : ℕ) (x : Row C) (filled all : List ℕ) → i < length rows → x ≡ get_or rows i x → may_step (bare x) ≡ true
      → filled ++ round_of (all_bare (drop i rows)) ≡ all → (filled ++ x.run ∷ []) ++ round_of (all_bare (drop (i + 1) rows)) ≡ all
  round_pushed rows i x filled all within is may so =
      append_assoc filled (x.run ∷ []) (round_of (all_bare (drop (i + 1) rows)))
      ∙ ap (λ (b : Bool). filled ++ cond b (x.run ∷ round_of (all_bare (drop (i + 1) rows))) (round_of (all_bare (drop (i + 1) rows)))) (sym may)
      ∙ ap (λ (runs : List ℕ). filled ++ runs) (sym (round_rest rows i x within is)) ∙ so

  pub round_passed : (rows : List (Row C)) (i : ℕ) (x : Row C) (filled all : List ℕ) → i < length rows → x ≡ get_or rows i x → may_step (bare x) ≡ false
      → filled ++ round_of (all_bare (drop i rows)) ≡ all → filled ++ round_of (all_bare (drop (i + 1) rows)) ≡ all
  round_passed rows i x filled all within is may so =
      ap (λ (b : Bool). filled ++ cond b (x.run ∷ round_of (all_bare (drop (i + 1) rows))) (round_of (all_bare (drop (i + 1) rows)))) (sym may)
      ∙ ap (λ (runs : List ℕ). filled ++ runs) (sym (round_rest rows i x within is)) ∙ so

  -- ---- all duties are done

  all_reversed : (P : Row C → Type 0) (rows : List (Row C)) → All P rows → All P (reverse rows)
  all_reversed P rows all k d within =
      let size = length-reverse rows in
      rw (get_or-reverse rows k d (omega (arith, within, size))) (all (length rows - 1 - k) d (omega (arith, within, size)))

  bare_reversed : (rows : List (Row C)) → all_bare (reverse rows) ≡ reverse (all_bare rows)
  bare_reversed [] = refl
  bare_reversed (row ∷ rows) =
      ap all_bare (reverse-append (row ∷ []) rows) ∙ map-append bare (reverse rows) (row ∷ []) ∙ ap (λ (ks : List KeptRun). ks ++ bare row ∷ []) (bare_reversed rows)
      ∙ sym (reverse-append (bare row ∷ []) (all_bare rows))

  module _ (fetch : ℕ) (S : Work → Place → C → Type 0) (all : List KeptRun) (old : List (Row C)) (duties : List Duty) (rows more : List (Row C)) (h : Moved fetch S all old duties rows) (none : duties ≡ []) (is : more ≡ reverse rows) where
    pub all_shown : all_bare more ≡ all
    all_shown =
        ap all_bare is ∙ bare_reversed rows ∙ ap (λ (ds : List Duty). kept_after fetch (all_bare old) ds ++ reverse (all_bare rows)) (sym none) ∙ h.shown

    pub all_in_order : IsInOrder nat_cmp (λ (k : KeptRun). k.run) all → IsInOrder nat_cmp (λ (row : Row C). row.run) more
    all_in_order order = order_unmapped nat_cmp bare (λ (k : KeptRun). k.run) more (subst (λ (ks : List KeptRun). IsInOrder nat_cmp (λ (k : KeptRun). k.run) ks) (sym all_shown) order)

    pub all_at_places : AreAtPlaces S more
    all_at_places = subst (λ (xs : List (Row C)). AreAtPlaces S xs) (sym is) (all_reversed (IsSound S None []) rows h.moved)

pub no_items : {X : Type 0} (xs : List X) → length xs ≡ 0 → xs ≡ []
no_items [] none = refl
no_items (x ∷ xs) none = absurd (omega (arith, none))
