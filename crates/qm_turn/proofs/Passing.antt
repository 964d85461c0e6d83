-- A pass ends its turn: it gives the value back, and the next ticket is served.
use Rattle.std.proofs.Common.{◌≡◌, ◌≢◌, ℕ, ◌+◌, ◌<◌, ◌≤◌, ◌%◌, ◌^◌, ◌==◌, List, [], ◌∷◌, ◌++◌, length, slice_index, set, Some, if◌then◌else◌, refl, sym, ap, ◌∙◌, subst, arith, inl, ⊎_elim, length-append, Option as Optional}
use mathlib.Core.Option.{none, some}
use mathlib.Core.List.{IsPrefix}
use lib.ListN.{get_elem?}
use Rattle.atomic_table.specs.Table.{State, Allows, gives, step}
use Rattle.qm_turn.specs.declared.view.View.{View}
use Rattle.qm_turn.specs.declared.view.Phase.TheVariants.{Served}
use Rattle.qm_turn.specs.History.{notes, notes_by, times, numbers_of, Agrees}
use Rattle.qm_turn.specs.Rule.{most, total, below, tickets, numbers, pairs, unless_spent, count, drawn, IsServed, Phased, Fits, Kept, Home, Out, Slot, Sat, after_turn, PassesOn}
use Rattle.qm_turn.proofs.Counts.{below_next, below_le, below_some, times_same, times_first, total_set, total_one, each_set}
use Rattle.qm_turn.proofs.Histories.{prefix_same, prefix_more, notes-append, notes_by_other, notes_by_same, agrees_more}
use Rattle.qm_turn.proofs.Facts.{alone, one_number, phased_unserved, next_is_small}

module _ {V N : Type 0} (stands : V → List N → Type 0) (passes : ℕ) (s : State (Optional V) (View N)) (k : Kept stands passes s) (id t : ℕ) (v : View N) (at : get_elem? s.views id ≡ some v) (served : v.phase ≡ Served t) (x : V) (note : N) (left : stands x (notes v.seen ++ note ∷ [])) where
  abbrev n : ℕ
  n = v.number

  abbrev log : List (ℕ × N)
  log = k.log ++ (n, note) ∷ []

  abbrev w : View N
  w = after_turn v (note ∷ [])

  phased : (t ≡ length k.log) × (v.seen ≡ k.log)
  phased = subst (λ p. Phased k.log v.seen p) served (k.fits id v at).phased

  has_ticket : tickets v.phase ≡ length k.log ∷ []
  has_ticket = ap tickets served ∙ ap (λ m. m ∷ []) phased.0

  pairs_of_v : pairs v ≡ (n, v.mine) ∷ v.took
  pairs_of_v = ap (λ p. unless_spent p ((n, v.mine) ∷ v.took)) served

  -- its number stands in it, and there once
  mine_once : times n (numbers v) ≡ 1 + times n (numbers_of v.took)
  mine_once = ap (λ ps. times n (numbers_of ps)) pairs_of_v ∙ times_first n (numbers_of v.took)

  not_took : times n (numbers_of v.took) ≡ 0
  not_took =
      let f : View N → ℕ = λ u. times n (numbers u) in
      let one : f v ≤ total f s.views = total_one f s.views id v at in
      let is : f v ≡ 1 + times n (numbers_of v.took) = mine_once in
      let all : total f s.views ≡ below n k.given = k.numbers_given n in
      let most_one = below_le n k.given in
      omega arith

  given_number : n < k.given
  given_number =
      let f : View N → ℕ = λ u. times n (numbers u) in
      let one : f v ≤ total f s.views = total_one f s.views id v at in
      let is : f v ≡ 1 + times n (numbers_of v.took) = mine_once in
      let all : total f s.views ≡ below n k.given = k.numbers_given n in
      below_some n k.given (omega arith)

  longer : length log ≡ length k.log + 1
  longer = omega (arith, length-append k.log ((n, note) ∷ []))

  small : length k.log + 1 < 18446744073709551616
  small =
      let f : View N → ℕ = λ u. times (length k.log) (tickets u.phase) in
      let one : f v ≤ total f s.views = total_one f s.views id v at in
      let is : f v ≡ 1 = ap (times (length k.log)) has_ticket ∙ times_same (length k.log) in
      let all : total f s.views + below (length k.log) (length k.log) ≡ below (length k.log) k.next = k.tickets_out (length k.log) in
      let near : length k.log < k.next = below_some (length k.log) k.next (omega arith) in
      let far = next_is_small stands passes s k in
      omega arith

  words : set s.words 0 ((slice_index s.words 0 + 1) % 2 ^ 64) ≡ length log ∷ k.next ∷ []
  words =
      let bound = small in
      let m : (length k.log + 1) % 18446744073709551616 ≡ length k.log + 1 = omega arith in
      ap (λ ws. set ws 0 ((slice_index ws 0 + 1) % 18446744073709551616)) k.words ∙ ap (λ l. l ∷ k.next ∷ []) (m ∙ sym longer)

  others_unserved : (j : ℕ) (u : View N) → j ≢ id → get_elem? s.views j ≡ some u → ¬ IsServed u.phase
  others_unserved j u apart e is = alone stands passes s k id j v u at e has_ticket is (λ same. apart (sym same))

  home_again : set s.homes 0 (some (Some x)) ≡ some (Some x) ∷ []
  home_again =
      ⊎_elim
      (λ (h : Home stands k.log s.homes s.views). ap (λ hs. set hs 0 (some (Some x))) h.1)
      (λ (o : Out s.homes s.views). ap (λ hs. set hs 0 (some (Some x))) o.0)
      k.slot

  stands_now : stands x (notes log)
  stands_now = subst (λ ns. stands x ns) (ap (λ l. notes l ++ note ∷ []) phased.1 ∙ sym (notes-append k.log ((n, note) ∷ []))) left

  slot : Slot stands log (set s.homes 0 (some (Some x))) (set s.views id w)
  slot = inl (x, home_again, stands_now, each_set (λ u. ¬ IsServed u.phase) s.views id w others_unserved (λ is. is))

  tickets_out : (m : ℕ) → total (λ u. times m (tickets u.phase)) (set s.views id w) + below m (length log) ≡ below m k.next
  tickets_out m =
      let f : View N → ℕ = λ u. times m (tickets u.phase) in
      let moved : total f (set s.views id w) + f v ≡ total f s.views + f w = total_set f s.views id v w at in
      let had : f v ≡ (if length k.log == m then 1 else 0) + 0 = ap (times m) has_ticket in
      let all : total f s.views + below m (length k.log) ≡ below m k.next = k.tickets_out m in
      let more : below m (length log) ≡ below m (length k.log) + (if length k.log == m then 1 else 0) = ap (below m) longer ∙ below_next m (length k.log) in
      let r : total f (set s.views id w) + below m (length log) ≡ below m k.next = omega arith in r

  same_total : (f : View N → ℕ) → f v ≡ f w → total f (set s.views id w) ≡ total f s.views
  same_total f same =
      let moved : total f (set s.views id w) + f v ≡ total f s.views + f w = total_set f s.views id v w at in omega arith

  same_drawn : drawn v ≡ drawn w
  same_drawn =
      let a : drawn v ≡ count ((n, v.mine) ∷ v.took) + 1 = ap (λ p. drawn (record v { phase = p })) served in
      let l = length-append v.mine (note ∷ []) in
      omega arith

  fits : (j : ℕ) (u : View N) → get_elem? (set s.views id w) j ≡ some u → Fits log k.given u
  fits =
      let f = k.fits id v at in
      each_set (Fits log k.given) s.views id w
      (λ j u apart e. (let g = k.fits j u e in record {
        seen = prefix_more u.seen k.log ((n, note) ∷ []) g.seen;
        heard = prefix_more u.heard k.log ((n, note) ∷ []) g.heard;
        agrees = agrees_more k.log n note (pairs u) (one_number stands passes s k id j n v u at e (let m = mine_once in omega arith) (λ same. apart (sym same))) g.agrees;
        phased = phased_unserved log u.seen u.phase (others_unserved j u apart e);
        gives = g.gives;
        room = g.room;
        few = g.few;
      }))
      (record {
        seen = subst (λ l. IsPrefix (l ++ (n, note) ∷ []) log) (sym phased.1) (prefix_same log);
        heard = prefix_more v.heard k.log ((n, note) ∷ []) f.heard;
        agrees = (
          notes_by_same k.log n note ∙ ap (λ l. l ++ note ∷ []) (subst (λ ps. Agrees k.log ps) pairs_of_v f.agrees).0,
          agrees_more k.log n note v.took not_took (subst (λ ps. Agrees k.log ps) pairs_of_v f.agrees).1,
        );
        phased = tt;
        gives = f.gives;
        room = (let r : length v.mine + 1 ≤ most = subst (λ p. length v.mine + length (tickets p) ≤ most) served f.room in omega (arith, length-append v.mine (note ∷ [])));
        few = f.few;
      })

  unmade : (m : ℕ) → k.given ≤ m → notes_by m log ≡ []
  unmade m h = (let near = given_number in let apart : n ≢ m = λ e. absurd (omega arith) in notes_by_other k.log m n note apart) ∙ k.unmade m h

  after : Kept stands passes (record { words = set s.words 0 ((slice_index s.words 0 + 1) % 2 ^ 64); homes = set s.homes 0 (some (Some x)); views = set s.views id w })
  after = record {
    log = log;
    next = k.next;
    given = k.given;
    words = words;
    slot = slot;
    tickets_out = tickets_out;
    numbers_given = λ m. same_total (λ u. times m (numbers u)) (ap (λ ps. times m (numbers_of ps)) pairs_of_v) ∙ k.numbers_given m;
    how_many = same_total (λ u. length (numbers u)) (ap (λ ps. length (numbers_of ps)) pairs_of_v) ∙ k.how_many;
    one_gives = same_total (λ u. u.given) refl ∙ k.one_gives;
    tickets_drawn = same_total drawn same_drawn ∙ k.tickets_drawn;
    fits = fits;
    unmade = unmade;
    within = k.within;
  }

pub passes_on : {V N : Type 0} (stands : V → List N → Type 0) (passes slots id t : ℕ) (me : Sat V N) (x : V) (note : N) (made : List N) → me.0.phase ≡ Served t → me.1 ≡ (0, Some x) ∷ [] → made ≡ note ∷ [] → stands x (notes me.0.seen ++ note ∷ [])
    → Allows (Kept stands passes) slots id me 0 (λ m. (m + 1) % 2 ^ 64) (PassesOn made (step slots 0 1 0 none) me)
passes_on {V} {N} stands passes slots id t me x note made served has is left =
    let one : Allows (Kept stands passes) slots id (me.0, (0, Some x) ∷ []) 0 (λ m. (m + 1) % 2 ^ 64) (PassesOn (note ∷ []) (step slots 0 1 0 none) (me.0, (0, Some x) ∷ [])) =
    λ s k long at small. (w stands passes s k id t me.0 at served x note left, gives, tt, after stands passes s k id t me.0 at served x note left, refl) in
    let P : List (ℕ × Optional V) → List N → Type 0 = λ c l. Allows (Kept stands passes) slots id (me.0, c) 0 (λ m. (m + 1) % 2 ^ 64) (PassesOn l (step slots 0 1 0 none) (me.0, c)) in
    subst (λ c. P c made) (sym has) (subst (λ l. P ((0, Some x) ∷ []) l) (sym is) one)
