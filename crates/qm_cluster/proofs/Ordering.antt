-- The order of turns on one thread.
use Rattle.std.proofs.Common.{◌≡◌, ◌≤◌, ℕ, suc, List, [], ◌∷◌, ◌++◌, length, refl, sym, ◌∙◌, ap, subst, arith}
use Rattle.std.specs.List.{AllByRecursion}
use Rattle.qm_history.specs.declared.turn.Turn.{Turn}
use Rattle.qm_history.specs.declared.turn.Why.{Why}
use Rattle.qm_history.specs.declared.turn.Why.TheVariants as why
use Rattle.qm_history.specs.declared.world.World.{World}
use Rattle.qm_history.specs.Common.{after_turn, after_turns, Visit, visits}
use Rattle.qm_history.specs.Order.{AreInOrder, AreOver, MayFollow, Served, served_with}
use Rattle.qm_cluster.specs.Runs.{served_after, so_far}
use Rattle.qm_cluster.specs.Turning.{AreOf, IsOwnWhy}

pub after_append : (before : Served) (a b : List Turn) → served_after before (a ++ b) ≡ served_after (served_after before a) b
after_append before [] b = refl
after_append before (t ∷ a) b = after_append (served_with before t.node t.why) a b

pub order_append : (w : World) (before : Served) (a b : List Turn) → AreInOrder w before a → AreInOrder (after_turns w a) (served_after before a) b → AreInOrder w before (a ++ b)
order_append w before [] b first second = second
order_append w before (t ∷ a) b first second = (first.0, order_append (after_turn w t) (served_with before t.node t.why) a b first.1 second)

-- ---- the turn of a line

pub line_order : (w : World) (n node : ℕ) (rest : List ℕ) (last : ℕ) (turns : List Turn) → length turns ≡ 1 → AreOf node (λ (x : Why). x ≡ why.Line n) turns → AreInOrder w (so_far (n ∷ rest) last) turns
line_order w n node rest last [] one of = tt
line_order w n node rest last (t ∷ []) one of = (subst (λ (x : Why). MayFollow w (so_far (n ∷ rest) last) t.node x) (sym of.0.1) refl, tt)
line_order w n node rest last (t ∷ u ∷ turns) one of = let bad : suc (suc (length turns)) ≡ 1 = one in absurd (omega (arith, bad))

pub line_after : (n node : ℕ) (rest : List ℕ) (last : ℕ) (turns : List Turn) → length turns ≡ 1 → AreOf node (λ (x : Why). x ≡ why.Line n) turns → served_after (so_far (n ∷ rest) last) turns ≡ so_far rest node
line_after n node rest last [] one of = absurd (omega (arith, one))
line_after n node rest last (t ∷ []) one of =
    ap (λ (x : Why). served_with (so_far (n ∷ rest) last) t.node x) of.0.1 ∙ ap (λ (k : ℕ). so_far rest k) of.0.0
line_after n node rest last (t ∷ u ∷ turns) one of = let bad : suc (suc (length turns)) ≡ 1 = one in absurd (omega (arith, bad))

pub line_order_most : (w : World) (n node : ℕ) (rest : List ℕ) (last : ℕ) (turns : List Turn) → length turns ≤ 1 → AreOf node (λ (x : Why). x ≡ why.Line n) turns → AreInOrder w (so_far (n ∷ rest) last) turns
line_order_most w n node rest last [] one of = tt
line_order_most w n node rest last (t ∷ []) one of = (subst (λ (x : Why). MayFollow w (so_far (n ∷ rest) last) t.node x) (sym of.0.1) refl, tt)
line_order_most w n node rest last (t ∷ u ∷ turns) one of = let bad : suc (suc (length turns)) ≤ 1 = one in absurd (omega (arith, bad))

-- ---- the reports behind it

pub report_after : (left : List ℕ) (node : ℕ) (turns : List Turn) → AreOf node (λ (x : Why). x ≡ why.Report) turns → served_after (so_far left node) turns ≡ so_far left node
report_after left node [] of = refl
report_after left node (t ∷ turns) of =
    ap (λ (s : Served). served_after s turns) (ap (λ (x : Why). served_with (so_far left node) t.node x) of.0.1 ∙ ap (λ (k : ℕ). so_far left k) of.0.0) ∙ report_after left node turns of.1

pub report_order : (w : World) (left : List ℕ) (node : ℕ) (turns : List Turn) → AreOf node (λ (x : Why). x ≡ why.Report) turns → AreInOrder w (so_far left node) turns
report_order w left node [] of = tt
report_order w left node (t ∷ turns) of = (
  subst (λ (x : Why). MayFollow w (so_far left node) t.node x) (sym of.0.1) of.0.0,
  subst (λ (s : Served). AreInOrder (after_turn w t) s turns) (sym (ap (λ (x : Why). served_with (so_far left node) t.node x) of.0.1 ∙ ap (λ (k : ℕ). so_far left k) of.0.0))
      (report_order (after_turn w t) left node turns of.1),
)

-- ---- a node's own turns, behind the last line

own_with : (left : List ℕ) (last node : ℕ) (why : Why) → IsOwnWhy why → served_with (so_far left last) node why ≡ so_far left node
own_with left last node (why.Line line) own = absurd own
own_with left last node why.Fetch own = refl
own_with left last node why.Report own = refl
own_with left last node why.Leave own = refl

own_step : (left : List ℕ) (last node : ℕ) (t : Turn) → t.node ≡ node → IsOwnWhy t.why → served_with (so_far left last) t.node t.why ≡ so_far left node
own_step left last node t same own = own_with left last t.node t.why own ∙ ap (λ (k : ℕ). so_far left k) same

pub own_after : (left : List ℕ) (node : ℕ) (turns : List Turn) → AreOf node IsOwnWhy turns → served_after (so_far left node) turns ≡ so_far left node
own_after left node [] of = refl
own_after left node (t ∷ turns) of = ap (λ (s : Served). served_after s turns) (own_step left node node t of.0.0 of.0.1) ∙ own_after left node turns of.1

own_may : (w : World) (node : ℕ) (k : ℕ) (why : Why) → k ≡ node → IsOwnWhy why → AreOver node w.live → MayFollow w (so_far [] node) k why
own_may w node k (why.Line line) same own over = absurd own
own_may w node k why.Fetch same own over = (refl, subst (λ (n : ℕ). AreOver n w.live) (sym same) over)
own_may w node k why.Report same own over = same
own_may w node k why.Leave same own over = same

pub own_order : (w : World) (node : ℕ) (turns : List Turn) → AreOf node IsOwnWhy turns → AllByRecursion (λ (v : Visit). AreOver node v.before.live) (visits w turns) → AreInOrder w (so_far [] node) turns
own_order w node [] of over = tt
own_order w node (t ∷ turns) of over = (
  own_may w node t.node t.why of.0.0 of.0.1 over.0,
  subst (λ (s : Served). AreInOrder (after_turn w t) s turns) (sym (own_step [] node node t of.0.0 of.0.1)) (own_order (after_turn w t) node turns of.1 over.1),
)

-- the first of them is a fetch, whoever's turn was the last one
pub fetch_order : (w : World) (node last : ℕ) (turns : List Turn) → length turns ≡ 1 → AreOf node (λ (x : Why). x ≡ why.Fetch) turns → AreOver node w.live → AreInOrder w (so_far [] last) turns
fetch_order w node last [] one of over = tt
fetch_order w node last (t ∷ []) one of over =
    (subst (λ (x : Why). MayFollow w (so_far [] last) t.node x) (sym of.0.1) (refl, subst (λ (n : ℕ). AreOver n w.live) (sym of.0.0) over), tt)
fetch_order w node last (t ∷ u ∷ turns) one of over = let bad : suc (suc (length turns)) ≡ 1 = one in absurd (omega (arith, bad))

pub fetch_order_most : (w : World) (node last : ℕ) (turns : List Turn) → length turns ≤ 1 → AreOf node (λ (x : Why). x ≡ why.Fetch) turns → AreOver node w.live → AreInOrder w (so_far [] last) turns
fetch_order_most w node last [] one of over = tt
fetch_order_most w node last (t ∷ []) one of over =
    (subst (λ (x : Why). MayFollow w (so_far [] last) t.node x) (sym of.0.1) (refl, subst (λ (n : ℕ). AreOver n w.live) (sym of.0.0) over), tt)
fetch_order_most w node last (t ∷ u ∷ turns) one of over = let bad : suc (suc (length turns)) ≤ 1 = one in absurd (omega (arith, bad))

pub fetch_after : (left : List ℕ) (node last : ℕ) (turns : List Turn) → length turns ≡ 1 → AreOf node (λ (x : Why). x ≡ why.Fetch) turns → served_after (so_far left last) turns ≡ so_far left node
fetch_after left node last [] one of = absurd (omega (arith, one))
fetch_after left node last (t ∷ []) one of = ap (λ (x : Why). served_with (so_far left last) t.node x) of.0.1 ∙ ap (λ (k : ℕ). so_far left k) of.0.0
fetch_after left node last (t ∷ u ∷ turns) one of = let bad : suc (suc (length turns)) ≡ 1 = one in absurd (omega (arith, bad))

-- a fetch, and the turns that follow it
pub fetch_own_order : (w : World) (node last : ℕ) (a b : List Turn) → length a ≡ 1 → AreOf node (λ (x : Why). x ≡ why.Fetch) a → AreOf node IsOwnWhy b
    → AllByRecursion (λ (v : Visit). AreOver node v.before.live) (visits w (a ++ b)) → AreInOrder w (so_far [] last) (a ++ b)
fetch_own_order w node last [] b one first second over = absurd (omega (arith, one))
fetch_own_order w node last (t ∷ []) b one first second over = (
  subst (λ (x : Why). MayFollow w (so_far [] last) t.node x) (sym first.0.1) (refl, subst (λ (n : ℕ). AreOver n w.live) (sym first.0.0) over.0),
  subst (λ (s : Served). AreInOrder (after_turn w t) s b) (sym (ap (λ (x : Why). served_with (so_far [] last) t.node x) first.0.1 ∙ ap (λ (k : ℕ). so_far [] k) first.0.0))
      (own_order (after_turn w t) node b second over.1),
)
fetch_own_order w node last (t ∷ u ∷ a) b one first second over = let bad : suc (suc (length a)) ≡ 1 = one in absurd (omega (arith, bad))
