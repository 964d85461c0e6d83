-- What a pass knows that took others in.
use Rattle.std.proofs.Common.{◌≡◌, ℕ, List, [], ◌∷◌, ◌++◌, refl, sym, ap, ◌∙◌, subst, append_assoc, flat_map, append-nil}
use Rattle.std.specs.List.{AllByRecursion}
use mathlib.Core.List.{IsPrefix}
use Rattle.qm_turn.specs.Turns.{Known, Joined, own}
use Rattle.qm_cluster.specs.declared.noted.Noted.{Noted}
use Rattle.qm_cluster.specs.Passes.{TakesIn}

same : (xs : List (ℕ × Noted)) → IsPrefix xs xs
same xs = ([], append-nil xs)

-- a beginning of a beginning is one
pub through : (xs ys zs : List (ℕ × Noted)) → IsPrefix xs ys → IsPrefix ys zs → IsPrefix xs zs
through xs ys zs a b = (a.0 ++ b.0, sym (append_assoc xs a.0 b.0) ∙ ap (λ l. l ++ b.0) a.1 ∙ b.1)

pub has_seen : (others : List (Known Noted)) (before after : Known Noted) → TakesIn before others after → IsPrefix before.seen after.seen
has_seen [] before after h = subst (λ p. IsPrefix before.seen p.seen) (sym h) (same before.seen)
has_seen (other ∷ others) before after h = through before.seen h.0.seen after.seen h.1.longer (has_seen others h.0 after h.2)

pub have_seen : (others : List (Known Noted)) (before after : Known Noted) → TakesIn before others after → AllByRecursion (λ (other : Known Noted). IsPrefix other.seen after.seen) others
have_seen [] before after h = tt
have_seen (other ∷ others) before after h = (through other.seen h.0.seen after.seen h.1.longer_too (has_seen others h.0 after h.2), have_seen others h.0 after h.2)

own_joined : (before other after : Known Noted) → Joined before other after → own after ≡ own before ++ own other
own_joined before other after j = λ i. (j.number i, j.mine i) ∷ j.took i

pub has_all : (others : List (Known Noted)) (before after : Known Noted) → TakesIn before others after → own after ≡ own before ++ flat_map own others
has_all [] before after h = ap own h ∙ sym (append-nil (own before))
has_all (other ∷ others) before after h =
    has_all others h.0 after h.2 ∙ ap (λ l. l ++ flat_map own others) (own_joined before other h.0 h.1) ∙ append_assoc (own before) (own other) (flat_map own others)

pub one_more : (others : List (Known Noted)) (before other between after : Known Noted) → TakesIn before others between → Joined between other after → TakesIn before (others ++ other ∷ []) after
one_more [] before other between after h j = (after, subst (λ p. Joined p other after) h j, refl)
one_more (first ∷ others) before other between after h j = (h.0, h.1, one_more others h.0 other between after h.2 j)
