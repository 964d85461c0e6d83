-- From the joined passes to the one history.
use Rattle.std.proofs.Common.{◌≡◌, ℕ, ◌≤◌, List, [], ◌∷◌, ◌++◌, length, map, refl, sym, ◌∙◌, ap, subst, arith, flat_map}
use Rattle.std.specs.List.{AllByRecursion, range_with_len}
use mathlib.Core.List.{IsPrefix}
use Rattle.qm_turn.specs.History.{Agrees, numbers_of, times}
use Rattle.qm_turn.specs.Turns.{Closed, IsLast, Known, own}
use Rattle.qm_turn.proofs.Gathering.{all_there}
use Rattle.qm_cluster.specs.declared.noted.Noted.{Noted}
use Rattle.qm_cluster.specs.Passes.{TakesIn}
use Rattle.qm_cluster.proofs.Joins.{has_all, has_seen, have_seen, through}
use Rattle.qm_cluster.specs.Gathered.{AreGathered, pair_of}
use Rattle.qm_cluster.proofs.Places.{mapped}

-- a pass that took none in knows its own turns alone
own_alone : (pass : Known Noted) → pass.took ≡ [] → own pass ≡ pair_of pass ∷ []
own_alone pass none = ap (λ (l : List (ℕ × List Noted)). pair_of pass ∷ l) none

own_pairs : (others : List (Known Noted)) → AllByRecursion (λ (p : Known Noted). p.took ≡ []) others → flat_map own others ≡ map pair_of others
own_pairs [] none = refl
own_pairs (pass ∷ others) none =
    ap (λ (l : List (ℕ × List Noted)). l ++ flat_map own others) (own_alone pass none.0) ∙ ap (λ (l : List (ℕ × List Noted)). pair_of pass ∷ l) (own_pairs others none.1)

seen_through : (others : List (Known Noted)) (seen log : List (ℕ × Noted)) → IsPrefix seen log → AllByRecursion (λ (p : Known Noted). IsPrefix p.seen seen) others
    → AllByRecursion (λ (p : Known Noted). IsPrefix p.seen log) others
seen_through [] seen log begins all = tt
seen_through (pass ∷ others) seen log begins all = (through pass.seen seen log all.0 begins, seen_through others seen log begins all.1)

module _ (first last : Known Noted) (others : List (Known Noted)) (takes : TakesIn first others last) (none : first.took ≡ []) (nones : AllByRecursion (λ (p : Known Noted). p.took ≡ []) others) where
  pub pairs_known : own last ≡ map pair_of (first ∷ others)
  pairs_known =
      has_all others first last takes ∙ ap (λ (l : List (ℕ × List Noted)). l ++ flat_map own others) (own_alone first none)
      ∙ ap (λ (l : List (ℕ × List Noted)). pair_of first ∷ l) (own_pairs others nones)

  pub is_last : (passes : ℕ) → map (λ (p : Known Noted). p.number) (first ∷ others) ≡ range_with_len 0 passes → IsLast passes last
  is_last passes numbers number low =
      subst (λ (ps : List (ℕ × List Noted)). 1 ≤ times number (numbers_of ps)) (sym pairs_known)
      (subst (λ (ns : List ℕ). 1 ≤ times number ns) (sym (mapped (λ (pair : ℕ × List Noted). pair.0) pair_of (first ∷ others)))
      (all_there (map (λ (p : Known Noted). p.number) (first ∷ others)) passes numbers number low))

  pub gathered : {V : Type 0} (stands : V → List Noted → Type 0) (passes : ℕ) (value : V) → passes ≤ length (first ∷ others) → Closed stands passes last value
      → AreGathered stands (first ∷ others) value
  gathered stands passes value few closed =
      record {
        log = closed.log;
        value_stands = closed.value_stands;
        seen = (through first.seen last.seen closed.log (has_seen others first last takes) closed.seen, seen_through others last.seen closed.log closed.seen (have_seen others first last takes));
        agrees = subst (Agrees closed.log) pairs_known closed.agrees;
        no_others = λ number high. closed.no_others number (let enough : passes ≤ number = omega arith in enough);
      }
