-- From what the steps told to what the calls promise.
use Rattle.std.proofs.Common.{◌≡◌, ℕ, ◌+◌, List, [], ◌∷◌, ◌++◌, refl, sym, ap, ◌∙◌, subst}
use mathlib.Core.List.{IsPrefix}
use Rattle.atomic_table.specs.Seated.{TableId}
use Rattle.qm_turn.specs.declared.view.View.{View}
use Rattle.qm_turn.specs.declared.view.Phase.TheVariants.{Rests}
use Rattle.qm_turn.specs.History.{notes, Agrees, numbers_of, times}
use Rattle.qm_turn.specs.Turns.{Known, own, Turned, Joined}
use Rattle.qm_turn.specs.Rule.{pairs, unless_spent, after_turn, Sat, Ran, known}
use Rattle.qm_turn.proofs.Histories.{notes-append, notes_by_same, numbers_of-append}
use Rattle.qm_turn.proofs.Counts.{times-append}

module _ {V N A : Type 0} (stands : V → List N → Type 0) (does : V → V → A → Type 0) (note : V → V → A → N) (answer : A) (place : TableId) (before : View N) (rests : before.phase ≡ Rests) where
  turned_here : (log : List (ℕ × N)) (found left : V) → IsPrefix before.seen log → Agrees log (pairs before) → stands found (notes log) → does found left answer → stands left (notes log ++ note found left answer ∷ [])
      → Turned stands does note answer (known place before) (known place (after_turn (record before { seen = log }) (note found left answer ∷ [])))
  turned_here log found left seen agrees stood worked left_stands =
      let own : Agrees log ((before.number, before.mine) ∷ before.took) = subst (λ p. Agrees log (unless_spent p ((before.number, before.mine) ∷ before.took))) rests agrees in record {
        between = seen.0;
        found = found;
        left = left;
        found_stands = subst (λ l. stands found (notes l)) (sym seen.1) stood;
        worked = worked;
        left_stands = subst (stands left) (sym (notes-append log ((before.number, note found left answer) ∷ []))) left_stands;
        seen = ap (λ l. l ++ (before.number, note found left answer) ∷ []) (sym seen.1);
        mine = refl;
        all_mine = notes_by_same log before.number (note found left answer) ∙ ap (λ l. l ++ note found left answer ∷ []) own.0;
        number = refl;
        took = refl;
        place = refl;
      }

  pub turned : (after : Sat V N) → Ran stands does note answer before after → Turned stands does note answer (known place before) (known place after.0)
  turned after r = subst (λ (m : Sat V N). Turned stands does note answer (known place before) (known place m.0)) (sym r.now) (turned_here r.log r.found r.left r.seen r.agrees r.found_stands r.worked r.left_stands)

pub turned_as : {V N A : Type 0} (stands : V → List N → Type 0) (does : V → V → A → Type 0) (note : V → V → A → N) (answer : A) (place place' : TableId) (before : View N) (after : Sat V N) (old new : Known N) → before.phase ≡ Rests → place' ≡ place → known place before ≡ old → known place' after.0 ≡ new
    → Ran stands does note answer before after → Turned stands does note answer old new
turned_as stands does note answer place place' before after old new rests same was is r =
    subst (λ o. Turned stands does note answer o new) was (subst (λ n. Turned stands does note answer (known place before) n) (ap (λ p. known p after.0) (sym same) ∙ is) (turned stands does note answer place before rests after r))

-- after a join the pass has the numbers of both
pub joined_numbers : {N : Type 0} (before other after : Known N) (n : ℕ) → Joined before other after → times n (numbers_of (own after)) ≡ times n (numbers_of (own before)) + times n (numbers_of (own other))
joined_numbers before other after n j =
    let pairs : own after ≡ own before ++ own other = λ i. (j.number i, j.mine i) ∷ j.took i in
    ap (λ ps. times n (numbers_of ps)) pairs ∙ ap (times n) (numbers_of-append (own before) (own other)) ∙ times-append n (numbers_of (own before)) (numbers_of (own other))
