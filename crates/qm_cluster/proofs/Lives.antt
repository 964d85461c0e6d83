-- Whether a node is live stays in the turns of other nodes.
use Rattle.std.proofs.Common.{◌≡◌, ℕ, inl, inr, List, [], ◌∷◌, ◌++◌, refl, sym, ◌∙◌, ap, subst, Option, None, Some, IfSome, option_to_list}
use Rattle.qm_history.specs.declared.turn.Turn.{Turn}
use Rattle.qm_history.specs.declared.world.World.{World}
use Rattle.qm_history.specs.Common.{IsLegal, IsLegalTurn, after_turn, after_turns, IsSound, is_live}
use Rattle.qm_node.proofs.Lives.{others_whole, others_cut}
use Rattle.qm_turn.specs.History.{notes_by}
use Rattle.qm_cluster.specs.declared.noted.Noted.{Noted}
use Rattle.qm_cluster.specs.Passes.{turns_in, AreOwn}
use Rattle.qm_cluster.proofs.Owning.{none_by, turns_from}

pub legal_front : (w : World) (a b : List Turn) → IsLegal w (a ++ b) → IsLegal w a
legal_front w [] b h = tt
legal_front w (t ∷ a) b h = (h.0, legal_front (after_turn w t) a b h.1)

pub legal_back : (w : World) (a b : List Turn) → IsLegal w (a ++ b) → IsLegal (after_turns w a) b
legal_back w [] b h = h
legal_back w (t ∷ a) b h = legal_back (after_turn w t) a b h.1

pub after_both : (w : World) (a b : List Turn) → after_turns w (a ++ b) ≡ after_turns (after_turns w a) b
after_both w [] b = refl
after_both w (t ∷ a) b = after_both (after_turn w t) a b

module _ (node : ℕ) (sound_on : (w : World) (turns : List Turn) → IsSound w → IsLegal w turns → IsSound (after_turns w turns)) where
  stays : (w : World) (t : Turn) → IsSound w → IsLegalTurn w t → (t.node ≡ node → ⊥) → is_live (after_turn w t) node ≡ is_live w node
  stays w t sound (asked, inl whole) other = others_whole w asked t node sound (λ same. other (sym same)) whole
  stays w t sound (asked, inr cut) other = others_cut w asked t node (λ same. other (sym same)) cut

  module _ (e : ℕ × Noted) (log : List (ℕ × Noted)) (w : World) (sound : IsSound w)
      (rest : (v : World) → IsSound v → IsLegal v (turns_in log) → is_live (after_turns v (turns_in log)) node ≡ is_live v node) (other : e.0 ≡ node → ⊥)
    where
      stays_one : (turn : Option Turn) → e.1.turn ≡ turn → IfSome turn (λ t. t.node ≡ node → e.0 ≡ node) → IsLegal w (turns_in (e ∷ log))
          → is_live (after_turns w (turns_in (e ∷ log))) node ≡ is_live w node
      stays_one None is own legal =
          let same : turns_in (e ∷ log) ≡ turns_in log = turns_from e log ∙ ap (λ o. option_to_list o ++ turns_in log) is in
          ap (λ ts. is_live (after_turns w ts) node) same ∙ rest w sound (subst (IsLegal w) same legal)
      stays_one (Some t) is own legal =
          let same : turns_in (e ∷ log) ≡ t ∷ turns_in log = turns_from e log ∙ ap (λ o. option_to_list o ++ turns_in log) is in
          let both : IsLegal w (t ∷ turns_in log) = subst (IsLegal w) same legal in
          ap (λ ts. is_live (after_turns w ts) node) same
          ∙ rest (after_turn w t) (sound_on w (t ∷ []) sound (both.0, tt)) both.1
          ∙ stays w t sound both.0 (λ at. other (own at))

  pub lives_on : (log : List (ℕ × Noted)) (w : World) → AreOwn node log → notes_by node log ≡ [] → IsSound w → IsLegal w (turns_in log)
      → is_live (after_turns w (turns_in log)) node ≡ is_live w node
  lives_on [] w own none sound legal = refl
  lives_on (e ∷ log) w own none sound legal =
      stays_one e log w sound (λ v there. lives_on log v own.1 (none_by node e log none).1 there) (none_by node e log none).0 e.1.turn refl own.0 legal
