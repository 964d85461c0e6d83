-- Programs that begin behind a crash.
use Rattle.std.proofs.Common.{◌≡◌, ◌⊎◌, inl, inr, ℕ, true, List, [], ◌∷◌, ◌++◌, map, refl, sym, ◌∙◌, ap, subst, Some, Ok, Contains, option_to_list, append-nil}
use Rattle.qm_history.specs.Common.{Record, Request, System, applied, Accepted, after_turn, after_turns, IsLegalTurn, IsLegal, IsAccepted, first_world, after_events, IsSound}
use Rattle.qm_history.specs.declared.event.Event.{Event}
use Rattle.qm_history.specs.declared.turn.Turn.{Turn}
use Rattle.qm_history.specs.declared.world.World.{World}
use Rattle.qm_history.specs.Happening.{events_of, Begins, acknowledged, told_of_doubt}
use Rattle.qm_history.specs.Leaving.{MayBeLeft, MayBeLeftBehind, MayBeLeftIn, IsLeftWithin}
use Rattle.qm_history.proofs.CrashLemmas.{left_accepted, left_holds, behind_accepted}
use Rattle.qm_history.proofs.EventLemmas.{acknowledged_in, kept_in, stays_in, world_of_events, begins_on, events_begin}
use Rattle.qm_history.proofs.SoundLemmas.{history_sound}
use Rattle.qm_history.proofs.StartLemmas.{first_sound}

legal_parts : (w : World) (before : List Turn) (t : Turn) → IsLegal w (before ++ t ∷ []) → IsLegal w before × IsLegalTurn (after_turns w before) t
legal_parts w [] t legal = (tt, legal.0)
legal_parts w (x ∷ before) t legal = let parts = legal_parts (after_turn w x) before t legal.1 in ((legal.0, parts.0), parts.1)

module _ (names : (s : System) (now node : ℕ) (asked : Request) (a : Accepted) → applied s now node asked ≡ Ok a → map (λ n. n.name) a.system.nodes ≡ map (λ n. n.name) s.nodes) where
  pub goes_on : (w : World) (before : List Turn) (t : Turn) (log : List Record) (epoch : ℕ) → IsSound w → IsLegal w (before ++ t ∷ []) → MayBeLeft (after_turns w before) t log
      → IsSound (first_world log epoch)
  goes_on w before t log epoch sound legal left =
      let parts = legal_parts w before t legal in
      first_sound log epoch
      (left_accepted names (after_turns w before) t log (history_sound names w before sound parts.0) parts.1 left)

-- what is in the log behind events is in what a crash leaves of a later turn
in_left : (w : World) (before : List Turn) (t : Turn) (log : List Record) (events : List Event) (r : Record) → MayBeLeft (after_turns w before) t log → events_of before ≡ events
    → Contains (after_events w events).log r → Contains log r
in_left w before t log events r left same found =
    stays_in (after_turns w before).log log r (left_holds (after_turns w before) t log left)
    (subst (λ (v : World). Contains v.log r) (sym (world_of_events w before ∙ ap (after_events w) same)) found)

pub acknowledged_left : (w : World) (before : List Turn) (t : Turn) (log : List Record) (some : List Event) (e : Event) (others : List Event) (r : Record) → MayBeLeft (after_turns w before) t log
    → events_of before ≡ some ++ e ∷ others → acknowledged e ≡ Some r → Contains log r
acknowledged_left w before t log some e others r left same is = in_left w before t log (some ++ e ∷ others) r left same (acknowledged_in w some e others r is)

pub kept_left : (w : World) (before : List Turn) (t : Turn) (log : List Record) (some : List Event) (e : Event) (others : List Event) (r : Record) → MayBeLeft (after_turns w before) t log
    → events_of before ≡ some ++ e ∷ others → (after_events w some).doubt ≡ Some r → told_of_doubt e ≡ Some true → Contains log r
kept_left w before t log some e others r left same doubt is = in_left w before t log (some ++ e ∷ others) r left same (kept_in w some e others r doubt is)

-- ---- crashes over a whole history

behind_holds : (w : World) (log : List Record) → MayBeLeftBehind w log → Begins w.log log
behind_holds w log (inl same) = ([], same ∙ sym (append-nil w.log))
behind_holds w log (inr same) = (option_to_list w.doubt, same)

pub in_holds : (w : World) (turns : List Turn) (log : List Record) → MayBeLeftIn w turns log → Begins w.log log
in_holds w [] log left = behind_holds w log left
in_holds w (t ∷ turns) log (inl left) = left_holds w t log left
in_holds w (t ∷ turns) log (inr left) =
    begins_on w.log (after_turn w t).log log (events_begin w t.events) (in_holds (after_turn w t) turns log left)

one_turn_more : (w : World) (t : Turn) (turns : List Turn) (log : List Record) → IsLeftWithin (after_turn w t) turns log ⊎ MayBeLeftBehind (after_turns (after_turn w t) turns) log
    → IsLeftWithin w (t ∷ turns) log ⊎ MayBeLeftBehind (after_turns w (t ∷ turns)) log
one_turn_more w t turns log (inl h) =
    inl (record { before = t ∷ h.before; turn = h.turn; behind = h.behind; turns_are = ap (λ x. t ∷ x) h.turns_are; left = h.left })
one_turn_more w t turns log (inr h) = inr h

pub in_moment : (w : World) (turns : List Turn) (log : List Record) → MayBeLeftIn w turns log → IsLeftWithin w turns log ⊎ MayBeLeftBehind (after_turns w turns) log
in_moment w [] log left = inr left
in_moment w (t ∷ turns) log (inl left) = inl (record { before = []; turn = t; behind = turns; turns_are = refl; left = left })
in_moment w (t ∷ turns) log (inr left) = one_turn_more w t turns log (in_moment (after_turn w t) turns log left)

pub behind_in : (w : World) (turns : List Turn) (log : List Record) → MayBeLeftBehind (after_turns w turns) log → MayBeLeftIn w turns log
behind_in w [] log left = left
behind_in w (t ∷ turns) log left = inr (behind_in (after_turn w t) turns log left)

module _ (names : (s : System) (now node : ℕ) (asked : Request) (a : Accepted) → applied s now node asked ≡ Ok a → map (λ n. n.name) a.system.nodes ≡ map (λ n. n.name) s.nodes) where
  pub in_accepted : (w : World) (turns : List Turn) (log : List Record) → IsSound w → IsLegal w turns → MayBeLeftIn w turns log → IsAccepted log
  in_accepted w [] log sound legal left = behind_accepted names w log sound left
  in_accepted w (t ∷ turns) log sound legal (inl left) = left_accepted names w t log sound legal.0 left
  in_accepted w (t ∷ turns) log sound legal (inr left) =
      in_accepted (after_turn w t) turns log (history_sound names w (t ∷ []) sound (legal.0, tt)) legal.1 left
