-- A call that is served leaves one turn more, or none, and the queue manager stands for one note more.
use Rattle.std.proofs.Common.{◌≡◌, ℕ, List, [], ◌∷◌, ◌++◌, refl, sym, ◌∙◌, ap, subst, Option, None, Some, IsTrue, map, option_to_list}
use Rattle.qm_history.specs.declared.call.Answer.{Answer}
use Rattle.qm_history.specs.declared.call.Call.{Call}
use Rattle.qm_history.specs.declared.turn.Turn.{Turn}
use Rattle.qm_history.specs.declared.world.World.{World}
use Rattle.qm_history.specs.Chest.{IsMadeFor, LeavesTurn as LeavesOfKept, Note, is_unread, turns_kept}
use Rattle.qm_history.specs.Legal.{after_turn, after_turns}
use Rattle.qm_history.specs.Serving.{IsAnswered, Meaning, Serves, behind}
use Rattle.qm_cluster.specs.CallServing.{LeavesOne, LeavesTurn, noted, turn_left}
use Rattle.qm_cluster.specs.declared.noted.Noted.{Noted}
use Rattle.qm_cluster.specs.Sharing.{AreAsked, Asks, HasStood, MayBegin, StandsFor, note_of, note_view}
use Rattle.qm_cluster.proofs.Standing.{stands_on}

left_is : (turns : List Turn) (turn : Option Turn) → turn_left turns (turns ++ option_to_list turn) ≡ turn
left_is [] None = refl
left_is [] (Some t) = refl
left_is (first ∷ turns) turn = left_is turns turn

leaves_kept : (turns : List Turn) (turn : Option Turn) (told : Answer) → LeavesOfKept turns turn told → LeavesTurn turns_kept turns turn told
leaves_kept turns None told h = h
leaves_kept turns (Some t) told h = h

after_one : (w : World) (turns : List Turn) (turn : Option Turn) → after_turns w (turns ++ option_to_list turn) ≡ behind (after_turns w turns) turn
after_one w [] None = refl
after_one w [] (Some t) = refl
after_one w (first ∷ turns) turn = after_one (after_turn w first) turns turn

module _ {S : Type 0} (m : Meaning S) where
  -- behind calls it stands for the world behind their turns
  stands_along : (w : World) (notes : List Note) (old new : S) → m.stands (after_turns w (m.turns old)) old → AreAsked m old notes new → m.stands (after_turns w (m.turns new)) new
  stands_along w [] old new here is = subst (λ (x : S). m.stands (after_turns w (m.turns x)) x) (sym is) here
  stands_along w (n ∷ notes) old new here (node, now, told, next, s, turn, unread, rest) =
      stands_along w notes next new
      (subst (λ (v : World). m.stands v next) (sym (ap (after_turns w) s.turns ∙ after_one w (m.turns old) s.turn)) (s.at (after_turns w (m.turns old)) here).stands) rest

  -- one call more behind those that were served
  module _ (mid new : S) (n : Note) (node now : ℕ) (told : Answer) (s : Serves m node now n.asked mid new told) (turn : s.turn ≡ n.turn) (unread : n.unread ≡ is_unread n.turn told) where
    asked_more : (notes : List Note) (old : S) → AreAsked m old notes mid → AreAsked m old (notes ++ n ∷ []) new
    asked_more [] old is = subst (λ (x : S). AreAsked m x (n ∷ []) new) is (node, now, told, new, s, turn, unread, refl)
    asked_more (k ∷ notes) old (maker, reading, answer, next, serves, left, hidden, rest) = (maker, reading, answer, next, serves, left, hidden, asked_more notes next rest)

  module _ (node now : ℕ) (asked : Call) (old new : S) (told : Answer) (s : Serves m node now asked old new told) where
    left : turn_left (m.turns old) (m.turns new) ≡ s.turn
    left = ap (turn_left (m.turns old)) s.turns ∙ left_is (m.turns old) s.turn

    pub leaves_one : LeavesOne turns_kept node now asked (m.turns old) (m.turns new) told
    leaves_one = record {
      turns = subst (λ (o : Option Turn). m.turns new ≡ m.turns old ++ option_to_list o) (sym left) s.turns;
      few = s.few;
      made = subst (λ (o : Option Turn). IsMadeFor node now asked o) (sym left) s.made;
      leaves = subst (λ (o : Option Turn). LeavesTurn turns_kept (m.turns old) o told) (sym left) (leaves_kept (m.turns old) s.turn told s.leaves);
    }

    module _ (began : List S) (notes : List Note) (h : HasStood m began old notes) where
      at_world : (w : World) → MayBegin m began w → m.stands (after_turns w (m.turns old)) old
      at_world w may =
          stands_along w notes h.first old
          (subst (λ (turns : List Turn). m.stands (after_turns w turns) h.first) (sym h.none) (subst (λ (firsts : List S). MayBegin m firsts w) h.first_is may).0) h.calls

      pub is_answered : (w : World) → MayBegin m began w → IsAnswered (after_turns w (m.turns old)) asked (turn_left (m.turns old) (m.turns new)) told
      is_answered w may = subst (λ (o : Option Turn). IsAnswered (after_turns w (m.turns old)) asked o told) (sym left) (s.at (after_turns w (m.turns old)) (at_world w may)).answers

      pub stood_on : HasStood m began new (notes ++ noted asked (m.turns old) (m.turns new) told ∷ [])
      stood_on =
          let note : Option Turn → Note = λ (o : Option Turn). record { asked = asked; turn = o; unread = is_unread o told } in
          subst (λ (o : Option Turn). HasStood m began new (notes ++ record { asked = asked; turn = o; unread = is_unread o told } ∷ [])) (sym left)
          (record {
            first = h.first;
            first_is = h.first_is;
            none = h.none;
            serves = s.serves;
            nodes = s.nodes ∙ h.nodes;
            few = s.few;
            calls = asked_more old new (note s.turn) node now told s refl refl notes h.first h.calls;
          })

  -- ---- the same, as the nodes share it

  module _ (node now : ℕ) (asked : Call) (old new : S) (told : Answer) (s : Serves m node now asked old new told) (began : List S) (notes : List Noted)
      (h : StandsFor m.tells (MayBegin m began) m.turns (HasStood m began) old notes)
    where
      may : IsTrue m.tells → (w : World) → MayBegin m began w → IsAnswered (after_turns w (m.turns old)) asked (turn_left (m.turns old) (m.turns new)) told
      may sure w begins = is_answered node now asked old new told s began (map note_view notes) h.itself w begins

      pub asks_it : Asks m.tells (MayBegin m began) turns_kept (record { node = node; now = now; call = asked }) (m.turns old) (m.turns new) told
      asks_it = record { one = leaves_one node now asked old new told s; answered = may; undamaged = s.undamaged; duties = s.duties }

      pub stood_for : StandsFor m.tells (MayBegin m began) m.turns (HasStood m began) new (notes ++ note_of asked (m.turns old) (m.turns new) told ∷ [])
      stood_for =
          stands_on m.tells (MayBegin m began) m.turns (HasStood m began) turns_kept node now asked old new told (leaves_one node now asked old new told s) may
          (λ ns stood. stood_on node now asked old new told s began ns stood) notes h
