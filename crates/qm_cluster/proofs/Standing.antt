-- A shared queue manager stands for one note more behind each call.
use Rattle.std.proofs.Common.{◌≡◌, ℕ, List, [], ◌∷◌, ◌++◌, map, refl, sym, ap, ◌∙◌, subst, Bool, Option, None, Some, arith, IsTrue, option_to_list}
use Rattle.std.proofs.lemmas.List.{append-nil, map-append}
use Rattle.std.proofs.lemmas.List.Elements.{filter_map-append}
use Rattle.qm_history.specs.declared.call.Answer.{Answer}
use Rattle.qm_history.specs.declared.call.Call.{Call}
use Rattle.qm_history.specs.declared.turn.Turn.{Turn}
use Rattle.qm_history.specs.declared.world.World.{World}
use Rattle.qm_history.specs.Chest.{Note, turns_noted}
use Rattle.qm_history.specs.Common.{IsLegal, IsLegalTurn, after_turn, after_turns, IsAnswered}
use Rattle.qm_history.proofs.AnswerLemmas.{answers_legal}
use Rattle.qm_cluster.specs.declared.noted.Noted.{Noted}
use Rattle.qm_cluster.specs.CallServing.{LeavesOne, noted, turn_left}
use Rattle.qm_cluster.specs.Sharing.{StandsFor, note_of, note_view, turns_of}

pub legal_behind : (w : World) (turns : List Turn) (t : Turn) → IsLegal w turns → IsLegalTurn (after_turns w turns) t → IsLegal w (turns ++ t ∷ [])
legal_behind w [] t h next = (next, tt)
legal_behind w (first ∷ turns) t h next = (h.0, legal_behind (after_turn w first) turns t h.1 next)

one_noted : (n : Noted) (turn : Option Turn) → n.turn ≡ turn → turns_noted (note_view n ∷ []) ≡ option_to_list turn
one_noted n None is = grind (arith, is)
one_noted n (Some t) is = grind (arith, is)

pub turns_of_append : (notes : List Noted) (n : Noted) → turns_of (notes ++ n ∷ []) ≡ turns_of notes ++ option_to_list n.turn
turns_of_append notes n =
    ap turns_noted (map-append note_view notes (n ∷ [])) ∙ filter_map-append (λ (m : Note). m.turn) (map note_view notes) (note_view n ∷ [])
    ∙ ap (λ l. turns_of notes ++ l) (one_noted n n.turn refl)

legal_with : (w : World) (turns : List Turn) (asked : Call) (turn : Option Turn) (told : Answer) → IsLegal w turns → IsAnswered (after_turns w turns) asked turn told
    → IsLegal w (turns ++ option_to_list turn)
legal_with w turns asked None told legal may = subst (IsLegal w) (sym (append-nil turns)) legal
legal_with w turns asked (Some t) told legal may = legal_behind w turns t legal (answers_legal (after_turns w turns) asked t told may)

module _ {S : Type 0} (tells : Bool) (may_begin : World → Type 0) (kept : S → List Turn) (stands : S → List Note → Type 0) (most node now : ℕ) (asked : Call) (old new : S) (told : Answer)
    (one : LeavesOne most node now asked (kept old) (kept new) told)
    (may : IsTrue tells → (w : World) → may_begin w → IsAnswered (after_turns w (kept old)) asked (turn_left (kept old) (kept new)) told)
    (still : (notes : List Note) → stands old notes → stands new (notes ++ noted asked (kept old) (kept new) told ∷ []))
  where
    pub stands_on : (notes : List Noted) → StandsFor tells may_begin kept stands old notes → StandsFor tells may_begin kept stands new (notes ++ note_of asked (kept old) (kept new) told ∷ [])
    stands_on notes h =
        let note : Noted = note_of asked (kept old) (kept new) told in
        let turns : turns_of (notes ++ note ∷ []) ≡ turns_of notes ++ option_to_list note.turn = turns_of_append notes note in record {
          turns = one.turns ∙ ap (λ l. l ++ option_to_list note.turn) h.turns ∙ sym turns;
          legal =
              λ sure w begins. subst (IsLegal w) (sym turns)
              (legal_with w (turns_of notes) asked note.turn told (h.legal sure w begins) (subst (λ l. IsAnswered (after_turns w l) asked note.turn told) h.turns (may sure w begins)));
          itself =
              subst (λ l. stands new l) (sym (map-append note_view notes (note ∷ []))) (still (map note_view notes) h.itself);
        }
