-- What an answer says of the turn of its call.
use Rattle.std.proofs.Common.{◌≡◌, ◌⊎◌, ℕ, ◌≤◌, ◌==◌, cond, inl, inr, Bool, true, false, ◌&&◌, List, [], ◌∷◌, ◌++◌, length, refl, sym, ◌∙◌, ap, subst, arith, Option, None, Some, Err, IfSome, option_to_list, length-append}
use Rattle.std.specs.List.{AllByRecursion}
use Rattle.qm_history.specs.declared.call.Answer.{Answer}
use Rattle.qm_history.specs.declared.call.Answer.TheVariants as answer
use Rattle.qm_history.specs.declared.call.Call.{Call}
use Rattle.qm_history.specs.declared.turn.Turn.{Turn}
use Rattle.qm_history.specs.declared.world.World.{World}
use Rattle.qm_history.specs.Common.{MayAnswer, answer_of, why_of, TurnsSpent, tells_disk_fault, IsCutShort, IsTurnOf}
use Rattle.qm_history.specs.Chest.{IsMadeFor, hides_events, is_unread}
use Rattle.qm_turn.specs.History.{notes_by}
use Rattle.qm_node.specs.declared.turn.TurnEnd.{TurnEnd}
use Rattle.qm_node.specs.declared.turn.TurnEnd.TheVariants as end
use Rattle.qm_cluster.specs.declared.noted.Noted.{Noted}
use Rattle.qm_cluster.specs.Driving.{IsHeard, IsLastOf, node_end}
use Rattle.qm_cluster.specs.Passes.{turns_in, IsOfNode}
use Rattle.qm_cluster.specs.CallServing.{LeavesTurn, MayLeaveNone}
use Rattle.qm_node.specs.Answered.{EndsBy, stop_of}
use Rattle.qm_cluster.proofs.Owning.{turns_from}

told_all : (told : Answer) → stop_of told ≡ None → hides_events told ≡ false
told_all answer.HistoryFull h = cc
told_all (answer.Damaged file place) h = cc
told_all (answer.NoMemory took) h = cc
told_all (answer.Done took moment reply) h = refl
told_all (answer.Shown took moment rows) h = refl
told_all (answer.Duties took moment duties) h = refl
told_all (answer.Refused took refusal) h = refl
told_all (answer.Full took need cap) h = refl
told_all (answer.Journal took live) h = refl
told_all (answer.Fenced held current) h = refl
told_all (answer.NoManager took name) h = refl

-- an answer behind which more turns come says what the turn's events say
pub says : (w : World) (asked : Call) (t : Turn) (told : Answer) → stop_of told ≡ None → MayAnswer w asked t told → IsTurnOf w asked t × (told ≡ answer_of w t)
says w asked t answer.HistoryFull h may = absurd may
says w asked t (answer.Damaged file place) h may = cc
says w asked t (answer.NoMemory took) h may = cc
says w asked t (answer.Done took moment reply) h may = may
says w asked t (answer.Shown took moment rows) h may = may
says w asked t (answer.Duties took moment duties) h may = may
says w asked t (answer.Refused took refusal) h may = may
says w asked t (answer.Full took need cap) h may = may
says w asked t (answer.Journal took live) h may = may
says w asked t (answer.Fenced held current) h may = may
says w asked t (answer.NoManager took name) h may = may

-- and any other one is of a turn that was served whole, or cut short as the last one
pub whole_or_cut : (w : World) (asked : Call) (t : Turn) (told : Answer) → MayAnswer w asked t told → IsTurnOf w asked t ⊎ IsCutShort w asked t
whole_or_cut w asked t answer.HistoryFull may = absurd may
whole_or_cut w asked t (answer.Damaged file place) may = inl may.0
whole_or_cut w asked t (answer.NoMemory took) may = inr may.0
whole_or_cut w asked t (answer.Done took moment reply) may = inl may.0
whole_or_cut w asked t (answer.Shown took moment rows) may = inl may.0
whole_or_cut w asked t (answer.Duties took moment duties) may = inl may.0
whole_or_cut w asked t (answer.Refused took refusal) may = inl may.0
whole_or_cut w asked t (answer.Full took need cap) may = inl may.0
whole_or_cut w asked t (answer.Journal took live) may = inl may.0
whole_or_cut w asked t (answer.Fenced held current) may = inl may.0
whole_or_cut w asked t (answer.NoManager took name) may = inl may.0

-- where a call left no turn, that ends the turns of the node
pub none_ends : (most : ℕ) (turns : List Turn) (told : Answer) → MayLeaveNone most turns told → stop_of told ≡ None → ⊥
none_ends most turns told (inl (full, kept)) h = let bad : stop_of answer.HistoryFull ≡ None = sym (ap stop_of full) ∙ h in cc
none_ends most turns told (inr short) h = let bad : stop_of (answer.NoMemory None) ≡ None = sym (ap stop_of short) ∙ h in cc

-- what is noted of a call behind whose answer more turns come
pub heard_turn : (most node now : ℕ) (asked : Call) (turns : List Turn) (n : Noted) (turn : Option Turn) (told : Answer) → n.turn ≡ turn → n.unread ≡ is_unread turn told
    → IsMadeFor node now asked turn → LeavesTurn most turns turn told → stop_of told ≡ None
    → (t : Turn) × (n.turn ≡ Some t) × (t.node ≡ node) × (t.moment ≡ now) × (t.why ≡ why_of asked) × (n.unread ≡ false)
heard_turn most node now asked turns n None told is unread made leaves h = absurd (none_ends most turns told leaves h)
heard_turn most node now asked turns n (Some t) told is unread made leaves h =
    (t, is, made.0, made.1, made.2, unread ∙ ap (λ b. tells_disk_fault t.events && b) (told_all told h) ∙ none_hidden (tells_disk_fault t.events))
  where
    none_hidden : (b : Bool) → (b && false) ≡ false
    none_hidden true = refl
    none_hidden false = refl

pub of_node : (node now : ℕ) (asked : Call) (turn : Option Turn) → IsMadeFor node now asked turn → IfSome turn (λ t. t.node ≡ node)
of_node node now asked None made = tt
of_node node now asked (Some t) made = made.0

-- ---- how many turns a node can have made

own_is_kept : (node : ℕ) (n : Noted) → IsHeard node n → length (option_to_list n.turn) ≡ 1
own_is_kept node n h = ap (λ o. length (option_to_list o)) h.1

module _ (node : ℕ) (e : ℕ × Noted) (log : List (ℕ × Noted)) (rest : AllByRecursion (IsHeard node) (notes_by node log) → length (notes_by node log) ≤ length (turns_in log)) where
  fewer_one : (b : Bool) → AllByRecursion (IsHeard node) ((cond b (e.1 ∷ []) []) ++ notes_by node log) → length ((cond b (e.1 ∷ []) []) ++ notes_by node log) ≤ length (option_to_list e.1.turn ++ turns_in log)
  fewer_one true h = let one = own_is_kept node e.1 h.0 in let more = rest h.1 in let size = length-append (option_to_list e.1.turn) (turns_in log) in omega (arith, one, more, size)
  fewer_one false h = let more = rest h in let size = length-append (option_to_list e.1.turn) (turns_in log) in omega (arith, more, size)

pub fewer : (node : ℕ) (log : List (ℕ × Noted)) → AllByRecursion (IsHeard node) (notes_by node log) → length (notes_by node log) ≤ length (turns_in log)
fewer node [] h = omega arith
fewer node (e ∷ log) h =
    subst (λ ts. length (notes_by node (e ∷ log)) ≤ length ts) (sym (turns_from e log)) (fewer_one node e log (λ there. fewer node log there) (e.0 == node) h)

-- ---- the last call

module _ (most node now : ℕ) (asked : Call) (turns : List Turn) (n : Noted) (name : List ℕ) (taken given : Option (List ℕ)) where
  of_this : (turn : Option Turn) → n.turn ≡ turn → IsMadeFor node now asked turn → IsOfNode node n
  of_this turn is made = subst (λ o. IfSome o (λ t. t.node ≡ node)) (sym is) (of_node node now asked turn made)

  full_last : (turn : Option Turn) → n.turn ≡ turn → LeavesTurn most turns turn answer.HistoryFull → (n.turn ≡ None) × (length turns ≡ most)
  full_last None is (inl (same, full)) = (is, full)
  full_last None is (inr short) = cc
  full_last (Some t) is leaves = absurd (leaves refl)

  damaged_last : (file place : ℕ) (turn : Option Turn) → n.turn ≡ turn → IsMadeFor node now asked turn → LeavesTurn most turns turn (answer.Damaged file place) → (t : Turn) × (n.turn ≡ Some t) × (t.node ≡ node)
  damaged_last file place None is made (inl (same, full)) = cc
  damaged_last file place None is made (inr short) = cc
  damaged_last file place (Some t) is made leaves = (t, is, made.0)

  -- where the answer is the end
  ended_by : (told : Answer) (stopped : TurnEnd) → stop_of told ≡ Some stopped → n.unread ≡ is_unread n.turn told → IsMadeFor node now asked n.turn → LeavesTurn most turns n.turn told
      → IsLastOf node (node_end (Err stopped)) (n ∷ []) × (node_end (Err stopped) ≡ TurnsSpent → (n.turn ≡ None) × (length turns ≡ most))
  ended_by answer.HistoryFull end.HistoryFull h unread made leaves =
      let last = full_last n.turn refl leaves in ((n, refl, last.0, unread ∙ ap (λ o. is_unread o answer.HistoryFull) last.0), λ spent. last)
  ended_by (answer.Damaged file place) (end.Damaged f p) h unread made leaves =
      let last = damaged_last file place n.turn refl made leaves in ((n, last.0, refl, last.1, last.2), λ spent. cc)
  ended_by (answer.NoMemory took) end.NoMemory h unread made leaves = (inr (n, refl, of_this n.turn refl made), λ spent. cc)
  ended_by told stopped h unread made leaves = cc

  pub last_call : (told : Answer) (stopped : TurnEnd) → EndsBy name stopped asked told taken given → n.unread ≡ is_unread n.turn told → IsMadeFor node now asked n.turn → LeavesTurn most turns n.turn told
      → IsLastOf node (node_end (Err stopped)) (n ∷ []) × (node_end (Err stopped) ≡ TurnsSpent → (n.turn ≡ None) × (length turns ≡ most))
  last_call told stopped (inl h) unread made leaves = ended_by told stopped h.0 unread made leaves
  last_call told stopped (inr (goes, front, which)) unread made leaves = short_by which
    where
      LastAt : TurnEnd → Type 0
      LastAt s = IsLastOf node (node_end (Err s)) (n ∷ []) × (node_end (Err s) ≡ TurnsSpent → (n.turn ≡ None) × (length turns ≡ most))

      short_by : (stopped ≡ end.Write) ⊎ (stopped ≡ end.NoMemory) → LastAt stopped
      short_by (inl is) = subst LastAt (sym is) (inr (n, refl, of_this n.turn refl made), λ spent. cc)
      short_by (inr is) = subst LastAt (sym is) (inr (n, refl, of_this n.turn refl made), λ spent. cc)
