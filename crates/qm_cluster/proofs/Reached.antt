-- What a node has reached goes on.
use Rattle.std.proofs.Common.{inl, Bool, List, [], ◌∷◌, ◌++◌, length, refl, sym, subst, Option, None, append_assoc, append-nil}
use Rattle.qm_history.specs.declared.call.Call.{Call}
use Rattle.qm_history.specs.declared.call.Call.TheVariants as call
use Rattle.qm_history.specs.declared.turn.Turn.{Turn}
use Rattle.qm_history.specs.declared.world.World.{World}
use Rattle.qm_history.specs.Common.{KeptRun, known, report_told, Reaches, steps_asked, IsTurnOf, Visit}
use Rattle.qm_history.specs.Course.{Extent, Whole, Begun, Follows, GoesOn, IsAtEnd, MadeStep, NextTurn, ALine, AStep, AFetch, ALeave, NoTurn, NodeState, Over, ServesOrEnds, answered, behind_fetch, behind_line, behind_step, call_of_line, is_live_behind, next_at, own_stage}
use Rattle.qm_node.specs.Asking.{read_built}

-- a turn that was served whole is one of each course
whole_serves : (extent : Extent) (w : World) (asked : Call) (t : Turn) (others : List Visit) → IsTurnOf w asked t → ServesOrEnds read_built extent w asked t others
whole_serves Whole w asked t others h = h
whole_serves Begun w asked t others h = inl h

module _ (extent : Extent) (broken : Option KeptRun) (v : Visit) (others more : List Visit) (Rest After : NodeState → List MadeStep → Type 0) (added : List MadeStep)
    (goes : (n : NodeState) (steps : List MadeStep) → Rest n steps → After n (steps ++ added))
  where
    follows_on : (n : NodeState) (earlier : List Visit) (steps : List MadeStep) (next : NextTurn) → Follows read_built Whole None n earlier steps v others Rest next
        → Follows read_built extent broken n earlier (steps ++ added) v more After next
    follows_on n earlier steps (ALine l lines) h = (
      whole_serves extent v.before (call_of_line read_built n earlier l v.turn) v.turn more h.0,
      goes (behind_line (length earlier) n lines (steps_asked l.line.sort l.line.text) (answered v)) steps h.1,
    )
    follows_on n earlier [] (AStep run round) h = absurd h
    follows_on n earlier (m ∷ steps) (AStep run round) h = (
      h.0,
      whole_serves extent v.before (call.Report run (report_told m.run m.end)) v.turn more h.1,
      goes (behind_step n m.run round (report_told m.run m.end) (answered v)) steps h.2,
    )
    follows_on n earlier steps AFetch h = (
      whole_serves extent v.before (call.Fetch (known n.kept)) v.turn more h.0,
      goes (behind_fetch (length earlier) (record n { stage = own_stage n.stage }) (answered v)) steps h.1,
    )
    follows_on n earlier steps ALeave h = (whole_serves extent v.before call.Leave v.turn more h.0, goes (record n { stage = Over }) steps h.1)
    follows_on n earlier steps NoTurn h = absurd h

module _ (extent : Extent) (broken : Option KeptRun) (others : List Visit) (more : List MadeStep) (then : NodeState) (then_live : Bool) where
  pub goes_on : (visits earlier : List Visit) (n : NodeState) (live : Bool) (steps : List MadeStep) → Reaches read_built n earlier live visits steps then then_live
      → GoesOn read_built extent broken then (earlier ++ visits) then_live others more → GoesOn read_built extent broken n earlier live (visits ++ others) (steps ++ more)
  goes_on [] earlier n live steps h rest =
      subst (λ s. GoesOn read_built extent broken n earlier live others (s ++ more)) (sym h.0)
      (subst (λ b. GoesOn read_built extent broken n earlier b others more) h.2
      (subst (λ x. GoesOn read_built extent broken x earlier then_live others more) h.1
      (subst (λ e. GoesOn read_built extent broken then e then_live others more) (append-nil earlier) rest)))
  goes_on (v ∷ visits) earlier n live steps h rest =
      follows_on extent broken v visits (visits ++ others)
      (λ after left. Reaches read_built after (earlier ++ v ∷ []) (is_live_behind v) visits left then then_live)
      (λ after left. GoesOn read_built extent broken after (earlier ++ v ∷ []) (is_live_behind v) (visits ++ others) left) more
      (λ after left reached. goes_on visits (earlier ++ v ∷ []) after (is_live_behind v) left reached
      (subst (λ e. GoesOn read_built extent broken then e then_live others more) (sym (append_assoc earlier (v ∷ []) visits)) rest)) n earlier steps (next_at live n n.stage) h

module _ (others : List Visit) (more : List MadeStep) (then last : NodeState) (then_live last_live : Bool) where
  pub reaches_on : (visits earlier : List Visit) (n : NodeState) (live : Bool) (steps : List MadeStep) → Reaches read_built n earlier live visits steps then then_live
      → Reaches read_built then (earlier ++ visits) then_live others more last last_live → Reaches read_built n earlier live (visits ++ others) (steps ++ more) last last_live
  reaches_on [] earlier n live steps h rest =
      subst (λ s. Reaches read_built n earlier live others (s ++ more) last last_live) (sym h.0)
      (subst (λ b. Reaches read_built n earlier b others more last last_live) h.2
      (subst (λ x. Reaches read_built x earlier then_live others more last last_live) h.1
      (subst (λ e. Reaches read_built then e then_live others more last last_live) (append-nil earlier) rest)))
  reaches_on (v ∷ visits) earlier n live steps h rest =
      follows_on Whole None v visits (visits ++ others)
      (λ after left. Reaches read_built after (earlier ++ v ∷ []) (is_live_behind v) visits left then then_live)
      (λ after left. Reaches read_built after (earlier ++ v ∷ []) (is_live_behind v) (visits ++ others) left last last_live) more
      (λ after left reached. reaches_on visits (earlier ++ v ∷ []) after (is_live_behind v) left reached
      (subst (λ e. Reaches read_built then e then_live others more last last_live) (sym (append_assoc earlier (v ∷ []) visits)) rest)) n earlier steps (next_at live n n.stage) h

-- what was reached is a course that goes so far, or all of it where nothing comes next
pub reached_is : (extent : Extent) (visits earlier : List Visit) (n : NodeState) (live : Bool) (steps : List MadeStep) (then : NodeState) (then_live : Bool)
    → Reaches read_built n earlier live visits steps then then_live → IsAtEnd extent (next_at then_live then then.stage) → GoesOn read_built extent None n earlier live visits steps
reached_is extent visits earlier n live steps then then_live h ends =
    subst (λ (vs : List Visit). GoesOn read_built extent None n earlier live vs steps) (append-nil visits)
    (subst (λ (s : List MadeStep). GoesOn read_built extent None n earlier live (visits ++ []) s) (append-nil steps)
    (goes_on extent None [] [] then then_live visits earlier n live steps h (ends, refl, tt)))
