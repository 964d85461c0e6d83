use Rattle.std.proofs.Common.{◌≡◌, ◌+◌, ℕ, List, ◌∙◌, ap, refl, rules, subst, sym, Some, Err}
use Rattle.qm_history.specs.Common.{turns_kept, Ended}
use Rattle.qm_script.specs.ClusterLines.{user_lines_view}
use Rattle.qm_node.specs.Seats.{HeldSeat}
use Rattle.qm_turn.specs.Turns.{Known}
use Rattle.qm_cluster.specs.declared.noted.Noted.{Noted}
use Rattle.qm_cluster.specs.Driving.{HasDriven, IsDriven, node_end}
use Rattle.qm_cluster.specs.Passes.{AreOwn, turns_in}
use Rattle.qm_cluster.specs.Sharing.{MayBegin}
use Rattle.qm_cluster.proofs.Underway.{IsUnderWay, driven_at, driven_whole, is_driven_at, is_driven_whole, onward, under_way}
use Rattle.qm_cluster.proofs.Undamaged.{undamaged_at}
use Rattle.qm_cluster.proofs.Waited.{ended_by, made_by, stays_by}
use Rattle.qm_cluster.proofs.node_course.drive.Goals as goal

pub loop-call-init : goal.loop-call-init
loop-call-init g c = (
  subst (λ (s : HeldSeat). IsUnderWay g.Y.Symbiont.meaning g.S.Serve.meaning.tells (MayBegin g.S.Serve.meaning g.J.Begins.began) turns_kept c.args.node c.args.name.now (user_lines_view c.args.lines.now) c.args.station.now.symbiont c.args.text.now.taken c.args.pass.now (g.C.Clock.told c.args.station.now.clock)
      s c.args.station.now.symbiont c.args.pass.now (g.C.Clock.told c.args.station.now.clock) c.args.text.now.taken) (sym c.new-seat.ensures)
      (under_way g.Y.Symbiont.meaning g.S.Serve.meaning.tells (MayBegin g.S.Serve.meaning g.J.Begins.began) turns_kept c.args.node c.args.name.now (user_lines_view c.args.lines.now) c.args.station.now.symbiont c.args.text.now.taken c.args.pass.now (g.C.Clock.told c.args.station.now.clock)
      c.requires.number c.requires.new.0 c.requires.new.1 (λ sure w begins. (c.requires.sound sure w begins).1)),
  ap (λ (s : HeldSeat). s.count) c.new-seat.ensures,
  refl,
  refl,
)

pub returns-in_default-clause-knows : goal.returns-in_default-clause-knows
returns-in_default-clause-knows g c =
    subst (λ (p : Known Noted). HasDriven turns_kept c.args.node Ended c.args.pass.now p (g.C.Clock.told c.args.station.now.clock) (g.C.Clock.told c.loop-call.station.clock)) (search rules)
    (driven_whole g.Y.Symbiont.meaning g.S.Serve.meaning.tells (MayBegin g.S.Serve.meaning g.J.Begins.began) turns_kept c.args.node c.args.name.now (user_lines_view c.args.lines.now) c.args.station.now.symbiont c.args.text.now.taken c.args.pass.now (g.C.Clock.told c.args.station.now.clock)
    c.worlds_stay_sound.ensures.history (λ sure w begins. (c.requires.sound sure w begins).0)
    c.loop-call.seat c.loop-call.station.symbiont c.loop-call.waiting.pass.now (g.C.Clock.told c.loop-call.station.clock) c.loop-call.text.taken c.loop-call.invariant.0)

pub returns-in_default-clause-drives : goal.returns-in_default-clause-drives
returns-in_default-clause-drives g c sure w begins own =
    subst (λ (seen : List (ℕ × Noted)). AreOwn c.args.node seen → IsDriven g.Y.Symbiont.meaning w c.args.node c.args.name.now (user_lines_view c.args.lines.now) Ended (turns_in seen) c.args.station.now.symbiont c.loop-call.station.symbiont
    c.args.text.now.taken c.loop-call.text.taken) (search rules)
    (is_driven_whole g.Y.Symbiont.meaning g.S.Serve.meaning.tells (MayBegin g.S.Serve.meaning g.J.Begins.began) turns_kept c.args.node c.args.name.now (user_lines_view c.args.lines.now) c.args.station.now.symbiont c.args.text.now.taken c.args.pass.now (g.C.Clock.told c.args.station.now.clock)
    c.worlds_stay_sound.ensures.history (λ sure w begins. (c.requires.sound sure w begins).0)
    c.loop-call.seat c.loop-call.station.symbiont c.loop-call.waiting.pass.now (g.C.Clock.told c.loop-call.station.clock) c.loop-call.text.taken c.loop-call.invariant.0 c.in_default.ensures.next sure w begins) own

pub returns-in-Err-clause-knows : goal.returns-in-Err-clause-knows
returns-in-Err-clause-knows g c =
    let stays = stays_by _ g.Y.Symbiont.meaning c.args.node c.in-Some.next c.loop-call.seat c.loop-call.station.symbiont c.make_turn-made.new.station.symbiont (g.C.Clock.told c.loop-call.station.clock) (g.C.Clock.told c.make_turn-made.new.station.clock) c.loop-call.waiting c.make_turn-made.new.asker (Some c.loop-call.text.taken) (Some c.make_turn-made.new.sink.taken)
    (λ old new. new.pass.ghost_name ≡ old.pass.ghost_name) (λ w. refl) (λ old new node now asked told h. h.1) c.in-Err.end c.in-Err.ensures.ends ∙ c.loop-call.invariant.2 in
    subst (λ (p : Known Noted). HasDriven turns_kept c.args.node (node_end (Err c.in-Err.end)) c.args.pass.now p (g.C.Clock.told c.args.station.now.clock) (g.C.Clock.told c.make_turn-made.new.station.clock)) (search (rules, stays))
    (driven_at g.Y.Symbiont.meaning g.S.Serve.meaning.tells (MayBegin g.S.Serve.meaning g.J.Begins.began) turns_kept c.args.node c.args.name.now (user_lines_view c.args.lines.now) c.args.station.now.symbiont c.args.text.now.taken c.args.pass.now (g.C.Clock.told c.args.station.now.clock)
    c.worlds_stay_sound.ensures.history (λ sure w begins. (c.requires.sound sure w begins).0)
    c.loop-call.seat c.loop-call.station.symbiont c.loop-call.waiting.pass.now (g.C.Clock.told c.loop-call.station.clock) c.loop-call.text.taken c.loop-call.invariant.0
    c.in-Err.end c.in-Some.next c.make_turn-made.new.station.symbiont (g.C.Clock.told c.make_turn-made.new.station.clock) c.make_turn-made.new.asker.pass.now c.make_turn-made.new.sink.taken c.in-Some.ensures.next
    (ended_by _ _ (λ w. w.pass.now) (λ old new node now asked told h. h.0) g.Y.Symbiont.meaning c.args.node c.in-Some.next c.loop-call.seat c.loop-call.station.symbiont c.make_turn-made.new.station.symbiont (g.C.Clock.told c.loop-call.station.clock) (g.C.Clock.told c.make_turn-made.new.station.clock) c.loop-call.waiting c.make_turn-made.new.asker (Some c.loop-call.text.taken) (Some c.make_turn-made.new.sink.taken) c.in-Err.end c.in-Err.ensures.ends))

pub returns-in-Err-clause-drives : goal.returns-in-Err-clause-drives
returns-in-Err-clause-drives g c sure w begins own =
    let stays = stays_by _ g.Y.Symbiont.meaning c.args.node c.in-Some.next c.loop-call.seat c.loop-call.station.symbiont c.make_turn-made.new.station.symbiont (g.C.Clock.told c.loop-call.station.clock) (g.C.Clock.told c.make_turn-made.new.station.clock) c.loop-call.waiting c.make_turn-made.new.asker (Some c.loop-call.text.taken) (Some c.make_turn-made.new.sink.taken)
    (λ old new. new.pass.ghost_name ≡ old.pass.ghost_name) (λ w. refl) (λ old new node now asked told h. h.1) c.in-Err.end c.in-Err.ensures.ends ∙ c.loop-call.invariant.2 in
    subst (λ (seen : List (ℕ × Noted)). AreOwn c.args.node seen → IsDriven g.Y.Symbiont.meaning w c.args.node c.args.name.now (user_lines_view c.args.lines.now) (node_end (Err c.in-Err.end)) (turns_in seen) c.args.station.now.symbiont c.make_turn-made.new.station.symbiont
    c.args.text.now.taken c.make_turn-made.new.sink.taken) (search (rules, stays))
    (is_driven_at g.Y.Symbiont.meaning g.S.Serve.meaning.tells (MayBegin g.S.Serve.meaning g.J.Begins.began) turns_kept c.args.node c.args.name.now (user_lines_view c.args.lines.now) c.args.station.now.symbiont c.args.text.now.taken c.args.pass.now (g.C.Clock.told c.args.station.now.clock)
    c.worlds_stay_sound.ensures.history (λ sure w begins. (c.requires.sound sure w begins).0)
    c.loop-call.seat c.loop-call.station.symbiont c.loop-call.waiting.pass.now (g.C.Clock.told c.loop-call.station.clock) c.loop-call.text.taken c.loop-call.invariant.0
    c.in-Err.end c.in-Some.next c.make_turn-made.new.station.symbiont (g.C.Clock.told c.make_turn-made.new.station.clock) c.make_turn-made.new.asker.pass.now c.make_turn-made.new.sink.taken c.in-Some.ensures.next
    (ended_by _ _ (λ w. w.pass.now) (λ old new node now asked told h. h.0) g.Y.Symbiont.meaning c.args.node c.in-Some.next c.loop-call.seat c.loop-call.station.symbiont c.make_turn-made.new.station.symbiont (g.C.Clock.told c.loop-call.station.clock) (g.C.Clock.told c.make_turn-made.new.station.clock) c.loop-call.waiting c.make_turn-made.new.asker (Some c.loop-call.text.taken) (Some c.make_turn-made.new.sink.taken) c.in-Err.end c.in-Err.ensures.ends) sure w begins) own

pub loop-call-preserved : goal.loop-call-preserved
loop-call-preserved g c = (
  onward g.Y.Symbiont.meaning g.S.Serve.meaning.tells (MayBegin g.S.Serve.meaning g.J.Begins.began) turns_kept c.args.node c.args.name.now (user_lines_view c.args.lines.now) c.args.station.now.symbiont c.args.text.now.taken c.args.pass.now (g.C.Clock.told c.args.station.now.clock)
      c.worlds_stay_sound.ensures.history (λ sure w begins. (c.requires.sound sure w begins).0)
      c.loop-call.seat c.loop-call.station.symbiont c.loop-call.waiting.pass.now (g.C.Clock.told c.loop-call.station.clock) c.loop-call.text.taken c.loop-call.invariant.0
      c.in-Some.next c.make_turn-made.new.seat c.make_turn-made.new.station.symbiont (g.C.Clock.told c.make_turn-made.new.station.clock) c.make_turn-made.new.asker.pass.now c.make_turn-made.new.sink.taken c.in-Some.ensures.next
      (made_by _ _ (λ w. w.pass.now) (λ old new node now asked told h. h.0) g.Y.Symbiont.meaning c.args.node c.in-Some.next c.loop-call.seat c.loop-call.station.symbiont c.make_turn-made.new.station.symbiont (g.C.Clock.told c.loop-call.station.clock) (g.C.Clock.told c.make_turn-made.new.station.clock) c.loop-call.waiting c.make_turn-made.new.asker (Some c.loop-call.text.taken) (Some c.make_turn-made.new.sink.taken) c.make_turn-made.new.seat c.in-Ok.ensures.made),
  c.in-Ok.ensures.made.takes_in.count ∙ ap (λ k. k + 1) c.loop-call.invariant.1,
  c.in-Ok.ensures.made.asked.asks_it.1 ∙ c.loop-call.invariant.2,
  c.in-Ok.ensures.made.asked.asks_it.2 ∙ c.loop-call.invariant.3,
)

pub returns-in-Err-clause-undamaged : goal.returns-in-Err-clause-undamaged
returns-in-Err-clause-undamaged g c =
    undamaged_at g.Y.Symbiont.meaning g.S.Serve.meaning.tells (MayBegin g.S.Serve.meaning g.J.Begins.began) turns_kept c.args.node c.in-Err.end c.in-Some.next c.loop-call.seat
    c.loop-call.station.symbiont c.make_turn-made.new.station.symbiont (g.C.Clock.told c.loop-call.station.clock) (g.C.Clock.told c.make_turn-made.new.station.clock)
    c.loop-call.waiting.pass.now c.make_turn-made.new.asker.pass.now (Some c.loop-call.text.taken) (Some c.make_turn-made.new.sink.taken)
    (ended_by _ _ (λ w. w.pass.now) (λ old new node now asked told h. h.0) g.Y.Symbiont.meaning c.args.node c.in-Some.next c.loop-call.seat c.loop-call.station.symbiont c.make_turn-made.new.station.symbiont (g.C.Clock.told c.loop-call.station.clock) (g.C.Clock.told c.make_turn-made.new.station.clock) c.loop-call.waiting c.make_turn-made.new.asker (Some c.loop-call.text.taken) (Some c.make_turn-made.new.sink.taken) c.in-Err.end c.in-Err.ensures.ends)
