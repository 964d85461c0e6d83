use Rattle.std.proofs.Common.{◌≡◌, ◌∙◌, map, arith, Some}
use Rattle.std.proofs.lemmas.List.Elements.{All-pop}
use Rattle.qm_thread_cases.specs.declared.turnstile.Worked.{Worked}
use Rattle.qm_turn.proofs.Counts.{times_pop}
use Rattle.qm_turn.proofs.Gathering.{all_there}
use Rattle.qm_turn.proofs.Telling.{joined_numbers}
use Rattle.qm_thread_cases.proofs.turnstile.close_all.Goals as goal

pub loop-worked-init : goal.loop-worked-init
loop-worked-init c =
    let left = All-pop (λ (w : Worked). w.pass.place ≡ c.args.turnstile.place) c.args.all.items c.pop.new.self.items (Some c.in-Some.field-0) c.in-Some.ensures.items c.requires.here in (
      left.1,
      left.0,
      λ n h. (let p = all_there (map (λ (w : Worked). w.pass.number) c.args.all.items) c.args.turnstile.passes c.requires.numbers n h in let q = times_pop (λ (w : Worked). w.pass.number) n c.args.all.items c.pop.new.self.items c.in-Some.field-0 c.in-Some.ensures.items in omega arith),
    )

pub join-requires-clause-other : goal.join-requires-clause-other
join-requires-clause-other c =
    (All-pop (λ (w : Worked). w.pass.place ≡ c.args.turnstile.place) c.loop-worked.all.items c.pop-in-loop-worked.new.self.items (Some c.in-Some-pop.worked) c.in-Some-pop.ensures.items c.loop-worked.invariant.1).1

pub loop-worked-preserved : goal.loop-worked-preserved
loop-worked-preserved c =
    let left = All-pop (λ (w : Worked). w.pass.place ≡ c.args.turnstile.place) c.loop-worked.all.items c.pop-in-loop-worked.new.self.items (Some c.in-Some-pop.worked) c.in-Some-pop.ensures.items c.loop-worked.invariant.1 in (
      c.join.ensures.place ∙ c.loop-worked.invariant.0,
      left.0,
      λ n h. (
          let p = c.loop-worked.invariant.2 n h in
          let q = times_pop (λ (w : Worked). w.pass.number) n c.loop-worked.all.items c.pop-in-loop-worked.new.self.items c.in-Some-pop.worked c.in-Some-pop.ensures.items in
          let r = joined_numbers c.loop-worked.pass c.in-Some-pop.worked.pass c.join.new.into n c.join.ensures in
          omega arith),
    )
