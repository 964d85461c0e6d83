use Rattle.std.proofs.Common.{◌∷◌, ◌∙◌, ◌-◌, ◌+◌, ◌<◌, [], List, length, refl, sym, ap, arith, length-append}
use Rattle.qm_kinds.specs.declared.queue.Queue.{Queue}
use Rattle.qm_sched.specs.Choosing.{execution_queues}
use Rattle.qm_parts.specs.Tables.{Tables}
use Rattle.qm_sched.proofs.Starting.{blank}
use Rattle.qm_sched.proofs.ByPlace.{all_settled, at_first, few_looks, it_starts_next, one_passed, one_started, room_for_it}
use Rattle.qm_sched.proofs.settling.settle.Goals as goal

pub loop-place-init : goal.loop-place-init
loop-place-init g c = record {
  reached = at_first c.args.parts.now c.args.out.now.items c.args.looks.now c.requires.empty;
  runs = omega (arith, ap length c.requires.empty);
  capacity = refl;
  rest = refl;
}

pub loop-place-preserved-in-None : goal.loop-place-preserved-in-None
loop-place-preserved-in-None g c =
    let within : c.loop-place.place < length c.loop-place.parts.queues = omega (arith, c.loop-place-test.true, ap (λ (qs : List Queue). length qs) c.queues.ensures.queues) in
    record {
      reached = one_passed c.args.parts.now c.loop-place.parts c.loop-place.out.items c.loop-place.place c.loop-place.looks (c.args.looks.now + length c.loop-place.out.items + execution_queues c.args.parts.now.queues) c.loop-place.invariant.reached within c.next_start.new.looks c.queues.ensures.in_order c.in-None.ensures.start c.next_start.ensures.looks;
      runs = c.loop-place.invariant.runs;
      capacity = c.loop-place.invariant.capacity;
      rest = c.loop-place.invariant.rest;
    }

pub start_next-requires-clause-next : goal.start_next-requires-clause-next
start_next-requires-clause-next g c =
    let within : c.loop-place.place < length c.loop-place.parts.queues = omega (arith, c.loop-place-test.true, ap (λ (qs : List Queue). length qs) c.queues.ensures.queues) in
    it_starts_next c.args.parts.now c.loop-place.parts c.loop-place.out.items c.loop-place.place c.loop-place.looks (c.args.looks.now + length c.loop-place.out.items + execution_queues c.args.parts.now.queues) c.loop-place.invariant.reached within c.in-Some.start c.in-Some.ensures.start

pub start_next-requires-clause-room : goal.start_next-requires-clause-room
start_next-requires-clause-room g c =
    let within : c.loop-place.place < length c.loop-place.parts.queues = omega (arith, c.loop-place-test.true, ap (λ (qs : List Queue). length qs) c.queues.ensures.queues) in
    let one = room_for_it c.args.parts.now c.loop-place.parts c.loop-place.out.items c.loop-place.place c.loop-place.looks (c.args.looks.now + length c.loop-place.out.items + execution_queues c.args.parts.now.queues) c.loop-place.invariant.reached within c.in-Some.start c.in-Some.ensures.start blank in
    omega (arith, one, c.requires.runs blank, c.loop-place.invariant.runs)

pub push_reserved-requires : goal.push_reserved-requires
push_reserved-requires g c =
    let within : c.loop-place.place < length c.loop-place.parts.queues = omega (arith, c.loop-place-test.true, ap (λ (qs : List Queue). length qs) c.queues.ensures.queues) in
    let one = room_for_it c.args.parts.now c.loop-place.parts c.loop-place.out.items c.loop-place.place c.loop-place.looks (c.args.looks.now + length c.loop-place.out.items + execution_queues c.args.parts.now.queues) c.loop-place.invariant.reached within c.in-Some.start c.in-Some.ensures.start blank in
    omega (arith, one, c.requires.room blank, c.loop-place.invariant.capacity, c.loop-place.out.ok)

pub loop-place-smaller : goal.loop-place-smaller
loop-place-smaller g c =
    let within : c.loop-place.place < length c.loop-place.parts.queues = omega (arith, c.loop-place-test.true, ap (λ (qs : List Queue). length qs) c.queues.ensures.queues) in
    let one = room_for_it c.args.parts.now c.loop-place.parts c.loop-place.out.items c.loop-place.place c.loop-place.looks (c.args.looks.now + length c.loop-place.out.items + execution_queues c.args.parts.now.queues) c.loop-place.invariant.reached within c.in-Some.start c.in-Some.ensures.start blank in
    let runs = ap (λ (t : Tables). t.spare_runs) c.start_next.ensures.rest in
    let queues = ap (λ (t : Tables). length t.queues) c.start_next.ensures.rest in
    omega (arith, one, c.requires.runs blank, c.loop-place.invariant.runs, runs, queues)

pub loop-place-preserved : goal.loop-place-preserved
loop-place-preserved g c =
    let within : c.loop-place.place < length c.loop-place.parts.queues = omega (arith, c.loop-place-test.true, ap (λ (qs : List Queue). length qs) c.queues.ensures.queues) in
    let one = room_for_it c.args.parts.now c.loop-place.parts c.loop-place.out.items c.loop-place.place c.loop-place.looks (c.args.looks.now + length c.loop-place.out.items + execution_queues c.args.parts.now.queues) c.loop-place.invariant.reached within c.in-Some.start c.in-Some.ensures.start blank in
    let runs = ap (λ (t : Tables). t.spare_runs) c.start_next.ensures.rest in
    let queues = ap (λ (t : Tables). t.queues) c.start_next.ensures.rest in
    let after : Tables = c.start_next.new.parts in
    let longer = length-append c.loop-place.out.items (c.in-Some.start ∷ []) in
    let pushed = ap length c.push_reserved.ensures.items in
    record {
      reached =
          one_started c.args.parts.now c.loop-place.parts c.loop-place.out.items c.loop-place.place c.loop-place.looks (c.args.looks.now + length c.loop-place.out.items + execution_queues c.args.parts.now.queues) c.loop-place.invariant.reached within c.in-Some.start c.in-Some.ensures.start after c.push_reserved.new.self.items c.next_start.new.looks
          (c.args.looks.now + length c.push_reserved.new.self.items + execution_queues c.args.parts.now.queues)
          c.start_next.ensures.starts c.start_next.ensures.in_order queues c.push_reserved.ensures.items c.next_start.ensures.looks (omega (arith, pushed, longer));
      runs = omega (arith, one, runs, pushed, longer, c.requires.runs blank, c.loop-place.invariant.runs);
      capacity = c.push_reserved.ensures.capacity ∙ c.loop-place.invariant.capacity;
      rest =
          c.start_next.ensures.rest
          ∙ ap (λ (t : Tables). record t { entries = after.entries; next_run = after.next_run; spare_runs = c.loop-place.parts.spare_runs - 1 }) c.loop-place.invariant.rest
          ∙ ap (λ n. record c.args.parts.now { entries = after.entries; next_run = after.next_run; spare_runs = n }) (sym runs);
    }

pub returns-clause-settled : goal.returns-clause-settled
returns-clause-settled g c =
    all_settled c.args.parts.now c.loop-place.parts c.loop-place.out.items c.loop-place.place c.loop-place.looks (c.args.looks.now + length c.loop-place.out.items + execution_queues c.args.parts.now.queues) c.loop-place.invariant.reached
    (omega (arith, c.loop-place-test.false, ap (λ (qs : List Queue). length qs) c.queues.ensures.queues))

pub returns-clause-looks : goal.returns-clause-looks
returns-clause-looks g c = few_looks c.args.parts.now c.loop-place.parts c.loop-place.out.items c.loop-place.place c.loop-place.looks (c.args.looks.now + length c.loop-place.out.items + execution_queues c.args.parts.now.queues) c.loop-place.invariant.reached
