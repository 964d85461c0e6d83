use Rattle.std.proofs.Common.{◌+◌, ◌/◌, refl, sym, ◌∙◌, ap, length}
use Rattle.qm_turn.proofs.Halves.{can_back, can_front, worked_both}
use Rattle.qm_turn.proofs.each.+halves.Goals as goal

pub work_on_each-work_on_halves-requires-clause-low : goal.work_on_each-work_on_halves-requires-clause-low
work_on_each-work_on_halves-requires-clause-low g t c κs within =
    let cut = c.split_at_mut-low in
    let other = c.split_at_mut-left in
    can_front (g.W.Work.can_work c.args.work.now) c.args.place (c.args.place + length cut.result.0.now) c.args.firsts.now cut.result.0.now cut.result.1.now c.args.seconds.now other.result.0.now other.result.1.now
    cut.ensures.value other.ensures.value (other.ensures.front_len ∙ sym cut.ensures.front_len) refl c.requires.can

pub work_on_each-work_on_halves-requires-clause-high : goal.work_on_each-work_on_halves-requires-clause-high
work_on_each-work_on_halves-requires-clause-high g t c κs within =
    let cut = c.split_at_mut-low in
    let other = c.split_at_mut-left in
    can_back (g.W.Work.can_work c.args.work.now) c.args.place (c.args.place + length c.args.firsts.now / 2) c.args.firsts.now cut.result.0.now cut.result.1.now c.args.seconds.now other.result.0.now other.result.1.now
    cut.ensures.value other.ensures.value (other.ensures.front_len ∙ sym cut.ensures.front_len) (ap (λ n. c.args.place + n) (sym cut.ensures.front_len)) c.requires.can

pub work_on_each-returns : goal.work_on_each-returns
work_on_each-returns g t c =
    let cut = c.split_at_mut-low in
    let other = c.split_at_mut-left in
    worked_both (g.W.Work.works c.args.work.now) c.args.place (c.args.place + length c.args.firsts.now / 2) c.args.firsts.now cut.result.0.now cut.result.1.now _ _ c.args.seconds.now other.result.0.now other.result.1.now _ _
    cut.ensures.value other.ensures.value (other.ensures.front_len ∙ sym cut.ensures.front_len) (ap (λ n. c.args.place + n) (sym cut.ensures.front_len)) c.work_on_halves.ensures.low c.work_on_halves.ensures.high
