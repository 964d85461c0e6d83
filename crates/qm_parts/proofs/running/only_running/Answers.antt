use Rattle.std.proofs.Common.{sym, ◌∙◌, arith}
use Rattle.qm_parts.specs.Mirror.{is_live_in}
use Rattle.qm_parts.proofs.Counts.{none_counted}
use Rattle.qm_parts.proofs.Asked.{no_only_one, the_only_live}
use Rattle.qm_parts.proofs.running.only_running.Goals as goal

pub returns-then-count_live-ne1 : goal.returns-then-count_live-ne1
returns-then-count_live-ne1 c =
    sym (no_only_one c.args.runs.now c.args.entries.now.entries c.requires.mirror c.requires.in_order c.args.queue.now (λ one. c.if-count_live-ne1.true (c.count_live.ensures ∙ one)))

-- one was counted
pub returns-in_default : goal.returns-in_default
returns-in_default c =
    let none = none_counted (is_live_in c.args.entries.now.entries c.args.queue.now) c.args.runs.now (sym c.in_default.ensures) in
    absurd (omega (arith, none, c.count_live.ensures, c.if-count_live-ne1.false))

pub returns : goal.returns
returns c =
    c.get.ensures.found
    ∙ the_only_live c.args.runs.now c.args.entries.now.entries c.requires.mirror c.requires.in_order c.args.queue.now c.in-Some.run'.now (sym c.count_live.ensures ∙ c.if-count_live-ne1.false) (sym c.in-Some.ensures)
