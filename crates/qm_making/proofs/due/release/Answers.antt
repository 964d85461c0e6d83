use Rattle.std.proofs.Common.{◌≡◌, ◌∙◌, ℕ, ◌<◌, Bool, true, false, cond, Option, None, Some, IfSome, refl, ap, sym, subst, arith, option_copied}
use Rattle.qm_model.specs.Common.{Entry, System, entry_at, is_over}
use Rattle.qm_parts.specs.Rooms.{HavePlacesFor}
use Rattle.qm_making.proofs.Ended.{home_kept}
use Rattle.qm_image.specs.Image.{system_of}
use Rattle.qm_image.specs.Timers.{entries_at, moment_left}
use Rattle.qm_image.proofs.Timed.{has_entry, has_come, left_released, no_moment_left, found_still, one_less}
use Rattle.qm_making.proofs.due.release.Goals as goal

left_home : (now : ℕ) (e : Entry) (over : Bool) → IfSome (cond over None (Some (entry_at now e))) (λ l. l.home ≡ e.home)
left_home now e true = tt
left_home now e false = refl

pub unreachable-requires : goal.unreachable-requires
unreachable-requires c = has_entry c.args.now c.args.number c.args.image.now.parts.entries c.args.image.now.parts.timers c.args.image.now.timed c.requires.due (sym c.entry.ensures.found ∙ ap option_copied c.in_default.is)

pub leave-requires-clause-left : goal.leave-requires-clause-left
leave-requires-clause-left c =
    let found = sym c.in-Some.ensures.found in
    left_released c.args.now c.args.number c.args.image.now.parts.entries c.in-Some.entry.now c.left_at-left.result found
    (has_come c.args.now c.args.number c.args.image.now.parts.entries c.args.image.now.parts.timers c.in-Some.entry.now c.args.image.now.timed found c.requires.due) c.left_at-left.ensures

pub leave-requires-clause-place : goal.leave-requires-clause-place
leave-requires-clause-place c =
    home_kept c.args.number c.in-Some.entry.now c.args.image.now.parts.entries c.left_at-left.result (λ (e : Entry). HavePlacesFor e.home 1 c.args.image.now.parts) (sym c.in-Some.ensures.found)
    (subst (λ (o : Option Entry). IfSome o (λ l. l.home ≡ c.in-Some.entry.now.home)) (sym c.left_at-left.ensures) (left_home c.args.now c.in-Some.entry.now (is_over c.args.now c.in-Some.entry.now.state)))

pub leave-requires-clause-timer : goal.leave-requires-clause-timer
leave-requires-clause-timer c =
    let found = sym c.in-Some.ensures.found in
    let none : moment_left c.left_at-left.result ≡ None =
    no_moment_left c.args.now c.args.number c.args.image.now.parts.entries c.in-Some.entry.now c.left_at-left.result found
    (has_come c.args.now c.args.number c.args.image.now.parts.entries c.args.image.now.parts.timers c.in-Some.entry.now c.args.image.now.timed found c.requires.due) c.left_at-left.ensures in
    subst (λ (o : Option ℕ). IfSome o (λ at. 0 < c.args.image.now.parts.spare_timers)) (sym none) tt

pub returns-clause-found : goal.returns-clause-found
unfolding system_of
returns-clause-found c =
    let found = sym c.in-Some.ensures.found in
    ap (λ (s : System). entries_at c.args.now s.entries) c.leave.ensures.rows
    ∙ found_still c.args.now c.args.number c.args.image.now.parts.entries c.in-Some.entry.now c.left_at-left.result c.in-Some.ensures.in_order found c.left_at-left.ensures

pub returns-clause-fewer : goal.returns-clause-fewer
returns-clause-fewer c =
    let found = sym c.in-Some.ensures.found in
    let none : moment_left c.left_at-left.result ≡ None =
    no_moment_left c.args.now c.args.number c.args.image.now.parts.entries c.in-Some.entry.now c.left_at-left.result found
    (has_come c.args.now c.args.number c.args.image.now.parts.entries c.args.image.now.parts.timers c.in-Some.entry.now c.args.image.now.timed found c.requires.due) c.left_at-left.ensures in
    one_less c.args.now c.args.number c.args.image.now.parts.timers c.leave.new.image.parts.timers (moment_left c.left_at-left.result) c.requires.due none c.leave.ensures.timers

pub returns-clause-room : goal.returns-clause-room
returns-clause-room c =
    let found = sym c.in-Some.ensures.found in
    let none : moment_left c.left_at-left.result ≡ None =
    no_moment_left c.args.now c.args.number c.args.image.now.parts.entries c.in-Some.entry.now c.left_at-left.result found
    (has_come c.args.now c.args.number c.args.image.now.parts.entries c.args.image.now.parts.timers c.in-Some.entry.now c.args.image.now.timed found c.requires.due) c.left_at-left.ensures in
    omega (arith, one_less c.args.now c.args.number c.args.image.now.parts.timers c.leave.new.image.parts.timers (moment_left c.left_at-left.result) c.requires.due none c.leave.ensures.timers, c.leave.ensures.room)
