use Rattle.std.proofs.Common.{◌≡◌, ◌∙◌, ℕ, true, List, count_by, length, refl, ap, sym, arith}
use Rattle.qm_model.specs.Common.{Entry, Queue, System, after_loss, with_entry}
use Rattle.qm_parts.specs.Nodes.{is_run_on_one}
use Rattle.qm_parts.specs.Rooms.{HavePlacesFor}
use Rattle.qm_parts.specs.Tables.{Tables}
use Rattle.qm_image.specs.Image.{system_of}
use Rattle.qm_image.specs.Losing.{entries_left}
use Rattle.qm_image.specs.Timers.{moment_left}
use Rattle.qm_making.proofs.Kept.{kept_at_first, kept_on}
use Rattle.qm_making.proofs.Lost.{all_stay, needs_no_place, one_run_less, one_timer_more, rest_still, takes_place}
use Rattle.qm_image.proofs.Timed.{room_for}
use Rattle.qm_making.proofs.nodes.lose_runs.Goals as goal

pub loop-entry-init : goal.loop-entry-init
unfolding system_of
loop-entry-init c = record { left = refl; rows = refl; others = kept_at_first c.args.image.now; room = c.requires.timers }

pub leave-requires-clause-left : goal.leave-requires-clause-left
leave-requires-clause-left c =
    takes_place c.queue_table.result.now.queues c.args.now c.args.lost.now c.in-Some.entry.now c.loop-entry.image.parts.entries c.after_loss-left.result c.see_entries.ensures (sym c.in-Some.ensures)
    (c.after_loss-left.ensures c.args.lost.now)

pub leave-requires-clause-place : goal.leave-requires-clause-place
leave-requires-clause-place c =
    needs_no_place c.queue_table.result.now.queues c.args.now c.args.lost.now c.in-Some.entry.now c.loop-entry.image.parts.entries c.after_loss-left.result c.see_entries.ensures (sym c.in-Some.ensures)
    (c.after_loss-left.ensures c.args.lost.now) (λ (e : Entry). HavePlacesFor e.home 1 c.loop-entry.image.parts)

pub leave-requires-clause-timer : goal.leave-requires-clause-timer
leave-requires-clause-timer c =
    let less = one_run_less c.queue_table.result.now.queues c.args.now c.args.lost.now c.in-Some.entry.now c.loop-entry.image.parts.entries c.after_loss-left.result c.see_entries.ensures (sym c.in-Some.ensures)
    (c.after_loss-left.ensures c.args.lost.now) in
    room_for c.loop-entry.image.parts.spare_timers (moment_left c.after_loss-left.result) (omega (arith, less, c.loop-entry.invariant.room))

pub loop-entry-preserved : goal.loop-entry-preserved
unfolding system_of
loop-entry-preserved c =
    let es = c.loop-entry.image.parts.entries in
    let e = c.in-Some.entry.now in
    let left = c.after_loss-left.result in
    let queues : c.queue_table.result.now.queues ≡ c.args.image.now.parts.queues = c.queue_table.ensures ∙ ap (λ (t : Tables). t.queues) c.loop-entry.invariant.others.tables in
    let is : is_run_on_one c.args.lost.now e ≡ true → left ≡ after_loss c.args.image.now.parts.queues c.args.now c.args.lost.now e.state e =
    λ on. c.after_loss-left.ensures c.args.lost.now on ∙ ap (λ (qs : List Queue). after_loss qs c.args.now c.args.lost.now e.state e) queues in
    let entries : c.leave.new.image.parts.entries ≡ with_entry e.number (λ x. left) es = ap (λ (s : System). s.entries) c.leave.ensures.rows in
    let less = one_run_less c.args.image.now.parts.queues c.args.now c.args.lost.now e es left c.see_entries.ensures (sym c.in-Some.ensures) is in
    record {
      left = ap (λ (xs : List Entry). entries_left c.args.image.now.parts.queues c.args.now c.args.lost.now xs) entries
          ∙ rest_still c.args.image.now.parts.queues c.args.now c.args.lost.now e es left c.see_entries.ensures (sym c.in-Some.ensures) is ∙ c.loop-entry.invariant.left;
      rows = c.leave.ensures.rows ∙ ap (λ (s : System). record s { entries = with_entry e.number (λ x. left) es }) c.loop-entry.invariant.rows ∙ ap (λ (xs : List Entry). record (system_of c.args.image.now) { entries = xs }) (sym entries);
      others = kept_on c.args.image.now c.loop-entry.image c.leave.new.image c.loop-entry.invariant.others c.leave.ensures.others;
      room = omega (
        arith,
        ap (λ (xs : List Entry). count_by (is_run_on_one c.args.lost.now) xs) entries,
        less,
        c.loop-entry.invariant.room,
        c.leave.ensures.room,
        ap (λ (ts : List (ℕ × ℕ)). length ts) c.leave.ensures.timers,
        one_timer_more e.number (moment_left left) c.loop-entry.image.parts.timers,
      );
    }

pub returns-clause-entries : goal.returns-clause-entries
returns-clause-entries c =
    sym (all_stay c.args.image.now.parts.queues c.args.now c.args.lost.now c.loop-entry.image.parts.entries (sym c.in_default.ensures)) ∙ c.loop-entry.invariant.left

pub loop-entry-smaller : goal.loop-entry-smaller
unfolding system_of
loop-entry-smaller c =
    let entries : c.leave.new.image.parts.entries ≡ with_entry c.in-Some.entry.now.number (λ x. c.after_loss-left.result) c.loop-entry.image.parts.entries = ap (λ (s : System). s.entries) c.leave.ensures.rows in
    let less = one_run_less c.queue_table.result.now.queues c.args.now c.args.lost.now c.in-Some.entry.now c.loop-entry.image.parts.entries c.after_loss-left.result c.see_entries.ensures (sym c.in-Some.ensures)
    (c.after_loss-left.ensures c.args.lost.now) in
    omega (arith, ap (λ (xs : List Entry). count_by (is_run_on_one c.args.lost.now) xs) entries, less)
