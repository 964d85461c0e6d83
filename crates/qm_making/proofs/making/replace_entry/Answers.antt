use Rattle.std.proofs.Common.{◌≡◌, Option, None, Some, IfSome, refl, option_and_then}
use Rattle.qm_model.specs.Common.{Entry, entry_numbered}
use Rattle.qm_image.proofs.Changed.{file_is_kept, waiting_there}
use Rattle.qm_parts.specs.Mirror.{run_of_entry}
use Rattle.qm_image.specs.Timers.{moment_in}
use Rattle.qm_image.proofs.Runless.{runless}
use Rattle.qm_image.proofs.Timed.{room_for}
use Rattle.qm_making.proofs.making.replace_entry.Goals as goal

if_any : {P : Entry → Type 0} (o : Option Entry) → ((e : Entry) → P e) → IfSome o P
if_any None all = tt
if_any (Some e) all = all e

pub leave-requires-clause-left : goal.leave-requires-clause-left
leave-requires-clause-left c = record {
  there = waiting_there c.args.entry.number c.args.image.now.parts.entries c.requires.ready.waits;
  number_stays = refl;
  file_stays = file_is_kept c.args.entry c.args.image.now.parts.entries (entry_numbered c.args.entry.number c.args.image.now.parts.entries) refl c.requires.ready.file;
  run_stays = runless c.args.entry c.requires.ready.idle (λ r. option_and_then run_of_entry (entry_numbered c.args.entry.number c.args.image.now.parts.entries) ≡ Some r);
}

pub leave-requires-clause-place : goal.leave-requires-clause-place
leave-requires-clause-place c = if_any (entry_numbered c.args.entry.number c.args.image.now.parts.entries) (λ old other. c.requires.ready.places)

pub leave-requires-clause-timer : goal.leave-requires-clause-timer
leave-requires-clause-timer c = room_for c.args.image.now.parts.spare_timers (moment_in c.args.entry.state) c.requires.ready.timer
