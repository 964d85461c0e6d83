use Rattle.std.proofs.Common.{◌≡◌, ◌≤◌, length, refl, ap, arith, true, false}
use Rattle.qm_history.specs.Chest.{turns_kept}
use Rattle.qm_thread_cases.proofs.cases.drive_behind.Goals as goal

pub open-requires-clause-untouched : goal.open-requires-clause-untouched
open-requires-clause-untouched g c =
    let few : length c.args.recorder.asked.items ≤ turns_kept = (let none = ap length c.requires.none in omega (arith, none)) in
    record {
      turns = c.requires.none;
      legal = λ sure. (let no : false ≡ true = sure in cc);
      itself =
          record { first = c.args.recorder; first_is = c.requires.began; none = c.requires.none; serves = few; nodes = refl; few = few; calls = refl };
    }
