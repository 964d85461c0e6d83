use Rattle.std.proofs.Common.{◌≡◌, ℕ, ◌<◌, map, take, get_or}
use Rattle.qm_history.specs.Common.{Record, record_text, HasSpelling, contents}
use Rattle.qm_store.proofs.making.spell.Given as goal

abbrev pub invariant-loop-row : goal.invariant-loop-row
invariant-loop-row l = record {
  bodies : contents l.bodies.items ≡ map record_text (take l.row-index l.rows);
  lawful : (k : ℕ) (d : Record) → k < l.row-index → HasSpelling (get_or l.rows k d);
}
