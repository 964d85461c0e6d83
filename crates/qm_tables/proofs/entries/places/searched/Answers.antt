use Rattle.std.proofs.Common.{◌<◌, List, length, arith}
use Rattle.qm_kinds.specs.declared.entry.Entry.{Entry}
use Rattle.qm_tables.specs.Boxed.{contents}
use Rattle.qm_tables.proofs.Narrowed.{lesser_to_it, greater_from_it, stands_there}
use Rattle.qm_tables.proofs.entries.places.searched.Goals as goal
use Rattle.qm_tables.proofs.entries.places.searched.Goals.{then-there-number-2, else-there-number-2}

pub returns-then-there-number : goal.returns-then-there-number
returns-then-there-number c =
    let es : List Entry = contents c.args.boxes.now in
    let within : c.probe-place.result < length es = omega (arith, c.probe-place.ensures.high, c.loop-span.invariant.within) in
    stands_there es c.requires c.probe-place.result c.number_at-there.result c.number_at-there.ensures within c.args.number c.if-there-number.true

pub loop-span-preserved : goal.loop-span-preserved
loop-span-preserved c =
    let es : List Entry = contents c.args.boxes.now in
    let within : c.probe-place.result < length es = omega (arith, c.probe-place.ensures.high, c.loop-span.invariant.within) in
    elim c.if-there-number-2.branch [
      | then-there-number-2 w ↦
          rw w.span-is (record {
            order = omega (arith, c.probe-place.ensures.high);
            within = c.loop-span.invariant.within;
            before = lesser_to_it es c.requires c.probe-place.result c.number_at-there.result c.number_at-there.ensures within c.args.number w.if-there-number-2.true;
            behind = c.loop-span.invariant.behind;
          })
      | else-there-number-2 w ↦
          rw w.span-is (record {
            order = c.probe-place.ensures.low;
            within = omega (arith, within);
            before = c.loop-span.invariant.before;
            behind = greater_from_it es c.requires c.probe-place.result c.number_at-there.result c.number_at-there.ensures within c.args.number (omega (arith, c.if-there-number.false, w.if-there-number-2.false));
          })
    ]
