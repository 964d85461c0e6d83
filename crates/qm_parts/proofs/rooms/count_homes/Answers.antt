use Rattle.std.proofs.Common.{◌≡◌, ◌<◌, ◌≤◌, Bool, List, get_or, length, count_by, ap, arith, sym, ◌∙◌}
use Rattle.std.proofs.lemmas.List.{length-map, get_or-map, take_all}
use Rattle.std.proofs.lemmas.List.Sums.{count_by_more_yes, count_by_more_no}
use Rattle.qm_tables.specs.Boxed.{contents}
use Rattle.qm_kinds.specs.declared.entry.Entry.{Entry}
use Rattle.qm_parts.specs.Rooms.{is_home}
use Rattle.qm_parts.proofs.rooms.count_homes.Goals as goal
use Rattle.qm_parts.proofs.rooms.count_homes.Goals.{then-is_home, else-is_home}

pub loop-boxed-preserved : goal.loop-boxed-preserved
loop-boxed-preserved c =
    let es : List Entry = contents c.args.entries.now in
    let i = c.loop-boxed.boxed-index in
    let e : Entry = c.as_ref-entry.result.now in
    let p : Entry → Bool = is_home c.args.home.now in
    let within : i < length es = omega (arith, c.loop-boxed-test.true, length-map c.args.entries.now (λ b. b.value)) in
    let is : get_or es i e ≡ e =
    get_or-map (λ b. b.value) c.args.entries.now i c.boxed-item.result e c.loop-boxed-test.true ∙ ap (λ b. b.value) (sym c.boxed-item.is) ∙ sym c.as_ref-entry.ensures in
    elim c.if-is_home.branch [
      | then-is_home w ↦
          record {
            count = omega (arith, w.count-is, c.loop-boxed.invariant.count, count_by_more_yes p es i e within (ap p is ∙ sym c.is_home.ensures ∙ w.if-is_home.true));
            few = omega (arith, w.count-is, c.loop-boxed.invariant.few);
          }
      | else-is_home w ↦
          record {
            count = omega (arith, w.count-is, c.loop-boxed.invariant.count, count_by_more_no p es i e within (ap p is ∙ sym c.is_home.ensures ∙ w.if-is_home.false));
            few = omega (arith, w.count-is, c.loop-boxed.invariant.few);
          }
    ]

pub returns : goal.returns
returns c =
    let es : List Entry = contents c.args.entries.now in
    let all : length es ≤ c.loop-boxed.boxed-index = omega (arith, c.loop-boxed-test.false, length-map c.args.entries.now (λ b. b.value)) in
    c.loop-boxed.invariant.count ∙ ap (λ (l : List Entry). count_by (is_home c.args.home.now) l) (take_all c.loop-boxed.boxed-index es all)
