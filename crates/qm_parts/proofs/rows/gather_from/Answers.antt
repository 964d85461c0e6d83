use Rattle.std.proofs.Common.{◌≡◌, ◌+◌, ◌<◌, ◌≤◌, ◌++◌, ◌∷◌, [], Bool, true, List, filter, get_or, length, map, take, ap, arith, sym, ◌∙◌}
use Rattle.std.proofs.lemmas.List.{length-append, length-map, get_or-map, take_all}
use Rattle.std.proofs.lemmas.List.Sums.{length-filter, count_by_more_yes}
use Rattle.qm_tables.specs.Boxed.{contents}
use Rattle.qm_model.specs.Common.{Entry, System, fits, no_system}
use Rattle.qm_match.specs.declared.order.Key.{Key}
use Rattle.qm_match.specs.Keys.{key_of}
use Rattle.qm_ready.specs.Rows.{Row}
use Rattle.qm_parts.specs.Tables.{with_tables}
use Rattle.qm_parts.proofs.Reach.{count_take_le}
use Rattle.qm_parts.proofs.RowKeys.{key_taken, key_passed}
use Rattle.qm_parts.proofs.rows.gather_from.Goals as goal
use Rattle.qm_parts.proofs.rows.gather_from.Goals.{then-can_run, else-can_run}

pub add-requires : goal.add-requires
add-requires c =
    let es : List Entry = contents c.args.entries.now in
    let i = c.loop-boxed.boxed-index in
    let e : Entry = c.as_ref-entry.result.now in
    let p : Entry → Bool = λ x. fits (with_tables no_system c.args.tables.now) x c.args.queue.now in
    let within : i < length es = omega (arith, c.loop-boxed-test.true, length-map c.args.entries.now (λ b. b.value)) in
    let is : get_or es i e ≡ e =
    get_or-map (λ b. b.value) c.args.entries.now i c.boxed-item.result e c.loop-boxed-test.true ∙ ap (λ b. b.value) (sym c.boxed-item.is) ∙ sym c.as_ref-entry.ensures in
    let passes : p e ≡ true = sym (c.can_run.ensures.answer no_system) ∙ c.if-can_run.true in
    omega (
      arith,
      c.requires.room no_system,
      c.loop-boxed.invariant.room,
      ap (λ (ks : List Key). length ks) (c.loop-boxed.invariant.keys no_system),
      length-map (filter p (take i es)) key_of,
      length-filter p (take i es),
      count_by_more_yes p es i e within (ap p is ∙ passes),
      count_take_le p (i + 1) es,
    )

pub loop-boxed-preserved : goal.loop-boxed-preserved
loop-boxed-preserved c =
    let es : List Entry = contents c.args.entries.now in
    let i = c.loop-boxed.boxed-index in
    let e : Entry = c.as_ref-entry.result.now in
    let p : System → Entry → Bool = λ s x. fits (with_tables s c.args.tables.now) x c.args.queue.now in
    let within : i < length es = omega (arith, c.loop-boxed-test.true, length-map c.args.entries.now (λ b. b.value)) in
    let is : get_or es i e ≡ e =
    get_or-map (λ b. b.value) c.args.entries.now i c.boxed-item.result e c.loop-boxed-test.true ∙ ap (λ b. b.value) (sym c.boxed-item.is) ∙ sym c.as_ref-entry.ensures in
    elim c.if-can_run.branch [
      | then-can_run w ↦
          let added = w.gathering-is ∙ w.add.ensures in
          let passes : p no_system e ≡ true = sym (c.can_run.ensures.answer no_system) ∙ w.if-can_run.true in
          let some : 0 < c.loop-boxed.gathering.spare = omega (
            arith,
            c.requires.room no_system,
            c.loop-boxed.invariant.room,
            ap (λ (ks : List Key). length ks) (c.loop-boxed.invariant.keys no_system),
            length-map (filter (p no_system) (take i es)) key_of,
            length-filter (p no_system) (take i es),
            count_by_more_yes (p no_system) es i e within (ap (p no_system) is ∙ passes),
            count_take_le (p no_system) (i + 1) es,
          ) in
          let longer = length-append c.loop-boxed.gathering.keys (w.of.result ∷ []) in
          let keys = ap (λ (r : Row). length r.keys) added in
          record {
            keys = λ s.
                ap (λ (r : Row). r.keys) added ∙ ap (λ (k : Key). c.loop-boxed.gathering.keys ++ k ∷ []) w.of.ensures
                ∙ ap (λ (ks : List Key). ks ++ key_of e ∷ []) (c.loop-boxed.invariant.keys s) ∙ key_taken (p s) es i e within is (sym (c.can_run.ensures.answer s) ∙ w.if-can_run.true);
            schedule = ap (λ (r : Row). r.schedule) added ∙ c.loop-boxed.invariant.schedule;
            room = omega (arith, c.loop-boxed.invariant.room, some, ap (λ (r : Row). r.spare) added, keys, longer);
            last = c.can_run.ensures.last;
          }
      | else-can_run w ↦
          record {
            keys = λ s. ap (λ (r : Row). r.keys) w.gathering-is ∙ c.loop-boxed.invariant.keys s ∙ key_passed (p s) es i e within is (sym (c.can_run.ensures.answer s) ∙ w.if-can_run.false);
            schedule = ap (λ (r : Row). r.schedule) w.gathering-is ∙ c.loop-boxed.invariant.schedule;
            room = omega (arith, c.loop-boxed.invariant.room, ap (λ (r : Row). r.spare) w.gathering-is, ap (λ (r : Row). length r.keys) w.gathering-is);
            last = c.can_run.ensures.last;
          }
    ]

pub returns-clause-keys : goal.returns-clause-keys
returns-clause-keys c s =
    let es : List Entry = contents c.args.entries.now in
    let all : length es ≤ c.loop-boxed.boxed-index = omega (arith, c.loop-boxed-test.false, length-map c.args.entries.now (λ b. b.value)) in
    c.loop-boxed.invariant.keys s ∙ ap (λ (l : List Entry). map key_of (filter (λ e. fits (with_tables s c.args.tables.now) e c.args.queue.now) l)) (take_all c.loop-boxed.boxed-index es all)
