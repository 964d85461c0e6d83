use Rattle.std.proofs.Common.{◌≡◌, ◌+◌, ◌-◌, ◌++◌, ◌∷◌, [], map, sym, ap, ◌∙◌, arith}
use Rattle.std.specs.List.{range_with_len}
use Rattle.std.proofs.lemmas.List.FromFn.{map-range_with_len_more}
use Rattle.qm_turn.specs.Turns.{fresh}
use Rattle.qm_turn.specs.Rule.{known, one_given, newcomer}
use Rattle.qm_turn.proofs.Splitting.{splits, new_pass}
use Rattle.qm_turn.proofs.turnstile.Turnstile.split.Goals as goal

pub split_seat-seat-requires : goal.split_seat-seat-requires
split_seat-seat-requires g c =
    let kept = c.loop-number.invariant in (
      kept.0 ∙ sym (ap (λ v. v.place) c.self.view_is),
      omega (arith, c.self.invariant),
      splits g.V.Told.stands c.self.inside.table.shared.key c.loop-number.first.id c.loop-number._number c.loop-number.first.me.0 (ap (λ m. m.0) kept.1) (omega arith) (let p = ap (λ v. v.passes) c.self.view_is in let q = c.requires.count.1 in omega arith),
    )

pub loop-number-preserved : goal.loop-number-preserved
loop-number-preserved g c =
    let kept = c.loop-number.invariant in
    let e = c.split_seat-seat.ensures in
    let n = c.loop-number._number in
    let place = c.args.self.now.place in
    let given = ap (λ m. newcomer m.0) kept.1 in
    let made = ap (λ m. m.0) e.4 ∙ given in
    let same = new_pass c.split_seat-seat.result.table_id place c.split_seat-seat.result.me.0 n (e.3 ∙ kept.0) made in
    let more = map-range_with_len_more (fresh place) 1 (n - 1) n (omega arith) in
    let count : (n - 1) + 1 ≡ n + 1 - 1 = omega arith in (
      e.0 ∙ kept.0,
      e.2 ∙ ap (λ m. (one_given m.0, m.1)) kept.1,
      omega arith,
      omega arith,
      c.push_reserved.ensures.items ∙ ap (λ l. l ++ known c.split_seat-seat.result.table_id c.split_seat-seat.result.me.0 ∷ []) kept.4 ∙ ap (λ p. map (fresh place) (range_with_len 1 (n - 1)) ++ p ∷ []) same ∙ sym more ∙ ap (λ m. map (fresh place) (range_with_len 1 m)) count,
    )
