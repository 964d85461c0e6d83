use Rattle.std.proofs.Common.{◌≤◌, ◌<◌, ◌+◌, ◌/◌, ◌-◌, Result, Ok, Err, OnErr, length, vec_len, vec_capacity, ap, arith}
use Rattle.std.proofs.lemmas.Result.{on_ok_weaker, on_err_weaker}
use Rattle.qm_match.specs.declared.order.Key.{Key}
use Rattle.qm_ready.specs.Tiers.{Tiered}
use Rattle.qm_ready.specs.declared.moves.TheConstants.{TIER}
use Rattle.qm_ready.proofs.Tiered.{length-laid}
use Rattle.qm_ready.proofs.tiers.Tiers.reserve.Goals as goal

on_any_err : {T E P : Type 0} (r : Result T E) → P → OnErr r P
on_any_err (Ok x) p = tt
on_any_err (Err e) p = p

pub returns-in_err-reserve_exact-clause-err : goal.returns-in_err-reserve_exact-clause-err
returns-in_err-reserve_exact-clause-err c =
    let seen = ap (λ (t : Tiered Key). length t.list) c.self.view_is in
    let capacity = ap (λ (t : Tiered Key). t.capacity) c.self.view_is in
    on_any_err c.from_residual.result (omega (arith, seen, capacity, c.in_err-reserve_exact.ensures.full, length-laid TIER c.self.inside.heads.items c.self.inside.keys.items, c.self.inside.keys.ok))

pub returns-clause-ok : goal.returns-clause-ok
returns-clause-ok c =
    let xs = c.reserve_exact.new.self.items in
    let same = ap length c.reserve_exact.ensures.items in
    on_ok_weaker c.reserve_exact-2.result
    (λ (room : vec_len c.reserve_exact-2.new.self + ((c.len.result + c.args.count) / 512 - c.len-2.result) ≤ vec_capacity c.reserve_exact-2.new.self).
    omega (arith, room, same, c.in_ok-reserve_exact.ensures.ok, length-laid TIER c.reserve_exact-2.new.self.items xs, c.reserve_exact.new.self.ok, c.self.inside.keys.ok))
    c.reserve_exact-2.ensures.ok

pub returns-clause-err : goal.returns-clause-err
returns-clause-err c =
    let seen = ap (λ (t : Tiered Key). length t.list) c.self.view_is in
    let capacity = ap (λ (t : Tiered Key). t.capacity) c.self.view_is in
    on_err_weaker c.reserve_exact-2.result
    (λ (full : vec_capacity c.self.inside.heads < vec_len c.self.inside.heads + ((c.len.result + c.args.count) / 512 - c.len-2.result)).
    omega (arith, full, seen, capacity, length-laid TIER c.self.inside.heads.items c.self.inside.keys.items, c.self.inside.keys.ok, c.self.inside.heads.ok, c.reserve_exact.ensures.len))
    c.reserve_exact-2.ensures.full
