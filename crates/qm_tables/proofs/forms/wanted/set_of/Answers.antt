use Rattle.std.proofs.Common.{◌≡◌, ◌∙◌, ◌+◌, ◌*◌, ◌%◌, ◌^◌, ◌<◌, ◌≤◌, ℕ, List, length, get_or, take, Some, bit_or, ap, sym, subst, arith, IfSome}
use Rattle.std.proofs.Math.Nat.{mod-eq_of_lt}
use Rattle.std.proofs.Math.Pow.{pow-lt}
use Rattle.std.proofs.lemmas.List.Sums.{fold_more}
use Rattle.qm_model.specs.Common.{Characteristic, NameOrNumber, characteristic_wanted, is_characteristic}
use Rattle.qm_model.specs.Wanted.{set_of, with_characteristic}
use Rattle.qm_tables.proofs.FormsFound.{found_all}
use Rattle.qm_tables.proofs.forms.wanted.set_of.Goals as goal
use Rattle.qm_tables.proofs.forms.wanted.set_of.Goals.{in-Some, in_default}

-- a characteristic that was found has a number of at most 127
small_found : (defined : List Characteristic) (wanted : NameOrNumber) (x : Characteristic) → ((k : ℕ) (d : Characteristic) → k < length defined → (get_or defined k d).number ≤ 127) → Some x ≡ characteristic_wanted wanted defined → x.number ≤ 127
small_found defined wanted x numbers found = subst (λ o. IfSome o (λ (y : Characteristic). y.number ≤ 127)) (sym found) (found_all (λ (y : Characteristic). y.number ≤ 127) (is_characteristic wanted) defined numbers)

step : (defined : List Characteristic) (wanted : List NameOrNumber) (i : ℕ) (d : NameOrNumber) → i < length wanted → set_of defined (take (i + 1) wanted) ≡ with_characteristic (set_of defined (take i wanted)) (characteristic_wanted (get_or wanted i d) defined)
step defined wanted i d within = fold_more (λ set w. with_characteristic set (characteristic_wanted w defined)) 0 wanted i d within

shifted : (n : ℕ) → n < 128 → (1 * 2 ^ n) % 340282366920938463463374607431768211456 ≡ 2 ^ n
shifted n small =
    let e : 1 * 2 ^ n ≡ 2 ^ n = omega arith in
    ap (λ m. m % 340282366920938463463374607431768211456) e ∙ mod-eq_of_lt (pow-lt small)

pub overflow_shl-set : goal.overflow_shl-set
overflow_shl-set c = let h = small_found c.args.defined.now c.one-item.result c.in-Some.characteristic.now c.requires c.in-Some.ensures in omega (arith, h)

pub loop-one-preserved : goal.loop-one-preserved
loop-one-preserved c =
    let after = step c.args.defined.now c.args.wanted.now c.loop-one.one-index c.one-item.result c.loop-one-test.true in
    let read = ap (λ w. with_characteristic (set_of c.args.defined.now (take c.loop-one.one-index c.args.wanted.now)) (characteristic_wanted w c.args.defined.now)) c.one-item.is in
    elim c.match-find_characteristic.branch [
      | in-Some w ↦
          (let h = small_found c.args.defined.now c.one-item.result w.in-Some.characteristic.now c.requires w.in-Some.ensures in
          w.set-is ∙ ap (bit_or c.loop-one.set) (shifted w.in-Some.characteristic.now.number (omega (arith, h)))
          ∙ ap (λ s. with_characteristic s (Some w.in-Some.characteristic.now)) c.loop-one.invariant
          ∙ ap (with_characteristic (set_of c.args.defined.now (take c.loop-one.one-index c.args.wanted.now))) w.in-Some.ensures
          ∙ read ∙ sym after)
      | in_default w ↦
          w.set-is ∙ c.loop-one.invariant
          ∙ ap (with_characteristic (set_of c.args.defined.now (take c.loop-one.one-index c.args.wanted.now))) w.in_default.ensures
          ∙ read ∙ sym after
    ]
