-- A reader looks at no byte behind the place where it ends or fails.
use Rattle.std.proofs.Common.{◌≡◌, ℕ, ◌≤◌, Bool, true, false, cond, List, Ok, Err, refl, sym, ap, ◌∙◌, arith, is_none, Result, ◌==◌}
use Rattle.std.specs.Option.{option_map_or}
use Rattle.qm_time.specs.declared.number.Number.{Number}
use Rattle.qm_time.specs.declared.fault.TimeFault.{TimeFault}
use Rattle.qm_time.specs.declared.fault.TimeFault.TheVariants.{Form}
use Rattle.qm_time.specs.Numbers.{and_then, stands, ends, digit_of, digit_at}
use Rattle.qm_time.specs.Laws.{SameUpTo}

pub same_less : (place more : ℕ) (text other : List ℕ) → place ≤ more → SameUpTo more text other → SameUpTo place text other
same_less place more text other low same = record { each = λ k few. same.each k (omega (arith, few, low)) }

pub stands-same : (text other : List ℕ) (place b : ℕ) → SameUpTo place text other → stands text place b ≡ stands other place b
unfolding stands
stands-same text other place b same = ap (λ o. option_map_or (λ c. c == b) o false) (same.each place (omega arith))

pub ends-same : (text other : List ℕ) (place : ℕ) → SameUpTo place text other → ends text place ≡ ends other place
unfolding ends
ends-same text other place same = ap is_none (same.each place (omega arith))

pub digit-same : (text other : List ℕ) (place : ℕ) → SameUpTo place text other → digit_at text place ≡ digit_at other place
unfolding digit_at
digit-same text other place same = ap digit_of (same.each place (omega arith))

-- what is read from a place on depends on the bytes up to its end, and a fault on those up to its place
pub record Reads {A : Type 0} (from : ℕ) (end : A → ℕ) (read : List ℕ → Result A TimeFault) : Type 0 where
  pub ok : (text other : List ℕ) (a : A) → read text ≡ Ok a → SameUpTo (end a) text other → read other ≡ Ok a
  pub err : (text other : List ℕ) (p : ℕ) → read text ≡ Err (Form p) → SameUpTo p text other → read other ≡ Err (Form p)
  pub ok_from : (text : List ℕ) (a : A) → read text ≡ Ok a → from ≤ end a
  pub err_from : (text : List ℕ) (p : ℕ) → read text ≡ Err (Form p) → from ≤ p

-- the same of the faults alone
pub record Fails {A : Type 0} (from : ℕ) (read : List ℕ → Result A TimeFault) : Type 0 where
  pub err : (text other : List ℕ) (p : ℕ) → read text ≡ Err (Form p) → SameUpTo p text other → read other ≡ Err (Form p)
  pub err_from : (text : List ℕ) (p : ℕ) → read text ≡ Err (Form p) → from ≤ p

abbrev pub number_end : Number → ℕ
number_end n = n.end

-- a value takes no byte
pub value : {A : Type 0} (from : ℕ) (end : A → ℕ) (a : A) → from ≤ end a → Reads from end (λ text. Ok a)
value from end a low = record {
  ok = λ text other b e same. e;
  err = λ text other p e same. absurd cc;
  ok_from = λ text b e. let is : a ≡ b = cc in rw (← is) low;
  err_from = λ text p e. absurd cc;
}

-- nor does a fault
pub fault : {A : Type 0} (from : ℕ) (end : A → ℕ) (place : ℕ) → from ≤ place → Reads from end (λ text. Err (Form place))
fault from end place low = record {
  ok = λ text other b e same. absurd cc;
  err = λ text other p e same. e;
  ok_from = λ text b e. absurd cc;
  err_from = λ text p e. let is : place ≡ p = cc in rw (← is) low;
}

-- a reader that goes on from further on
pub later : {A : Type 0} (from more : ℕ) (end : A → ℕ) (read : List ℕ → Result A TimeFault) → from ≤ more → Reads more end read → Reads from end read
later from more end read low r = record {
  ok = r.ok;
  err = r.err;
  ok_from = λ text a e. omega (arith, low, r.ok_from text a e);
  err_from = λ text p e. omega (arith, low, r.err_from text p e);
}

-- ---- one reader after another

ok_after : {A B : Type 0} (from : ℕ) (endA : A → ℕ) (endB : B → ℕ) (first : List ℕ → Result A TimeFault) (next : A → List ℕ → Result B TimeFault) → Reads from endA first → ((a : A) → Reads (endA a) endB (next a))
    → (text other : List ℕ) (b : B) (r : Result A TimeFault) → first text ≡ r → and_then r (λ a. next a text) ≡ Ok b → SameUpTo (endB b) text other → and_then (first other) (λ a. next a other) ≡ Ok b
ok_after from endA endB first next f n text other b (Ok a) e g same =
    rw (f.ok text other a e (same_less (endA a) (endB b) text other ((n a).ok_from text b g) same)) ((n a).ok text other b g same)
ok_after from endA endB first next f n text other b (Err x) e g same = absurd cc

err_after : {A B : Type 0} (from : ℕ) (endA : A → ℕ) (first : List ℕ → Result A TimeFault) (next : A → List ℕ → Result B TimeFault) → Reads from endA first → ((a : A) → Fails (endA a) (next a))
    → (text other : List ℕ) (p : ℕ) (r : Result A TimeFault) → first text ≡ r → and_then r (λ a. next a text) ≡ Err (Form p) → SameUpTo p text other → and_then (first other) (λ a. next a other) ≡ Err (Form p)
err_after from endA first next f n text other p (Ok a) e g same =
    rw (f.ok text other a e (same_less (endA a) p text other ((n a).err_from text p g) same)) ((n a).err text other p g same)
err_after from endA first next f n text other p (Err x) e g same =
    let is : x ≡ Form p = cc in
    rw (f.err text other p (e ∙ ap (λ y. Err y) is) same) refl

ok_from_after : {A B : Type 0} (from : ℕ) (endA : A → ℕ) (endB : B → ℕ) (first : List ℕ → Result A TimeFault) (next : A → List ℕ → Result B TimeFault) → Reads from endA first → ((a : A) → Reads (endA a) endB (next a))
    → (text : List ℕ) (b : B) (r : Result A TimeFault) → first text ≡ r → and_then r (λ a. next a text) ≡ Ok b → from ≤ endB b
ok_from_after from endA endB first next f n text b (Ok a) e g = omega (arith, f.ok_from text a e, (n a).ok_from text b g)
ok_from_after from endA endB first next f n text b (Err x) e g = absurd cc

err_from_after : {A B : Type 0} (from : ℕ) (endA : A → ℕ) (first : List ℕ → Result A TimeFault) (next : A → List ℕ → Result B TimeFault) → Reads from endA first → ((a : A) → Fails (endA a) (next a))
    → (text : List ℕ) (p : ℕ) (r : Result A TimeFault) → first text ≡ r → and_then r (λ a. next a text) ≡ Err (Form p) → from ≤ p
err_from_after from endA first next f n text p (Ok a) e g = omega (arith, f.ok_from text a e, (n a).err_from text p g)
err_from_after from endA first next f n text p (Err x) e g =
    let is : x ≡ Form p = cc in f.err_from text p (e ∙ ap (λ y. Err y) is)

pub fails : {A : Type 0} (from : ℕ) (end : A → ℕ) (read : List ℕ → Result A TimeFault) → Reads from end read → Fails from read
fails from end read r = record { err = r.err; err_from = r.err_from }

pub after : {A B : Type 0} (from : ℕ) (endA : A → ℕ) (endB : B → ℕ) (first : List ℕ → Result A TimeFault) (next : A → List ℕ → Result B TimeFault) → Reads from endA first → ((a : A) → Reads (endA a) endB (next a)) → Reads from endB (λ text. and_then (first text) (λ a. next a text))
after from endA endB first next f n = record {
  ok = λ text other b g same. ok_after from endA endB first next f n text other b (first text) refl g same;
  err = λ text other p g same. err_after from endA first next f (λ a. fails (endA a) endB (next a) (n a)) text other p (first text) refl g same;
  ok_from = λ text b g. ok_from_after from endA endB first next f n text b (first text) refl g;
  err_from = λ text p g. err_from_after from endA first next f (λ a. fails (endA a) endB (next a) (n a)) text p (first text) refl g;
}

pub fails_after : {A B : Type 0} (from : ℕ) (endA : A → ℕ) (first : List ℕ → Result A TimeFault) (next : A → List ℕ → Result B TimeFault) → Reads from endA first → ((a : A) → Fails (endA a) (next a)) → Fails from (λ text. and_then (first text) (λ a. next a text))
fails_after from endA first next f n = record {
  err = λ text other p g same. err_after from endA first next f n text other p (first text) refl g same;
  err_from = λ text p g. err_from_after from endA first next f n text p (first text) refl g;
}

-- ---- one reader or another, by what stands at a place

-- a test that looks at no byte behind a place
pub record Looks (place : ℕ) (test : List ℕ → Bool) : Type 0 where
  pub same : (text other : List ℕ) → SameUpTo place text other → test text ≡ test other

err_either : {A : Type 0} (at from : ℕ) (test : List ℕ → Bool) (x y : List ℕ → Result A TimeFault) → Looks at test → at ≤ from → Fails from x → Fails from y
    → (text other : List ℕ) (p : ℕ) (b : Bool) → test text ≡ b → cond b (x text) (y text) ≡ Err (Form p) → SameUpTo p text other → cond (test other) (x other) (y other) ≡ Err (Form p)
err_either at from test x y look low f g text other p true t e same =
    rw (sym (look.same text other (same_less at p text other (omega (arith, low, f.err_from text p e)) same)) ∙ t) (f.err text other p e same)
err_either at from test x y look low f g text other p false t e same =
    rw (sym (look.same text other (same_less at p text other (omega (arith, low, g.err_from text p e)) same)) ∙ t) (g.err text other p e same)

err_from_either : {A : Type 0} (from : ℕ) (x y : List ℕ → Result A TimeFault) → Fails from x → Fails from y → (text : List ℕ) (p : ℕ) (b : Bool) → cond b (x text) (y text) ≡ Err (Form p) → from ≤ p
err_from_either from x y f g text p true e = f.err_from text p e
err_from_either from x y f g text p false e = g.err_from text p e

ok_either : {A : Type 0} (at from : ℕ) (end : A → ℕ) (test : List ℕ → Bool) (x y : List ℕ → Result A TimeFault) → Looks at test → at ≤ from → Reads from end x → Reads from end y
    → (text other : List ℕ) (a : A) (b : Bool) → test text ≡ b → cond b (x text) (y text) ≡ Ok a → SameUpTo (end a) text other → cond (test other) (x other) (y other) ≡ Ok a
ok_either at from end test x y look low f g text other a true t e same =
    rw (sym (look.same text other (same_less at (end a) text other (omega (arith, low, f.ok_from text a e)) same)) ∙ t) (f.ok text other a e same)
ok_either at from end test x y look low f g text other a false t e same =
    rw (sym (look.same text other (same_less at (end a) text other (omega (arith, low, g.ok_from text a e)) same)) ∙ t) (g.ok text other a e same)

ok_from_either : {A : Type 0} (from : ℕ) (end : A → ℕ) (x y : List ℕ → Result A TimeFault) → Reads from end x → Reads from end y → (text : List ℕ) (a : A) (b : Bool) → cond b (x text) (y text) ≡ Ok a → from ≤ end a
ok_from_either from end x y f g text a true e = f.ok_from text a e
ok_from_either from end x y f g text a false e = g.ok_from text a e

pub either : {A : Type 0} (at from : ℕ) (end : A → ℕ) (test : List ℕ → Bool) (x y : List ℕ → Result A TimeFault) → Looks at test → at ≤ from → Reads from end x → Reads from end y → Reads from end (λ text. cond (test text) (x text) (y text))
either at from end test x y look low f g = record {
  ok = λ text other a e same. ok_either at from end test x y look low f g text other a (test text) refl e same;
  err = λ text other p e same. err_either at from test x y look low (fails from end x f) (fails from end y g) text other p (test text) refl e same;
  ok_from = λ text a e. ok_from_either from end x y f g text a (test text) e;
  err_from = λ text p e. err_from_either from x y (fails from end x f) (fails from end y g) text p (test text) e;
}

pub fails_either : {A : Type 0} (at from : ℕ) (test : List ℕ → Bool) (x y : List ℕ → Result A TimeFault) → Looks at test → at ≤ from → Fails from x → Fails from y → Fails from (λ text. cond (test text) (x text) (y text))
fails_either at from test x y look low f g = record {
  err = λ text other p e same. err_either at from test x y look low f g text other p (test text) refl e same;
  err_from = λ text p e. err_from_either from x y f g text p (test text) e;
}
