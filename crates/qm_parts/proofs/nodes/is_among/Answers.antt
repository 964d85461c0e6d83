use Rattle.std.proofs.Common.{◌∙◌, ◌<◌, ℕ, Bool, List, length, arith, sym, bytes_eq}
use Rattle.qm_parts.proofs.Searches.{any_here, none_more, none_of_all}
use Rattle.qm_parts.proofs.nodes.is_among.Goals as goal

pub returns-then-eq : goal.returns-then-eq
returns-then-eq c =
    let all : List (List ℕ) = c.args.names.now in
    let p : (List ℕ) → Bool = (bytes_eq c.args.name.now) in
    let within : c.loop-other.other-index < length all = omega arith in
    any_here p all c.loop-other.other-index c.other-item.result within c.other-item.is (sym c.eq.ensures ∙ c.if-eq.true)

pub loop-other-preserved : goal.loop-other-preserved
loop-other-preserved c =
    let all : List (List ℕ) = c.args.names.now in
    let p : (List ℕ) → Bool = (bytes_eq c.args.name.now) in
    let within : c.loop-other.other-index < length all = omega arith in
    none_more p all c.loop-other.other-index c.other-item.result within c.other-item.is c.loop-other.invariant (sym c.eq.ensures ∙ c.if-eq.false)

pub returns : goal.returns
returns c = none_of_all (bytes_eq c.args.name.now) c.loop-other.other-index c.args.names.now c.loop-other.invariant (omega (arith, c.loop-other-test.false))
