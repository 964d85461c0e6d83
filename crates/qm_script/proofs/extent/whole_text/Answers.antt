use Rattle.std.proofs.Common.{◌≡◌, ◌+◌, ◌-◌, ◌++◌, ◌∷◌, [], ℕ, List, true, false, None, Some, nat_eq, take, drop, length, position, refl, sym, ◌∙◌, ap, arith, length-append}
use Rattle.std.specs.List.{ends_with}
use Rattle.qm_history.specs.Lines.{lines_from}
use Rattle.qm_script.specs.Extents.{is_feed, joined, lines_with, parts_of}
use Rattle.qm_script.proofs.Going.{behind_is, ends_never, ends_there, goes_at_first, goes_longer, joins_longer, longer, longer_long, part_is, rest_is, taken_is, whole_longer, within}
use Rattle.qm_script.proofs.extent.whole_text.Goals as goal

pub loop-place-init : goal.loop-place-init
loop-place-init c = record {
  front = [];
  behind = c.args.script.now;
  whole = refl;
  at = refl;
  goes = goes_at_first c.args.script.now;
  joins = λ y. refl;
  few = omega arith;
  inside = omega arith;
}

pub loop-place-preserved : goal.loop-place-preserved
loop-place-preserved c =
    let inv = c.loop-place.invariant in
    let script = c.args.script.now in
    let place = c.in-Some.place in
    let found : Some place ≡ position is_feed inv.behind = sym c.in-Some.is ∙ c.line_feed.ensures.value ∙ ap (position is_feed) (behind_is script inv.front inv.behind c.loop-place.at inv.whole inv.at) in
    let goes : ends_with nat_eq (take place inv.behind) (45 ∷ []) ≡ true =
    ap (λ (p : List ℕ). ends_with nat_eq p (45 ∷ [])) (sym (part_is script inv.front inv.behind c.loop-place.at inv.whole inv.at place))
    ∙ sym c.ends_with.ensures.value ∙ c.if-not-ends_with.false in
    let long = longer_long inv.front inv.behind place found goes in
    let bytes = ap length inv.whole in
    record {
      front = longer inv.front inv.behind place found goes;
      behind = drop (place + 1) inv.behind;
      whole = inv.whole ∙ whole_longer inv.front inv.behind place found goes;
      at = omega (arith, inv.at, long);
      goes = λ names number at begun.
          inv.goes names number at begun ∙ goes_longer inv.front inv.behind place found goes inv.joins names number (at + c.loop-place.lines) begun
          ∙ ap (λ (k : ℕ). lines_from names (Some (number, begun ++ joined (longer inv.front inv.behind place found goes))) k (parts_of (drop (place + 1) inv.behind))) (omega arith);
      joins = joins_longer inv.front inv.behind place found goes;
      few = omega (arith, inv.few);
      inside = omega (arith, inv.at, within inv.front inv.behind place found, bytes, length-append inv.front inv.behind);
    }

pub returns-then-not-ends_with-clause-text : goal.returns-then-not-ends_with-clause-text
returns-then-not-ends_with-clause-text c names number at begun =
    let inv = c.loop-place.invariant in
    let script = c.args.script.now in
    let place = c.in-Some.place in
    let found : Some place ≡ position is_feed inv.behind = sym c.in-Some.is ∙ c.line_feed.ensures.value ∙ ap (position is_feed) (behind_is script inv.front inv.behind c.loop-place.at inv.whole inv.at) in
    let goes : ends_with nat_eq (take place inv.behind) (45 ∷ []) ≡ false =
    ap (λ (p : List ℕ). ends_with nat_eq p (45 ∷ [])) (sym (part_is script inv.front inv.behind c.loop-place.at inv.whole inv.at place))
    ∙ sym c.ends_with.ensures.value ∙ c.if-not-ends_with.true in
    inv.goes names number at begun ∙ ends_there inv.front inv.behind place found inv.joins goes names number (at + c.loop-place.lines) begun
    ∙ ap (λ (t : List ℕ). lines_with names number (begun ++ joined t) (at + c.loop-place.lines + 1) true (drop (place + 1) inv.behind))
    (sym (taken_is script inv.front inv.behind c.loop-place.at inv.whole inv.at place))
    ∙ ap (λ (r : List ℕ). lines_with names number (begun ++ joined (take (c.loop-place.at + place) script)) (at + c.loop-place.lines + 1) true r)
    (sym (rest_is script inv.front inv.behind c.loop-place.at inv.whole inv.at place))
    ∙ ap (λ (k : ℕ). lines_with names number (begun ++ joined (take (c.loop-place.at + place) script)) k true
    (take (length script - (c.loop-place.at + place + 1)) (drop (c.loop-place.at + place + 1) script))) (omega arith)

pub returns-clause-text : goal.returns-clause-text
returns-clause-text c names number at begun =
    let inv = c.loop-place.invariant in
    let script = c.args.script.now in
    let none : None ≡ position is_feed inv.behind = sym c.in_default.is ∙ c.line_feed.ensures.value ∙ ap (position is_feed) (behind_is script inv.front inv.behind c.loop-place.at inv.whole inv.at) in
    inv.goes names number at begun ∙ ends_never inv.front inv.behind [] none inv.joins names number (at + c.loop-place.lines) (at + c.loop-place.lines) begun
    ∙ ap (λ (s : List ℕ). lines_with names number (begun ++ joined s) (at + c.loop-place.lines) false []) (sym inv.whole)
