-- Packed names stand in front of the bytes behind them.
use Rattle.std.proofs.Common.{◌≡◌, ◌≤◌, ℕ, ◌+◌, ◌-◌, List, Option, None, Some, IfSome, refl, take, drop, arith, ap, ◌∙◌}
use Rattle.std.proofs.lemmas.List.{drop-take, take-take}
use Rattle.qm_kinds.specs.Packed.{AreWithin, IsWithin, names_at, text_at, text_if_at}
use Rattle.qm_kinds.specs.declared.packed.Span.{Span}
use Rattle.qm_kinds.specs.declared.packed.Spans.{Spans}

text_in_front : (end : ℕ) (bytes : List ℕ) (span : Span) → IsWithin end span → text_at (take end bytes) span ≡ text_at bytes span
text_in_front end bytes span is =
    let split : end ≡ span.from + (end - span.from) = omega (arith, is.order, is.within) in
    ap (λ n. take (span.to - span.from) (drop span.from (take n bytes))) split
    ∙ ap (take (span.to - span.from)) (drop-take span.from (end - span.from) bytes)
    ∙ take-take (span.to - span.from) (end - span.from) (drop span.from bytes) (omega (arith, is.order, is.within))

text_if_in_front : (end : ℕ) (bytes : List ℕ) (span : Option Span) → IfSome span (IsWithin end) → text_if_at (take end bytes) span ≡ text_if_at bytes span
text_if_in_front end bytes None is = refl
text_if_in_front end bytes (Some span) is = ap Some (text_in_front end bytes span is)

-- names that stand in front of a place are there without the bytes behind it
pub names_in_front : (end : ℕ) (bytes : List ℕ) (s : Spans) → AreWithin end s → names_at (take end bytes) s ≡ names_at bytes s
names_in_front end bytes s are =
    let home = text_in_front end bytes s.home are.home in
    let name = text_in_front end bytes s.name are.name in
    let user = text_in_front end bytes s.user are.user in
    let file = text_in_front end bytes s.file are.file in
    let extension = text_if_in_front end bytes s.extension are.extension in
    let form = text_if_in_front end bytes s.form are.form in
    cc

further : (end more : ℕ) (span : Span) → end ≤ more → IsWithin end span → IsWithin more span
further end more span fits is = record { order = is.order; within = omega (arith, fits, is.within) }

further_if : (end more : ℕ) (span : Option Span) → end ≤ more → IfSome span (IsWithin end) → IfSome span (IsWithin more)
further_if end more None fits is = is
further_if end more (Some span) fits is = further end more span fits is

-- spans in front of a place are in front of a later one
pub all_further : (end more : ℕ) (s : Spans) → end ≤ more → AreWithin end s → AreWithin more s
all_further end more s fits are = record {
  home = further end more s.home fits are.home;
  name = further end more s.name fits are.name;
  user = further end more s.user fits are.user;
  file = further end more s.file fits are.file;
  extension = further_if end more s.extension fits are.extension;
  form = further_if end more s.form fits are.form;
}
