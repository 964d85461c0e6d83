use Rattle.std.proofs.Common.{◌≡◌, ◌∙◌, ℕ, List, [], ◌∷◌, sym, ap}
use Rattle.std.proofs.lemmas.Slice.Eq.{bytes_eq-Decides}
use Rattle.qm_kinds.specs.Wildcards.{matches}
use Rattle.qm_scan.proofs.Anything.{any_name}
use Rattle.qm_scan.proofs.listed.is_named.Goals as goal

pub returns-then-eq : goal.returns-then-eq
returns-then-eq c =
    let same : c.args.pattern.now ≡ 42 ∷ [] =
    sym c.as_bytes.ensures.value ∙ (bytes_eq-Decides c.as_bytes.result.now c.as_slice.result.now).0 (sym c.eq.ensures ∙ c.if-eq.true) ∙ c.as_slice.ensures in
    c.if-eq.true ∙ sym (ap (λ (p : List ℕ). matches p c.args.name.now) same ∙ any_name c.args.name.now)
