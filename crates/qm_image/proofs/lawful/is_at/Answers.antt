use Rattle.std.proofs.Common.{◌≡◌, ◌∙◌, ◌<◌, Some, ap, sym, arith, slice_get}
use Rattle.std.proofs.lemmas.Option.{same_Some, slice_get-get_or, slice_get_within}
use Rattle.std.proofs.lemmas.Slice.Eq.{bytes_eq-Decides}
use Rattle.qm_image.proofs.lawful.is_at.Goals as goal

pub returns-then-place-names : goal.returns-then-place-names
returns-then-place-names c = (λ h. cc, λ h. absurd (omega (arith, slice_get_within c.args.names.now c.args.place c.args.name.now h)))

pub returns : goal.returns
returns c =
    let within : c.args.place < _ = omega arith in
    let there : slice_get c.args.names.now c.args.place ≡ Some c.index-names-place.result = slice_get-get_or c.args.names.now c.args.place c.index-names-place.result within ∙ ap Some (sym c.index-names-place.is) in
    let decides = bytes_eq-Decides c.index-names-place.result c.args.name.now in
    (λ h. there ∙ ap Some (decides.0 (sym c.eq.ensures ∙ h)), λ h. c.eq.ensures ∙ decides.1 (same_Some c.index-names-place.result c.args.name.now (sym there ∙ h)))
