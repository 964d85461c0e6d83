use Rattle.std.proofs.Common.{◌≡◌, Bool, Some, sym, subst}
use Rattle.qm_acting.specs.declared.files.Files.TheVariants as site_files
use Rattle.qm_chest.specs.declared.work.Work.TheVariants.{Down}
use Rattle.qm_chest.specs.Steps.{IsBehind, place_behind}
use Rattle.qm_chest.proofs.work.Work.behind.Goals as goal

pub returns : goal.returns
returns g c =
    let there : record { file = c.live.result; before = c.count.result } ≡ place_behind c.args.manager = λ i. record { file = c.live.ensures i; before = c.count.ensures i } in
    subst (λ (b : Bool). IsBehind c.args.manager c.args.at b (Down (site_files.Closed c.close.result) (Some (record { file = c.live.result; before = c.count.result })))) (sym c.if-not-is_in_doubt.false)
    (record { closed = c.close.result; disk = c.close.ensures; is = λ i. Down (site_files.Closed c.close.result) (Some (there i)) })
