use Rattle.std.proofs.Common.{ℕ, List, subst}
use Rattle.qm_kinds.specs.declared.request.Request.TheVariants.{Append}
use Rattle.qm_image.specs.Deciding.{TakesAt}
use Rattle.qm_making.proofs.deciding.append.take_file.Goals as goal

pub returns : goal.returns
returns c now node =
    subst (λ (bs : List ℕ). TakesAt now node (Append c.args.name.now bs) c.args.image.now c.take_file_of.new.image c.take_file_of.result) c.in_ok-bytes.ensures.items (c.take_file_of.ensures now node)
