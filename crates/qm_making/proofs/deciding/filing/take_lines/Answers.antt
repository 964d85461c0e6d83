use Rattle.std.proofs.Common.{ℕ, List, subst}
use Rattle.qm_kinds.specs.declared.request.Request.TheVariants.{Append}
use Rattle.qm_image.specs.Deciding.{TakesAt}
use Rattle.qm_making.proofs.deciding.filing.take_lines.Goals as goal

pub returns-then-is_some : goal.returns-then-is_some
returns-then-is_some c now node =
    let t = subst (λ (bs : List ℕ). TakesAt now node (Append c.args.name.now bs) c.args.image.now c.take_more_lines.new.image c.take_more_lines.result) c.in_ok-bytes.ensures (c.take_more_lines.ensures now node) in
    record { rows = t.rows; ready = t.ready; made = t.made }

pub returns-else-is_some : goal.returns-else-is_some
returns-else-is_some c now node =
    let t = subst (λ (bs : List ℕ). TakesAt now node (Append c.args.name.now bs) c.args.image.now c.take_file_of.new.image c.take_file_of.result) c.in_ok-bytes.ensures (c.take_file_of.ensures now node) in
    record { rows = t.rows; ready = t.ready; made = t.made }
