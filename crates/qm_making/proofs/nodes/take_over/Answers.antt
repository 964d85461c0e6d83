use Rattle.std.proofs.Common.{◌≡◌, ◌∙◌, List, ap, sym}
use Rattle.qm_model.specs.Common.{Entry, Act, Node, System, replied}
use Rattle.qm_kinds.specs.declared.reply.Act.TheVariants.{Managing}
use Rattle.qm_parts.specs.Tables.{Tables, with_tables}
use Rattle.qm_image.specs.Image.{system_of}
use Rattle.qm_image.specs.Losing.{entries_left}
use Rattle.qm_making.proofs.Lost.{just_these}
use Rattle.qm_making.proofs.nodes.take_over.Goals as goal

pub returns-clause-done : goal.returns-clause-done
unfolding system_of
returns-clause-done c =
    let s : System = system_of c.args.image.now in
    let t : Tables = c.args.image.now.parts in
    let act : Act = Managing c.args.node.now c.args.epoch in
    let left : List Entry = entries_left t.queues c.args.now c.args.gone.now t.entries in
    let entries : left ≡ c.lose_runs.new.image.parts.entries =
    sym (c.lose_runs.ensures.entries ∙ ap (λ (u : Tables). entries_left u.queues c.args.now c.args.gone.now u.entries) c.change_nodes.ensures) in
    ap (λ (ns : List Node). replied (record s { nodes = ns; may = c.args.may; entries = left }) act) (just_these c.args.up.now c.args.gone.now t.nodes)
    ∙ ap (λ (u : Tables). replied (record (with_tables s u) { may = c.args.may; entries = left }) act) (sym c.change_nodes.ensures)
    ∙ ap (λ (es : List Entry). replied (record (with_tables s c.change_nodes.new.self) { may = c.args.may; entries = es }) act) entries
    ∙ ap (λ (u : System). replied (record u { may = c.args.may }) act) (sym c.lose_runs.ensures.rows)
