use Rattle.std.proofs.Common.{◌∙◌, sym, ap, is_eq}
use Rattle.std.specs.Cmp.Lexicographic.{texts_ties}
use Rattle.qm_parts.proofs.names.is_same.Goals as goal

pub returns : goal.returns
returns c = c.is_eq.ensures ∙ ap is_eq c.order.ensures ∙ sym (texts_ties c.args.name.now c.args.other.now)
