use Rattle.std.proofs.Common.{refl, option_copied}
use Rattle.qm_history.specs.Lines.{may_be_of}
use Rattle.qm_script.specs.Heads.{head_view}
use Rattle.qm_script.proofs.Exits.{exit_byte, exit_end, exit_headless, exit_line, exit_node, head_within, text_begins}
use Rattle.qm_script.proofs.lines.take_line.Goals as goal

pub front_of-front-requires : goal.front_of-front-requires
front_of-front-requires c = head_within c.args.first.text.now (head_view c.in-Some.head) c.in-Some.ensures

pub text_of-extent-requires-clause-first : goal.text_of-extent-requires-clause-first
text_of-extent-requires-clause-first c =
    text_begins (option_copied c.args.nodes) c.args.number c.args.script.now c.args.first (head_view c.in-Some.head) c.front_of-front.result c.requires.first c.requires.full
    c.in-Some.ensures c.front_of-front.ensures

pub returns-in_default-clause-line : goal.returns-in_default-clause-line
returns-in_default-clause-line c =
    exit_headless (option_copied c.args.nodes) c.args.number c.args.script.now c.args.first c.requires.first c.requires.full c.in_default.ensures c.headless.result c.headless.ensures

pub returns-then-not-is_printable-clause-line : goal.returns-then-not-is_printable-clause-line
returns-then-not-is_printable-clause-line c =
    exit_byte (option_copied c.args.nodes) c.args.number c.args.script.now c.args.first (head_view c.in-Some.head) c.front_of-front.result c.requires.first c.requires.full
    c.in-Some.ensures c.front_of-front.ensures c.text_of-extent.result c.text_of-extent.ensures.text c.is_printable.result (may_be_of (option_copied c.args.nodes) c.in-Some.head.node)
    c.is_printable.ensures refl c.if-not-is_printable.true

pub returns-then-not-may_be_of-clause-line : goal.returns-then-not-may_be_of-clause-line
returns-then-not-may_be_of-clause-line c =
    exit_node (option_copied c.args.nodes) c.args.number c.args.script.now c.args.first (head_view c.in-Some.head) c.front_of-front.result c.requires.first c.requires.full
    c.in-Some.ensures c.front_of-front.ensures c.text_of-extent.result c.text_of-extent.ensures.text c.is_printable.result c.may_be_of.result
    c.is_printable.ensures c.may_be_of.ensures c.if-not-is_printable.false c.if-not-may_be_of.true

pub returns-then-not-extent-clause-line : goal.returns-then-not-extent-clause-line
returns-then-not-extent-clause-line c =
    exit_end (option_copied c.args.nodes) c.args.number c.args.script.now c.args.first (head_view c.in-Some.head) c.front_of-front.result c.requires.first c.requires.full
    c.in-Some.ensures c.front_of-front.ensures c.text_of-extent.result c.text_of-extent.ensures.text c.is_printable.result c.may_be_of.result
    c.is_printable.ensures c.may_be_of.ensures c.if-not-is_printable.false c.if-not-may_be_of.false c.if-not-extent.true

pub returns-clause-line : goal.returns-clause-line
returns-clause-line c =
    exit_line (option_copied c.args.nodes) c.args.number c.args.script.now c.args.first (head_view c.in-Some.head) c.front_of-front.result c.requires.first c.requires.full
    c.in-Some.ensures c.front_of-front.ensures c.text_of-extent.result c.text_of-extent.ensures.text c.is_printable.result c.may_be_of.result
    c.is_printable.ensures c.may_be_of.ensures c.if-not-is_printable.false c.if-not-may_be_of.false c.if-not-extent.false
