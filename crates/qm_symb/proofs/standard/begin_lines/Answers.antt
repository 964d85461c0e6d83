use Rattle.std.proofs.Common.{subst}
use Rattle.qm_symb.specs.BatchCursors.{Stands}
use Rattle.qm_symb.proofs.StandardLemmas.{first_line}
use Rattle.qm_symb.proofs.standard.begin_lines.Goals as goal

pub returns-clause-cursor : goal.returns-clause-cursor
returns-clause-cursor c = record {
  kind = c.requires.kind;
  line = subst (λ p. Stands c.args.work.now p c.batch_begin.result) (first_line c.args.work.now c.requires.kind) (c.batch_begin.ensures c.args.work.now c.requires.kind);
}
