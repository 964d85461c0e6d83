use Rattle.qm_model.specs.Pages.{lines}
use Rattle.qm_model.specs.Batch.{is_label_line}
use Rattle.qm_symb.proofs.TextLemmas.{in_text_first, search_begins}
use Rattle.qm_symb.proofs.batch.cursor.find_label.Goals as goal

pub loop-found-init : goal.loop-found-init
loop-found-init c = record {
  in_text = in_text_first c.args.text.now;
  searched = search_begins (is_label_line c.args.label.now) (lines c.args.text.now);
}
