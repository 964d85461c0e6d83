use Rattle.std.proofs.Common.{◌∙◌, refl}
use Rattle.std.proofs.lemmas.Grind.{put_two}
use Rattle.qm_show.proofs.Blanks.{entry_is}
use Rattle.qm_show.proofs.row.EntryTextDisplay.fmt.Goals as goal

pub returns-clause-writes : goal.returns-clause-writes
returns-clause-writes g c plain ok =
    let columns = c.in_ok-write_str.ensures.writes plain refl in
    put_two _ _ _ _ _ _ _ columns (c.fmt.ensures.writes columns.plain ok)
    (entry_is c.args.self.now.0.now _ _ (c.as_str.ensures.value ∙ c.columns_of.ensures) c.state.ensures)
