use Rattle.qm_commands.proofs.NameLemmas.{stands_for}
use Rattle.qm_commands.proofs.laws.names_are_whole_or_begun_alone.Goals as goal

pub returns : goal.returns
returns c text verb row token name = stands_for text token verb row name
