use Rattle.qm_record.proofs.Records.{found_told, only_told, first_told, there_told}
use Rattle.qm_record.proofs.reading.read_record.Goals as goal

pub returns-clause-found : goal.returns-clause-found
returns-clause-found c = found_told c.read_whole.result c.args.bytes.now c.read_whole.ensures

pub returns-clause-only : goal.returns-clause-only
returns-clause-only c = only_told c.read_whole.result c.args.bytes.now c.read_whole.ensures

pub returns-clause-first : goal.returns-clause-first
returns-clause-first c = first_told c.read_whole.result c.args.bytes.now c.read_whole.ensures

pub returns-clause-no_memory : goal.returns-clause-no_memory
returns-clause-no_memory c = there_told c.read_whole.result c.args.bytes.now c.read_whole.ensures
