use Rattle.qm_script.proofs.HexText.{decoded_err}
use Rattle.qm_script.proofs.hexadecimal.read_bytes.Goals as goal

pub returns-else-is_of_memory : goal.returns-else-is_of_memory
returns-else-is_of_memory c = decoded_err c.args.text.now c.in-Err.fault c.in-Err.ensures.err (c.is_of_memory.ensures.text c.if-is_of_memory.false)
