-- What `read_whole` says where it gives no bytes.
use Rattle.std.specs.Prelude.{ℕ, List, codes}
use Rattle.qm_disk.specs.declared.io.whole.ReadEnd.{ReadEnd}
use Rattle.qm_disk.specs.declared.io.whole.ReadEnd.TheVariants.{Failed, TooLong, NoMemory}

abbrev pub end_text : ReadEnd → List ℕ
end_text Failed = codes "the input failed"
end_text TooLong = codes "the input is too long"
end_text NoMemory = codes "out of memory"
