use Rattle.std.proofs.Common.{◌≡◌, ◌+◌, take, min, true}
use Rattle.std.specs.List.{list_all}
use Rattle.std.specs.Char.{is_ascii_digit}
use Rattle.qm_model.specs.Texts.{value_of}
use Rattle.qm_time.proofs.digits.number_up_to.Given as goal

-- the digits so far, and their value up to one more than the most
abbrev pub invariant-loop-byte : goal.invariant-loop-byte
invariant-loop-byte l = record {
  digits : list_all is_ascii_digit (take l.byte-index l.text) ≡ true;
  value_is : l.value ≡ min (value_of (take l.byte-index l.text)) (l.most + 1);
}
