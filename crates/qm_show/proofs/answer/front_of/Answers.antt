use Rattle.std.proofs.Common.{arith, lit<, ap, length}
use Rattle.qm_show.proofs.answer.front_of.Goals as goal

pub push_str-requires : goal.push_str-requires
push_str-requires c = (lit< tt, omega (arith, c.characters.ensures.lawful.few, ap length c.characters.ensures.value, ap length c.new-text.ensures))

pub push_str-requires-2 : goal.push_str-requires-2
push_str-requires-2 c = (lit< tt, omega (arith, c.characters.ensures.lawful.few, ap length c.characters.ensures.value, ap length c.new-text.ensures, c.push_str.ensures.len))

pub push_number-requires : goal.push_number-requires
push_number-requires c = omega (arith, c.characters.ensures.lawful.few, ap length c.characters.ensures.value, ap length c.new-text.ensures, c.push_str.ensures.len, c.push_str-2.ensures.len)

pub push_str-requires-3 : goal.push_str-requires-3
push_str-requires-3 c = (lit< tt, omega (arith, c.characters.ensures.lawful.few, ap length c.characters.ensures.value, ap length c.new-text.ensures, c.push_str.ensures.len, c.push_str-2.ensures.len, c.push_number.ensures.few))
