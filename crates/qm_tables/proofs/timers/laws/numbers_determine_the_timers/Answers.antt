use Rattle.qm_tables.proofs.TimersDetermined.{determined}
use Rattle.qm_tables.proofs.timers.laws.numbers_determine_the_timers.Goals as goal

pub returns : goal.returns
returns c = λ xs ys in_order_x in_order_y same. determined xs ys in_order_x.rising in_order_x.once in_order_y.rising in_order_y.once same
