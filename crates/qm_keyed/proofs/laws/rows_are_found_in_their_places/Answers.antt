use Rattle.std.proofs.Common.{refl, is_eq}
use Rattle.qm_keyed.proofs.Rows.{passes, fails, find_is, find_none}
use Rattle.qm_keyed.proofs.laws.rows_are_found_in_their_places.Goals as goal

pub returns-clause-there : goal.returns-clause-there
returns-clause-there g c = λ key wanted rows place stands.
    find_is (λ row. is_eq (g.K.Ord.cmp (key row) wanted)) rows place (passes key wanted (λ row. is_eq (g.K.Ord.cmp (key row) wanted)) (λ row. refl) rows place stands)

pub returns-clause-absent : goal.returns-clause-absent
returns-clause-absent g c = λ key wanted rows place belongs.
    find_none (λ row. is_eq (g.K.Ord.cmp (key row) wanted)) rows (fails key wanted (λ row. is_eq (g.K.Ord.cmp (key row) wanted)) (λ row. refl) rows place belongs)
