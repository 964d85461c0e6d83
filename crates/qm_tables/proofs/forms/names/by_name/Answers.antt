use Rattle.std.proofs.Common.{rules}
use Rattle.std.proofs.lemmas.List.Sorted.{answers_always}
use Rattle.qm_tables.proofs.FormsNamed.{name_of}
use Rattle.qm_tables.proofs.FormsKept.{by_name_moved}
use Rattle.qm_tables.proofs.forms.names.by_name.Goals as goal

-- the closure gives the name
pub returns : goal.returns
returns c =
    let sorted = c.sort_unstable_by_key.ensures.sorted name_of (answers_always _ _ _ (λ f a r g h. search rules)) in
    by_name_moved c.args.forms.now c.sort_unstable_by_key.new.self.items (rw c.in_ok-by_name.ensures.items at c.sort_unstable_by_key.ensures.permutation) c.requires.distinct sorted
