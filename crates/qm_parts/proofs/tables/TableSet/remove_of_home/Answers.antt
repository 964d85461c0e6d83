use Rattle.std.proofs.Common.{ap, ◌∙◌, ◌≡◌, sym, subst, find, None}
use Rattle.qm_tables.specs.Entries.{Kept}
use Rattle.qm_model.specs.Queues.{runs_for}
use Rattle.qm_parts.specs.Tables.{Tables}
use Rattle.qm_parts.specs.Mirror.{runs_of}
use Rattle.qm_parts.proofs.Swept.{still_mirrors, runs_without_home}
use Rattle.qm_parts.proofs.tables.TableSet.remove_of_home.Goals as goal

pub invariant_of-self : goal.invariant_of-self
invariant_of-self c =
    still_mirrors c.self.inside.runs.runs c.self.inside.entries.entries c.remove_of_home.new.self.entries c.self.invariant
    (ap (λ (k : Kept). runs_of k.entries) c.remove_of_home.ensures ∙ runs_without_home c.args.home.now c.self.inside.entries.entries (subst (λ (t : Tables). find (runs_for c.args.home.now) t.entries ≡ None) (sym c.self.view_is) c.requires))
