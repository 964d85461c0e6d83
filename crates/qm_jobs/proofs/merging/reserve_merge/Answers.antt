use Rattle.std.proofs.Common.{◌≡◌, ◌∙◌, ℕ, OnOk, count_by, ap, subst, sym}
use Rattle.qm_parts.specs.Rooms.{HavePlacesFor, is_home}
use Rattle.qm_parts.specs.Tables.{Tables}
use Rattle.qm_jobs.proofs.merging.reserve_merge.Goals as goal

pub returns-clause-places : goal.returns-clause-places
returns-clause-places c =
    let same : c.count_at_home-jobs.result ≡ count_by (is_home c.args.from.now) c.reserve_places.new.self.entries =
    c.count_at_home-jobs.ensures ∙ ap (λ (t : Tables). count_by (is_home c.args.from.now) t.entries) (sym c.reserve_places.ensures.tables) in
    subst (λ (n : ℕ). OnOk c.reserve_places.result (HavePlacesFor c.args.to.now n c.reserve_places.new.self)) same c.reserve_places.ensures.places
