use Rattle.std.proofs.Common.{◌∙◌, ap, sym}
use Rattle.qm_history.specs.Ends.{show_text}
use Rattle.qm_program.proofs.laws.listings_are_of_the_world_of_a_run.Goals as goal

pub returns : goal.returns
returns g c = λ disk text w listing tells starts.
    let held = listing.held tells in
    let begins = c.sites_begin_one_world.ensures.one (g.D.Disk.meaning.seen disk) held.recorded listing.system w held.holds held.site starts.starts in
    listing.is ∙ ap show_text (sym begins.system)
