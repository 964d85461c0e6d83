use Rattle.std.proofs.Common.{◌≡◌, ◌∙◌, ◌==◌, ◌<◌, ◌++◌, ◌∷◌, [], ℕ, List, Option, cond, ap, sym, subst, arith}
use Rattle.std.proofs.lemmas.List.Elements.{All-weaker}
use Rattle.qm_model.specs.Common.{Entry, IsEntry}
use Rattle.qm_parts.specs.Rooms.{HavePlacesFor}
use Rattle.qm_parts.specs.Tables.{Tables}
use Rattle.qm_tables.specs.SpoolCounts.{CountsOf}
use Rattle.qm_image.specs.Timers.{AreTimersOf}
use Rattle.qm_tables.specs.Timers.{moment_of}
use Rattle.qm_image.specs.Image.{system_of}
use Rattle.qm_making.proofs.Entries.{counts_behind}
use Rattle.qm_image.proofs.Timed.{timers_behind}
use Rattle.qm_making.proofs.entering.enter.Goals as goal

pub insert_entry-requires-clause-places : goal.insert_entry-requires-clause-places
insert_entry-requires-clause-places c = subst (HavePlacesFor c.args.entry.now.home 1) (sym c.set_timer.ensures.tables) c.requires.new.places

pub invariant_of-image : goal.invariant_of-image
unfolding system_of
invariant_of-image c =
    let es = c.args.image.now.parts.entries in
    let entries : c.insert_entry.new.self.entries ≡ es ++ c.args.entry.now ∷ [] =
    ap (λ (t : Tables). t.entries) c.insert_entry.ensures ∙ ap (λ (t : Tables). t.entries ++ c.args.entry.now ∷ []) c.set_timer.ensures.tables in
    let timers : c.insert_entry.new.self.timers ≡ c.set_timer.new.self.timers = ap (λ (t : Tables). t.timers) c.insert_entry.ensures in
    record {
      counted = subst (λ (xs : List Entry). CountsOf xs c.enter.new.self.counts) (sym entries)
          (counts_behind c.args.image.now.spool.counts c.enter.new.self.counts c.args.entry.now es c.args.image.now.counted c.enter.ensures.counts);
      timed = subst (AreTimersOf c.insert_entry.new.self.entries) (sym timers)
          (subst (λ (xs : List Entry). AreTimersOf xs c.set_timer.new.self.timers) (sym entries)
          (timers_behind c.args.entry.now es c.args.image.now.parts.timers c.set_timer.new.self.timers
          (All-weaker (IsEntry (system_of c.args.image.now)) (λ (e : Entry). e.number < c.args.entry.now.number) (λ e h. omega (arith, h.number.1, c.requires.new.number)) es c.requires.sound.entries.each)
          c.args.image.now.timed (λ m. c.set_timer.ensures.each m ∙ ap (λ (o : Option ℕ). cond (c.args.entry.now.number == m) o (moment_of m c.args.image.now.parts.timers)) c.moment_in.ensures)));
    }
