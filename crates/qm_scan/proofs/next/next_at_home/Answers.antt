use Rattle.std.proofs.Common.{◌≡◌, ◌∙◌, ◌&&◌, List, length, drop, sym, ap, arith, find}
use Rattle.std.proofs.lemmas.List.{length-map, drop-map}
use Rattle.qm_kinds.specs.declared.entry.Entry.{Entry}
use Rattle.qm_kinds.specs.declared.query.Row.TheVariants as row
use Rattle.qm_tables.specs.Boxed.{contents}
use Rattle.qm_tables.specs.Tags.{entry_tag, tags_of}
use Rattle.qm_scan.specs.Listed.{is_behind, is_listed_at_home}
use Rattle.qm_scan.proofs.Behind.{slice_from}
use Rattle.qm_scan.proofs.Boxed.{left_of, value_of}
use Rattle.qm_scan.proofs.next.next_at_home.Goals as goal

pub returns : goal.returns
returns c =
    let listed = is_listed_at_home c.args.query.now c.args.queue.now in
    c.first_at_home.ensures
    ∙ ap (find listed) (left_of c.entries-entries.result.now c.place_behind-place.result c.place_behind-place.ensures.within)
    ∙ sym (c.place_behind-place.ensures.behind listed)
    ∙ ap (λ (es : List Entry). find (λ (e : Entry). is_behind c.args.query.now.after (row.Entry e) && listed e) es) c.entries-entries.ensures

pub first_at_home-requires : goal.first_at_home-requires
first_at_home-requires c =
    let boxes = c.entries-entries.result.now in
    let tags = c.tags.result.now in
    let place = c.place_behind-place.result in
    let is : tags ≡ tags_of (contents boxes) = c.tags.ensures ∙ ap tags_of (sym c.entries-entries.ensures) in
    let same : length tags ≡ length boxes = ap length is ∙ length-map (contents boxes) entry_tag ∙ length-map boxes value_of in
    slice_from tags place (omega (arith, same, c.place_behind-place.ensures.within))
    ∙ ap (drop place) is
    ∙ drop-map entry_tag place (contents boxes)
    ∙ ap tags_of (sym (left_of boxes place c.place_behind-place.ensures.within))
