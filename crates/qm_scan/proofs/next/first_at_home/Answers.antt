use Rattle.std.proofs.Common.{◌<◌, ◌∙◌, length, sym, arith}
use Rattle.std.proofs.lemmas.List.{length-map}
use Rattle.qm_tables.specs.Boxed.{contents}
use Rattle.qm_scan.specs.Listed.{is_listed_at_home}
use Rattle.qm_scan.proofs.AtHome.{other_tag}
use Rattle.qm_scan.proofs.Boxed.{value_at, value_within, value_of}
use Rattle.qm_scan.proofs.Found.{find_hit, find_miss}
use Rattle.qm_scan.proofs.next.first_at_home.Goals as goal

pub loop-place-preserved-then-tags-place : goal.loop-place-preserved-then-tags-place
loop-place-preserved-then-tags-place c =
    let within : c.loop-place.place < length (contents c.args.entries.now) = omega (arith, c.loop-place-test.true, length-map c.args.entries.now value_of) in
    other_tag c.args.query.now c.args.queue.now (is_listed_at_home c.args.query.now c.args.queue.now) (contents c.args.entries.now) c.args.tags.now c.loop-place.place within c.requires
    (λ same. c.if-tags-place.true (same ∙ sym c.home_tag-wanted.ensures))
    ∙ c.loop-place.invariant

pub returns-then-is_listed_at_home : goal.returns-then-is_listed_at_home
returns-then-is_listed_at_home c =
    let boxes = c.args.entries.now in
    let place = c.loop-place.place in
    let is = value_at boxes place c.index-entries-place.result c.as_ref-entry.result.now c.loop-place-test.true c.index-entries-place.is c.as_ref-entry.ensures in
    let within = value_within boxes place c.index-entries-place.result c.as_ref-entry.result.now c.loop-place-test.true c.index-entries-place.is c.as_ref-entry.ensures in
    sym (find_hit (is_listed_at_home c.args.query.now c.args.queue.now) (contents boxes) place c.as_ref-entry.result.now within is
    (sym c.is_listed_at_home.ensures ∙ c.if-is_listed_at_home.true))
    ∙ c.loop-place.invariant

pub loop-place-preserved : goal.loop-place-preserved
loop-place-preserved c =
    let boxes = c.args.entries.now in
    let place = c.loop-place.place in
    let is = value_at boxes place c.index-entries-place.result c.as_ref-entry.result.now c.loop-place-test.true c.index-entries-place.is c.as_ref-entry.ensures in
    let within = value_within boxes place c.index-entries-place.result c.as_ref-entry.result.now c.loop-place-test.true c.index-entries-place.is c.as_ref-entry.ensures in
    find_miss (is_listed_at_home c.args.query.now c.args.queue.now) (contents boxes) place c.as_ref-entry.result.now within is
    (sym c.is_listed_at_home.ensures ∙ c.if-is_listed_at_home.false)
    ∙ c.loop-place.invariant
