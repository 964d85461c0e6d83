use Rattle.std.proofs.Common.{◌≡◌, ◌+◌, ◌<◌, ◌∙◌, ◌++◌, Box, Global, List, Some, drop, take, length, ap, arith, slice_get}
use Rattle.qm_kinds.specs.declared.entry.Entry.{Entry}
use Rattle.qm_tables.specs.Boxed.{brought, contents}
use Rattle.qm_tables.proofs.Boxes.{place_within, value_of, contents_length}
use Rattle.qm_tables.proofs.Behind.{brought_goes, brought_stands, turned_map}
use Rattle.qm_tables.proofs.entries.shelf.take_front.Goals as goal

pub returns-clause-taken : goal.returns-clause-taken
returns-clause-taken c =
    let g = c.args.gone.now in
    let p = c.args.place in
    let bs : List (Box Entry Global) = c.args.row.now.boxes.items in
    let xs : List Entry = contents bs in
    let now : contents c.turn.new.self.boxes.items ≡ take g xs ++ brought p (drop g xs) = ap contents c.turn.ensures.items ∙ turned_map value_of g p bs in
    let within : g < length c.turn.new.self.boxes.items = omega (arith, c.requires, c.args.row.now.boxes.ok, c.turn.ensures.len, c.turn.new.self.boxes.ok) in
    ap (λ (e : Entry). Some e) c.deref-first.ensures
    ∙ place_within c.turn.new.self.boxes.items g c.index.result.now within c.index.ensures
    ∙ ap (λ (es : List Entry). slice_get es g) now
    ∙ brought_stands g p xs (omega (arith, c.requires, c.args.row.now.boxes.ok, contents_length bs))

pub returns-clause-left : goal.returns-clause-left
returns-clause-left c =
    let g = c.args.gone.now in
    let p = c.args.place in
    let bs : List (Box Entry Global) = c.args.row.now.boxes.items in
    let xs : List Entry = contents bs in
    let now : contents c.turn.new.self.boxes.items ≡ take g xs ++ brought p (drop g xs) = ap contents c.turn.ensures.items ∙ turned_map value_of g p bs in
    ap (λ (es : List Entry). drop (g + 1) es) now ∙ brought_goes g p xs (omega (arith, c.requires, c.args.row.now.boxes.ok, contents_length bs))
