use Rattle.std.proofs.Common.{◌∙◌, Box, Global, List, drop, sym, ap}
use Rattle.std.proofs.lemmas.List.{drop-map, take_rest}
use Rattle.qm_kinds.specs.declared.entry.Entry.{Entry}
use Rattle.qm_tables.specs.Boxed.{contents, Shelved}
use Rattle.qm_tables.proofs.Boxes.{value_of}
use Rattle.qm_tables.proofs.entries.shelf.Shelf.as_slice.Goals as goal

pub returns : goal.returns
returns c =
    ap contents (take_rest c.deref.result.now c.self.inside.gone)
    ∙ ap (λ (bs : List (Box Entry Global)). contents (drop c.self.inside.gone bs)) c.deref.ensures.value
    ∙ sym (drop-map value_of c.self.inside.gone c.self.inside.row.boxes.items)
    ∙ ap (λ (s : Shelved). s.entries) c.self.view_is
