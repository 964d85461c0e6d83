use Rattle.std.proofs.Common.{◌∙◌, drop, ap}
use Rattle.std.proofs.lemmas.List.{take_rest}
use Rattle.qm_tables.specs.Boxed.{contents, Shelved}
use Rattle.qm_tables.specs.Tags.{tags_of}
use Rattle.qm_tables.proofs.SideBySide.{tags_behind}
use Rattle.qm_tables.proofs.entries.shelf.Shelf.tags.Goals as goal

pub returns : goal.returns
returns c =
    take_rest c.deref.result.now c.self.inside.gone
    ∙ ap (drop c.self.inside.gone) (c.deref.ensures.value ∙ c.self.inside.row.tagged)
    ∙ tags_behind (contents c.self.inside.row.boxes.items) c.self.inside.gone
    ∙ ap (λ (s : Shelved). tags_of s.entries) c.self.view_is
