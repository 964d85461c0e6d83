use Rattle.std.proofs.Common.{rules, inl, refl, sym, ◌∙◌, ap, ◌≡◌, ◌∷◌, ◌++◌, [], if◌then◌else◌, List, ℕ}
use Rattle.qm_disk.specs.Disk.{spliced}
use Rattle.qm_disk.specs.Calls.{reading_of}
use Rattle.qm_disk.specs.Crash.{padded_within}
use Rattle.qm_disk.specs.declared.calls.Change.TheVariants.{Write}
use Rattle.qm_disk.specs.declared.calls.Call.{Call}
use Rattle.qm_disk.proofs.memory.note_write.Goals as goal

pub returns-clause-notes : goal.returns-clause-notes
returns-clause-notes c =
    let before : List ℕ = reading_of c.args.first.now c.args.changed.now c.args.file in
    let at : ℕ = c.args.at in
    let copy = c.in_ok-copy.copy in
    let held = c.overwrite_file-held.result in
    let copied : c.args.bytes.now ≡ copy.items = search rules in
    let call : Call = record { file = c.args.file; change = Write at copy held } in
    let pushed : c.push_reserved.new.self.items ≡ c.args.calls.now.items ++ call ∷ [] =
    c.push_reserved.ensures.items ∙ ap (λ (l : List Call). l ++ call ∷ []) c.reserve.ensures.items in
    let after = c.overwrite_file-held.ensures.here
    ∙ ap (λ (b : List ℕ). if held then spliced at b before else before) copied
    ∙ ap (λ (b : List ℕ). if held then spliced at copy.items b else before) (sym (padded_within at before c.requires.place)) in
    inl (Write at copy held, (copy, held, sym copied, refl), pushed, after)
