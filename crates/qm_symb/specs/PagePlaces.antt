-- Where a print job is, and what is left of it.
use Rattle.std.specs.Prelude.{◌≡◌, ◌+◌, length, ℕ, Bool, if◌then◌else◌, List, [], ◌∷◌, ◌++◌, drop}
use Rattle.std.specs.List.{repeat}
use Rattle.qm_kinds.specs.declared.work.Work.{Work}
use Rattle.qm_model.specs.Pages.{flag_block, text_blocks}
use Rattle.qm_symb.specs.declared.print.cursor.Cursor.{Cursor}

-- the flag page, where it is still to come
abbrev pub flag_if : Bool → Work → List (List ℕ)
flag_if flag w = if flag then flag_block w ∷ [] else []

-- the blocks that a job has from a place on
unfoldable pub blocks_from : Work → Cursor → List (List ℕ)
blocks_from w c = flag_if c.flag w ++ (text_blocks w.shape (drop c.at w.text) ++ repeat c.copies (text_blocks w.shape w.text))

-- a list without its first element
pub record IsOneLess (more less : List (List ℕ)) : Type 0 where
  pub rest : drop 1 more ≡ less
  pub count : length more ≡ length less + 1

-- no block is left, and the place stays
pub record IsDone (blocks : List (List ℕ)) (old new : Cursor) : Type 0 where
  pub none : blocks ≡ []
  pub same : new ≡ old
