-- A file is filled with lines, or dropped.
-- This site's own: the files that jobs name are kept by the queue manager. OpenVMS System Services Reference Manual, $SNDJBC, on the files of a job.
use Rattle.std.specs.Prelude.{ℕ, not, is_none, List, [], ◌∷◌, ◌++◌, filter, replicate, Option}
use Rattle.std.specs.List.{repeat}
use Rattle.qm_kinds.specs.declared.file.FileName.{FileName}
use Rattle.qm_kinds.specs.declared.refusal.Refusal.{Refusal}
use Rattle.qm_kinds.specs.declared.refusal.Refusal.TheVariants.{NoSuchFile}
use Rattle.qm_kinds.specs.declared.reply.Act.TheVariants.{Dropped}
use Rattle.qm_kinds.specs.declared.system.System.{System}
use Rattle.qm_model.specs.Find.{same_file_name, file_named}
use Rattle.qm_model.specs.Outcome.{Accepted, refused_where, first_refusal}
use Rattle.qm_model.specs.Appending.{refused_as_named, append_refusal, appended}
use Rattle.qm_model.specs.Replying.{replied}

-- lines of 63 letters x
abbrev pub filling : ℕ → List ℕ
filling lines = repeat lines (replicate 63 120 ++ 10 ∷ [])

-- why a file can't be filled: as for other bytes
abbrev pub fill_refusal : System → FileName → ℕ → Option Refusal
fill_refusal s name lines = append_refusal s name (filling lines)

-- the lines stand behind the bytes that the file has
abbrev pub filled : System → FileName → ℕ → Accepted
filled s name lines = appended s name (filling lines)

-- a file that an entry names stays
abbrev pub drop_refusal : System → FileName → Option Refusal
drop_refusal s name = first_refusal
    (refused_where (is_none (file_named name s.files)) NoSuchFile
    ∷ refused_as_named name s.entries
    ∷ [])

-- the file of the name goes
abbrev pub dropped : System → FileName → Accepted
dropped s name = replied (record s { files = filter (λ f. not (same_file_name f.name name)) s.files }) (Dropped name)
