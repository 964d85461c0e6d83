-- Bytes are added to a file, which is made where it isn't there.
-- OpenVMS System Services Reference Manual, $SNDJBC, on the files of a job.
-- This site's own: the files that jobs name are kept by the queue manager, and their limits.
use Rattle.std.specs.Prelude.{ℕ, ◌+◌, nat_lt, nat_le, Bool, ◌&&◌, ◌||◌, List, [], ◌∷◌, ◌++◌, length, find, Option, is_none}
use Rattle.std.specs.Option.{option_map, option_map_or}
use Rattle.std.specs.Ordering.{match_ordering}
use Rattle.qm_kinds.specs.declared.file.FileName.{FileName}
use Rattle.qm_kinds.specs.declared.file.File.{File}
use Rattle.qm_kinds.specs.declared.entry.Entry.{Entry}
use Rattle.qm_kinds.specs.declared.limits.TheConstants.{FILES_LIMIT, FILE_LIMIT, SPOOL_LIMIT}
use Rattle.qm_kinds.specs.declared.refusal.Refusal.{Refusal}
use Rattle.qm_kinds.specs.declared.refusal.Refusal.TheVariants.{Referenced, SpoolFull}
use Rattle.qm_kinds.specs.declared.reply.Act.TheVariants.{Filed}
use Rattle.qm_kinds.specs.declared.system.System.{System}
use Rattle.qm_kinds.specs.declared.refusal.Holder.TheVariants as holder
use Rattle.qm_model.specs.Find.{file_name_cmp, same_file_name, file_named}
use Rattle.qm_model.specs.Consistent.{spooled}
use Rattle.qm_model.specs.Outcome.{Accepted, refused_where, first_refusal}

-- the bytes of a file, none where it isn't there
abbrev pub bytes_of : FileName → List File → List ℕ
bytes_of name files = option_map_or (λ f. f.bytes) (file_named name files) []

-- the files with this one in its place, instead of another of its name
abbrev pub with_file : File → List File → List File
with_file file [] = file ∷ []
with_file file (f ∷ fs) = match_ordering (file_name_cmp file.name f.name) (file ∷ f ∷ fs) (file ∷ fs) (f ∷ with_file file fs)

-- the least entry that names the file makes it stay as it is
abbrev pub refused_as_named : FileName → List Entry → Option Refusal
refused_as_named name entries = option_map (λ e. Referenced (holder.Entry e.number)) (find (λ e. same_file_name e.file name) entries)

-- a file, all files together, or their number would pass the limit
abbrev pub is_spool_full : FileName → ℕ → List File → Bool
is_spool_full name more files =
    nat_lt FILE_LIMIT (length (bytes_of name files) + more) || nat_lt SPOOL_LIMIT (spooled files + more)
    || (is_none (file_named name files) && nat_le FILES_LIMIT (length files))

-- why bytes can't be added to a file
abbrev pub append_refusal : System → FileName → List ℕ → Option Refusal
append_refusal s name more = first_refusal
    (refused_as_named name s.entries
    ∷ refused_where (is_spool_full name (length more) s.files) SpoolFull
    ∷ [])

-- the bytes stand behind those that the file has
abbrev pub appended : System → FileName → List ℕ → Accepted
appended s name more =
    let bytes = bytes_of name s.files ++ more in
    record {
      system = record s { files = with_file (record { name = name; bytes = bytes }) s.files };
      reply = record { act = Filed name (length bytes); started = [] };
    }
