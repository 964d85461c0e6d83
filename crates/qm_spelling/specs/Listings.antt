-- SHOW QUEUE and SHOW ENTRY.
-- DCL Dictionary, SHOW ENTRY, SHOW QUEUE, SHOW QUEUE/CHARACTERISTICS, SHOW QUEUE/FORM and SHOW QUEUE/MANAGERS.
use Rattle.std.specs.Prelude.{ℕ, not, if◌then◌else◌, List, [], ◌++◌, codes, decimal, Option, None, Some, is_some}
use Rattle.qm_model.specs.Common.{Kinds, Listing, Queues, Jobs, Entries, Forms, Characteristics, Manager, Cancel, Query}
use Rattle.qm_commands.specs.declared.word.Word.TheVariants as words
use Rattle.qm_dcl.specs.Values.{says_all}
use Rattle.qm_sayable.specs.Listings.{are_all}
use Rattle.qm_spelling.specs.Pieces.{marked}

-- a pattern behind a blank, unless it is * alone
abbrev pub pattern_text : List ℕ → List ℕ
pattern_text pattern = if says_all pattern then [] else codes " " ++ pattern

-- the kinds of queue that are listed, unless all are
abbrev pub kinds_text : Kinds → List ℕ
kinds_text kinds =
    if are_all kinds then []
    else marked words.Batch kinds.batch ++ marked words.Device kinds.print ++ marked words.Generic kinds.generic_batch

-- one entry, or entries by the names of their jobs
abbrev pub entries_text : Option ℕ → List ℕ → List ℕ
entries_text None pattern = codes "SHOW ENTRY" ++ pattern_text pattern
entries_text (Some number) pattern = codes "SHOW ENTRY " ++ decimal number

-- a listing; two of them no command asks for
abbrev pub query_text : Listing → Query → List ℕ
query_text Queues query =
    codes "SHOW QUEUE" ++ pattern_text query.pattern ++ marked words.AllJobs (not (is_some query.user)) ++ kinds_text query.kinds
query_text Entries query = entries_text query.number query.pattern
query_text Forms query = codes "SHOW QUEUE/FORM" ++ pattern_text query.pattern
query_text Characteristics query = codes "SHOW QUEUE/CHARACTERISTICS" ++ pattern_text query.pattern
query_text Manager query = codes "SHOW QUEUE/MANAGERS"
query_text Jobs query = []
query_text Cancel query = []
