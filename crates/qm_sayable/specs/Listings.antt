-- Which listings a command asks for.
-- DCL Dictionary, SHOW ENTRY, SHOW QUEUE, SHOW QUEUE/CHARACTERISTICS, SHOW QUEUE/FORM and SHOW QUEUE/MANAGERS.
use Rattle.std.specs.Prelude.{ℕ, Bool, false, ◌&&◌, ◌||◌, not, if◌then◌else◌, Option, None, Some, is_some}
use Rattle.qm_model.specs.Common.{Kinds, Listing, Queues, Jobs, Entries, Forms, Characteristics, Manager, Cancel, Query}
use Rattle.qm_dcl.specs.Values.{are_digits, says_all}

-- queues of all kinds are listed
abbrev pub are_all : Kinds → Bool
are_all kinds = kinds.batch && kinds.print && kinds.generic_batch && kinds.generic_print

-- some kinds are listed, the two generic ones together
abbrev pub are_kinds : Kinds → Bool
are_kinds kinds = if kinds.generic_batch then kinds.generic_print else (kinds.batch || kinds.print) && not kinds.generic_print

-- all rows of a listing are asked for
abbrev pub is_whole : Query → Bool
is_whole query = not (is_some query.queue) && not (is_some query.after) && not query.single

-- all users' rows, whatever the kinds of their queues
abbrev pub is_for_all : Query → Bool
is_for_all query = not (is_some query.number) && not (is_some query.user) && are_all query.kinds

-- one entry, or a user's by the names of their jobs; a pattern of digits alone would be a number
abbrev pub is_entries_query : Option ℕ → Query → Bool
is_entries_query None query = is_some query.user && are_all query.kinds && not (are_digits query.pattern)
is_entries_query (Some number) query = not (is_some query.user) && are_all query.kinds && says_all query.pattern

-- a listing of this kind that a command asks for
abbrev pub is_listing : Listing → Query → Bool
is_listing Queues query = not (is_some query.number) && are_kinds query.kinds
is_listing Entries query = is_entries_query query.number query
is_listing Forms query = is_for_all query
is_listing Characteristics query = is_for_all query
is_listing Manager query = is_for_all query && says_all query.pattern
is_listing Jobs query = false
is_listing Cancel query = false

-- a listing that a command asks for
abbrev pub is_query : Query → Bool
is_query query = is_whole query && is_listing query.listing query
