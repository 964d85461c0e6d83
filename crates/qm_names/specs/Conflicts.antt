-- Qualifiers and options that exclude each other.
-- OpenVMS User's Manual, on entering commands: where a qualifier and its other form are given, the last one counts.
use Rattle.std.specs.Prelude.{ℕ, if◌then◌else◌, nat_lt, Bool, false, List, [], ◌∷◌, Option, None, Some, Result, Ok, Err}
use Rattle.qm_kinds.specs.declared.refusal.ParseKind.TheVariants as fault
use Rattle.qm_commands.specs.declared.tokens.token.Token.{Token}
use Rattle.qm_commands.specs.declared.tokens.token.TokenKind.{TokenKind}
use Rattle.qm_commands.specs.declared.tokens.token.TokenKind.TheVariants as kinds
use Rattle.qm_commands.specs.declared.fault.Fault.{Fault}
use Rattle.qm_commands.specs.declared.table.Command.{Command}
use Rattle.qm_commands.specs.declared.table.Verb.{Verb}
use Rattle.qm_commands.specs.declared.table.Row.{Row}
use Rattle.qm_commands.specs.declared.word.Word.{Word}
use Rattle.qm_commands.specs.Faults.{fault_at}
use Rattle.qm_commands.specs.Words.{undone_by}
use Rattle.qm_commands.specs.Names.{is_name}

-- the place of a /
abbrev pub slash_place : TokenKind → ℕ → Option ℕ
slash_place kinds.Slash place = Some place
slash_place kinds.Word place = None
slash_place kinds.Quoted place = None
slash_place kinds.Equals place = None
slash_place kinds.Open place = None
slash_place kinds.Close place = None
slash_place kinds.Comma place = None

-- the token is the word, if there is one
abbrev pub is_word_given : List ℕ → Verb → Option Row → Option Word → Token → Bool
is_word_given text verb row None token = false
is_word_given text verb row (Some word) token = is_name text verb row token word

-- Where a qualifier was given that counts, once one more token has come. A name stands behind a /; the other form of the
-- qualifier undoes it. A token that is no name of the command is at fault itself, and no conflict stands in front of it.
abbrev pub place_with : List ℕ → Verb → Option Row → Word → Option ℕ → Option ℕ → Token → Option ℕ
place_with text verb row word None so_far token = so_far
place_with text verb row word (Some slash) so_far token =
    if is_name text verb row token word then Some slash else if is_word_given text verb row (undone_by word) token then None else so_far

abbrev pub place_from : List ℕ → Verb → Option Row → Word → Option ℕ → Option ℕ → List Token → Option ℕ
place_from text verb row word slash so_far [] = so_far
place_from text verb row word slash so_far (token ∷ tokens) =
    place_from text verb row word (slash_place token.kind token.start) (place_with text verb row word slash so_far token) tokens

-- The / of a qualifier that counts: it is given, and its other form doesn't undo it.
abbrev pub counting_place : List ℕ → Verb → Option Row → List Token → Word → Option ℕ
counting_place text verb row tokens word = place_from text verb row word None None tokens

-- where both are given, the later of them
abbrev pub later_of_both : Option ℕ → Option ℕ → Option ℕ
later_of_both None b = None
later_of_both (Some a) None = None
later_of_both (Some a) (Some b) = Some (if nat_lt a b then b else a)

-- the earlier of two, or the only one
abbrev pub earlier : Option ℕ → Option ℕ → Option ℕ
earlier None b = b
earlier (Some a) None = Some a
earlier (Some a) (Some b) = Some (if nat_lt a b then a else b)

-- the conflict of two that exclude each other: it stands at the later of them
abbrev pub conflict_of : List ℕ → Verb → Option Row → List Token → Word × Word → Option ℕ
conflict_of text verb row tokens pair = later_of_both (counting_place text verb row tokens pair.0) (counting_place text verb row tokens pair.1)

-- the first place of a conflict
abbrev pub first_conflict : List ℕ → Verb → Option Row → List Token → List (Word × Word) → Option ℕ
first_conflict text verb row tokens [] = None
first_conflict text verb row tokens (pair ∷ pairs) = earlier (conflict_of text verb row tokens pair) (first_conflict text verb row tokens pairs)

-- a conflict, where nothing is wrong in front of it
abbrev pub or_conflict : Option ℕ → Result Command Fault → Result Command Fault
or_conflict None read = read
or_conflict (Some at) (Ok command) = Err (fault_at at fault.Conflict)
or_conflict (Some at) (Err f) = if nat_lt at f.place then Err (fault_at at fault.Conflict) else Err f
