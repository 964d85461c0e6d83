-- What tokens say.
-- OpenVMS User's Manual, on entering commands: what isn't quoted is raised to upper case.
use Rattle.std.specs.Prelude.{ℕ, Bool, true, false, ◌&&◌, if◌then◌else◌, nat_le, List, [], length, map, take, slice_range, bytes_eq}
use Rattle.std.specs.Char.{to_ascii_uppercase}
use Rattle.qm_commands.specs.declared.tokens.token.Token.{Token}
use Rattle.qm_commands.specs.declared.tokens.token.TokenKind.{TokenKind}
use Rattle.qm_commands.specs.declared.tokens.token.TokenKind.TheVariants.{Word, Quoted, Slash, Equals, Open, Close, Comma}

-- the bytes of a token; none where it isn't one of the text
abbrev pub bytes_of : List ℕ → Token → List ℕ
bytes_of text token = if nat_le token.start token.end && nat_le token.end (length text) then slice_range text token.start token.end else []

-- the word is spelled so once it is raised
abbrev pub is_raised_to : List ℕ → List ℕ → Bool
is_raised_to spelling word = bytes_eq (map to_ascii_uppercase word) spelling

-- a word outside quotes
abbrev pub is_word : TokenKind → Bool
is_word Word = true
is_word Quoted = false
is_word Slash = false
is_word Equals = false
is_word Open = false
is_word Close = false
is_word Comma = false

-- a word or a quoted string
abbrev pub is_text : TokenKind → Bool
is_text Word = true
is_text Quoted = true
is_text Slash = false
is_text Equals = false
is_text Open = false
is_text Close = false
is_text Comma = false

-- the token is a word outside quotes that is spelled so, in any case
abbrev pub is_spelled : List ℕ → List ℕ → Token → Bool
is_spelled text spelling token = is_word token.kind && is_raised_to spelling (bytes_of text token)

-- the token is a word outside quotes with which this spelling begins, in any case
abbrev pub begins : List ℕ → List ℕ → Token → Bool
begins text spelling token =
    is_word token.kind && nat_le (length (bytes_of text token)) (length spelling) && is_raised_to (take (length (bytes_of text token)) spelling) (bytes_of text token)
