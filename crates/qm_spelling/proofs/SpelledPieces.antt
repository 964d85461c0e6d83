-- The pieces that a full spelling is put together of, and the tokens that they make.
use Rattle.std.proofs.Common.{◌≡◌, ◌<◌, ◌||◌, ℕ, List, [], ◌∷◌, ◌++◌, length, lit<, Option, None, Some, Bool, true, false, not, ◌==◌, refl}
use Rattle.std.specs.List.{list_all}
use Rattle.qm_commands.specs.declared.tokens.token.TokenKind.{TokenKind}
use Rattle.qm_commands.specs.declared.tokens.token.TokenKind.TheVariants as kinds
use Rattle.qm_commands.specs.declared.table.Verb.{Verb}
use Rattle.qm_commands.specs.declared.table.Verb.TheVariants as verbs
use Rattle.qm_commands.specs.declared.word.Word.{Word}
use Rattle.qm_commands.specs.declared.word.Word.TheVariants as words
use Rattle.qm_commands.specs.Words.{verb_spelling, spelling}
use Rattle.qm_spelling.proofs.SpelledLexemes.{Lexeme, Are, is_sign, is_word_byte, ends, Fits}

-- a word or a quoted string, and what it says
pub record Said : Type 0 where
  pub quoted : Bool
  pub text : List ℕ

-- a value, which may have a value of its own behind an =
pub record Item : Type 0 where
  pub said : Said
  pub inner : Option Said

-- what stands behind the = of a qualifier: a value, or some in parentheses
pub data Value : Type 0 where
  One : Item → Value
  Many : Item → List Item → Value

-- a parameter behind a blank, or a name behind a /, which may have a value
pub data Piece : Type 0 where
  Parameter : List ℕ → Piece
  Marked : Word → Piece
  Valued : Word → Value → Piece

-- ---- their tokens

abbrev pub slash : Lexeme
slash = record { blank = false; kind = kinds.Slash; bytes = 47 ∷ [] }

abbrev pub equals : Lexeme
equals = record { blank = false; kind = kinds.Equals; bytes = 61 ∷ [] }

abbrev pub opening : Lexeme
opening = record { blank = false; kind = kinds.Open; bytes = 40 ∷ [] }

abbrev pub closing : Lexeme
closing = record { blank = false; kind = kinds.Close; bytes = 41 ∷ [] }

abbrev pub comma : Lexeme
comma = record { blank = false; kind = kinds.Comma; bytes = 44 ∷ [] }

-- a word with no blank in front
abbrev pub word_lexeme : List ℕ → Lexeme
word_lexeme bytes = record { blank = false; kind = kinds.Word; bytes = bytes }

abbrev pub parameter_lexeme : List ℕ → Lexeme
parameter_lexeme bytes = record { blank = true; kind = kinds.Word; bytes = bytes }

abbrev pub kind_of : Bool → TokenKind
kind_of true = kinds.Quoted
kind_of false = kinds.Word

abbrev pub said_bytes : Bool → List ℕ → List ℕ
said_bytes true text = 34 ∷ text ++ 34 ∷ []
said_bytes false text = text

abbrev pub said_lexeme : Said → Lexeme
said_lexeme said = record { blank = false; kind = kind_of said.quoted; bytes = said_bytes said.quoted said.text }

abbrev pub inner_lexemes : Option Said → List Lexeme → List Lexeme
inner_lexemes None rest = rest
inner_lexemes (Some inner) rest = equals ∷ said_lexeme inner ∷ rest

abbrev pub item_lexemes : Item → List Lexeme → List Lexeme
item_lexemes item rest = said_lexeme item.said ∷ inner_lexemes item.inner rest

-- values behind commas, up to the end of their list
abbrev pub others_lexemes : List Item → List Lexeme → List Lexeme
others_lexemes [] rest = closing ∷ rest
others_lexemes (item ∷ items) rest = comma ∷ item_lexemes item (others_lexemes items rest)

abbrev pub value_lexemes : Value → List Lexeme → List Lexeme
value_lexemes (One item) rest = item_lexemes item rest
value_lexemes (Many first others) rest = opening ∷ item_lexemes first (others_lexemes others rest)

abbrev pub piece_lexemes : Piece → List Lexeme → List Lexeme
piece_lexemes (Parameter text) rest = parameter_lexeme text ∷ rest
piece_lexemes (Marked word) rest = slash ∷ word_lexeme (spelling word) ∷ rest
piece_lexemes (Valued word value) rest = slash ∷ word_lexeme (spelling word) ∷ equals ∷ value_lexemes value rest

abbrev pub lexemes : List Piece → List Lexeme
lexemes [] = []
lexemes (piece ∷ pieces) = piece_lexemes piece (lexemes pieces)

-- a command: its verb, and its pieces
abbrev pub command_lexemes : Verb → List Piece → List Lexeme
command_lexemes verb pieces = word_lexeme (verb_spelling verb) ∷ lexemes pieces

-- ---- which of them are read as they are meant

-- one or more bytes, all of them bytes of words
abbrev pub IsWord : List ℕ → Type 0
IsWord bytes = (0 < length bytes) × (list_all is_word_byte bytes ≡ true)

-- without quotes
abbrev pub IsInside : List ℕ → Type 0
IsInside text = list_all (λ b. not (b == 34)) text ≡ true

abbrev pub IsSaidBy : Bool → List ℕ → Type 0
IsSaidBy true text = IsInside text
IsSaidBy false text = IsWord text

abbrev pub IsSaid : Said → Type 0
IsSaid said = IsSaidBy said.quoted said.text

abbrev pub IsInner : Option Said → Type 0
IsInner None = Unit {0}
IsInner (Some inner) = IsSaid inner

abbrev pub IsItem : Item → Type 0
IsItem item = IsSaid item.said × IsInner item.inner

abbrev pub AreItems : List Item → Type 0
AreItems [] = Unit {0}
AreItems (item ∷ items) = IsItem item × AreItems items

abbrev pub IsValue : Value → Type 0
IsValue (One item) = IsItem item
IsValue (Many first others) = IsItem first × AreItems others

abbrev pub IsPiece : Piece → Type 0
IsPiece (Parameter text) = IsWord text
IsPiece (Marked word) = Unit {0}
IsPiece (Valued word value) = IsValue value

abbrev pub ArePieces : List Piece → Type 0
ArePieces [] = Unit {0}
ArePieces (piece ∷ pieces) = IsPiece piece × ArePieces pieces

-- ---- their tokens are told apart

name_is_word : (word : Word) → IsWord (spelling word)
name_is_word words.Queue = (lit< tt, refl)
name_is_word _ = (lit< tt, refl)

verb_is_word : (verb : Verb) → IsWord (verb_spelling verb)
verb_is_word verbs.Initialize = (lit< tt, refl)
verb_is_word _ = (lit< tt, refl)

said_are : (quoted : Bool) (text : List ℕ) → IsSaidBy quoted text → Are (kind_of quoted) (said_bytes quoted text)
said_are true text is = (text, is, refl)
said_are false text is = is

-- behind what says something
said_end : (quoted : Bool) → (ends : Bool) → ends ≡ true → (is_sign (kind_of quoted) || ends) ≡ true
said_end true ends is = is
said_end false ends is = is

inner_ends : (inner : Option Said) (ls : List Lexeme) → ends ls ≡ true → ends (inner_lexemes inner ls) ≡ true
inner_ends None ls is = is
inner_ends (Some inner) ls is = refl

inner_fits : (inner : Option Said) (ls : List Lexeme) → IsInner inner → ends ls ≡ true → Fits ls → Fits (inner_lexemes inner ls)
inner_fits None ls is end fits = fits
inner_fits (Some inner) ls is end fits = (refl, refl, (said_are inner.quoted inner.text is, said_end inner.quoted (ends ls) end, fits))

item_fits : (item : Item) (ls : List Lexeme) → IsItem item → ends ls ≡ true → Fits ls → Fits (item_lexemes item ls)
item_fits item ls is end fits = (
  said_are item.said.quoted item.said.text is.0,
  said_end item.said.quoted (ends (inner_lexemes item.inner ls)) (inner_ends item.inner ls end),
  inner_fits item.inner ls is.1 end fits,
)

others_end : (items : List Item) (ls : List Lexeme) → ends (others_lexemes items ls) ≡ true
others_end [] ls = refl
others_end (item ∷ items) ls = refl

others_fit : (items : List Item) (ls : List Lexeme) → AreItems items → Fits ls → Fits (others_lexemes items ls)
others_fit [] ls are fits = (refl, refl, fits)
others_fit (item ∷ items) ls are fits = (refl, refl, item_fits item (others_lexemes items ls) are.0 (others_end items ls) (others_fit items ls are.1 fits))

value_fits : (value : Value) (ls : List Lexeme) → IsValue value → ends ls ≡ true → Fits ls → Fits (value_lexemes value ls)
value_fits (One item) ls is end fits = item_fits item ls is end fits
value_fits (Many first others) ls is end fits = (refl, refl, item_fits first (others_lexemes others ls) is.0 (others_end others ls) (others_fit others ls is.1 fits))

pieces_end : (pieces : List Piece) → ends (lexemes pieces) ≡ true
pieces_end [] = refl
pieces_end (Parameter text ∷ pieces) = refl
pieces_end (Marked word ∷ pieces) = refl
pieces_end (Valued word value ∷ pieces) = refl

pieces_fit : (pieces : List Piece) → ArePieces pieces → Fits (lexemes pieces)
pieces_fit [] are = tt
pieces_fit (Parameter text ∷ pieces) are = (are.0, pieces_end pieces, pieces_fit pieces are.1)
pieces_fit (Marked word ∷ pieces) are = (refl, refl, (name_is_word word, pieces_end pieces, pieces_fit pieces are.1))
pieces_fit (Valued word value ∷ pieces) are =
    (refl, refl, (name_is_word word, refl, (refl, refl, value_fits value (lexemes pieces) are.0 (pieces_end pieces) (pieces_fit pieces are.1))))

pub command_fits : (verb : Verb) (pieces : List Piece) → ArePieces pieces → Fits (command_lexemes verb pieces)
command_fits verb pieces are = (verb_is_word verb, pieces_end pieces, pieces_fit pieces are)
