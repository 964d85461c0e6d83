-- Qualifiers behind the parameters of a command, one group behind the other, as their texts stand one behind the other.
use Rattle.std.proofs.Common.{◌≡◌, ◌⊎◌, inl, inr, ℕ, List, [], ◌∷◌, ◌++◌, map, codes, Option, None, Some, Bool, true, false, not, ◌&&◌, ◌||◌, if◌then◌else◌, nat_lt, refl, sym, ap, ◌∙◌, append-nil, append_assoc}
use Rattle.std.specs.List.{list_all}
use Rattle.qm_commands.specs.declared.rules.Takes.{Takes}
use Rattle.qm_commands.specs.declared.table.Row.{Row}
use Rattle.qm_commands.specs.declared.table.Verb.{Verb}
use Rattle.qm_commands.specs.declared.word.Word.{Word}
use Rattle.qm_commands.specs.Rules.{needs_value}
use Rattle.qm_commands.specs.Words.{undone_by, spelling}
use Rattle.qm_spelling.specs.Pieces.{marked, valued, list_text}
use Rattle.qm_model.specs.Words.{listed}
use Rattle.qm_spelling.proofs.SpelledLexemes.{Lexeme, text_of}
use Rattle.qm_spelling.proofs.SpelledPieces.{Said, Item, Value, Piece, ArePieces, slash, equals, opening, closing, comma, word_lexeme, said_lexeme, inner_lexemes, item_lexemes, others_lexemes, value_lexemes, piece_lexemes, lexemes}
use Rattle.qm_spelling.proofs.SpelledReading.{rule_by, name_by, plain, spoken, Allows, TakesValue}
use Rattle.qm_spelling.proofs.SpelledFinding.{other_by, counted, counts_in}
use Rattle.qm_spelling.proofs.SpelledSettings.{inner_of}
use Rattle.qm_spelling.proofs.SpelledTruth.{and_left, and_right}

-- ---- groups

-- a qualifier without a value, where it is given
abbrev pub mark : Word → Bool → List Piece
mark word true = Piece.Marked word ∷ []
mark word false = []

-- a qualifier with its value, where it is given
abbrev pub with_value : Word → Option Value → List Piece
with_value word None = []
with_value word (Some value) = Piece.Valued word value ∷ []

-- a word as a value
abbrev pub one : List ℕ → Value
one text = Value.One (record { said = plain text; inner = None })

abbrev pub item : List ℕ → Item
item text = record { said = plain text; inner = None }

-- a quoted string as a value
abbrev pub in_quotes : List ℕ → Value
in_quotes text = Value.One (record { said = record { quoted = true; text = text }; inner = None })

-- ---- texts

abbrev pub pieces_text : List Piece → List ℕ
pieces_text pieces = text_of (lexemes pieces)

inner_behind : (inner : Option Said) (ls : List Lexeme) → inner_lexemes inner ls ≡ inner_lexemes inner [] ++ ls
inner_behind None ls = refl
inner_behind (Some inner) ls = refl

item_behind : (i : Item) (ls : List Lexeme) → item_lexemes i ls ≡ item_lexemes i [] ++ ls
item_behind i ls = ap (λ (l : List Lexeme). said_lexeme i.said ∷ l) (inner_behind i.inner ls)

others_behind : (others : List Item) (ls : List Lexeme) → others_lexemes others ls ≡ others_lexemes others [] ++ ls
others_behind [] ls = refl
others_behind (i ∷ others) ls =
    ap (λ (l : List Lexeme). comma ∷ l)
    (ap (item_lexemes i) (others_behind others ls) ∙ item_behind i (others_lexemes others [] ++ ls)
    ∙ sym (append_assoc (item_lexemes i []) (others_lexemes others []) ls) ∙ ap (λ (l : List Lexeme). l ++ ls) (sym (item_behind i (others_lexemes others []))))

value_behind : (value : Value) (ls : List Lexeme) → value_lexemes value ls ≡ value_lexemes value [] ++ ls
value_behind (Value.One i) ls = item_behind i ls
value_behind (Value.Many first others) ls =
    ap (λ (l : List Lexeme). opening ∷ l)
    (ap (item_lexemes first) (others_behind others ls) ∙ item_behind first (others_lexemes others [] ++ ls)
    ∙ sym (append_assoc (item_lexemes first []) (others_lexemes others []) ls) ∙ ap (λ (l : List Lexeme). l ++ ls) (sym (item_behind first (others_lexemes others []))))

piece_behind : (piece : Piece) (ls : List Lexeme) → piece_lexemes piece ls ≡ piece_lexemes piece [] ++ ls
piece_behind (Piece.Parameter text) ls = refl
piece_behind (Piece.Marked word) ls = refl
piece_behind (Piece.Valued word value) ls = ap (λ (l : List Lexeme). slash ∷ word_lexeme (spelling word) ∷ equals ∷ l) (value_behind value ls)

all_behind : (g h : List Piece) → lexemes (g ++ h) ≡ lexemes g ++ lexemes h
all_behind [] h = refl
all_behind (piece ∷ g) h =
    ap (piece_lexemes piece) (all_behind g h) ∙ piece_behind piece (lexemes g ++ lexemes h)
    ∙ sym (append_assoc (piece_lexemes piece []) (lexemes g) (lexemes h)) ∙ ap (λ (l : List Lexeme). l ++ lexemes h) (sym (piece_behind piece (lexemes g)))

texts_behind : (a b : List Lexeme) → text_of (a ++ b) ≡ text_of a ++ text_of b
texts_behind [] b = refl
texts_behind (l ∷ a) b =
    ap (λ (t : List ℕ). (if l.blank then 32 ∷ l.bytes else l.bytes) ++ t) (texts_behind a b)
    ∙ sym (append_assoc (if l.blank then 32 ∷ l.bytes else l.bytes) (text_of a) (text_of b))

-- the texts of two groups stand one behind the other
pub text_append : (g h : List Piece) → pieces_text (g ++ h) ≡ pieces_text g ++ pieces_text h
text_append g h = ap text_of (all_behind g h) ∙ texts_behind (lexemes g) (lexemes h)

-- the same of texts that are known
pub both_texts : (g h : List Piece) (a b : List ℕ) → a ≡ pieces_text g → b ≡ pieces_text h → a ++ b ≡ pieces_text (g ++ h)
both_texts g h a b is_g is_h = rw (is_g, is_h) (sym (text_append g h))

pub mark_text : (word : Word) (given : Bool) → marked word given ≡ pieces_text (mark word given)
mark_text word true = ap (λ (t : List ℕ). 47 ∷ t) (sym (append-nil (spelling word)))
mark_text word false = refl

abbrev pub value_text : Value → List ℕ
value_text value = text_of (value_lexemes value [])

pub valued_text : (word : Word) (value : Value) (text : List ℕ) → text ≡ value_text value → valued word (Some text) ≡ pieces_text (with_value word (Some value))
valued_text word value text is = rw is (append_assoc (codes "/" ++ spelling word) (codes "=") (value_text value) ∙ append_assoc (codes "/") (spelling word) (codes "=" ++ value_text value))

pub one_text : (text : List ℕ) → text ≡ value_text (one text)
one_text text = sym (append-nil text)

-- a list of words
abbrev pub words_list : List ℕ → List (List ℕ) → Value
words_list first others = Value.Many (item first) (map item others)

listed_is : (first : List ℕ) (others : List (List ℕ)) → listed (first ∷ others) ++ codes ")" ≡ text_of (item_lexemes (item first) (others_lexemes (map item others) []))
listed_is first [] = refl
listed_is first (other ∷ others) =
    append_assoc (first ++ codes ",") (listed (other ∷ others)) (codes ")") ∙ append_assoc first (codes ",") (listed (other ∷ others) ++ codes ")")
    ∙ ap (λ (t : List ℕ). first ++ (44 ∷ t)) (listed_is other others)

pub list_text_is : (first : List ℕ) (others : List (List ℕ)) → list_text (first ∷ others) ≡ value_text (words_list first others)
list_text_is first others = append_assoc (codes "(") (listed (first ∷ others)) (codes ")") ∙ ap (λ (t : List ℕ). 40 ∷ t) (listed_is first others)

-- ---- lists of values with values of their own

abbrev pub item_text : Item → List ℕ
item_text i = text_of (item_lexemes i [])

item_split : (i : Item) (ls : List Lexeme) → text_of (item_lexemes i ls) ≡ item_text i ++ text_of ls
item_split i ls = ap text_of (item_behind i ls) ∙ texts_behind (item_lexemes i []) ls

listed_items : (first : Item) (others : List Item) → listed (item_text first ∷ map item_text others) ++ codes ")" ≡ text_of (item_lexemes first (others_lexemes others []))
listed_items first [] = sym (item_split first (closing ∷ []))
listed_items first (other ∷ others) =
    append_assoc (item_text first ++ codes ",") (listed (item_text other ∷ map item_text others)) (codes ")")
    ∙ append_assoc (item_text first) (codes ",") (listed (item_text other ∷ map item_text others) ++ codes ")")
    ∙ ap (λ (t : List ℕ). item_text first ++ (44 ∷ t)) (listed_items other others)
    ∙ sym (item_split first (comma ∷ item_lexemes other (others_lexemes others [])))

pub many_text : (first : Item) (others : List Item) → list_text (item_text first ∷ map item_text others) ≡ value_text (Value.Many first others)
many_text first others =
    append_assoc (codes "(") (listed (item_text first ∷ map item_text others)) (codes ")") ∙ ap (λ (t : List ℕ). 40 ∷ t) (listed_items first others)

-- ---- what may be given

abbrev pub In : Word × Takes → List (Word × Takes) → Type 0
In rule [] = ⊥
In rule (other ∷ rules) = (other ≡ rule) ⊎ In rule rules

abbrev pub IsGiven : List (Word × Takes) → Piece → Type 0
IsGiven table (Piece.Parameter text) = ⊥
IsGiven table (Piece.Marked word) = (t : Takes) × In (word, t) table × (needs_value t ≡ false)
IsGiven table (Piece.Valued word value) = (t : Takes) × In (word, t) table × TakesValue t value

-- all of them are qualifiers or options of a table
abbrev pub AreGiven : List (Word × Takes) → List Piece → Type 0
AreGiven table [] = Unit {0}
AreGiven table (piece ∷ pieces) = IsGiven table piece × AreGiven table pieces

pub given_append : (table : List (Word × Takes)) (g h : List Piece) → AreGiven table g → AreGiven table h → AreGiven table (g ++ h)
given_append table [] h of_g of_h = of_h
given_append table (piece ∷ g) h of_g of_h = (of_g.0, given_append table g h of_g.1 of_h)

in_behind : (rule : Word × Takes) (front table : List (Word × Takes)) → In rule table → In rule (front ++ table)
in_behind rule [] table here = here
in_behind rule (other ∷ front) table here = inr (in_behind rule front table here)

given_one_behind : (front table : List (Word × Takes)) (piece : Piece) → IsGiven table piece → IsGiven (front ++ table) piece
given_one_behind front table (Piece.Parameter text) is = is
given_one_behind front table (Piece.Marked word) is = (is.0, in_behind (word, is.0) front table is.1, is.2)
given_one_behind front table (Piece.Valued word value) is = (is.0, in_behind (word, is.0) front table is.1, is.2)

pub given_behind : (front table : List (Word × Takes)) (g : List Piece) → AreGiven table g → AreGiven (front ++ table) g
given_behind front table [] of_g = tt
given_behind front table (piece ∷ g) of_g = (given_one_behind front table piece of_g.0, given_behind front table g of_g.1)

pub pieces_append : (g h : List Piece) → ArePieces g → ArePieces h → ArePieces (g ++ h)
pieces_append [] h of_g of_h = of_h
pieces_append (piece ∷ g) h of_g of_h = (of_g.0, pieces_append g h of_g.1 of_h)

-- each name of a table is read as itself
abbrev pub AreItself : Verb → Row → List (Word × Takes) → Type 0
AreItself v row [] = Unit {0}
AreItself v row (rule ∷ rules) = (rule_by (spelling rule.0) v (Some row) ≡ Some rule) × AreItself v row rules

itself : (v : Verb) (row : Row) (table : List (Word × Takes)) (rule : Word × Takes) → AreItself v row table → In rule table → rule_by (spelling rule.0) v (Some row) ≡ Some rule
itself v row [] rule are here = absurd here
itself v row (other ∷ rules) rule are (inl is) =
    ap (λ (r : Word × Takes). rule_by (spelling r.0) v (Some row)) (sym is) ∙ are.0 ∙ ap (λ (r : Word × Takes). Some r) is
itself v row (other ∷ rules) rule are (inr there) = itself v row rules rule are.1 there

abbrev pub has_some : List Piece → Bool
has_some [] = false
has_some (piece ∷ pieces) = true

-- so a command takes them all
pub given_allows : (v : Verb) (row : Row) (table : List (Word × Takes)) (g : List Piece) (n : ℕ) (q : Bool) → AreItself v row table → AreGiven table g
    → nat_lt n row.least ≡ false → (row.must_set && not (q || has_some g)) ≡ false → Allows v row n q g
given_allows v row table [] n true are of_g enough set = (enough, set)
given_allows v row table [] n false are of_g enough set = (enough, set)
given_allows v row table (Piece.Parameter text ∷ g) n q are of_g enough set = absurd of_g.0
given_allows v row table (Piece.Marked word ∷ g) n q are of_g enough set =
    (of_g.0.0, itself v row table (word, of_g.0.0) are of_g.0.1, of_g.0.2, given_allows v row table g n true are of_g.1 enough (none_must row.must_set))
  where
    none_must : (must : Bool) → (must && false) ≡ false
    none_must true = refl
    none_must false = refl
given_allows v row table (Piece.Valued word value ∷ g) n q are of_g enough set =
    (of_g.0.0, itself v row table (word, of_g.0.0) are of_g.0.1, of_g.0.2, given_allows v row table g n true are of_g.1 enough (none_must row.must_set))
  where
    none_must : (must : Bool) → (must && false) ≡ false
    none_must true = refl
    none_must false = refl

-- ---- what counts

-- a word neither is this one nor undoes it
abbrev pub leaves : Verb → Option Row → Word → Word × Takes → Bool
leaves v row word given = not (name_by (spelling given.0) v row word || other_by (spelling given.0) v row (undone_by word))

abbrev pub leave : Verb → Option Row → Word → List (Word × Takes) → Bool
leave v row word table = list_all (leaves v row word) table

left : (v : Verb) (row : Option Row) (word : Word) (table : List (Word × Takes)) (rule : Word × Takes) → leave v row word table ≡ true → In rule table → leaves v row word rule ≡ true
left v row word [] rule all here = absurd here
left v row word (other ∷ rules) rule all (inl is) = ap (leaves v row word) (sym is) ∙ and_left (leaves v row word other) _ all
left v row word (other ∷ rules) rule all (inr there) = left v row word rules rule (and_right (leaves v row word other) _ all) there

neither : (a b so_far : Bool) → not (a || b) ≡ true → (if a then true else if b then false else so_far) ≡ so_far
neither true b so_far h = absurd cc
neither false true so_far h = absurd cc
neither false false so_far h = refl

-- what is given of a table whose names leave a word alone leaves it alone
pub given_leaves : (v : Verb) (row : Option Row) (word : Word) (table : List (Word × Takes)) (g : List Piece) (so_far : Bool) → leave v row word table ≡ true → AreGiven table g
    → counts_in v row word so_far g ≡ so_far
given_leaves v row word table [] so_far all of_g = refl
given_leaves v row word table (Piece.Parameter text ∷ g) so_far all of_g = absurd of_g.0
given_leaves v row word table (Piece.Marked given ∷ g) so_far all of_g =
    given_leaves v row word table g (counted v row word given so_far) all of_g.1
    ∙ neither (name_by (spelling given) v row word) (other_by (spelling given) v row (undone_by word)) so_far (left v row word table (given, of_g.0.0) all of_g.0.1)
given_leaves v row word table (Piece.Valued given value ∷ g) so_far all of_g =
    given_leaves v row word table g (counted v row word given so_far) all of_g.1
    ∙ neither (name_by (spelling given) v row word) (other_by (spelling given) v row (undone_by word)) so_far (left v row word table (given, of_g.0.0) all of_g.0.1)

-- no value stands in front of pieces
pub none_inner : (pieces : List Piece) → inner_of (spoken pieces) ≡ None
none_inner [] = refl
none_inner (Piece.Parameter text ∷ pieces) = refl
none_inner (Piece.Marked word ∷ pieces) = refl
none_inner (Piece.Valued word value ∷ pieces) = refl
