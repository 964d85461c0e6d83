-- DEFINE/FORM and DEFINE/CHARACTERISTIC.
use Rattle.std.proofs.Common.{◌≡◌, inl, inr, ◌<◌, ◌≤◌, ◌^◌, ℕ, List, [], ◌∷◌, ◌++◌, length, codes, decimal, Option, None, Some, Bool, true, false, cond, ◌&&◌, ◌||◌, ◌==◌, if◌then◌else◌, refl, sym, ap, subst, ◌∙◌, arith, lit<, append_assoc, append-nil, option_map, unwrap_or, bytes_eq}
use Rattle.std.proofs.lemmas.Slice.Eq.{bytes_eq-Decides}
use Rattle.qm_model.specs.Common.{Characteristic, Form, Shape, Input, Ask, DefineForm, DefineCharacteristic, is_short, is_definable}
use Rattle.qm_commands.specs.declared.rules.Takes.{Takes}
use Rattle.qm_commands.specs.declared.rules.Takes.TheVariants as takes
use Rattle.qm_commands.specs.declared.table.Command.TheVariants as command
use Rattle.qm_commands.specs.declared.table.Row.{Row}
use Rattle.qm_commands.specs.declared.table.Verb.TheVariants as verb
use Rattle.qm_commands.specs.declared.word.Word.{Word}
use Rattle.qm_commands.specs.declared.word.Word.TheVariants as words
use Rattle.qm_commands.specs.Table.{row}
use Rattle.qm_dcl.specs.declared.lists.Lists.{Lists}
use Rattle.qm_dcl.specs.declared.settings.Definition.{Definition}
use Rattle.qm_dcl.specs.declared.settings.Settings.{Settings}
use Rattle.qm_dcl.specs.declared.value.Side.{Side}
use Rattle.qm_dcl.specs.declared.value.Side.TheVariants.{Top, Bottom, Left, Right}
use Rattle.qm_dcl.specs.Forms.{default_shape, with_margin, form_of}
use Rattle.qm_dcl.specs.Given.{with_word, with_definition, with_shape}
use Rattle.qm_dcl.specs.Settings.{nothing_given}
use Rattle.qm_dcl.specs.Values.{number_to}
use Rattle.qm_spelling.specs.Forms.{margins_text, are_default_margins, margins_unless_default, shape_text, form_text}
use Rattle.qm_spelling.specs.Jobs.{unless_default, number_unless_default}
use Rattle.qm_spelling.specs.Lawful.{IsName, IsShape, IsForm, IsCharacteristic}
use Rattle.qm_spelling.specs.Pieces.{valued, list_text}
use Rattle.qm_spelling.specs.ReadBack.{ReadsBack}
use Rattle.qm_spelling.proofs.Values.{number_reads_back}
use Rattle.qm_spelling.proofs.SpelledLexemes.{text_of}
use Rattle.qm_spelling.proofs.SpelledPieces.{command_lexemes, Item, Value, Piece, IsWord, ArePieces}
use Rattle.qm_spelling.proofs.SpelledReading.{Spoken, spoken, plain}
use Rattle.qm_spelling.proofs.SpelledFinding.{counts_in, Makes}
use Rattle.qm_spelling.proofs.SpelledLists.{lists_by, nodes_by}
use Rattle.qm_spelling.proofs.SpelledCommand.{Asks, AskFor, one_asks, reads_back}
use Rattle.qm_spelling.proofs.SpelledTails.{mark, one, pieces_text, value_text, both_texts, mark_text, valued_text, one_text, many_text, AreGiven, AreItself, given_append, pieces_append, given_allows, given_leaves}
use Rattle.qm_spelling.proofs.SpelledWords.{name_word, number_word, short_said, definable_said}
use Rattle.qm_spelling.proofs.SpelledAsking.{value_asks, valued_asks}
use Rattle.qm_spelling.proofs.SpelledTruth.{and_left, and_right, same_number}

-- ---- characteristics

module _ (user : List ℕ) (characteristic : Characteristic) (lawful : IsCharacteristic characteristic) where
  abbrev characteristic_row : Row
  characteristic_row = row command.DefineCharacteristic (Some words.Characteristic) None 2 2

  abbrev characteristic_pieces : List Piece
  characteristic_pieces = Piece.Marked words.Characteristic ∷ Piece.Parameter characteristic.name ∷ Piece.Parameter (decimal characteristic.number) ∷ []

  characteristic_makes : Makes verb.Define characteristic_row characteristic_pieces
  characteristic_makes =
      let number = number_word characteristic.number (omega (arith, lawful.number)) in
      record {
        lexed = (tt, (name_word characteristic.name lawful.name, (number, tt)));
        leads = (refl, (refl, tt));
        found = refl;
        allowed = (takes.Nothing, refl, refl, (refl, (refl, (refl, refl))));
        agrees = refl;
      }

  characteristic_asks : (now : ℕ) → is_definable characteristic.name ≡ true → AskFor user now command.DefineCharacteristic (Ask (DefineCharacteristic characteristic)) characteristic_pieces
  characteristic_asks now definable =
      let s : Settings = with_word (nothing_given command.DefineCharacteristic) words.Characteristic in
      let t : Settings = with_definition s (record s.definition { name = Some characteristic.name }) in
      let u : Settings = with_definition t (record t.definition { characteristic_number = Some characteristic.number }) in
      let number : List ℕ = decimal characteristic.number in
      one_asks (nothing_given command.DefineCharacteristic) s (Spoken.SaysQualifier words.Characteristic) (Spoken.SaysParameter characteristic.name ∷ Spoken.SaysParameter number ∷ []) refl
      (one_asks s t (Spoken.SaysParameter characteristic.name) (Spoken.SaysParameter number ∷ [])
      (ap (option_map (λ n. with_definition s (record s.definition { name = Some n }))) (definable_said characteristic.name lawful.name definable))
      (one_asks t u (Spoken.SaysParameter number) []
      (ap (option_map (λ n. with_definition t (record t.definition { characteristic_number = Some n }))) (number_reads_back 255 characteristic.number (omega (arith, lawful.number)) (omega (arith, lawful.number))))
      (record { is = refl })))

  pub characteristic_back : ReadsBack user (Ask (DefineCharacteristic characteristic))
  characteristic_back = reads_back verb.Define characteristic_row characteristic_pieces user (Ask (DefineCharacteristic characteristic))
      (ap (λ (l : List ℕ). codes "DEFINE/CHARACTERISTIC " ++ l)
      (append_assoc characteristic.name (codes " ") (decimal characteristic.number) ∙ ap (λ (l : List ℕ). characteristic.name ++ (32 ∷ l)) (sym (append-nil (decimal characteristic.number)))))
      (λ is. (characteristic_makes, λ now. characteristic_asks now is))

-- ---- the pieces of a form

-- a word as the value of a qualifier, unless it is as where none is given
abbrev pub word_unless : Word → Bool → List ℕ → List Piece
word_unless word true text = []
word_unless word false text = Piece.Valued word (one text) ∷ []

pub unless_text : (word : Word) (default name : List ℕ) → valued word (unless_default default name) ≡ pieces_text (word_unless word (bytes_eq name default) name)
unless_text word default name = by (bytes_eq name default)
  where
    by : (b : Bool) → valued word (if b then None else Some name) ≡ pieces_text (word_unless word b name)
    by true = refl
    by false = valued_text word (one name) name (one_text name)

pub number_unless_text : (word : Word) (default number : ℕ) → valued word (option_map decimal (number_unless_default default number)) ≡ pieces_text (word_unless word (number == default) (decimal number))
number_unless_text word default number = by (number == default)
  where
    by : (b : Bool) → valued word (option_map decimal (if b then None else Some number)) ≡ pieces_text (word_unless word b (decimal number))
    by true = refl
    by false = valued_text word (one (decimal number)) (decimal number) (one_text (decimal number))

abbrev side_item : List ℕ → ℕ → Item
side_item name margin = record { said = plain name; inner = Some (plain (decimal margin)) }

abbrev margins_value : Shape → Value
margins_value shape =
    Value.Many (side_item (codes "TOP") shape.top)
    (side_item (codes "BOTTOM") shape.bottom ∷ side_item (codes "LEFT") shape.left ∷ side_item (codes "RIGHT") shape.right ∷ [])

abbrev margins_unless : Bool → Shape → List Piece
margins_unless true shape = []
margins_unless false shape = Piece.Valued words.Margin (margins_value shape) ∷ []

margins_are : (shape : Shape) → margins_text shape ≡ value_text (margins_value shape)
margins_are shape =
    let top = sym (append-nil (decimal shape.top)) in let bottom = sym (append-nil (decimal shape.bottom)) in
    let left = sym (append-nil (decimal shape.left)) in let right = sym (append-nil (decimal shape.right)) in
    let each : margins_text shape ≡ list_text ((codes "TOP=" ++ (decimal shape.top ++ [])) ∷ (codes "BOTTOM=" ++ (decimal shape.bottom ++ []))
    ∷ (codes "LEFT=" ++ (decimal shape.left ++ [])) ∷ (codes "RIGHT=" ++ (decimal shape.right ++ [])) ∷ []) =
    λ i. list_text ((codes "TOP=" ++ top i) ∷ (codes "BOTTOM=" ++ bottom i) ∷ (codes "LEFT=" ++ left i) ∷ (codes "RIGHT=" ++ right i) ∷ []) in
    each ∙ many_text (side_item (codes "TOP") shape.top)
    (side_item (codes "BOTTOM") shape.bottom ∷ side_item (codes "LEFT") shape.left ∷ side_item (codes "RIGHT") shape.right ∷ [])

margins_unless_text : (shape : Shape) → valued words.Margin (margins_unless_default shape) ≡ pieces_text (margins_unless (are_default_margins shape) shape)
margins_unless_text shape = by (are_default_margins shape)
  where
    by : (b : Bool) → valued words.Margin (if b then None else Some (margins_text shape)) ≡ pieces_text (margins_unless b shape)
    by true = refl
    by false = valued_text words.Margin (margins_value shape) (margins_text shape) (margins_are shape)

abbrev shape_pieces : Shape → List Piece
shape_pieces shape =
    word_unless words.Length (shape.length == 66) (decimal shape.length) ++ word_unless words.Width (shape.width == 132) (decimal shape.width)
    ++ margins_unless (are_default_margins shape) shape ++ mark words.Wrap shape.wrap

shape_is : (shape : Shape) → shape_text shape ≡ pieces_text (shape_pieces shape)
shape_is shape =
    let a = word_unless words.Length (shape.length == 66) (decimal shape.length) in let b = word_unless words.Width (shape.width == 132) (decimal shape.width) in
    let d = margins_unless (are_default_margins shape) shape in
    both_texts (a ++ b ++ d) (mark words.Wrap shape.wrap) _ _
    (both_texts (a ++ b) d _ _
    (both_texts a b _ _ (number_unless_text words.Length 66 shape.length) (number_unless_text words.Width 132 shape.width)) (margins_unless_text shape))
    (mark_text words.Wrap shape.wrap)

abbrev form_table : List (Word × Takes)
form_table = (words.Stock, takes.One) ∷ (words.Length, takes.One) ∷ (words.Width, takes.One) ∷ (words.Margin, takes.KeyedList) ∷ (words.Wrap, takes.Nothing) ∷ []

some_taken : 1 ≤ 1
some_taken = omega arith

stock_given : (b : Bool) (text : List ℕ) → AreGiven form_table (word_unless words.Stock b text)
stock_given true text = tt
stock_given false text = ((takes.One, inl refl, (some_taken, tt)), tt)

length_given : (b : Bool) (text : List ℕ) → AreGiven form_table (word_unless words.Length b text)
length_given true text = tt
length_given false text = ((takes.One, inr (inl refl), (some_taken, tt)), tt)

width_given : (b : Bool) (text : List ℕ) → AreGiven form_table (word_unless words.Width b text)
width_given true text = tt
width_given false text = ((takes.One, inr (inr (inl refl)), (some_taken, tt)), tt)

margins_given : (b : Bool) (shape : Shape) → AreGiven form_table (margins_unless b shape)
margins_given true shape = tt
margins_given false shape = ((takes.KeyedList, inr (inr (inr (inl refl))), (omega arith, refl, (refl, (refl, (refl, tt))))), tt)

wrap_given : (b : Bool) → AreGiven form_table (mark words.Wrap b)
wrap_given true = ((takes.Nothing, inr (inr (inr (inr (inl refl)))), refl), tt)
wrap_given false = tt

abbrev tail_pieces : Form → List Piece
tail_pieces form = word_unless words.Stock (bytes_eq form.stock form.name) form.stock ++ shape_pieces form.shape

tail_given : (form : Form) → AreGiven form_table (tail_pieces form)
tail_given form =
    let shape = form.shape in
    let a = word_unless words.Length (shape.length == 66) (decimal shape.length) in let b = word_unless words.Width (shape.width == 132) (decimal shape.width) in
    let d = margins_unless (are_default_margins shape) shape in
    given_append form_table (word_unless words.Stock (bytes_eq form.stock form.name) form.stock) (shape_pieces shape) (stock_given (bytes_eq form.stock form.name) form.stock)
    (given_append form_table (a ++ b ++ d) (mark words.Wrap shape.wrap)
    (given_append form_table (a ++ b) d
    (given_append form_table a b (length_given (shape.length == 66) (decimal shape.length)) (width_given (shape.width == 132) (decimal shape.width)))
    (margins_given (are_default_margins shape) shape)) (wrap_given shape.wrap))

unless_words : (word : Word) (b : Bool) (text : List ℕ) → IsWord text → ArePieces (word_unless word b text)
unless_words word true text is = tt
unless_words word false text is = ((is, tt), tt)

margins_words : (b : Bool) (shape : Shape) → IsShape shape → ArePieces (margins_unless b shape)
margins_words true shape lawful = tt
margins_words false shape lawful = (
  (
    ((lit< tt, refl), number_word shape.top (omega (arith, lawful.top))),
    (
      ((lit< tt, refl), number_word shape.bottom (omega (arith, lawful.bottom))),
      (
        ((lit< tt, refl), number_word shape.left (omega (arith, lawful.left))),
        (((lit< tt, refl), number_word shape.right (omega (arith, lawful.right))), tt),
      ),
    ),
  ),
  tt,
)

wrap_words : (b : Bool) → ArePieces (mark words.Wrap b)
wrap_words true = (tt, tt)
wrap_words false = tt

tail_words : (form : Form) → IsForm form → ArePieces (tail_pieces form)
tail_words form lawful =
    let shape = form.shape in
    let a = word_unless words.Length (shape.length == 66) (decimal shape.length) in let b = word_unless words.Width (shape.width == 132) (decimal shape.width) in
    let d = margins_unless (are_default_margins shape) shape in
    pieces_append (word_unless words.Stock (bytes_eq form.stock form.name) form.stock) (shape_pieces shape)
    (unless_words words.Stock (bytes_eq form.stock form.name) form.stock (name_word form.stock lawful.stock))
    (pieces_append (a ++ b ++ d) (mark words.Wrap shape.wrap)
    (pieces_append (a ++ b) d
    (pieces_append a b (unless_words words.Length (shape.length == 66) (decimal shape.length) (number_word shape.length (omega (arith, lawful.shape.length))))
    (unless_words words.Width (shape.width == 132) (decimal shape.width) (number_word shape.width (omega (arith, lawful.shape.width)))))
    (margins_words (are_default_margins shape) shape lawful.shape)) (wrap_words shape.wrap))

-- ---- what they give

abbrev shape_with : ℕ → ℕ → ℕ → ℕ → ℕ → ℕ → Bool → Shape
shape_with length width top bottom left right wrap = record { length = length; width = width; top = top; bottom = bottom; left = left; right = right; wrap = wrap }

abbrev form_with : List ℕ → ℕ → Option (List ℕ) → Shape → Definition
form_with name number stock shape = record { name = Some name; form_number = Some number; characteristic_number = None; stock = stock; shape = shape }

-- a stock that is given, unless it is the form's name
abbrev stock_option : Bool → List ℕ → Option (List ℕ)
stock_option true stock = None
stock_option false stock = Some stock

stock_is : (b : Bool) (stock name : List ℕ) → bytes_eq stock name ≡ b → unwrap_or (stock_option b stock) name ≡ stock
stock_is true stock name h = sym ((bytes_eq-Decides stock name).0 h)
stock_is false stock name h = refl

module _ (user : List ℕ) (now : ℕ) (lists : Lists) (nodes : Option (List (List ℕ))) (input : Input) (name : List ℕ) (number : ℕ) where
  -- whoever was given this asks for the input
  abbrev All_ask : Definition → List Piece → Type 0
  All_ask d h = (s : Settings) → s.definition ≡ d → Asks user now command.DefineForm lists nodes input s (spoken h)

  stock_asks : (b : Bool) (stock : List ℕ) (shape : Shape) (h : List Piece) → IsName stock → is_short stock ≡ true
      → All_ask (form_with name number (stock_option b stock) shape) h → All_ask (form_with name number None shape) (word_unless words.Stock b stock ++ h)
  stock_asks true stock shape h lawful short asks = asks
  stock_asks false stock shape h lawful short asks = λ s is.
      let t : Settings = with_word s words.Stock in
      let u : Settings = with_definition t (record t.definition { stock = Some stock }) in
      valued_asks user now command.DefineForm lists nodes input (λ word. refl) s u words.Stock (plain stock) (spoken h)
      (ap (option_map (λ n. with_definition t (record t.definition { stock = Some n }))) (short_said stock lawful short))
      (asks u (ap (λ (d : Definition). record d { stock = Some stock }) is))

  length_asks : (b : Bool) (n : ℕ) (stock : Option (List ℕ)) (w top bottom left right : ℕ) (wrap : Bool) (h : List Piece) → (n == 66) ≡ b → n < 2 ^ 8
      → All_ask (form_with name number stock (shape_with n w top bottom left right wrap)) h
      → All_ask (form_with name number stock (shape_with 66 w top bottom left right wrap)) (word_unless words.Length b (decimal n) ++ h)
  length_asks true n stock w top bottom left right wrap h same small asks = λ s is.
      asks s (is ∙ ap (λ (m : ℕ). form_with name number stock (shape_with m w top bottom left right wrap)) (same_number n 66 same))
  length_asks false n stock w top bottom left right wrap h same small asks = λ s is.
      let t : Settings = with_word s words.Length in
      let u : Settings = with_shape t (record t.definition.shape { length = n }) in
      valued_asks user now command.DefineForm lists nodes input (λ word. refl) s u words.Length (plain (decimal n)) (spoken h)
      (ap (option_map (λ m. with_shape t (record t.definition.shape { length = m }))) (number_reads_back 255 n (omega (arith, small)) (omega (arith, small))))
      (asks u (ap (λ (d : Definition). record d { shape = record d.shape { length = n } }) is))

  width_asks : (b : Bool) (n : ℕ) (stock : Option (List ℕ)) (l top bottom left right : ℕ) (wrap : Bool) (h : List Piece) → (n == 132) ≡ b → n < 2 ^ 8
      → All_ask (form_with name number stock (shape_with l n top bottom left right wrap)) h
      → All_ask (form_with name number stock (shape_with l 132 top bottom left right wrap)) (word_unless words.Width b (decimal n) ++ h)
  width_asks true n stock l top bottom left right wrap h same small asks = λ s is.
      asks s (is ∙ ap (λ (m : ℕ). form_with name number stock (shape_with l m top bottom left right wrap)) (same_number n 132 same))
  width_asks false n stock l top bottom left right wrap h same small asks = λ s is.
      let t : Settings = with_word s words.Width in
      let u : Settings = with_shape t (record t.definition.shape { width = n }) in
      valued_asks user now command.DefineForm lists nodes input (λ word. refl) s u words.Width (plain (decimal n)) (spoken h)
      (ap (option_map (λ m. with_shape t (record t.definition.shape { width = m }))) (number_reads_back 255 n (omega (arith, small)) (omega (arith, small))))
      (asks u (ap (λ (d : Definition). record d { shape = record d.shape { width = n } }) is))

  -- the margin of a side, behind /MARGIN
  margin_said : (s : Settings) (side : Side) (margin : ℕ) → margin < 2 ^ 8
      → option_map (λ m. with_shape s (with_margin s.definition.shape side m)) (number_to 255 (decimal margin)) ≡ Some (with_shape s (with_margin s.definition.shape side margin))
  margin_said s side margin small = ap (option_map (λ m. with_shape s (with_margin s.definition.shape side m))) (number_reads_back 255 margin (omega (arith, small)) (omega (arith, small)))

  margins_ask : (b : Bool) (shape : Shape) (stock : Option (List ℕ)) (l w : ℕ) (wrap : Bool) (h : List Piece) → are_default_margins shape ≡ b → IsShape shape
      → All_ask (form_with name number stock (shape_with l w shape.top shape.bottom shape.left shape.right wrap)) h
      → All_ask (form_with name number stock (shape_with l w 0 6 0 0 wrap)) (margins_unless b shape ++ h)
  margins_ask true shape stock l w wrap h same lawful asks = λ s is.
      let three = and_left (shape.top == 0 && shape.bottom == 6 && shape.left == 0) (shape.right == 0) same in
      let two = and_left (shape.top == 0 && shape.bottom == 6) (shape.left == 0) three in
      let top : 0 ≡ shape.top = same_number shape.top 0 (and_left (shape.top == 0) (shape.bottom == 6) two) in
      let bottom : 6 ≡ shape.bottom = same_number shape.bottom 6 (and_right (shape.top == 0) (shape.bottom == 6) two) in
      let left : 0 ≡ shape.left = same_number shape.left 0 (and_right (shape.top == 0 && shape.bottom == 6) (shape.left == 0) three) in
      let right : 0 ≡ shape.right = same_number shape.right 0 (and_right (shape.top == 0 && shape.bottom == 6 && shape.left == 0) (shape.right == 0) same) in
      let all : form_with name number stock (shape_with l w 0 6 0 0 wrap) ≡ form_with name number stock (shape_with l w shape.top shape.bottom shape.left shape.right wrap) =
      λ i. form_with name number stock (shape_with l w (top i) (bottom i) (left i) (right i) wrap) in
      asks s (is ∙ all)
  margins_ask false shape stock l w wrap h same lawful asks = λ s is.
      let t0 : Settings = with_word s words.Margin in
      let t1 : Settings = with_shape t0 (with_margin t0.definition.shape Top shape.top) in
      let t2 : Settings = with_shape t1 (with_margin t1.definition.shape Bottom shape.bottom) in
      let t3 : Settings = with_shape t2 (with_margin t2.definition.shape Left shape.left) in
      let t4 : Settings = with_shape t3 (with_margin t3.definition.shape Right shape.right) in
      let p4 : List Spoken = Spoken.SaysKeyValue (plain (decimal shape.right)) ∷ spoken h in
      let p3 : List Spoken = Spoken.SaysKeyValue (plain (decimal shape.left)) ∷ Spoken.SaysValue (plain (codes "RIGHT")) ∷ p4 in
      let p2 : List Spoken = Spoken.SaysKeyValue (plain (decimal shape.bottom)) ∷ Spoken.SaysValue (plain (codes "LEFT")) ∷ p3 in
      let p1 : List Spoken = Spoken.SaysKeyValue (plain (decimal shape.top)) ∷ Spoken.SaysValue (plain (codes "BOTTOM")) ∷ p2 in
      let there : t4.definition ≡ form_with name number stock (shape_with l w shape.top shape.bottom shape.left shape.right wrap) =
      ap (λ (d : Definition). record d { shape = shape_with d.shape.length d.shape.width shape.top shape.bottom shape.left shape.right d.shape.wrap }) is in
      one_asks s t0 (Spoken.SaysQualifier words.Margin) (Spoken.SaysValue (plain (codes "TOP")) ∷ p1) refl
      (value_asks user now command.DefineForm lists nodes input (λ word. refl) t0 t1 (plain (codes "TOP")) p1 (margin_said t0 Top shape.top lawful.top)
      (one_asks t1 t1 (Spoken.SaysKeyValue (plain (decimal shape.top))) (Spoken.SaysValue (plain (codes "BOTTOM")) ∷ p2) refl
      (value_asks user now command.DefineForm lists nodes input (λ word. refl) t1 t2 (plain (codes "BOTTOM")) p2 (margin_said t1 Bottom shape.bottom lawful.bottom)
      (one_asks t2 t2 (Spoken.SaysKeyValue (plain (decimal shape.bottom))) (Spoken.SaysValue (plain (codes "LEFT")) ∷ p3) refl
      (value_asks user now command.DefineForm lists nodes input (λ word. refl) t2 t3 (plain (codes "LEFT")) p3 (margin_said t2 Left shape.left lawful.left)
      (one_asks t3 t3 (Spoken.SaysKeyValue (plain (decimal shape.left))) (Spoken.SaysValue (plain (codes "RIGHT")) ∷ p4) refl
      (value_asks user now command.DefineForm lists nodes input (λ word. refl) t3 t4 (plain (codes "RIGHT")) p4 (margin_said t3 Right shape.right lawful.right)
      (one_asks t4 t4 (Spoken.SaysKeyValue (plain (decimal shape.right))) (spoken h) refl (asks t4 there)))))))))

  wrap_asks : (b : Bool) (stock : Option (List ℕ)) (l w top bottom left right : ℕ) (h : List Piece)
      → All_ask (form_with name number stock (shape_with l w top bottom left right b)) h → All_ask (form_with name number stock (shape_with l w top bottom left right false)) (mark words.Wrap b ++ h)
  wrap_asks true stock l w top bottom left right h asks = λ s is.
      one_asks s (with_word s words.Wrap) (Spoken.SaysQualifier words.Wrap) (spoken h) refl
      (asks (with_word s words.Wrap) (ap (λ (d : Definition). record d { shape = record d.shape { wrap = true } }) is))
  wrap_asks false stock l w top bottom left right h asks = asks

-- ---- a form

abbrev form_row : Row
form_row = row command.DefineForm (Some words.Form) None 2 2

form_itself : AreItself verb.Define form_row form_table
form_itself = (refl, (refl, (refl, (refl, (refl, tt)))))

first_found : (a : Bool) (r : Row) (rest : Option Row) → a ≡ true → cond (a && true) (Some r) rest ≡ Some r
first_found true r rest h = refl
first_found false r rest h = absurd cc

second_off : (a b c d : Bool) → b ≡ false → d ≡ false → ((a && b) || ((c && d) || false)) ≡ false
second_off a true c d hb hd = absurd cc
second_off a false c true hb hd = absurd cc
second_off true false true false hb hd = refl
second_off true false false false hb hd = refl
second_off false false true false hb hd = refl
second_off false false false false hb hd = refl

regroup : (n d s h : List ℕ) → (((n ++ codes " ") ++ d) ++ s) ++ h ≡ n ++ (codes " " ++ (d ++ (s ++ h)))
regroup n d s h = simp append_assoc

module _ (user : List ℕ) (form : Form) (lawful : IsForm form) where
  abbrev form_pieces : List Piece
  form_pieces = Piece.Marked words.Form ∷ Piece.Parameter form.name ∷ Piece.Parameter (decimal form.number) ∷ tail_pieces form

  -- the groups behind the parameters, in order
  abbrev in_order : List Piece
  in_order =
      word_unless words.Stock (bytes_eq form.stock form.name) form.stock ++ (word_unless words.Length (form.shape.length == 66) (decimal form.shape.length)
      ++ (word_unless words.Width (form.shape.width == 132) (decimal form.shape.width) ++ (margins_unless (are_default_margins form.shape) form.shape ++ (mark words.Wrap form.shape.wrap ++ []))))

  same_order : tail_pieces form ≡ in_order
  same_order = simp (append_assoc, append-nil)

  form_is : form_text form ≡ text_of (command_lexemes verb.Define form_pieces)
  form_is =
      ap (λ (l : List ℕ). codes "DEFINE/FORM " ++ l)
      (regroup form.name (decimal form.number) (valued words.Stock (unless_default form.name form.stock)) (shape_text form.shape)
      ∙ ap (λ (l : List ℕ). form.name ++ (32 ∷ (decimal form.number ++ l)))
      (both_texts (word_unless words.Stock (bytes_eq form.stock form.name) form.stock) (shape_pieces form.shape) _ _ (unless_text words.Stock form.name form.stock) (shape_is form.shape)))

  form_makes : Makes verb.Define form_row form_pieces
  form_makes =
      let given = tail_given form in
      record {
        lexed = (tt, (name_word form.name lawful.name, (number_word form.number (omega (arith, lawful.number)), tail_words form lawful)));
        leads = (refl, (refl, tt));
        found = first_found (counts_in verb.Define None words.Form true (tail_pieces form)) form_row _ (given_leaves verb.Define None words.Form form_table (tail_pieces form) true refl given);
        allowed = (takes.Nothing, refl, refl, (refl, (refl, given_allows verb.Define form_row form_table (tail_pieces form) 2 true form_itself given refl refl)));
        agrees =
            second_off (counts_in verb.Define (Some form_row) words.Form false form_pieces) (counts_in verb.Define (Some form_row) words.Characteristic false form_pieces)
            (counts_in verb.Define (Some form_row) words.Wrap false form_pieces) (counts_in verb.Define (Some form_row) words.Truncate false form_pieces)
            (given_leaves verb.Define (Some form_row) words.Characteristic form_table (tail_pieces form) false refl given)
            (given_leaves verb.Define (Some form_row) words.Truncate form_table (tail_pieces form) false refl given);
      }

  form_asks : (now : ℕ) → is_definable form.name ≡ true → is_short form.stock ≡ true → AskFor user now command.DefineForm (Ask (DefineForm form)) form_pieces
  form_asks now definable short =
      let s : Settings = with_word (nothing_given command.DefineForm) words.Form in
      let t : Settings = with_definition s (record s.definition { name = Some form.name }) in
      let u : Settings = with_definition t (record t.definition { form_number = Some form.number }) in
      let number : List ℕ = decimal form.number in
      let lists : Lists = lists_by (spoken form_pieces) in
      let nodes : Option (List (List ℕ)) = nodes_by (spoken form_pieces) in
      let input : Input = Ask (DefineForm form) in
      let shape : Shape = form.shape in
      let so : Option (List ℕ) = stock_option (bytes_eq form.stock form.name) form.stock in
      let end : All_ask user now lists nodes input form.name form.number (form_with form.name form.number so shape) [] = λ v is. record {
        is = ap (λ (d : Definition). option_map Ask (option_map DefineForm (form_of d))) is
            ∙ ap (λ (stock : List ℕ). Some (Ask (DefineForm (record form { stock = stock })))) (stock_is (bytes_eq form.stock form.name) form.stock form.name refl);
      } in
      let h4 : List Piece = mark words.Wrap shape.wrap ++ [] in
      let h3 : List Piece = margins_unless (are_default_margins shape) shape ++ h4 in
      let h2 : List Piece = word_unless words.Width (shape.width == 132) (decimal shape.width) ++ h3 in
      let h1 : List Piece = word_unless words.Length (shape.length == 66) (decimal shape.length) ++ h2 in
      let wraps = wrap_asks user now lists nodes input form.name form.number shape.wrap so shape.length shape.width shape.top shape.bottom shape.left shape.right [] end in
      let margins = margins_ask user now lists nodes input form.name form.number (are_default_margins shape) shape so shape.length shape.width false h4 refl lawful.shape wraps in
      let widths = width_asks user now lists nodes input form.name form.number (shape.width == 132) shape.width so shape.length 0 6 0 0 false h3 refl lawful.shape.width margins in
      let lengths = length_asks user now lists nodes input form.name form.number (shape.length == 66) shape.length so 132 0 6 0 0 false h2 refl lawful.shape.length widths in
      let stocks = stock_asks user now lists nodes input form.name form.number (bytes_eq form.stock form.name) form.stock default_shape h1 lawful.stock short lengths in
      one_asks (nothing_given command.DefineForm) s (Spoken.SaysQualifier words.Form) (Spoken.SaysParameter form.name ∷ Spoken.SaysParameter number ∷ spoken (tail_pieces form)) refl
      (one_asks s t (Spoken.SaysParameter form.name) (Spoken.SaysParameter number ∷ spoken (tail_pieces form))
      (ap (option_map (λ n. with_definition s (record s.definition { name = Some n }))) (definable_said form.name lawful.name definable))
      (one_asks t u (Spoken.SaysParameter number) (spoken (tail_pieces form))
      (ap (option_map (λ n. with_definition t (record t.definition { form_number = Some n }))) (number_reads_back 65535 form.number (omega (arith, lawful.number)) (omega (arith, lawful.number))))
      (subst (λ (g : List Piece). Asks user now command.DefineForm lists nodes input u (spoken g)) (sym same_order) (stocks u refl))))

  pub form_back : ReadsBack user (Ask (DefineForm form))
  form_back = reads_back verb.Define form_row form_pieces user (Ask (DefineForm form)) form_is
      (λ is. (form_makes, λ now. form_asks now (and_left (is_definable form.name) (is_short form.stock) is) (and_right (is_definable form.name) (is_short form.stock) is)))
