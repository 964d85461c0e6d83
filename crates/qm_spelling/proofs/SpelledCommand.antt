-- A command that is spelled in full is read as what it was spelled of.
use Rattle.std.proofs.Common.{◌≡◌, ℕ, List, ◌∷◌, Option, None, Some, Bool, true, false, if◌then◌else◌, Result, Ok, refl, sym, ap, ◌∙◌, option_and_then, ok_or}
use Rattle.qm_kinds.specs.declared.input.Input.{Input}
use Rattle.qm_commands.specs.declared.fault.Fault.{Fault}
use Rattle.qm_grammar.specs.declared.part.Part.{Part}
use Rattle.qm_commands.specs.declared.table.Command.{Command}
use Rattle.qm_commands.specs.declared.table.Row.{Row}
use Rattle.qm_commands.specs.declared.table.Verb.{Verb}
use Rattle.qm_grammar.specs.Parsed.{command_in}
use Rattle.qm_dcl.specs.declared.lists.Lists.{Lists}
use Rattle.qm_dcl.specs.declared.settings.Settings.{Settings}
use Rattle.qm_dcl.specs.Command.{asked, judged, asked_with, not_built, command_named, command_of}
use Rattle.qm_dcl.specs.Lists.{lists_of, nodes_of}
use Rattle.qm_dcl.specs.Settings.{nothing_given, settings_of}
use Rattle.qm_sayable.specs.Commands.{is_command}
use Rattle.qm_spelling.specs.Commands.{command_text}
use Rattle.qm_spelling.specs.ReadBack.{ReadsBack}
use Rattle.qm_spelling.proofs.SpelledLexemes.{text_of}
use Rattle.qm_spelling.proofs.SpelledPieces.{Piece, command_lexemes}
use Rattle.qm_spelling.proofs.SpelledReading.{Spoken, spoken}
use Rattle.qm_spelling.proofs.SpelledFinding.{IsRead, Makes, is_read}
use Rattle.qm_spelling.proofs.SpelledSettings.{one_given, given, follows}
use Rattle.qm_spelling.proofs.SpelledLists.{lists_by, nodes_by, lists_are, nodes_are}

-- from these settings on, what else is said asks for this
pub record Asks (user : List ℕ) (now : ℕ) (c : Command) (lists : Lists) (nodes : Option (List (List ℕ))) (input : Input) (s : Settings) (ps : List Spoken) : Type 0 where
  pub is : option_and_then (λ t. asked user c t lists nodes) (given now c s ps) ≡ Some input

-- these pieces, all together, ask for this
abbrev pub AskFor : List ℕ → ℕ → Command → Input → List Piece → Type 0
AskFor user now c input pieces = Asks user now c (lists_by (spoken pieces)) (nodes_by (spoken pieces)) input (nothing_given c) (spoken pieces)

-- one thing more that is said
pub one_asks : {user : List ℕ} {now : ℕ} {c : Command} {lists : Lists} {nodes : Option (List (List ℕ))} {input : Input} (s t : Settings) (p : Spoken) (ps : List Spoken)
    → one_given now c s p ps ≡ Some t → Asks user now c lists nodes input t ps → Asks user now c lists nodes input s (p ∷ ps)
one_asks {user} {now} {c} {lists} {nodes} {input} s t p ps is asks = record {
  is = ap (λ (o : Option Settings). option_and_then (λ u. asked user c u lists nodes) (option_and_then (λ u. given now c u ps) o)) is ∙ asks.is;
}

settled : (user : List ℕ) (c : Command) (lists : Lists) (nodes : Option (List (List ℕ))) (input : Input) (o : Option Settings) (read : Result Settings Fault)
    → ((t : Settings) → o ≡ Some t → read ≡ Ok t) → option_and_then (λ t. asked user c t lists nodes) o ≡ Some input → asked_with user c lists nodes read ≡ Ok input
settled user c lists nodes input None read follows asks = absurd cc
settled user c lists nodes input (Some t) read follows asks =
    ap (asked_with user c lists nodes) (follows t refl) ∙ ap (λ (o : Option Input). ok_or o not_built) asks

-- what is read asks for this
pub reads : (v : Verb) (row : Row) (pieces : List Piece) (user : List ℕ) (now : ℕ) (input : Input)
    → Makes v row pieces → AskFor user now row.command input pieces → command_of user now (text_of (command_lexemes v pieces)) ≡ Ok input
reads v row pieces user now input makes asks =
    let text : List ℕ = text_of (command_lexemes v pieces) in
    let read : IsRead text row pieces = is_read v row pieces makes in
    let ps : List Spoken = spoken pieces in
    let c : Command = row.command in
    ap (command_named user now text) read.named
    ∙ ap (λ (more : List Part). asked_with user c (lists_of text more) (nodes_of text more) (judged (command_in text) (settings_of now text c more))) read.are_parts
    ∙ ap (λ (r : Result Command Fault). asked_with user c (lists_of text read.parts) (nodes_of text read.parts) (judged r (settings_of now text c read.parts))) read.command
    ∙ ap (λ (l : Lists). asked_with user c l (nodes_of text read.parts) (settings_of now text c read.parts)) (lists_are text read.parts ps read.tells)
    ∙ ap (λ (n : Option (List (List ℕ))). asked_with user c (lists_by ps) n (settings_of now text c read.parts)) (nodes_are text read.parts ps read.tells)
    ∙ settled user c (lists_by ps) (nodes_by ps) input (given now c (nothing_given c) ps) (settings_of now text c read.parts)
    (follows text now c read.parts ps (nothing_given c) read.tells) asks.is

-- ---- the spelling

pub text_where : (b : Bool) (a text : List ℕ) → (if b then Some a else None) ≡ Some text → (b ≡ true) × (a ≡ text)
text_where true a text h = (refl, cc)
text_where false a text h = absurd cc

-- an input reads back where its spelling is that of pieces that ask for it
pub reads_back : (v : Verb) (row : Row) (pieces : List Piece) (user : List ℕ) (input : Input)
    → command_text input ≡ text_of (command_lexemes v pieces)
    → (is_command input ≡ true → Makes v row pieces × ((now : ℕ) → AskFor user now row.command input pieces)) → ReadsBack user input
reads_back v row pieces user input spelled by now text h =
    let is = text_where (is_command input) (command_text input) text h in
    let both = by is.0 in
    ap (command_of user now) (sym is.1 ∙ spelled) ∙ reads v row pieces user now input both.0 (both.1 now)
