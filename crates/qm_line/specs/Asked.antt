-- What the lines of a cluster ask for.
-- OpenVMS User's Manual, on entering commands; OpenVMS System Services Reference Manual, $SNDJBC and $GETQUI. This site's own: acts at
-- the site, and item lists in hexadecimal.
use Rattle.std.specs.Prelude.{◌≡◌, ℕ, List}
use Rattle.qm_history.specs.Common.{Input, read, text_asked, Scans, scans_of, UserLine, Visit}
use Rattle.qm_dcl.specs.Command.{command_of}
use Rattle.qm_dcl.specs.Lines.{or_fault}
use Rattle.qm_sjc.specs.Meant.{items_mean}

-- what the text of a command of a user asks for that is read at a moment
abbrev pub command_means : List ℕ → ℕ → List ℕ → Input
command_means user reading text = or_fault (command_of user reading text)

-- what a line asks for at a node that has begun these listings, and keeps these runs
abbrev pub line_with : UserLine → ℕ → Scans → List ℕ → Input
line_with l reading s known = text_asked items_mean command_means l.line.sort l.user reading l.line.text s known

-- what a line asks for behind the node's turns before it
abbrev pub line_asked : UserLine → ℕ → List Visit → List ℕ → Input
line_asked = read items_mean command_means

-- of a node's turns a line asks by the listings alone that they have begun
abbrev pub AskByListings : Type 0
AskByListings =
    (l : UserLine) (reading : ℕ) (earlier : List Visit) (known : List ℕ) → line_asked l reading earlier known ≡ line_with l reading (scans_of earlier) known
