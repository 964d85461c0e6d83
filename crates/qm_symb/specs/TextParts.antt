-- Texts, cut at their first byte of a kind.
use Rattle.std.specs.Prelude.{ℕ, zero, suc, ◌==◌, Bool, true, false, ◌||◌, if◌then◌else◌, List, [], ◌∷◌}

-- what stands in front of the first byte of this kind
abbrev pub part_in_front : ℕ → List ℕ → List ℕ
part_in_front ender [] = []
part_in_front ender (b ∷ bs) = if b == ender then [] else b ∷ part_in_front ender bs

-- what stands behind it
abbrev pub part_behind : ℕ → List ℕ → List ℕ
part_behind ender [] = []
part_behind ender (b ∷ bs) = if b == ender then bs else part_behind ender bs

-- the first section of a text, without its form feed
abbrev pub section : List ℕ → List ℕ
section text = part_in_front 12 text

-- the text behind its first section and that one's form feed
abbrev pub others : List ℕ → List ℕ
others text = part_behind 12 text

-- a text that begins with a byte of a section
abbrev pub is_in_section : List ℕ → Bool
is_in_section [] = false
is_in_section (b ∷ bs) = if b == 12 then false else true

-- a line feed or a form feed
abbrev pub ends_line : ℕ → Bool
ends_line b = b == 10 || b == 12

-- How many bytes stand in front of the first line feed or form feed, where these are at most so many
abbrev pub bytes_of_line : ℕ → List ℕ → ℕ
bytes_of_line zero text = 0
bytes_of_line (suc most) [] = 0
bytes_of_line (suc most) (b ∷ bs) = if ends_line b then 0 else suc (bytes_of_line most bs)

-- whether a section ends with the line that ends in front of a text
abbrev pub is_section_over : List ℕ → Bool
is_section_over [] = true
is_section_over (b ∷ bs) = if b == 12 then true else if b == 10 then (if is_in_section bs then false else true) else false

-- a text without a form feed that it begins with
abbrev pub without_form_feed : List ℕ → List ℕ
without_form_feed [] = []
without_form_feed (b ∷ bs) = if b == 12 then bs else b ∷ bs

-- A text without the line feed and the form feed with which a line ends in front of it
abbrev pub behind_line : List ℕ → List ℕ
behind_line [] = []
behind_line (b ∷ bs) = if b == 12 then bs else if b == 10 then without_form_feed bs else b ∷ bs
