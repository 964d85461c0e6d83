-- Words as they stand in a text.
use Rattle.std.specs.Prelude.{ℕ, zero, suc, ◌+◌, ◌==◌, nat_eq, max, is_some, if◌then◌else◌, List, drop, Option, None, Some, Result, Ok, Err}
use Rattle.std.specs.List.{common_prefix_len}
use Rattle.qm_time.specs.declared.fault.TimeFault.{TimeFault}
use Rattle.qm_time.specs.declared.fault.TimeFault.TheVariants.{Form}
use Rattle.qm_time.specs.declared.number.Number.{Number}
use Rattle.qm_model.specs.MomentText.{month_letters}

-- how many bytes in front a text shares with a word
unfoldable pub shared : List ℕ → List ℕ → ℕ
shared word text = common_prefix_len nat_eq word text

-- the first of so many months whose letters stand in front of a text
unfoldable pub month_in_front : ℕ → List ℕ → Option ℕ
month_in_front zero text = None
month_in_front (suc month) text =
    if is_some (month_in_front month text) then month_in_front month text else
    if shared (month_letters (suc month)) text == 3 then Some (suc month) else
    None

-- the most bytes in front that a text shares with one of so many months
unfoldable pub most_shared : ℕ → List ℕ → ℕ
most_shared zero text = 0
most_shared (suc month) text = max (most_shared month text) (shared (month_letters (suc month)) text)

-- the month in front of a text, or else how many of its bytes a month begins with
abbrev pub month_or : Option ℕ → ℕ → Result ℕ ℕ
month_or (Some month) most = Ok month
month_or None most = Err most

unfoldable pub found_month : List ℕ → Result ℕ ℕ
found_month text = month_or (month_in_front 12 text) (most_shared 12 text)

-- a month and its three letters, or the first byte with which no month goes on
abbrev pub month_from : ℕ → Result ℕ ℕ → Result Number TimeFault
month_from place (Ok month) = Ok (record { value = month; end = place + 3 })
month_from place (Err most) = Err (Form (place + most))

-- the month at a place
unfoldable pub month_at : List ℕ → ℕ → Result Number TimeFault
month_at text place = month_from place (found_month (drop place text))
