-- Dates of `jiff` as days of the calendar.
use Rattle.std.specs.Prelude.{◌≡◌, pos, unsigned_abs}
use Rattle.jiff_core.specs.declared.civil.date.Date.{Date}
use Rattle.qm_model.specs.Calendar.{CivilDate}

-- the same date, of a year from 0 on
abbrev pub civil_date : Date → CivilDate
civil_date d = record { year = unsigned_abs d.year; month = d.month; day = d.day }

-- the two are one date
pub record IsSameDate (date : CivilDate) (d : Date) : Type 0 where
  pub year : d.year ≡ pos date.year
  pub month : d.month ≡ date.month
  pub day : d.day ≡ date.day
