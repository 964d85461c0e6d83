-- The texts of moments. Their numbers were taken from another program's calendar.
use Rattle.std.proofs.Common.{◌≡◌, refl, codes}
use Rattle.qm_model.specs.Calendar.{date_from_month, date_from_year, date_of_day}
use Rattle.qm_model.specs.MomentText.{month_letters, moment_text}

pub base : moment_text 0 ≡ codes "17-NOV-1858 00:00:00.00"
unfolding moment_text month_letters date_of_day date_from_year date_from_month
base = refl

pub end_of_the_first_day : moment_text 8639999 ≡ codes "17-NOV-1858 23:59:59.99"
unfolding moment_text month_letters date_of_day date_from_year date_from_month
end_of_the_first_day = refl

pub second_day : moment_text 8640000 ≡ codes "18-NOV-1858 00:00:00.00"
unfolding moment_text month_letters date_of_day date_from_year date_from_month
second_day = refl

pub end_of_the_first_year : moment_text 388799999 ≡ codes "31-DEC-1858 23:59:59.99"
unfolding moment_text month_letters date_of_day date_from_year date_from_month
end_of_the_first_year = refl

pub next_year : moment_text 388800000 ≡ codes " 1-JAN-1859 00:00:00.00"
unfolding moment_text month_letters date_of_day date_from_year date_from_month
next_year = refl

pub leap_day : moment_text 4052160000 ≡ codes "29-FEB-1860 00:00:00.00"
unfolding moment_text month_letters date_of_day date_from_year date_from_month
leap_day = refl

pub no_leap_day_in_1900 : moment_text 130282559999 ≡ codes "28-FEB-1900 23:59:59.99"
unfolding moment_text month_letters date_of_day date_from_year date_from_month
no_leap_day_in_1900 = refl

pub day_behind_it : moment_text 130282560000 ≡ codes " 1-MAR-1900 00:00:00.00"
unfolding moment_text month_letters date_of_day date_from_year date_from_month
day_behind_it = refl

pub leap_day_in_2000 : moment_text 445849920001 ≡ codes "29-FEB-2000 00:00:00.01"
unfolding moment_text month_letters date_of_day date_from_year date_from_month
leap_day_in_2000 = refl

pub two_places_everywhere : moment_text 530248710703 ≡ codes "27-NOV-2026 09:05:07.03"
unfolding moment_text month_letters date_of_day date_from_year date_from_month
two_places_everywhere = refl

pub noon : moment_text 540021600000 ≡ codes " 1-JAN-2030 12:00:00.00"
unfolding moment_text month_letters date_of_day date_from_year date_from_month
noon = refl

pub no_leap_day_in_2100 : moment_text 761425920000 ≡ codes " 1-MAR-2100 00:00:00.00"
unfolding moment_text month_letters date_of_day date_from_year date_from_month
no_leap_day_in_2100 = refl

pub last_moment : moment_text 25690901759999 ≡ codes "31-DEC-9999 23:59:59.99"
unfolding moment_text month_letters date_of_day date_from_year date_from_month
last_moment = refl
