-- What the laws of dates and terms speak of beside the model's definitions: the calendar order, the months of 2000 to 2099, and how many days a term has.
use Rattle.std.specs.Prelude.{ℕ, ◌+◌, ◌-◌, Bool, ◌&&◌, ◌||◌, leb, ltb, eqb}
use Rattle.model.specs.Calendar.{Span, Date, first_year, last_year}

-- the calendar order: by year, then by month, then by day
unfoldable pub is_earlier : Date → Date → Bool
is_earlier s t =
    ltb s.year t.year
    || (eqb s.year t.year
    && (ltb s.month t.month || (eqb s.month t.month && ltb s.day t.day)))

-- a month of 2000 to 2099
unfoldable pub is_month : ℕ → ℕ → Bool
is_month y m = leb first_year y && leb y last_year && (leb 1 m && leb m 12)

abbrev pub days_in : Span → ℕ
days_in s = s.last + 1 - s.first
