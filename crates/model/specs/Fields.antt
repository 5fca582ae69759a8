-- Numbers in a text (01: book and program), as bytes.
use Rattle.std.specs.Prelude.{ℕ, zero, suc, ◌+◌, ◌-◌, ◌*◌, ◌/◌, ◌%◌, cond, ◌&&◌, take, drop, get_or, replicate, leb, eqb, ℤ, pos, negsuc}
use Rattle.std.proofs.Math.Option.{Option, none, some}
use mathlib.Core.List.{List, [], ◌∷◌, ◌++◌, map, flatten}
use Rattle.model.specs.Bounds.{most_number}
use Rattle.model.specs.Lists.{same_list, only_if, and_then}

-- a blank, a minus, LF, and the last digit of n
abbrev pub blank : ℕ
blank = 32

abbrev pub minus : ℕ
minus = 45

abbrev pub line_end : ℕ
line_end = 10

abbrev pub last_digit : ℕ → ℕ
last_digit n = 48 + n % 10

-- "decimal, right-justified .., no leading zeros": the columns ahead of the last digit hold the digits of n,
-- just before them the sign, and blanks before that; nothing but sign and blanks for n = 0
unfoldable pub leading : ℕ → ℕ → ℕ → List ℕ
leading sign zero n = []
leading sign (suc w) n = cond (eqb n 0) (replicate w blank ++ sign ∷ []) (leading sign w (n / 10) ++ last_digit n ∷ [])

-- n in w columns, "zero as `0`"
unfoldable pub justified : ℕ → ℕ → ℕ → List ℕ
justified sign w n = leading sign (w - 1) (n / 10) ++ last_digit n ∷ []

-- "every number is .. in 11 columns"
abbrev pub field_width : ℕ
field_width = 11

abbrev pub number_field : ℕ → List ℕ
number_field n = justified blank field_width n

-- "the bill (20 columns)", a minus just before its first digit
unfoldable pub signed_field : ℤ → List ℕ
signed_field (pos n) = justified blank 20 n
signed_field (negsuc n) = justified minus 20 (suc n)

-- the number that digits spell, after v; a blank counts as 0
unfoldable pub spelled : ℕ → List ℕ → ℕ
spelled v [] = v
spelled v (b ∷ bs) = spelled (v * 10 + (b - 48)) bs

-- a text is the field of a number just if writing the number gives that text; "a number above 4,294,967,295" is none
unfoldable pub read_field : List ℕ → Option ℕ
read_field bs = only_if (same_list (number_field (spelled 0 bs)) bs && leb (spelled 0 bs) most_number) (spelled 0 bs)

-- "LF ends a line": a line of numbers
unfoldable pub line : List ℕ → List ℕ
line ns = flatten (map number_field ns) ++ line_end ∷ []

abbrev pub lines : List (List ℕ) → List ℕ
lines rows = flatten (map line rows)

-- what was read, and the text after it
pub record Taken (A : Type 0) : Type 0 where
  pub value : A
  pub rest : List ℕ

abbrev pub taken : {A : Type 0} → A → List ℕ → Taken A
taken a t = record { value = a; rest = t }

-- n fields; "each number is taken whole or the text is refused"
unfoldable pub take_numbers : ℕ → List ℕ → Option (Taken (List ℕ))
take_numbers zero t = some (taken [] t)
take_numbers (suc n) t = and_then (read_field (take field_width t)) (λ v. and_then (take_numbers n (drop field_width t)) (λ r. some (taken (v ∷ r.value) r.rest)))

-- the text after an LF
unfoldable pub after_line_end : List ℕ → Option (List ℕ)
after_line_end [] = none
after_line_end (b ∷ t) = only_if (eqb b line_end) t

-- a line of n numbers
unfoldable pub take_line : ℕ → List ℕ → Option (Taken (List ℕ))
take_line n t = and_then (take_numbers n t) (λ r. and_then (after_line_end r.rest) (λ u. some (taken r.value u)))

-- m lines of n numbers each
unfoldable pub take_lines : ℕ → ℕ → List ℕ → Option (Taken (List (List ℕ)))
take_lines zero n t = some (taken [] t)
take_lines (suc m) n t = and_then (take_line n t) (λ r. and_then (take_lines m n r.rest) (λ q. some (taken (r.value ∷ q.value) q.rest)))

-- number j of a line
abbrev pub nth : ℕ → List ℕ → ℕ
nth j ns = get_or ns j 0
