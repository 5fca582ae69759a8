-- Lines of numbers at a byte of a text.
use Rattle.std.specs.Prelude.{ℕ, zero, suc, ◌+◌, ◌*◌, Bool, true, cond, ◌&&◌, List, [], ◌∷◌, drop, Result, Ok, Err}
use Rattle.model.specs.declared.refusal.Refusal.{Refusal}
use Rattle.model.specs.declared.refusal.Refusal.TheVariants.{Text}
use Rattle.model.specs.Lists.{is_some}
use Rattle.model.specs.Fields.{field_width, after_line_end}
use Rattle.fields.specs.Reading.{field_ok, value_at}

-- "each number is taken whole or the text is refused by 14"
abbrev pub text_checked : Bool → Result (Unit {0}) Refusal
text_checked good = cond good (Ok tt) (Err Text)

-- n numbers, each a stride after the one before; do they all stand there?
unfoldable pub column_at : ℕ → ℕ → ℕ → List ℕ → List ℕ
column_at stride at zero t = []
column_at stride at (suc n) t = value_at at t ∷ column_at stride (at + stride) n t

unfoldable pub column_ok : ℕ → ℕ → ℕ → List ℕ → Bool
column_ok stride at zero t = true
column_ok stride at (suc n) t = field_ok at t && column_ok stride (at + stride) n t

-- the bytes of a line of n numbers
abbrev pub line_length : ℕ → ℕ
line_length n = field_width * n + 1

-- do n fields stand at a byte, and an LF after them? m such lines?
unfoldable pub line_ok : ℕ → ℕ → List ℕ → Bool
line_ok zero at t = is_some (after_line_end (drop at t))
line_ok (suc n) at t = field_ok at t && line_ok n (at + field_width) t

-- its numbers
abbrev pub line_found : ℕ → ℕ → List ℕ → Result (List ℕ) Refusal
line_found n at t = cond (line_ok n at t) (Ok (column_at field_width at n t)) (Err Text)

unfoldable pub lines_ok : ℕ → ℕ → ℕ → List ℕ → Bool
lines_ok n zero at t = true
lines_ok n (suc m) at t = line_ok n at t && lines_ok n m (at + line_length n) t

-- the n numbers of each of m lines
unfoldable pub rows_at : ℕ → ℕ → ℕ → List ℕ → List (List ℕ)
rows_at n zero at t = []
rows_at n (suc m) at t = column_at field_width at n t ∷ rows_at n m (at + line_length n) t
