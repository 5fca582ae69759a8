-- An input of layplan: what is asked of its bytes, and where each number of a good one stands.
use Rattle.std.specs.Prelude.{ℕ, zero, suc, ◌+◌, ◌*◌, Bool, true, cond, ◌&&◌, List, [], ◌∷◌, length, leb, eqb}
use Rattle.std.specs.Prelude.{Option, Some, None, Result, Ok, Err}
use Rattle.std.proofs.Math.Option.{Option as PathOption, some, none}
use Rattle.model.specs.declared.refusal.Refusal.{Refusal}
use Rattle.model.specs.declared.refusal.Refusal.TheVariants.{Text}
use Rattle.layplan_text.specs.declared.Call.{Call as CodeCall}
use Rattle.layplan_text.specs.declared.Call.TheVariants.{Find, Range, Insert, Delete, Move}
use Rattle.model.specs.declared.PriceCard.{PriceCard}
use Rattle.model.specs.declared.Limits.{Limits}
use Rattle.model.specs.Lists.{is_some}
use Rattle.model.specs.Prices.{prices, limits}
use Rattle.model.specs.Deliveries.{delivery, Slices}
use Rattle.model.specs.Blocks.{Set}
use Rattle.model.specs.Calls.{Call, find, range, insert, delete, move}
use Rattle.model.specs.Fields.{nth}
use Rattle.model.specs.Planner.{PlanResult, plan_call}
use Rattle.model.specs.Program.{Week, call_of, sizes_ok}
use Rattle.fields.specs.Reading.{value_at}
use Rattle.lines.specs.Lines.{column_at, line_ok, lines_ok}

-- a call by its kind alone: what `call_of` finds in a line whose unused numbers are 0
unfoldable pub call_by : List ℕ → Call
call_by ns =
    cond (eqb (nth 0 ns) 1) (find (nth 1 ns))
    (cond (eqb (nth 0 ns) 2) (range (nth 1 ns) (nth 2 ns))
    (cond (eqb (nth 0 ns) 3) (insert (delivery (nth 1 ns) (nth 2 ns) (nth 3 ns) 0))
    (cond (eqb (nth 0 ns) 4) (delete (delivery (nth 1 ns) (nth 2 ns) (nth 3 ns) 0))
    (move (delivery (nth 1 ns) (nth 2 ns) (nth 3 ns) 0) (nth 4 ns)))))

-- the code's call, and what it says of five numbers
abbrev pub call_given : CodeCall → Call
call_given (Find g) = find g
call_given (Range lo hi) = range lo hi
call_given (Insert d) = insert d
call_given (Delete d) = delete d
call_given (Move d g) = move d g

abbrev pub call_said : Option CodeCall → PathOption Call
call_said (Some c) = some (call_given c)
call_said None = none

-- the call of the line of five numbers at a byte, and the calls of q such lines
abbrev pub call_at : ℕ → List ℕ → Call
call_at at t = call_by (column_at 11 at 5 t)

unfoldable pub calls_at : ℕ → ℕ → List ℕ → List Call
calls_at zero at t = []
calls_at (suc q) at t = call_at at t ∷ calls_at q (at + 56) t

-- is the line at a byte five numbers that are a call? q such lines?
unfoldable pub call_ok : ℕ → List ℕ → Bool
call_ok at t = line_ok 5 at t && is_some (call_of (column_at 11 at 5 t))

-- "a bad line, M, Q or kind gives 14": the line's call or that refusal
abbrev pub call_told : Result CodeCall Refusal → Result Call Refusal
call_told (Ok c) = Ok (call_given c)
call_told (Err r) = Err r

abbrev pub call_found : ℕ → List ℕ → Result Call Refusal
call_found at t = cond (call_ok at t) (Ok (call_at at t)) (Err Text)

unfoldable pub calls_ok : ℕ → ℕ → List ℕ → Bool
calls_ok zero at t = true
calls_ok (suc q) at t = call_ok at t && calls_ok q (at + 56) t

-- M and Q, where the calls begin, and where they stop
abbrev pub used_in : List ℕ → ℕ
used_in t = value_at 68 t

abbrev pub count_in : List ℕ → ℕ
count_in t = value_at 79 t

abbrev pub calls_from : List ℕ → ℕ
calls_from t = 91 + 34 * used_in t

-- are the first three lines good, M and Q in range?
unfoldable pub head_ok : List ℕ → Bool
head_ok t = line_ok 3 0 t && (line_ok 2 34 t && (line_ok 3 57 t && sizes_ok (used_in t) (count_in t)))

-- is the text an input?
unfoldable pub week_ok : List ℕ → Bool
week_ok t = head_ok t && (lines_ok 3 (used_in t) 91 t && (calls_ok (count_in t) (calls_from t) t && leb (length t) (calls_from t + 56 * count_in t)))

-- what it says, with the deliveries in slices
abbrev pub card_in : List ℕ → PriceCard
card_in t = prices (value_at 0 t) (value_at 11 t) (value_at 22 t)

abbrev pub limits_in : List ℕ → Limits
limits_in t = limits (value_at 34 t) (value_at 45 t)

abbrev pub week_in : List ℕ → Slices → Week
week_in t s = record {
  card = card_in t;
  limit = limits_in t;
  set = record { block = value_at 57 t; used = used_in t; slices = s };
  calls = calls_at (count_in t) (calls_from t) t;
}

-- the planner's answer to it at the block limit L, for its set, from the histograms that its calls left
abbrev pub plan_in : ℕ → List ℕ → Set → List ℕ → List ℕ → PlanResult
plan_in L t s hs out = plan_call L (card_in t) (limits_in t) s hs out
