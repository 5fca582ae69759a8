-- The program layplan (01): from its whole input to its whole output, as bytes.
use Rattle.std.specs.Prelude.{ℕ, ◌+◌, Bool, cond, ◌&&◌, List, [], ◌∷◌, ◌++◌, map, length, take, replicate, leb, eqb}
use Rattle.std.proofs.Math.Option.{Option, some}
use Rattle.model.specs.declared.PriceCard.{PriceCard}
use Rattle.model.specs.declared.Limits.{Limits}
use Rattle.model.specs.Lists.{only_if, and_then, value_or}
use Rattle.model.specs.Bounds.{block_limit, most_deliveries, most_calls}
use Rattle.model.specs.Prices.{prices, limits}
use Rattle.model.specs.Deliveries.{delivery, slices_of}
use Rattle.model.specs.Blocks.{Set}
use Rattle.model.specs.Calls.{Call, find, range, insert, delete, move}
use Rattle.model.specs.Histograms.{zeros}
use Rattle.model.specs.Fields.{Taken, number_field, signed_field, line_end, line, take_line, take_lines, nth}
use Rattle.model.specs.Recorder.{Recorded, record_call}
use Rattle.model.specs.Planner.{PlanResult, plan_call}

-- what an input says
pub record Week : Type 0 where
  pub card : PriceCard
  pub limit : Limits
  pub set : Set
  pub calls : List Call

-- a call's five numbers: "kind 1 find, 2 range, 3 insert, 4 delete, 5 move; grower or lo; weight or hi; yield; new grower; unused 0"
-- 02, Slip 7: "old books, imports and `layplan` give day 0"
unfoldable pub call_of : List ℕ → Option Call
call_of ns =
    let a : ℕ = nth 1 ns in
    let b : ℕ = nth 2 ns in
    let c : ℕ = nth 3 ns in
    let d : ℕ = nth 4 ns in
    cond (eqb (nth 0 ns) 1 && eqb b 0 && eqb c 0 && eqb d 0) (some (find a))
    (cond (eqb (nth 0 ns) 2 && eqb c 0 && eqb d 0) (some (range a b))
    (cond (eqb (nth 0 ns) 3 && eqb d 0) (some (insert (delivery a b c 0)))
    (cond (eqb (nth 0 ns) 4 && eqb d 0) (some (delete (delivery a b c 0)))
    (only_if (eqb (nth 0 ns) 5) (move (delivery a b c 0) d)))))

unfoldable pub calls_of : List (List ℕ) → Option (List Call)
calls_of [] = some []
calls_of (l ∷ ls) = and_then (call_of l) (λ c. and_then (calls_of ls) (λ cs. some (c ∷ cs)))

-- "C is M + 1": the deliveries' numbers and one free slot
abbrev pub with_free_slot : ℕ → List (List ℕ) → List ℕ
with_free_slot j ls = map (nth j) ls ++ 0 ∷ []

abbrev pub set_of : ℕ → ℕ → List (List ℕ) → Set
set_of b m ls = record { block = b; used = m; slices = slices_of (with_free_slot 0 ls) (with_free_slot 1 ls) (with_free_slot 2 ls) (replicate (length ls + 1) 0) }

-- "M is 1 to 1,024, Q 0 to 1,000"
unfoldable pub sizes_ok : ℕ → ℕ → Bool
sizes_ok m q = leb 1 m && leb m most_deliveries && leb q most_calls

unfoldable pub take_sizes : List ℕ → Option (Taken (List ℕ))
take_sizes t = and_then (take_line 3 t) (λ n. only_if (sizes_ok (nth 1 n.value) (nth 2 n.value)) n)

-- "RR, SR, RW; then R, U; then B, M, Q; M deliveries; Q calls of five numbers", and no line left over
unfoldable pub read_week : List ℕ → Option Week
read_week t =
    and_then (take_line 3 t) (λ p.
    and_then (take_line 2 p.rest) (λ l.
    and_then (take_sizes l.rest) (λ n.
    and_then (take_lines (nth 1 n.value) 3 n.rest) (λ ds.
    and_then (take_lines (nth 2 n.value) 5 ds.rest) (λ qs.
    and_then (calls_of qs.value) (λ cs.
    only_if (eqb (length qs.rest) 0) (record {
      card = prices (nth 0 p.value) (nth 1 p.value) (nth 2 p.value);
      limit = limits (nth 0 l.value) (nth 1 l.value);
      set = set_of (nth 0 n.value) (nth 1 n.value) ds.value;
      calls = cs;
    })))))))

-- "then the recorder refuses, call by call": the calls are recorded up to the first that is refused
unfoldable pub record_until_refused : Set → List ℕ → List Call → Recorded
record_until_refused s hs [] = record { refusal = 0; histograms = hs }
record_until_refused s hs (c ∷ cs) =
    let r : Recorded = record_call block_limit s hs c in
    cond (eqb r.refusal 0) (record_until_refused s r.histograms cs) r

-- "or only the refusal number (11 columns)"
abbrev pub refusal_text : ℕ → List ℕ
refusal_text n = line (n ∷ [])

-- "then each partition's first and last block", the first partition beginning at block a
unfoldable pub partition_texts : ℕ → List ℕ → List ℕ
partition_texts a [] = []
partition_texts a (e ∷ es) = line (a ∷ e ∷ []) ++ partition_texts (e + 1) es

-- "it prints K (11 columns) and the bill (20 columns)"; the ends are written to a slice of 64 numbers
unfoldable pub plan_text : PlanResult → List ℕ
plan_text r =
    cond (eqb r.answer.refusal 0)
    (number_field r.answer.count ++ signed_field r.answer.cost ++ line_end ∷ partition_texts 0 (take r.answer.count r.ends))
    (refusal_text r.answer.refusal)

unfoldable pub week_text : Week → List ℕ
week_text w =
    let r : Recorded = record_until_refused w.set (zeros block_limit) w.calls in
    cond (eqb r.refusal 0)
    (plan_text (plan_call block_limit w.card w.limit w.set r.histograms (replicate block_limit 0)))
    (refusal_text r.refusal)

-- "a bad line, M, Q or kind gives 14 ahead of all else"
unfoldable pub layplan : List ℕ → List ℕ
layplan t = value_or (refusal_text 14) (and_then (read_week t) (λ w. some (week_text w)))
