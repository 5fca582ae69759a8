-- A record of three short numbers, read in one go: its fields are passed one after the other as by the loop. Assumes nothing.
use Prim.Native.Nat.{ℕ, ◌≤◌}
use mathlib.Core.Path.{◌≡◌, sym, subst}
use mathlib.Core.Bool.{true, false}
use mathlib.Core.List.{List}
use Rattle.std.specs.Prelude.{None, Some}
use native.Mathlib.Omega.{arith}
use lib.ListN.{length}
use Rattle.csv_fields.specs.Reading.{CellAt}
use Rattle.csv_rows.specs.declared.Columns.{Columns}
use Rattle.csv_rows.specs.declared.Record.{Record}
use Rattle.csv_rows.specs.Rows.{RecordIs, in_order, ShortRecordIs}
use Rattle.csv_rows.proofs.RecordLaws.{picked_new, picked_old, passed_none, passed_comma, passed_end}

-- the columns of an export
record Ordered (c : Columns) : Type 0 where
  pub counted : c.count ≡ 3
  pub grower : c.grower ≡ 0
  pub weight : c.weight ≡ 1
  pub oil : c.oil_yield ≡ 2

ordered : (c : Columns) → c.count ≡ 3 → in_order c ≡ true → Ordered c
ordered c k e = record { counted = k; grower = grind arith; weight = grind arith; oil = grind arith }

module _ {text : List ℕ} {at g w y p q n : ℕ} (c : Columns) (h : at ≤ length text)
    (a : CellAt text at (Some g) true p) (b : CellAt text p (Some w) true q) (e : CellAt text q (Some y) false n) where
  abbrev three : ℕ → Record
  three count = record { count = count; picks = record { grower = Some g; weight = Some w; oil_yield = Some y }; next = n }

  pub short_three : c.count ≡ 3 → in_order c ≡ true → ShortRecordIs text at c (Some (three c.count))
  short_three k i = record { is = go (ordered c k i) }
    where
      go : Ordered c → RecordIs text at c (Some (three c.count))
      go o =
          let first =
          passed_comma (passed_none text at c h)
          {new = record { grower = Some g; weight = None; oil_yield = None }}
          (record { grower = picked_new (sym o.grower); weight = picked_old (λ z. omega (arith, o.weight)); oil = picked_old (λ z. omega (arith, o.oil)) }) a in
          let second =
          passed_comma first
          {new = record { grower = Some g; weight = Some w; oil_yield = None }}
          (record { grower = picked_old (λ z. omega (arith, o.grower)); weight = picked_new (sym o.weight); oil = picked_old (λ z. omega (arith, o.oil)) }) b in
          subst (λ (count : ℕ). RecordIs text at c (Some (three count))) (sym o.counted)
          (passed_end second
          (record { grower = picked_old (λ z. omega (arith, o.grower)); weight = picked_old (λ z. omega (arith, o.weight)); oil = picked_new (sym o.oil) }) e)
