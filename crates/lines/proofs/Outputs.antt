-- A text at the front of a buffer of zeros. Assumes nothing.
use Prim.Native.Nat.{ℕ, ◌≤◌}
use mathlib.Core.Path.{◌≡◌, sym, ap, ap₂, ◌∙◌, subst}
use mathlib.Core.List.{List, ◌++◌}
use native.Mathlib.Omega.{arith}
use lib.ListN.{length, take, drop, replicate, length-append}
use Rattle.std.proofs.Math.Seq.{take-append_seam}
use Rattle.fields.specs.Writing.{placed}
use Rattle.fields.proofs.Placing.{placed_first}
use Rattle.lines.specs.declared.output.Output.{Output}
use Rattle.lines.specs.Outputs.{output_of}

module _ {n : ℕ} where
  -- what was placed at the front of zeros
  pub output_is : (bs text : List ℕ) (k : ℕ) → text ≡ placed 0 bs (replicate n 0) → k ≡ length bs → ◌≡◌ {A = Output n} (record { bytes = text; count = k }) (output_of n bs)
  unfolding output_of
  output_is bs text k e h = ap₂ (λ (b : List ℕ) (i : ℕ). record { bytes = b; count = i }) (e ∙ placed_first bs (replicate n 0)) h

  -- the count is within the buffer
  pub output_within : (o : Output n) (bs : List ℕ) → o ≡ output_of n bs → o.count ≤ length o.bytes
  unfolding output_of
  output_within o bs e =
      let k : o.count ≡ length bs = ap (λ (x : Output n). x.count) e in
      let b : o.bytes ≡ bs ++ drop (length bs) (replicate n 0) = ap (λ (x : Output n). x.bytes) e in
      omega (arith, ap length b, length-append bs (drop (length bs) (replicate n 0)))

  -- the text is its front
  pub output_front : (o : Output n) (bs : List ℕ) → o ≡ output_of n bs → take o.count o.bytes ≡ bs
  unfolding output_of
  output_front o bs e = subst (λ (x : Output n). take x.count x.bytes ≡ bs) (sym e) (take-append_seam bs _)
