-- A grower's block, block by block. Assumes nothing.
use Prim.Native.Nat.{ℕ, ◌+◌, ◌≤◌, ◌<◌}
use mathlib.Core.Path.{◌≡◌}
use native.Mathlib.Omega.{arith}
use borrow.Author.Count.{below_more}
use Rattle.model.specs.Blocks.{Set, blocks, last_grower, block_of}
use Rattle.model.proofs.SetLaws.{spot_only}

-- no block before i is the one
pub record Seeking (s : Set) (x last i : ℕ) : Type 0 where
  pub at : i ≤ last
  pub is_last : last + 1 ≡ blocks s
  pub before : (j : ℕ) → j < i → last_grower s j < x

module _ (s : Set) (x last i : ℕ) (w : Seeking s x last i) where
  pub seek_next : i < last → last_grower s i < x → Seeking s x last (i + 1)
  seek_next h k = record { at = omega arith; is_last = w.is_last; before = below_more _ i w.before k }

  pub seek_found : i < last → x ≤ last_grower s i → i ≡ block_of s x
  seek_found h k = spot_only s x i (record { within = omega (arith, w.is_last); before = w.before; here = λ n. k })

  -- where it stops
  pub seek_end : last ≤ i → last ≡ block_of s x
  seek_end h = spot_only s x last (record { within = omega (arith, w.is_last); before = λ j l. w.before j (omega (arith, w.at)); here = λ n. absurd (omega (arith, w.is_last)) })
