-- What a scan reads. Assumes nothing.
use Prim.Native.Nat.{ℕ, zero, suc, ◌-◌, ◌*◌, ◌≤◌}
use mathlib.Core.Path.{◌≡◌, ap}
use mathlib.Core.List.{List, [], ◌∷◌, map}
use native.Mathlib.Omega.{arith}
use native.Mathlib.Nat.{mul-le-mul}
use lib.Dec.{T, ltb, lt→ltb, ltb→lt}
use Rattle.model.specs.Lists.{every}
use Rattle.model.specs.Accesses.{counts, blocks_of, reads_of}
use Rattle.model.proofs.Tests.{and_fst, and_snd, and_mk}
use Rattle.model.proofs.ListLaws.{ceil_only, ceil_within}

-- an empty partition has no block
pub blocks_none : (b : ℕ) → 1 ≤ b → blocks_of b 0 ≡ 0
unfolding blocks_of
blocks_none b h = omega (arith, ceil_only 0 b 0 h (omega arith) (omega arith))

-- so that partitions that have blocks hold records
pub blocks_hold : (b : ℕ) (ns : List ℕ) → 1 ≤ b → T (every (ltb 0) (map (blocks_of b) ns)) → T (every (ltb 0) ns)
unfolding every
blocks_hold b [] h t = tt
blocks_hold b (zero ∷ ns) h t =
    absurd (omega (arith, blocks_none b h, ltb→lt 0 (blocks_of b 0) (and_fst (ltb 0 (blocks_of b 0)) (every (ltb 0) (map (blocks_of b) ns)) t)))
blocks_hold b (suc n ∷ ns) h t =
    and_mk (ltb 0 (suc n)) (every (ltb 0) ns) (lt→ltb 0 (suc n) (omega arith)) (blocks_hold b ns h (and_snd (ltb 0 (blocks_of b (suc n))) _ t))

-- no more blocks than records
pub blocks_most : (b n : ℕ) → 1 ≤ b → blocks_of b n ≤ n
unfolding blocks_of
blocks_most b n h =
    let m : n * 1 ≤ n * b = mul-le-mul {n₁ = n} {m₁ = 1} {n₂ = n} {m₂ = b} (omega arith) h in
    omega (arith, ceil_within n n b h (omega (arith, m)))

-- of one block or more the first is the random read
pub reads_some : (n : ℕ) → 1 ≤ n → reads_of n ≡ counts 1 (n - 1) 0
unfolding reads_of
reads_some zero h = absurd (omega arith)
reads_some (suc n) h = let e : n ≡ suc n - 1 = omega arith in ap (λ (m : ℕ). counts 1 m 0) e

-- never more than one random read, and no write
pub reads_small : (n : ℕ) → ((reads_of n).rr ≤ 1) × ((reads_of n).«rw» ≤ 0)
unfolding reads_of
reads_small zero = (omega arith, omega arith)
reads_small (suc n) = (omega arith, omega arith)
