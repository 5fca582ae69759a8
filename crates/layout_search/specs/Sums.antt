-- Sums of naturals over blocks and over partitions.
use Rattle.std.specs.Prelude.{ℕ, zero, suc, ◌+◌, ◌-◌, List, [], ◌∷◌, length}

-- f s + .. + f (s + c - 1)
unfoldable pub sum : (ℕ → ℕ) → ℕ → ℕ → ℕ
sum f s zero = 0
sum f s (suc c) = sum f s c + f (s + c)

-- f a + .. + f (i - 1)
unfoldable pub upto : (ℕ → ℕ) → ℕ → ℕ → ℕ
upto f a i = sum f a (i - a)

-- The partition of the blocks a to e, with k partitions from it to the last, itself included:
-- g prices a block by its number, the blocks before and after it in its partition, and k.
unfoldable pub span : (ℕ → ℕ → ℕ → ℕ → ℕ) → ℕ → ℕ → ℕ → ℕ
span g a e k = upto (λ i. g i (i - a) (e - i) k) a (e + 1)

-- the partitions that end at the blocks of a list, the first of which begins at block a
abbrev pub spans : (ℕ → ℕ → ℕ → ℕ → ℕ) → ℕ → List ℕ → ℕ
spans g a [] = 0
spans g a (e ∷ es) = span g a e (length es + 1) + spans g (e + 1) es
