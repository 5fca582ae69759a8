-- A column's slots as a list of partitions and the free slots, whatever a slot holds (01: the laid column).
--
--    slots   | partition 0 | partition 1 | .. | partition K - 1 | free slots |
--    lengths      n0             n1                 n(K-1)
use Rattle.std.specs.Prelude.{ℕ, ◌+◌, ◌-◌, Bool, true, ◌&&◌, take, drop, get_or, set}
use mathlib.Core.List.{List, [], ◌∷◌, flatten}
use Rattle.model.specs.Lists.{sum_of, every}

-- the partitions of the lengths ns, one after the other from slot 0 of s
unfoldable pub parts : {A : Type 0} → List ℕ → List A → List (List A)
parts [] s = []
parts (n ∷ ns) s = take n s ∷ parts ns (drop n s)

-- the slots that no partition has
unfoldable pub free : {A : Type 0} → List ℕ → List A → List A
free ns s = drop (sum_of ns) s

-- the slot at which partition p starts
unfoldable pub start_of : List ℕ → ℕ → ℕ
start_of ns p = sum_of (take p ns)

-- partition t of a list of them
abbrev pub part : {A : Type 0} → ℕ → List (List A) → List A
part t ps = get_or ps t []

-- the slots of partitions p to q, both included
unfoldable pub between : {A : Type 0} → List ℕ → ℕ → ℕ → List A → List A
between ns p q s = flatten (take (q + 1 - p) (drop p (parts ns s)))

-- every record of partition p, p + 1, .. passes the test of its partition
unfoldable pub every_at : {A : Type 0} → (ℕ → A → Bool) → ℕ → List (List A) → Bool
every_at test p [] = true
every_at test p (rs ∷ ps) = every (test p) rs && every_at test (p + 1) ps

-- the lengths with one more, or one fewer, at t
abbrev pub one_more : ℕ → List ℕ → List ℕ
one_more t ns = set ns t (get_or ns t 0 + 1)

abbrev pub one_fewer : ℕ → List ℕ → List ℕ
one_fewer t ns = set ns t (get_or ns t 0 - 1)
