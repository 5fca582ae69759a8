-- What insert, delete and move do to a column's slots, whatever a slot holds (01: the laid column).
-- An empty partition rotates to itself, so that no rule has a case for it.
--
--    insert x into t            | .. | t  x | rotated left | rotated left | free, one fewer |
--    delete slot i of t         | .. | t filled from its end | rotated right | .. | 0 | free |
--    move forward, t to u       | .. | t filled from its end | rotated right | x u | .. |
--    move backward, t to u      | .. | u x | rotated left | t filled from its front | .. |
use Rattle.std.specs.Prelude.{ℕ, ◌+◌, ◌-◌, cond, length, take, drop, ltb}
use mathlib.Core.List.{List, [], ◌∷◌, ◌++◌, map, flatten}
use Rattle.model.specs.Partitions.{parts, free, part}

-- One partition.

-- its first record has gone to the slot just past its end
unfoldable pub rotate_left : {A : Type 0} → List A → List A
rotate_left p = drop 1 p ++ take 1 p

-- its last record has gone to the slot before its start
unfoldable pub rotate_right : {A : Type 0} → List A → List A
rotate_right p = drop (length p - 1) p ++ take (length p - 1) p

-- "the partition's last record fills" slot i
unfoldable pub fill_from_end : {A : Type 0} → ℕ → List A → List A
fill_from_end i p = take i p ++ rotate_right (drop (i + 1) p)

-- "backward, the first record fills the gap" at slot i
unfoldable pub fill_from_front : {A : Type 0} → ℕ → List A → List A
fill_from_front i p = rotate_left (take i p) ++ drop (i + 1) p

-- A list of partitions.

-- insert: x goes just past the end of t; from the last partition down to the one after t the first record goes past the end
unfoldable pub insert_at : {A : Type 0} → ℕ → A → List (List A) → List (List A)
insert_at t x ps = take t ps ++ (part t ps ++ x ∷ []) ∷ map rotate_left (drop (t + 1) ps)

-- delete: the last record of t fills slot i; each later partition's last record goes to the slot before its start
unfoldable pub delete_at : {A : Type 0} → ℕ → ℕ → List (List A) → List (List A)
delete_at t i ps = take t ps ++ fill_from_end i (part t ps) ∷ map rotate_right (drop (t + 1) ps)

-- move forward (t before u): as delete among the partitions ahead of u, and x is stored before the start of u
unfoldable pub move_forward : {A : Type 0} → ℕ → ℕ → ℕ → A → List (List A) → List (List A)
move_forward t i u x ps = delete_at t i (take u ps) ++ (x ∷ part u ps) ∷ drop (u + 1) ps

-- move backward (u before t): the first record of t fills slot i, each partition passed sends its first record past its end, x is stored past u's end
unfoldable pub move_backward : {A : Type 0} → ℕ → ℕ → ℕ → A → List (List A) → List (List A)
move_backward t i u x ps = insert_at u x (take t ps) ++ fill_from_front i (part t ps) ∷ drop (t + 1) ps

-- move within a partition: as in delete, and x is stored in its last slot
unfoldable pub move_within : {A : Type 0} → ℕ → ℕ → A → List (List A) → List (List A)
move_within t i x ps = take t ps ++ (fill_from_end i (part t ps) ++ x ∷ []) ∷ drop (t + 1) ps

-- move: slot i of partition t becomes x in partition u
unfoldable pub move_at : {A : Type 0} → ℕ → ℕ → ℕ → A → List (List A) → List (List A)
move_at t i u x ps = cond (ltb t u) (move_forward t i u x ps) (cond (ltb u t) (move_backward t i u x ps) (move_within t i x ps))

-- A slice whose partitions have the lengths ns, slot by slot.

-- an insert takes the first free slot
unfoldable pub inserted : {A : Type 0} → List ℕ → ℕ → A → List A → List A
inserted ns t x s = flatten (insert_at t x (parts ns s)) ++ drop 1 (free ns s)

-- a delete frees one, which becomes z
unfoldable pub deleted : {A : Type 0} → List ℕ → ℕ → ℕ → A → List A → List A
deleted ns t i z s = flatten (delete_at t i (parts ns s)) ++ z ∷ free ns s

-- a move leaves the free slots alone
unfoldable pub moved : {A : Type 0} → List ℕ → ℕ → ℕ → ℕ → A → List A → List A
moved ns t i u x s = flatten (move_at t i u x (parts ns s)) ++ free ns s
