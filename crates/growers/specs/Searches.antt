-- What the search for the next grower answers, in the model's terms.
use Rattle.std.specs.Prelude.{ℕ, ◌+◌, ◌≤◌, ◌≡◌, Bool, true, cond, not, ◌&&◌, List, [], ◌∷◌, length, leb, ltb, eqb, Option, Some, None}
use Rattle.model.specs.declared.Delivery.{Delivery}
use Rattle.model.specs.declared.GrowerAnswer.{GrowerAnswer}
use Rattle.model.specs.Bounds.{most_slots, most_number}
use Rattle.model.specs.Lists.{every}
use Rattle.model.specs.Deliveries.{in_range, day_ok}
use Rattle.model.specs.Partitions.{part}
use Rattle.model.specs.Accesses.{no_counts, blocks_of, reads_of}
use Rattle.model.specs.Growers.{Direction, up, down, at_or_past, nearest_from, GrowerCount, nearest_of, growers_of, holds_one}
use Rattle.model.specs.GrowerCalls.{grower_answer}
use Rattle.growers.specs.declared.Nearest.{Nearest}

-- the last grower number on the way: no grower is past it
abbrev pub last_number : Direction → ℕ
last_number up = most_number
last_number down = 0

-- of these the first, or another where there is none
unfoldable pub nearest_or : Direction → ℕ → List ℕ → ℕ
nearest_or w other [] = other
nearest_or w other (n ∷ ns) = nearest_from w n ns

-- none of these is g to last on the way, both included
abbrev pub from_to : Direction → ℕ → ℕ → ℕ → Bool
from_to up g last x = leb g x && leb x last
from_to down g last x = leb last x && leb x g

abbrev pub none_from_to : Direction → ℕ → ℕ → List ℕ → Bool
none_from_to w g last s = every (λ (x : ℕ). not (from_to w g last x)) s

-- the last number on the way that may still be the first
abbrev pub last_wanted : Direction → GrowerCount → ℕ
last_wanted w n = cond (ltb 0 n.records) n.grower (last_number w)

-- of the first growers of two lists of records the first, with his records in both
unfoldable pub joined_count : Direction → GrowerCount → GrowerCount → GrowerCount
joined_count w a b =
    cond (ltb 0 b.records)
    (cond (ltb 0 a.records)
    (cond (eqb a.grower b.grower) (record { grower = a.grower; records = a.records + b.records }) (cond (at_or_past w a.grower b.grower) a b))
    b)
    a

-- the same in the code's struct
abbrev pub nearest_as : GrowerCount → Nearest
nearest_as n = record { grower = n.grower; records = n.records }

abbrev pub count_in : Nearest → GrowerCount
count_in s = record { grower = s.grower; records = s.records }

-- a search that may go on: few records, of a grower at or past g
pub record Fits (w : Direction) (g : ℕ) (s : Nearest) : Type 0 where
  pub few : s.records ≤ most_slots
  pub past : 1 ≤ s.records → at_or_past w g s.grower ≡ true

-- a search that goes on to the records ds, none of which is out of range
unfoldable pub near_more : Direction → ℕ → Nearest → List Delivery → Option Nearest
near_more w g s ds = cond (every in_range ds) (Some (nearest_as (joined_count w (count_in s) (nearest_of w g (growers_of ds))))) None

-- a search of the records ds
unfoldable pub near_all : Direction → ℕ → List Delivery → Option Nearest
near_all w g ds = cond (every in_range ds) (Some (nearest_as (nearest_of w g (growers_of ds)))) None

-- an answer where the days are in range
abbrev pub dated_answer : Bool → GrowerAnswer → GrowerAnswer
dated_answer t a = cond t a (grower_answer 19 0 0 no_counts)

-- the partitions is of ps, one after the other to the first that holds one, after n blocks; b is the block length, t whether the days so far are in range
unfoldable pub searched : ℕ → Direction → ℕ → List (List Delivery) → List ℕ → Bool → ℕ → GrowerAnswer
searched b w g ps [] t n = dated_answer t (grower_answer 0 0 0 (reads_of n))
searched b w g ps (i ∷ is) t n =
    let m : ℕ = n + blocks_of b (length (part i ps)) in
    let u : Bool = t && every day_ok (part i ps) in
    let found : GrowerCount = nearest_of w g (growers_of (part i ps)) in
    cond (every in_range (part i ps))
    (cond (holds_one w g (part i ps)) (dated_answer u (grower_answer 0 found.grower found.records (reads_of m))) (searched b w g ps is u m))
    (grower_answer 8 0 0 no_counts)
