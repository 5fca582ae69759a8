-- The edges of the listing of every layout, computed (02: Slip 13).
use Rattle.std.specs.Prelude.{ℕ, ◌≡◌, true, false, List, [], ◌∷◌, ◌++◌, map, set, replicate, pos, neg_ℤ}
use Rattle.model.specs.declared.PriceCard.{PriceCard}
use Rattle.model.specs.declared.Limits.{Limits}
use Rattle.model.specs.Bounds.{block_limit}
use Rattle.model.specs.Lists.{up_from}
use Rattle.model.specs.Checks.{first_failed}
use Rattle.model.specs.Prices.{factory, limits}
use Rattle.model.specs.Blocks.{Set}
use Rattle.model.specs.Histograms.{zeros}
use Rattle.model.specs.Plan.{permitted_layouts}
use Rattle.model.specs.Listing.{few_blocks, layout_line, listing_text, earlier_end, earlier_first}
use Rattle.model.specs.Questions.{listing_checks}
use Rattle.model.specs.Recorder.{recorded_from_zeros}
use Rattle.model.specs.ListingCalls.{listed, list_call}
use Rattle.model.specs.Text.{bytes_of}
use Rattle.model.specs.Examples.{undated, number, week, calls}

-- n deliveries of n growers, a block each
abbrev pub single : ℕ → Set
single n = record { block = 1; used = n; slices = undated (up_from 1 n) (replicate n 0) (replicate n 0) }

-- three deliveries in three blocks, the last two of one grower
abbrev pub two_of_one : Set
two_of_one = record { block = 1; used = 3; slices = undated (7 ∷ 9 ∷ 9 ∷ []) (0 ∷ 0 ∷ 0 ∷ []) (0 ∷ 0 ∷ 0 ∷ []) }

-- what the main case's calls leave; and one end of a move forward in block 0, that no list of calls leaves alone
abbrev pub recorded : List ℕ
recorded = recorded_from_zeros block_limit week calls

abbrev pub moved_forward : List ℕ
moved_forward = set (zeros block_limit) 448 1

abbrev pub refusal_of : Limits → Set → ℕ → ℕ
refusal_of l s room = first_failed (listing_checks block_limit factory l s (zeros block_limit) room)

pub record ListingComputed : Type 0 where
  pub twelve : few_blocks (single 12) ≡ true
  pub thirteen : few_blocks (single 13) ≡ false
  pub one_line : layout_line (pos 35) (1 ∷ 3 ∷ []) ≡ bytes_of "          2                  35          1          3" ++ 10 ∷ []
  -- "a minus sign just before its first digit if negative"
  pub below_zero : layout_line (neg_ℤ (pos 120)) (0 ∷ 11 ∷ []) ≡ bytes_of "          2                -120          0         11" ++ 10 ∷ []
  -- all eight layouts of the main case
  pub main_case : listing_text block_limit factory (limits 100 100) week recorded
      ≡ bytes_of "          4                  40          0          1          2          3" ++ 10 ∷
      bytes_of "          3                  35          0          1          3" ++ 10 ∷
      bytes_of "          3                  40          0          2          3" ++ 10 ∷
      bytes_of "          2                  40          0          3" ++ 10 ∷
      bytes_of "          3                  40          1          2          3" ++ 10 ∷
      bytes_of "          2                  35          1          3" ++ 10 ∷
      bytes_of "          2                  40          2          3" ++ 10 ∷
      bytes_of "          1                  40          3" ++ 10 ∷ []
  -- at most two partitions, of at most three blocks
  pub limited : listing_text block_limit factory (limits 5 15) week recorded
      ≡ bytes_of "          2                  40          0          3" ++ 10 ∷
      bytes_of "          2                  35          1          3" ++ 10 ∷
      bytes_of "          2                  40          2          3" ++ 10 ∷ []
  pub not-parted : permitted_layouts factory (limits 100 100) two_of_one ≡ (0 ∷ 2 ∷ []) ∷ (2 ∷ []) ∷ []
  pub one_block : listing_text block_limit factory (limits 3 10) (single 1) moved_forward ≡ bytes_of "          1                  -5          0" ++ 10 ∷ []
  -- the first difference decides, and equal layouts have none
  pub earlier : earlier_end (0 ∷ 3 ∷ []) (1 ∷ 2 ∷ 3 ∷ []) ≡ true
  pub later : earlier_end (0 ∷ 3 ∷ []) (0 ∷ 1 ∷ 3 ∷ []) ≡ false
  pub the_same : earlier_end (1 ∷ 3 ∷ []) (1 ∷ 3 ∷ []) ≡ false
  pub in_order : earlier_first ((0 ∷ 1 ∷ 2 ∷ []) ∷ (0 ∷ 2 ∷ []) ∷ (1 ∷ 2 ∷ []) ∷ (2 ∷ []) ∷ []) ≡ true
  pub twice : earlier_first ((0 ∷ 2 ∷ []) ∷ (1 ∷ 2 ∷ []) ∷ (0 ∷ 2 ∷ []) ∷ []) ≡ false
  -- 23 ahead of 11, and 11 ahead of 15; 15 for a byte too few
  pub too_many : refusal_of (limits 2 14) (single 13) 0 ≡ 23
  pub none : refusal_of (limits 2 14) (single 2) 0 ≡ 11
  pub byte_short : refusal_of (limits 100 100) (single 2) 96 ≡ 15
  pub exact : refusal_of (limits 100 100) (single 2) 97 ≡ 0
  -- a refusal leaves the text, and an accepted call what is past its lines
  pub left_alone : list_call block_limit factory (limits 2 14) (single 1) moved_forward (9 ∷ 8 ∷ []) ≡ record { answer = listed 11 0 0; text = 9 ∷ 8 ∷ [] }
  pub past_the_lines : list_call block_limit factory (limits 3 10) (single 1) moved_forward (replicate 43 0 ++ 9 ∷ 8 ∷ [])
      ≡ record { answer = listed 0 1 43; text = bytes_of "          1                  -5          0" ++ 10 ∷ 9 ∷ 8 ∷ [] }

-- 02's checks of a listing, in order
pub record ListingQuestions (L : ℕ) : Type 0 where
  pub asked : (p : PriceCard) (l : Limits) (s : Set) (hs : List ℕ) (room : ℕ) → map number (listing_checks L p l s hs room) ≡ 1 ∷ 2 ∷ 3 ∷ 4 ∷ 5 ∷ 8 ∷ 19 ∷ 9 ∷ 23 ∷ 11 ∷ 15 ∷ []
