-- The numbers of 01 by name. The block limit is a parameter of the definitions, and 64 is its use.
use Rattle.std.specs.Prelude.{ℕ}

-- "the smaller of C and 64 × B", "K (1 to 64)", "histograms of 64 counts"
abbrev pub block_limit : ℕ
block_limit = 64

-- "a weight in kg (0 to 100,000) and an oil yield .. (0 to 10,000)"
abbrev pub most_weight : ℕ
most_weight = 100000

abbrev pub most_yield : ℕ
most_yield = 10000

-- a day number (02: Slip 7): "0 is 1 January 2000, 36,524 is 31 December 2099"
abbrev pub most_day : ℕ
most_day = 36524

-- "three lent slices of one length C (1 to 262,144)"; a snapshot's "M is 0 to 262,144"
abbrev pub most_slots : ℕ
most_slots = 262144

-- "the block length B is 1 to 4,096"
abbrev pub most_block_length : ℕ
most_block_length = 4096

-- "a count is at most 1,000,000"
abbrev pub most_count : ℕ
most_count = 1000000

-- "the prices (1 to 1,000)"
abbrev pub most_price : ℕ
most_price = 1000

-- "limits are 0 to 1,000,000"
abbrev pub most_limit : ℕ
most_limit = 1000000

-- "each tally number within 10^12"
abbrev pub most_tally : ℕ
most_tally = 1000000000000

-- "a grower number (32 bits, any value)"; "a number above 4,294,967,295" is bad in a text
abbrev pub most_number : ℕ
most_number = 4294967295

-- layplan: "M is 1 to 1,024, Q 0 to 1,000"
abbrev pub most_deliveries : ℕ
most_deliveries = 1024

abbrev pub most_calls : ℕ
most_calls = 1000

-- the program of the settlement sheet (02: Slip 4): "with 512 slots"
abbrev pub sheet_slots : ℕ
sheet_slots = 512

-- the listing of every layout (02: Slip 13): "for at most 12 blocks"
abbrev pub most_listed_blocks : ℕ
most_listed_blocks = 12
