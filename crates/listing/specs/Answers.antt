-- What the limits let a layout be, and what checking a set for a listing finds.
use Rattle.std.specs.Prelude.{ℕ, ◌<◌, ◌≡◌, false, List, length, get_or}
use Rattle.model.specs.declared.PriceCard.{PriceCard}
use Rattle.model.specs.declared.Limits.{Limits}
use Rattle.model.specs.Bounds.{most_listed_blocks}
use Rattle.model.specs.Blocks.{Set, blocks}
use Rattle.model.specs.Layouts.{most_partitions, longest_partition, separates_none}
use Rattle.model.specs.Plan.{permitted_layouts}
use Rattle.model.specs.Listing.{listing_text}
use Rattle.layout_lines.specs.declared.Rules.{Rules}
use Rattle.listing.specs.declared.Sized.{Sized}

-- what the limits let a layout of so many blocks be
abbrev pub rules_of : PriceCard → Limits → ℕ → Rules
rules_of p l n = record { longest = longest_partition p l; most = most_partitions p l; blocks = n }

-- what the layouts are held to, where an end may stand, and how many layouts and bytes there are; L is the block limit
pub record IsSized (L : ℕ) (p : PriceCard) (l : Limits) (s : Set) (hs : List ℕ) (x : Sized) : Type 0 where
  pub rules : x.rules ≡ rules_of p l (blocks s)
  pub long : length x.fits ≡ most_listed_blocks
  pub ends : (i : ℕ) → i < blocks s → get_or x.fits i false ≡ separates_none s i
  pub layouts : x.size.layouts ≡ length (permitted_layouts p l s)
  pub bytes : x.size.bytes ≡ length (listing_text L p l s hs)
