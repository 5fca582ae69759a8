-- The call that lists every permitted layout of a small set (02: Slip 13).
use Rattle.std.specs.Prelude.{ℕ, cond, List, ◌++◌, length, drop, eqb}
use Rattle.model.specs.declared.PriceCard.{PriceCard}
use Rattle.model.specs.declared.Limits.{Limits}
use Rattle.model.specs.declared.Listed.{Listed}
use Rattle.model.specs.Checks.{first_failed}
use Rattle.model.specs.Blocks.{Set}
use Rattle.model.specs.Plan.{permitted_layouts}
use Rattle.model.specs.Listing.{listing_text}
use Rattle.model.specs.Questions.{listing_checks}

-- what the call answers, and the lent text afterwards
pub record ListResult : Type 0 where
  pub answer : Listed
  pub text : List ℕ

abbrev pub listed : ℕ → ℕ → ℕ → Listed
listed n k b = record { refusal = n; layouts = k; bytes = b }

-- L is the block limit: how many layouts there are, and their lines at the front of the text; what is past them stays. A refusal writes nothing.
unfoldable pub list_call : ℕ → PriceCard → Limits → Set → List ℕ → List ℕ → ListResult
list_call L p l s hs out =
    let n : ℕ = first_failed (listing_checks L p l s hs (length out)) in
    let t : List ℕ = listing_text L p l s hs in
    cond (eqb n 0)
    (record { answer = listed 0 (length (permitted_layouts p l s)) (length t); text = t ++ drop (length t) out })
    (record { answer = listed n 0 0; text = out })
