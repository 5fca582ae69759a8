-- The tally (01): "a thin call adds one report's counts to a tally".
use Rattle.std.specs.Prelude.{ℕ, ◌+◌, cond, ◌&&◌, List, [], ◌∷◌, leb, eqb}
use Rattle.model.specs.declared.Counts.{Counts}
use Rattle.model.specs.declared.Tally.{Tally}
use Rattle.model.specs.declared.Added.{Added}
use Rattle.model.specs.Bounds.{most_tally}
use Rattle.model.specs.Checks.{Check, ask, first_failed}

abbrev pub tally : ℕ → ℕ → ℕ → Tally
tally a b c = record { rr = a; sr = b; «rw» = c }

-- "a tally begins with all three numbers zero"
abbrev pub empty_tally : Tally
empty_tally = tally 0 0 0

-- the tally with a report's counts added
abbrev pub plus_counts : Tally → Counts → Tally
plus_counts t n = record { rr = t.rr + n.rr; sr = t.sr + n.sr; «rw» = t.«rw» + n.«rw» }

-- check 10: "does .. each tally number [stay] within 10^12?"
unfoldable pub tally_checks : Tally → Counts → List Check
tally_checks t n = ask 10 (leb (t.rr + n.rr) most_tally && leb (t.sr + n.sr) most_tally && leb (t.«rw» + n.«rw») most_tally) ∷ []

-- "10 leaves it alone"
unfoldable pub add_call : Tally → Counts → Added
add_call t n =
    let k : ℕ = first_failed (tally_checks t n) in
    record { refusal = k; tally = cond (eqb k 0) (plus_counts t n) t }
