-- Prices and limits (01: the bill; permitted layouts).
use Rattle.std.specs.Prelude.{ℕ, ◌+◌, ◌*◌, Bool, ◌&&◌, leb}
use Rattle.model.specs.declared.PriceCard.{PriceCard}
use Rattle.model.specs.declared.Limits.{Limits}
use Rattle.model.specs.declared.Counts.{Counts}
use Rattle.model.specs.Bounds.{most_price, most_limit}

abbrev pub prices : ℕ → ℕ → ℕ → PriceCard
prices a b c = record { rr = a; sr = b; «rw» = c }

-- "the factory card is RR 3, SR 1, RW 2"
abbrev pub factory : PriceCard
factory = prices 3 1 2

abbrev pub limits : ℕ → ℕ → Limits
limits r u = record { read = r; insert = u }

-- check 1: "is each price 1 to 1,000?"
abbrev pub price_ok : ℕ → Bool
price_ok p = leb 1 p && leb p most_price

unfoldable pub prices_ok : PriceCard → Bool
prices_ok c = price_ok c.rr && price_ok c.sr && price_ok c.«rw»

-- check 1: "and each limit at most 1,000,000?"
unfoldable pub limits_ok : Limits → Bool
limits_ok l = leb l.read most_limit && leb l.insert most_limit

-- "the priced access counts of its report are RR × rr + SR × sr + RW × rw"
unfoldable pub priced : PriceCard → Counts → ℕ
priced p n = p.rr * n.rr + p.sr * n.sr + p.«rw» * n.«rw»
