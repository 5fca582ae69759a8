-- A test is 1 or 0.
use Rattle.std.proofs.Common.{Bool, true, false, cond, leb, refl, arith}
use mir.Val.{bool_byte}
use Rattle.csv_lines.specs.Writing.{CountIs, reached}
use Rattle.csv_lines.proofs.reaches.Goals as goal

byte_is : (b : Bool) → CountIs (bool_byte b) (cond b 1 0) 1
byte_is true = record { is = refl; few = omega arith }
byte_is false = record { is = refl; few = omega arith }

pub returns : goal.returns
unfolding reached
returns c = rw c.from.ensures (byte_is (leb c.args.bound c.args.n))
