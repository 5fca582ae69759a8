-- The last column that is left is a digit while digits are left, then the sign, then blanks.
use Rattle.std.proofs.Common.{arith}
use Rattle.fields.proofs.Putting.{put_sign, put_digit, put_end, put_all}
use Rattle.fields.proofs.put.Goals as goal

pub loop-i-preserved-then-m-eq0 : goal.loop-i-preserved-then-m-eq0
loop-i-preserved-then-m-eq0 c = put_sign (omega arith) (omega arith) c.loop-i.invariant c.if-m-eq0.true

pub loop-i-preserved : goal.loop-i-preserved
loop-i-preserved c = put_digit (omega arith) (omega arith) c.loop-i.invariant c.if-m-eq0.false

pub returns : goal.returns
returns c = put_all _ _ _ _ _ _ c.requires.0 c.requires.1 (put_end (omega arith) c.loop-i.invariant)
