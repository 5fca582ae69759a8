-- The partitions that are left decide.
use Rattle.snapshot.proofs.Sounding.{SoundLeft}
use Rattle.snapshot.proofs.sound_ok.Given as goal

abbrev pub invariant-loop-p : goal.invariant-loop-p
invariant-loop-p l = SoundLeft l.g l.lens l.fences l.p l.a
