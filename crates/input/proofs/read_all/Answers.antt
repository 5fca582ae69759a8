-- What one more read gave stands behind what was read before it.
use Rattle.std.proofs.Common.{◌≡◌, ℕ, ◌+◌, ◌-◌, ◌≤◌, List, ◌++◌, rules, length, take, sym, ap, ◌∙◌, subst, le_refl, drop_at, length-take-le}
use Rattle.std.proofs.lemmas.Slice.{take-put_mid_below}
use Rattle.std.proofs.lemmas.Result.{MatchResult-at_ok}
use Rattle.std.proofs.KnownBytes.{Consumes-trans}
use Rattle.std.specs.Io.KnownBytes.{Consumes}
use borrow.Rule.Slice.PartMut.{put_mid, post_of}
use lib.Seq.{take-add, take-append-le}
use Rattle.input.proofs.read_all.Goals as goal

-- the front of xs, with k elements of it replaced by ys from `at` on, is the front before `at` and then that of ys
take-put_mid : (at k n : ℕ) (xs ys : List ℕ) → at ≤ length xs → n ≤ length ys → take at xs ++ take n ys ≡ take (at + n) (put_mid at k xs ys)
take-put_mid at k n xs ys within fits =
    let front : take at (put_mid at k xs ys) ≡ take at xs = take-put_mid_below _ _ _ _ _ (le_refl at) within in
    let back = drop_at (take at xs) (ys ++ post_of at k xs) at (length-take-le at xs within) in
    ap (λ (l : List ℕ). l ++ take n ys) (sym front)
    ∙ ap (λ (l : List ℕ). take at (put_mid at k xs ys) ++ l) (sym (ap (take n) back ∙ take-append-le n ys (post_of at k xs) fits))
    ∙ sym (take-add at n (put_mid at k xs ys))

pub loop-n-preserved : goal.loop-n-preserved
loop-n-preserved g c =
    let w = c.loop-n.invariant in
    let within = MatchResult-at_ok _ _ c.in_ok-k.k c.in_ok-k.was c.read.ensures.bound in
    let given = MatchResult-at_ok _ _ c.in_ok-k.k c.in_ok-k.was c.read.ensures.bytes in
    let joined = take-put_mid c.loop-n.n (length c.loop-n.input - c.loop-n.n) c.in_ok-k.k c.loop-n.input c.read.new.buf w.within within.0 in
    record {
      same_length = search rules;
      within = search rules;
      bytes = subst (Consumes _ _) joined (Consumes-trans _ _ _ _ _ w.bytes given.0);
    }
