-- `growers::none_from_to`: a number's distance from the least is at most that of the greatest just if it is between them.
use Rattle.std.proofs.Common.{◌%◌, List, ◌≡◌, true, false, ◌+◌, ◌≤◌, ◌<◌, length, ℕ, ◌-◌, arith, Bool, get_or, ◌∙◌, not, ◌&&◌}
use Rattle.model.specs.Bounds.{most_number}
use Rattle.model.specs.Growers.{Direction, up, down, at_or_past}
use Rattle.growers.specs.Ways.{either}
use Rattle.growers.specs.Searches.{from_to}
use Rattle.std.proofs.Math.Nat.{add-mod_left, mod-eq_of_lt}
use native.Mathlib.Decide.{dec_le}
use mathlib.Core.Bool.{and-true, and-false}
use lib.Dec.{leb, ltb}
use borrow.Author.Tests.{le-leb, lt-leb, lt-ltb, le-ltb, leb-true}
use Rattle.growers.proofs.none_from_to.Goals as goal
use Rattle.slices.proofs.Flags.{Flagged, flag_start, flag_good, flag_bad, flag_end}

-- a number's distance from lo, which wraps below it
module _ (x lo hi : ℕ) (order : lo ≤ hi) (small : hi ≤ most_number) (fits : x ≤ most_number) where
  above : lo ≤ x → (x + (4294967296 - lo)) % 4294967296 ≡ x - lo
  above h =
      let e : x + (4294967296 - lo) ≡ 4294967296 + (x - lo) = omega arith in
      let l : x - lo < 4294967296 = omega arith in
      rw e (add-mod_left 4294967296 (x - lo) ∙ mod-eq_of_lt l)

  below : x < lo → (x + (4294967296 - lo)) % 4294967296 ≡ x + (4294967296 - lo)
  below h = let l : x + (4294967296 - lo) < 4294967296 = omega arith in mod-eq_of_lt l

  outside : not (leb lo x && leb x hi) ≡ ltb (hi - lo) ((x + (4294967296 - lo)) % 4294967296)
  outside = go (dec_le lo x) (dec_le x hi)
    where
      go : Dec (lo ≤ x) → Dec (x ≤ hi) → not (leb lo x && leb x hi) ≡ ltb (hi - lo) ((x + (4294967296 - lo)) % 4294967296)
      go (yes h) (yes k) = rw (le-leb lo x h, le-leb x hi k, above h, le-ltb (hi - lo) (x - lo) (omega arith))
      go (yes h) (no k) = rw (le-leb lo x h, lt-leb x hi (omega arith), above h, lt-ltb (hi - lo) (x - lo) (omega arith))
      go (no h) k = rw (lt-leb lo x (omega arith), below (omega arith), lt-ltb (hi - lo) (x + (4294967296 - lo)) (omega arith))

-- upward and downward
passes : (w : Direction) (x g last lo hi : ℕ) → at_or_past w g last ≡ true → g ≤ most_number → last ≤ most_number → x ≤ most_number
    → lo ≡ either w g last → hi ≡ either w last g → not (from_to w g last x) ≡ ltb (hi - lo) ((x + (4294967296 - lo)) % 4294967296)
passes up x g last lo hi e a b c p q = rw (p, q) (outside x g last (leb-true g last e) b c)
passes down x g last lo hi e a b c p q = rw (p, q) (outside x last g (leb-true last g e) a c)

ordered : (w : Direction) (g last lo hi : ℕ) → at_or_past w g last ≡ true → lo ≡ either w g last → hi ≡ either w last g → lo ≤ hi
ordered up g last lo hi e p q = omega (arith, leb-true g last e)
ordered down g last lo hi e p q = omega (arith, leb-true last g e)

-- the flag and one number more
flag_and : (f : ℕ → Bool) (s : List ℕ) (good : Bool) (i : ℕ) (b : Bool) → i < length s → f (get_or s i 0) ≡ b → Flagged f s good i → Flagged f s (good && b) (i + 1)
flag_and f s good i true h e v = rw (and-true good) (flag_good f s good i h v e)
flag_and f s good i false h e v = rw (and-false good) (flag_bad f s good i h v e)

pub overflow_sub-span : goal.overflow_sub-span
overflow_sub-span g c = ordered g.W.Way.direction _ _ _ _ c.requires c.either-least.ensures c.either.ensures

pub loop-x-init : goal.loop-x-init
loop-x-init g c = flag_start _ _

pub loop-x-preserved : goal.loop-x-preserved
loop-x-preserved g c =
    let x : ℕ = get_or c.args.s.now c.loop-x.x-index 0 in
    flag_and (λ (x : ℕ). not (from_to g.W.Way.direction c.args.g c.args.last x)) c.args.s.now c.loop-x.none c.loop-x.x-index _ (omega arith)
    (passes g.W.Way.direction x c.args.g c.args.last _ _ c.requires (omega arith) (omega arith)
    (omega (arith, c.type_inv.s c.loop-x.x-index)) c.either-least.ensures c.either.ensures) c.loop-x.invariant

pub returns : goal.returns
returns g c = flag_end (λ (x : ℕ). not (from_to g.W.Way.direction c.args.g c.args.last x)) _ _ _ (omega arith) c.loop-x.invariant
