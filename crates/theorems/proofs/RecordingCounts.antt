-- Recorded counts pass 9: a call that passes 10 leaves no count above the bound. Assumes nothing.
use Prim.Native.Nat.{ℕ, zero, suc, ◌+◌, ◌*◌, ◌≤◌, ◌<◌}
use mathlib.Core.Path.{◌≡◌}
use mathlib.Core.Bool.{Bool}
use mathlib.Core.List.{List, [], ◌∷◌}
use native.Mathlib.Omega.{arith}
use native.Mathlib.Decide.{ℕ_discrete}
use lib.Dec.{T, leb, ltb, eqb, le→leb, ltb→lt}
use lib.ListN.{length, get_or, set, replicate}
use lib.Seq.{get_or-set_other}
use Rattle.model.specs.Bounds.{most_count}
use Rattle.model.specs.Lists.{every}
use Rattle.model.specs.Blocks.{Set}
use Rattle.model.specs.Calls.{Call}
use Rattle.model.specs.Histograms.{Entry, slot, count, raise, raise_all, raises, room_to_raise, counts_ok, zeros}
use Rattle.model.proofs.Tests.{and_fst, and_snd, and_mk, eq→eqb}
use Rattle.model.proofs.ListLaws.{every_of}
use Rattle.model.proofs.SetLaws.{Good}
use Rattle.theorems.proofs.RecordingEntries.{Off, Distinct, raised_distinct}

-- no count is above the bound
abbrev pub Capped : List ℕ → Type 0
Capped hs = (k : ℕ) → get_or hs k 0 ≤ most_count

set_most : (l : List ℕ) (i v : ℕ) → get_or (set l i v) i 0 ≤ v
set_most [] i v = omega arith
set_most (x ∷ l) zero v = omega arith
set_most (x ∷ l) (suc i) v = set_most l i v

zero_capped : (n k : ℕ) → get_or (replicate n 0) k 0 ≤ most_count
zero_capped zero k = omega arith
zero_capped (suc n) zero = omega arith
zero_capped (suc n) (suc k) = zero_capped n k

module _ (L : ℕ) where
  raise_capped : (hs : List ℕ) (e : Entry) → count L hs e < most_count → Capped hs → Capped (raise L hs e)
  unfolding raise
  raise_capped hs e h c k = go (ℕ_discrete k (slot L e))
    where
      go : Dec (k ≡ slot L e) → get_or (set hs (slot L e) (count L hs e + 1)) k 0 ≤ most_count
      go (yes q) = rw q (omega (arith, set_most hs (slot L e) (count L hs e + 1)))
      go (no q) = rw (get_or-set_other hs (slot L e) k (count L hs e + 1) 0 q) (c k)

  room_kept : (hs : List ℕ) (e : Entry) (es : List Entry) → Off L (slot L e) es → T (room_to_raise L hs es) → T (room_to_raise L (raise L hs e) es)
  unfolding Off room_to_raise every raise
  room_kept hs e [] d t = tt
  room_kept hs e (f ∷ es) d t =
      let room : List ℕ → Entry → Bool = λ hs f. ltb (count L hs f) most_count in
      let t1 = and_fst (room hs f) (every (room hs) es) t in
      let t2 = and_snd (room hs f) (every (room hs) es) t in
      and_mk (room (raise L hs e) f) (every (room (raise L hs e)) es) (rw (get_or-set_other hs (slot L e) (slot L f) (count L hs e + 1) 0 d.0) t1) (room_kept hs e es d.1 t2)

  all_capped : (es : List Entry) (hs : List ℕ) → Distinct L es → T (room_to_raise L hs es) → Capped hs → Capped (raise_all L hs es)
  unfolding Distinct raise_all room_to_raise every
  all_capped [] hs d t c = c
  all_capped (e ∷ es) hs d t c = all_capped es (raise L hs e) d.1 (room_kept hs e es d.0 (rest t)) (raise_capped hs e (ltb→lt (count L hs e) most_count (first t)) c)
    where
      first : T (room_to_raise L hs (e ∷ es)) → T (ltb (count L hs e) most_count)
      first h = and_fst (ltb (count L hs e) most_count) (room_to_raise L hs es) h

      rest : T (room_to_raise L hs (e ∷ es)) → T (room_to_raise L hs es)
      rest h = and_snd (ltb (count L hs e) most_count) (room_to_raise L hs es) h

  -- a call that passes 10 leaves them so
  pub call_capped : (s : Set) (o : Good L s) (hs : List ℕ) (c : Call) → T (room_to_raise L hs (raises s c)) → Capped hs → Capped (raise_all L hs (raises s c))
  call_capped s o hs c t k = all_capped (raises s c) hs (raised_distinct L s o c) t k

  pub zeros_capped : Capped (zeros L)
  zeros_capped k = zero_capped (10 * L) k

  -- check 9
  pub passes_nine : (hs : List ℕ) → length hs ≡ 10 * L → Capped hs → T (counts_ok L hs)
  unfolding counts_ok
  passes_nine hs h c =
      let capped : ℕ → Bool = λ n. leb n most_count in
      and_mk (eqb (length hs) (10 * L)) (every capped hs) (eq→eqb (length hs) (10 * L) h) (every_of capped hs (λ k v. le→leb _ most_count (c k)))
