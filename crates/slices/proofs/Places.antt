-- The place of a key among rising keys, counted, and what one pass over lengths and fences finds. Assumes nothing.
use Prim.Native.Nat.{ℕ, ◌+◌, ◌*◌, ◌≤◌, ◌<◌, min}
use mathlib.Core.Path.{◌≡◌, refl, ap, ◌∙◌}
use mathlib.Core.Bool.{Bool, true}
use mathlib.Core.List.{List, [], ◌∷◌}
use native.Mathlib.Omega.{arith}
use native.Mathlib.Decide.{dec_lt}
use lib.Dec.{T, leb, ltb, ltb→lt, le→leb}
use lib.ListN.{length, get_or, take}
use lib.Seq.{take_all}
use Rattle.model.specs.Lists.{sum_of, rising, never_falls}
use Rattle.model.specs.Place.{place}
use Rattle.model.specs.Partitions.{start_of}
use Rattle.model.proofs.Tests.{and_fst, and_snd, and_mk}
use Rattle.model.proofs.ListLaws.{sorted, sum-take_next}
use Rattle.model.proofs.Parts.{start_is}
use Rattle.model.proofs.Places.{Placed, placed}
use Rattle.slices.proofs.Flags.{Chained, chain_start, chain_end, chain_rising}

rising_falls_not : (l : List ℕ) → T (rising l) → T (never_falls l)
unfolding rising never_falls
rising_falls_not [] t = tt
rising_falls_not (a ∷ []) t = tt
rising_falls_not (a ∷ b ∷ l) t =
    let h : a < b = ltb→lt a b (and_fst (ltb a b) (rising (b ∷ l)) t) in
    and_mk (leb a b) (never_falls (b ∷ l)) (le→leb a b (omega arith)) (rising_falls_not (b ∷ l) (and_snd (ltb a b) (rising (b ∷ l)) t))

-- t of the first i keys are less
pub record Counted (keys : List ℕ) (g t i : ℕ) : Type 0 where
  pub at : i < length keys
  pub is : t ≡ min i (place keys g)

pub count_start : (keys : List ℕ) (g : ℕ) → 1 ≤ length keys → Counted keys g 0 0
count_start keys g h = record { at = h; is = omega arith }

module _ (keys : List ℕ) (g t i : ℕ) (o : T (rising keys)) (h : i + 1 < length keys) (c : Counted keys g t i) where
  here : Placed keys g (place keys g)
  here = placed keys g (omega arith)

  pub count_less : get_or keys i 0 < g → Counted keys g (t + 1) (i + 1)
  count_less l = record { at = h; is = go (dec_lt i (place keys g)) }
    where
      go : Dec (i < place keys g) → t + 1 ≡ min (i + 1) (place keys g)
      go (yes k) = omega (arith, c.is)
      go (no k) =
          let a : g ≤ get_or keys (place keys g) 0 = here.here (omega arith) in
          let b = sorted keys (place keys g) i (rising_falls_not keys o) (omega arith) (omega arith) in
          absurd (omega arith)

  pub count-not : g ≤ get_or keys i 0 → Counted keys g t (i + 1)
  count-not l = record { at = h; is = go (dec_lt i (place keys g)) }
    where
      go : Dec (i < place keys g) → t ≡ min (i + 1) (place keys g)
      go (yes k) = absurd (omega (arith, here.before i k))
      go (no k) = omega (arith, c.is)

pub count_end : (keys : List ℕ) (g t i : ℕ) → length keys ≤ i + 1 → Counted keys g t i → t ≡ place keys g
count_end keys g t i h c = omega (arith, c.at, c.is, (placed keys g (omega (arith, c.at))).within)

-- the pass at i; the partition and its start count only if the fences rise
pub record Surveying (lens fences : List ℕ) (g : ℕ) (up : Bool) (used target start i : ℕ) : Type 0 where
  pub at : i < length fences
  pub chained : Chained ltb fences up i
  pub used_is : used ≡ sum_of (take i lens)
  pub used_most : used ≤ 4294967295 * i
  pub start_most : start ≤ 4294967295 * i
  pub target_most : target ≤ i
  pub found : T (rising fences) → Counted fences g target i × (start ≡ sum_of (take target lens))

pub survey_start : (lens fences : List ℕ) (g : ℕ) → 1 ≤ length fences → Surveying lens fences g true 0 0 0 0
unfolding sum_of
survey_start lens fences g h =
    record { at = h; chained = chain_start ltb fences; used_is = refl; used_most = omega arith; start_most = omega arith; target_most = omega arith; found = λ o. (count_start fences g h, refl) }

module _ (lens fences : List ℕ) (g : ℕ) (up : Bool) (used target start i : ℕ) (h : i + 1 < length fences) (k : length fences ≡ length lens)
    (w : Surveying lens fences g up used target start i) where
  -- a turn counts u partitions and their a slots
  turn : (v : Bool) (u a : ℕ) → Chained ltb fences v (i + 1) → get_or lens i 0 ≤ 4294967295 → u ≤ target + 1 → a ≤ start + get_or lens i 0
      → (T (rising fences) → Counted fences g u (i + 1) × (a ≡ sum_of (take u lens))) → Surveying lens fences g v (used + get_or lens i 0) u a (i + 1)
  turn v u a c n p q f =
      record {
        at = h;
        chained = c;
        used_is = omega (arith, w.used_is, sum-take_next lens i (omega arith));
        used_most = omega (arith, w.used_most);
        start_most = omega (arith, w.start_most);
        target_most = omega (arith, w.target_most);
        found = f;
      }

  pub survey_less : (v : Bool) → Chained ltb fences v (i + 1) → get_or lens i 0 ≤ 4294967295 → get_or fences i 0 < g
      → Surveying lens fences g v (used + get_or lens i 0) (target + 1) (start + get_or lens i 0) (i + 1)
  survey_less v c n l = turn v (target + 1) (start + get_or lens i 0) c n (omega arith) (omega arith) go
    where
      go : T (rising fences) → Counted fences g (target + 1) (i + 1) × (start + get_or lens i 0 ≡ sum_of (take (target + 1) lens))
      go o =
          let a = w.found o in
          let b = count_less fences g target i o h a.0 l in
          let e : target ≡ i = omega (arith, a.0.is, b.is) in
          (b, omega (arith, a.1, sum-take_next lens target (omega arith), ap (λ (j : ℕ). get_or lens j 0) e))

  pub survey_not : (v : Bool) → Chained ltb fences v (i + 1) → get_or lens i 0 ≤ 4294967295 → g ≤ get_or fences i 0
      → Surveying lens fences g v (used + get_or lens i 0) target start (i + 1)
  survey_not v c n l = turn v target start c n (omega arith) (omega arith) (λ o. (count-not fences g target i o h (w.found o).0 l, (w.found o).1))

pub survey_end : (lens fences : List ℕ) (g : ℕ) (up : Bool) (used target start i : ℕ) → length fences ≤ i + 1 → length fences ≡ length lens
    → Surveying lens fences g up used target start i
    → (up ≡ rising fences) × (used + get_or lens i 0 ≡ sum_of lens) × (T (rising fences) → (target ≡ place fences g) × (start ≡ start_of lens (place fences g)))
survey_end lens fences g up used target start i h k w =
    let e : take (i + 1) lens ≡ lens = take_all (i + 1) lens (omega arith) in
    (chain_end ltb fences up i h w.chained ∙ chain_rising fences, omega (arith, w.used_is, sum-take_next lens i (omega (arith, w.at)), ap sum_of e), go)
  where
    go : T (rising fences) → (target ≡ place fences g) × (start ≡ start_of lens (place fences g))
    go o =
        let a = w.found o in
        let e : target ≡ place fences g = count_end fences g target i h a.0 in
        (e, a.1 ∙ start_is lens target ∙ ap (start_of lens) e)
