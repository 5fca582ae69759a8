-- The directory and its numbers: what was written is read again, and new lengths change nothing else. Assumes nothing.
use Prim.Native.Nat.{ℕ, zero, suc, ◌+◌, ◌-◌, ◌*◌, ◌≤◌}
use mathlib.Core.Path.{◌≡◌, refl, sym, ap, ap₂, ◌∙◌, subst}
use mathlib.Core.Bool.{Bool, ◌&&◌}
use mathlib.Core.List.{List, [], ◌∷◌, ◌++◌, append_assoc}
use native.Mathlib.Omega.{arith}
use lib.Dec.{T, leb, eqb, leb→le, le→leb, eqb→eq}
use lib.ListN.{length, take, drop, replicate, length-append, length-replicate, length-drop}
use lib.Seq.{take_at, drop_at, take-append-add, drop-append-add, take-add, drop-drop, length-take-le}
use Rattle.model.specs.Lists.{sum_of, every, rising}
use Rattle.model.specs.Directory.{Directory, directory_size, partition_count, directory_of, unused_numbers, padded, directory_numbers, directory_ok, with_lengths}
use Rattle.model.proofs.Tests.{and_fst, and_snd, and_mk, eq→eqb}

zeros_pass : (n : ℕ) → T (every (eqb 0) (replicate n 0))
unfolding every
zeros_pass zero = tt
zeros_pass (suc n) = zeros_pass n

pub every_append : {A : Type 0} (f : A → Bool) (a b : List A) → T (every f a) → T (every f b) → T (every f (a ++ b))
unfolding every
every_append f [] b p q = q
every_append f (x ∷ a) b p q = and_mk (f x) (every f (a ++ b)) (and_fst (f x) (every f a) p) (every_append f a b (and_snd (f x) (every f a) p) q)

module _ (L : ℕ) where
  pub length-padded : (l : List ℕ) → length l ≤ L → length (padded L l) ≡ L
  length-padded l h = simp (length-append, length-replicate) (omega arith)

  -- a directory whose counts agree and fit
  pub record Fits (d : Directory) : Type 0 where
    pub even : length d.fences ≡ length d.lengths
    pub few : length d.lengths ≤ L

  pub count_numbers : (d : Directory) → partition_count L (directory_numbers L d) ≡ length d.lengths
  unfolding directory_numbers
  count_numbers d = refl

  module _ (d : Directory) (o : Fits d) where
    pub length_numbers : length (directory_numbers L d) ≡ directory_size L
    unfolding directory_numbers
    length_numbers =
        omega (arith, length-append (padded L d.lengths) (padded L d.fences), length-padded d.lengths o.few, length-padded d.fences (omega (arith, o.even, o.few)))

    lengths_again : take (length d.lengths) (padded L d.lengths ++ padded L d.fences) ≡ d.lengths
    lengths_again = ap (take (length d.lengths)) (append_assoc d.lengths _ _) ∙ take_at d.lengths _ (length d.lengths) refl

    fences_there : drop L (padded L d.lengths ++ padded L d.fences) ≡ padded L d.fences
    fences_there = drop_at (padded L d.lengths) (padded L d.fences) L (length-padded d.lengths o.few)

    fences_again : take (length d.lengths) (drop L (padded L d.lengths ++ padded L d.fences)) ≡ d.fences
    fences_again = rw fences_there (take_at d.fences _ (length d.lengths) o.even)

    -- the numbers of a directory are read as that directory
    pub directory_again : directory_of L (directory_numbers L d) ≡ d
    unfolding directory_of directory_numbers
    directory_again =
        ap (λ (l : List ℕ). record { block = d.block; lengths = l; fences = take (length d.lengths) (drop L (padded L d.lengths ++ padded L d.fences)) }) lengths_again
        ∙ ap (λ (l : List ℕ). record { block = d.block; lengths = d.lengths; fences = l }) fences_again

    -- and its unused numbers are 0
    unused_again : T (every (eqb 0) (unused_numbers L (directory_numbers L d)))
    unfolding unused_numbers directory_numbers
    unused_again =
        let n : ℕ = length d.lengths in
        let a : drop n (take L (padded L d.lengths ++ padded L d.fences)) ≡ replicate (L - n) 0
        = ap (drop n) (take_at (padded L d.lengths) _ L (length-padded d.lengths o.few)) ∙ drop_at d.lengths _ n refl in
        let b : drop n (drop L (padded L d.lengths ++ padded L d.fences)) ≡ replicate (L - length d.fences) 0
        = ap (drop n) fences_there ∙ drop_at d.fences _ n o.even in
        subst (λ (l : List ℕ). T (every (eqb 0) l)) (sym (ap₂ (λ (l m : List ℕ). l ++ m) a b))
        (every_append (eqb 0) (replicate (L - n) 0) _ (zeros_pass (L - n)) (zeros_pass (L - length d.fences)))

  -- New lengths, as many as there were.

  -- past the lengths, nothing has changed
  beyond : (ls r : List ℕ) (m : ℕ) → length ls ≤ m → drop m (ls ++ drop (length ls) r) ≡ drop m r
  beyond ls r m h =
      let e : length ls + (m - length ls) ≡ m = omega arith in
      rw e at (drop-append-add ls (drop (length ls) r) (m - length ls) ∙ drop-drop (m - length ls) (length ls) r)

  -- up to m, the lengths and what followed them
  up_to : (ls r : List ℕ) (m : ℕ) → length ls ≤ m → length ls ≤ length r → drop (length ls) (take m (ls ++ drop (length ls) r)) ≡ drop (length ls) (take m r)
  up_to ls r m h k =
      let n : ℕ = length ls in
      let j : ℕ = m - n in
      let e : n + j ≡ m = omega arith in
      let x : List ℕ = drop n r in
      let a : drop n (take (n + j) (ls ++ x)) ≡ take j x = ap (drop n) (take-append-add ls x j) ∙ drop_at ls (take j x) n refl in
      let b : drop n (take (n + j) r) ≡ take j x = ap (drop n) (take-add n j r) ∙ drop_at (take n r) (take j x) n (length-take-le n r k) in
      rw e at (a ∙ sym b)

  pub record Kept (ls ns : List ℕ) : Type 0 where
    pub size : length (with_lengths ls ns) ≡ length ns
    pub count : partition_count L (with_lengths ls ns) ≡ partition_count L ns
    pub directory : directory_of L (with_lengths ls ns) ≡ record { block = (directory_of L ns).block; lengths = ls; fences = (directory_of L ns).fences }
    pub unused : unused_numbers L (with_lengths ls ns) ≡ unused_numbers L ns

  module _ (b c : ℕ) (ls r : List ℕ) (h : length r ≡ 2 * L) (e : length ls ≡ c) (k : c ≤ L) where
    size_with : length (with_lengths ls (b ∷ c ∷ r)) ≡ length (b ∷ c ∷ r)
    unfolding with_lengths
    size_with = omega (arith, length-append ls (drop (length ls) r), length-drop (length ls) r)

    directory_with : directory_of L (with_lengths ls (b ∷ c ∷ r)) ≡ record { block = b; lengths = ls; fences = take c (drop L r) }
    unfolding with_lengths directory_of
    directory_with =
        let x : take c (ls ++ drop (length ls) r) ≡ ls = take_at ls (drop (length ls) r) c e in
        let y : drop L (ls ++ drop (length ls) r) ≡ drop L r = beyond ls r L (omega arith) in
        ap₂ (λ (l m : List ℕ). record { block = b; lengths = l; fences = take c m }) x y

    unused_with : unused_numbers L (with_lengths ls (b ∷ c ∷ r)) ≡ unused_numbers L (b ∷ c ∷ r)
    unfolding with_lengths unused_numbers
    unused_with =
        let x : drop c (take L (ls ++ drop (length ls) r)) ≡ drop c (take L r) = rw (sym e) (up_to ls r L (omega arith) (omega arith)) in
        let y : drop c (drop L (ls ++ drop (length ls) r)) ≡ drop c (drop L r) = ap (drop c) (beyond ls r L (omega arith)) in
        ap₂ (λ (l m : List ℕ). l ++ m) x y

    kept : Kept ls (b ∷ c ∷ r)
    unfolding with_lengths directory_of
    kept = record { size = size_with; count = refl; directory = directory_with; unused = unused_with }

  pub with_lengths_lem : (ls ns : List ℕ) → length ns ≡ directory_size L → length ls ≡ partition_count L ns → partition_count L ns ≤ L → Kept ls ns
  with_lengths_lem ls [] h e k = absurd (omega arith)
  with_lengths_lem ls (b ∷ []) h e k = absurd (omega arith)
  with_lengths_lem ls (b ∷ c ∷ r) h e k = kept b c ls r (omega arith) e k

  -- Check 6 of a directory for n slots, taken apart.

  pub record Shaped (n : ℕ) (ns : List ℕ) : Type 0 where
    pub size : length ns ≡ directory_size L
    pub some : 1 ≤ partition_count L ns
    pub few : partition_count L ns ≤ L
    pub unused : T (every (eqb 0) (unused_numbers L ns))
    pub rises : T (rising (directory_of L ns).fences)
    pub room : sum_of (directory_of L ns).lengths ≤ n

  pub shaped : (n : ℕ) (ns : List ℕ) → T (directory_ok L n ns) → Shaped n ns
  unfolding directory_ok
  shaped n ns t =
      let a = eqb (length ns) (directory_size L) in
      let b = leb 1 (partition_count L ns) in
      let c = leb (partition_count L ns) L in
      let d = every (eqb 0) (unused_numbers L ns) in
      let e = rising (directory_of L ns).fences in
      let f = leb (sum_of (directory_of L ns).lengths) n in
      let t5 = and_fst (a && b && c && d && e) f t in
      let t4 = and_fst (a && b && c && d) e t5 in
      let t3 = and_fst (a && b && c) d t4 in
      let t2 = and_fst (a && b) c t3 in
      record {
        size = eqb→eq _ _ (and_fst a b t2);
        some = leb→le _ _ (and_snd a b t2);
        few = leb→le _ _ (and_snd (a && b) c t3);
        unused = and_snd (a && b && c) d t4;
        rises = and_snd (a && b && c && d) e t5;
        room = leb→le _ _ (and_snd (a && b && c && d && e) f t);
      }

  pub shaped_passes : (n : ℕ) (ns : List ℕ) → Shaped n ns → T (directory_ok L n ns)
  unfolding directory_ok
  shaped_passes n ns s =
      let a = eqb (length ns) (directory_size L) in
      let b = leb 1 (partition_count L ns) in
      let c = leb (partition_count L ns) L in
      let d = every (eqb 0) (unused_numbers L ns) in
      let e = rising (directory_of L ns).fences in
      let f = leb (sum_of (directory_of L ns).lengths) n in
      and_mk (a && b && c && d && e) f
      (and_mk (a && b && c && d) e
      (and_mk (a && b && c) d
      (and_mk (a && b) c
      (and_mk a b (eq→eqb _ _ s.size) (le→leb 1 (partition_count L ns) s.some))
      (le→leb (partition_count L ns) L s.few))
      s.unused)
      s.rises)
      (le→leb (sum_of (directory_of L ns).lengths) n s.room)

  -- how many lengths and fences there are
  pub length_lengths : (n : ℕ) (ns : List ℕ) → Shaped n ns → length (directory_of L ns).lengths ≡ partition_count L ns
  unfolding directory_of
  length_lengths n ns s = length-take-le (partition_count L ns) (drop 2 ns) (omega (arith, length-drop 2 ns, s.size, s.few))

  pub length_fences : (n : ℕ) (ns : List ℕ) → Shaped n ns → length (directory_of L ns).fences ≡ partition_count L ns
  unfolding directory_of
  length_fences n ns s = length-take-le (partition_count L ns) (drop L (drop 2 ns)) (omega (arith, length-drop L (drop 2 ns), length-drop 2 ns, s.size, s.few))

  -- new lengths of a total that fits keep the shape
  pub shaped_with : (n : ℕ) (ls ns : List ℕ) → Shaped n ns → length ls ≡ partition_count L ns → sum_of ls ≤ n → Shaped n (with_lengths ls ns)
  shaped_with n ls ns s e h =
      let k = with_lengths_lem ls ns s.size e s.few in
      record {
        size = k.size ∙ s.size;
        some = rw k.count s.some;
        few = rw k.count s.few;
        unused = rw k.unused s.unused;
        rises = rw k.directory s.rises;
        room = rw k.directory h;
      }

  -- a directory that fits has the shape
  pub numbers_shaped : (n : ℕ) (d : Directory) → Fits d → 1 ≤ length d.lengths → T (rising d.fences) → sum_of d.lengths ≤ n → Shaped n (directory_numbers L d)
  numbers_shaped n d o one r h = record {
    size = length_numbers d o;
    some = rw (count_numbers d) one;
    few = rw (count_numbers d) o.few;
    unused = unused_again d o;
    rises = rw (directory_again d o) r;
    room = rw (directory_again d o) h;
  }
