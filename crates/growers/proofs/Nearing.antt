-- The first of a stride's growers at or past another, and how many records he has. Assumes nothing.
use Prim.Native.Nat.{ℕ, ◌+◌, ◌≤◌, ◌<◌}
use mathlib.Core.Path.{◌≡◌, refl, sym, ap, ◌∙◌}
use mathlib.Core.Bool.{Bool, true, false, cond}
use mathlib.Core.List.{List, [], ◌∷◌, ◌++◌, append-nil}
use native.Mathlib.Omega.{arith}
use native.Mathlib.Numerals.{add-one}
use lib.Dec.{ltb, eqb}
use lib.ListN.{length, get_or, take}
use lib.Seq.{take-suc, take_all}
use borrow.Author.Tests.{le-leb, lt-ltb, eqb-true, eqb-false}
use Rattle.model.specs.Bounds.{most_number}
use Rattle.model.specs.Lists.{keep}
use Rattle.model.specs.Growers.{Direction, up, down, at_or_past, nearer, nearest_from, nearest, nearest_of}
use Rattle.model.proofs.ListLaws.{keep_append, keep_fewer}
use Rattle.model.proofs.MovesKeep.{All}
use Rattle.model.proofs.GrowerLaws.{all_kept, count_of, keep-twice, nearer_comm, nearest-append, one_of, first_counted}
use Rattle.slices.specs.Slices.{count_between}
use Rattle.slices.proofs.Scans.{inside, is_equal, is_other}
use Rattle.growers.specs.Searches.{last_number, nearest_or}

-- The order of growers on the way.

-- no number is past the last
pub last_past : (w : Direction) (n : ℕ) → n ≤ most_number → at_or_past w n (last_number w) ≡ true
last_past up n h = le-leb n most_number h
last_past down n h = le-leb 0 n (omega arith)

last_fits : (w : Direction) → last_number w ≤ most_number
last_fits up = omega arith
last_fits down = omega arith

-- The loops: of the growers passed the first.

keep_next : (f : ℕ → Bool) (s : List ℕ) (i : ℕ) → i < length s → keep f (take (i + 1) s) ≡ keep f (take i s) ++ keep f (get_or s i 0 ∷ [])
keep_next f s i h = ap (λ (n : ℕ). keep f (take n s)) (add-one i) ∙ ap (keep f) (take-suc s i 0 h) ∙ keep_append f (take i s) (get_or s i 0 ∷ [])

-- one more grower
or_next : (w : Direction) (x : ℕ) (a : List ℕ) → x ≤ most_number → nearest_or w (last_number w) (a ++ x ∷ []) ≡ nearer w (nearest_or w (last_number w) a) x
unfolding nearest_or nearest_from
or_next w x [] h =
    let e : nearer w x (last_number w) ≡ x = rw (last_past w x h) in
    sym (nearer_comm w (last_number w) x ∙ e)
or_next w x (n ∷ a) h = nearest-append w n a (x ∷ [])

pub record Nearing (w : Direction) (g : ℕ) (s : List ℕ) (m i : ℕ) : Type 0 where
  pub at : i ≤ length s
  pub fits : m ≤ most_number
  pub so_far : m ≡ nearest_or w (last_number w) (keep (at_or_past w g) (take i s))

pub nearing_start : (w : Direction) (g : ℕ) (s : List ℕ) → Nearing w g s (last_number w) 0
unfolding nearest_or keep
nearing_start w g s = record { at = omega arith; fits = last_fits w; so_far = refl }

-- a turn: z is the grower at i, or the last number where he is not at or past g
module _ (w : Direction) (g : ℕ) (s : List ℕ) (m i z : ℕ) (h : i < length s) (k : get_or s i 0 ≤ most_number) (v : Nearing w g s m i) where
  turn : (t : Bool) → at_or_past w g (get_or s i 0) ≡ t → z ≡ cond t (get_or s i 0) (last_number w)
      → nearer w m z ≡ nearest_or w (last_number w) (keep (at_or_past w g) (take (i + 1) s))
  unfolding keep
  turn true e f =
      let kept : List ℕ = keep (at_or_past w g) (take i s) in
      let one : keep (at_or_past w g) (take (i + 1) s) ≡ kept ++ get_or s i 0 ∷ [] = rw (keep_next (at_or_past w g) s i h, e) in
      rw (one, or_next w (get_or s i 0) kept k, f, ← v.so_far)
  turn false e f =
      let kept : List ℕ = keep (at_or_past w g) (take i s) in
      let none : keep (at_or_past w g) (take (i + 1) s) ≡ kept = rw (keep_next (at_or_past w g) s i h, e, append-nil) in
      rw (none, f, last_past w m v.fits) v.so_far

  nearer_fits : (a b : ℕ) → a ≤ most_number → b ≤ most_number → nearer w a b ≤ most_number
  nearer_fits a b x y = go (at_or_past w a b)
    where
      go : (t : Bool) → cond t a b ≤ most_number
      go true = x
      go false = y

  pub nearing_next : (t : Bool) → at_or_past w g (get_or s i 0) ≡ t → z ≡ cond t (get_or s i 0) (last_number w) → Nearing w g s (nearer w m z) (i + 1)
  nearing_next t e f = record { at = omega arith; fits = nearer_fits m z v.fits (rw f (offered t)); so_far = turn t e f }
    where
      offered : (u : Bool) → cond u (get_or s i 0) (last_number w) ≤ most_number
      offered true = k
      offered false = last_fits w

pub nearing_end : (w : Direction) (g : ℕ) (s : List ℕ) (m i : ℕ) → length s ≤ i → Nearing w g s m i → m ≡ nearest_or w (last_number w) (keep (at_or_past w g) s)
nearing_end w g s m i h v = v.so_far ∙ ap (λ (l : List ℕ). nearest_or w (last_number w) (keep (at_or_past w g) l)) (take_all i s h)

-- The first, and how many he is.

keep_same : (f k : ℕ → Bool) → ((x : ℕ) → f x ≡ k x) → (s : List ℕ) → keep f s ≡ keep k s
unfolding keep
keep_same f k e [] = refl
keep_same f k e (x ∷ s) = rw (e x, keep_same f k e s)

equal_inside : (m x : ℕ) → inside m m x ≡ eqb m x
equal_inside m x = go (eqb m x) refl
  where
    go : (t : Bool) → eqb m x ≡ t → inside m m x ≡ t
    go true e = is_equal m x (sym (eqb-true m x e))
    go false e = is_other m x (λ q. eqb-false m x e (sym q))

-- m is the first or the last number, and n of them are m
module _ (w : Direction) (g : ℕ) (s : List ℕ) (m n : ℕ) (g-fits : g ≤ most_number) (first : m ≡ nearest_or w (last_number w) (keep (at_or_past w g) s))
    (count : n ≡ count_between m m s) where
  or_past : (l : List ℕ) → All (λ (x : ℕ). at_or_past w g x ≡ true) l → at_or_past w g (nearest_or w (last_number w) l) ≡ true
  unfolding nearest_or All
  or_past [] h = last_past w g g-fits
  or_past (x ∷ l) h = one_of w (λ (y : ℕ). at_or_past w g y ≡ true) x l h.0 h.1

  counted : n ≡ count_of m (keep (at_or_past w g) s)
  counted =
      let p : at_or_past w g m ≡ true = ap (at_or_past w g) first ∙ or_past (keep (at_or_past w g) s) (all_kept (at_or_past w g) s) in
      count ∙ ap length (keep_same (inside m m) (eqb m) (equal_inside m) s ∙ sym (keep-twice (at_or_past w g) m p s))

  -- n is his count: 0 just if none is at or past g
  pub records_found : (nearest_of w g s).records ≡ n
  unfolding nearest_of nearest nearest_or keep
  records_found = go (keep (at_or_past w g) s) first counted
    where
      go : (l : List ℕ) → m ≡ nearest_or w (last_number w) l → n ≡ count_of m l → count_of (nearest w l) l ≡ n
      go [] e k = sym k
      go (x ∷ l) e k = ap (λ (y : ℕ). count_of y (x ∷ l)) (sym e) ∙ sym k

  pub grower_found : 1 ≤ n → (nearest_of w g s).grower ≡ m
  unfolding nearest_of nearest nearest_or keep
  grower_found h = go (keep (at_or_past w g) s) first counted
    where
      go : (l : List ℕ) → m ≡ nearest_or w (last_number w) l → n ≡ count_of m l → nearest w l ≡ m
      go [] e k = absurd (omega arith)
      go (x ∷ l) e k = sym e

pub records_most : (w : Direction) (g : ℕ) (s : List ℕ) → (nearest_of w g s).records ≤ length s
unfolding nearest_of
records_most w g s =
    let past : List ℕ = keep (at_or_past w g) s in
    omega (arith, keep_fewer (eqb (nearest w past)) past, keep_fewer (at_or_past w g) s)

-- one is held just if there are records
pub holds_is : (w : Direction) (g : ℕ) (s : List ℕ) → ltb 0 (length (keep (at_or_past w g) s)) ≡ ltb 0 (nearest_of w g s).records
unfolding nearest_of nearest keep
holds_is w g s = go (keep (at_or_past w g) s)
  where
    go : (l : List ℕ) → ltb 0 (length l) ≡ ltb 0 (count_of (nearest w l) l)
    go [] = refl
    go (x ∷ l) = lt-ltb 0 (length (x ∷ l)) (omega arith) ∙ sym (lt-ltb 0 (count_of (nearest_from w x l) (x ∷ l)) (first_counted w x l))
