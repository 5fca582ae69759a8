-- Partitions judged by their fences, one after the other. Assumes nothing.
use Prim.Native.Nat.{ℕ, suc, ◌+◌, ◌-◌, ◌≤◌, ◌<◌}
use mathlib.Core.Path.{◌≡◌, refl, sym, ap, ap₂, ◌∙◌}
use mathlib.Core.Bool.{Bool, true, false, ◌&&◌}
use mathlib.Core.List.{List, [], ◌∷◌}
use native.Mathlib.Omega.{arith}
use lib.Dec.{T, leb}
use lib.ListN.{length, get_or, take, drop}
use lib.Seq.{drop-length, drop-drop}
use Rattle.model.specs.Bounds.{most_number}
use Rattle.model.specs.Lists.{sum_of, every, rising}
use Rattle.model.specs.Partitions.{parts, every_at}
use Rattle.model.specs.Column.{in_place, sound_growers}
use Rattle.model.proofs.LineLaws.{Fit, fits_field, fit_cons, fit_none, fit_first, fit_rest}
use Rattle.slices.specs.Slices.{all_within}
use Rattle.snapshot.specs.Texts.{low_of, high_of, all_from}
use Rattle.snapshot.proofs.FenceLaws.{place_bounds}
use Rattle.model.proofs.Tests.{pairs_swap}
use Rattle.model.proofs.ListLaws.{drop_next, every_front, every_back}

-- numbers of a slice fit
pub fit_slice : (g : List ℕ) → ((i : ℕ) → get_or g i 0 ≤ most_number) → Fit g
fit_slice [] f = fit_none
fit_slice (x ∷ g) f = fit_cons x g (f 0) (fit_slice g (λ i. f (suc i)))

-- the growers of one partition
one_sound : (fences : List ℕ) (p : ℕ) (l : List ℕ) → T (rising fences) → p < length fences → Fit l → all_from (low_of fences p) l && all_within (high_of fences p) l ≡ every (in_place fences p) l
unfolding every
one_sound fences p [] r h f = refl
one_sound fences p (x ∷ l) r h f =
    pairs_swap (leb (low_of fences p) x) (all_from (low_of fences p) l) (leb x (high_of fences p)) (all_within (high_of fences p) l)
    ∙ ap₂ (λ (a b : Bool). a && b) (sym (place_bounds fences r p h x (fit_first x l f))) (one_sound fences p l r h (fit_rest x l f))

pub record SoundLeft (g lens fences : List ℕ) (p a : ℕ) : Type 0 where
  pub left : p ≤ length lens
  pub even : length fences ≡ length lens
  pub rises : T (rising fences)
  pub fit : Fit g
  pub total : sum_of lens ≤ length g
  pub room : a + sum_of (drop p lens) ≡ sum_of lens
  pub work : sound_growers lens fences g ≡ every_at (in_place fences) p (parts (drop p lens) (drop a g))

pub sound_start : (g lens fences : List ℕ) → length fences ≡ length lens → T (rising fences) → sum_of lens ≤ length g → Fit g → SoundLeft g lens fences 0 0
unfolding sound_growers
sound_start g lens fences e r h f = record { left = omega arith; even = e; rises = r; fit = f; total = h; room = omega arith; work = refl }

module _ {g lens fences : List ℕ} {p a : ℕ} (h : p < length lens) (w : SoundLeft g lens fences p a) where
  pub sound_room : a + get_or lens p 0 + sum_of (drop (p + 1) lens) ≡ sum_of lens
  unfolding sum_of
  sound_room = let r = ap sum_of (drop_next lens p h) in omega (arith, w.room, r)

  one : sound_growers lens fences g ≡ every (in_place fences p) (take (get_or lens p 0) (drop a g)) && every_at (in_place fences) (p + 1) (parts (drop (p + 1) lens) (drop (a + get_or lens p 0) g))
  unfolding parts every_at
  one =
      w.work
      ∙ ap (λ (l : List ℕ). every_at (in_place fences) p (parts l (drop a g))) (drop_next lens p h)
      ∙ ap (λ (l : List ℕ). every (in_place fences p) (take (get_or lens p 0) (drop a g)) && every_at (in_place fences) (p + 1) (parts (drop (p + 1) lens) l)) (drop-drop (get_or lens p 0) a g)

  -- a test of the bounds is the test of the partition
  pub tested : {lo hi : ℕ} (b : Bool) → lo ≡ low_of fences p → hi ≡ high_of fences p
      → b ≡ all_from lo (take (a + get_or lens p 0 - a) (drop a g)) && all_within hi (take (a + get_or lens p 0 - a) (drop a g))
      → every (in_place fences p) (take (get_or lens p 0) (drop a g)) ≡ b
  tested {lo} {hi} b x y e =
      let z : a + get_or lens p 0 - a ≡ get_or lens p 0 = omega arith in
      let l : List ℕ = take (get_or lens p 0) (drop a g) in
      let q : b ≡ all_from lo l && all_within hi l = e ∙ ap (λ (n : ℕ). all_from lo (take n (drop a g)) && all_within hi (take n (drop a g))) z in
      sym (one_sound fences p l w.rises (omega (arith, w.even)) (every_front fits_field (get_or lens p 0) (drop a g) (every_back fits_field a g w.fit)))
      ∙ ap₂ (λ (u v : ℕ). all_from u l && all_within v l) (sym x) (sym y)
      ∙ sym q

  pub sound_stop : every (in_place fences p) (take (get_or lens p 0) (drop a g)) ≡ false → false ≡ sound_growers lens fences g
  sound_stop f = sym (one ∙ rw f)

  pub sound_next : every (in_place fences p) (take (get_or lens p 0) (drop a g)) ≡ true → SoundLeft g lens fences (p + 1) (a + get_or lens p 0)
  sound_next f = record { left = omega arith; even = w.even; rises = w.rises; fit = w.fit; total = w.total; room = sound_room; work = one ∙ rw f }

pub sound_end : {g lens fences : List ℕ} {p a : ℕ} → length lens ≤ p → SoundLeft g lens fences p a → true ≡ sound_growers lens fences g
unfolding parts every_at
sound_end {g} {lens} {fences} {p} {a} h w =
    let z : p ≡ length lens = omega (arith, w.left) in
    let x : drop p lens ≡ [] = ap (λ (k : ℕ). drop k lens) z ∙ drop-length lens in
    sym (w.work ∙ ap (λ (l : List ℕ). every_at (in_place fences) p (parts l (drop a g))) x)
