-- The two loops: what a turn does to a column. Assumes nothing.
use Prim.Native.Nat.{ℕ, suc, zero, ◌+◌, ◌-◌, ◌≤◌, ◌<◌}
use mathlib.Core.Path.{◌≡◌, refl, sym, ap, ◌∙◌}
use mathlib.Core.List.{List, [], ◌∷◌, ◌++◌, append_assoc, append-nil, map, flatten}
use native.Mathlib.Omega.{arith}
use native.Mathlib.Numerals.{add-one}
use lib.ListN.{length, get_or, take, drop, set, length-drop, length-set, length-append}
use lib.Seq.{take-suc, take-take, take-length, take-set-le, take-append-add, take-append_seam, drop-cons, drop-drop, drop-length, drop-set-lt, drop-append-le, drop-append_seam}
use lib.Seq.{set_split, set-get_or, get_or-drop, length-take-le}
use Rattle.model.specs.Lists.{sum_of}
use Rattle.model.specs.Partitions.{parts, free, start_of}
use Rattle.model.specs.Moves.{rotate_left, rotate_right, fill_from_end, insert_at, delete_at, inserted, deleted}
use Rattle.model.proofs.ListLaws.{sum-take_next, sum-take_le, drop-take}

module _ {A : Type 0} where
  right_end : (l : List A) (x : A) → rotate_right (l ++ x ∷ []) ≡ x ∷ l
  unfolding rotate_right
  right_end l x =
      let e : length (l ++ x ∷ []) - 1 ≡ length l = omega (arith, length-append l (x ∷ [])) in
      rw (e, drop-append_seam, take-append_seam)

  -- slot p takes the last of the n records after it
  carry_down : (d : A) (s : List A) (p n : ℕ) → p + n < length s → take (p + n) (set s p (get_or s (p + n) d)) ≡ take p s ++ rotate_right (take n (drop (p + 1) s))
  unfolding rotate_right
  carry_down d s p zero h =
      let e : p + 0 ≡ p = omega arith in
      rw (e, set-get_or, append-nil)
  carry_down d s p (suc m) h =
      let v : A = get_or s (p + suc m) d in
      let hp : length (take p s) ≡ p = length-take-le p s (omega arith) in
      let e : get_or (drop (p + 1) s) m d ≡ v = get_or-drop (p + 1) s m d ∙ ap (λ (k : ℕ). get_or s k d) (omega arith) in
      let f : rotate_right (take (suc m) (drop (p + 1) s)) ≡ v ∷ take m (drop (p + 1) s)
      = ap rotate_right (take-suc (drop (p + 1) s) m d (omega (arith, length-drop (p + 1) s))) ∙ right_end _ _ ∙ ap (λ (y : A). y ∷ take m (drop (p + 1) s)) e in
      ap (take (p + suc m)) (set_split s p v (omega arith))
      ∙ ap (λ (k : ℕ). take (k + suc m) (take p s ++ v ∷ drop (suc p) s)) (sym hp)
      ∙ take-append-add (take p s) (v ∷ drop (suc p) s) (suc m)
      ∙ ap (λ (k : ℕ). take p s ++ v ∷ take m (drop k s)) (sym (add-one p))
      ∙ ap (λ (r : List A). take p s ++ r) (sym f)

  -- slot q + n takes the first of the n records before it
  pub carry_up : (d : A) (s : List A) (q n : ℕ) → q + n < length s → drop (q + 1) (set s (q + n) (get_or s q d)) ≡ rotate_left (take n (drop q s)) ++ drop (q + n + 1) s
  unfolding rotate_left
  carry_up d s q zero h =
      let e : q + 0 ≡ q = omega arith in
      rw (e, set-get_or)
  carry_up d s q (suc m) h =
      let p : ℕ = q + suc m in
      let y : A = get_or s q d in
      let e : p ≡ q + 1 + m = omega arith in
      let ha : drop (q + 1) (take p s) ≡ take m (drop (q + 1) s) = rw e (drop-take (q + 1) m s) in
      let hk : q + 1 ≤ length (take p s) = omega (arith, length-take-le p s (omega arith)) in
      let hc : drop q s ≡ y ∷ drop (q + 1) s = drop-cons s q d (omega arith) ∙ rw add-one in
      ap (drop (q + 1)) (set_split s p y h)
      ∙ drop-append-le (q + 1) (take p s) (y ∷ drop (suc p) s) hk
      ∙ rw (ha, hc, append_assoc, add-one p)

  -- what the later partitions become, the free slot before them or after them included
  unfoldable pub ups : List ℕ → List A → List A
  ups ns s = flatten (map rotate_left (parts ns s)) ++ drop 1 (free ns s)

  unfoldable pub downs : List ℕ → A → List A → List A
  downs ns x s = flatten (map rotate_right (parts ns s)) ++ x ∷ free ns s

  ups_none : (s : List A) → ups [] s ≡ drop 1 s
  unfolding ups parts free sum_of flatten
  ups_none s = refl

  ups_cons : (n : ℕ) (ns : List ℕ) (s : List A) → ups (n ∷ ns) s ≡ rotate_left (take n s) ++ ups ns (drop n s)
  unfolding ups parts free sum_of flatten
  ups_cons n ns s = rw (append_assoc, drop-drop (sum_of ns) n s)

  downs_cons : (n : ℕ) (ns : List ℕ) (x : A) (s : List A) → downs (n ∷ ns) x s ≡ rotate_right (take n s) ++ downs ns x (drop n s)
  unfolding downs parts free sum_of flatten
  downs_cons n ns x s = rw (append_assoc, drop-drop (sum_of ns) n s)

  pub inserted_first : (n : ℕ) (ns : List ℕ) (x : A) (s : List A) → inserted (n ∷ ns) 0 x s ≡ take n s ++ x ∷ ups ns (drop n s)
  unfolding ups inserted insert_at parts free sum_of flatten
  inserted_first n ns x s = rw (append_assoc, append_assoc, drop-drop (sum_of ns) n s)

  deleted_first : (n : ℕ) (ns : List ℕ) (i : ℕ) (x : A) (s : List A) → deleted (n ∷ ns) 0 i x s ≡ fill_from_end i (take n s) ++ downs ns x (drop n s)
  unfolding downs deleted delete_at parts free sum_of flatten
  deleted_first n ns i x s = rw (append_assoc, drop-drop (sum_of ns) n s)

-- where a loop stands: the first j partitions end at p
pub record Spot (lens : List ℕ) (p j : ℕ) : Type 0 where
  pub low : 1 ≤ j
  pub high : j ≤ length lens
  pub at : p ≡ sum_of (take j lens)

pub spot_last : (lens : List ℕ) (p : ℕ) → 1 ≤ length lens → sum_of lens ≡ p → Spot lens p (length lens)
spot_last lens p h e = record { low = h; high = omega arith; at = rw take-length (sym e) }

-- past partition t
pub spot_past : (lens : List ℕ) (t p : ℕ) → t < length lens → p ≡ start_of lens t + get_or lens t 0 → Spot lens p (t + 1)
unfolding start_of
spot_past lens t p h e = record { low = omega arith; high = omega arith; at = omega (arith, sum-take_next lens t h) }

pub spot_sum : (lens : List ℕ) (p j : ℕ) → Spot lens p j → p ≡ sum_of (take (j - 1) lens) + get_or lens (j - 1) 0
spot_sum lens p j h =
    let e : j - 1 + 1 ≡ j = omega arith in
    h.at ∙ ap (λ (k : ℕ). sum_of (take k lens)) (sym e) ∙ sum-take_next lens (j - 1) (omega arith)

pub spot_down : (lens : List ℕ) (p j : ℕ) → 1 < j → Spot lens p j → Spot lens (p - get_or lens (j - 1) 0) (j - 1)
spot_down lens p j h w = record { low = omega arith; high = omega arith; at = omega (arith, spot_sum lens p j w) }

pub spot_up : (lens : List ℕ) (p j : ℕ) → j < length lens → Spot lens (p + 1) j → Spot lens (p + get_or lens j 0 + 1) (j + 1)
spot_up lens p j h w = record { low = omega arith; high = omega arith; at = omega (arith, sum-take_next lens j h) }

pub spot_in : (lens : List ℕ) (p j : ℕ) → Spot lens p j → p ≤ sum_of lens
spot_in lens p j w = omega (arith, sum-take_le lens j)

-- the next partition lies in the column
pub spot_room : (lens : List ℕ) (p j : ℕ) → j < length lens → Spot lens (p + 1) j → p + get_or lens j 0 + 1 ≤ sum_of lens
spot_room lens p j h w = omega (arith, sum-take_next lens j h, sum-take_le lens (j + 1))

-- the upward loop: partitions from j on have moved up by one, and those before have not
pub record Lifted {A : Type 0} (lens : List ℕ) (s₀ s : List A) (p j : ℕ) : Type 0 where
  pub len : length s ≡ length s₀
  pub front : take p s ≡ take p s₀
  pub back : drop (p + 1) s ≡ ups (drop j lens) (drop p s₀)

-- the downward loop: what is still to be done, from partition j on
unfoldable pub work : {A : Type 0} → List ℕ → A → List A → ℕ → ℕ → List A
work lens x s p j = take p s ++ downs (drop j lens) x (drop (p + 1) s)

pub record Lowered {A : Type 0} (lens : List ℕ) (x : A) (s₀ : List A) (p₀ j₀ : ℕ) (s : List A) (p j : ℕ) : Type 0 where
  pub len : length s ≡ length s₀
  pub same : work lens x s p j ≡ work lens x s₀ p₀ j₀

module _ {A : Type 0} where
  pub lifted_start : (lens : List ℕ) (s : List A) (p : ℕ) → Lifted lens s s p (length lens)
  lifted_start lens s p = record { len = refl; front = refl; back = rw (drop-length, ups_none, drop-drop) }

  pub lifted_turn : (d : A) (lens : List ℕ) (s₀ s : List A) (p j : ℕ) → 1 < j → p < length s₀ → Spot lens p j → Lifted lens s₀ s p j
      → Lifted lens s₀ (set s p (get_or s (p - get_or lens (j - 1) 0) d)) (p - get_or lens (j - 1) 0) (j - 1)
  lifted_turn d lens s₀ s p j h hp w m =
      let n : ℕ = get_or lens (j - 1) 0 in
      let q : ℕ = p - n in
      let e : q + n ≡ p = omega (arith, spot_sum lens p j w) in
      let ej : suc (j - 1) ≡ j = omega arith in
      let f : take q s ≡ take q s₀ = sym (take-take q p s (omega arith)) ∙ ap (take q) m.front ∙ take-take q p s₀ (omega arith) in
      let g : take n (drop q s) ≡ take n (drop q s₀)
      = sym (drop-take q n s) ∙ ap (λ (k : ℕ). drop q (take k s)) e ∙ ap (drop q) m.front ∙ ap (λ (k : ℕ). drop q (take k s₀)) (sym e) ∙ drop-take q n s₀ in
      let k : drop (j - 1) lens ≡ n ∷ drop j lens = drop-cons lens (j - 1) 0 (omega arith) ∙ rw ej in
      let b : drop n (drop q s₀) ≡ drop p s₀ = drop-drop n q s₀ ∙ ap (λ (i : ℕ). drop i s₀) e in
      let c : drop (q + 1) (set s p (get_or s q d)) ≡ rotate_left (take n (drop q s)) ++ drop (p + 1) s
      = rw e at (carry_up d s q n (omega (arith, m.len))) in
      record {
        len = length-set s p _ ∙ m.len;
        front = take-set-le q s p _ (omega arith) ∙ f;
        back = rw (c, g, m.back, k, ups_cons, b);
      }

  pub lower_start : (d : A) (lens : List ℕ) (i : ℕ) (x : A) (s : List A) → 1 ≤ length lens → i < get_or lens 0 0 → sum_of lens ≤ length s
      → work lens x (set s i (get_or s (get_or lens 0 0 - 1) d)) (get_or lens 0 0 - 1) 1 ≡ deleted lens 0 i x s
  unfolding sum_of work fill_from_end
  lower_start d [] i x s h k l = absurd (omega arith)
  lower_start d (n ∷ ns) i x s h k l =
      let m : ℕ = n - 1 - i in
      let e : n - 1 ≡ i + m = omega arith in
      let e' : n ≡ i + 1 + m = omega arith in
      let e1 : n - 1 + 1 ≡ n = omega arith in
      let c : take (n - 1) (set s i (get_or s (n - 1) d)) ≡ take i s ++ rotate_right (take m (drop (i + 1) s)) = rw (sym e) at (carry_down d s i m (omega arith)) in
      let f : drop (i + 1) (take n s) ≡ take m (drop (i + 1) s) = ap (λ (k : ℕ). drop (i + 1) (take k s)) e' ∙ drop-take (i + 1) m s in
      rw (deleted_first, c, e1, drop-set-lt n s i _ k, f, take-take i n s (omega arith))

  lower_turn : (d : A) (lens : List ℕ) (x : A) (s : List A) (p j : ℕ) → j < length lens → sum_of lens ≤ length s → Spot lens (p + 1) j
      → work lens x (set s p (get_or s (p + get_or lens j 0) d)) (p + get_or lens j 0) (j + 1) ≡ work lens x s p j
  unfolding work
  lower_turn d lens x s p j h l w =
      let n : ℕ = get_or lens j 0 in
      let k : drop j lens ≡ n ∷ drop (j + 1) lens = drop-cons lens j 0 h ∙ rw add-one in
      let r : p + n < length s = omega (arith, spot_room lens p j h w) in
      let e : p + 1 + n ≡ p + n + 1 = omega arith in
      rw (carry_down d s p n r, drop-set-lt (p + n + 1) s p _ (omega arith), k, downs_cons, drop-drop, e, append_assoc)

  pub lower_end : (lens : List ℕ) (x : A) (s : List A) (p j : ℕ) → j ≡ length lens → p < length s → set s p x ≡ work lens x s p j
  unfolding work downs parts free sum_of flatten
  lower_end lens x s p j h l = rw (h, drop-length, add-one, set_split s p x l)

  pub lowered_start : (lens : List ℕ) (x : A) (s : List A) (p j : ℕ) → Lowered lens x s p j s p j
  lowered_start lens x s p j = record { len = refl; same = refl }

  pub lowered_turn : (d : A) (lens : List ℕ) (x : A) (s₀ : List A) (p₀ j₀ : ℕ) (s : List A) (p j : ℕ) → j < length lens → sum_of lens ≤ length s → Spot lens (p + 1) j
      → Lowered lens x s₀ p₀ j₀ s p j → Lowered lens x s₀ p₀ j₀ (set s p (get_or s (p + get_or lens j 0) d)) (p + get_or lens j 0) (j + 1)
  lowered_turn d lens x s₀ p₀ j₀ s p j h l w m = record { len = length-set s p _ ∙ m.len; same = lower_turn d lens x s p j h l w ∙ m.same }
