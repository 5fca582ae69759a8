-- How the calls are made of the two loops. Assumes nothing.
use Prim.Native.Nat.{ℕ, suc, ◌+◌, ◌-◌, ◌≤◌, ◌<◌}
use mathlib.Core.Path.{◌≡◌, refl, sym, ap, ◌∙◌}
use mathlib.Core.List.{List, [], ◌∷◌, ◌++◌, append_assoc, flatten}
use native.Mathlib.Omega.{arith}
use native.Mathlib.Numerals.{add-one}
use lib.ListN.{length, get_or, take, drop, set, length-set, length-drop, take-append-drop}
use lib.Seq.{drop-cons, drop-drop, get_or-drop, get_or-take, take-take, take-add, slice_empty, take-set-le, drop-set-add, set_split, drop-append-le, length-take-le}
use Rattle.model.specs.Lists.{sum_of}
use Rattle.model.specs.Partitions.{parts, free, start_of, part}
use Rattle.model.specs.Moves.{rotate_left, fill_from_front, insert_at, delete_at, move_forward, move_backward, move_within, inserted, deleted, moved}
use Rattle.model.proofs.MoveCases.{move_at_forward, move_at_backward, move_at_within}
use Rattle.model.proofs.ListLaws.{flatten-append, flatten-at, sum-take_next, sum-take_le, sum_cut}
use Rattle.model.proofs.Parts.{start_take, part-parts, flatten-take, take-parts, drop-parts, length-parts, free_cut, rest_of}
use Rattle.ripple.proofs.Loops.{carry_up, inserted_first, ups, Spot, Lifted, work, Lowered, lower_start, lower_end, spot_in}

-- slot i of partition t is in the column that ends before u
pub ready : (ns : List ℕ) (t a i u c : ℕ) → t < u → u ≤ length ns → a ≡ start_of ns t → i < get_or ns t 0 → sum_of ns ≤ c
    → (t < length (take u ns)) × (a ≡ start_of (take u ns) t) × (i < get_or (take u ns) t 0) × (sum_of (take u ns) ≤ c)
ready ns t a i u c h k e l r =
    (omega (arith, length-take-le u ns k), e ∙ sym (start_take ns t u (omega arith)), rw (get_or-take u ns t 0 h) l, omega (arith, sum-take_le ns u))

module _ {A : Type 0} where
  part-drop : (t : ℕ) (ps : List (List A)) → part 0 (drop t ps) ≡ part t ps
  part-drop t ps =
      let e : t + 0 ≡ t = omega arith in
      get_or-drop t ps 0 [] ∙ rw e

  -- insert and delete begin at partition t
  insert_from : (t : ℕ) (x : A) (ps : List (List A)) → insert_at t x ps ≡ take t ps ++ insert_at 0 x (drop t ps)
  unfolding insert_at
  insert_from t x ps = rw (part-drop, drop-drop)

  delete_from : (t i : ℕ) (ps : List (List A)) → delete_at t i ps ≡ take t ps ++ delete_at 0 i (drop t ps)
  unfolding delete_at
  delete_from t i ps = rw (part-drop, drop-drop)

  pub inserted_from : (ns : List ℕ) (t : ℕ) (x : A) (s : List A)
      → inserted ns t x s ≡ take (sum_of (take t ns)) s ++ inserted (drop t ns) 0 x (drop (sum_of (take t ns)) s)
  unfolding inserted
  inserted_from ns t x s = rw (insert_from, flatten-append, flatten-take, drop-parts, append_assoc, free_cut t ns s)

  pub deleted_from : (ns : List ℕ) (t i : ℕ) (z : A) (s : List A)
      → deleted ns t i z s ≡ take (sum_of (take t ns)) s ++ deleted (drop t ns) 0 i z (drop (sum_of (take t ns)) s)
  unfolding deleted
  deleted_from ns t i z s = rw (delete_from, flatten-append, flatten-take, drop-parts, append_assoc, free_cut t ns s)

  drop-part : (u : ℕ) (ps : List (List A)) → u < length ps → flatten (drop u ps) ≡ part u ps ++ flatten (drop (u + 1) ps)
  unfolding flatten
  drop-part u ps h = ap flatten (drop-cons ps u [] h) ∙ rw add-one

  flatten-nil : flatten {A = A} [] ≡ []
  unfolding flatten
  flatten-nil = refl

  past_part : (u : ℕ) (ns : List ℕ) (s : List A) → flatten (drop u (parts ns s)) ++ free ns s ≡ free (take u ns) s
  unfolding free
  past_part u ns s = rest_of u ns s

  -- from partition u on
  from : (u : ℕ) (ns : List ℕ) (s : List A) → u < length ns → part u (parts ns s) ++ flatten (drop (u + 1) (parts ns s)) ++ free ns s ≡ free (take u ns) s
  from u ns s h = ap (λ (r : List A). r ++ free ns s) (sym (drop-part u (parts ns s) (rw length-parts h))) ∙ past_part u ns s

  -- a move forward is a delete in the column that ends before u, and x fills the freed slot
  pub forward_law : (ns : List ℕ) (t i u : ℕ) (x : A) (s : List A) → t < u → u < length ns → moved ns t i u x s ≡ deleted (take u ns) t i x s
  unfolding moved move_forward deleted
  forward_law ns t i u x s h k = rw (move_at_forward t i u x (parts ns s) h, flatten-at, append_assoc, from u ns s k, take-parts)

  -- a move within t is a delete in the column that ends with t, and x fills the freed slot
  pub within_law : (ns : List ℕ) (t i : ℕ) (x : A) (s : List A) → t < length ns → moved ns t i t x s ≡ deleted (take (t + 1) ns) t i x s
  unfolding moved move_within deleted delete_at
  within_law ns t i x s h =
      let ps : List (List A) = parts ns s in
      let e₀ : parts (take (t + 1) ns) s ≡ take (t + 1) ps = sym (take-parts (t + 1) ns s) in
      let e₁ : take t (take (t + 1) ps) ≡ take t ps = take-take t (t + 1) ps (omega arith) in
      let e₂ : part t (take (t + 1) ps) ≡ part t ps = get_or-take (t + 1) ps t [] (omega arith) in
      let e₃ : drop (t + 1) (take (t + 1) ps) ≡ [] = slice_empty (t + 1) ps in
      let e₄ : flatten (drop (t + 1) ps) ++ free ns s ≡ free (take (t + 1) ns) s = past_part (t + 1) ns s in
      simp (move_at_within t i t x (parts ns s) refl, e₀, e₁, e₂, e₃, flatten-at, flatten-nil, append_assoc, e₄)

  -- slots past the partitions do not count
  parts-set : (ns : List ℕ) (s : List A) (k : ℕ) (v : A) → sum_of ns ≤ k → parts ns (set s k v) ≡ parts ns s
  unfolding parts sum_of
  parts-set [] s k v h = refl
  parts-set (n ∷ ns) s k v h =
      let e : k ≡ n + (k - n) = omega arith in
      let d : drop n (set s k v) ≡ set (drop n s) (k - n) v = ap (λ (j : ℕ). drop n (set s j v)) e ∙ drop-set-add n s (k - n) v in
      rw (take-set-le n s k v (omega arith), d, parts-set ns (drop n s) (k - n) v (omega arith))

  drop_rest : (a n : ℕ) (r : List A) → a ≤ n → n ≤ length r → drop a (take n r) ++ drop n r ≡ drop a r
  drop_rest a n r h k = sym (drop-append-le a (take n r) (drop n r) (omega (arith, length-take-le n r k))) ∙ ap (drop a) (take-append-drop n r)

  -- a move backward is an insert into the column that ends before t, once t's first record has gone to slot i
  pub backward_law : (d : A) (ns : List ℕ) (t i u : ℕ) (x : A) (s : List A) → u < t → t < length ns → i < get_or ns t 0 → sum_of ns ≤ length s
      → moved ns t i u x s ≡ inserted (take t ns) u x (set s (sum_of (take t ns) + i) (get_or s (sum_of (take t ns)) d))
  unfolding moved move_backward inserted fill_from_front free start_of
  backward_law d ns t i u x s j h k l =
      let b : ℕ = sum_of (take t ns) in
      let n : ℕ = get_or ns t 0 in
      let r : List A = drop b s in
      let hn : sum_of (take (t + 1) ns) ≡ b + n = sum-take_next ns t h in
      let e₀ : b + (i + 1) ≡ b + i + 1 = omega arith in
      let room : b + n ≤ length s = omega (arith, sum-take_le ns (t + 1)) in
      let c : drop 1 (drop b (set s (b + i) (get_or s b d))) ≡ rotate_left (take i r) ++ drop (i + 1) r
      = drop-drop 1 b _ ∙ carry_up d s b i (omega arith) ∙ rw (drop-drop, e₀) in
      let e₁ : flatten (drop (t + 1) (parts ns s)) ++ drop (sum_of ns) s ≡ drop n r = rest_of (t + 1) ns s ∙ rw (hn, drop-drop) in
      let e₂ : drop (i + 1) (take n r) ++ drop n r ≡ drop (i + 1) r = drop_rest (i + 1) n r (omega arith) (omega (arith, length-drop b s)) in
      simp (
        move_at_backward t i u x (parts ns s) j,
        take-parts,
        parts-set (take t ns) s (b + i) (get_or s b d) (omega arith),
        c,
        flatten-at,
        part-parts,
        take-take i n r (omega arith),
        append_assoc,
        e₁,
        e₂,
      )

  -- the end of an insert's loop: d's number x goes past the end of t
  pub insert_end : (x : A) (lens : List ℕ) (t : ℕ) (s₀ s : List A) (p : ℕ) → t < length lens → p < length s₀ → Spot lens p (t + 1) → Lifted lens s₀ s p (t + 1)
      → set s p x ≡ inserted lens t x s₀
  insert_end x lens t s₀ s p h hp w m =
      let a : ℕ = sum_of (take t lens) in
      let n : ℕ = get_or lens t 0 in
      let e : p ≡ a + n = w.at ∙ sum-take_next lens t h in
      let k : drop t lens ≡ n ∷ drop (t + 1) lens = drop-cons lens t 0 h ∙ rw add-one in
      let f : take p s₀ ≡ take a s₀ ++ take n (drop a s₀) = ap (λ (i : ℕ). take i s₀) e ∙ take-add a n s₀ in
      let g : drop n (drop a s₀) ≡ drop p s₀ = drop-drop n a s₀ ∙ ap (λ (i : ℕ). drop i s₀) (sym e) in
      let b : drop (suc p) s ≡ ups (drop (t + 1) lens) (drop p s₀) = ap (λ (i : ℕ). drop i s) (sym (add-one p)) ∙ m.back in
      let r : inserted lens t x s₀ ≡ take a s₀ ++ (take n (drop a s₀) ++ x ∷ ups (drop (t + 1) lens) (drop p s₀))
      = inserted_from lens t x s₀ ∙ rw (k, inserted_first, g) in
      set_split s p x (omega (arith, m.len)) ∙ rw (m.front, b, f, append_assoc) (sym r)

  -- what is left to do from slot a and partition t on
  work_from : (lens : List ℕ) (x : A) (s : List A) (a p t j : ℕ) → work lens x s (a + p) (t + j) ≡ take a s ++ work (drop t lens) x (drop a s) p j
  unfolding work
  work_from lens x s a p t j =
      let e : a + (p + 1) ≡ a + p + 1 = omega arith in
      rw (take-add, drop-drop j t lens, drop-drop (p + 1) a s, e, append_assoc)

  -- where a delete's loop begins: slot i of t has t's last record
  delete_start : (d : A) (lens : List ℕ) (t i : ℕ) (x : A) (s : List A) → t < length lens → i < get_or lens t 0 → sum_of lens ≤ length s
      → work lens x (set s (sum_of (take t lens) + i) (get_or s (sum_of (take t lens) + (get_or lens t 0 - 1)) d)) (sum_of (take t lens) + (get_or lens t 0 - 1)) (t + 1)
      ≡ deleted lens t i x s
  delete_start d lens t i x s h k l =
      let a : ℕ = sum_of (take t lens) in
      let m : ℕ = get_or lens t 0 - 1 in
      let v : A = get_or s (a + m) d in
      let z : List A = set s (a + i) v in
      let e : t + 0 ≡ t = omega arith in
      let n : get_or (drop t lens) 0 0 ≡ get_or lens t 0 = get_or-drop t lens 0 0 ∙ rw e in
      let f : take a z ≡ take a s = take-set-le a s (a + i) v (omega arith) in
      let g : drop a z ≡ set (drop a s) i v = drop-set-add a s i v in
      let w : get_or (drop a s) m d ≡ v = get_or-drop a s m d in
      let c : sum_of lens ≡ a + sum_of (drop t lens) = sum_cut t lens in
      let q : work (drop t lens) x (set (drop a s) i v) m 1 ≡ deleted (drop t lens) 0 i x (drop a s)
      = rw (n, w) at (lower_start d (drop t lens) i x (drop a s) (omega (arith, length-drop t lens)) (omega arith) (omega (arith, length-drop a s))) in
      work_from lens x z a m t 1 ∙ rw (f, g, q) (sym (deleted_from lens t i x s))

  -- the end of a delete's loop
  pub delete_end : (d : A) (lens : List ℕ) (t a i : ℕ) (x : A) (s₀ s₁ s : List A) (p₀ p j : ℕ) → t < length lens → a ≡ start_of lens t → i < get_or lens t 0 → sum_of lens ≤ length s₀
      → p₀ ≡ a + get_or lens t 0 - 1 → s₁ ≡ set s₀ (a + i) (get_or s₀ p₀ d) → Spot lens (p + 1) j → length lens ≤ j → Lowered lens x s₁ p₀ (t + 1) s p j
      → set s p x ≡ deleted lens t i x s₀
  unfolding start_of
  delete_end d lens t a i x s₀ s₁ s p₀ p j h ea k l ep es w q m =
      let n : length s₁ ≡ length s₀ = ap length es ∙ length-set s₀ (a + i) _ in
      let e : p₀ ≡ sum_of (take t lens) + (get_or lens t 0 - 1) = omega arith in
      let r : work lens x s₁ p₀ (t + 1) ≡ deleted lens t i x s₀ = rw (es, ea, e) (delete_start d lens t i x s₀ h k l) in
      lower_end lens x s p j (omega arith) (omega (arith, m.len, spot_in lens (p + 1) j w)) ∙ m.same ∙ r
