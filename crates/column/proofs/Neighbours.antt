-- The next and the previous grower: the search from partition to partition is the call. Assumes nothing.
use Prim.Native.Nat.{ℕ, ◌+◌}
use mathlib.Core.Path.{◌≡◌, refl, sym, ap, ◌∙◌}
use mathlib.Core.Bool.{Bool, true, false, cond, ◌&&◌, and-true, and_assoc}
use mathlib.Core.List.{List, [], ◌∷◌, ◌++◌, append-nil, map, map-append, flatten}
use native.Mathlib.Omega.{arith}
use lib.Dec.{eqb}
use lib.ListN.{length, get_or, get_or-map}
use borrow.Author.Tests.{ne_eqb}
use Rattle.model.specs.declared.Delivery.{Delivery}
use Rattle.model.specs.declared.Counts.{Counts}
use Rattle.model.specs.declared.GrowerAnswer.{GrowerAnswer}
use Rattle.model.specs.Lists.{sum_of, every, keep}
use Rattle.model.specs.Checks.{ask, first_failed}
use Rattle.model.specs.Deliveries.{grower_of, in_range, day_ok}
use Rattle.model.specs.Partitions.{parts, part}
use Rattle.model.specs.Directory.{directory_of}
use Rattle.model.specs.Column.{Column, slots, lengths_of, fences_of, target}
use Rattle.model.specs.Accesses.{no_counts, blocks_of, reads_of}
use Rattle.model.specs.Questions.{lent_checks, grower_checks}
use Rattle.model.specs.Growers.{Direction, GrowerCount, at_or_past, nearest, nearest_of, growers_of, holds_one, path, up_to_first}
use Rattle.model.specs.Growers.{scanned_for, scanned_for_ok, scanned_for_days_ok, records_scanned, counts_scanned}
use Rattle.model.specs.GrowerCalls.{grower_answer, grower_call}
use Rattle.model.proofs.ListLaws.{every-joined}
use Rattle.model.proofs.Parts.{lengths_parts}
use Rattle.model.proofs.GrowerLaws.{no_hit, none_left}
use Rattle.checks.proofs.Answers.{failed_first}
use Rattle.directory.proofs.LentColumns.{lent_column, count_lengths, count_fences}
use Rattle.growers.specs.Searches.{dated_answer, searched}
use Rattle.column.proofs.Answering.{past_lent}
use Rattle.column.proofs.Reading.{lengths_fit}

-- The partitions up to the first that holds one, all at once.
module _ (b : ℕ) (w : Direction) (k : ℕ) (ps : List (List Delivery)) where
  abbrev scanned : List ℕ → List ℕ
  scanned is = up_to_first (λ (i : ℕ). holds_one w k (part i ps)) is

  abbrev records : List ℕ → List Delivery
  records is = flatten (map (λ (i : ℕ). part i ps) is)

  abbrev blocks : List ℕ → ℕ
  blocks is = sum_of (map (λ (i : ℕ). blocks_of b (length (part i ps))) is)

  abbrev answer : GrowerCount → ℕ → GrowerAnswer
  answer found n = grower_answer 0 found.grower found.records (reads_of n)

  -- t says whether the days before are in range
  abbrev at_once : List ℕ → Bool → ℕ → GrowerAnswer
  at_once is t n =
      cond (every in_range (records is)) (dated_answer (t && every day_ok (records is)) (answer (nearest_of w k (growers_of (records is))) (n + blocks is))) (grower_answer 8 0 0 no_counts)

  none_held : (l : List Delivery) → holds_one w k l ≡ false → keep (at_or_past w k) (growers_of l) ≡ []
  unfolding holds_one
  none_held l h = none_left (keep (at_or_past w k) (growers_of l)) h

  -- one partition and the rest
  apart : (i : ℕ) (is : List ℕ) (t : Bool) (n : ℕ) → at_once (i ∷ is) t n
      ≡ cond (every in_range (part i ps) && every in_range (records is))
      (dated_answer (t && every day_ok (part i ps) && every day_ok (records is))
      (answer (nearest_of w k (growers_of (part i ps) ++ growers_of (records is))) (n + (blocks_of b (length (part i ps)) + blocks is))))
      (grower_answer 8 0 0 no_counts)
  unfolding flatten sum_of
  apart i is t n =
      rw (
        every-joined in_range (part i ps) (records is),
        every-joined day_ok (part i ps) (records is),
        map-append grower_of (part i ps) (records is),
        and_assoc t (every day_ok (part i ps)) (every day_ok (records is)),
      )

  one_alone : (i : ℕ) (t : Bool) (n : ℕ) → every in_range (part i ps) ≡ true
      → dated_answer (t && every day_ok (part i ps)) (answer (nearest_of w k (growers_of (part i ps))) (n + blocks_of b (length (part i ps)))) ≡ at_once (i ∷ []) t n
  unfolding flatten sum_of
  one_alone i t n e =
      let f : n + (blocks_of b (length (part i ps)) + 0) ≡ n + blocks_of b (length (part i ps)) = omega arith in
      rw (append-nil (part i ps), e, f)

  -- a partition that holds none
  none_there : (i : ℕ) (is : List ℕ) (t : Bool) (n : ℕ) → every in_range (part i ps) ≡ true → holds_one w k (part i ps) ≡ false
      → at_once (i ∷ is) t n ≡ at_once is (t && every day_ok (part i ps)) (n + blocks_of b (length (part i ps)))
  none_there i is t n e f =
      let g : n + (blocks_of b (length (part i ps)) + blocks is) ≡ n + blocks_of b (length (part i ps)) + blocks is = omega arith in
      apart i is t n ∙ rw (e, no_hit w k (growers_of (part i ps)) (growers_of (records is)) (none_held (part i ps) f), g)

  -- one after the other
  searched-at_once : (is : List ℕ) (t : Bool) (n : ℕ) → searched b w k ps is t n ≡ at_once (scanned is) t n
  unfolding searched up_to_first flatten every sum_of nearest_of nearest keep
  searched-at_once [] t n = let e : n + 0 ≡ n = omega arith in rw (e, and-true t)
  searched-at_once (i ∷ is) t n = go (every in_range (part i ps)) refl (holds_one w k (part i ps)) refl (searched-at_once is d m)
    where
      d : Bool
      d = t && every day_ok (part i ps)

      m : ℕ
      m = n + blocks_of b (length (part i ps))

      go : (v : Bool) → every in_range (part i ps) ≡ v → (u : Bool) → holds_one w k (part i ps) ≡ u → searched b w k ps is d m ≡ at_once (scanned is) d m
          → cond v (cond u (dated_answer d (answer (nearest_of w k (growers_of (part i ps))) m)) (searched b w k ps is d m)) (grower_answer 8 0 0 no_counts)
          ≡ at_once (i ∷ cond u [] (scanned is)) t n
      go false e u f h = sym (apart i (cond u [] (scanned is)) t n ∙ rw e)
      go true e true f h = one_alone i t n e
      go true e false f h = h ∙ sym (none_there i (scanned is) t n e f)

blocks-same : (b : ℕ) (ns : List ℕ) (ps : List (List Delivery)) → map length ps ≡ ns → (is : List ℕ)
    → sum_of (map (λ (i : ℕ). blocks_of b (length (part i ps))) is) ≡ sum_of (map (λ (i : ℕ). blocks_of b (get_or ns i 0)) is)
unfolding sum_of
blocks-same b ns ps e [] = refl
blocks-same b ns ps e (i ∷ is) =
    let x : length (part i ps) ≡ get_or ns i 0 = sym (get_or-map length ps i []) ∙ ap (λ (l : List ℕ). get_or l i 0) e in
    rw (x, blocks-same b ns ps e is)

-- an answer by checks 8 and 19
by_checks : (t u : Bool) (a r : ℕ) (k l : Counts) → k ≡ l → (n : ℕ) → n ≡ cond t (cond u 0 19) 8
    → cond t (dated_answer u (grower_answer 0 a r k)) (grower_answer 8 0 0 no_counts) ≡ cond (eqb n 0) (grower_answer 0 a r l) (grower_answer n 0 0 no_counts)
by_checks true true a r k l e n f = rw (f, e)
by_checks true false a r k l e n f = rw f
by_checks false u a r k l e n f = rw f

module _ (L : ℕ) (c : Column) (w : Direction) (g : ℕ) where
  -- refused by 2, 3 or 6
  pub grower_no : (n : ℕ) → n ≡ first_failed (lent_checks L c) → (n ≡ 0 → ⊥) → grower_answer n 0 0 no_counts ≡ grower_call L c w g
  unfolding grower_call grower_checks
  grower_no n e h =
      let f : first_failed (grower_checks L c w g) ≡ n = sym (e ∙ failed_first (lent_checks L c) _ (λ z. h (e ∙ z))) in
      rw (f, ne_eqb n 0 h)

  -- the search along the path is the call
  pub grower_yes : (t : ℕ) → first_failed (lent_checks L c) ≡ 0 → t ≡ target L c g
      → searched (get_or c.directory 0 0) w g (parts (lengths_of L c) (slots c)) (path w (length (lengths_of L c)) t) true 0 ≡ grower_call L c w g
  unfolding grower_call grower_checks scanned_for scanned_for_ok scanned_for_days_ok counts_scanned directory_of first_failed
  grower_yes t h e =
      let l = lent_column L c h in
      let b : ℕ = get_or c.directory 0 0 in
      let ns : List ℕ = lengths_of L c in
      let is : List ℕ = scanned_for L c w g in
      let found : GrowerCount = nearest_of w g (growers_of (records_scanned L c is)) in
      let many : length ns ≡ length (fences_of L c) = count_lengths L c l ∙ sym (count_fences L c l) in
      let n : ℕ = sum_of (map (λ (i : ℕ). blocks_of b (length (part i (parts ns (slots c))))) is) in
      let same : 0 + n ≡ n = omega arith in
      rw (e, many)
      (searched-at_once b w g (parts ns (slots c)) (path w (length (fences_of L c)) (target L c g)) true 0
      ∙ by_checks (every in_range (records_scanned L c is)) (every day_ok (records_scanned L c is)) found.grower found.records _ _
      (ap reads_of (same ∙ blocks-same b ns (parts ns (slots c)) (lengths_parts ns (slots c) (lengths_fit L c h)) is))
      (first_failed (grower_checks L c w g)) (past_lent L c (ask 8 (every in_range (records_scanned L c is)) ∷ ask 19 (every day_ok (records_scanned L c is)) ∷ []) h))
