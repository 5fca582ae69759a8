-- Taking lines at a byte, in one form: the numbers that stand there, if the lines are good. Assumes nothing.
use Prim.Native.Nat.{ℕ, zero, suc, ◌+◌, ◌*◌, ◌≤◌, ◌<◌}
use mathlib.Core.Path.{◌≡◌, refl, sym, ap, ap₂, ◌∙◌}
use mathlib.Core.Bool.{Bool, true, false, ◌&&◌, and_assoc}
use mathlib.Core.Option.{Option, none, some}
use mathlib.Core.List.{List, [], ◌∷◌, ◌++◌, map}
use native.Mathlib.Omega.{arith}
use lib.Dec.{T, leb, eqb, leb→le, le→leb, eqb→eq}
use lib.ListN.{length, take, drop, length-drop}
use lib.Seq.{drop-drop}
use Rattle.model.specs.Lists.{only_if, and_then, value_or, is_some}
use Rattle.model.specs.Fields.{read_field, Taken, taken, take_numbers, take_line, take_lines, after_line_end, nth, line_end}
use Rattle.model.specs.Bounds.{most_number}
use Rattle.model.proofs.Tests.{and_fst, and_snd, same_test, eq→eqb}
use Rattle.model.proofs.FieldLaws.{field_read}
use Rattle.model.proofs.LineLaws.{Fit, fit_cons, fit_none}
use Rattle.fields.specs.Reading.{field_ok, value_at}
use Rattle.lines.specs.Lines.{column_at, line_length, line_ok, lines_ok, rows_at}

-- a value that is there is the one that would stand in its place
whole : {A : Type 0} (o : Option A) (d : A) → o ≡ only_if (is_some o) (value_or d o)
whole none d = refl
whole (some a) d = refl

-- two tests, one after the other
pub both : {A B : Type 0} (b c : Bool) (a : A) (f : A → Option B) (w : B) → f a ≡ only_if c w → and_then (only_if b a) f ≡ only_if (b && c) w
both true c a f w e = e
both false c a f w e = refl

-- a value that is there, and what follows it
pub chain : {A B : Type 0} (o : Option A) (b : Bool) (a : A) (f : A → Option B) (c : Bool) (w : B) → o ≡ only_if b a → f a ≡ only_if c w → and_then o f ≡ only_if (b && c) w
chain o b a f c w e g = ap (λ (o : Option _). and_then o f) e ∙ both b c a f w g

module _ (t : List ℕ) where
  field_at : (at : ℕ) → read_field (take 11 (drop at t)) ≡ only_if (field_ok at t) (value_at at t)
  unfolding field_ok value_at
  field_at at = whole (read_field (take 11 (drop at t))) 0

  after-at : (e : ℕ) → after_line_end (drop e t) ≡ only_if (is_some (after_line_end (drop e t))) (drop (e + 1) t)
  unfolding after_line_end
  after-at e = go (drop e t) refl
    where
      deep : (b : Bool) (l u : List ℕ) → l ≡ u → only_if b l ≡ only_if (is_some (only_if b l)) u
      deep true l u q = ap some q
      deep false l u q = refl

      go : (l : List ℕ) → drop e t ≡ l → after_line_end l ≡ only_if (is_some (after_line_end l)) (drop (e + 1) t)
      go [] p = refl
      go (b ∷ l) p = deep (eqb b line_end) l (drop (e + 1) t) (ap (drop 1) (sym p) ∙ drop-drop 1 e t)

  -- a number ahead of others, and LF behind them
  abbrev ahead : ℕ → Taken (List ℕ) → Option (Taken (List ℕ))
  ahead v r = some (taken (v ∷ r.value) r.rest)

  abbrev ending : Taken (List ℕ) → Option (Taken (List ℕ))
  ending r = and_then (after_line_end r.rest) (λ w. some (taken r.value w))

  -- a line of n numbers, as one chain
  abbrev numbers_then : ℕ → List ℕ → Option (Taken (List ℕ))
  numbers_then n u = and_then (take_numbers n u) ending

  line_more : (n v : ℕ) (u : List ℕ)
      → and_then (and_then (take_numbers n u) (ahead v)) ending
      ≡ and_then (numbers_then n u) (ahead v)
  line_more n v u = go (take_numbers n u)
    where
      deep : (l : List ℕ) (o : Option (List ℕ)) → and_then o (λ w. some (taken (v ∷ l) w)) ≡ and_then (and_then o (λ w. some (taken l w))) (ahead v)
      deep l none = refl
      deep l (some w) = refl

      go : (o : Option (Taken (List ℕ)))
          → and_then (and_then o (ahead v)) ending
          ≡ and_then (and_then o ending) (ahead v)
      go none = refl
      go (some r) = deep r.value (after_line_end r.rest)

  then_line : (b c : Bool) (v : ℕ) (f : ℕ → Option (Taken (List ℕ))) (l u u' : List ℕ) → u ≡ u'
      → f v ≡ and_then (only_if c (taken l u)) (ahead v)
      → and_then (only_if b v) f ≡ only_if (b && c) (taken (v ∷ l) u')
  then_line b c v f l u u' q e = both b c v f (taken (v ∷ l) u') (e ∙ go c)
    where
      go : (c : Bool) → and_then (only_if c (taken l u)) (ahead v) ≡ only_if c (taken (v ∷ l) u')
      go true = ap (λ (w : List ℕ). some (taken (v ∷ l) w)) q
      go false = refl

  line_form : (n at : ℕ) → numbers_then n (drop at t) ≡ only_if (line_ok n at t) (taken (column_at 11 at n t) (drop (at + line_length n) t))
  unfolding take_numbers line_ok column_at
  line_form zero at = ap (λ (o : Option (List ℕ)). and_then o (λ (w : List ℕ). some (taken {A = List ℕ} [] w))) (after-at at) ∙ go (is_some (after_line_end (drop at t)))
    where
      go : (b : Bool) → and_then (only_if b (drop (at + 1) t)) (λ (w : List ℕ). some (taken {A = List ℕ} [] w)) ≡ only_if b (taken [] (drop (at + 1) t))
      go true = refl
      go false = refl
  line_form (suc n) at =
      let z : at + 11 + line_length n ≡ at + line_length (suc n) = omega arith in
      rw (field_at at)
      (outer (field_ok at t)
      ∙ then_line (field_ok at t) (line_ok n (at + 11) t) (value_at at t)
      (λ (v : ℕ). and_then (numbers_then n (drop (at + 11) t)) (ahead v))
      (column_at 11 (at + 11) n t) (drop (at + 11 + line_length n) t) (drop (at + line_length (suc n)) t) (ap (λ (k : ℕ). drop k t) z)
      (ap (λ (o : Option (Taken (List ℕ))). and_then o (ahead (value_at at t))) (line_form n (at + 11))))
    where
      outer : (b : Bool)
          → and_then (and_then (only_if b (value_at at t)) (λ (v : ℕ). and_then (take_numbers n (drop 11 (drop at t))) (ahead v)))
          ending
          ≡ and_then (only_if b (value_at at t)) (λ (v : ℕ). and_then (numbers_then n (drop (at + 11) t)) (ahead v))
      outer true =
          line_more n (value_at at t) (drop 11 (drop at t))
          ∙ ap (λ (u : List ℕ). and_then (numbers_then n u) (ahead (value_at at t))) (drop-drop 11 at t)
      outer false = refl

  pub line_at : (n at : ℕ) → take_line n (drop at t) ≡ only_if (line_ok n at t) (taken (column_at 11 at n t) (drop (at + line_length n) t))
  unfolding take_line
  line_at n at = line_form n at

  pub lines_at : (m n at : ℕ) → take_lines m n (drop at t) ≡ only_if (lines_ok n m at t) (taken (rows_at n m at t) (drop (at + line_length n * m) t))
  unfolding take_lines lines_ok rows_at
  lines_at zero n at = let z : at ≡ at + line_length n * 0 = omega arith in ap (λ (k : ℕ). some (taken [] (drop k t))) z
  lines_at (suc m) n at =
      let s : ℕ = line_length n in
      let z : at + s + s * m ≡ at + s * suc m = omega arith in
      rw (line_at n at)
      (both (line_ok n at t) (lines_ok n m (at + s) t) (taken (column_at 11 at n t) (drop (at + s) t))
      (λ (r : Taken (List ℕ)). and_then (take_lines m n r.rest) (λ q. some (taken (r.value ∷ q.value) q.rest)))
      (taken (column_at 11 at n t ∷ rows_at n m (at + s) t) (drop (at + s * suc m) t))
      (ap (λ (o : Option (Taken (List (List ℕ)))). and_then o (λ q. some (taken (column_at 11 at n t ∷ q.value) q.rest))) (lines_at m n (at + s))
      ∙ go (lines_ok n m (at + s) t) (ap (λ (k : ℕ). drop k t) z)))
    where
      go : (b : Bool) → drop (at + line_length n + line_length n * m) t ≡ drop (at + line_length n * suc m) t
          → and_then (only_if b (taken (rows_at n m (at + line_length n) t) (drop (at + line_length n + line_length n * m) t))) (λ q. some (taken (column_at 11 at n t ∷ q.value) q.rest))
          ≡ only_if b (taken (column_at 11 at n t ∷ rows_at n m (at + line_length n) t) (drop (at + line_length n * suc m) t))
      go true e = ap (λ (u : List ℕ). some (taken (column_at 11 at n t ∷ rows_at n m (at + line_length n) t) u)) e
      go false e = refl

  -- number j of each line is a column of the text
  nth_column : (s n at j : ℕ) → j < n → nth j (column_at s at n t) ≡ value_at (at + s * j) t
  unfolding column_at
  nth_column s zero at j h = absurd (omega arith)
  nth_column s (suc n) at zero h = let z : at ≡ at + s * 0 = omega arith in ap (λ (k : ℕ). value_at k t) z
  nth_column s (suc n) at (suc j) h = let z : at + s + s * j ≡ at + s * suc j = omega arith in nth_column s n (at + s) j (omega arith) ∙ ap (λ (k : ℕ). value_at k t) z

  pub column_of_lem : (n j : ℕ) → j < n → (m at : ℕ) → map (nth j) (rows_at n m at t) ≡ column_at (line_length n) (at + 11 * j) m t
  unfolding rows_at column_at
  column_of_lem n j h zero at = refl
  column_of_lem n j h (suc m) at =
      let y : at + line_length n + 11 * j ≡ at + 11 * j + line_length n = omega arith in
      ap₂ (λ (a : ℕ) (l : List ℕ). a ∷ l) (nth_column 11 n at j h) (column_of_lem n j h m (at + line_length n) ∙ ap (λ (k : ℕ). column_at (line_length n) k m t) y)

  -- Lines in two parts.

  past_none : (n at : ℕ) → at + line_length n * 0 ≡ at
  past_none n at = omega arith

  past_next : (n at a : ℕ) → at + line_length n + line_length n * a ≡ at + line_length n * suc a
  past_next n at a = omega arith

  pub lines_cut : (n a b at : ℕ) → lines_ok n (a + b) at t ≡ lines_ok n a at t && lines_ok n b (at + line_length n * a) t
  unfolding lines_ok
  lines_cut n zero b at =
      let y : 0 + b ≡ b = omega arith in
      rw (y, past_none n at)
  lines_cut n (suc a) b at =
      let y : suc a + b ≡ suc (a + b) = omega arith in
      rw (y, lines_cut n a b (at + line_length n), past_next n at a) (sym (and_assoc (line_ok n at t) (lines_ok n a (at + line_length n) t) (lines_ok n b (at + line_length n * suc a) t)))

  pub rows_cut : (n a b at : ℕ) → rows_at n (a + b) at t ≡ rows_at n a at t ++ rows_at n b (at + line_length n * a) t
  unfolding rows_at
  rows_cut n zero b at =
      let y : 0 + b ≡ b = omega arith in
      rw (y, past_none n at)
  rows_cut n (suc a) b at =
      let y : suc a + b ≡ suc (a + b) = omega arith in
      rw (y, rows_cut n a b (at + line_length n), past_next n at a)

  pub length-rows-at : (n m at : ℕ) → length (rows_at n m at t) ≡ m
  unfolding rows_at
  length-rows-at n zero at = refl
  length-rows-at n (suc m) at = ap suc (length-rows-at n m (at + line_length n))

  -- Good lines lie inside the text.

  pub line_long : (n at : ℕ) → T (line_ok n at t) → at + line_length n ≤ length t
  unfolding line_ok after_line_end
  line_long zero at o = omega (arith, go (drop at t) refl o)
    where
      go : (l : List ℕ) → drop at t ≡ l → T (is_some (after_line_end l)) → at < length t
      go [] e h = absurd h
      go (b ∷ l) e h = omega (arith, ap length e, length-drop at t)
  line_long (suc n) at o = omega (arith, line_long n (at + 11) (and_snd (field_ok at t) (line_ok n (at + 11) t) o))

  pub lines_long : (n m at : ℕ) → at ≤ length t → T (lines_ok n m at t) → at + line_length n * m ≤ length t
  unfolding lines_ok
  lines_long n zero at h o = omega arith
  lines_long n (suc m) at h o =
      let x = line_long n at (and_fst (line_ok n at t) (lines_ok n m (at + line_length n) t) o) in
      omega (arith, lines_long n m (at + line_length n) x (and_snd (line_ok n at t) (lines_ok n m (at + line_length n) t) o))

  -- "nothing is left over" of a text, past a byte
  pub nothing_left : (e : ℕ) → eqb (length (drop e t)) 0 ≡ leb (length t) e
  nothing_left e =
      same_test (eqb (length (drop e t)) 0) (leb (length t) e)
      (λ h. le→leb (length t) e (omega (arith, eqb→eq (length (drop e t)) 0 h, length-drop e t)))
      (λ h. eq→eqb (length (drop e t)) 0 (omega (arith, leb→le (length t) e h, length-drop e t)))

  -- Every number that stands somewhere in a text is of 32 bits.

  value_most : (at : ℕ) → value_at at t ≤ most_number
  unfolding value_at
  value_most at = go (read_field (take 11 (drop at t))) refl
    where
      go : (o : Option ℕ) → read_field (take 11 (drop at t)) ≡ o → value_or 0 o ≤ most_number
      go none e = omega arith
      go (some n) e = (field_read (take 11 (drop at t)) n e).most

  pub column_fits : (s n at : ℕ) → Fit (column_at s at n t)
  unfolding column_at
  column_fits s zero at = fit_none
  column_fits s (suc n) at = fit_cons (value_at at t) (column_at s (at + s) n t) (value_most at) (column_fits s n (at + s))
