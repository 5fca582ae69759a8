-- The whole input: what it says, if it is one. Assumes nothing.
use Prim.Native.Nat.{ℕ, zero, suc, ◌+◌, ◌*◌, ◌≤◌, ◌<◌}
use mathlib.Core.Path.{◌≡◌, refl, sym, ap, ap₂, ◌∙◌}
use mathlib.Core.Bool.{Bool, true, false, ◌&&◌, and_assoc}
use mathlib.Core.Option.{Option}
use mathlib.Core.List.{List, [], ◌∷◌, ◌++◌}
use native.Mathlib.Omega.{arith}
use borrow.Author.Tests.{le-leb, lt-leb}
use lib.Dec.{T, leb, eqb, leb→le}
use lib.ListN.{length, get_or, drop, take, replicate}
use lib.Seq.{take_all, length-take-le}
use Rattle.model.specs.Bounds.{most_deliveries, most_calls}
use Rattle.model.specs.Lists.{only_if, and_then}
use Rattle.model.specs.Prices.{prices, limits}
use Rattle.model.specs.Deliveries.{slices_of}
use Rattle.model.specs.Calls.{Call}
use Rattle.model.specs.Fields.{Taken, taken, take_line, take_lines, nth}
use Rattle.model.specs.Program.{Week, calls_of, set_of, sizes_ok, take_sizes, read_week, week_text, refusal_text, layplan}
use Rattle.model.proofs.Tests.{of_true, and_fst, and_snd, leb_no}
use Rattle.fields.specs.Reading.{field_ok}
use Rattle.std.specs.Prelude.{Ok}
use Rattle.lines.specs.Lines.{text_checked, line_found, column_at, line_length, line_ok, lines_ok, rows_at}
use Rattle.lines.proofs.Reading.{found_line, found_number}
use Rattle.lines.proofs.Forms.{chain, line_at, lines_at, column_of_lem, nothing_left}
use Rattle.layplan_text.specs.Week.{calls_at, calls_ok, used_in, count_in, calls_from, head_ok, week_ok, week_in}
use Rattle.layplan_text.proofs.CallLaws.{are_calls, calls_form, calls_are, first_field, later_fields}

-- M and Q.

pub sizes_few : (m q : ℕ) → m < 1 → false ≡ sizes_ok m q
unfolding sizes_ok
sizes_few m q h = rw (lt-leb 1 m h)

pub sizes_many : (m q : ℕ) → 1 ≤ m → most_deliveries < m → false ≡ sizes_ok m q
unfolding sizes_ok
sizes_many m q l h = rw (le-leb 1 m l, lt-leb m most_deliveries h)

pub sizes_calls : (m q : ℕ) → 1 ≤ m → m ≤ most_deliveries → leb q most_calls ≡ sizes_ok m q
unfolding sizes_ok
sizes_calls m q l h = rw (le-leb 1 m l, le-leb m most_deliveries h)

-- What the lines of an input are, in the order of the definition's chain.

group : (a b c d r : Bool) → a && (b && (c && d && r)) ≡ a && (b && (c && d)) && r
group true true c d r = refl
group true false c d r = refl
group false b c d r = refl

-- as many rows as lines
length-rows : (t : List ℕ) (n m at : ℕ) → length (rows_at n m at t) ≡ m
unfolding rows_at
length-rows t n zero at = refl
length-rows t n (suc m) at = ap (λ (k : ℕ). suc k) (length-rows t n m (at + line_length n))

module _ (t : List ℕ) where
  abbrev m : ℕ
  m = used_in t

  abbrev q : ℕ
  q = count_in t

  abbrev a : ℕ
  a = calls_from t

  -- the deliveries' numbers and one free slot
  abbrev pub slots : ℕ → List ℕ
  slots at = column_at 34 at m t ++ 0 ∷ []

  -- and days that are all 0
  abbrev pub week_at : Week
  week_at = week_in t (slices_of (slots 91) (slots 102) (slots 113) (replicate (m + 1) 0))

  abbrev prices3 : List ℕ
  prices3 = column_at 11 0 3 t

  abbrev limits2 : List ℕ
  limits2 = column_at 11 34 2 t

  abbrev sizes3 : List ℕ
  sizes3 = column_at 11 57 3 t

  abbrev ds3 : List (List ℕ)
  ds3 = rows_at 3 m 91 t

  abbrev left : Bool
  left = leb (length t) (a + 56 * q)

  abbrev made : List (List ℕ) → List Call → Week
  made ds cs = record {
    card = prices (nth 0 prices3) (nth 1 prices3) (nth 2 prices3);
    limit = limits (nth 0 limits2) (nth 1 limits2);
    set = set_of (nth 0 sizes3) m ds;
    calls = cs;
  }

  abbrev ended : List (List ℕ) → List ℕ → List Call → Option Week
  ended ds rest cs = only_if (eqb (length rest) 0) (made ds cs)

  made_is : made ds3 (calls_at q a t) ≡ week_at
  unfolding column_at
  made_is =
      let l : length ds3 ≡ m = length-rows t 3 m 91 in
      rw (column_of_lem t 3 0 (omega arith) m 91, column_of_lem t 3 1 (omega arith) m 91, column_of_lem t 3 2 (omega arith) m 91, l)

  ending : ended ds3 (drop (a + 56 * q) t) (calls_at q a t) ≡ only_if left week_at
  ending = rw (nothing_left t (a + 56 * q)) (ap (only_if left) made_is)

  -- the calls, from the definition's two tests to one of each line
  abbrev with_calls : List (List ℕ) → Taken (List (List ℕ)) → Option Week
  with_calls ds qs = and_then (calls_of qs.value) (λ cs. ended ds qs.rest cs)

  calls-part : and_then (take_lines q 5 (drop a t)) (with_calls ds3) ≡ only_if (calls_ok q a t && left) week_at
  calls-part =
      let rs : List (List ℕ) = rows_at 5 q a t in
      let end : List ℕ = drop (a + 56 * q) t in
      chain (take_lines q 5 (drop a t)) (lines_ok 5 q a t) (taken rs end) (with_calls ds3) (are_calls t rs && left) week_at (lines_at t q 5 a)
      (chain (calls_of rs) (are_calls t rs) (calls_at q a t) (λ cs. ended ds3 end cs) left week_at (calls_form t q a) ending)
      ∙ ap (λ (b : Bool). only_if b week_at) (sym (and_assoc (lines_ok 5 q a t) (are_calls t rs) left) ∙ ap (λ (b : Bool). b && left) (sym (calls_are t q a)))

  abbrev rest_ok : Bool
  rest_ok = lines_ok 3 m 91 t && (calls_ok q a t && left)

  abbrev with_deliveries : Taken (List (List ℕ)) → Option Week
  with_deliveries ds = and_then (take_lines q 5 ds.rest) (with_calls ds.value)

  deliveries_part : and_then (take_lines m 3 (drop 91 t)) with_deliveries ≡ only_if rest_ok week_at
  deliveries_part = chain (take_lines m 3 (drop 91 t)) (lines_ok 3 m 91 t) (taken ds3 (drop a t)) with_deliveries (calls_ok q a t && left) week_at (lines_at t m 3 91) calls-part

  sizes_at : take_sizes (drop 57 t) ≡ only_if (line_ok 3 57 t && sizes_ok m q) (taken sizes3 (drop 91 t))
  unfolding take_sizes column_at
  sizes_at =
      chain (take_line 3 (drop 57 t)) (line_ok 3 57 t) (taken sizes3 (drop 91 t)) (λ (n : Taken (List ℕ)). only_if (sizes_ok (nth 1 n.value) (nth 2 n.value)) n)
      (sizes_ok m q) (taken sizes3 (drop 91 t)) (line_at t 3 57) refl

  -- the chain as read_week has it
  abbrev with_sizes : Taken (List ℕ) → Taken (List ℕ) → Taken (List ℕ) → Option Week
  with_sizes p l n =
      and_then (take_lines (nth 1 n.value) 3 n.rest) (λ ds.
      and_then (take_lines (nth 2 n.value) 5 ds.rest) (λ qs.
      and_then (calls_of qs.value) (λ cs.
      only_if (eqb (length qs.rest) 0) (record {
        card = prices (nth 0 p.value) (nth 1 p.value) (nth 2 p.value);
        limit = limits (nth 0 l.value) (nth 1 l.value);
        set = set_of (nth 0 n.value) (nth 1 n.value) ds.value;
        calls = cs;
      }))))

  abbrev p₁ : Taken (List ℕ)
  p₁ = taken prices3 (drop 34 t)

  abbrev l₁ : Taken (List ℕ)
  l₁ = taken limits2 (drop 57 t)

  abbrev n₁ : Taken (List ℕ)
  n₁ = taken sizes3 (drop 91 t)

  sized_part : with_sizes p₁ l₁ n₁ ≡ only_if rest_ok week_at
  unfolding column_at
  sized_part = deliveries_part

  abbrev sizes_then : Bool
  sizes_then = line_ok 3 57 t && sizes_ok m q && rest_ok

  week_read : read_week t ≡ only_if (week_ok t) week_at
  unfolding read_week week_ok head_ok
  week_read =
      chain (take_line 3 t) (line_ok 3 0 t) p₁ (λ (p : Taken (List ℕ)). and_then (take_line 2 p.rest) (λ (l : Taken (List ℕ)). and_then (take_sizes l.rest) (with_sizes p l)))
      (line_ok 2 34 t && sizes_then) week_at (line_at t 3 0)
      (chain (take_line 2 (drop 34 t)) (line_ok 2 34 t) l₁ (λ (l : Taken (List ℕ)). and_then (take_sizes l.rest) (with_sizes p₁ l)) sizes_then week_at (line_at t 2 34)
      (chain (take_sizes (drop 57 t)) (line_ok 3 57 t && sizes_ok m q) n₁ (with_sizes p₁ l₁) rest_ok week_at sizes_at sized_part))
      ∙ ap (λ (b : Bool). only_if b week_at) (group (line_ok 3 0 t) (line_ok 2 34 t) (line_ok 3 57 t) (sizes_ok m q) rest_ok)

  pub layplan_bad : week_ok t ≡ false → layplan t ≡ refusal_text 14
  unfolding layplan
  layplan_bad e = rw (week_read, e)

  pub layplan_good : week_ok t ≡ true → layplan t ≡ week_text week_at
  unfolding layplan
  layplan_good e = rw (week_read, e)

-- The tests of an input, one after the other.

module _ (t : List ℕ) where
  pub no_prices : line_ok 3 0 t ≡ false → head_ok t ≡ false
  unfolding head_ok
  no_prices e = rw e

  module _ (h₁ : line_ok 3 0 t ≡ true) where
    pub no_limits : line_ok 2 34 t ≡ false → head_ok t ≡ false
    unfolding head_ok
    no_limits e = rw (h₁, e)

    module _ (h₂ : line_ok 2 34 t ≡ true) where
      pub no_sizes : line_ok 3 57 t ≡ false → head_ok t ≡ false
      unfolding head_ok
      no_sizes e = rw (h₁, h₂, e)

      pub head_found : (ns : List ℕ) → Ok ns ≡ line_found 3 57 t → (b : Bool) → b ≡ sizes_ok (get_or ns 1 0) (get_or ns 2 0) → text_checked b ≡ text_checked (head_ok t)
      unfolding head_ok
      head_found ns f b e =
          let k : head_ok t ≡ sizes_ok (used_in t) (count_in t) = rw (h₁, h₂, found_line 3 57 t ns f) in
          ap text_checked (e ∙ ap₂ sizes_ok (found_number 3 57 t ns f 1 (omega arith)) (found_number 3 57 t ns f 2 (omega arith)) ∙ sym k)

  -- past the first three lines
  pub no_head : head_ok t ≡ false → week_ok t ≡ false
  unfolding week_ok
  no_head e = rw e

  module _ (h₁ : head_ok t ≡ true) (m q : ℕ) (f : m ≡ used_in t) (g : q ≡ count_in t) where
    abbrev week_with : ℕ → ℕ → Bool
    week_with m q = lines_ok 3 m 91 t && (calls_ok q (91 + 34 * m) t && leb (length t) (91 + 34 * m + 56 * q))

    with_these : week_ok t ≡ week_with m q
    unfolding week_ok
    with_these = rw h₁ (ap₂ week_with (sym f) (sym g))

    pub no_deliveries : lines_ok 3 m 91 t ≡ false → week_ok t ≡ false
    no_deliveries e = with_these ∙ rw e

    module _ (h₂ : lines_ok 3 m 91 t ≡ true) where
      pub no_calls : calls_ok q (91 + 34 * m) t ≡ false → week_ok t ≡ false
      no_calls e = with_these ∙ rw (h₂, e)

      pub week_decided : calls_ok q (91 + 34 * m) t ≡ true → (b : Bool) → leb (length t) (91 + 34 * m + 56 * q) ≡ b → text_checked b ≡ text_checked (week_ok t)
      week_decided h₃ b e =
          let k : week_with m q ≡ leb (length t) (91 + 34 * m + 56 * q) = rw (h₂, h₃) in
          ap text_checked (sym (with_these ∙ k ∙ e))

-- What a good input's first three lines are, and its other lines.

pub record Head (t : List ℕ) : Type 0 where
  pub random : T (field_ok 0 t)
  pub sequential : T (field_ok 11 t)
  pub written : T (field_ok 22 t)
  pub read : T (field_ok 34 t)
  pub insert : T (field_ok 45 t)
  pub block : T (field_ok 57 t)
  pub used : T (field_ok 68 t)
  pub count : T (field_ok 79 t)
  pub few : used_in t ≤ most_deliveries
  pub calls : count_in t ≤ most_calls

pub fields_three : (t : List ℕ) (at : ℕ) → T (line_ok 3 at t) → T (field_ok at t) × T (field_ok (at + 11) t) × T (field_ok (at + 11 + 11) t)
fields_three t at o =
    let p = later_fields t 2 at o in
    (first_field t 2 at o, first_field t 1 (at + 11) p, first_field t 0 (at + 11 + 11) (later_fields t 1 (at + 11) p))

pub head : (t : List ℕ) → T (head_ok t) → Head t
unfolding head_ok sizes_ok
head t o =
    let a = line_ok 3 0 t in
    let b = line_ok 2 34 t in
    let c = line_ok 3 57 t in
    let d = sizes_ok (used_in t) (count_in t) in
    let p = fields_three t 0 (and_fst a (b && (c && d)) o) in
    let x = and_snd a (b && (c && d)) o in
    let l = and_fst b (c && d) x in
    let n = fields_three t 57 (and_fst c d (and_snd b (c && d) x)) in
    let k = and_snd c d (and_snd b (c && d) x) in
    let few = leb 1 (used_in t) && leb (used_in t) most_deliveries in
    record {
      random = p.0;
      sequential = p.1;
      written = p.2;
      read = first_field t 1 34 l;
      insert = first_field t 0 45 (later_fields t 1 34 l);
      block = n.0;
      used = n.1;
      count = n.2;
      few = leb→le _ _ (and_snd (leb 1 (used_in t)) (leb (used_in t) most_deliveries) (and_fst few (leb (count_in t) most_calls) k));
      calls = leb→le _ _ (and_snd few (leb (count_in t) most_calls) k);
    }

pub record Good (t : List ℕ) : Type 0 where
  pub first : T (head_ok t)
  pub deliveries : T (lines_ok 3 (used_in t) 91 t)
  pub calls : T (calls_ok (count_in t) (calls_from t) t)
  pub long : length t ≤ calls_from t + 56 * count_in t

pub good : (t : List ℕ) → T (week_ok t) → Good t
unfolding week_ok
good t o =
    let a = head_ok t in
    let b = lines_ok 3 (used_in t) 91 t in
    let c = calls_ok (count_in t) (calls_from t) t in
    let d = leb (length t) (calls_from t + 56 * count_in t) in
    let x = and_snd a (b && (c && d)) o in
    let y = and_snd b (c && d) x in
    record { first = and_fst a (b && (c && d)) o; deliveries = and_fst b (c && d) x; calls = and_fst c d y; long = leb→le _ _ (and_snd c d y) }

-- The longest input has 90,907 bytes: what is longer is refused, and so is its front of 90,908 bytes.

too_long : (t : List ℕ) → 90907 < length t → layplan t ≡ refusal_text 14
too_long t h = go (week_ok t) refl
  where
    go : (b : Bool) → week_ok t ≡ b → layplan t ≡ refusal_text 14
    go true e =
        let w = good t (of_true _ e) in
        let s = head t w.first in
        absurd (omega (arith, s.few, s.calls, w.long))
    go false e = layplan_bad t e

pub cut_short : (t : List ℕ) → layplan (take 90908 t) ≡ layplan t
cut_short t = go (leb (length t) 90908) refl
  where
    go : (b : Bool) → leb (length t) 90908 ≡ b → layplan (take 90908 t) ≡ layplan t
    go true e = ap layplan (take_all 90908 t (leb→le (length t) 90908 (of_true _ e)))
    go false e =
        let h : 90908 < length t = leb_no (length t) 90908 e in
        too_long (take 90908 t) (omega (arith, length-take-le 90908 t (omega arith))) ∙ sym (too_long t (omega arith))
