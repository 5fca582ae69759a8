-- The calls of an input, judged and then recorded by their kinds. Assumes nothing.
use Prim.Native.Nat.{ℕ, zero, suc, ◌+◌, ◌-◌, ◌*◌, ◌≤◌, ◌<◌}
use mathlib.Core.Path.{◌≡◌, refl, sym, ap, ap₂, ◌∙◌, subst}
use mathlib.Core.Logic.{◌≢◌}
use mathlib.Core.Bool.{Bool, true, false, cond, ◌&&◌}
use mathlib.Core.Option.{Option, none, some}
use lib.Bits.{bit_or, or_add_and, and_le_r}
use Rattle.std.specs.Int.Bits.{or_zero_l}
use Rattle.std.specs.Bool.{then_some}
use Rattle.std.specs.Option.{ok_or}
use Rattle.std.specs.Result.{IsErrAnd}
use Rattle.std.specs.Prelude.{Option as Maybe, Some, None, Err}
use Rattle.model.specs.declared.refusal.Refusal.TheVariants.{Text}
use Rattle.model.specs.Fields.{nth}
use Rattle.layplan_text.specs.declared.Call.{Call as CodeCall}
use mathlib.Core.List.{List, [], ◌∷◌}
use native.Mathlib.Omega.{arith}
use borrow.Author.Tests.{eq-eqb, ne_eqb}
use lib.Dec.{T, eqb, eqb→eq}
use lib.ListN.{length}
use Rattle.model.specs.Bounds.{block_limit}
use Rattle.model.specs.Lists.{every, only_if, and_then, is_some}
use Rattle.model.specs.Blocks.{Set}
use Rattle.model.specs.Deliveries.{delivery}
use Rattle.model.specs.Calls.{Call, find, range, insert, delete, move}
use Rattle.model.specs.Recorder.{Recorded, record_call}
use Rattle.model.specs.Program.{call_of, calls_of, record_until_refused}
use Rattle.model.proofs.Tests.{and_fst, and_snd, of_true, eqb_no, pairs_swap}
use Rattle.fields.specs.Reading.{field_ok, value_at}
use Rattle.std.specs.Prelude.{Result, Ok}
use Rattle.model.specs.declared.refusal.Refusal.{Refusal}
use Rattle.lines.specs.Lines.{line_found, column_at, line_ok, lines_ok, rows_at}
use Rattle.lines.proofs.Forms.{both}
use Rattle.lines.proofs.Reading.{found_line, found_numbers, unmet, passed_on, Judge}
use Rattle.layplan_text.specs.Week.{call_by, calls_at, call_ok, calls_ok, call_given, call_said, call_told, call_found}

-- The code's call of five numbers.

or_zero : (a b : ℕ) → eqb (bit_or a b) 0 ≡ eqb a 0 && eqb b 0
or_zero zero b = ap (λ (n : ℕ). eqb n 0) (or_zero_l b)
or_zero (suc a) b = ne_eqb (bit_or (suc a) b) 0 (λ e. omega (arith, or_add_and (suc a) b, and_le_r (suc a) b)) ∙ sym (ap (λ (t : Bool). t && eqb b 0) (ne_eqb (suc a) 0 (λ e. omega arith)))

said : (x : Bool) (v : CodeCall) → call_said (then_some x v) ≡ cond x (some (call_given v)) none
said true v = refl
said false v = refl

-- a call where what is unused is 0, and else none
said_by : {o : Maybe CodeCall} {u v : ℕ} (x : CodeCall) {y : Call} → u ≡ v → call_given x ≡ y → o ≡ then_some (eqb u 0) x → call_said o ≡ cond (eqb v 0) (some y) none
said_by {u = u} x e j q = ap call_said q ∙ said (eqb u 0) x ∙ ap₂ (λ (n : ℕ) (w : Call). cond (eqb n 0) (some w) none) e j

module _ (ns : List ℕ) where
  abbrev a : ℕ
  a = nth 1 ns

  abbrev b : ℕ
  b = nth 2 ns

  abbrev c : ℕ
  c = nth 3 ns

  abbrev d : ℕ
  d = nth 4 ns

  -- by kinds
  pub by_find : nth 0 ns ≡ 1 → find a ≡ call_by ns
  unfolding call_by
  by_find e = rw e

  pub by_range : nth 0 ns ≡ 2 → range a b ≡ call_by ns
  unfolding call_by
  by_range e = rw e

  pub by_insert : nth 0 ns ≡ 3 → insert (delivery a b c 0) ≡ call_by ns
  unfolding call_by
  by_insert e = rw e

  pub by_delete : nth 0 ns ≡ 4 → delete (delivery a b c 0) ≡ call_by ns
  unfolding call_by
  by_delete e = rw e

  pub by_move : nth 0 ns ≢ 1 → nth 0 ns ≢ 2 → nth 0 ns ≢ 3 → nth 0 ns ≢ 4 → move (delivery a b c 0) d ≡ call_by ns
  unfolding call_by
  by_move p q r s = rw (ne_eqb _ 1 p, ne_eqb _ 2 q, ne_eqb _ 3 r, ne_eqb _ 4 s)

  by_five : nth 0 ns ≡ 5 → move (delivery a b c 0) d ≡ call_by ns
  by_five e = by_move (λ z. omega arith) (λ z. omega arith) (λ z. omega arith) (λ z. omega arith)

  module _ {o : Maybe CodeCall} {u : ℕ} (x : CodeCall) (j : call_given x ≡ call_by ns) (q : o ≡ then_some (eqb u 0) x) where
    pub said_find : nth 0 ns ≡ 1 → u ≡ bit_or (bit_or b c) d → call_said o ≡ call_of ns
    unfolding call_of
    said_find e i =
        let z : eqb (bit_or (bit_or b c) d) 0 ≡ eqb b 0 && eqb c 0 && eqb d 0 = or_zero (bit_or b c) d ∙ ap (λ (t : Bool). t && eqb d 0) (or_zero b c) in
        said_by x i (j ∙ sym (by_find e)) q ∙ rw (e, z)

    pub said_range : nth 0 ns ≡ 2 → u ≡ bit_or c d → call_said o ≡ call_of ns
    unfolding call_of
    said_range e i = said_by x i (j ∙ sym (by_range e)) q ∙ rw (e, or_zero c d)

    pub said_insert : nth 0 ns ≡ 3 → u ≡ d → call_said o ≡ call_of ns
    unfolding call_of
    said_insert e i = said_by x i (j ∙ sym (by_insert e)) q ∙ rw e

    pub said_delete : nth 0 ns ≡ 4 → u ≡ d → call_said o ≡ call_of ns
    unfolding call_of
    said_delete e i = said_by x i (j ∙ sym (by_delete e)) q ∙ rw e

    pub said_move : nth 0 ns ≡ 5 → u ≡ 0 → call_said o ≡ call_of ns
    unfolding call_of
    said_move e i = said_by x i (j ∙ sym (by_five e)) q ∙ rw e

  pub said_none : nth 0 ns ≢ 1 → nth 0 ns ≢ 2 → nth 0 ns ≢ 3 → nth 0 ns ≢ 4 → nth 0 ns ≢ 5 → none ≡ call_of ns
  unfolding call_of
  said_none p q r s t = rw (ne_eqb _ 1 p, ne_eqb _ 2 q, ne_eqb _ 3 r, ne_eqb _ 4 s, ne_eqb _ 5 t)

-- A call by its kind.

decided : {P : Type 0} (m n : ℕ) → (m ≡ n → P) → (m ≢ n → P) → P
decided {P} m n same other = go (eqb m n) refl
  where
    go : (x : Bool) → eqb m n ≡ x → P
    go true e = same (eqb→eq m n (of_true _ e))
    go false e = other (eqb_no m n e)

cond_form : {A : Type 0} (x : Bool) (v : A) → cond x (some v) none ≡ only_if (is_some (cond x (some v) none)) v
cond_form true v = refl
cond_form false v = refl

only_form : {A : Type 0} (x : Bool) (v : A) → only_if x v ≡ only_if (is_some (only_if x v)) v
only_form true v = refl
only_form false v = refl

module _ (k a b c d : ℕ) where
  abbrev ns : List ℕ
  ns = k ∷ a ∷ b ∷ c ∷ d ∷ []

  abbrev Form : Type 0
  Form = call_of ns ≡ only_if (is_some (call_of ns)) (call_by ns)

  form_1 : k ≡ 1 → Form
  unfolding call_of call_by
  form_1 e = rw e (cond_form (eqb b 0 && eqb c 0 && eqb d 0) (find a))

  form_2 : k ≡ 2 → Form
  unfolding call_of call_by
  form_2 e = rw e (cond_form (eqb c 0 && eqb d 0) (range a b))

  form_3 : k ≡ 3 → Form
  unfolding call_of call_by
  form_3 e = rw e (cond_form (eqb d 0) (insert (delivery a b c 0)))

  form_4 : k ≡ 4 → Form
  unfolding call_of call_by
  form_4 e = rw e (cond_form (eqb d 0) (delete (delivery a b c 0)))

  form_5 : k ≢ 1 → k ≢ 2 → k ≢ 3 → k ≢ 4 → Form
  unfolding call_of call_by
  form_5 p q r s = rw (ne_eqb k 1 p, ne_eqb k 2 q, ne_eqb k 3 r, ne_eqb k 4 s) (only_form (eqb k 5) (move (delivery a b c 0) d))

  call_form : Form
  call_form = decided k 1 form_1 (λ p. decided k 2 form_2 (λ q. decided k 3 form_3 (λ r. decided k 4 form_4 (λ s. form_5 p q r s))))

-- The fields of a good line of five.

pub first_field : (t : List ℕ) (n at : ℕ) → T (line_ok (suc n) at t) → T (field_ok at t)
unfolding line_ok
first_field t n at o = and_fst (field_ok at t) (line_ok n (at + 11) t) o

pub later_fields : (t : List ℕ) (n at : ℕ) → T (line_ok (suc n) at t) → T (line_ok n (at + 11) t)
unfolding line_ok
later_fields t n at o = and_snd (field_ok at t) (line_ok n (at + 11) t) o

pub record FiveFields (t : List ℕ) (at : ℕ) : Type 0 where
  pub kind : T (field_ok at t)
  pub first : T (field_ok (at + 11) t)
  pub second : T (field_ok (at + 11 + 11) t)
  pub third : T (field_ok (at + 11 + 11 + 11) t)
  pub fourth : T (field_ok (at + 11 + 11 + 11 + 11) t)

pub five_fields : (t : List ℕ) (at : ℕ) → T (line_ok 5 at t) → FiveFields t at
five_fields t at o =
    let o4 = later_fields t 4 at o in
    let o3 = later_fields t 3 _ o4 in
    let o2 = later_fields t 2 _ o3 in
    let o1 = later_fields t 1 _ o2 in
    record { kind = first_field t 4 at o; first = first_field t 3 _ o4; second = first_field t 2 _ o3; third = first_field t 1 _ o2; fourth = first_field t 0 _ o1 }

-- One call's line.

module _ (at : ℕ) (t : List ℕ) where
  pub no_call : line_ok 5 at t ≡ false → call_ok at t ≡ false
  unfolding call_ok
  no_call e = rw e

module _ (t : List ℕ) where
  -- the five numbers of a line
  pub five : (at : ℕ) → column_at 11 at 5 t
      ≡ value_at at t ∷ value_at (at + 11) t ∷ value_at (at + 11 + 11) t ∷ value_at (at + 11 + 11 + 11) t ∷ value_at (at + 11 + 11 + 11 + 11) t ∷ []
  unfolding column_at
  five at = refl

  line_form : (at : ℕ) → call_of (column_at 11 at 5 t) ≡ only_if (is_some (call_of (column_at 11 at 5 t))) (call_by (column_at 11 at 5 t))
  unfolding column_at
  line_form at = call_form (value_at at t) (value_at (at + 11) t) (value_at (at + 11 + 11) t) (value_at (at + 11 + 11 + 11) t) (value_at (at + 11 + 11 + 11 + 11) t)

  -- The code's call of the line at a byte.

  told : (x : Bool) (v : Call) (o : Maybe CodeCall) → call_said o ≡ only_if x v → call_told (ok_or o Text) ≡ cond x (Ok v) (Err Text)
  told true v (Some w) e = ap Ok (let z : call_given w ≡ v = cc in z)
  told true v None e = absurd (let z : ⊥ = cc in z)
  told false v (Some w) e = absurd (let z : ⊥ = cc in z)
  told false v None e = refl

  module _ (at : ℕ) (r : Result CodeCall Refusal) where
    pub call_read : {ns : List ℕ} (o : Maybe CodeCall) → Ok ns ≡ line_found 5 at t → call_said o ≡ call_of ns → r ≡ ok_or o Text → call_told r ≡ call_found at t
    unfolding call_ok
    call_read {ns} o f e q =
        ap call_told q ∙ told (is_some (call_of (column_at 11 at 5 t))) (call_by (column_at 11 at 5 t)) o (e ∙ ap call_of (found_numbers 5 at t ns f) ∙ line_form at)
        ∙ rw (found_line 5 at t ns f)

    pub call_not_read : {x : Refusal} → IsErrAnd r (λ y. y ≡ x) → Err x ≡ line_found 5 at t → call_told r ≡ call_found at t
    call_not_read {x} q e = let m = unmet (line_ok 5 at t) (column_at 11 at 5 t) e in ap call_told (passed_on r x q) ∙ ap Err m.1 ∙ sym (rw (no_call at t m.0))

  -- Calls one after the other.

  abbrev pub are_calls : List (List ℕ) → Bool
  are_calls rs = every (λ (ns : List ℕ). is_some (call_of ns)) rs

  pub calls_form : (q at : ℕ) → calls_of (rows_at 5 q at t) ≡ only_if (are_calls (rows_at 5 q at t)) (calls_at q at t)
  unfolding calls_of rows_at calls_at every
  calls_form zero at = refl
  calls_form (suc q) at =
      let ns : List ℕ = column_at 11 at 5 t in
      let rs : List (List ℕ) = rows_at 5 q (at + 56) t in
      ap (λ (o : Option Call). and_then o (λ c. and_then (calls_of rs) (λ cs. some (c ∷ cs)))) (line_form at)
      ∙ both (is_some (call_of ns)) (are_calls rs) (call_by ns) (λ (c : Call). and_then (calls_of rs) (λ cs. some (c ∷ cs))) (call_by ns ∷ calls_at q (at + 56) t)
      (ap (λ (o : Option (List Call)). and_then o (λ cs. some (call_by ns ∷ cs))) (calls_form q (at + 56)) ∙ go (call_by ns) (calls_at q (at + 56) t) (are_calls rs))
    where
      go : (c : Call) (l : List Call) (x : Bool) → and_then (only_if x l) (λ (cs : List Call). some (c ∷ cs)) ≡ only_if x (c ∷ l)
      go c l true = refl
      go c l false = refl

  -- q calls' lines: the lines are good, and each is a call
  pub calls_are : (q at : ℕ) → calls_ok q at t ≡ lines_ok 5 q at t && are_calls (rows_at 5 q at t)
  unfolding calls_ok call_ok lines_ok rows_at every
  calls_are zero at = refl
  calls_are (suc q) at =
      let x : Bool = is_some (call_of (column_at 11 at 5 t)) in
      ap (λ (b : Bool). line_ok 5 at t && x && b) (calls_are q (at + 56))
      ∙ pairs_swap (line_ok 5 at t) x (lines_ok 5 q (at + 56) t) (are_calls (rows_at 5 q (at + 56) t))

-- Calls judged one after the other.

pub calls_judge : (t : List ℕ) → Judge (λ e. call_ok e t) (λ k e. calls_ok k e t) 56
unfolding calls_ok
calls_judge t = record { none = λ at. refl; more = λ k at. refl }

-- the next line, and those behind it
calls_more : (t : List ℕ) (q i e : ℕ) → i < q → calls_ok (q - i) e t ≡ call_ok e t && calls_ok (q - (i + 1)) (e + 56) t
calls_more t q i e h = let z : q - i ≡ suc (q - (i + 1)) = omega arith in rw z ((calls_judge t).more (q - (i + 1)) e)

-- Calls recorded one after the other.

pub record RecordsLeft (t : List ℕ) (at q : ℕ) (s : Set) (h₀ h : List ℕ) (i e : ℕ) : Type 0 where
  pub left : i ≤ q
  pub at-line : e ≡ at + 56 * i
  pub size : length h ≡ length h₀
  pub work : record_until_refused s h₀ (calls_at q at t) ≡ record_until_refused s h (calls_at (q - i) e t)
  pub ahead : T (calls_ok (q - i) e t)

abbrev answered : ℕ → List ℕ → Recorded
answered n h = record { refusal = n; histograms = h }

pub records_start : (t : List ℕ) (at q : ℕ) (s : Set) (h : List ℕ) → T (calls_ok q at t) → RecordsLeft t at q s h h 0 at
records_start t at q s h o =
    let z : q - 0 ≡ q = omega arith in
    record { left = omega arith; at-line = omega arith; size = refl; work = ap (λ (k : ℕ). record_until_refused s h (calls_at k at t)) (sym z); ahead = rw z o }

module _ {t : List ℕ} {at q : ℕ} {s : Set} {h₀ h : List ℕ} {i e : ℕ} (l : i < q) (w : RecordsLeft t at q s h₀ h i e) where
  these : T (call_ok e t && calls_ok (q - (i + 1)) (e + 56) t)
  these = subst T (calls_more t q i e l) w.ahead

  pub next_line : T (line_ok 5 e t)
  unfolding call_ok
  next_line = and_fst (line_ok 5 e t) (is_some (call_of (column_at 11 e 5 t))) (and_fst (call_ok e t) (calls_ok (q - (i + 1)) (e + 56) t) these)

  one_record : (r : Recorded) → r ≡ record_call block_limit s h (call_by (column_at 11 e 5 t))
      → record_until_refused s h₀ (calls_at q at t) ≡ cond (eqb r.refusal 0) (record_until_refused s r.histograms (calls_at (q - (i + 1)) (e + 56) t)) r
  unfolding record_until_refused calls_at
  one_record r f = let z : q - i ≡ suc (q - (i + 1)) = omega arith in w.work ∙ rw (z, ← f)

  module _ (n : ℕ) (h' : List ℕ) (f : answered n h' ≡ record_call block_limit s h (call_by (column_at 11 e 5 t))) where
    pub records_stop : n ≢ 0 → answered n h' ≡ record_until_refused s h₀ (calls_at q at t)
    records_stop z = sym (one_record (answered n h') f ∙ rw (ne_eqb n 0 z))

    pub records_next : n ≡ 0 → length h' ≡ length h → RecordsLeft t at q s h₀ h' (i + 1) (e + 56)
    records_next z g = record {
      left = omega arith;
      at-line = omega (arith, w.at-line);
      size = g ∙ w.size;
      work = one_record (answered n h') f ∙ rw (eq-eqb n 0 z);
      ahead = and_snd (call_ok e t) (calls_ok (q - (i + 1)) (e + 56) t) these;
    }

pub records_end : {t : List ℕ} {at q : ℕ} {s : Set} {h₀ h : List ℕ} {i e : ℕ} → q ≤ i → RecordsLeft t at q s h₀ h i e
    → answered 0 h ≡ record_until_refused s h₀ (calls_at q at t)
unfolding record_until_refused calls_at
records_end {t} {at} {q} {s} {h₀} {h} {i} {e} l w = let z : q - i ≡ 0 = omega arith in sym (w.work ∙ rw z)

-- The call at a byte, number by number.

module _ (t : List ℕ) (at : ℕ) {k a b c d : ℕ} where
  pub these_numbers : k ≡ value_at at t → a ≡ value_at (at + 11) t → b ≡ value_at (at + 11 + 11) t → c ≡ value_at (at + 11 + 11 + 11) t
      → d ≡ value_at (at + 11 + 11 + 11 + 11) t → call_by (k ∷ a ∷ b ∷ c ∷ d ∷ []) ≡ call_by (column_at 11 at 5 t)
  these_numbers e₀ e₁ e₂ e₃ e₄ = rw (five t at, e₀, e₁, e₂, e₃, e₄)
