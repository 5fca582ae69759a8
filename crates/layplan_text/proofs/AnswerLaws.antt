-- Recording, planning and the whole program, in the terms of the input. Assumes nothing.
use Prim.Native.Nat.{ℕ, zero, suc, ◌+◌, ◌*◌, ◌≤◌, ◌<◌}
use mathlib.Core.Path.{◌≡◌, refl, sym, ap, ◌∙◌}
use mathlib.Core.Logic.{◌≢◌}
use mathlib.Core.Bool.{true}
use mathlib.Core.List.{List, [], ◌∷◌, ◌++◌}
use native.Mathlib.Omega.{arith}
use borrow.Author.Tests.{eq-eqb, ne_eqb}
use lib.Dec.{T}
use lib.ListN.{length, take, drop, replicate, length-append, length-drop, length-replicate, get_or-replicate}
use lib.Seq.{drop-cons, take-append-add, length-take-le}
use lib.IntN.{ℤ}
use mir.Syntax.{w64}
use mir.Val.{SFits, to_z, of_z}
use Rattle.model.specs.declared.PriceCard.{PriceCard}
use Rattle.model.specs.declared.Limits.{Limits}
use Rattle.model.specs.declared.Planned.{Planned}
use Rattle.model.specs.Bounds.{block_limit, most_deliveries, most_calls}
use Rattle.model.specs.Histograms.{zeros}
use Rattle.model.specs.Recorder.{Recorded}
use Rattle.model.specs.Planner.{PlanResult, plan_call}
use Rattle.model.specs.Program.{record_until_refused, refusal_text, plan_text, week_text, layplan}
use Rattle.model.proofs.Tests.{of_true}
use Rattle.model.specs.Deliveries.{Slices, slices_of}
use Rattle.model.specs.Blocks.{Set}
use Rattle.fields.specs.Reading.{value_at}
use Rattle.fields.proofs.Signs.{held}
use Rattle.lines.specs.Lines.{text_checked, column_at, column_ok}
use Rattle.std.specs.Prelude.{Err}
use Rattle.model.specs.declared.refusal.Refusal.{Refusal}
use Rattle.model.specs.Refusals.{refusal_number}
use Rattle.lines.proofs.Reading.{unmet}
use Rattle.lines.proofs.Storing.{length_column, column_ok_lem}
use Rattle.lines.specs.declared.output.Output.{Output}
use Rattle.layplan_text.specs.Week.{calls_at, calls_ok, used_in, week_ok, card_in, limits_in, week_in, plan_in}
use Rattle.layplan_text.specs.Texts.{output_size, output_of, ends_text}
use Rattle.layplan_text.proofs.WeekLaws.{week_at, head, good, layplan_bad, layplan_good}
use Rattle.layplan_text.proofs.EndLaws.{Fitting, fitting, text_refused, text_planned}

-- a set of these sizes and slices
abbrev set-of : ℕ → ℕ → Slices → Set
set-of b m s = record { block = b; used = m; slices = s }

-- Planning.

pub record Prices (t : List ℕ) (p : PriceCard) (l : Limits) : Type 0 where
  pub card : p ≡ card_in t
  pub limit : l ≡ limits_in t

-- L is the block limit
module _ (L : ℕ) {t : List ℕ} (s : Set) (hs out : List ℕ) {p : PriceCard} {l : Limits} (is : Prices t p l) (ans : Planned) (es : List ℕ)
    (q : ◌≡◌ {A = PlanResult} (record { answer = ans; ends = es }) (plan_call L p l s hs out)) where
  in_week : ◌≡◌ {A = PlanResult} (record { answer = ans; ends = es }) (plan_in L t s hs out)
  in_week = rw (is.card, is.limit) at q

  pub plan_refuses : (r : Output output_size) → ans.refusal ≢ 0 → r ≡ output_of (refusal_text ans.refusal) → r ≡ output_of (plan_text (plan_in L t s hs out))
  plan_refuses r h g = g ∙ ap output_of (text_refused ans es h ∙ ap plan_text in_week)

  pub plan_fits : ans.refusal ≡ 0 → Fitting L p l s hs out ans es
  plan_fits h = fitting L p l s hs out ans es q h

  pub plan_few : ans.refusal ≡ 0 → length (take ans.count es) ≤ L
  plan_few h = let w = plan_fits h in omega (arith, length-take-le ans.count es w.count_in, w.count_few)

  pub plan_prints : (r : Output output_size) → ans.refusal ≡ 0 → SFits w64 ans.cost → r ≡ output_of (ends_text (to_z w64 (of_z w64 ans.cost)) (take ans.count es))
      → r ≡ output_of (plan_text (plan_in L t s hs out))
  plan_prints r h k g =
      g ∙ ap output_of (ap (λ (z : ℤ). ends_text z (take ans.count es)) (held ans.cost k) ∙ text_planned ans es h (plan_fits h).count_in ∙ ap plan_text in_week)

-- Recording.

pub record Sizes (t : List ℕ) (f m q : ℕ) : Type 0 where
  pub block : f ≡ value_at 57 t
  pub used : m ≡ value_at 68 t
  pub count : q ≡ value_at 79 t

module _ {t : List ℕ} {f m q : ℕ} (is : Sizes t f m q) (ok : T (week_ok t)) where
  pub calls_start : 91 + 34 * m ≤ 100000
  calls_start = omega (arith, is.used, (head t (good t ok).first).few)

  pub calls_few : q ≤ most_calls
  calls_few = omega (arith, is.count, (head t (good t ok).first).calls)

  pub calls_good : T (calls_ok q (91 + 34 * m) t)
  calls_good = rw (is.used, is.count) (good t ok).calls

module _ {t : List ℕ} (s : Slices) {f m q : ℕ} (is : Sizes t f m q) (n : ℕ) (h : List ℕ)
    (e : ◌≡◌ {A = Recorded} (record { refusal = n; histograms = h }) (record_until_refused (set-of f m s) (zeros block_limit) (calls_at q (91 + 34 * m) t))) where
  recorded : ◌≡◌ {A = Recorded} (record { refusal = n; histograms = h }) (record_until_refused (week_in t s).set (zeros block_limit) (week_in t s).calls)
  recorded = rw (is.block, is.used, is.count) at e

  refused_text : n ≢ 0 → refusal_text n ≡ week_text (week_in t s)
  unfolding week_text
  refused_text z = rw (← recorded, ne_eqb n 0 z)

  planned_text : n ≡ 0 → plan_text (plan_in block_limit t (set-of f m s) h (replicate block_limit 0)) ≡ week_text (week_in t s)
  unfolding week_text
  planned_text z = rw (← recorded, eq-eqb n 0 z, is.block, is.used)

  pub answer_refused : (r : Output output_size) → n ≢ 0 → r ≡ output_of (refusal_text n) → r ≡ output_of (week_text (week_in t s))
  answer_refused r z g = g ∙ ap output_of (refused_text z)

  pub answer-planned : (r : Output output_size) → n ≡ 0 → r ≡ output_of (plan_text (plan_in block_limit t (set-of f m s) h (replicate block_limit 0))) → r ≡ output_of (week_text (week_in t s))
  answer-planned r z g = g ∙ ap output_of (planned_text z)

-- The slices.

abbrev blanks : ℕ → List ℕ
blanks n = replicate n 0

module _ (t : List ℕ) (at m n : ℕ) (h : m < n) (s : List ℕ) (e : s ≡ column_at 34 at m t ++ drop m (blanks n)) where
  stored_length : length s ≡ n
  stored_length = omega (arith, ap length e, length-append (column_at 34 at m t) (drop m (blanks n)), length_column 34 at m t, length-drop m (blanks n), length-replicate {A = ℕ} n 0)

  pub stored_room : m + 1 ≤ length s
  stored_room = omega (arith, stored_length)

  zero_next : drop m (blanks n) ≡ 0 ∷ drop (suc m) (blanks n)
  zero_next = drop-cons (blanks n) m 0 (omega (arith, length-replicate {A = ℕ} n 0)) ∙ ap (λ (x : ℕ). x ∷ drop (suc m) (blanks n)) (get_or-replicate {A = ℕ} n m 0 0 h)

  pub stored : take (m + 1) s ≡ column_at 34 at m t ++ 0 ∷ []
  stored =
      let z : length (column_at 34 at m t) + 1 ≡ m + 1 = omega (arith, length_column 34 at m t) in
      ap (λ (l : List ℕ). take (m + 1) l) (e ∙ ap (λ (l : List ℕ). column_at 34 at m t ++ l) zero_next)
      ∙ ap (λ (k : ℕ). take k (column_at 34 at m t ++ (0 ∷ drop (suc m) (blanks n)))) (sym z)
      ∙ take-append-add (column_at 34 at m t) (0 ∷ drop (suc m) (blanks n)) 1

-- a column stored into the front of blanks
module _ (t : List ℕ) (at m n : ℕ) (h : m < n) where
  pub front_length : m ≡ length (take m (blanks n))
  front_length = sym (length-take-le m (blanks n) (omega (arith, length-replicate {A = ℕ} n 0)))

  pub front_ok : T (column_ok 34 at m t) → T (column_ok 34 at (length (take m (blanks n))) t)
  front_ok k = rw (sym front_length) k

  pub front_stored : (s : List ℕ) → s ≡ column_at 34 at (length (take m (blanks n))) t → s ++ drop m (blanks n) ≡ column_at 34 at m t ++ drop m (blanks n)
  front_stored s e = ap (λ (l : List ℕ). l ++ drop m (blanks n)) (e ∙ ap (λ (k : ℕ). column_at 34 at k t) (sym front_length))

-- the front of zeros
pub zeros_front : (k n : ℕ) → k ≤ n → take k (blanks n) ≡ blanks k
zeros_front zero n h = refl
zeros_front (suc k) zero h = absurd (omega arith)
zeros_front (suc k) (suc n) h = ap (λ (l : List ℕ). 0 ∷ l) (zeros_front k n (omega arith))

-- The program.

pub program_refused : (t : List ℕ) (x : Refusal) (n : ℕ) (r : Output output_size) → Err x ≡ text_checked (week_ok t) → n ≡ refusal_number x → r ≡ output_of (refusal_text n)
    → r ≡ output_of (layplan t)
program_refused t x n r q i g =
    let m = unmet (week_ok t) tt q in
    g ∙ ap (λ (k : ℕ). output_of (refusal_text k)) (i ∙ ap refusal_number m.1) ∙ ap output_of (sym (layplan_bad t m.0))

-- the deliveries of a good input: few, and each number stands
pub record Deliveries (t : List ℕ) (m : ℕ) : Type 0 where
  pub few : m < most_deliveries + 1
  pub growers : T (column_ok 34 91 m t)
  pub weights : T (column_ok 34 102 m t)
  pub yields : T (column_ok 34 113 m t)

module _ (t : List ℕ) (m : ℕ) (ok : week_ok t ≡ true) (em : m ≡ used_in t) where
  pub deliveries : Deliveries t m
  deliveries =
      let g = good t (of_true _ ok) in
      record {
        few = omega (arith, (head t g.first).few);
        growers = rw em (column_ok_lem t 3 0 (omega arith) (used_in t) 91 g.deliveries);
        weights = rw em (column_ok_lem t 3 1 (omega arith) (used_in t) 91 g.deliveries);
        yields = rw em (column_ok_lem t 3 2 (omega arith) (used_in t) 91 g.deliveries);
      }

  module _ (g w y : List ℕ) (eg : g ≡ column_at 34 91 m t ++ drop m (blanks (most_deliveries + 1))) (ew : w ≡ column_at 34 102 m t ++ drop m (blanks (most_deliveries + 1)))
      (ey : y ≡ column_at 34 113 m t ++ drop m (blanks (most_deliveries + 1))) where
    abbrev given : Slices
    given = slices_of (take (m + 1) g) (take (m + 1) w) (take (m + 1) y) (take (m + 1) (blanks (most_deliveries + 1)))

    slots_are : week_in t given ≡ week_at t
    slots_are =
        let n : ℕ = most_deliveries + 1 in
        let k : m < n = deliveries.few in
        rw (stored t 91 m n k g eg, stored t 102 m n k w ew, stored t 113 m n k y ey, zeros_front (m + 1) n (omega arith), em)

    pub program_answers : (r : Output output_size) → r ≡ output_of (week_text (week_in t given)) → r ≡ output_of (layplan t)
    program_answers r q = q ∙ ap output_of (ap week_text slots_are ∙ sym (layplan_good t ok))
