-- A call's answer by its checks: refused by the first "no", or accepted. Assumes nothing.
use Prim.Native.Nat.{ℕ}
use mathlib.Core.Path.{◌≡◌, refl, sym, ◌∙◌}
use mathlib.Core.Bool.{Bool, true, false}
use mathlib.Core.List.{List, [], ◌∷◌, ◌++◌}
use native.Mathlib.Omega.{arith}
use lib.ListN.{length}
use borrow.Author.Tests.{ne_eqb, le-leb}
use Rattle.model.specs.Checks.{Check, ask, first_failed}
use Rattle.model.specs.Calls.{Call, find, range}
use Rattle.model.specs.Blocks.{slices_ok}
use Rattle.model.specs.Directory.{directory_of, directory_block_ok, directory_ok}
use Rattle.model.specs.Column.{Column}
use Rattle.model.specs.Accesses.{call_counts, miss_counts, scan_near}
use Rattle.model.specs.Questions.{lent_checks, call_checks, column_checks}
use Rattle.model.specs.ColumnCalls.{Called, column_refusal, refused_counts, call_totals, column_after, column_call}
use Rattle.std.specs.Prelude.{Err}
use Rattle.model.specs.declared.refusal.Refusal.{Refusal}
use Rattle.model.specs.declared.answers.Refused.{Refused}
use Rattle.model.specs.Refusals.{refusal_number}
use Rattle.model.specs.Answers.{refused_ahead, answer_of}
use Rattle.model.proofs.Refusals.{refusal_some}
use Rattle.column.specs.Answers.{RefusedBy}

-- what follows three checks
three : (p q r : Bool) (cs : List Check) → first_failed (ask 2 p ∷ ask 3 q ∷ ask 6 r ∷ []) ≡ 0 → first_failed (ask 2 p ∷ ask 3 q ∷ ask 6 r ∷ cs) ≡ first_failed cs
unfolding first_failed
three true true true cs h = refl
three true true false cs h = let z : ⊥ = omega arith in absurd z
three true false r cs h = let z : ⊥ = omega arith in absurd z
three false q r cs h = let z : ⊥ = omega arith in absurd z

three_no : (p q r : Bool) (cs : List Check) (n : ℕ) → n ≡ first_failed (ask 2 p ∷ ask 3 q ∷ ask 6 r ∷ []) → (n ≡ 0 → ⊥)
    → (first_failed (ask 2 p ∷ ask 3 q ∷ ask 6 r ∷ cs) ≡ n) × (n ≡ 13 → ⊥)
unfolding first_failed
three_no true true true cs n e h = absurd (h e)
three_no true true false cs n e h = (sym e, λ f. omega arith)
three_no true false r cs n e h = (sym e, λ f. omega arith)
three_no false q r cs n e h = (sym e, λ f. omega arith)

three_yes : (p q r : Bool) (cs : List Check) → first_failed (ask 2 p ∷ ask 3 q ∷ ask 6 r ∷ cs) ≡ 0 → first_failed (ask 2 p ∷ ask 3 q ∷ ask 6 r ∷ []) ≡ 0
unfolding first_failed
three_yes true true true cs h = refl
three_yes true true false cs h = h
three_yes true false r cs h = h
three_yes false q r cs h = h

module _ (L : ℕ) where
  -- 2, 3 and 6 are answered by yes
  pub past_lent : (c : Column) (cs : List Check) → first_failed (lent_checks L c) ≡ 0 → first_failed (lent_checks L c ++ cs) ≡ first_failed cs
  past_lent c cs h = three (directory_block_ok L c.directory) (slices_ok c.slices) (directory_ok L (length c.slices.growers) c.directory) cs h

  module _ (c : Column) (k : Call) where
    pub lent_yes : first_failed (lent_checks L c) ≡ 0 → column_refusal L c k ≡ first_failed (call_checks L c k)
    unfolding column_refusal column_checks
    lent_yes h = past_lent c (call_checks L c k) h

    -- refused by 2, 3 or 6
    pub lent_refusal : (n : ℕ) → n ≡ first_failed (lent_checks L c) → (n ≡ 0 → ⊥) → (column_refusal L c k ≡ n) × (n ≡ 13 → ⊥)
    unfolding column_refusal column_checks
    lent_refusal n e h = three_no (directory_block_ok L c.directory) (slices_ok c.slices) (directory_ok L (length c.slices.growers) c.directory) (call_checks L c k) n e h

    -- what a refused call reports and leaves
    pub refused_by : (x : Refused) → RefusedBy L c k x → ◌≡◌ {A = Called} (record { answer = answer_of (Err x); column = c }) (column_call L c k)
    unfolding column_call
    refused_by x r = rw (r.counts, r.number, ne_eqb (column_refusal L c k) 0 (λ e. refusal_some x.refusal (r.number ∙ e)))

    -- refused ahead of any scan
    pub refused_ahead_by : (r : Refusal) (x : Refused) → x ≡ refused_ahead r → column_refusal L c k ≡ refusal_number r → (refusal_number r ≡ 13 → ⊥) → RefusedBy L c k x
    unfolding refused_counts
    refused_ahead_by r x w e f = rw w (record { number = sym e; counts = rw (e, ne_eqb (refusal_number r) 13 f) })

    pub refused_lent : (r : Refusal) (x : Refused) → x ≡ refused_ahead r → refusal_number r ≡ first_failed (lent_checks L c) → RefusedBy L c k x
    refused_lent r x w e =
        let q = lent_refusal (refusal_number r) e (refusal_some r) in
        refused_ahead_by r x w q.0 q.1

    -- an accepted call has passed 2, 3 and 6
    pub accepted_lent : column_refusal L c k ≡ 0 → first_failed (lent_checks L c) ≡ 0
    unfolding column_refusal column_checks
    accepted_lent h = three_yes (directory_block_ok L c.directory) (slices_ok c.slices) (directory_ok L (length c.slices.growers) c.directory) (call_checks L c k) h

    -- accepted
    pub accepted_call : column_refusal L c k ≡ 0
        → ◌≡◌ {A = Called} (record { answer = record { refusal = 0; totals = call_totals L c k; counts = call_counts (directory_of L c.directory) k }; column = column_after L c k })
        (column_call L c k)
    unfolding column_call
    accepted_call e = rw e

  -- a find is a range from g to g
  pub find_is_range : (c : Column) (g : ℕ) → (column_call L c (range g g)).answer ≡ (column_call L c (find g)).answer
  unfolding column_call column_refusal column_checks call_checks refused_counts call_totals column_after call_counts miss_counts scan_near first_failed
  find_is_range c g = rw (le-leb g g (omega arith))
