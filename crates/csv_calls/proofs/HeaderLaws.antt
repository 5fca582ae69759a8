-- The header's three columns, once each name was found.
use Prim.Native.Nat.{ℕ, ◌≤◌}
use mathlib.Core.Path.{◌≡◌, sym, ap, ◌∙◌, subst}
use mathlib.Core.Bool.{true, false, ◌&&◌}
use mathlib.Core.Option.{none, some}
use mathlib.Core.List.{List, [], ◌∷◌}
use native.Mathlib.Omega.{arith}
use lib.Dec.{leb}
use lib.ListN.{drop}
use Rattle.model.specs.Checks.{ask}
use Rattle.model.specs.Fields.{Taken, taken}
use Rattle.model.specs.Csv.{Bytes, take_record}
use Rattle.model.specs.Weighbridge.{grower_name, weight_name, yield_name, header_named, header_once}
use Rattle.checks.proofs.Answers.{fails, passes, none_failed}
use Rattle.csv_calls.specs.declared.Named.{Named}
use Rattle.csv_calls.specs.Checking.{NameAmong, NamedIn, header_refusal, HeaderAt}

-- a header with a broken quote has no name
pub header_torn : (text : List ℕ) → take_record text ≡ none → 16 ≡ header_refusal text
unfolding header_named
header_torn text e = fails 16 (header_named text) (ask 17 (header_once text) ∷ []) (rw e)

-- Three numbers: each at least 1, each at most 1.

each_fails : (a b c : ℕ) → (1 ≤ a → 1 ≤ b → 1 ≤ c → ⊥) → leb 1 a && leb 1 b && leb 1 c ≡ false
each_fails a b c n = grind arith

each_holds : (a b c : ℕ) → 1 ≤ a → 1 ≤ b → 1 ≤ c → leb 1 a && leb 1 b && leb 1 c ≡ true
each_holds a b c p q r = grind arith

single_fails : (a b c : ℕ) → (a ≤ 1 → b ≤ 1 → c ≤ 1 → ⊥) → leb a 1 && leb b 1 && leb c 1 ≡ false
single_fails a b c n = grind arith

single_holds : (a b c : ℕ) → a ≤ 1 → b ≤ 1 → c ≤ 1 → leb a 1 && leb b 1 && leb c 1 ≡ true
single_holds a b c p q r = grind arith

-- What reading the header answers, with the three names found.
module _ {text : List ℕ} {g w y : Named} (a : NamedIn text grower_name g) (b : NamedIn text weight_name w) (c : NamedIn text yield_name y) where
  weights : NameAmong weight_name a.header w
  weights =
      let e : some (taken b.header (drop w.next text)) ≡ some (taken a.header (drop g.next text)) = sym b.is ∙ a.is in
      let t : taken b.header (drop w.next text) ≡ taken a.header (drop g.next text) = cc in
      let h : b.header ≡ a.header = ap (λ (t : Taken (List Bytes)). t.value) t in subst (λ (h : List Bytes). NameAmong weight_name h w) h b.among

  yields : NameAmong yield_name a.header y
  yields =
      let e : some (taken c.header (drop y.next text)) ≡ some (taken a.header (drop g.next text)) = sym c.is ∙ a.is in
      let t : taken c.header (drop y.next text) ≡ taken a.header (drop g.next text) = cc in
      let h : c.header ≡ a.header = ap (λ (t : Taken (List Bytes)). t.value) t in subst (λ (h : List Bytes). NameAmong yield_name h y) h c.among

  named_is : header_named text ≡ leb 1 g.times && leb 1 w.times && leb 1 y.times
  unfolding header_named
  named_is = rw (a.is, a.among.times, weights.times, yields.times)

  once_is : header_once text ≡ leb g.times 1 && leb w.times 1 && leb y.times 1
  unfolding header_once
  once_is = rw (a.is, a.among.times, weights.times, yields.times)

  pub header_absent : (1 ≤ g.times → 1 ≤ w.times → 1 ≤ y.times → ⊥) → 16 ≡ header_refusal text
  header_absent n = fails 16 (header_named text) (ask 17 (header_once text) ∷ []) (named_is ∙ each_fails g.times w.times y.times n)

  module _ (p : 1 ≤ g.times) (q : 1 ≤ w.times) (r : 1 ≤ y.times) where
    named_holds : header_named text ≡ true
    named_holds = named_is ∙ each_holds g.times w.times y.times p q r

    pub header_twice : (g.times ≤ 1 → w.times ≤ 1 → y.times ≤ 1 → ⊥) → 17 ≡ header_refusal text
    header_twice n = passes 16 17 (header_named text) _ named_holds (fails 17 (header_once text) [] (once_is ∙ single_fails g.times w.times y.times n))

    pub header_passed : g.times ≤ 1 → w.times ≤ 1 → y.times ≤ 1 → 0 ≡ header_refusal text
    header_passed i j k =
        passes 16 0 (header_named text) _ named_holds (passes 17 0 (header_once text) [] (once_is ∙ single_holds g.times w.times y.times i j k) none_failed)

    pub header_good : HeaderAt text (record { columns = record { grower = g.column; weight = w.column; oil_yield = y.column; count = g.count }; next = g.next })
    header_good = record {
      header = a.header;
      is = a.is;
      columns = record { grower = a.among.first p; weight = weights.first q; oil = yields.first r; counted = a.among.counted };
      within = a.within;
    }
