-- The fields of a record passed one by one. Assumes nothing.
use Rattle.std.proofs.Common.{◌≡◌, ℕ, suc, ◌-◌, ◌<◌, ◌≤◌, true, false, List, [], ◌∷◌, ◌++◌, length, drop, ap, ◌∙◌, arith, length-append, length-drop}
use mathlib.Core.Option.{Option, none, some}
use Rattle.model.specs.Fields.{Taken, taken}
use Rattle.model.specs.Csv.{Bytes, behind, take_field, take_fields, take_record}
use Rattle.model.proofs.CsvLaws.{fields_last, fields_next, behind_these, none_before, one_before}

-- the record at a byte is the fields passed and the fields from byte i on
pub record FieldsPassed (text : List ℕ) (at i : ℕ) (fields : List Bytes) : Type 0 where
  pub low : at ≤ i
  pub high : i ≤ length text
  pub few : length fields ≤ i
  pub fuel : ℕ
  pub enough : length text - i < fuel
  pub is : take_record (drop at text) ≡ behind_these fields (take_fields fuel (drop i text))

pub none_passed : (text : List ℕ) (at : ℕ) → at ≤ length text → FieldsPassed text at at []
none_passed text at h = record {
  low = omega arith;
  high = h;
  few = omega arith;
  fuel = suc (length (drop at text));
  enough = omega (arith, length-drop at text);
  is = none_before (take_record (drop at text));
}

module _ {text : List ℕ} {at i : ℕ} {fs : List Bytes} (p : FieldsPassed text at i fs) where
  whole : (o : Option (Taken (List Bytes))) → take_fields (suc (p.fuel - 1)) (drop i text) ≡ o → take_record (drop at text) ≡ behind_these fs o
  whole o e =
      let s : p.fuel ≡ suc (p.fuel - 1) = omega (arith, p.enough) in
      p.is ∙ ap (behind_these fs) (ap (λ (n : ℕ). take_fields n (drop i text)) s ∙ e)

  pub record_broken : ((n : ℕ) → take_fields (suc n) (drop i text) ≡ none) → take_record (drop at text) ≡ none
  record_broken e = whole none (e (p.fuel - 1))

  module _ {f : Bytes} {u : List ℕ} (n : ℕ) (e : take_field (drop i text) ≡ some (taken f u)) where
    pub field_passed : behind u ≡ some (taken true (drop n text)) → i < n → n ≤ length text → FieldsPassed text at n (fs ++ f ∷ [])
    field_passed b l h = record {
      low = omega (arith, p.low);
      high = h;
      few = omega (arith, p.few, length-append fs (f ∷ []));
      fuel = p.fuel - 1;
      enough = omega (arith, p.enough);
      is = whole _ (fields_next (p.fuel - 1) (drop i text) f u (drop n text) e b) ∙ one_before fs f (take_fields (p.fuel - 1) (drop n text));
    }

    pub record_ended : behind u ≡ some (taken false (drop n text)) → take_record (drop at text) ≡ some (taken (fs ++ f ∷ []) (drop n text))
    record_ended b = whole _ (fields_last (p.fuel - 1) (drop i text) f u (drop n text) e b)
