-- A line's numbers placed one behind the other, and LF behind them. Assumes nothing.
use Prim.Native.Nat.{ℕ, ◌+◌, ◌*◌, ◌≤◌, ◌<◌}
use mathlib.Core.Path.{◌≡◌, sym, ap, ◌∙◌}
use mathlib.Core.List.{List, [], ◌∷◌, ◌++◌, append-nil, map, flatten}
use native.Mathlib.Omega.{arith}
use native.Mathlib.Numerals.{add-one}
use lib.ListN.{length, get_or, take, set, length-take}
use lib.Seq.{take-suc, take_all}
use Rattle.std.proofs.lemmas.List.{map-append}
use Rattle.model.specs.Fields.{number_field, line_end, line}
use Rattle.model.proofs.ListLaws.{flatten-append}
use Rattle.model.proofs.FieldLaws.{length-number}
use Rattle.model.proofs.LineLaws.{length_fields}
use Rattle.fields.specs.Writing.{placed}
use Rattle.fields.proofs.Placing.{length-placed, placed_none, placed_one, placed-joined}

abbrev pub columns : List ℕ → List ℕ
columns ns = flatten (map number_field ns)

columns_length : (ns : List ℕ) → length (columns ns) ≡ 11 * length ns
columns_length ns = length_fields 11 (omega arith) ns

columns_more : (ns : List ℕ) (i : ℕ) → i < length ns → columns (take (i + 1) ns) ≡ columns (take i ns) ++ number_field (get_or ns i 0)
unfolding flatten
columns_more ns i h =
    let e : take (i + 1) ns ≡ take i ns ++ get_or ns i 0 ∷ [] = rw add-one (take-suc ns i 0 h) in
    ap columns e
    ∙ ap flatten (map-append number_field (take i ns) (get_or ns i 0 ∷ []))
    ∙ flatten-append (map number_field (take i ns)) (number_field (get_or ns i 0) ∷ [])
    ∙ ap (λ (l : List ℕ). columns (take i ns) ++ l) (append-nil (number_field (get_or ns i 0)))

pub columns_start : (at : ℕ) (t : List ℕ) → t ≡ placed at (columns []) t
unfolding flatten
columns_start at t = sym (placed_none at t)

module _ (at : ℕ) (t ns : List ℕ) (room : at + (11 * length ns + 1) ≤ length t) {i e : ℕ} (here : e ≡ at + 11 * i) {u : List ℕ} (so_far : u ≡ placed at (columns (take i ns)) t) where
  pub columns_next : i < length ns → {v : List ℕ} → v ≡ placed e (number_field (get_or ns i 0)) u → v ≡ placed at (columns (take (i + 1) ns)) t
  columns_next h q =
      let n : length (columns (take i ns)) ≡ 11 * i = omega (arith, columns_length (take i ns), length-take i ns) in
      q
      ∙ ap (placed e (number_field (get_or ns i 0))) so_far
      ∙ placed-joined at e (columns (take i ns)) (number_field (get_or ns i 0)) t (omega arith) (omega (arith, length-number (get_or ns i 0)))
      ∙ ap (λ (l : List ℕ). placed at l t) (sym (columns_more ns i h))

  pub columns_end : i ≡ length ns → set u e line_end ≡ placed at (line ns) t
  unfolding line
  columns_end h =
      let a : take i ns ≡ ns = take_all i ns (omega arith) in
      let n : length (columns ns) ≡ 11 * i = omega (arith, columns_length ns) in
      let whole : u ≡ placed at (columns ns) t = so_far ∙ ap (λ (l : List ℕ). placed at (columns l) t) a in
      placed_one e line_end u (omega (arith, ap length whole, length-placed at (columns ns) t (omega arith)))
      ∙ ap (placed e (line_end ∷ [])) whole
      ∙ placed-joined at e (columns ns) (line_end ∷ []) t (omega arith) (omega arith)
