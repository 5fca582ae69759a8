-- A byte more is written behind those passed.
use Rattle.std.proofs.Common.{ℕ, ◌+◌, ◌≤◌, ◌<◌, ◌≡◌, refl, sym, ap, ◌∙◌, arith, List, [], ◌∷◌, ◌++◌, length, get_or, take}
use native.Mathlib.Numerals.{add-one}
use lib.ListN.{set, length-append}
use lib.Seq.{length-take-le, take-suc, take_all}
use Rattle.fields.specs.Writing.{placed, Wrote}
use Rattle.fields.proofs.Placing.{placed_none}
use Rattle.fields.proofs.WritingLaws.{wrote_byte}
use Rattle.fields.proofs.put_bytes.Goals as goal

module _ (bytes : List ℕ) (at i : ℕ) {t text : List ℕ} (w : Wrote t at (take i bytes) text (at + i)) (h : i < length bytes) (room : at + length bytes ≤ length t) where
  more : take (i + 1) bytes ≡ take i bytes ++ get_or bytes i 0 ∷ []
  more = ap (λ (n : ℕ). take n bytes) (add-one i) ∙ take-suc bytes i 0 h

  more_room : at + length (take i bytes ++ get_or bytes i 0 ∷ []) ≤ length t
  more_room = omega (arith, length-append (take i bytes) (get_or bytes i 0 ∷ []), length-take-le i bytes (omega arith))

  next : Wrote t at (take (i + 1) bytes) (set text (at + i) (get_or bytes i 0)) (at + (i + 1))
  next = record {
    bytes = (wrote_byte w (get_or bytes i 0) more_room).bytes ∙ ap (λ (l : List ℕ). placed at l t) (sym more);
    on = omega (arith, length-take-le (i + 1) bytes (omega arith));
  }

pub loop-i-init : goal.loop-i-init
loop-i-init c = record { bytes = sym (placed_none _ _); on = refl }

pub loop-i-preserved : goal.loop-i-preserved
loop-i-preserved c = next _ _ _ c.loop-i.invariant c.loop-i-test.true c.requires

pub returns : goal.returns
returns c = record { bytes = c.loop-i.invariant.bytes ∙ ap (λ (l : List ℕ). placed c.args.at l c.args.text.now) (take_all _ _ c.loop-i-test.false); on = refl }
