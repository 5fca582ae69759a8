-- Bytes written one after the other: what is left, placed from here on, makes the whole. Assumes nothing.
use Prim.Native.Nat.{ℕ, ◌+◌, ◌≤◌, ◌<◌}
use mathlib.Core.Path.{◌≡◌, refl, sym, ap, ◌∙◌}
use mathlib.Core.List.{List, [], ◌∷◌, ◌++◌}
use native.Mathlib.Omega.{arith}
use lib.ListN.{length, set, length-append}
use Rattle.fields.specs.Writing.{placed, Wrote}
use Rattle.fields.proofs.Placing.{length-placed, placed_none, placed_one, placed-joined}

-- one byte
pub wrote_one : (t : List ℕ) (at b : ℕ) → at < length t → Wrote t at (b ∷ []) (set t at b) (at + 1)
wrote_one t at b h = record { bytes = placed_one at b t h; on = refl }

-- room for p and q is room for p
pub front_room : (at : ℕ) (p q t : List ℕ) → at + length (p ++ q) ≤ length t → at + length p ≤ length t
front_room at p q t h = omega (arith, length-append p q)

module _ {t : List ℕ} {at : ℕ} {p t₁ : List ℕ} {e : ℕ} (w : Wrote t at p t₁ e) where
  pub wrote_size : at + length p ≤ length t → length t₁ ≡ length t
  wrote_size h = ap length w.bytes ∙ length-placed at p t h

  -- room for p and q at the cursor is room for q behind p
  pub wrote_room : (q : List ℕ) → at + length (p ++ q) ≤ length t → e + length q ≤ length t₁
  wrote_room q h = let n = length-append p q in omega (arith, w.on, wrote_size (omega arith))

  -- p, and then q behind it
  pub wrote_joined : {q t₂ : List ℕ} {f : ℕ} → at + length (p ++ q) ≤ length t → Wrote t₁ e q t₂ f → Wrote t at (p ++ q) t₂ f
  wrote_joined {q} h v =
      let n = length-append p q in
      record {
        bytes = v.bytes ∙ ap (placed e q) w.bytes ∙ placed-joined at e p q t w.on (omega arith);
        on = omega (arith, w.on, v.on);
      }

  -- p, and then a byte behind it
  pub byte_behind : (b : ℕ) → at + length (p ++ b ∷ []) ≤ length t → e < length t₁
  byte_behind b h = omega (arith, wrote_room (b ∷ []) h)

  pub wrote_byte : (b : ℕ) → at + length (p ++ b ∷ []) ≤ length t → Wrote t at (p ++ b ∷ []) (set t₁ e b) (e + 1)
  wrote_byte b h = wrote_joined h (wrote_one t₁ e b (byte_behind b h))

-- What is left to write at a cursor.

pub record Left (t₀ : List ℕ) (at : ℕ) (whole t : List ℕ) (e : ℕ) (rest : List ℕ) : Type 0 where
  pub size : length t ≡ length t₀
  pub room : at + length whole ≤ length t₀
  pub ends : e + length rest ≡ at + length whole
  pub work : placed e rest t ≡ placed at whole t₀

pub left_start : (t : List ℕ) (at : ℕ) (whole : List ℕ) → at + length whole ≤ length t → Left t at whole t at whole
left_start t at whole h = record { size = refl; room = h; ends = refl; work = refl }

module _ {t₀ : List ℕ} {at : ℕ} {whole t : List ℕ} {e : ℕ} {rest : List ℕ} (l : Left t₀ at whole t e rest) where
  -- the next bytes are p
  module _ (p more : List ℕ) (x : rest ≡ p ++ more) where
    left_room : e + length p + length more ≤ length t
    left_room = omega (arith, l.size, l.room, l.ends, ap length x, length-append p more)

    pub next_room : e + length p ≤ length t
    next_room = omega (arith, left_room)

    pub left_next : {t' : List ℕ} {f : ℕ} → Wrote t e p t' f → Left t₀ at whole t' f more
    left_next {t'} {f} w = record {
      size = wrote_size w next_room ∙ l.size;
      room = l.room;
      ends = omega (arith, w.on, l.ends, ap length x, length-append p more);
      work = ap (placed f more) w.bytes ∙ placed-joined e f p more t w.on left_room ∙ ap (λ (r : List ℕ). placed e r t) (sym x) ∙ l.work;
    }

  pub left_end : rest ≡ [] → Wrote t₀ at whole t e
  left_end x = record {
    bytes = sym (placed_none e t) ∙ ap (λ (r : List ℕ). placed e r t) (sym x) ∙ l.work;
    on = omega (arith, l.ends, ap length x);
  }
