-- A number written column by column, from its last digit to the left. Assumes nothing.
use Prim.Native.Nat.{ℕ, suc, ◌+◌, ◌-◌, ◌/◌, ◌≤◌, ◌<◌}
use mathlib.Core.Path.{◌≡◌, refl, sym, ap, ap₂, ◌∙◌}
use mathlib.Core.List.{List, [], ◌∷◌, ◌++◌}
use native.Mathlib.Omega.{arith}
use native.Mathlib.Numerals.{add-one}
use borrow.Author.Tests.{ne_eqb}
use lib.ListN.{length, take, drop, set, length-set, take-append-drop}
use lib.Seq.{drop-cons, take-set-le, drop-set-lt, get_or-set_same, append_snoc}
use Rattle.model.specs.Fields.{blank, last_digit, leading, justified}
use Rattle.fields.specs.Writing.{placed}
use Rattle.model.proofs.FieldLaws.{length-justified}
use Rattle.fields.proofs.Columns.{leading_none}

-- what is left to write, and what is written, is the whole
pub record Putting (t : List ℕ) (at w sign n : ℕ) (text : List ℕ) (i m s : ℕ) : Type 0 where
  pub room : at + w ≤ length t
  pub size : length text ≡ length t
  pub left : i ≤ w
  pub kept : take at text ≡ take at t
  pub work : leading s i m ++ drop (at + i) text ≡ leading sign w n ++ drop (at + w) t

pub put_start : (t : List ℕ) (at w sign n : ℕ) → at + w ≤ length t → Putting t at w sign n t w n sign
put_start t at w sign n h = record { room = h; size = refl; left = omega arith; kept = refl; work = refl }

drop-set : (l : List ℕ) (k b : ℕ) → k < length l → drop k (set l k b) ≡ b ∷ drop (k + 1) l
drop-set l k b h =
    let e : drop (suc k) (set l k b) ≡ drop (suc k) l = drop-set-lt (suc k) l k b (omega arith) in
    drop-cons (set l k b) k 0 (omega (arith, length-set l k b))
    ∙ ap₂ (λ (x : ℕ) (r : List ℕ). x ∷ r) (get_or-set_same l k b 0 h) (e ∙ ap (λ (j : ℕ). drop j l) (sym (add-one k)))

sign_column : (s k : ℕ) → leading s (k + 1) 0 ≡ leading blank k 0 ++ s ∷ []
unfolding leading
sign_column s k = rw add-one (ap (λ (l : List ℕ). l ++ s ∷ []) (sym (leading_none k)))

digit_column : (s k m : ℕ) → (m ≡ 0 → ⊥) → leading s (k + 1) m ≡ leading s k (m / 10) ++ last_digit m ∷ []
unfolding leading
digit_column s k m q = rw (add-one, ne_eqb m 0 q)

module _ {t : List ℕ} {at w sign n : ℕ} {text : List ℕ} {i m s i' j : ℕ} (h : i ≡ i' + 1) (r : j ≡ at + i') (p : Putting t at w sign n text i m s) where
  -- one column more, if it is the last one that is left to write
  step : (b m' s' : ℕ) → leading s i m ≡ leading s' i' m' ++ b ∷ [] → Putting t at w sign n (set text j b) i' m' s'
  step b m' s' e =
      let k : j + 1 ≡ at + i = omega arith in
      record {
        room = p.room;
        size = length-set text j b ∙ p.size;
        left = omega (arith, p.left);
        kept = take-set-le at text j b (omega arith) ∙ p.kept;
        work =
            ap (λ (x : ℕ). leading s' i' m' ++ drop x (set text j b)) (sym r)
            ∙ ap (λ (r : List ℕ). leading s' i' m' ++ r) (drop-set text j b (omega (arith, p.size, p.room, p.left)) ∙ ap (λ (x : ℕ). b ∷ drop x text) k)
            ∙ sym (append_snoc (leading s' i' m') b (drop (at + i) text))
            ∙ ap (λ (l : List ℕ). l ++ drop (at + i) text) (sym e)
            ∙ p.work;
      }

  -- no digit is left: the sign, and then blanks
  pub put_sign : m ≡ 0 → Putting t at w sign n (set text j s) i' m blank
  put_sign z = step s m blank (ap₂ (leading s) h z ∙ sign_column s i' ∙ ap (λ (x : ℕ). leading blank i' x ++ s ∷ []) (sym z))

  -- the next digit
  pub put_digit : (m ≡ 0 → ⊥) → Putting t at w sign n (set text j (last_digit m)) i' (m / 10) s
  put_digit q = step (last_digit m) (m / 10) s (ap (λ (k : ℕ). leading s k m) h ∙ digit_column s i' m q)

no_columns : (s m : ℕ) → leading s 0 m ≡ []
unfolding leading
no_columns s m = refl

-- nothing is left to write
pub put_end : {t : List ℕ} {at w sign n : ℕ} {text : List ℕ} {i m s : ℕ} → i ≤ 0 → Putting t at w sign n text i m s → text ≡ take at t ++ (leading sign w n ++ drop (at + w) t)
put_end {t} {at} {w} {sign} {n} {text} {i} {m} {s} z p =
    let e : i ≡ 0 = omega arith in
    sym (take-append-drop at text) ∙ ap₂ (λ (a b : List ℕ). a ++ b) p.kept (none_left e ∙ p.work)
  where
    none_left : i ≡ 0 → drop at text ≡ leading s i m ++ drop (at + i) text
    none_left e = let k : at + 0 ≡ at = omega arith in rw (e, no_columns s m, k)

-- the last digit, and then the columns before it
pub put_all : (t text : List ℕ) (at width sign n : ℕ) → 1 ≤ width → at + width ≤ length t
    → text ≡ take at (set t (at + (width - 1)) (last_digit n)) ++ (leading sign (width - 1) (n / 10) ++ drop (at + (width - 1)) (set t (at + (width - 1)) (last_digit n)))
    → text ≡ placed at (justified sign width n) t
unfolding placed justified
put_all t text at width sign n h r e =
    let k : ℕ = at + (width - 1) in
    let d : ℕ = last_digit n in
    let l : List ℕ = leading sign (width - 1) (n / 10) in
    let q : at + length (l ++ d ∷ []) ≡ k + 1 = omega (arith, length-justified sign width n h) in
    e
    ∙ ap₂ (λ (a b : List ℕ). a ++ (l ++ b)) (take-set-le at t k d (omega arith)) (drop-set t k d (omega arith))
    ∙ ap (λ (r : List ℕ). take at t ++ r) (sym (append_snoc l d (drop (k + 1) t)) ∙ ap (λ (j : ℕ). (l ++ d ∷ []) ++ drop j t) (sym q))
