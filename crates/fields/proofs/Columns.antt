-- A field read column by column: the columns passed are the leading columns of the number that they spell; one that may not
-- follow them is in no number's field. Assumes nothing.
use Prim.Native.Nat.{ℕ, zero, suc, ◌+◌, ◌-◌, ◌*◌, ◌/◌, ◌%◌, ◌^◌, ◌≤◌, ◌<◌}
use mathlib.Core.Path.{◌≡◌, refl, sym, ap, ap₂, ◌∙◌, subst}
use mathlib.Core.Logic.{◌≢◌}
use mathlib.Core.Bool.{Bool, true, false, cond, ◌&&◌, ◌||◌, and-false}
use mathlib.Core.Option.{Option, none, some}
use mathlib.Core.List.{List, [], ◌∷◌, ◌++◌}
use native.Mathlib.Omega.{arith}
use native.Mathlib.Numerals.{add-one}
use native.Mathlib.Nat.{pow-suc, pow-le-pow_right}
use native.Mathlib.Decide.{dec_lt}
use borrow.Author.Tests.{ne_eqb, le-leb, lt-leb}
use lib.Dec.{T, leb, ltb, eqb, leb→le, lt→ltb, ltb→lt, eqb→eq}
use lib.ListN.{length, get_or, take, drop, replicate, length-take, length-drop, length-replicate, replicate-append-replicate}
use lib.Seq.{take-suc, take_all, take_at, take-take, take-append-le, get_or_at, length-take-le, get_or-take, get_or-drop}
use Rattle.model.specs.Bounds.{most_number}
use Rattle.model.specs.Fields.{blank, last_digit, leading, justified, number_field, spelled, read_field}
use Rattle.model.proofs.Tests.{and_fst, and_snd, eqb_no, of_true}
use Rattle.fields.specs.Reading.{field_at, read_at, Blanks}
use Rattle.model.proofs.FieldLaws.{IsField, length-leading, length-number, spelled-append, spelled_blanks, spelled-leading, spelled-justified, read_number, field_read, below_tenth}

-- a text that is no number's field
not_read : (f : List ℕ) → ((n : ℕ) → read_field f ≡ some n → ⊥) → read_field f ≡ none
not_read f h = go (read_field f) h
  where
    go : (o : Option ℕ) → ((n : ℕ) → o ≡ some n → ⊥) → o ≡ none
    go none h = refl
    go (some n) h = absurd (h n refl)

-- may byte b follow leading columns that spell v? After blanks a blank or a digit other than 0, after digits a digit
unfoldable can_lead : ℕ → ℕ → Bool
can_lead v b = cond (eqb v 0) (eqb b blank || leb 49 b && leb b 57) (leb 48 b && leb b 57)

-- Leading columns.

-- nothing but blanks stands for 0
pub leading_none : (w : ℕ) → leading blank w 0 ≡ replicate w blank
unfolding leading
leading_none zero = refl
leading_none (suc w) =
    let e : w + 1 ≡ suc w = omega arith in
    replicate-append-replicate w 1 blank ∙ ap (λ (n : ℕ). replicate n blank) e

leading_some : (w n : ℕ) → 0 < n → leading blank (suc w) n ≡ leading blank w (n / 10) ++ last_digit n ∷ []
unfolding leading
leading_some w n h = rw (ne_eqb n 0 (λ e. omega (arith, e)))

-- without its last column: the leading columns of a tenth
leading_front : (w n : ℕ) → take w (leading blank (suc w) n) ≡ leading blank w (n / 10)
unfolding leading
leading_front w n = go (eqb n 0) refl
  where
    go : (b : Bool) → eqb n 0 ≡ b → take w (cond b (replicate w blank ++ blank ∷ []) (leading blank w (n / 10) ++ last_digit n ∷ [])) ≡ leading blank w (n / 10)
    go true e =
        let z : n ≡ 0 = eqb→eq _ _ (subst T (sym e) tt) in
        take_at (replicate w blank) (blank ∷ []) w (length-replicate w blank) ∙ sym (leading_none w) ∙ ap (leading blank w) (omega arith)
    go false e = take_at (leading blank w (n / 10)) (last_digit n ∷ []) w (length-leading blank w (n / 10))

-- i columns that are the leading columns of some number
record Prefix (p : List ℕ) (i : ℕ) : Type 0 where
  pub number : ℕ
  pub small : number < 10 ^ i
  pub leads : leading blank i number ≡ p

prefix_of : (w n i : ℕ) → n < 10 ^ w → i ≤ w → Prefix (take i (leading blank w n)) i
unfolding leading
prefix_of zero n i h k =
    let z : i ≡ 0 = omega arith in
    rw z (record { number = 0; small = omega arith; leads = go })
  where
    go : leading blank 0 0 ≡ take 0 (leading blank 0 n)
    go = refl
prefix_of (suc w) n i h k = go (dec_lt i (suc w)) (λ l. prefix_of w (n / 10) i (below_tenth n (10 ^ w) (omega (arith, pow-suc 10 w))) l)
  where
    go : Dec (i < suc w) → (i ≤ w → Prefix (take i (leading blank w (n / 10))) i) → Prefix (take i (leading blank (suc w) n)) i
    go (yes l) f =
        let e : take i (leading blank w (n / 10)) ≡ take i (leading blank (suc w) n) = ap (take i) (sym (leading_front w n)) ∙ take-take i w _ (omega arith) in
        subst (λ (p : List ℕ). Prefix p i) e (f (omega arith))
    go (no l) f =
        let e : i ≡ suc w = omega arith in
        rw e (record { number = n; small = h; leads = sym (take_all (suc w) _ (omega (arith, length-leading blank (suc w) n))) })

-- Which byte may follow.

last_of : (a b : List ℕ) (x y : ℕ) → a ++ x ∷ [] ≡ b ++ y ∷ [] → length a ≡ length b → (a ≡ b) × (x ≡ y)
last_of a b x y e h = (
  sym (take_at a (x ∷ []) (length b) h) ∙ ap (take (length b)) e ∙ take_at b (y ∷ []) (length b) refl,
  sym (get_or_at a x [] 0 (length b) h) ∙ ap (λ (l : List ℕ). get_or l (length b) 0) e ∙ get_or_at b y [] 0 (length b) refl,
)

digit_follows : (v d : ℕ) → d < 10 → 0 < v * 10 + d → can_lead v (48 + d) ≡ true
unfolding can_lead
digit_follows zero d h k = rw (le-leb 49 (48 + d) (omega arith), le-leb (48 + d) 57 (omega arith), ne_eqb (48 + d) 32 (λ e. omega (arith, e)))
digit_follows (suc v) d h k = rw (ne_eqb (suc v) 0 (λ e. omega (arith, e)), le-leb 48 (48 + d) (omega arith), le-leb (48 + d) 57 (omega arith))

-- what stands in leading columns may stand there
may_follow : (p : List ℕ) (b i : ℕ) → length p ≡ i → Prefix (p ++ b ∷ []) (suc i) → can_lead (spelled 0 p) b ≡ true
unfolding can_lead leading
may_follow p b i l f = go f.number f.small f.leads
  where
    go : (n : ℕ) → n < 10 ^ suc i → leading blank (suc i) n ≡ p ++ b ∷ [] → can_lead (spelled 0 p) b ≡ true
    go zero s e =
        let q = last_of (replicate i blank) p blank b e (length-replicate i blank ∙ sym l) in
        let v : spelled 0 p ≡ 0 = ap (spelled 0) (sym q.0 ∙ sym (leading_none i)) ∙ spelled-leading i 0 (omega (arith, pow-le-pow_right {n = 10} (omega arith) {i = 0} {j = i} (omega arith))) in
        rw (v, sym q.1)
    go (suc n) s e =
        let m : ℕ = suc n in
        let q = last_of (leading blank i (m / 10)) p (last_digit m) b (sym (leading_some i m (omega arith)) ∙ e) (length-leading blank i (m / 10) ∙ sym l) in
        let v : spelled 0 p ≡ m / 10 = ap (spelled 0) (sym q.0) ∙ spelled-leading i (m / 10) (below_tenth m (10 ^ i) (omega (arith, pow-suc 10 i))) in
        rw (v, sym q.1) (digit_follows (m / 10) (m % 10) (omega arith) (omega arith))

-- a byte that may follow: a blank after blanks, or a digit that leaves no leading zero
record Follows (v b : ℕ) : Type 0 where
  pub digit : 0 < v * 10 + (b - 48) → (48 ≤ b) × (b ≤ 57)
  pub gap : v * 10 + (b - 48) ≡ 0 → b ≡ 32

follows : (v b : ℕ) → can_lead v b ≡ true → Follows v b
unfolding can_lead
follows zero b e = go (eqb b 32) refl (of_true _ e)
  where
    go : (t : Bool) → eqb b 32 ≡ t → T (t || leb 49 b && leb b 57) → Follows 0 b
    go true q h =
        let z : b ≡ 32 = eqb→eq _ _ (of_true _ q) in
        record { digit = λ k. absurd (omega arith); gap = λ k. z }
    go false q h =
        let l : 49 ≤ b = leb→le _ _ (and_fst (leb 49 b) (leb b 57) h) in
        let m : b ≤ 57 = leb→le _ _ (and_snd (leb 49 b) (leb b 57) h) in
        record { digit = λ k. (omega arith, m); gap = λ k. absurd (omega arith) }
follows (suc v) b e =
    let h : T (leb 48 b && leb b 57) = of_true _ (rw (ne_eqb (suc v) 0 (λ e. omega (arith, e))) at e) in
    let l : 48 ≤ b = leb→le _ _ (and_fst (leb 48 b) (leb b 57) h) in
    let m : b ≤ 57 = leb→le _ _ (and_snd (leb 48 b) (leb b 57) h) in
    record { digit = λ k. (l, m); gap = λ k. absurd (omega arith) }

-- v is what the first i columns of f spell, and they are its leading columns
pub record Leads (f : List ℕ) (v i : ℕ) : Type 0 where
  pub at : i ≤ 10
  pub spells : v ≡ spelled 0 (take i f)
  pub leads : leading blank i v ≡ take i f
  pub small : v < 10 ^ i

most_lead : (f : List ℕ) (v i : ℕ) → Leads f v i → v < 10000000000
most_lead f v i w = omega (arith, w.small, pow-le-pow_right {n = 10} (omega arith) {i = i} {j = 10} w.at)

module _ (f : List ℕ) (full : length f ≡ 11) where
  module _ (v i : ℕ) (h : i < 10) (w : Leads f v i) where
    more : take (i + 1) f ≡ take i f ++ get_or f i 0 ∷ []
    more = rw add-one (take-suc f i 0 (omega arith))

    lead_next : can_lead v (get_or f i 0) ≡ true → Leads f (v * 10 + (get_or f i 0 - 48)) (i + 1)
    unfolding leading spelled
    lead_next e =
        let b : ℕ = get_or f i 0 in
        let o = follows v b e in
        record {
          at = omega arith;
          spells = sym (ap (spelled 0) more ∙ spelled-append 0 (take i f) (b ∷ []) ∙ one b);
          leads = go b (v * 10 + (b - 48)) refl o ∙ sym more;
          small = omega (arith, ap (λ (n : ℕ). 10 ^ n) (add-one i), pow-suc 10 i, w.small, below b o);
        }
      where
        one : (b : ℕ) → spelled (spelled 0 (take i f)) (b ∷ []) ≡ v * 10 + (b - 48)
        one b = ap (λ (n : ℕ). n * 10 + (b - 48)) (sym w.spells)

        below : (b : ℕ) → Follows v b → b - 48 < 10
        below b o = at_most (dec_lt 0 (v * 10 + (b - 48)))
          where
            at_most : Dec (0 < v * 10 + (b - 48)) → b - 48 < 10
            at_most (yes k) = omega (arith, o.digit k)
            at_most (no k) = omega arith

        go : (b n : ℕ) → n ≡ v * 10 + (b - 48) → Follows v b → leading blank (i + 1) n ≡ take i f ++ b ∷ []
        go b zero q o =
            let z : v ≡ 0 = omega arith in
            let g : b ≡ 32 = o.gap (sym q) in
            rw (add-one, g) (ap (λ (l : List ℕ). l ++ blank ∷ []) (sym (leading_none i) ∙ ap (leading blank i) (sym z) ∙ w.leads))
        go b (suc n) q o =
            let d = o.digit (omega arith) in
            let x : suc n / 10 ≡ v = omega (arith, d.0, d.1) in
            let y : last_digit (suc n) ≡ b = omega (arith, d.0, d.1) in
            rw add-one (leading_some i (suc n) (omega arith) ∙ ap₂ (λ (m k : ℕ). leading blank i m ++ k ∷ []) x y ∙ ap (λ (l : List ℕ). l ++ b ∷ []) w.leads)

    -- a field's column may follow
    field_follows : (n : ℕ) → read_field f ≡ some n → can_lead v (get_or f i 0) ≡ true
    unfolding justified
    field_follows n e = rw w.spells (may_follow (take i f) (get_or f i 0) i (length-take-le i f (omega arith)) pre)
      where
        r : IsField f n
        r = field_read f n e

        front : take (suc i) (leading blank 10 (n / 10)) ≡ take i f ++ get_or f i 0 ∷ []
        front =
            sym (take-append-le (suc i) (leading blank 10 (n / 10)) (last_digit n ∷ []) (omega (arith, length-leading blank 10 (n / 10)))) ∙ ap (take (suc i)) r.field
            ∙ take-suc f i 0 (omega arith)

        pre : Prefix (take i f ++ get_or f i 0 ∷ []) (suc i)
        pre = subst (λ (p : List ℕ). Prefix p (suc i)) front (prefix_of 10 (n / 10) (suc i) (omega (arith, r.most)) (omega arith))

    -- so a column that may not follow refuses the field
    lead_fails : can_lead v (get_or f i 0) ≡ false → read_field f ≡ none
    lead_fails e = not_read f (λ n r. let z : true ≡ false = sym (field_follows n r) ∙ e in let y : ◌≡◌ {A = ℕ} 0 1 = cc in omega arith)

  -- The last column, a digit.
  module _ (v : ℕ) (w : Leads f v 10) where
    cut : f ≡ take 10 f ++ get_or f 10 0 ∷ []
    cut = sym (take_all 11 f (omega arith)) ∙ take-suc f 10 0 (omega arith)

    last_digit_lem : (n : ℕ) → read_field f ≡ some n → get_or f 10 0 ≡ last_digit n
    unfolding justified
    last_digit_lem n e = ap (λ (l : List ℕ). get_or l 10 0) (sym (field_read f n e).field) ∙ get_or_at (leading blank 10 (n / 10)) (last_digit n) [] 0 10 (length-leading blank 10 (n / 10))

    low_fails : get_or f 10 0 < 48 → read_field f ≡ none
    low_fails h = not_read f (λ n e. omega (arith, last_digit_lem n e))

    high_fails : 57 < get_or f 10 0 → read_field f ≡ none
    high_fails h = not_read f (λ n e. omega (arith, last_digit_lem n e))

    whole_field : 48 ≤ get_or f 10 0 → get_or f 10 0 ≤ 57 → (n : ℕ) → n ≡ v * 10 + (get_or f 10 0 - 48) → number_field n ≡ f
    unfolding justified
    whole_field l m n q =
        let x : n / 10 ≡ v = omega arith in
        let y : last_digit n ≡ get_or f 10 0 = omega arith in
        ap₂ (λ (a b : ℕ). leading blank 10 a ++ b ∷ []) x y ∙ ap (λ (p : List ℕ). p ++ get_or f 10 0 ∷ []) w.leads ∙ sym cut

-- a byte of a part of a text
pub part_byte : (text : List ℕ) (k p i j : ℕ) → i < k → j ≡ p + i → get_or (take k (drop p text)) i 0 ≡ get_or text j 0
part_byte text k p i j h e = get_or-take k (drop p text) i 0 h ∙ get_or-drop p text i 0 ∙ ap (λ (x : ℕ). get_or text x 0) (sym e)

-- The field at a cursor.
module _ (text : List ℕ) (at : ℕ) where
  short : length (field_at at text) < 11 → read_field (field_at at text) ≡ none
  short h = not_read (field_at at text) (λ n e. omega (arith, ap length (field_read (field_at at text) n e).field, length-number n))

  pub length_here : at + 11 ≤ length text → length (field_at at text) ≡ 11
  length_here h = length-take-le 11 (drop at text) (omega (arith, length-drop at text))

  pub byte_here : (i : ℕ) → i < 11 → get_or (field_at at text) i 0 ≡ get_or text (at + i) 0
  byte_here i h = get_or-take 11 (drop at text) i 0 h ∙ get_or-drop at text i 0

  at_none : read_field (field_at at text) ≡ none → none ≡ read_at text at
  unfolding read_at
  at_none e = rw e

  at_some : (n : ℕ) → read_field (field_at at text) ≡ some n → some (record { number = n; next = at + 11 }) ≡ read_at text at
  unfolding read_at
  at_some n e = rw e

  pub none_there : length text < at + 11 → none ≡ read_at text at
  none_there h = at_none (short (omega (arith, length-take 11 (drop at text), length-drop at text)))

-- Blanks.

pub record Passed (text : List ℕ) (at i : ℕ) : Type 0 where
  pub fits : at + 11 ≤ length text
  pub few : i ≤ 10
  pub all : take i (drop at text) ≡ replicate i blank

pub pass_start : (text : List ℕ) (at : ℕ) → at + 11 ≤ length text → Passed text at 0
pass_start text at h = record { fits = h; few = omega arith; all = refl }

pub pass_next : {text : List ℕ} {at i : ℕ} → i < 10 → Passed text at i → get_or text (at + i) 0 ≡ blank → Passed text at (i + 1)
pass_next {text} {at} {i} h p e = record {
  fits = p.fits;
  few = omega arith;
  all =
      rw add-one (take-suc (drop at text) i 0 (omega (arith, p.fits, length-drop at text)))
      ∙ ap₂ (λ (l : List ℕ) (b : ℕ). l ++ b ∷ []) p.all (get_or-drop at text i 0 ∙ e)
      ∙ replicate-append-replicate i 1 blank;
}

pub pass_stop : {text : List ℕ} {at i : ℕ} → Passed text at i → get_or text (at + i) 0 ≢ blank → Blanks text at i
pass_stop p e = record { few = p.few; all = p.all; next = λ h. e }

pub pass_end : {text : List ℕ} {at i : ℕ} → 10 ≤ i → Passed text at i → Blanks text at i
pass_end h p = record { few = p.few; all = p.all; next = λ l. absurd (omega arith) }

blanks_lead : (text : List ℕ) (at r : ℕ) → Blanks text at r → Leads (field_at at text) 0 r
blanks_lead text at r b =
    let e : take r (field_at at text) ≡ replicate r blank = take-take r 11 (drop at text) (omega (arith, b.few)) ∙ b.all in
    record {
      at = b.few;
      spells = sym (ap (spelled 0) e ∙ spelled_blanks r);
      leads = leading_none r ∙ sym e;
      small = omega (arith, pow-le-pow_right {n = 10} (omega arith) {i = 0} {j = r} (omega arith));
    }

-- The columns passed: up to ten lead to v; all eleven are its field.

pub data Front (f : List ℕ) (v i : ℕ) : Type 0 where
  leads : Leads f v i → Front f v i
  whole : i ≡ 11 → number_field v ≡ f → v < 100000000000 → Front f v i

-- the columns passed of the field at a cursor; a digit may come next, and only a digit
pub record Digits (text : List ℕ) (at v i : ℕ) : Type 0 where
  pub fits : at + 11 ≤ length text
  pub front : Front (field_at at text) v i
  pub next : i < 10 → v ≡ 0 → (get_or text (at + i) 0 ≢ 32) × (get_or text (at + i) 0 ≢ 48)

no_zero : (t : Bool) (b : ℕ) → t && eqb b 48 ≡ false → T t → b ≢ 48
no_zero true b e h = eqb_no b 48 e
no_zero false b e h = absurd h

pub digits_start : {text : List ℕ} {at first : ℕ} → at + 11 ≤ length text → Blanks text at first → ltb first 10 && eqb (get_or text (at + first) 0) 48 ≡ false → Digits text at 0 first
digits_start {text} {at} {first} f b e = record {
  fits = f;
  front = leads (blanks_lead text at first b);
  next = λ h z. (b.next h, no_zero (ltb first 10) (get_or text (at + first) 0) e (lt→ltb first 10 h));
}

-- a leading 0 is no number's
pub zero_fails : {text : List ℕ} {at first : ℕ} → at + 11 ≤ length text → Blanks text at first → ltb first 10 && eqb (get_or text (at + first) 0) 48 ≡ true → none ≡ read_at text at
unfolding can_lead
zero_fails {text} {at} {first} f b e =
    let t = of_true _ e in
    let h : first < 10 = ltb→lt _ _ (and_fst (ltb first 10) (eqb (get_or text (at + first) 0) 48) t) in
    let z : get_or text (at + first) 0 ≡ 48 = eqb→eq _ _ (and_snd (ltb first 10) (eqb (get_or text (at + first) 0) 48) t) in
    at_none text at (lead_fails (field_at at text) (length_here text at f) 0 first h (blanks_lead text at first b) (rw (byte_here text at first (omega arith) ∙ z)))

digit_leads : (v b : ℕ) → 48 ≤ b → b ≤ 57 → (v ≡ 0 → b ≢ 48) → can_lead v b ≡ true
unfolding can_lead
digit_leads zero b l m n =
    let k : 49 ≤ b = above (dec_lt 48 b) (n refl) in
    rw (le-leb 49 b k, le-leb b 57 m, ne_eqb b 32 (λ e. omega (arith, e)))
  where
    above : Dec (48 < b) → b ≢ 48 → 49 ≤ b
    above (yes h) n = h
    above (no h) n = absurd (n (omega arith))
digit_leads (suc v) b l m n = rw (ne_eqb (suc v) 0 (λ e. omega (arith, e)), le-leb 48 b l, le-leb b 57 m)

low_stops : (v b : ℕ) → b < 48 → (v ≡ 0 → b ≢ 32) → can_lead v b ≡ false
unfolding can_lead
low_stops zero b l n = rw (ne_eqb b 32 (n refl), lt-leb 49 b (omega arith))
low_stops (suc v) b l n = rw (ne_eqb (suc v) 0 (λ e. omega (arith, e)), lt-leb 48 b l)

high_stops : (v b : ℕ) → 57 < b → can_lead v b ≡ false
unfolding can_lead
high_stops zero b l = rw (ne_eqb b 32 (λ e. omega (arith, e)), lt-leb b 57 l) (and-false (leb 49 b))
high_stops (suc v) b l = rw (ne_eqb (suc v) 0 (λ e. omega (arith, e)), lt-leb b 57 l) (and-false (leb 48 b))

module _ {text : List ℕ} {at v i : ℕ} (w : Digits text at v i) where
  abbrev f : List ℕ
  f = field_at at text

  abbrev b : ℕ
  b = get_or text (at + i) 0

  full : length f ≡ 11
  full = length_here text at w.fits

  module _ (h : i < 11) where
    led : Leads f v i
    led = go w.front
      where
        go : Front f v i → Leads f v i
        go (leads l) = l
        go (whole e x y) = absurd (omega arith)

    byte : get_or f i 0 ≡ b
    byte = byte_here text at i h

    pub most_digits : v < 10000000000
    most_digits = most_lead f v i led

    -- i is 10: the last column is next
    last : 10 ≤ i → Leads f v 10
    last k = subst (λ (j : ℕ). Leads f v j) (omega arith) led

    last_byte : 10 ≤ i → get_or f 10 0 ≡ b
    last_byte k = let e : 10 ≡ i = omega arith in ap (λ (j : ℕ). get_or f j 0) e ∙ byte

    pub low : b < 48 → none ≡ read_at text at
    low l = go (dec_lt i 10)
      where
        go : Dec (i < 10) → none ≡ read_at text at
        go (yes k) = at_none text at (lead_fails f full v i k led (rw byte (low_stops v b l (λ z. (w.next k z).0))))
        go (no k) = at_none text at (low_fails f full v (last (omega arith)) (rw (last_byte (omega arith)) l))

    pub high : 57 < b → none ≡ read_at text at
    high l = go (dec_lt i 10)
      where
        go : Dec (i < 10) → none ≡ read_at text at
        go (yes k) = at_none text at (lead_fails f full v i k led (rw byte (high_stops v b l)))
        go (no k) = at_none text at (high_fails f full v (last (omega arith)) (rw (last_byte (omega arith)) l))

    module _ (l : 48 ≤ b) (m : b ≤ 57) {d : ℕ} (q : d ≡ b - 48) where
      front_next : Dec (i < 10) → Front f (v * 10 + d) (i + 1)
      front_next (yes k) =
          let e : can_lead v (get_or f i 0) ≡ true = rw byte (digit_leads v b l m (λ z. (w.next k z).1)) in
          let r : get_or f i 0 - 48 ≡ d = ap (λ (x : ℕ). x - 48) byte ∙ sym q in
          leads (subst (λ (x : ℕ). Leads f (v * 10 + x) (i + 1)) r (lead_next f full v i k led e))
      front_next (no k) =
          let o : 10 ≤ i = omega arith in
          let r : v * 10 + d ≡ v * 10 + (get_or f 10 0 - 48) = ap (λ (x : ℕ). v * 10 + x) (q ∙ ap (λ (x : ℕ). x - 48) (sym (last_byte o))) in
          whole (omega arith) (whole_field f full v (last o) (rw (last_byte o) l) (rw (last_byte o) m) (v * 10 + d) r) (omega (arith, most_digits))

      pub digits_next : Digits text at (v * 10 + d) (i + 1)
      digits_next = record { fits = w.fits; front = front_next (dec_lt i 10); next = λ k z. absurd ((w.next (omega arith) (omega arith)).1 (omega arith)) }

  module _ (h : 11 ≤ i) where
    all : number_field v ≡ f
    all = go w.front
      where
        go : Front f v i → number_field v ≡ f
        go (leads l) = absurd (omega (arith, l.at))
        go (whole e x y) = x

    pub large : most_number < v → none ≡ read_at text at
    large l = at_none text at (not_read f (λ n e.
        let r = field_read f n e in
        let s : n ≡ v = sym (spelled-justified n (omega (arith, r.most))) ∙ ap (spelled 0) (r.field ∙ sym all) ∙ spelled-justified v (below w.front) in
        omega (arith, r.most, s)))
      where
        below : Front f v i → v < 10 ^ 11
        below (leads l) = absurd (omega (arith, l.at))
        below (whole e x y) = omega arith

    pub done : v ≤ most_number → some (record { number = v; next = at + 11 }) ≡ read_at text at
    done l = at_some text at v (ap read_field (sym all) ∙ read_number v l)
