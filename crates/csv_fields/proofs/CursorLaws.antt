-- Reading a field at a cursor, byte by byte. Assumes nothing.
use Rattle.std.proofs.Common.{◌≡◌, ℕ, suc, ◌+◌, ◌-◌, ◌<◌, ◌≤◌, Bool, true, false, ◌||◌, eqb, List, [], ◌∷◌, ◌++◌, length, get_or, take, drop, sym, refl}
use Rattle.std.proofs.Common.{ap, ◌∙◌, subst, append-nil, add-one, arith, length-drop, drop_of_length-le, get_or-drop, drop-cons, take-suc, ne_eqb}
use Rattle.std.specs.Prelude.{Some, None}
use mathlib.Core.Option.{Option, none, some}
use lib.Seq.{append_snoc}
use Rattle.model.specs.Lists.{only_if, and_then, is_some}
use Rattle.model.specs.Fields.{Taken, taken, after_line_end}
use Rattle.csv_fields.specs.declared.Behind.TheVariants.{Comma, End}
use Rattle.model.specs.Csv.{Bytes, quote, ahead, after_end, behind, take_plain, take_quoted, take_field}
use Rattle.csv_fields.specs.Reading.{BehindIs, StopsIs, PlainEnd, between, holds_quote, Holds, ClosedAt, FoundAt, FieldIs}

pub nothing_left : (text : List ℕ) (at : ℕ) → length text ≤ at → drop at text ≡ []
nothing_left text at h = drop_of_length-le text h

-- does an unquoted field stop here?
abbrev pub stops : List ℕ → ℕ → Bool
stops text at = eqb (get_or text at 0) quote || is_some (behind (drop at text))

-- the text from a byte on
pub here_cons : (text : List ℕ) (at : ℕ) → at < length text → drop at text ≡ get_or text at 0 ∷ drop (at + 1) text
here_cons text at h = drop-cons text at 0 h ∙ ap (λ (n : ℕ). get_or text at 0 ∷ drop n text) (sym (add-one at))

pub here_two : (text : List ℕ) (at : ℕ) → at + 1 < length text → drop at text ≡ get_or text at 0 ∷ get_or text (at + 1) 0 ∷ drop (at + 2) text
here_two text at h =
    let e : at + 1 + 1 ≡ at + 2 = omega arith in
    here_cons text at (omega arith) ∙ ap (λ (l : List ℕ). get_or text at 0 ∷ l) (here_cons text (at + 1) h ∙ ap (λ (n : ℕ). get_or text (at + 1) 0 ∷ drop n text) e)

pub here_one : (text : List ℕ) (at : ℕ) → at + 1 ≡ length text → drop at text ≡ get_or text at 0 ∷ []
here_one text at h = here_cons text at (omega arith) ∙ ap (λ (l : List ℕ). get_or text at 0 ∷ l) (nothing_left text (at + 1) (omega arith))

pub between_next : (text : List ℕ) (at i : ℕ) → at ≤ i → i < length text → between at (i + 1) text ≡ between at i text ++ get_or text i 0 ∷ []
between_next text at i l h =
    let e : i + 1 - at ≡ suc (i - at) = omega arith in
    let k : at + (i - at) ≡ i = omega arith in
    ap (λ (n : ℕ). take n (drop at text)) e
    ∙ take-suc (drop at text) (i - at) 0 (omega (arith, length-drop at text))
    ∙ ap (λ (x : ℕ). between at i text ++ x ∷ []) (get_or-drop at text (i - at) 0 ∙ ap (λ (n : ℕ). get_or text n 0) k)

or-true : (b : Bool) → true ≡ b || true
or-true true = refl
or-true false = refl

-- What stands behind a field.

behind-comma : (b : ℕ) (t : List ℕ) → b ≡ 44 → behind (b ∷ t) ≡ some (taken true t)
unfolding behind
behind-comma b t e = rw e

behind_lf : (b : ℕ) (t : List ℕ) → b ≡ 10 → behind (b ∷ t) ≡ some (taken false t)
unfolding behind after_end
behind_lf b t e = rw e

behind_other : (b : ℕ) (t : List ℕ) → (b ≡ 44 → ⊥) → (b ≡ 10 → ⊥) → (b ≡ 13 → ⊥) → behind (b ∷ t) ≡ none
unfolding behind after_end
behind_other b t p q r = rw (ne_eqb b 44 p, ne_eqb b 13 r, ne_eqb b 10 q)

behind_cr : (b : ℕ) → b ≡ 13 → behind (b ∷ []) ≡ none
unfolding behind after_end after_line_end
behind_cr b e = rw e

behind_cr_other : (b c : ℕ) (t : List ℕ) → b ≡ 13 → (c ≡ 10 → ⊥) → behind (b ∷ c ∷ t) ≡ none
unfolding behind after_end after_line_end
behind_cr_other b c t e n = rw (e, ne_eqb c 10 n)

behind_crlf : (b c : ℕ) (t : List ℕ) → b ≡ 13 → c ≡ 10 → behind (b ∷ c ∷ t) ≡ some (taken false t)
unfolding behind after_end after_line_end
behind_crlf b c t e n = rw (e, n)

some_only : {A B : Type 0} (b : Bool) (t : A) (f : A → B) → b ≡ is_some (and_then (only_if b t) (λ u. some (f u)))
some_only true t f = refl
some_only false t f = refl

crlf_or_not : (b c : ℕ) (t : List ℕ) → b ≡ 13 → eqb c 10 ≡ is_some (behind (b ∷ c ∷ t))
unfolding behind after_end after_line_end
crlf_or_not b c t e = rw e (some_only (eqb c 10) t (λ (u : List ℕ). taken false u))

pub at_end : (text : List ℕ) (at : ℕ) → at ≡ length text → BehindIs text at (Some (End at))
unfolding behind
at_end text at e = record { is = rw (nothing_left text at (omega arith)); within = omega arith; moves = λ h. absurd (omega arith); on = omega arith }

module _ (text : List ℕ) (at : ℕ) (h : at < length text) where
  pub at-comma : get_or text at 0 ≡ 44 → BehindIs text at (Some (Comma (at + 1)))
  at-comma e = record { is = sym (ap behind (here_cons text at h) ∙ behind-comma _ _ e); within = omega arith; moves = λ h. omega arith; on = omega arith }

  pub at_lf : get_or text at 0 ≡ 10 → BehindIs text at (Some (End (at + 1)))
  at_lf e = record { is = sym (ap behind (here_cons text at h) ∙ behind_lf _ _ e); within = omega arith; moves = λ h. omega arith; on = omega arith }

  none_other : (get_or text at 0 ≡ 44 → ⊥) → (get_or text at 0 ≡ 10 → ⊥) → (get_or text at 0 ≡ 13 → ⊥) → behind (drop at text) ≡ none
  none_other p q r = ap behind (here_cons text at h) ∙ behind_other _ _ p q r

  none_cr : get_or text at 0 ≡ 13 → at + 1 ≡ length text → behind (drop at text) ≡ none
  none_cr e l = ap behind (here_one text at l) ∙ behind_cr _ e

  none_cr_other : get_or text at 0 ≡ 13 → at + 1 < length text → (get_or text (at + 1) 0 ≡ 10 → ⊥) → behind (drop at text) ≡ none
  none_cr_other e l n = ap behind (here_two text at l) ∙ behind_cr_other _ _ _ e n

  pub at_none : behind (drop at text) ≡ none → BehindIs text at None
  at_none e = record { is = sym e; within = omega arith; moves = λ k. k; on = omega arith }

  pub at_other : (get_or text at 0 ≡ 44 → ⊥) → (get_or text at 0 ≡ 10 → ⊥) → (get_or text at 0 ≡ 13 → ⊥) → BehindIs text at None
  at_other p q r = at_none (none_other p q r)

  pub at_cr : get_or text at 0 ≡ 13 → at + 1 ≡ length text → BehindIs text at None
  at_cr e l = at_none (none_cr e l)

  pub at_cr_other : get_or text at 0 ≡ 13 → at + 1 < length text → (get_or text (at + 1) 0 ≡ 10 → ⊥) → BehindIs text at None
  at_cr_other e l n = at_none (none_cr_other e l n)

  pub at_crlf : get_or text at 0 ≡ 13 → at + 1 < length text → get_or text (at + 1) 0 ≡ 10 → BehindIs text at (Some (End (at + 2)))
  at_crlf e l n = record { is = sym (ap behind (here_two text at l) ∙ behind_crlf _ _ _ e n); within = omega arith; moves = λ h. omega arith; on = omega arith }

  -- Where an unquoted field stops.

  pub stops_high : 44 < get_or text at 0 → StopsIs text at false
  stops_high l = record { is = rw (ne_eqb (get_or text at 0) quote (λ e. omega arith), none_other (λ e. omega arith) (λ e. omega arith) (λ e. omega arith)) }

  pub stops_comma : get_or text at 0 ≡ 44 → StopsIs text at true
  stops_comma e = record { is = rw (sym (at-comma e).is) (or-true (eqb (get_or text at 0) quote)) }

  pub stops_quote : get_or text at 0 ≡ 34 → StopsIs text at true
  stops_quote e = record { is = rw e }

  pub stops_lf : get_or text at 0 ≡ 10 → StopsIs text at true
  stops_lf e = record { is = rw (sym (at_lf e).is) (or-true (eqb (get_or text at 0) quote)) }

  pub stops_other : (get_or text at 0 ≡ 34 → ⊥) → (get_or text at 0 ≡ 44 → ⊥) → (get_or text at 0 ≡ 10 → ⊥) → (get_or text at 0 ≡ 13 → ⊥) → StopsIs text at false
  stops_other o p q r = record { is = rw (ne_eqb (get_or text at 0) quote o, none_other p q r) }

  pub stops_cr : get_or text at 0 ≡ 13 → at + 1 ≡ length text → StopsIs text at false
  stops_cr e l = record { is = rw (ne_eqb (get_or text at 0) quote (λ z. omega arith), none_cr e l) }

  pub stops_crlf : get_or text at 0 ≡ 13 → at + 1 < length text → StopsIs text at (eqb (get_or text (at + 1) 0) 10)
  stops_crlf e l = record { is = rw (ne_eqb (get_or text at 0) quote (λ z. omega arith), here_two text at l) (crlf_or_not _ _ _ e) }

-- An unquoted field.

abbrev prepend : Bytes → Taken Bytes → Taken Bytes
prepend p r = taken (p ++ r.value) r.rest

pub record Plain (text : List ℕ) (at i : ℕ) : Type 0 where
  pub low : at ≤ i
  pub high : i ≤ length text
  pub is : take_plain (drop at text) ≡ prepend (between at i text) (take_plain (drop i text))

pub between_none : (text : List ℕ) (at : ℕ) → between at at text ≡ []
between_none text at = let e : at - at ≡ 0 = omega arith in rw e

pub plain_start : (text : List ℕ) (at : ℕ) → at ≤ length text → Plain text at at
plain_start text at h = record { low = omega arith; high = h; is = rw (between_none text at) }

plain_byte : (b : ℕ) (t : List ℕ) → false ≡ eqb b quote || is_some (behind (b ∷ t)) → take_plain (b ∷ t) ≡ ahead b (take_plain t)
unfolding take_plain
plain_byte b t e = rw (sym e)

plain_stop : (b : ℕ) (t : List ℕ) → true ≡ eqb b quote || is_some (behind (b ∷ t)) → take_plain (b ∷ t) ≡ taken [] (b ∷ t)
unfolding take_plain
plain_stop b t e = rw (sym e)

snoc_prepend : (p : Bytes) (b : ℕ) (r : Taken Bytes) → prepend p (ahead b r) ≡ prepend (p ++ b ∷ []) r
snoc_prepend p b r = ap (λ (l : List ℕ). taken l r.rest) (sym (append_snoc p b r.value))

module _ {text : List ℕ} {at i : ℕ} (p : Plain text at i) where
  pub plain_next : i < length text → false ≡ stops text i → Plain text at (i + 1)
  plain_next h e =
      let q : false ≡ eqb (get_or text i 0) quote || is_some (behind (get_or text i 0 ∷ drop (i + 1) text))
      = e ∙ ap (λ (l : List ℕ). eqb (get_or text i 0) quote || is_some (behind l)) (here_cons text i h) in
      record {
        low = omega (arith, p.low);
        high = omega arith;
        is =
            p.is
            ∙ ap (prepend (between at i text)) (ap take_plain (here_cons text i h) ∙ plain_byte (get_or text i 0) (drop (i + 1) text) q)
            ∙ snoc_prepend (between at i text) (get_or text i 0) (take_plain (drop (i + 1) text))
            ∙ ap (λ (l : List ℕ). prepend l (take_plain (drop (i + 1) text))) (sym (between_next text at i p.low h));
      }

  plain_done : take_plain (drop i text) ≡ taken [] (drop i text) → PlainEnd text at i
  plain_done e = record { low = p.low; high = p.high; is = p.is ∙ ap (prepend (between at i text)) e ∙ ap (λ (l : List ℕ). taken l (drop i text)) (append-nil (between at i text)) }

  pub plain_stopped : i < length text → true ≡ stops text i → PlainEnd text at i
  plain_stopped h e =
      let c = here_cons text i h in
      let q : true ≡ eqb (get_or text i 0) quote || is_some (behind (get_or text i 0 ∷ drop (i + 1) text)) = e ∙ ap (λ (l : List ℕ). eqb (get_or text i 0) quote || is_some (behind l)) c in
      plain_done (ap take_plain c ∙ plain_stop (get_or text i 0) (drop (i + 1) text) q ∙ ap (taken []) (sym c))

  pub plain_all : length text ≤ i → PlainEnd text at (length text)
  unfolding take_plain
  plain_all h = let e : i ≡ length text = omega (arith, p.high) in subst (λ (n : ℕ). PlainEnd text at n) e (plain_done (rw (nothing_left text i h)))

-- A quoted field.

quote-joined : (p : Bytes) (b : ℕ) → holds_quote p ≡ true → holds_quote (p ++ b ∷ []) ≡ true
unfolding holds_quote
quote-joined [] b e = let z : ◌≡◌ {A = ℕ} 0 1 = cc in absurd (omega arith)
quote-joined (x ∷ p) b e = go (eqb x quote) e (quote-joined p b)
  where
    go : (c : Bool) → c || holds_quote p ≡ true → (holds_quote p ≡ true → holds_quote (p ++ b ∷ []) ≡ true) → c || holds_quote (p ++ b ∷ []) ≡ true
    go true e f = refl
    go false e f = f e

quote_last : (p : Bytes) → holds_quote (p ++ quote ∷ []) ≡ true
unfolding holds_quote
quote_last [] = refl
quote_last (x ∷ p) = go (eqb x quote) (quote_last p)
  where
    go : (c : Bool) → holds_quote (p ++ quote ∷ []) ≡ true → c || holds_quote (p ++ quote ∷ []) ≡ true
    go true e = refl
    go false e = e

pub record Quoting (text : List ℕ) (at i : ℕ) (clean : Bool) : Type 0 where
  pub low : at ≤ i
  pub high : i ≤ length text
  pub bytes : Bytes
  pub is : take_quoted (drop at text) ≡ and_then (take_quoted (drop i text)) (λ r. some (prepend bytes r))
  pub holds : Holds text at i clean bytes

same_taken : (o : Option (Taken Bytes)) → o ≡ and_then o (λ r. some (prepend [] r))
same_taken none = refl
same_taken (some r) = refl

pub quoted_start : (text : List ℕ) (at : ℕ) → at ≤ length text → Quoting text at at true
quoted_start text at h = record {
  low = omega arith;
  high = h;
  bytes = [];
  is = same_taken (take_quoted (drop at text));
  holds = record { plain = λ e. sym (between_none text at); doubled = λ e. let z : ◌≡◌ {A = ℕ} 0 1 = cc in absurd (omega arith) };
}

quoted_byte : (b : ℕ) (t : List ℕ) → (b ≡ 34 → ⊥) → take_quoted (b ∷ t) ≡ and_then (take_quoted t) (λ r. some (ahead b r))
unfolding take_quoted
quoted_byte b [] n = rw (ne_eqb b 34 n)
quoted_byte b (c ∷ t) n = rw (ne_eqb b 34 n)

quoted_two : (b c : ℕ) (t : List ℕ) → b ≡ 34 → c ≡ 34 → take_quoted (b ∷ c ∷ t) ≡ and_then (take_quoted t) (λ r. some (ahead quote r))
unfolding take_quoted
quoted_two b c t e f = rw (e, f)

quoted_close : (b c : ℕ) (t : List ℕ) → b ≡ 34 → (c ≡ 34 → ⊥) → take_quoted (b ∷ c ∷ t) ≡ some (taken [] (c ∷ t))
unfolding take_quoted
quoted_close b c t e n = rw (e, ne_eqb c 34 n)

quoted_last : (b : ℕ) → b ≡ 34 → take_quoted (b ∷ []) ≡ some (taken [] [])
unfolding take_quoted
quoted_last b e = rw e

again : (p : Bytes) (b : ℕ) (o : Option (Taken Bytes)) → and_then (and_then o (λ r. some (ahead b r))) (λ r. some (prepend p r)) ≡ and_then o (λ r. some (prepend (p ++ b ∷ []) r))
again p b none = refl
again p b (some r) = ap some (snoc_prepend p b r)

module _ {text : List ℕ} {at i : ℕ} {clean : Bool} (q : Quoting text at i clean) where
  abbrev then' : Option (Taken Bytes) → Option (Taken Bytes)
  then' o = and_then o (λ r. some (prepend q.bytes r))

  pub quoted_next : i < length text → (get_or text i 0 ≡ 34 → ⊥) → Quoting text at (i + 1) clean
  quoted_next h n = record {
    low = omega (arith, q.low);
    high = omega arith;
    bytes = q.bytes ++ get_or text i 0 ∷ [];
    is = q.is ∙ ap then' (ap take_quoted (here_cons text i h) ∙ quoted_byte _ _ n) ∙ again q.bytes (get_or text i 0) (take_quoted (drop (i + 1) text));
    holds = record {
      plain = λ e. ap (λ (l : List ℕ). l ++ get_or text i 0 ∷ []) (q.holds.plain e) ∙ sym (between_next text at i q.low h);
      doubled = λ e. quote-joined q.bytes (get_or text i 0) (q.holds.doubled e);
    };
  }

  pub quoted_doubled : i + 1 < length text → get_or text i 0 ≡ 34 → get_or text (i + 1) 0 ≡ 34 → Quoting text at (i + 2) false
  quoted_doubled h e f = record {
    low = omega (arith, q.low);
    high = omega arith;
    bytes = q.bytes ++ quote ∷ [];
    is = q.is ∙ ap then' (ap take_quoted (here_two text i h) ∙ quoted_two _ _ _ e f) ∙ again q.bytes quote (take_quoted (drop (i + 2) text));
    holds = record {
      plain = λ e. let z : ◌≡◌ {A = ℕ} 0 1 = cc in absurd (omega arith);
      doubled = λ e. quote_last q.bytes;
    };
  }

  quoted_done : i < length text → take_quoted (drop i text) ≡ some (taken [] (drop (i + 1) text)) → ClosedAt text at i clean
  quoted_done h e = record {
    low = q.low;
    high = h;
    bytes = q.bytes;
    is = q.is ∙ ap then' e ∙ ap (λ (l : List ℕ). some (taken l (drop (i + 1) text))) (append-nil q.bytes);
    holds = q.holds;
  }

  pub quoted_end_last : i + 1 ≡ length text → get_or text i 0 ≡ 34 → ClosedAt text at i clean
  quoted_end_last h e = quoted_done (omega arith) (ap take_quoted (here_one text i h) ∙ quoted_last _ e ∙ ap (λ (l : List ℕ). some (taken [] l)) (sym (nothing_left text (i + 1) (omega arith))))

  pub quoted_closed : i + 1 < length text → get_or text i 0 ≡ 34 → (get_or text (i + 1) 0 ≡ 34 → ⊥) → ClosedAt text at i clean
  quoted_closed h e n =
      let k : i + 1 + 1 ≡ i + 2 = omega arith in
      let w : drop (i + 1) text ≡ get_or text (i + 1) 0 ∷ drop (i + 2) text = here_cons text (i + 1) h ∙ ap (λ (n : ℕ). get_or text (i + 1) 0 ∷ drop n text) k in
      quoted_done (omega arith) (ap take_quoted (here_two text i h) ∙ quoted_close _ _ _ e n ∙ ap (λ (l : List ℕ). some (taken [] l)) (sym w))

  pub quoted_open : length text ≤ i → take_quoted (drop at text) ≡ none
  unfolding take_quoted
  quoted_open h = q.is ∙ ap then' (ap take_quoted (nothing_left text i h))

-- A field.

pub field_none : (text : List ℕ) (at : ℕ) → at ≡ length text → {e : ℕ} → PlainEnd text at e → FoundAt text at at e true e
unfolding take_field take_plain
field_none text at h {e} p =
    let n : drop at text ≡ [] = nothing_left text at (omega arith) in
    record {
      order = p.low;
      high = p.high;
      on = p.low;
      within = p.high;
      bytes = between at e text;
      is = ap take_field n ∙ ap some (sym (ap take_plain n) ∙ p.is);
      holds = record { plain = λ z. refl; doubled = λ z. let z : ◌≡◌ {A = ℕ} 0 1 = cc in absurd (omega arith) };
    }

field_plain_is : (b : ℕ) (t : List ℕ) → (b ≡ 34 → ⊥) → take_field (b ∷ t) ≡ some (take_plain (b ∷ t))
unfolding take_field
field_plain_is b t n = rw (ne_eqb b 34 n)

field_quoted_is : (b : ℕ) (t : List ℕ) → b ≡ 34 → take_field (b ∷ t) ≡ take_quoted t
unfolding take_field
field_quoted_is b t e = rw e

module _ (text : List ℕ) (at : ℕ) (h : at < length text) where
  pub field_plain : (get_or text at 0 ≡ 34 → ⊥) → {e : ℕ} → PlainEnd text at e → FoundAt text at at e true e
  field_plain n {e} p =
      let c = here_cons text at h in
      record {
        order = p.low;
        high = p.high;
        on = p.low;
        within = p.high;
        bytes = between at e text;
        is = ap take_field c ∙ field_plain_is _ _ n ∙ ap some (ap take_plain (sym c) ∙ p.is);
        holds = record { plain = λ z. refl; doubled = λ e. let z : ◌≡◌ {A = ℕ} 0 1 = cc in absurd (omega arith) };
      }

  pub field_quoted : get_or text at 0 ≡ 34 → {e : ℕ} {clean : Bool} → ClosedAt text (at + 1) e clean → FoundAt text at (at + 1) e clean (e + 1)
  field_quoted q p = record {
    order = p.low;
    high = omega (arith, p.high);
    on = omega (arith, p.low);
    within = omega (arith, p.high);
    bytes = p.bytes;
    is = ap take_field (here_cons text at h) ∙ field_quoted_is _ _ q ∙ p.is;
    holds = p.holds;
  }

  pub field_torn : get_or text at 0 ≡ 34 → take_quoted (drop (at + 1) text) ≡ none → FieldIs text at None
  field_torn q e = record { is = ap take_field (here_cons text at h) ∙ field_quoted_is _ _ q ∙ e }
