-- All rows from a byte on, judged one after the other and stored in their order. Assumes nothing.
use Prim.Native.Nat.{ℕ, suc, ◌+◌, ◌-◌, ◌≤◌, ◌<◌}
use mathlib.Core.Path.{◌≡◌, refl, sym, ap, ap₂, ◌∙◌, subst}
use Rattle.std.specs.Prelude.{None, Some, min}
use Rattle.std.specs.Prelude as rust
use mathlib.Core.Option.{Option, none, some}
use mathlib.Core.List.{List, [], ◌∷◌, ◌++◌, append-nil, map}
use native.Mathlib.Omega.{arith}
use lib.ListN.{length, get_or, drop, set, length-drop, length-append, length-map, length-set}
use lib.Seq.{append_snoc, drop-cons, set_at}
use Rattle.model.specs.declared.Delivery.{Delivery}
use Rattle.model.specs.Deliveries.{grower_of, weight_of, yield_of}
use Rattle.model.specs.Csv.{Bytes}
use Rattle.model.specs.SnapshotCalls.{slots_read}
use Rattle.csv_rows.specs.declared.Columns.{Columns}
use Rattle.csv_rows.specs.declared.Row.{Row}
use Rattle.csv_rows.specs.Rows.{ColumnsOf, GoodRow, GoodRows, RowIs, rows_from, Storable, Filled, Stored, RoomFor, ReadRows}
use Rattle.csv_rows.proofs.JudgeLaws.{rows_in, rows_end, rows_good, rows_stop, behind_rows, one_row, no_rows}

-- one slot more
slot_next : (f : Delivery → ℕ) (ds : List Delivery) (d : Delivery) (old now : List ℕ) (k : ℕ)
    → k ≡ length ds
    → k < length old
    → now ≡ slots_read f ds old
    → set now k (f d) ≡ slots_read f (ds ++ d ∷ []) old
slot_next f ds d old now k e l p =
    let c : drop (length ds) old ≡ get_or old (length ds) 0 ∷ drop (suc (length ds)) old = drop-cons old (length ds) 0 (omega arith) in
    let n : suc (length ds) ≡ length (ds ++ d ∷ []) = omega (arith, length-append ds (d ∷ [])) in
    ap (λ (s : List ℕ). set s k (f d)) (p ∙ ap (λ (s : List ℕ). map f ds ++ s) c)
    ∙ set_at (map f ds) (get_or old (length ds) 0) (drop (suc (length ds)) old) (f d) k (length-map ds f ∙ sym e)
    ∙ sym (append_snoc (map f ds) (f d) (drop (suc (length ds)) old))
    ∙ ap₂ (λ (a : List ℕ) (j : ℕ). a ++ drop j old) (sym (map_snoc ds)) n
  where
    map_snoc : (ds : List Delivery) → map f (ds ++ d ∷ []) ≡ map f ds ++ f d ∷ []
    map_snoc [] = refl
    map_snoc (x ∷ ds) = ap (λ (l : List ℕ). f x ∷ l) (map_snoc ds)

not_none : {A : Type 0} {ds : List Delivery} → none ≡ some ds → A
not_none e = let z : ◌≡◌ {A = ℕ} 0 1 = cc in absurd (omega arith)

-- The rows passed, of a header: they are stored if there is room for them.

pub record Rowed (h : List Bytes) (text : List ℕ) (at room : ℕ) (gs ws ys gs' ws' ys' : List ℕ) (i m : ℕ) : Type 0 where
  pub rows : List Delivery
  pub fuel : ℕ
  pub enough : length text - i ≤ fuel
  pub is : rows_from h at text ≡ behind_rows rows (rows_in h fuel (drop i text))
  pub counted : m ≡ length rows
  pub filled : m ≤ room → Filled rows gs ws ys gs' ws' ys'

pub record Reading (text : List ℕ) (at : ℕ) (c : Columns) (room : ℕ) (gs ws ys gs' ws' ys' : List ℕ) (i m : ℕ) : Type 0 where
  pub slots : RoomFor room gs ws ys
  pub high : i ≤ length text
  pub few : m ≤ i
  pub size_growers : length gs' ≡ length gs
  pub size_weights : length ws' ≡ length ws
  pub size_yields : length ys' ≡ length ys
  pub each : (h : List Bytes) → ColumnsOf h c → Rowed h text at room gs ws ys gs' ws' ys' i m

pub read_start : {text : List ℕ} {at : ℕ} {c : Columns} {room : ℕ} {gs ws ys : List ℕ}
    → at ≤ length text → RoomFor room gs ws ys → Reading text at c room gs ws ys gs ws ys at 0
read_start {text} {at} l s = record {
  slots = s;
  high = l;
  few = omega arith;
  size_growers = refl;
  size_weights = refl;
  size_yields = refl;
  each = λ h k. record {
    rows = [];
    fuel = length (drop at text);
    enough = omega (arith, length-drop at text);
    is = no_rows (rows_from h at text);
    counted = refl;
    filled = λ z. record { growers = refl; weights = refl; yields = refl };
  };
}

module _ {text : List ℕ} {at : ℕ} {c : Columns} {room : ℕ} {gs ws ys gs' ws' ys' : List ℕ} {i m : ℕ} (p : Reading text at c room gs ws ys gs' ws' ys' i m) where
  module _ (h : List Bytes) (q : Rowed h text at room gs ws ys gs' ws' ys' i m) where
    from_here : (o : Option (List Delivery)) → rows_in h q.fuel (drop i text) ≡ o → rows_from h at text ≡ behind_rows q.rows o
    from_here o e = q.is ∙ ap (behind_rows q.rows) e

    -- one row more, whatever became of the slices
    row_next : {r : Row} {gn wn yn : List ℕ} → i < length text → i < r.next → GoodRow h text i r
        → (m + 1 ≤ room → Filled (q.rows ++ r.delivery ∷ []) gs ws ys gn wn yn) → Rowed h text at room gs ws ys gn wn yn r.next (m + 1)
    row_next {r} l s d f = record {
      rows = q.rows ++ r.delivery ∷ [];
      fuel = q.fuel - 1;
      enough = omega (arith, q.enough);
      is = from_here _ (rows_good h text l q.enough d) ∙ one_row q.rows r.delivery (rows_in h (q.fuel - 1) (drop r.next text));
      counted = omega (arith, q.counted, length-append q.rows (r.delivery ∷ []));
      filled = f;
    }

    slots_next : (d : Delivery) → m < room → Filled (q.rows ++ d ∷ []) gs ws ys (set gs' m (grower_of d)) (set ws' m (weight_of d)) (set ys' m (yield_of d))
    slots_next d l =
        let f = q.filled (omega arith) in
        record {
          growers = slot_next grower_of q.rows d gs gs' m q.counted (omega (arith, p.slots.growers)) f.growers;
          weights = slot_next weight_of q.rows d ws ws' m q.counted (omega (arith, p.slots.weights)) f.weights;
          yields = slot_next yield_of q.rows d ys ys' m q.counted (omega (arith, p.slots.yields)) f.yields;
        }

    no_more : length text ≤ i → rows_from h at text ≡ some q.rows
    no_more l = from_here (some []) (rows_end h q.fuel text i l) ∙ ap some (append-nil q.rows)

  module _ {new : Row} (l : i < length text) (r : RowIs text i c (Some new)) where
    pub read_stored : m < room → Reading text at c room gs ws ys (set gs' m new.delivery.grower) (set ws' m new.delivery.weight) (set ys' m new.delivery.oil_yield) new.next (m + 1)
    read_stored s = record {
      slots = p.slots;
      high = r.within;
      few = omega (arith, p.few, r.moves l);
      size_growers = length-set gs' m new.delivery.grower ∙ p.size_growers;
      size_weights = length-set ws' m new.delivery.weight ∙ p.size_weights;
      size_yields = length-set ys' m new.delivery.oil_yield ∙ p.size_yields;
      each = λ h k. let q = p.each h k in row_next h q l (r.moves l) (r.is h k) (λ e. slots_next h q new.delivery s);
    }

    pub read_passed : room ≤ m → Reading text at c room gs ws ys gs' ws' ys' new.next (m + 1)
    read_passed s = record {
      slots = p.slots;
      high = r.within;
      few = omega (arith, p.few, r.moves l);
      size_growers = p.size_growers;
      size_weights = p.size_weights;
      size_yields = p.size_yields;
      each = λ h k. row_next h (p.each h k) l (r.moves l) (r.is h k) (λ e. absurd (omega arith));
    }

  pub read_bad : i < length text → RowIs text i c None → ReadRows text at c room gs ws ys None gs' ws' ys'
  read_bad l r = record { judged = record { is = none_of }; stored = λ h k ds e f. not_none (sym (none_of h k) ∙ e) }
    where
      none_of : (h : List Bytes) → ColumnsOf h c → rows_from h at text ≡ none
      none_of h k = let q = p.each h k in from_here h q none (rows_stop h text l q.enough (r.is h k))

  pub read_end : length text ≤ i → ReadRows text at c room gs ws ys (Some m) gs' ws' ys'
  read_end l = record {
    judged = record { is = λ h k. let q = p.each h k in record { rows = q.rows; is = no_more h q l; counted = q.counted } };
    stored = λ h k ds e f. these h (p.each h k) ds e f;
  }
    where
      these : (h : List Bytes) (q : Rowed h text at room gs ws ys gs' ws' ys' i m) (ds : List Delivery)
          → rows_from h at text ≡ some ds → length ds ≤ room → Filled ds gs ws ys gs' ws' ys'
      these h q ds e f =
          let s : some q.rows ≡ some ds = sym (no_more h q l) ∙ e in
          let w : q.rows ≡ ds = cc in
          subst (λ (t : List Delivery). Filled t gs ws ys gs' ws' ys') w (q.filled (omega (arith, q.counted, ap length w)))

-- Rows that are good and fit into each slice are stored: every header with these columns has as many.

counted_as : {h : List Bytes} {text : List ℕ} {at m : ℕ} (ds : List Delivery) → GoodRows h text at m → rows_from h at text ≡ some ds → m ≡ length ds
counted_as ds q e =
    let s : some q.rows ≡ some ds = sym q.is ∙ e in
    let w : q.rows ≡ ds = cc in q.counted ∙ ap length w

module _ {text : List ℕ} {at : ℕ} {c : Columns} {gs ws ys : List ℕ} (s : Storable text at c gs ws ys) {room : ℕ}
    (n : room ≡ min (min (length gs) (length ws)) (length ys)) {gs' ws' ys' : List ℕ} where
  pub all_stored : (r : rust.Option ℕ) → ReadRows text at c room gs ws ys r gs' ws' ys' → Stored text at c gs ws ys gs' ws' ys'
  all_stored (Some m) p = record {
    is = λ h k ds e.
        let own = counted_as s.rows (p.judged.is s.header s.columns) s.is in
        p.stored h k ds e (omega (arith, own, n, s.fits_growers, s.fits_weights, s.fits_yields, counted_as ds (p.judged.is h k) e));
  }
  all_stored None p = record { is = λ h k ds e. not_none (sym (p.judged.is h k) ∙ e) }
