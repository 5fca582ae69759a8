-- What a recorder call answers: the checks ahead of 10, and the slots of each call. Assumes nothing.
use Prim.Native.Nat.{ℕ, ◌+◌, ◌*◌, ◌≤◌, ◌<◌}
use mathlib.Core.Path.{◌≡◌, refl, sym, ap, ap₂, ◌∙◌}
use mathlib.Core.Bool.{Bool, true, false, cond, ◌&&◌}
use mathlib.Core.List.{List, [], ◌∷◌, ◌++◌, map}
use native.Mathlib.Omega.{arith}
use borrow.Author.Tests.{le-leb, lt-leb, eq-eqb, ne_eqb}
use lib.Dec.{T, ltb, eqb}
use lib.ListN.{length, take}
use Rattle.model.specs.declared.Delivery.{Delivery}
use Rattle.model.specs.Calendar.{Span, span}
use Rattle.model.specs.Bounds.{most_day}
use Rattle.model.specs.declared.refusal.Refusal.{Refusal}
use Rattle.model.specs.Refusals.{refusal_number}
use Rattle.model.proofs.Refusals.{refusal_some}
use Rattle.model.specs.Checks.{Check, ask, first_failed}
use Rattle.model.specs.Deliveries.{Slices, rows, Even, each_slice, among, first_match}
use Rattle.model.specs.Blocks.{Set, held, block_of, values_ok, days_ok}
use Rattle.model.specs.Calls.{Call, find, range, range_days, insert, delete, move, ordered, offered_ok, offered_days_ok}
use Rattle.model.specs.Histograms.{position, slot, histograms_size, raises, range_raises, move_raises, raise_all, counts_ok, room_to_raise}
use Rattle.model.specs.Questions.{recorder_checks}
use Rattle.model.specs.Recorder.{recorder_refusal, record_call}
use Rattle.model.proofs.Tests.{yes_first, is_true}
use Rattle.model.proofs.Deliveries.{rows-part, length-rows, first_among}
use Rattle.model.proofs.SetLaws.{spot_of, block_rises}
use Rattle.checks.proofs.Answers.{failed_first, numbered, passed_first}
use Rattle.histograms.specs.Raising.{recorded, raise_slots, room_at, raised_at, span_slots}
use Rattle.histograms.proofs.Counts.{counts_long}
use Rattle.histograms.proofs.Slots.{room_slots, raise-slots}
use Rattle.sets.specs.Sized.{counted_checks}
use Rattle.sets.proofs.Sets.{sized, set_first, blocks-least, blocks_most}

-- The set has the delivery: the first match lies before the end just if there is one.

pub has_law : (d : Delivery) (n c : ℕ) (s : Set) (u : Slices) → Even u → u ≡ each_slice (take s.used) s.slices → n ≡ first_match d (rows u) → c ≡ length u.growers
    → ltb n c ≡ among d (held s)
has_law d n c s u v e f g =
    let r : rows u ≡ held s = ap rows e ∙ rows-part s.used 0 s.slices in
    ap₂ ltb (f ∙ ap (first_match d) r) (g ∙ sym (length-rows u v) ∙ ap length r) ∙ first_among d (held s)

-- L is the block limit
module _ (L : ℕ) where
  -- What holds once the checks ahead of 10 have all passed: 10 is left to the slots that the call raises.

  pub record Passed (s : Set) (hs : List ℕ) (c : Call) : Type 0 where
    pub long : length hs ≡ histograms_size L
    pub in_order : T (ordered c)
    pub below : (g b : ℕ) → b ≡ block_of s g → b < L
    pub rising : (g h : ℕ) → g ≤ h → block_of s g ≤ block_of s h
    pub answers : (ks : List ℕ) → map (slot L) (raises s c) ≡ ks → raised_at hs ks ≡ record_call L s hs c

  module _ (s : Set) (hs : List ℕ) (c : Call) where
    abbrev ahead : List Check
    ahead = counted_checks L s hs (ordered c) (offered_ok c) (offered_days_ok c)

    abbrev ten : Check
    ten = ask 10 (room_to_raise L hs (raises s c))

    then_refused : (n : ℕ) → n ≡ first_failed ahead → (n ≡ 0 → ⊥) → recorded n hs ≡ record_call L s hs c
    unfolding record_call recorder_refusal recorder_checks
    then_refused n e h =
        let f : n ≡ first_failed (ahead ++ ten ∷ []) = e ∙ failed_first ahead _ (λ z. h (e ∙ z)) in
        rw (sym f, ne_eqb n 0 h)

    module _ (ks : List ℕ) (k : map (slot L) (raises s c) ≡ ks) (w : recorder_refusal L s hs c ≡ first_failed (ten ∷ [])) where
      by_ten : (b : Bool) → room_at hs ks ≡ b → recorder_refusal L s hs c ≡ first_failed (ask 10 b ∷ [])
      by_ten b f = w ∙ ap (λ (t : Bool). first_failed (ask 10 t ∷ [])) (sym (room_slots L hs (raises s c)) ∙ ap (room_at hs) k ∙ f)

      answer : (m : ℕ) → recorder_refusal L s hs c ≡ m → recorded m (cond (eqb m 0) (raise_all L hs (raises s c)) hs) ≡ record_call L s hs c
      unfolding record_call
      answer m f = sym (ap (λ (j : ℕ). recorded j (cond (eqb j 0) (raise_all L hs (raises s c)) hs)) f)

      by_room : (b : Bool) → room_at hs ks ≡ b → cond b (recorded 0 (raise_slots hs ks)) (recorded 10 hs) ≡ record_call L s hs c
      unfolding first_failed
      by_room true f = ap (recorded 0) (ap (raise_slots hs) (sym k) ∙ raise-slots L hs (raises s c)) ∙ answer 0 (by_ten true f)
      by_room false f = answer 10 (by_ten false f)

      then_raised : raised_at hs ks ≡ record_call L s hs c
      unfolding raised_at
      then_raised = by_room (room_at hs ks) refl

    then_passed : first_failed ahead ≡ 0 → Passed s hs c
    unfolding recorder_refusal recorder_checks numbered
    then_passed h =
        let r = set_first L s _ h in
        let c7 = yes_first 6 (ordered c) _ r.1 in
        let c8 = yes_first 7 (values_ok s && offered_ok c) _ c7.1 in
        let c19 = yes_first 18 (days_ok s && offered_days_ok c) _ c8.1 in
        let c9 = yes_first 8 (counts_ok L hs) _ c19.1 in
        let w = sized L s (sym r.0) in
        record {
          long = counts_long L hs (is_true _ c9.0);
          in_order = c7.0;
          below = λ g b e. omega (arith, e, (spot_of s (blocks-least w) g).within, blocks_most w);
          rising = block_rises s (blocks-least w);
          answers = λ ks k. then_raised ks k (passed_first ahead (ten ∷ []) tt h);
        }

    -- what the answer of these checks decides
    module _ (o v d : Bool) (e : o ≡ ordered c) (f : v ≡ offered_ok c) (k : d ≡ offered_days_ok c) where
      same_checks : counted_checks L s hs o v d ≡ ahead
      same_checks = λ i. counted_checks L s hs (e i) (f i) (k i)

      pub refused : (r : Refusal) → refusal_number r ≡ first_failed (counted_checks L s hs o v d) → recorded (refusal_number r) hs ≡ record_call L s hs c
      refused r h = then_refused (refusal_number r) (h ∙ ap first_failed same_checks) (refusal_some r)

      pub passed : 0 ≡ first_failed (counted_checks L s hs o v d) → Passed s hs c
      passed h = then_passed (sym (h ∙ ap first_failed same_checks))

  -- The slots of each call.

  module _ (s : Set) where
    pub find_slots : (g b : ℕ) → b ≡ block_of s g → map (slot L) (raises s (find g)) ≡ (0 * L + b) ∷ []
    unfolding raises slot position
    find_slots g b e = rw e

    pub insert_slots : (d : Delivery) (b : ℕ) → b ≡ block_of s d.grower → map (slot L) (raises s (insert d)) ≡ (5 * L + b) ∷ []
    unfolding raises slot position
    insert_slots d b e = rw e

    -- m: whether the set has the delivery
    module _ (d : Delivery) (b : ℕ) (e : b ≡ block_of s d.grower) (m : Bool) (v : m ≡ among d (held s)) where
      pub delete_held : m ≡ true → map (slot L) (raises s (delete d)) ≡ (4 * L + b) ∷ []
      unfolding raises slot position
      delete_held t = rw (sym v ∙ t, e)

      pub delete_missing : m ≡ false → map (slot L) (raises s (delete d)) ≡ (0 * L + b) ∷ []
      unfolding raises slot position
      delete_missing t = rw (sym v ∙ t, e)

      pub move_missing : (g : ℕ) → m ≡ false → map (slot L) (raises s (move d g)) ≡ (0 * L + b) ∷ []
      unfolding raises slot position
      move_missing g t = rw (sym v ∙ t, e)

      pub move_forward : (g a : ℕ) → a ≡ block_of s g → m ≡ true → d.grower ≤ g → map (slot L) (raises s (move d g)) ≡ (6 * L + b) ∷ (7 * L + a) ∷ []
      unfolding raises move_raises slot position
      move_forward g a f t h = rw (sym v ∙ t, le-leb d.grower g h, e, f)

      pub move_backward : (g a : ℕ) → a ≡ block_of s g → m ≡ true → g < d.grower → map (slot L) (raises s (move d g)) ≡ (8 * L + b) ∷ (9 * L + a) ∷ []
      unfolding raises move_raises slot position
      move_backward g a f t h = rw (sym v ∙ t, lt-leb d.grower g h, e, f)

  module _ (s : Set) (lo hi : ℕ) (p : Span) (a b : ℕ) (e : a ≡ block_of s lo) (f : b ≡ block_of s hi) where
    pub range_one : a ≡ b → map (slot L) (raises s (range_days lo hi p)) ≡ (0 * L + a) ∷ []
    unfolding raises range_raises slot position
    range_one h = rw (eq-eqb (block_of s lo) (block_of s hi) (omega arith), e)

    pub range_span : (a ≡ b → ⊥) → map (slot L) (raises s (range_days lo hi p)) ≡ span_slots L a b
    unfolding raises range_raises
    range_span h = rw (sym e, sym f, ne_eqb a b h)

  -- a range is one over all days
  pub range_days_lem : (s : Set) (hs : List ℕ) (lo hi : ℕ) → record_call L s hs (range_days lo hi (span 0 most_day)) ≡ record_call L s hs (range lo hi)
  unfolding record_call recorder_refusal recorder_checks ordered offered_ok offered_days_ok raises
  range_days_lem s hs lo hi = refl
