-- A column of proper shape, sound and with every value and day in range: its records, and what its calls scan. Assumes nothing.
use Prim.Native.Nat.{ℕ, ◌+◌, ◌-◌, ◌≤◌, ◌<◌}
use mathlib.Core.Path.{◌≡◌, refl, sym, ap, ◌∙◌, subst}
use mathlib.Core.Bool.{Bool, true, ◌&&◌}
use mathlib.Core.List.{List, [], ◌∷◌, ◌++◌, map, flatten, append-nil}
use native.Mathlib.Omega.{arith}
use lib.Dec.{T, leb, ltb, leb→le, le→leb, eqb→eq}
use lib.ListN.{length, take, drop, get_or, get_or-map}
use lib.Seq.{drop-cons, length-take-le}
use Rattle.model.specs.declared.Delivery.{Delivery}
use Rattle.model.specs.Lists.{sum_of, every, keep}
use Rattle.model.specs.Checks.{Check, first_failed}
use Rattle.model.specs.Calendar.{Span}
use Rattle.model.specs.Deliveries.{Slices, Even, in_range, day_ok, same, among, matches, on_days}
use Rattle.model.specs.Blocks.{slices_ok}
use Rattle.model.specs.Partitions.{parts, part, between, start_of}
use Rattle.model.specs.Directory.{partition_count, directory_block_ok, directory_ok}
use Rattle.model.specs.Column.{Column, slots, in_place, sound_growers, lengths_of, fences_of, target, records_of, records_near, all_records}
use Rattle.model.specs.Column.{sound, scanned_ok, scanned_days_ok, has_free_slot, has_delivery}
use Rattle.model.specs.Questions.{lent_checks}
use Rattle.model.proofs.Tests.{and_fst, and_snd, and_mk, pairs_swap, is_true, yes_first, first_passed}
use Rattle.model.proofs.ListLaws.{sum_cut, sum-take_le, every-part, keep_swap}
use Rattle.model.proofs.Deliveries.{same_equal, slices_for_lem, length-rows}
use Rattle.model.proofs.SetLaws.{sliced}
use Rattle.model.proofs.Places.{Placed, placed, placed_mono}
use Rattle.model.proofs.Parts.{flatten-parts, between_is, length-parts, lengths_parts}
use Rattle.model.proofs.DirectoryLaws.{Shaped, shaped, shaped_passes, length_lengths, length_fences}
use Rattle.model.proofs.MovesMap.{map-parts}
use Rattle.model.proofs.MovesKeep.{Sound}
use Rattle.model.proofs.SoundLaws.{every_at-sound}
use Rattle.theorems.proofs.OneDelivery.{among_kept}
use Rattle.theorems.proofs.Scans.{sound_mapped, kept_scan}

-- 8 and 19 of one delivery
abbrev pub passes : Delivery → Bool
passes d = in_range d && day_ok d

pub every_passes : (l : List Delivery) → every passes l ≡ every in_range l && every day_ok l
unfolding every
every_passes [] = refl
every_passes (d ∷ l) = ap (λ (t : Bool). passes d && t) (every_passes l) ∙ pairs_swap (in_range d) (day_ok d) (every in_range l) (every day_ok l)

pub both_pass : (l : List Delivery) → T (every in_range l) → T (every day_ok l) → T (every passes l)
both_pass l v n = subst T (sym (every_passes l)) (and_mk (every in_range l) (every day_ok l) v n)

module _ (L : ℕ) where
  pub record Valid (c : Column) : Type 0 where
    pub block_ok : T (directory_block_ok L c.directory)
    pub slices_ok_lem : T (slices_ok c.slices)
    pub shape : Shaped L (length c.slices.growers) c.directory
    pub sound : T (sound L c)
    pub values : T (every passes (all_records L c))

  pub valid : (c : Column) → first_failed (lent_checks L c) ≡ 0 → T (sound L c) → T (every in_range (all_records L c)) → T (every day_ok (all_records L c)) → Valid c
  valid c h s v n =
      let c2 = yes_first 1 (directory_block_ok L c.directory) _ h in
      let c3 = yes_first 2 (slices_ok c.slices) _ c2.1 in
      let c6 = yes_first 5 (directory_ok L (length c.slices.growers) c.directory) _ c3.1 in
      record { block_ok = c2.0; slices_ok_lem = c3.0; shape = shaped L _ _ c6.0; sound = s; values = both_pass (all_records L c) v n }

  module _ (c : Column) (v : Valid c) where
    pub even_slices : Even c.slices
    even_slices = (sliced c.slices v.slices_ok_lem).even

    -- there are as many lengths as fences, and every grower has its partition
    pub count_lengths : length (lengths_of L c) ≡ partition_count L c.directory
    count_lengths = length_lengths L _ _ v.shape

    pub place_of : (g : ℕ) → Placed (fences_of L c) g (target L c g)
    place_of g = placed (fences_of L c) g (rw (length_fences L _ _ v.shape) v.shape.some)

    pub target_there : (g : ℕ) → target L c g < length (lengths_of L c)
    target_there g = rw count_lengths (rw (length_fences L _ _ v.shape) at (place_of g).within)

    -- the slots
    growers_of : c.slices.growers ≡ map (λ (d : Delivery). d.grower) (slots c)
    growers_of = ap (λ (s : Slices). s.growers) (sym (slices_for_lem c.slices even_slices))

    length-slots : length (slots c) ≡ length c.slices.growers
    length-slots = length-rows c.slices even_slices

    pub room : sum_of (lengths_of L c) ≤ length (slots c)
    room = rw length-slots v.shape.room

    pub length_records : length (all_records L c) ≡ sum_of (lengths_of L c)
    length_records = ap length (flatten-parts (lengths_of L c) (slots c)) ∙ length-take-le (sum_of (lengths_of L c)) (slots c) room

    -- every record is in its grower's partition: the growers alone, and the records
    pub sound_growers_lem : Sound (λ (p g : ℕ). T (in_place (fences_of L c) p g)) 0 (parts (lengths_of L c) c.slices.growers)
    unfolding sound sound_growers
    sound_growers_lem = every_at-sound (in_place (fences_of L c)) 0 (parts (lengths_of L c) c.slices.growers) v.sound

    pub sound-slots : Sound (λ (p : ℕ) (d : Delivery). T (in_place (fences_of L c) p d.grower)) 0 (parts (lengths_of L c) (slots c))
    sound-slots =
        let f : Delivery → ℕ = λ (d : Delivery). d.grower in
        let e : parts (lengths_of L c) c.slices.growers ≡ map (map f) (parts (lengths_of L c) (slots c))
        = ap (parts (lengths_of L c)) growers_of ∙ sym (map-parts f (lengths_of L c) (slots c)) in
        sound_mapped f (λ (p g : ℕ). T (in_place (fences_of L c) p g)) 0 (parts (lengths_of L c) (slots c))
        (subst (λ (ps : List (List ℕ)). Sound (λ (p g : ℕ). T (in_place (fences_of L c) p g)) 0 ps) e sound_growers_lem)

    -- a scan from lo's partition to hi's finds every match
    pub scan_finds : (lo hi : ℕ) → keep (matches lo hi) (records_of L c (target L c lo) (target L c hi)) ≡ keep (matches lo hi) (all_records L c)
    unfolding between
    scan_finds lo hi =
        kept_scan _ (matches lo hi) (target L c lo) (target L c hi) (parts (lengths_of L c) (slots c)) sound-slots only
      where
        only : (j : ℕ) (d : Delivery) → T (in_place (fences_of L c) j d.grower) → T (matches lo hi d) → (target L c lo ≤ j) × (j ≤ target L c hi)
        only j d h t =
            let e : target L c d.grower ≡ j = eqb→eq _ _ h in
            let a : lo ≤ d.grower = leb→le _ _ (and_fst (leb lo d.grower) (leb d.grower hi) t) in
            let b : d.grower ≤ hi = leb→le _ _ (and_snd (leb lo d.grower) (leb d.grower hi) t) in
            let x = placed_mono (fences_of L c) lo d.grower _ _ a (place_of lo) (place_of d.grower) in
            let y = placed_mono (fences_of L c) d.grower hi _ _ b (place_of d.grower) (place_of hi) in
            (omega arith, omega arith)

    -- and every match of some days
    pub scan_finds-on : (lo hi : ℕ) (s : Span)
        → keep (matches lo hi) (keep (on_days s) (records_of L c (target L c lo) (target L c hi))) ≡ keep (matches lo hi) (keep (on_days s) (all_records L c))
    scan_finds-on lo hi s =
        keep_swap (matches lo hi) (on_days s) (records_of L c (target L c lo) (target L c hi))
        ∙ ap (keep (on_days s)) (scan_finds lo hi) ∙ keep_swap (on_days s) (matches lo hi) (all_records L c)

    -- check 13: a delivery is in its grower's partition just if the column holds it
    pub has_is : (d : Delivery) → has_delivery L c d ≡ among d (all_records L c)
    unfolding has_delivery
    has_is d =
        let g = d.grower in
        let near : Delivery → Bool = matches g g in
        sym (among_kept d near own (records_near L c g)) ∙ ap (among d) (scan_finds g g) ∙ among_kept d near own (all_records L c)
      where
        own : (r : Delivery) → T (same d r) → T (matches d.grower d.grower r)
        own r t =
            let e : d.grower ≡ r.grower = ap (λ (x : Delivery). x.grower) (same_equal d r t) in
            let t : T (leb r.grower r.grower) = le→leb r.grower r.grower (omega arith) in
            rw e (and_mk (leb r.grower r.grower) (leb r.grower r.grower) t t)

    -- what every record passes
    values_of : T (every in_range (all_records L c)) × T (every day_ok (all_records L c))
    values_of =
        let a = every in_range (all_records L c) in
        let b = every day_ok (all_records L c) in
        let t = subst T (every_passes (all_records L c)) v.values in
        (and_fst a b t, and_snd a b t)

    pub in_range_lem : T (every in_range (all_records L c))
    in_range_lem = values_of.0

    pub days_in_range : T (every day_ok (all_records L c))
    days_in_range = values_of.1

    -- and so does every partition scanned
    scanned_pass : (f : Delivery → Bool) → T (every f (all_records L c)) → (lo hi : ℕ) → every f (records_of L c (target L c lo) (target L c hi)) ≡ true
    unfolding start_of
    scanned_pass f t lo hi =
        let p = target L c lo in
        let q = target L c hi in
        let ns = lengths_of L c in
        let rest = drop p ns in
        is_true (every f (between ns p q (slots c)))
        (rw (between_is ns p q (slots c))
        (every-part f (sum_of (take p ns)) (sum_of (take (q + 1 - p) rest)) (sum_of ns) (slots c) (omega (arith, sum_cut p ns, sum-take_le rest (q + 1 - p)))
        (subst (λ (l : List Delivery). T (every f l)) (flatten-parts ns (slots c)) t)))

    -- checks 8 and 19 of a scan
    pub scanned_passes : (lo hi : ℕ) → scanned_ok L c lo hi ≡ true
    unfolding scanned_ok
    scanned_passes = scanned_pass in_range in_range_lem

    pub scanned_days_pass : (lo hi : ℕ) → scanned_days_ok L c lo hi ≡ true
    unfolding scanned_days_ok
    scanned_days_pass = scanned_pass day_ok days_in_range

    -- check 12: as many slots are used as there are records
    pub free-slot_is : has_free_slot L c ≡ ltb (length (all_records L c)) (length c.slices.growers)
    unfolding has_free_slot
    free-slot_is = rw length_records

    -- checks 2 3 6 pass
    pub lent_pass : (cs : List Check) → first_failed (lent_checks L c ++ cs) ≡ first_failed cs
    lent_pass cs =
        first_passed 2 (directory_block_ok L c.directory) _ v.block_ok
        ∙ first_passed 3 (slices_ok c.slices) _ v.slices_ok_lem
        ∙ first_passed 6 (directory_ok L (length c.slices.growers) c.directory) cs (shaped_passes L _ _ v.shape)

    -- the records of one partition
    pub near_is : (g : ℕ) → records_near L c g ≡ part (target L c g) (parts (lengths_of L c) (slots c))
    unfolding between flatten
    near_is g =
        let t = target L c g in
        let ps = parts (lengths_of L c) (slots c) in
        let e : t + 1 - t ≡ 1 = omega arith in
        rw (e, drop-cons ps t [] (rw length-parts (target_there g))) (append-nil (part t ps))

    pub length_part : (t : ℕ) → length (part t (parts (lengths_of L c) (slots c))) ≡ get_or (lengths_of L c) t 0
    length_part t =
        sym (get_or-map length (parts (lengths_of L c) (slots c)) t [])
        ∙ ap (λ (ns : List ℕ). get_or ns t 0) (lengths_parts (lengths_of L c) (slots c) room)
