-- Writing's checks taken apart, and what it answers where they pass. Assumes nothing.
use Prim.Native.Nat.{ℕ}
use mathlib.Core.Path.{◌≡◌, refl, sym, subst}
use mathlib.Core.Bool.{Bool, true, false, cond}
use mathlib.Core.List.{List, ◌++◌}
use lib.Dec.{T, leb, eqb, eqb→eq}
use lib.ListN.{length, drop}
use Rattle.model.specs.Lists.{every}
use Rattle.model.specs.Checks.{first_failed}
use Rattle.model.specs.Deliveries.{in_range, no_day}
use Rattle.model.specs.Blocks.{slices_ok}
use Rattle.model.specs.Directory.{directory_block_ok, directory_ok}
use Rattle.model.specs.Column.{Column, all_records, sound}
use Rattle.model.specs.Snapshot.{snapshot_text}
use Rattle.model.specs.Questions.{write_checks}
use Rattle.model.specs.SnapshotCalls.{WriteResult, write_call}
use Rattle.model.proofs.Tests.{is_true, yes_first}

module _ (L : ℕ) where
  -- checks 2 3 6 6 8 19 15 of writing
  pub record Writable (c : Column) (room : ℕ) : Type 0 where
    pub block : T (directory_block_ok L c.directory)
    pub slices : T (slices_ok c.slices)
    pub shape : T (directory_ok L (length c.slices.growers) c.directory)
    pub is_sound : T (sound L c)
    pub values : T (every in_range (all_records L c))
    pub no_days : T (every no_day (all_records L c))
    pub fits : T (leb (length (snapshot_text L c)) room)

  pub writable : (c : Column) (room : ℕ) → first_failed (write_checks L c room) ≡ 0 → Writable c room
  unfolding write_checks
  writable c room e =
      let a = yes_first 1 (directory_block_ok L c.directory) _ e in
      let b = yes_first 2 (slices_ok c.slices) _ a.1 in
      let d = yes_first 5 (directory_ok L (length c.slices.growers) c.directory) _ b.1 in
      let f = yes_first 5 (sound L c) _ d.1 in
      let g = yes_first 7 (every in_range (all_records L c)) _ f.1 in
      let k = yes_first 18 (every no_day (all_records L c)) _ g.1 in
      let h = yes_first 14 (leb (length (snapshot_text L c)) room) _ k.1 in
      record { block = a.0; slices = b.0; shape = d.0; is_sound = f.0; values = g.0; no_days = k.0; fits = h.0 }

  pub writes : (c : Column) (room : ℕ) → Writable c room → first_failed (write_checks L c room) ≡ 0
  unfolding write_checks first_failed
  writes c room w =
      rw (
        is_true (directory_block_ok L c.directory) w.block,
        is_true (slices_ok c.slices) w.slices,
        is_true (directory_ok L (length c.slices.growers) c.directory) w.shape,
        is_true (sound L c) w.is_sound,
        is_true (every in_range (all_records L c)) w.values,
        is_true (every no_day (all_records L c)) w.no_days,
        is_true (leb (length (snapshot_text L c)) room) w.fits,
      )

  pub write_accepted : (c : Column) (out : List ℕ) → (write_call L c out).answer.refusal ≡ 0 → first_failed (write_checks L c (length out)) ≡ 0
  unfolding write_call
  write_accepted c out e = go (first_failed (write_checks L c (length out))) (eqb (first_failed (write_checks L c (length out))) 0) refl e
    where
      go : (n : ℕ) (b : Bool) → eqb n 0 ≡ b
          →
          (cond {A = WriteResult} b (record { answer = record { refusal = 0; bytes = length (snapshot_text L c) }; text = snapshot_text L c ++ drop (length (snapshot_text L c)) out })
          (record { answer = record { refusal = n; bytes = 0 }; text = out })).answer.refusal ≡ 0 → n ≡ 0
      go n true q r = eqb→eq n 0 (subst T (sym q) tt)
      go n false q r = r

  pub write_is : (c : Column) (out : List ℕ) → first_failed (write_checks L c (length out)) ≡ 0
      → write_call L c out ≡ record { answer = record { refusal = 0; bytes = length (snapshot_text L c) }; text = snapshot_text L c ++ drop (length (snapshot_text L c)) out }
  unfolding write_call
  write_is c out e = rw e
