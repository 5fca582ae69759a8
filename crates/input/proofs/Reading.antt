-- A whole input, and what was read of it.
use Rattle.std.specs.Result.{result_or}
use Rattle.std.proofs.Common.{Result, Ok, Err, ◌≡◌, ℕ, ◌≤◌, List, ◌++◌, length, take, Option, None, Some, IfSome, sym, ap, ◌∙◌, subst, arith, append-nil, take_all, length-take-le, inl, inr}
use Rattle.std.proofs.Math.Nat.{eq-or-lt_of_le}
use Rattle.std.proofs.lemmas.List.{take-append-le}
use Rattle.std.specs.Io.KnownBytes.{Appends}
use Rattle.input.specs.Reads.{Reads}

-- what came out of `or` with an error in place of its own was there before
pub ok_before : {A E F : Type 0} (r : Result A E) (d : F) (x : A) → Ok x ≡ result_or r (Err d) → r ≡ Ok x
ok_before (Ok y) d x e = let w : y ≡ x = cc in ap Ok w
ok_before (Err y) d x e = cc

-- f does not see past the first bytes, as many as the array has: of what was read it says what it says of the whole input
pub of_whole : {X : Type 0} (f : List ℕ → X) (a b : Option (List ℕ)) (array : List ℕ) (n : ℕ)
    → ((t : List ℕ) → f (take (length array) t) ≡ f t) → n ≤ length array → Reads a b array n → IfSome a (λ t. f (take n array) ≡ f t)
of_whole f None b array n cut within read = tt
of_whole f (Some t) None array n cut within read = absurd read.0
of_whole f (Some t) (Some rest) array n cut within read =
    let front : List ℕ = take n array in
    let long : length front ≡ n = length-take-le n array within in
    elim (eq-or-lt_of_le within) [
      | inl e ↦
          let same : take (length array) t ≡ front =
          ap (take (length array)) read.0 ∙ take-append-le (length array) front rest (omega (arith, e, long)) ∙ take_all (length array) front (omega (arith, e, long)) in
          ap f (sym same) ∙ cut t
      | inr l ↦ ap f (sym (read.0 ∙ ap (λ (xs : List ℕ). front ++ xs) (read.1 l) ∙ append-nil front))
    ]

-- what was written is f of what was read, and so f of the whole input
pub written_of_whole : (f : List ℕ → List ℕ) (room : ℕ) (a b old new : Option (List ℕ)) (array written : List ℕ) (n : ℕ) → ((t : List ℕ) → f (take room t) ≡ f t)
    → length array ≡ room → n ≤ length array → Reads a b array n → written ≡ f (take n array) → Appends old new written → IfSome a (λ t. Appends old new (f t))
written_of_whole f room None b old new array written n cut long within read same wrote = tt
written_of_whole f room (Some t) b old new array written n cut long within read same wrote =
    let whole : f (take n array) ≡ f t = of_whole f (Some t) b array n (λ s. ap (λ (k : ℕ). f (take k s)) long ∙ cut s) within read in
    subst (Appends old new) (same ∙ whole) wrote
