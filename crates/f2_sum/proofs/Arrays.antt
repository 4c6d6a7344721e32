-- The records in use of an array: the first n of them, as the format has them.
use Rattle.std.proofs.Common.{◌≡◌, ℕ, ◌+◌, ◌<◌, ◌≤◌, List, [], ◌∷◌, ◌++◌, length, take, get_or, set, map, Some, subst, sym, ap, ◌∙◌, arith}
use Rattle.std.specs.Prelude.{All, slice_get}
use Rattle.std.specs.List.{range_with_len}
use Rattle.std.proofs.lemmas.List.{length-map, length-take-le, get_or-take, get_or-map, take_more_set, map_push}
use Rattle.std.proofs.lemmas.List.Elements.{All-same, All-push}
use Rattle.std.proofs.lemmas.List.FromFn.{map-range_with_len_more}
use Rattle.std.proofs.lemmas.Option.{slice_get-get_or}

module _ {X Y : Type 0} (f : X → Y) where
  pub length-used : (n : ℕ) (xs : List X) → n ≤ length xs → length (map f (take n xs)) ≡ n
  length-used n xs inside = length-map (take n xs) f ∙ length-take-le n xs inside

  used-at : (n : ℕ) (xs : List X) (k : ℕ) (d : X) → n ≤ length xs → k < n → get_or (map f (take n xs)) k (f d) ≡ f (get_or xs k d)
  used-at n xs k d inside below =
      get_or-map f (take n xs) k d (f d) (omega (arith, length-take-le n xs inside)) ∙ ap f (get_or-take n xs k d below)

  pub get-used : (n : ℕ) (xs : List X) (k : ℕ) (d : X) → n ≤ length xs → k < n → slice_get (map f (take n xs)) k ≡ Some (f (get_or xs k d))
  get-used n xs k d inside below =
      slice_get-get_or (map f (take n xs)) k (f d) (omega (arith, length-used n xs inside)) ∙ ap (λ y. Some y) (used-at n xs k d inside below)

  -- what holds of each record in use, and of each in the array
  pub all-used : (P : Y → Type 0) (n : ℕ) (xs : List X) (k : ℕ) (d : X) → n ≤ length xs → k < n → All P (map f (take n xs)) → P (f (get_or xs k d))
  all-used P n xs k d inside below all =
      subst P (used-at n xs k d inside below) (all k (f d) (omega (arith, length-used n xs inside)))

  pub all-at : (P : Y → Type 0) (xs : List X) (k : ℕ) (d : X) → k < length xs → All P (map f xs) → P (f (get_or xs k d))
  all-at P xs k d inside all = subst P (get_or-map f xs k d (f d) inside) (all k (f d) (omega (arith, length-map xs f)))

  -- one more record in use
  pub used-more : (n : ℕ) (xs : List X) (x : X) → n < length xs → map f (take (n + 1) (set xs n x)) ≡ map f (take n xs) ++ f x ∷ []
  used-more n xs x inside = ap (map f) (take_more_set xs n x inside) ∙ map_push f (take n xs) x

  -- and it is what stands at its place
  pub filled-more : (at : ℕ → Y) (xs : List X) (k : ℕ) (x : X) → k < length xs → map f (take k xs) ≡ map at (range_with_len 0 k) → f x ≡ at k → map f (take (k + 1) (set xs k x)) ≡ map at (range_with_len 0 (k + 1))
  filled-more at xs k x inside so_far is =
      used-more k xs x inside
      ∙ (λ i. so_far i ++ is i ∷ [])
      ∙ sym (map-range_with_len_more at 0 k k (omega arith))

  pub all-more : (P : Y → Type 0) (xs : List X) (k : ℕ) (x : X) → k < length xs → All P (map f (take k xs)) → P (f x) → All P (map f (take (k + 1) (set xs k x)))
  all-more P xs k x inside all here =
      All-same P (map f (take (k + 1) (set xs k x))) (map f (take k xs) ++ f x ∷ []) (used-more k xs x inside) (All-push P (map f (take k xs)) (f x) all here)
