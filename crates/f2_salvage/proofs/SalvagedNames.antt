-- The names of the salvage: where each comes from, and that it stands once.
use Rattle.std.proofs.Common.{◌≡◌, ℕ, ◌+◌, ◌^◌, ◌<◌, ◌≤◌, ◌⊎◌, List, [], ◌∷◌, ◌++◌, Bool, true, false, ◌&&◌, ◌||◌, ◌==◌, cond, filter, map, refl, sym, ap, ◌∙◌, ⊎_elim, arith, append-nil, append_assoc}
use Rattle.std.specs.Prelude.{flat_map, is_some, count_by}
use Rattle.std.specs.List.{list_any}
use Rattle.std.specs.Str.{bytes_eq}
use Rattle.std.proofs.lemmas.Bool.{and_parts, false≢true, ne_eqb, false_from_ne_true, ltb-false}
use Rattle.std.proofs.lemmas.List.Sums.{sum_by-cons, sum_by-append}
use Rattle.std.proofs.lemmas.List.Folds.{list_any_none}
use Rattle.std.proofs.lemmas.Slice.Eq.{bytes_eq-Decides}
use Rattle.f2_bytes.specs.Bytes.{Image, numbers_below}
use Rattle.f2_bytes.specs.Superblock.{super_copy, layout}
use Rattle.f2_bytes.specs.NodeAddressTable.{nid_limit}
use Rattle.f2_bytes.specs.SalvagedFiles.{is_file}
use Rattle.f2_bytes.specs.Claims.{Claim, same_name, is_on, kept_claims}
use Rattle.f2_bytes.specs.LostFiles.{is_lost, lost_files, least_free_nid, makes_lost_directory, lost_directory, lost_name, lost_claim, made_claim}
use Rattle.f2_salvage.proofs.GoodClaims.{same_name-itself}
use Rattle.f2_salvage.proofs.ListFacts.{cons_parts, split-nil, split-below, count_by-some}
use Rattle.f2_salvage.proofs.LostNames.{eqb-sym, kept_at-same_name, least_free, least_free-no_file, file_name, IsMadePlace, place-cases}
use Rattle.f2_salvage.proofs.NameFacts.{bytes_eq-sym, any-middle}
use Rattle.f2_salvage.proofs.NumberedNames.{numbered-apart}
use Rattle.f2_salvage.proofs.Owners.{list_any-flat_map}
use Rattle.f2_salvage.proofs.Sizes.{nids-range}
use Rattle.f2_salvage.proofs.SlotPlaces.{All-below}

-- ---- lists

-- what a filter leaves, each changed
pub changed-filter : {A B : Type 0} (h : A → B) (p : A → Bool) (xs : List A) → map h (filter p xs) ≡ flat_map (λ x. cond (p x) (h x ∷ []) []) xs
changed-filter h p [] = refl
changed-filter {B = B} h p (x ∷ xs) = go (p x) refl (changed-filter h p xs)
  where
    go : (b : Bool) → p x ≡ b → map h (filter p xs) ≡ flat_map (λ y. cond {A = List B} (p y) (h y ∷ []) []) xs → map h (filter p (x ∷ xs)) ≡ flat_map (λ y. cond {A = List B} (p y) (h y ∷ []) []) (x ∷ xs)
    go true e more = rw e (ap (λ l. h x ∷ l) more)
    go false e more = rw e more

-- the only element of a list
pub split-one : {A : Type 0} (b r : List A) (x y : A) → b ++ x ∷ r ≡ y ∷ [] → (b ≡ []) × (x ≡ y)
split-one [] r x y e = (refl, (cons_parts x y r [] e).0)
split-one (z ∷ b) r x y e = absurd (split-nil b r x (cons_parts z y (b ++ x ∷ r) [] e).1)

-- an element that passes
pub any-split : {A : Type 0} (p : A → Bool) (xs : List A) → list_any p xs ≡ true → (b : List A) × (r : List A) × (x : A) × (b ++ x ∷ r ≡ xs) × (p x ≡ true)
any-split p [] h = absurd (false≢true h)
any-split {A = A} p (y ∷ ys) h = go (p y) refl h (any-split p ys)
  where
    go : (f : Bool) → p y ≡ f → (f || list_any p ys) ≡ true → (list_any p ys ≡ true → (b : List A) × (r : List A) × (x : A) × (b ++ x ∷ r ≡ ys) × (p x ≡ true)) → (b : List A) × (r : List A) × (x : A) × (b ++ x ∷ r ≡ y ∷ ys) × (p x ≡ true)
    go true e h more = ([], ys, y, refl, e)
    go false e h more = let t = more h in (y ∷ t.0, t.1, t.2, ap (λ l. y ∷ l) t.3, t.4)

pub count-none : {A : Type 0} (p : A → Bool) (xs : List A) → list_any p xs ≡ false → count_by p xs ≡ 0
count-none p xs h = let low = ltb-false 0 (count_by p xs) (count_by-some p xs ∙ h) in omega (arith, low)

pub count-append : {A : Type 0} (p : A → Bool) (xs ys : List A) → count_by p (xs ++ ys) ≡ count_by p xs + count_by p ys
count-append p xs ys = sum_by-append (λ x. cond (p x) 1 0) xs ys

pub count-one : {A : Type 0} (p : A → Bool) (x : A) (xs : List A) → p x ≡ true → count_by p (x ∷ xs) ≡ 1 + count_by p xs
count-one p x xs h = sum_by-cons (λ y. cond (p y) 1 0) x xs ∙ ap (λ b. cond b 1 0 + count_by p xs) h

same_name-sym : (c d : Claim) → same_name c d ≡ same_name d c
same_name-sym c d = λ i. eqb-sym c.directory d.directory i && bytes_eq-sym c.name d.name i

-- where no name before an element is the same, each stands once
pub count-apart : (xs : List Claim) → ((b r : List Claim) (c : Claim) → b ++ c ∷ r ≡ xs → list_any (same_name c) b ≡ false) → (b r : List Claim) (c : Claim) → b ++ c ∷ r ≡ xs → count_by (same_name c) xs ≡ 1
count-apart xs apart b r c e =
    let before = count-none (same_name c) b (apart b r c e) in
    let after = count-none (same_name c) r (false_from_ne_true (list_any (same_name c) r) (λ some.
    let t = any-split (same_name c) r some in
    let split : (b ++ c ∷ t.0) ++ t.2 ∷ t.1 ≡ xs = append_assoc b (c ∷ t.0) (t.2 ∷ t.1) ∙ ap (λ l. b ++ c ∷ l) t.3 ∙ e in
    let none = apart (b ++ c ∷ t.0) t.1 t.2 split in
    let here = any-middle (same_name t.2) b t.0 c (same_name-sym t.2 c ∙ t.4) in
    false≢true (sym none ∙ here))) in
    let one = count-one (same_name c) c r (same_name-itself c) in
    let whole = count-append (same_name c) b (c ∷ r) in
    ap (count_by (same_name c)) (sym e) ∙ omega (arith, before, after, one, whole)

module _ (image : Image) where
  -- a kept name, that of a lost file, or that of a directory that is made
  abbrev pub IsKeptClaim : Claim → Type 0
  IsKeptClaim c = (b : List Claim) × (r : List Claim) × (b ++ c ∷ r ≡ kept_claims image)

  abbrev pub IsLostClaim : Claim → Type 0
  IsLostClaim c = (ino : ℕ) × (ino < nid_limit (layout image)) × (is_lost image ino ≡ true) × (c ≡ lost_claim image ino)

  abbrev pub IsMadeClaim : Claim → Type 0
  IsMadeClaim c = (makes_lost_directory image ≡ true) × (c ≡ made_claim image)

  abbrev pub Origin : Claim → Type 0
  Origin c = IsKeptClaim c ⊎ (IsLostClaim c ⊎ IsMadeClaim c)

  unfoldable pub lost_names : List Claim
  lost_names = map (lost_claim image) (lost_files image)

  unfoldable pub made_names : List Claim
  made_names = cond (makes_lost_directory image) (made_claim image ∷ []) []

module _ (image : Image) (copied : is_some (super_copy image) ≡ true) where
  pub limit-small : nid_limit (layout image) < 2 ^ 32
  limit-small = let range = nids-range image copied in omega (arith, range.1)

  -- the names of two lost files differ
  lost-apart : (i j : ℕ) → i < nid_limit (layout image) → j < nid_limit (layout image) → (i ≡ j → ⊥) → same_name (lost_claim image i) (lost_claim image j) ≡ false
  lost-apart i j below_i below_j other = false_from_ne_true _ (λ same.
      let names_same : lost_name image i ≡ lost_name image j = (bytes_eq-Decides (lost_name image i) (lost_name image j)).0 (and_parts (lost_directory image == lost_directory image) (bytes_eq (lost_name image i) (lost_name image j)) same).1 in
      let n = file_name image copied i in
      let m = file_name image copied j in
      let small = limit-small in
      other (numbered-apart i j n.0 m.0 (omega (arith, below_i, small)) (omega (arith, below_j, small)) (sym n.2 ∙ names_same ∙ m.2)))

  -- what stands before the name of a lost file among such names
  pub lost-split : (b r : List Claim) (c : Claim) → b ++ c ∷ r ≡ lost_names image → IsLostClaim image c × (list_any (same_name c) b ≡ false) × (list_any (is_on c.target) b ≡ false)
  unfolding lost_names
  lost-split b r c e = go (is_lost image t.0) refl t.5
    where
      each : ℕ → List Claim
      each i = cond (is_lost image i) (lost_claim image i ∷ []) []

      t : (k : ℕ) × (k < nid_limit (layout image)) × (d : List Claim) × (s : List Claim) × (b ≡ flat_map each (numbers_below k) ++ d) × (d ++ c ∷ s ≡ each k)
      t = split-below each (nid_limit (layout image)) b r c (e ∙ changed-filter (lost_claim image) (is_lost image) (numbers_below (nid_limit (layout image))))

      none : (p : Claim → Bool) → t.2 ≡ [] → ((j : ℕ) → j < t.0 → p (lost_claim image j) ≡ false) → list_any p b ≡ false
      none p empty fails =
          ap (list_any p) (t.4 ∙ ap (λ l. flat_map each (numbers_below t.0) ++ l) empty ∙ append-nil (flat_map each (numbers_below t.0)))
          ∙ list_any-flat_map p each (numbers_below t.0)
          ∙ list_any_none (λ j. list_any p (each j)) (numbers_below t.0) (All-below (λ j. list_any p (each j) ≡ false) t.0 (λ j before. by_lost j (is_lost image j) (fails j before)))
        where
          by_lost : (j : ℕ) (l : Bool) → p (lost_claim image j) ≡ false → list_any p (cond l (lost_claim image j ∷ []) []) ≡ false
          by_lost j true f = rw f refl
          by_lost j false f = refl

      go : (l : Bool) → is_lost image t.0 ≡ l → t.2 ++ c ∷ t.3 ≡ cond l (lost_claim image t.0 ∷ []) [] → IsLostClaim image c × (list_any (same_name c) b ≡ false) × (list_any (is_on c.target) b ≡ false)
      go false l here = absurd (split-nil t.2 t.3 c here)
      go true l here =
          let one = split-one t.2 t.3 c (lost_claim image t.0) here in (
            (t.0, t.1, l, one.1),
            none (same_name c) one.0 (λ j before. ap (λ d. same_name d (lost_claim image j)) one.1 ∙ lost-apart t.0 j t.1 (let top = t.1 in omega (arith, before, top)) (λ same. omega (arith, same, before))),
            none (is_on c.target) one.0 (λ j before. ap (λ d. is_on d.target (lost_claim image j)) one.1 ∙ ne_eqb j t.0 (λ same. omega (arith, same, before))),
          )

  -- no kept name is that of a lost file
  pub lost-new : (i : ℕ) → list_any (same_name (lost_claim image i)) (kept_claims image) ≡ false
  lost-new i = kept_at-same_name image (lost_claim image i) ∙ (file_name image copied i).3

  -- where the directory is made it has a number of its own, and its name is new
  pub made-place : makes_lost_directory image ≡ true → IsMadePlace image copied
  made-place makes = ⊎_elim (λ kept. absurd (false≢true (sym kept.7 ∙ makes))) (λ made. made) (place-cases image copied)

  pub made-number : makes_lost_directory image ≡ true → (lost_directory image ≡ least_free_nid image) × (4 ≤ lost_directory image) × (is_file image (lost_directory image) ≡ false)
  made-number makes =
      let place = (made-place makes).0 in
      let low = (least_free image).1 in
      (place, omega (arith, place, low), ap (is_file image) place ∙ least_free-no_file image)
