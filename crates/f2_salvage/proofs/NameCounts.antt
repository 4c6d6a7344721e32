-- How many names a file has in the salvage.
use Rattle.std.proofs.Common.{◌≡◌, ℕ, ◌+◌, ◌-◌, ◌^◌, ◌<◌, ◌≤◌, List, [], ◌∷◌, ◌++◌, Bool, true, false, not, ◌&&◌, ◌||◌, ◌==◌, nat_lt, cond, refl, sym, ap, ◌∙◌, arith, append-nil, append_assoc}
use Rattle.std.specs.Prelude.{is_some, count_by}
use Rattle.std.specs.List.{list_any}
use Rattle.std.proofs.lemmas.Bool.{and_parts, and_from, not-true, false≢true, eqb-true, ne_eqb, eq-eqb, false_from_ne_true, ltb-true}
use Rattle.f2_bytes.specs.Bytes.{Image, numbers_below}
use Rattle.f2_bytes.specs.Superblock.{super_copy, layout}
use Rattle.f2_bytes.specs.NodeAddressTable.{nid_limit}
use Rattle.f2_bytes.proofs.Below.{some_below}
use Rattle.f2_bytes.specs.SalvagedFiles.{root, is_file, is_directory_file}
use Rattle.f2_bytes.specs.Claims.{Claim, is_on, filter_after, good_claims, is_kept, is_own_ancestor, kept_claims}
use Rattle.f2_bytes.specs.LostFiles.{is_lost, makes_lost_directory, lost_directory, is_made, lost_claim, made_claim, lost_files}
use Rattle.f2_bytes.specs.Salvage.{names}
use Rattle.f2_bytes.specs.RebuiltDirectories.{is_salvaged_file}
use Rattle.f2_bytes.specs.Mending.{is_salvaged_directory}
use Rattle.f2_salvage.specs.NameLaws.{IsFirstClaim, HasNames, FilesHaveNames}
use Rattle.f2_salvage.proofs.FileSupport.{node_low, file_inode}
use Rattle.f2_salvage.proofs.FilterAfter.{All-there}
use Rattle.f2_salvage.proofs.GoodClaims.{kept-split, kept-first}
use Rattle.f2_salvage.proofs.ListFacts.{count_by-some}
use Rattle.f2_salvage.proofs.NamesStand.{lost-says, kept_or_lost}
use Rattle.f2_salvage.proofs.Owners.{list_any-map, list_any-filter}
use Rattle.f2_salvage.proofs.SalvagedNames.{any-split, count-none, count-append, count-one, lost_names, made_names, lost-split, made-number}

-- ---- counts

-- what can be counted, where each element that passes stands behind fewer
count-limit : {A : Type 0} (p : A → Bool) (most : ℕ) (before xs : List A) → ((b r : List A) (x : A) → b ++ x ∷ r ≡ before ++ xs → p x ≡ true → count_by p b < most) → count_by p before ≤ most → count_by p (before ++ xs) ≤ most
count-limit p most before [] each low = let same = ap (count_by p) (append-nil before) in omega (arith, same, low)
count-limit {A = A} p most before (x ∷ xs) each low =
    let whole : (before ++ x ∷ []) ++ xs ≡ before ++ x ∷ xs = append_assoc before (x ∷ []) xs in
    let more = count-limit p most (before ++ x ∷ []) xs (λ b r y e. each b r y (e ∙ whole)) (go (p x) refl) in
    let same = ap (count_by p) whole in
    omega (arith, more, same)
  where
    go : (f : Bool) → p x ≡ f → count_by p (before ++ x ∷ []) ≤ most
    go true e =
        let fewer = each before xs x refl e in
        let sum = count-append p before (x ∷ []) in
        let one = count-one p x [] e in
        let none = count-none p [] refl in
        omega (arith, fewer, sum, one, none)
    go false e =
        let sum = count-append p before (x ∷ []) in
        let none = count-none p (x ∷ []) (rw e refl) in
        omega (arith, low, sum, none)

count-first : {A : Type 0} (p : A → Bool) (x : A) (xs : List A) → count_by p xs ≤ count_by p (x ∷ xs)
count-first p x xs = go (p x) refl
  where
    sum : count_by p (x ∷ xs) ≡ count_by p (x ∷ []) + count_by p xs
    sum = count-append p (x ∷ []) xs

    go : (f : Bool) → p x ≡ f → count_by p xs ≤ count_by p (x ∷ xs)
    go f e = let s = sum in omega (arith, s)

count-filter_after : {A : Type 0} (p : A → Bool) (test : List A → A → Bool) (before xs : List A) → count_by p (filter_after test before xs) ≤ count_by p xs
unfolding filter_after
count-filter_after p test before [] = omega arith
count-filter_after {A = A} p test before (y ∷ ys) = go (test before y) (count-filter_after p test (before ++ y ∷ []) ys)
  where
    rest : List A
    rest = filter_after test (before ++ y ∷ []) ys

    go : (t : Bool) → count_by p rest ≤ count_by p ys → count_by p (cond t (y ∷ rest) rest) ≤ count_by p (y ∷ ys)
    go true more =
        let left = count-append p (y ∷ []) rest in
        let right = count-append p (y ∷ []) ys in
        omega (arith, more, left, right)
    go false more = let right = count-first p y ys in omega (arith, more, right)

pub count-some : {A : Type 0} (p : A → Bool) (xs : List A) → list_any p xs ≡ true → 1 ≤ count_by p xs
count-some p xs h = let low = ltb-true 0 (count_by p xs) (count_by-some p xs ∙ h) in omega (arith, low)

-- ---- kept names

pub file-below : (image : Image) (ino : ℕ) → is_file image ino ≡ true → ino < nid_limit (layout image)
file-below image ino file = let node = file_inode image ino file in node_low image ino node.0 node.1

module _ (image : Image) where
  -- of a directory: no good claim on it before, and no loop; of another file: not too many
  kept-directory : (d : List Claim) (c : Claim) → is_kept image d c ≡ true → is_directory_file image c.target ≡ true → (list_any (is_on c.target) d ≡ false) × (is_own_ancestor image c.target ≡ false)
  kept-directory d c h directory =
      let parts : (not (list_any (is_on c.target) d) && not (is_own_ancestor image c.target)) ≡ true = rw directory at h in
      let p = and_parts (not (list_any (is_on c.target) d)) (not (is_own_ancestor image c.target)) parts in
      (not-true (list_any (is_on c.target) d) p.0, not-true (is_own_ancestor image c.target) p.1)

  kept-other : (d : List Claim) (c : Claim) → is_kept image d c ≡ true → is_directory_file image c.target ≡ false → count_by (is_on c.target) d < 2 ^ 32 - 1
  kept-other d c h other =
      let few : nat_lt (count_by (is_on c.target) d) (2 ^ 32 - 1) ≡ true = rw other at h in
      ltb-true (count_by (is_on c.target) d) (2 ^ 32 - 1) few

  -- the good claims before a kept one of a directory
  pub kept-says : (b r : List Claim) (c : Claim) → b ++ c ∷ r ≡ kept_claims image → is_directory_file image c.target ≡ true
      → (d : List Claim) × (s : List Claim) × (d ++ c ∷ s ≡ good_claims image) × (list_any (is_on c.target) d ≡ false) × (is_own_ancestor image c.target ≡ false)
  kept-says b r c e directory =
      let t = kept-split image b r c e in
      let says = kept-directory t.0 c t.3 directory in
      (t.0, t.1, t.2, says.0, says.1)

  fewer-before : (ino : ℕ) (b r : List Claim) (c : Claim) → b ++ c ∷ r ≡ kept_claims image → is_on ino c ≡ true → (count_by (is_on ino) b < 2 ^ 32 - 1) × (is_directory_file image ino ≡ true → count_by (is_on ino) b < 1)
  fewer-before ino b r c e on = go (is_directory_file image ino) refl
    where
      t : (d : List Claim) × (s : List Claim) × (d ++ c ∷ s ≡ good_claims image) × (is_kept image d c ≡ true) × (b ≡ filter_after (is_kept image) [] d)
      t = kept-split image b r c e

      at : c.target ≡ ino
      at = eqb-true c.target ino on

      fewer : count_by (is_on ino) b ≤ count_by (is_on ino) t.0
      fewer = let same = ap (count_by (is_on ino)) t.4 in let few = count-filter_after (is_on ino) (is_kept image) [] t.0 in omega (arith, same, few)

      go : (f : Bool) → is_directory_file image ino ≡ f → (count_by (is_on ino) b < 2 ^ 32 - 1) × (is_directory_file image ino ≡ true → count_by (is_on ino) b < 1)
      go true directory =
          let none = count-none (is_on ino) t.0 (ap (λ x. list_any (is_on x) t.0) (sym at) ∙ (kept-directory t.0 c t.3 (ap (is_directory_file image) at ∙ directory)).0) in
          let low = fewer in
          (omega (arith, none, low), λ h. omega (arith, none, low))
      go false other =
          let few = kept-other t.0 c t.3 (ap (is_directory_file image) at ∙ other) in
          let same = ap (λ x. count_by (is_on x) t.0) at in
          let low = fewer in
          (omega (arith, few, same, low), λ h. absurd (false≢true (sym other ∙ h)))

  kept-few : (ino : ℕ) → (count_by (is_on ino) (kept_claims image) < 2 ^ 32) × (is_directory_file image ino ≡ true → count_by (is_on ino) (kept_claims image) ≤ 1)
  kept-few ino =
      let most = count-limit (is_on ino) (2 ^ 32 - 1) [] (kept_claims image) (λ b r c e on. (fewer-before ino b r c e on).0) (omega arith) in (
        omega (arith, most),
        λ directory. count-limit (is_on ino) 1 [] (kept_claims image) (λ b r c e on. (fewer-before ino b r c e on).1 directory) (omega arith),
      )

  -- what is no file has no kept name
  pub kept-none : (ino : ℕ) → is_file image ino ≡ false → list_any (is_on ino) (kept_claims image) ≡ false
  kept-none ino none = false_from_ne_true _ (λ some.
      let t = any-split (is_on ino) (kept_claims image) some in
      let first = All-there (IsFirstClaim image) (kept_claims image) t.0 t.1 t.2 t.3 (kept-first image) in
      false≢true (sym none ∙ ap (is_file image) (sym (eqb-true t.2.target ino t.4)) ∙ first.target))

module _ (image : Image) (copied : is_some (super_copy image) ≡ true) where
  -- ---- names of lost files

  pub lost-none : (ino : ℕ) → is_lost image ino ≡ false → list_any (is_on ino) (lost_names image) ≡ false
  lost-none ino found = false_from_ne_true _ (λ some.
      let t = any-split (is_on ino) (lost_names image) some in
      let lost = (lost-split image copied t.0 t.1 t.2 t.3).0 in
      let same : lost.0 ≡ ino = sym (ap (λ c. c.target) lost.3) ∙ eqb-true t.2.target ino t.4 in
      false≢true (sym found ∙ ap (is_lost image) (sym same) ∙ lost.2))

  lost-one : (ino : ℕ) → ino < nid_limit (layout image) → is_lost image ino ≡ true → count_by (is_on ino) (lost_names image) ≡ 1
  unfolding lost_names
  lost-one ino below lost =
      let there : list_any (is_on ino) (lost_names image) ≡ true
      = list_any-map (is_on ino) (lost_claim image) (lost_files image)
      ∙ list_any-filter (λ i. is_on ino (lost_claim image i)) (is_lost image) (numbers_below (nid_limit (layout image)))
      ∙ some_below (λ i. is_lost image i && is_on ino (lost_claim image i)) (nid_limit (layout image)) ino below (and_from (is_lost image ino) (ino == ino) lost (eq-eqb ino ino refl)) in
      let some = count-some (is_on ino) (lost_names image) there in
      let few = count-limit (is_on ino) 1 [] (lost_names image) (λ b r c e on.
      let none = count-none (is_on ino) b (ap (λ x. list_any (is_on x) b) (sym (eqb-true c.target ino on)) ∙ (lost-split image copied b r c e).2) in omega (arith, none)) (omega arith) in
      omega (arith, some, few)

  -- ---- all names

  sum : (ino : ℕ) → count_by (is_on ino) (names image) ≡ count_by (is_on ino) (kept_claims image) + count_by (is_on ino) (lost_names image) + count_by (is_on ino) (made_names image)
  unfolding names lost_names made_names
  sum ino =
      count-append (is_on ino) (kept_claims image ++ lost_names image) (made_names image)
      ∙ ap (λ n. n + count_by (is_on ino) (made_names image)) (count-append (is_on ino) (kept_claims image) (lost_names image))

  -- a file has another number than the directory that is made
  file-not_made : (ino : ℕ) → is_file image ino ≡ true → is_made image ino ≡ false
  file-not_made ino file = false_from_ne_true _ (λ made.
      let p = and_parts (makes_lost_directory image) (ino == lost_directory image) made in
      false≢true (sym (made-number image copied p.0).2 ∙ ap (is_file image) (sym (eqb-true ino (lost_directory image) p.1)) ∙ file))

  made-none : (ino : ℕ) → is_file image ino ≡ true → count_by (is_on ino) (made_names image) ≡ 0
  unfolding made_names
  made-none ino file = go (makes_lost_directory image) refl
    where
      go : (m : Bool) → makes_lost_directory image ≡ m → count_by (is_on ino) (cond m (made_claim image ∷ []) []) ≡ 0
      go false m = refl
      go true m =
          count-none (is_on ino) (made_claim image ∷ [])
          (rw (ne_eqb (lost_directory image) ino (λ same. false≢true (sym (made-number image copied m).2 ∙ ap (is_file image) same ∙ file))) refl)

  file-names : (ino : ℕ) → is_file image ino ≡ true → (ino ≡ root → ⊥) → HasNames image ino
  file-names ino file other = go (list_any (is_on ino) (kept_claims image)) refl
    where
      directory : is_salvaged_directory image ino ≡ true → is_directory_file image ino ≡ true
      directory h = or_false (is_directory_file image ino) (is_made image ino) (file-not_made ino file) h
        where
          or_false : (a b : Bool) → b ≡ false → (a || b) ≡ true → a ≡ true
          or_false true b e h = refl
          or_false false b e h = absurd (false≢true (sym e ∙ h))

      go : (k : Bool) → list_any (is_on ino) (kept_claims image) ≡ k → HasNames image ino
      go true kept =
          let all = sum ino in
          let some = count-some (is_on ino) (kept_claims image) kept in
          let lost = count-none (is_on ino) (lost_names image) (lost-none ino (kept_or_lost image ino file other ∙ ap not kept)) in
          let made = made-none ino file in
          let few = (kept-few image ino).0 in
          record {
            some = omega (arith, all, some);
            few = omega (arith, all, lost, made, few);
            one = λ d. let one = (kept-few image ino).1 (directory d) in omega (arith, all, some, lost, made, one);
          }
      go false kept =
          let all = sum ino in
          let none = count-none (is_on ino) (kept_claims image) kept in
          let lost = lost-one ino (file-below image ino file) (kept_or_lost image ino file other ∙ ap not kept) in
          let made = made-none ino file in
          record { some = omega (arith, all, lost); few = omega (arith, all, none, lost, made); one = λ d. omega (arith, all, none, lost, made) }

  made-names : (ino : ℕ) → is_file image ino ≡ false → is_made image ino ≡ true → count_by (is_on ino) (names image) ≡ 1
  unfolding made_names
  made-names ino none made =
      let p = and_parts (makes_lost_directory image) (ino == lost_directory image) made in
      let all = sum ino in
      let kept = count-none (is_on ino) (kept_claims image) (kept-none image ino none) in
      let lost = count-none (is_on ino) (lost_names image) (lost-none ino (false_from_ne_true _ (λ h. false≢true (sym none ∙ (lost-says image ino h).0)))) in
      let on : is_on ino (made_claim image) ≡ true = eq-eqb (lost_directory image) ino (sym (eqb-true ino (lost_directory image) p.1)) in
      let listed : made_names image ≡ made_claim image ∷ [] = rw p.0 refl in
      let one : count_by (is_on ino) (made_names image) ≡ 1 = ap (count_by (is_on ino)) listed ∙ count-one (is_on ino) (made_claim image) [] on in
      omega (arith, all, kept, lost, one)

  pub has-names : (ino : ℕ) → is_salvaged_file image ino ≡ true → (ino ≡ root → ⊥) → HasNames image ino
  has-names ino kept other = go (is_file image ino) refl kept
    where
      go : (f : Bool) → is_file image ino ≡ f → (f || is_made image ino) ≡ true → HasNames image ino
      go true file h = file-names ino file other
      go false none made =
          let one = made-names ino none made in
          record { some = omega (arith, one); few = omega (arith, one); one = λ d. one }

-- the law
pub files_have_names : FilesHaveNames
files_have_names image ino copied kept other = has-names image copied ino kept other
