-- Steps up by the names of the salvage lead from each of its files to the root.
use Rattle.std.proofs.Common.{◌≡◌, ℕ, zero, suc, ◌+◌, ◌-◌, ◌<◌, ◌≤◌, ◌⊎◌, inl, inr, List, ◌∷◌, ◌++◌, Bool, true, false, not, ◌&&◌, ◌||◌, ◌==◌, filter, Option, Some, None, refl, sym, ap, subst, ◌∙◌, ⊎_elim, arith}
use Rattle.std.specs.Prelude.{find, is_none, is_some, count_by, option_and_then, option_map, unwrap_or}
use Rattle.std.specs.List.{list_any}
use Rattle.std.proofs.lemmas.Bool.{and_parts, and_from, or_left, or_right, lt-ltb, false≢true, eqb-true, eq-eqb, false_from_ne_true, cases_eq}
use Rattle.f2_bytes.specs.Bytes.{Image, numbers_below}
use Rattle.f2_bytes.specs.Superblock.{super_copy, layout}
use Rattle.f2_bytes.specs.NodeAddressTable.{nid_limit}
use Rattle.f2_bytes.proofs.Below.{some_below, length-numbers_below, get_or-numbers_below}
use Rattle.f2_bytes.proofs.CheckedChain.{find_none}
use Rattle.f2_bytes.proofs.FrameChain.{pigeons, find_some}
use Rattle.f2_bytes.specs.SalvagedFiles.{root, passes_test, is_file, is_directory_file}
use Rattle.f2_bytes.specs.Claims.{Claim, is_on, parent, ancestor, is_own_ancestor, kept_claims}
use Rattle.f2_bytes.specs.LostFiles.{is_lost, has_lost, makes_lost_directory, lost_directory, is_made}
use Rattle.f2_bytes.specs.Salvage.{names}
use Rattle.f2_bytes.specs.RebuiltDirectories.{is_salvaged_file, salvaged_parent, salvaged_ancestor}
use Rattle.f2_bytes.specs.Mending.{is_salvaged_directory}
use Rattle.f2_salvage.specs.NameLaws.{IsFirstClaim, IsSalvagedName, StepsReachRoot}
use Rattle.f2_salvage.proofs.FilterAfter.{All-there, find-split}
use Rattle.f2_salvage.proofs.FrameRoll.{first_below_is}
use Rattle.f2_salvage.proofs.GoodClaims.{kept-first}
use Rattle.f2_salvage.proofs.ListFacts.{some_injective, count_by-some}
use Rattle.f2_salvage.proofs.LostNames.{least_free, place-cases}
use Rattle.f2_salvage.proofs.NameFacts.{any-middle}
use Rattle.f2_salvage.proofs.NameCounts.{file-below, kept-says, has-names}
use Rattle.f2_salvage.proofs.NamesStand.{lost-says, kept_or_lost, names-split, all-stand}
use Rattle.f2_salvage.proofs.Owners.{list_any-filter}
use Rattle.f2_salvage.proofs.SalvagedNames.{any-split, made-number}
use Rattle.f2_salvage.proofs.Sizes.{nids-range}

-- ---- steps

module _ (image : Image) where
  -- the first step first
  ancestor-suc : (n ino : ℕ) → ancestor image (suc n) ino ≡ option_and_then (ancestor image n) (parent image ino)
  unfolding ancestor
  ancestor-suc zero ino = itself (parent image ino)
    where
      itself : (o : Option ℕ) → o ≡ option_and_then (λ x. Some x) o
      itself None = refl
      itself (Some x) = refl
  ancestor-suc (suc n) ino = ap (option_and_then (parent image)) (ancestor-suc n ino) ∙ after (parent image ino)
    where
      after : (o : Option ℕ) → option_and_then (parent image) (option_and_then (ancestor image n) o) ≡ option_and_then (ancestor image (suc n)) o
      after None = refl
      after (Some x) = refl

  salvaged-suc : (n ino : ℕ) → salvaged_ancestor image (suc n) ino ≡ option_and_then (salvaged_ancestor image n) (salvaged_parent image ino)
  unfolding salvaged_ancestor
  salvaged-suc zero ino = itself (salvaged_parent image ino)
    where
      itself : (o : Option ℕ) → o ≡ option_and_then (λ x. Some x) o
      itself None = refl
      itself (Some x) = refl
  salvaged-suc (suc n) ino = ap (option_and_then (salvaged_parent image)) (salvaged-suc n ino) ∙ after (salvaged_parent image ino)
    where
      after : (o : Option ℕ) → option_and_then (salvaged_parent image) (option_and_then (salvaged_ancestor image n) o) ≡ option_and_then (salvaged_ancestor image (suc n)) o
      after None = refl
      after (Some x) = refl

  -- some steps, and then others
  ancestor-add : (i m ino y : ℕ) → ancestor image i ino ≡ Some y → ancestor image (i + m) ino ≡ ancestor image m y
  unfolding ancestor
  ancestor-add i zero ino y e = let at : i + 0 ≡ i = omega arith in ap (λ k. ancestor image k ino) at ∙ e
  ancestor-add i (suc m) ino y e =
      let at : i + suc m ≡ suc (i + m) = omega arith in
      ap (λ k. ancestor image k ino) at ∙ ap (option_and_then (parent image)) (ancestor-add i m ino y e)

  abbrev pub Reaches : ℕ → Type 0
  Reaches ino = (n : ℕ) × (salvaged_ancestor image n ino ≡ Some root)

  reaches-root : Reaches root
  unfolding salvaged_ancestor
  reaches-root = (0, refl)

  step : (ino d : ℕ) → salvaged_parent image ino ≡ Some d → Reaches d → Reaches ino
  step ino d e r = (suc r.0, salvaged-suc r.0 ino ∙ ap (option_and_then (salvaged_ancestor image r.0)) e ∙ r.1)

  -- the directory that names a file, where all of its names are there
  parent-only : (ino d : ℕ) → d < nid_limit (layout image) + 1 → list_any (is_on ino) (names image) ≡ true
      → ((b r : List Claim) (c : Claim) → b ++ c ∷ r ≡ names image → is_on ino c ≡ true → c.directory ≡ d)
      → salvaged_parent image ino ≡ Some d
  unfolding salvaged_parent
  parent-only ino d low some only =
      let t = any-split (is_on ino) (names image) some in
      let in_d : list_any (λ c. (c.directory == d) && is_on ino c) (names image) ≡ true
      = ap (list_any (λ c. (c.directory == d) && is_on ino c)) (sym t.3)
      ∙ any-middle (λ c. (c.directory == d) && is_on ino c) t.0 t.1 t.2 (and_from (t.2.directory == d) (is_on ino t.2) (eq-eqb t.2.directory d (only t.0 t.1 t.2 t.3 t.4)) t.4) in
      first_below_is test (nid_limit (layout image) + 1) d low (list_any-filter (is_on ino) (λ c. c.directory == d) (names image) ∙ in_d) none
    where
      test : ℕ → Bool
      test k = list_any (is_on ino) (filter (λ c. c.directory == k) (names image))

      none : (k : ℕ) → k < d → test k ≡ false
      none k before = false_from_ne_true (test k) (λ found.
          let t = any-split (λ c. (c.directory == k) && is_on ino c) (names image) (sym (list_any-filter (is_on ino) (λ c. c.directory == k) (names image)) ∙ found) in
          let p = and_parts (t.2.directory == k) (is_on ino t.2) t.4 in
          let at = only t.0 t.1 t.2 t.3 p.1 in
          let same = eqb-true t.2.directory k p.0 in
          omega (arith, at, same, before))

-- ---- the directories

module _ (image : Image) (copied : is_some (super_copy image) ≡ true) where
  -- a directory of the salvage has a number up to the limit
  directory-below : (d : ℕ) → is_salvaged_directory image d ≡ true → d < nid_limit (layout image) + 1
  directory-below d h = go (is_directory_file image d) refl h
    where
      go : (f : Bool) → is_directory_file image d ≡ f → (f || is_made image d) ≡ true → d < nid_limit (layout image) + 1
      go true f e =
          let low = file-below image d (and_parts (is_file image d) _ f).0 in
          omega (arith, low)
      go false f made =
          let p = and_parts (makes_lost_directory image) (d == lost_directory image) made in
          let at = eqb-true d (lost_directory image) p.1 in
          let number = (made-number image copied p.0).0 in
          let low = (least_free image).2 (nids-range image copied).0 in
          omega (arith, at, number, low)

  some-name : (ino : ℕ) → is_salvaged_file image ino ≡ true → (ino ≡ root → ⊥) → list_any (is_on ino) (names image) ≡ true
  some-name ino kept other =
      let some = (has-names image copied ino kept other).some in
      sym (count_by-some (is_on ino) (names image)) ∙ lt-ltb 0 (count_by (is_on ino) (names image)) (omega (arith, some))

  -- a name on a file that is no file of the image is that of the directory that is made
  not-made-target : (ino : ℕ) → is_file image ino ≡ true → (makes_lost_directory image ≡ true) → lost_directory image ≡ ino → ⊥
  not-made-target ino file makes at = false≢true (sym (made-number image copied makes).2 ∙ ap (is_file image) at ∙ file)

  parent-made : is_directory_file image root ≡ true → makes_lost_directory image ≡ true → salvaged_parent image (lost_directory image) ≡ Some root
  parent-made rooted makes =
      let number = made-number image copied makes in
      let there : is_salvaged_file image (lost_directory image) ≡ true
      = or_right (is_file image (lost_directory image)) (is_made image (lost_directory image)) (and_from (makes_lost_directory image) (lost_directory image == lost_directory image) makes (eq-eqb (lost_directory image) (lost_directory image) refl)) in
      let limit = (nids-range image copied).0 in
      parent-only image (lost_directory image) root (omega (arith, limit)) (some-name (lost_directory image) there (λ e. omega (arith, e, number.1)))
      (λ b r c e on.
      let at = eqb-true c.target (lost_directory image) on in
      ⊎_elim
      (λ kept.
      let first = All-there (IsFirstClaim image) (kept_claims image) kept.0 kept.1 c kept.2 (kept-first image) in
      absurd (false≢true (sym number.2 ∙ ap (is_file image) (sym at) ∙ first.target)))
      (λ other. ⊎_elim
      (λ lost.
      let file = (lost-says image lost.0 lost.2).0 in
      let same : lost.0 ≡ lost_directory image = sym (ap (λ c. c.target) lost.3) ∙ at in
      absurd (false≢true (sym number.2 ∙ ap (is_file image) (sym same) ∙ file)))
      (λ made. ap (λ c. c.directory) made.1)
      other)
      (names-split image copied b r c e).0)

  -- the step up from a kept directory is that to its parent, and it is not its own ancestor
  parent-kept : (b r : List Claim) (c : Claim) → b ++ c ∷ r ≡ kept_claims image → is_directory_file image c.target ≡ true → parent image c.target ≡ Some c.directory
  parent-kept b r c e directory =
      let t = kept-says image b r c e directory in
      ap (option_map (λ c. c.directory)) (ap (find (is_on c.target)) (sym t.2) ∙ find-split (is_on c.target) t.0 t.1 c t.3 (eq-eqb c.target c.target refl))

  record KeptStep (x : ℕ) : Type 0 where
    up : ℕ
    directory : is_directory_file image up ≡ true
    by_claims : parent image x ≡ Some up
    by_names : salvaged_parent image x ≡ Some up
    no_loop : is_own_ancestor image x ≡ false

  kept-step : (x : ℕ) → is_directory_file image x ≡ true → list_any (is_on x) (kept_claims image) ≡ true → KeptStep x
  kept-step x directory kept =
      let t = any-split (is_on x) (kept_claims image) kept in
      let c = t.2 in
      let at : c.target ≡ x = eqb-true c.target x t.4 in
      let target : is_directory_file image c.target ≡ true = ap (is_directory_file image) at ∙ directory in
      let first = All-there (IsFirstClaim image) (kept_claims image) t.0 t.1 c t.3 (kept-first image) in
      let up : parent image x ≡ Some c.directory = ap (parent image) (sym at) ∙ parent-kept t.0 t.1 c t.3 target in
      let file : is_file image x ≡ true = (and_parts (is_file image x) _ directory).0 in
      let below = file-below image c.directory (and_parts (is_file image c.directory) _ first.directory).0 in
      record {
        up = c.directory;
        directory = first.directory;
        by_claims = up;
        by_names = parent-only image x c.directory (omega (arith, below)) (some-name x (or_left (is_file image x) (is_made image x) file) (λ e. first.below (at ∙ e)))
            (λ b r d e on.
            let on_x = eqb-true d.target x on in
            ⊎_elim
            (λ k. some_injective d.directory c.directory (sym (parent-kept k.0 k.1 d k.2 (ap (is_directory_file image) on_x ∙ directory)) ∙ ap (parent image) on_x ∙ up))
            (λ other. ⊎_elim
            (λ lost.
            let same : lost.0 ≡ x = sym (ap (λ c. c.target) lost.3) ∙ on_x in
            absurd (false≢true (sym (lost-says image lost.0 lost.2).2 ∙ ap (λ y. list_any (is_on y) (kept_claims image)) same ∙ kept)))
            (λ made. absurd (not-made-target x file made.0 (sym (ap (λ c. c.target) made.1) ∙ on_x)))
            other)
            (names-split image copied b r d e).0);
        no_loop = ap (is_own_ancestor image) (sym at) ∙ (kept-says image t.0 t.1 c t.3 target).4;
      }

  module _ (rooted : is_directory_file image root ≡ true) where
    reaches-place : has_lost image ≡ true → Reaches image (lost_directory image)
    reaches-place some =
        ⊎_elim
        (λ kept.
        let c = kept.2 in
        let named : list_any (is_on (lost_directory image)) (kept_claims image) ≡ true
        = ap (list_any (is_on (lost_directory image))) (sym kept.3) ∙ any-middle (is_on (lost_directory image)) kept.0 kept.1 c (eq-eqb c.target (lost_directory image) kept.5) in
        let s = kept-step (lost_directory image) kept.6 named in
        let up : parent image (lost_directory image) ≡ Some c.directory = ap (parent image) (sym kept.5) ∙ parent-kept kept.0 kept.1 c kept.3 (ap (is_directory_file image) kept.5 ∙ kept.6) in
        let at : s.up ≡ root = some_injective s.up c.directory (sym s.by_claims ∙ up) ∙ kept.4 in
        step image (lost_directory image) root (s.by_names ∙ ap Some at) (reaches-root image))
        (λ made. step image (lost_directory image) root (parent-made rooted (made.2 ∙ some)) (reaches-root image))
        (place-cases image copied)

    reaches-lost : (ino : ℕ) → is_lost image ino ≡ true → Reaches image ino
    reaches-lost ino lost =
        let says = lost-says image ino lost in
        let below = file-below image ino says.0 in
        let some = some_below (is_lost image) (nid_limit (layout image)) ino below lost in
        let there = ⊎_elim (λ kept. or_left (is_directory_file image (lost_directory image)) (is_made image (lost_directory image)) kept.6)
        (λ made. or_right (is_directory_file image (lost_directory image)) (is_made image (lost_directory image)) (and_from (makes_lost_directory image) (lost_directory image == lost_directory image) (made.2 ∙ some) (eq-eqb _ _ refl)))
        (place-cases image copied) in
        step image ino (lost_directory image)
        (parent-only image ino (lost_directory image) (directory-below (lost_directory image) there) (some-name ino (or_left (is_file image ino) (is_made image ino) says.0) says.1)
        (λ b r c e on.
        let at = eqb-true c.target ino on in
        ⊎_elim
        (λ kept.
        let named : list_any (is_on ino) (kept_claims image) ≡ true = ap (list_any (is_on ino)) (sym kept.2) ∙ any-middle (is_on ino) kept.0 kept.1 c on in
        absurd (false≢true (sym says.2 ∙ named)))
        (λ other. ⊎_elim
        (λ l. ap (λ c. c.directory) l.3)
        (λ made. absurd (not-made-target ino says.0 made.0 (sym (ap (λ c. c.target) made.1) ∙ at)))
        other)
        (names-split image copied b r c e).0))
        (reaches-place some)

    -- ---- climbing

    -- so many steps up stands a directory that is kept
    abbrev IsKeptUp : ℕ → ℕ → Type 0
    IsKeptUp x i = (y : ℕ) × (ancestor image i x ≡ Some y) × (is_directory_file image y ≡ true) × (list_any (is_on y) (kept_claims image) ≡ true)

    directory-cases : (x : ℕ) → is_directory_file image x ≡ true → Reaches image x ⊎ (list_any (is_on x) (kept_claims image) ≡ true)
    directory-cases x directory =
        ⊎_elim (λ at. inl (subst (Reaches image) (sym at) (reaches-root image))) (λ other. by_kept other (list_any (is_on x) (kept_claims image)) refl) (cases_eq x root)
      where
        by_kept : (x ≡ root → ⊥) → (k : Bool) → list_any (is_on x) (kept_claims image) ≡ k → Reaches image x ⊎ (list_any (is_on x) (kept_claims image) ≡ true)
        by_kept other true kept = inr kept
        by_kept other false kept = inl (reaches-lost x (kept_or_lost image x (and_parts (is_file image x) _ directory).0 other ∙ ap not kept))

    up-cons : (k x : ℕ) → is_directory_file image x ≡ true → list_any (is_on x) (kept_claims image) ≡ true → (s : KeptStep x) → ((i : ℕ) → i ≤ k → IsKeptUp s.up i) → (i : ℕ) → i ≤ suc k → IsKeptUp x i
    unfolding ancestor
    up-cons k x directory kept s f zero low = (x, refl, directory, kept)
    up-cons k x directory kept s f (suc j) low =
        let t = f j (omega (arith, low)) in
        (t.0, ancestor-suc image j x ∙ ap (option_and_then (ancestor image j)) s.by_claims ∙ t.1, t.2, t.3)

    climb : (k x : ℕ) → is_directory_file image x ≡ true → Reaches image x ⊎ ((i : ℕ) → i ≤ k → IsKeptUp x i)
    unfolding ancestor
    climb zero x directory =
        ⊎_elim (λ reach. inl reach)
        (λ kept. inr (λ i low. let none : i ≡ 0 = omega (arith, low) in (x, ap (λ k. ancestor image k x) none, directory, kept)))
        (directory-cases x directory)
    climb (suc k) x directory =
        ⊎_elim (λ reach. inl reach)
        (λ kept.
        let s = kept-step x directory kept in
        ⊎_elim (λ reach. inl (step image x s.up s.by_names reach)) (λ f. inr (up-cons k x directory kept s f)) (climb k s.up s.directory))
        (directory-cases x directory)

    -- as many directories as there are numbers cannot all differ
    ends : (x : ℕ) → ((i : ℕ) → i ≤ nid_limit (layout image) → IsKeptUp x i) → ⊥
    unfolding is_own_ancestor
    ends x f = pigeons (λ i. unwrap_or (ancestor image i x) 0) (nid_limit (layout image)) inside apart
      where
        up : (i : ℕ) → i < nid_limit (layout image) + 1 → IsKeptUp x i
        up i low = f i (omega (arith, low))

        inside : (i : ℕ) → i < nid_limit (layout image) + 1 → unwrap_or (ancestor image i x) 0 < nid_limit (layout image)
        inside i low =
            let t = up i low in
            let at : unwrap_or (ancestor image i x) 0 ≡ t.0 = ap (λ o. unwrap_or o 0) t.1 in
            let below = file-below image t.0 (and_parts (is_file image t.0) _ t.2).0 in
            omega (arith, at, below)

        apart : (i j : ℕ) → i < j → j < nid_limit (layout image) + 1 → (unwrap_or (ancestor image i x) 0 == unwrap_or (ancestor image j x) 0) ≡ false
        apart i j before low = false_from_ne_true _ (λ e.
            let a = up i (omega (arith, before, low)) in
            let b = up j low in
            let same : a.0 ≡ b.0 = sym (ap (λ o. unwrap_or o 0) a.1) ∙ eqb-true (unwrap_or (ancestor image i x) 0) (unwrap_or (ancestor image j x) 0) e ∙ ap (λ o. unwrap_or o 0) b.1 in
            let n = j - i - 1 in
            let sum : i + (n + 1) ≡ j = omega (arith, before) in
            let back : ancestor image (n + 1) a.0 ≡ Some a.0 = sym (ancestor-add image i (n + 1) x a.0 a.1) ∙ ap (λ k. ancestor image k x) sum ∙ b.1 ∙ ap Some (sym same) in
            let here : passes_test (λ up. up == a.0) (ancestor image (n + 1) a.0) ≡ true = ap (passes_test (λ up. up == a.0)) back ∙ eq-eqb a.0 a.0 refl in
            let loop = some_below (λ m. passes_test (λ up. up == a.0) (ancestor image (m + 1) a.0)) (nid_limit (layout image)) n (omega (arith, before, low)) here in
            false≢true (sym (kept-step a.0 a.2 a.3).no_loop ∙ loop))

    reaches-directory : (x : ℕ) → is_directory_file image x ≡ true → Reaches image x
    reaches-directory x directory = ⊎_elim (λ reach. reach) (λ f. absurd (ends x f)) (climb (nid_limit (layout image)) x directory)

    reaches-end : (d : ℕ) → is_salvaged_directory image d ≡ true → Reaches image d
    reaches-end d h = go (is_directory_file image d) refl h
      where
        go : (f : Bool) → is_directory_file image d ≡ f → (f || is_made image d) ≡ true → Reaches image d
        go true f e = reaches-directory d f
        go false f made =
            let p = and_parts (makes_lost_directory image) (d == lost_directory image) made in
            subst (Reaches image) (sym (eqb-true d (lost_directory image) p.1)) (step image (lost_directory image) root (parent-made rooted p.0) (reaches-root image))

    -- ---- the files

    pub reaches : (ino : ℕ) → is_salvaged_file image ino ≡ true → Reaches image ino
    unfolding salvaged_parent
    reaches ino kept = ⊎_elim (λ at. subst (Reaches image) (sym at) (reaches-root image)) (λ other. by_find other (find test (numbers_below (nid_limit (layout image) + 1))) refl) (cases_eq ino root)
      where
        test : ℕ → Bool
        test k = list_any (is_on ino) (filter (λ c. c.directory == k) (names image))

        by_find : (ino ≡ root → ⊥) → (o : Option ℕ) → find test (numbers_below (nid_limit (layout image) + 1)) ≡ o → Reaches image ino
        by_find other None e =
            let t = any-split (is_on ino) (names image) (some-name ino kept other) in
            let name = All-there (IsSalvagedName image) (names image) t.0 t.1 t.2 t.3 (all-stand image copied rooted) in
            let low = directory-below t.2.directory name.directory in
            let here : test t.2.directory ≡ true
            = list_any-filter (is_on ino) (λ c. c.directory == t.2.directory) (names image)
            ∙ ap (list_any (λ c. (c.directory == t.2.directory) && is_on ino c)) (sym t.3)
            ∙ any-middle (λ c. (c.directory == t.2.directory) && is_on ino c) t.0 t.1 t.2 (and_from (t.2.directory == t.2.directory) (is_on ino t.2) (eq-eqb t.2.directory t.2.directory refl) t.4) in
            let none : test t.2.directory ≡ false
            = ap test (sym (get_or-numbers_below (nid_limit (layout image) + 1) t.2.directory 0 low))
            ∙ find_none test (numbers_below (nid_limit (layout image) + 1)) (ap is_none e) t.2.directory 0 (rw length-numbers_below low) in
            absurd (false≢true (sym none ∙ here))
        by_find other (Some d) e =
            let found = find_some test (numbers_below (nid_limit (layout image) + 1)) d e in
            let t = any-split (λ c. (c.directory == d) && is_on ino c) (names image) (sym (list_any-filter (is_on ino) (λ c. c.directory == d) (names image)) ∙ found) in
            let name = All-there (IsSalvagedName image) (names image) t.0 t.1 t.2 t.3 (all-stand image copied rooted) in
            let at : t.2.directory ≡ d = eqb-true t.2.directory d (and_parts (t.2.directory == d) (is_on ino t.2) t.4).0 in
            step image ino d e (reaches-end d (ap (is_salvaged_directory image) (sym at) ∙ name.directory))

-- the law
pub steps_reach_root : StepsReachRoot
steps_reach_root image ino copied rooted kept = reaches image copied rooted ino kept
