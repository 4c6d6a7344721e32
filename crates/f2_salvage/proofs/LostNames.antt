-- The directory for lost files, and the names of lost files there: they are new and legal.
use Rattle.std.proofs.Common.{◌≡◌, ℕ, ◌+◌, ◌-◌, ◌^◌, ◌<◌, ◌≤◌, ◌⊎◌, inl, inr, List, [], ◌∷◌, ◌++◌, Bool, true, false, not, ◌&&◌, ◌==◌, nat_le, cond, length, Option, Some, None, refl, sym, ap, ◌∙◌, ⊎_elim, arith}
use Rattle.std.specs.Prelude.{find, is_none, is_some, option_map, unwrap_or, codes, decimal}
use Rattle.std.specs.Option.{option_map_or}
use Rattle.std.specs.List.{list_any}
use Rattle.std.specs.Str.{bytes_eq}
use Rattle.std.proofs.lemmas.Bool.{and_parts, false≢true, eqb-true, eqb-false, le-ltb, cases_lt, not-true, eq-eqb, ne_eqb}
use Rattle.f2_bytes.specs.Bytes.{Image, numbers_below}
use Rattle.f2_bytes.specs.Superblock.{super_copy, layout}
use Rattle.f2_bytes.specs.NodeAddressTable.{nid_limit}
use Rattle.f2_bytes.specs.RollForward.{found_place, node_block}
use Rattle.f2_bytes.proofs.Below.{length-numbers_below, get_or-numbers_below}
use Rattle.f2_bytes.proofs.CheckedChain.{find_none}
use Rattle.f2_bytes.proofs.FrameChain.{find_some}
use Rattle.f2_bytes.specs.SalvagedFiles.{root, is_file, is_directory_file}
use Rattle.f2_bytes.specs.Claims.{Claim, same_name, kept_claims, kept_target}
use Rattle.f2_bytes.specs.LostFiles.{has_lost, numbered, lost_directory_name, least_free_nid, makes_lost_directory, lost_directory, lost_name}
use Rattle.f2_salvage.proofs.ClaimCounts.{kept-few}
use Rattle.f2_salvage.proofs.FrameRoll.{first_below}
use Rattle.f2_salvage.proofs.FreeNames.{first_free}
use Rattle.f2_salvage.proofs.ListFacts.{some_injective}
use Rattle.f2_salvage.proofs.NameFacts.{bytes_eq-sym}

-- ---- finding

-- nothing is found just where nothing passes
pub none-found : {A B : Type 0} (f : A → B) (p : A → Bool) (xs : List A) → is_none (option_map f (find p xs)) ≡ not (list_any p xs)
none-found f p [] = refl
none-found f p (x ∷ xs) = go (p x) refl (none-found f p xs)
  where
    go : (b : Bool) → p x ≡ b → is_none (option_map f (find p xs)) ≡ not (list_any p xs) → is_none (option_map f (find p (x ∷ xs))) ≡ not (list_any p (x ∷ xs))
    go true e more = rw e refl
    go false e more = rw e more

not_not : (b : Bool) → not b ≡ false → b ≡ true
not_not true h = refl
not_not false h = absurd (false≢true (sym h))

pub eqb-sym : (a b : ℕ) → (a == b) ≡ (b == a)
eqb-sym a b = go (a == b) refl
  where
    go : (t : Bool) → (a == b) ≡ t → (a == b) ≡ (b == a)
    go true e = e ∙ sym (eq-eqb b a (sym (eqb-true a b e)))
    go false e = e ∙ sym (ne_eqb b a (λ same. eqb-false a b e (sym same)))

-- the element that was found stands in the list, and passed
pub found-split : {A : Type 0} (p : A → Bool) (xs : List A) (x : A) → find p xs ≡ Some x → (b : List A) × (r : List A) × (b ++ x ∷ r ≡ xs)
found-split p [] x e = absurd (cc e)
found-split {A = A} p (y ∷ ys) x e = go (p y) refl (found-split p ys x)
  where
    go : (b : Bool) → p y ≡ b → (find p ys ≡ Some x → (b : List A) × (r : List A) × (b ++ x ∷ r ≡ ys)) → (b : List A) × (r : List A) × (b ++ x ∷ r ≡ y ∷ ys)
    go true here more =
        let same : Some y ≡ Some x = rw here at e in
        ([], ys, ap (λ z. z ∷ ys) (sym (some_injective y x same)))
    go false here more =
        let rest : find p ys ≡ Some x = rw here at e in
        let t = more rest in
        (y ∷ t.0, t.1, ap (λ l. y ∷ l) t.2)

module _ (image : Image) where
  -- whether a directory keeps a name
  pub is_kept_at : ℕ → List ℕ → Claim → Bool
  is_kept_at directory name c = (c.directory == directory) && bytes_eq c.name name

  pub kept_at-same_name : (c : Claim) → list_any (same_name c) (kept_claims image) ≡ list_any (is_kept_at c.directory c.name) (kept_claims image)
  unfolding is_kept_at
  kept_at-same_name c = λ i. list_any (λ d. eqb-sym c.directory d.directory i && bytes_eq-sym c.name d.name i) (kept_claims image)

-- ---- the least free number

no_branch : {A : Type 0} (b : Bool) (x : Option A) → cond (b && false) x None ≡ None
no_branch true x = refl
no_branch false x = refl

none-is : {A : Type 0} (o : Option A) → is_none o ≡ true → o ≡ None
none-is None h = refl
none-is (Some x) h = absurd (false≢true h)

module _ (image : Image) where
  no_place : (nid : ℕ) → nid_limit (layout image) ≤ nid → found_place image nid ≡ None
  unfolding found_place
  no_place nid past = rw (le-ltb nid (nid_limit (layout image)) past) (no_branch (nat_le 3 nid) _)

  is_free_from_four : ℕ → Bool
  is_free_from_four n = is_none (found_place image (4 + n))

  -- no node has it, and it is at most the limit
  pub least_free : (found_place image (least_free_nid image) ≡ None) × (4 ≤ least_free_nid image) × (3 < nid_limit (layout image) → least_free_nid image ≤ nid_limit (layout image))
  unfolding least_free_nid is_free_from_four
  least_free = go (find is_free_from_four (numbers_below (nid_limit (layout image) + 1))) refl
    where
      limit : ℕ
      limit = nid_limit (layout image)

      go : (o : Option ℕ) → find is_free_from_four (numbers_below (limit + 1)) ≡ o
          → (found_place image (4 + unwrap_or (find is_free_from_four (numbers_below (limit + 1))) 0) ≡ None) × (4 ≤ 4 + unwrap_or (find is_free_from_four (numbers_below (limit + 1))) 0) × (3 < limit → 4 + unwrap_or (find is_free_from_four (numbers_below (limit + 1))) 0 ≤ limit)
      go None e =
          let taken : is_free_from_four limit ≡ false
          = ap is_free_from_four (sym (get_or-numbers_below (limit + 1) limit 0 (omega arith)))
          ∙ find_none is_free_from_four (numbers_below (limit + 1)) (ap is_none e) limit 0 (rw length-numbers_below (omega arith)) in
          let free : is_free_from_four limit ≡ true = ap is_none (no_place (4 + limit) (omega arith)) in
          absurd (false≢true (sym taken ∙ free))
      go (Some x) e =
          let t = first_below is_free_from_four (limit + 1) x e in
          let low : 3 < limit → 4 + x ≤ limit = λ some. ⊎_elim
          (λ before.
          let taken : is_free_from_four (limit - 4) ≡ false = t.2 (limit - 4) before in
          let free : is_free_from_four (limit - 4) ≡ true = ap is_none (no_place (4 + (limit - 4)) (omega (arith, some))) in
          absurd (false≢true (sym taken ∙ free)))
          (λ after. omega (arith, after, some))
          (cases_lt (limit - 4) x) in
          rw e (none-is (found_place image (4 + x)) t.1, omega arith, low)

  -- so it is no file's
  pub least_free-no_file : is_file image (least_free_nid image) ≡ false
  unfolding is_file node_block
  least_free-no_file = rw (least_free.0) refl

-- ---- the names and the directory

module _ (image : Image) (copied : is_some (super_copy image) ≡ true) where
  small : length (kept_claims image) + 1 < 2 ^ 64
  small = let few = kept-few image copied in omega (arith, few)

  taken_by_other : (directory : ℕ) (name : List ℕ) → is_none (kept_target image directory name) ≡ false → list_any (is_kept_at image directory name) (kept_claims image) ≡ true
  unfolding is_kept_at
  taken_by_other directory name h =
      not_not (list_any (is_kept_at image directory name) (kept_claims image)) (sym (none-found (λ c. c.target) (is_kept_at image directory name) (kept_claims image)) ∙ h)

  not_taken : (directory : ℕ) (name : List ℕ) → is_none (kept_target image directory name) ≡ true → list_any (is_kept_at image directory name) (kept_claims image) ≡ false
  unfolding is_kept_at
  not_taken directory name h =
      not-true (list_any (is_kept_at image directory name) (kept_claims image)) (sym (none-found (λ c. c.target) (is_kept_at image directory name) (kept_claims image)) ∙ h)

  -- the name of the directory for lost files is one of those that are tried, and passes
  pub directory_name : (n : ℕ) × (n < 2 ^ 64) × (lost_directory_name image ≡ numbered (codes "lost+found") n) × (option_map_or (is_directory_file image) (kept_target image root (lost_directory_name image)) true ≡ true)
  unfolding lost_directory_name is_kept_at
  directory_name =
      let t = first_free (kept_claims image) root (codes "lost+found") small test taken in
      let below = small in
      (t.0, omega (arith, t.1, below), t.2, ap test t.2 ∙ t.3)
    where
      test : List ℕ → Bool
      test name = option_map_or (is_directory_file image) (kept_target image root name) true

      taken : (name : List ℕ) → test name ≡ false → list_any (is_kept_at image root name) (kept_claims image) ≡ true
      taken name fails = go (kept_target image root name) refl fails
        where
          go : (o : Option ℕ) → kept_target image root name ≡ o → option_map_or (is_directory_file image) o true ≡ false → list_any (is_kept_at image root name) (kept_claims image) ≡ true
          go None e f = absurd (false≢true (sym f))
          go (Some x) e f = taken_by_other root name (ap is_none e)

  -- and so is that of a lost file, which the directory does not keep
  pub file_name : (ino : ℕ) → (n : ℕ) × (n < 2 ^ 64) × (lost_name image ino ≡ numbered (decimal ino) n) × (list_any (is_kept_at image (lost_directory image) (lost_name image ino)) (kept_claims image) ≡ false)
  unfolding lost_name is_kept_at
  file_name ino =
      let t = first_free (kept_claims image) (lost_directory image) (decimal ino) small test (λ name fails. taken_by_other (lost_directory image) name fails) in
      let below = small in
      (t.0, omega (arith, t.1, below), t.2, not_taken (lost_directory image) (lost_name image ino) (ap test t.2 ∙ t.3))
    where
      test : List ℕ → Bool
      test name = is_none (kept_target image (lost_directory image) name)

  -- the directory is one that the root keeps, or has the least free number and is made where a file is lost
  abbrev pub IsKeptPlace : Type 0
  IsKeptPlace = (b : List Claim) × (r : List Claim) × (c : Claim) × (b ++ c ∷ r ≡ kept_claims image) × (c.directory ≡ root) × (c.target ≡ lost_directory image)
      × (is_directory_file image (lost_directory image) ≡ true) × (makes_lost_directory image ≡ false)

  abbrev pub IsMadePlace : Type 0
  IsMadePlace = (lost_directory image ≡ least_free_nid image) × (list_any (is_kept_at image root (lost_directory_name image)) (kept_claims image) ≡ false) × (makes_lost_directory image ≡ has_lost image)

  pub place-cases : IsKeptPlace ⊎ IsMadePlace
  unfolding is_kept_at
  place-cases = go (find (is_kept_at image root (lost_directory_name image)) (kept_claims image)) refl
    where
      and_false : (b : Bool) → (b && false) ≡ false
      and_false true = refl
      and_false false = refl

      and_true : (b : Bool) → (b && true) ≡ b
      and_true true = refl
      and_true false = refl

      go : (o : Option Claim) → find (is_kept_at image root (lost_directory_name image)) (kept_claims image) ≡ o → IsKeptPlace ⊎ IsMadePlace
      go None e =
          let target : kept_target image root (lost_directory_name image) ≡ None = ap (option_map (λ c. c.target)) e in
          inr (
            ap (λ o. unwrap_or o (least_free_nid image)) target,
            not_taken root (lost_directory_name image) (ap is_none target),
            ap (λ o. has_lost image && is_none o) target ∙ and_true (has_lost image),
          )
      go (Some c) e =
          let target : kept_target image root (lost_directory_name image) ≡ Some c.target = ap (option_map (λ c. c.target)) e in
          let place : lost_directory image ≡ c.target = ap (λ o. unwrap_or o (least_free_nid image)) target in
          let s = found-split (is_kept_at image root (lost_directory_name image)) (kept_claims image) c e in
          let here = find_some (is_kept_at image root (lost_directory_name image)) (kept_claims image) c e in
          let directory : is_directory_file image c.target ≡ true = sym (ap (λ o. option_map_or (is_directory_file image) o true) target) ∙ directory_name.3 in
          inl (
            s.0,
            s.1,
            c,
            s.2,
            eqb-true c.directory root (and_parts (c.directory == root) (bytes_eq c.name (lost_directory_name image)) here).0,
            sym place,
            ap (is_directory_file image) place ∙ directory,
            ap (λ o. has_lost image && is_none o) target ∙ and_false (has_lost image),
          )
