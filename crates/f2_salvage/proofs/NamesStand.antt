-- Each name of the salvage is a legal one that stands once, in a directory, for another file than that and the root.
use Rattle.std.proofs.Common.{◌≡◌, ℕ, ◌<◌, inl, inr, List, [], ◌∷◌, ◌++◌, Bool, true, false, ◌||◌, ◌==◌, cond, All, refl, sym, ap, subst, ◌∙◌, ⊎_elim, arith, append-nil, lit≤}
use Rattle.std.specs.Prelude.{is_some, count_by, codes, decimal}
use Rattle.std.specs.List.{list_any}
use Rattle.std.specs.Str.{bytes_eq}
use Rattle.std.proofs.lemmas.Bool.{and_parts, and_from, or_left, or_right, not-true, false≢true, eqb-true, eqb-false, ne_eqb, eq-eqb, false_from_ne_true}
use Rattle.std.proofs.lemmas.List.Folds.{list_any-append}
use Rattle.f2_bytes.specs.Bytes.{Image}
use Rattle.f2_bytes.specs.Superblock.{super_copy, layout}
use Rattle.f2_bytes.specs.NodeAddressTable.{nid_limit}
use Rattle.f2_bytes.specs.Names.{is_legal_name, is_dots}
use Rattle.f2_bytes.proofs.Below.{some_below}
use Rattle.f2_bytes.specs.SalvagedFiles.{root, is_file, is_directory_file}
use Rattle.f2_bytes.specs.Claims.{Claim, same_name, is_on, kept_claims}
use Rattle.f2_bytes.specs.LostFiles.{is_lost, has_lost, lost_directory_name, makes_lost_directory, lost_directory, is_made, lost_claim, made_claim}
use Rattle.f2_bytes.specs.Salvage.{names}
use Rattle.f2_bytes.specs.RebuiltDirectories.{is_salvaged_file}
use Rattle.f2_bytes.specs.Mending.{is_salvaged_directory}
use Rattle.f2_salvage.specs.NameLaws.{IsFirstClaim, IsSalvagedName, NamesStandOnce, KeptOrLost}
use Rattle.f2_salvage.proofs.FilterAfter.{All-splits, All-there}
use Rattle.f2_salvage.proofs.GoodClaims.{kept-apart, kept-first}
use Rattle.f2_salvage.proofs.ListFacts.{split-append, split-nil}
use Rattle.f2_salvage.proofs.LostNames.{kept_at-same_name, directory_name, file_name, place-cases}
use Rattle.f2_salvage.proofs.NameFacts.{any-middle}
use Rattle.f2_salvage.proofs.NumberedNames.{numbered-legal, numbered-no_dots, decimal-name}
use Rattle.f2_salvage.proofs.SalvagedNames.{split-one, any-split, count-apart, Origin, lost_names, made_names, limit-small, lost-split, lost-new, made-place, made-number}

-- what is_lost says
pub lost-says : (image : Image) (ino : ℕ) → is_lost image ino ≡ true → (is_file image ino ≡ true) × (ino ≡ root → ⊥) × (list_any (is_on ino) (kept_claims image) ≡ false)
unfolding is_lost
lost-says image ino h =
    let p1 = and_parts _ _ h in
    let p2 = and_parts _ _ p1.0 in
    (p2.0, eqb-false ino root (not-true (ino == root) p2.1), not-true (list_any (is_on ino) (kept_claims image)) p1.1)

module _ (image : Image) (copied : is_some (super_copy image) ≡ true) where
  -- each name with where it comes from, and those before it
  pub names-split : (b r : List Claim) (c : Claim) → b ++ c ∷ r ≡ names image → Origin image c × (list_any (same_name c) b ≡ false)
  unfolding names lost_names made_names
  names-split b r c e =
      ⊎_elim
      (λ first. ⊎_elim
      (λ kept. (inl (b, kept.0, kept.1), kept-apart image b kept.0 c kept.1))
      (λ lost.
      let t = lost-split image copied lost.0 first.0 c lost.2 in (
        inr (inl t.0),
        ap (list_any (same_name c)) lost.1 ∙ list_any-append (same_name c) (kept_claims image) lost.0 ∙ none_of (ap (λ d. list_any (same_name d) (kept_claims image)) t.0.3 ∙ lost-new image copied t.0.0) t.1,
      ))
      (split-append b first.0 (kept_claims image) (lost_names image) c first.1))
      (λ last. by_making (makes_lost_directory image) refl last.0 last.1 last.2)
      (split-append b r (kept_claims image ++ lost_names image) (made_names image) c e)
    where
      none_of : {x y : Bool} → x ≡ false → y ≡ false → (x || y) ≡ false
      none_of a d = (λ i. a i || d i)

      by_making : (m : Bool) → makes_lost_directory image ≡ m → (d : List Claim) → b ≡ (kept_claims image ++ lost_names image) ++ d → d ++ c ∷ r ≡ cond m (made_claim image ∷ []) []
          → Origin image c × (list_any (same_name c) b ≡ false)
      by_making false m d before here = absurd (split-nil d r c here)
      by_making true m d before here =
          let one = split-one d r c (made_claim image) here in (
            inr (inr (m, one.1)),
            ap (list_any (same_name c)) (before ∙ ap (λ l. kept_claims image ++ lost_names image ++ l) one.0 ∙ append-nil (kept_claims image ++ lost_names image))
                ∙ ap (λ d. list_any (same_name d) (kept_claims image ++ lost_names image)) one.1
                ∙ list_any-append (same_name (made_claim image)) (kept_claims image) (lost_names image)
                ∙ none_of (kept_at-same_name image (made_claim image) ∙ (made-place image copied m).1) (no_lost m),
          )
        where
          no_lost : makes_lost_directory image ≡ true → list_any (same_name (made_claim image)) (lost_names image) ≡ false
          no_lost makes = false_from_ne_true _ (λ some.
              let t = any-split (same_name (made_claim image)) (lost_names image) some in
              let lost = (lost-split image copied t.0 t.1 t.2 t.3).0 in
              let same : (root == t.2.directory) ≡ true = (and_parts (root == t.2.directory) (bytes_eq (lost_directory_name image) t.2.name) t.4).0 in
              let at : root ≡ lost_directory image = eqb-true root t.2.directory same ∙ ap (λ d. d.directory) lost.3 in
              let high = (made-number image copied makes).1 in
              omega (arith, at, high))

  lost_in : (ino : ℕ) → ino < nid_limit (layout image) → is_lost image ino ≡ true → has_lost image ≡ true
  lost_in ino below lost = some_below (is_lost image) (nid_limit (layout image)) ino below lost

  -- the directory for lost files is there where a file is lost, and is none of them
  place_there : has_lost image ≡ true → is_salvaged_directory image (lost_directory image) ≡ true
  place_there some =
      ⊎_elim (λ kept. or_left (is_directory_file image (lost_directory image)) (is_made image (lost_directory image)) kept.6)
      (λ made. or_right (is_directory_file image (lost_directory image)) (is_made image (lost_directory image)) (and_from (makes_lost_directory image) (lost_directory image == lost_directory image) (made.2 ∙ some) (eq-eqb _ _ refl)))
      (place-cases image copied)

  pub place_not_lost : (ino : ℕ) → is_lost image ino ≡ true → has_lost image ≡ true → ino ≡ lost_directory image → ⊥
  place_not_lost ino lost some same =
      let says = lost-says image ino lost in
      ⊎_elim
      (λ kept.
      let named : list_any (is_on ino) (kept_claims image) ≡ true
      = ap (list_any (is_on ino)) (sym kept.3) ∙ any-middle (is_on ino) kept.0 kept.1 kept.2 (eq-eqb kept.2.target ino (kept.5 ∙ sym same)) in
      false≢true (sym says.2 ∙ named))
      (λ made. false≢true (sym (made-number image copied (made.2 ∙ some)).2 ∙ ap (is_file image) (sym same) ∙ says.0))
      (place-cases image copied)

  is_kept : (ino : ℕ) → is_file image ino ≡ true → is_salvaged_file image ino ≡ true
  is_kept ino file = or_left (is_file image ino) (is_made image ino) file

  kept_name : (c : Claim) → IsFirstClaim image c → count_by (same_name c) (names image) ≡ 1 → IsSalvagedName image c
  kept_name c f once = record {
    legal = f.legal;
    plain = f.plain;
    directory = or_left (is_directory_file image c.directory) (is_made image c.directory) f.directory;
    target = is_kept c.target f.target;
    apart = f.apart;
    below = f.below;
    once = once;
  }

  lost_file_name : (i : ℕ) → i < nid_limit (layout image) → is_lost image i ≡ true → count_by (same_name (lost_claim image i)) (names image) ≡ 1 → IsSalvagedName image (lost_claim image i)
  lost_file_name i low lost once =
      let n = file_name image copied i in
      let small = limit-small image copied in
      let d = decimal-name i (omega (arith, low, small)) in
      let says = lost-says image i lost in
      record {
        legal = ap is_legal_name n.2 ∙ numbered-legal (decimal i) n.0 n.1 d.0 d.1 d.2;
        plain = ap is_dots n.2 ∙ numbered-no_dots (decimal i) n.0 d.3;
        directory = place_there (lost_in i low lost);
        target = is_kept i says.0;
        apart = place_not_lost i lost (lost_in i low lost);
        below = says.1;
        once = once;
      }

  made_name : makes_lost_directory image ≡ true → is_directory_file image root ≡ true → count_by (same_name (made_claim image)) (names image) ≡ 1 → IsSalvagedName image (made_claim image)
  made_name makes rooted once =
      let n = directory_name image copied in
      let high = (made-number image copied makes).1 in
      record {
        legal = ap is_legal_name n.2 ∙ numbered-legal (codes "lost+found") n.0 n.1 (lit≤ tt) (lit≤ tt) refl;
        plain = ap is_dots n.2 ∙ numbered-no_dots (codes "lost+found") n.0 (λ e. absurd (omega (arith, e)));
        directory = or_left (is_directory_file image root) (is_made image root) rooted;
        target = or_right (is_file image (lost_directory image)) (is_made image (lost_directory image)) (and_from (makes_lost_directory image) (lost_directory image == lost_directory image) makes (eq-eqb (lost_directory image) (lost_directory image) refl));
        apart = λ e. omega (arith, e, high);
        below = λ e. omega (arith, e, high);
        once = once;
      }

  pub all-stand : is_directory_file image root ≡ true → All (IsSalvagedName image) (names image)
  all-stand rooted =
      All-splits (IsSalvagedName image) (names image) (λ b r c e.
      let once = count-apart (names image) (λ b r c e. (names-split b r c e).1) b r c e in
      ⊎_elim
      (λ kept. kept_name c (All-there (IsFirstClaim image) (kept_claims image) kept.0 kept.1 c kept.2 (kept-first image)) once)
      (λ other. ⊎_elim
      (λ lost. subst (IsSalvagedName image) (sym lost.3) (lost_file_name lost.0 lost.1 lost.2 (ap (λ d. count_by (same_name d) (names image)) (sym lost.3) ∙ once)))
      (λ made. subst (IsSalvagedName image) (sym made.1) (made_name made.0 rooted (ap (λ d. count_by (same_name d) (names image)) (sym made.1) ∙ once)))
      other)
      (names-split b r c e).0)

-- the laws
pub names_stand_once : NamesStandOnce
names_stand_once = all-stand

pub kept_or_lost : KeptOrLost
unfolding is_lost
kept_or_lost image ino file other = rw (file, ne_eqb ino root other) refl
