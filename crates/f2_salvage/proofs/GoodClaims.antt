-- What is known of good claims and of kept ones.
use Rattle.std.proofs.Common.{◌≡◌, ℕ, List, [], ◌∷◌, ◌++◌, Bool, true, false, ◌==◌, cond, All, Some, None, get_or, refl, sym, ap, ◌∙◌}
use Rattle.std.specs.Prelude.{find, flat_map, filter_map}
use Rattle.std.specs.List.{list_any}
use Rattle.std.specs.Str.{bytes_eq}
use Rattle.std.proofs.lemmas.Bool.{and_parts, and_from, not-true, eq-eqb, eqb-false}
use Rattle.std.proofs.lemmas.List.Elements.{All-append}
use Rattle.std.proofs.lemmas.Slice.Eq.{bytes_eq-Decides}
use Rattle.f2_bytes.specs.Bytes.{Image, numbers_below}
use Rattle.f2_bytes.specs.Directory.{Item}
use Rattle.f2_bytes.specs.Names.{is_legal_name, is_dots}
use Rattle.f2_bytes.specs.RollForward.{chain_length}
use Rattle.f2_bytes.specs.SalvagedFiles.{root, is_file, is_directory_file, directories, file_items}
use Rattle.f2_bytes.specs.Claims.{Claim, chain_claim, item_claim, claims, same_name, is_good, filter_after, good_claims, is_kept, kept_claims}
use Rattle.f2_salvage.specs.NameLaws.{IsFirstClaim, KeptAreFirst}
use Rattle.f2_salvage.proofs.FilterAfter.{split-filter_after, any-filter_after, All-splits, All-there, find-split}
use Rattle.f2_salvage.proofs.LegalItems.{HasLegalName, legal-items}
use Rattle.f2_salvage.proofs.ListFacts.{split-filter_map, some_injective}
use Rattle.f2_salvage.proofs.SlotPlaces.{All-flat_map}

pub same_name-itself : (c : Claim) → same_name c c ≡ true
same_name-itself c = and_from (c.directory == c.directory) (bytes_eq c.name c.name) (eq-eqb c.directory c.directory refl) ((bytes_eq-Decides c.name c.name).1 refl)

abbrev HasLegal : Claim → Type 0
HasLegal c = is_legal_name c.name ≡ true

legal_if : (condition : Bool) (c d : Claim) → (condition ≡ true → HasLegal d) → cond condition (Some d) None ≡ Some c → HasLegal c
legal_if true c d legal e = ap HasLegal_test (sym (some_injective d c e)) ∙ legal refl
  where
    HasLegal_test : Claim → Bool
    HasLegal_test x = is_legal_name x.name
legal_if false c d legal e = absurd (cc e)

-- what is known of a good claim, and of the claims before it
pub record GoodParts (image : Image) (before : List Claim) (c : Claim) : Type 0 where
  pub plain : is_dots c.name ≡ false
  pub first : list_any (same_name c) before ≡ false
  pub directory : is_directory_file image c.directory ≡ true
  pub target : is_file image c.target ≡ true
  pub apart : (c.target == c.directory) ≡ false
  pub below : (c.target == root) ≡ false

pub good_parts : (image : Image) (before : List Claim) (c : Claim) → is_good image before c ≡ true → GoodParts image before c
good_parts image before c h =
    let p1 = and_parts _ _ h in
    let p2 = and_parts _ _ p1.0 in
    let p3 = and_parts _ _ p2.0 in
    let p4 = and_parts _ _ p3.0 in
    let p5 = and_parts _ _ p4.0 in
    record {
      plain = not-true (is_dots c.name) p5.0;
      first = not-true (list_any (same_name c) before) p5.1;
      directory = p4.1;
      target = p3.1;
      apart = not-true (c.target == c.directory) p2.1;
      below = not-true (c.target == root) p1.1;
    }

module _ (image : Image) where
  legal_chain_claim : (n : ℕ) (c : Claim) → chain_claim image n ≡ Some c → HasLegal c
  legal_chain_claim n c e = legal_if _ c _ (λ h. (and_parts _ _ h).1) e

  legal_item_claim : (ino : ℕ) (item : Item) (c : Claim) → HasLegalName item → item_claim ino item ≡ Some c → HasLegal c
  legal_item_claim ino item c legal e = legal_if item.is_legal c (record { directory = ino; name = item.name; target = item.ino }) legal e

  -- all claims have legal names
  pub legal-claims : All HasLegal (claims image)
  unfolding claims
  legal-claims =
      All-append HasLegal (filter_map (chain_claim image) (numbers_below (chain_length image)))
      (flat_map (λ ino. filter_map (item_claim ino) (file_items image ino)) (directories image))
      (All-splits HasLegal (filter_map (chain_claim image) (numbers_below (chain_length image))) (λ b r c e.
      let t = split-filter_map (chain_claim image) (numbers_below (chain_length image)) b r c e in
      legal_chain_claim t.1 c t.5))
      (All-flat_map HasLegal (λ ino. filter_map (item_claim ino) (file_items image ino)) (directories image)
      (λ k d below. of_directory (get_or (directories image) k d)))
    where
      of_directory : (ino : ℕ) → All HasLegal (filter_map (item_claim ino) (file_items image ino))
      of_directory ino =
          All-splits HasLegal (filter_map (item_claim ino) (file_items image ino)) (λ b r c e.
          let t = split-filter_map (item_claim ino) (file_items image ino) b r c e in
          legal_item_claim ino t.1 c (All-there HasLegalName (file_items image ino) t.0 t.2 t.1 t.3 (legal-items image ino)) t.5)

  pub good-split : (b r : List Claim) (c : Claim) → b ++ c ∷ r ≡ good_claims image → (d : List Claim) × (s : List Claim) × (d ++ c ∷ s ≡ claims image) × (is_good image d c ≡ true) × (b ≡ filter_after (is_good image) [] d)
  unfolding good_claims
  good-split b r c e = split-filter_after (is_good image) [] (claims image) b r c e

  pub kept-split : (b r : List Claim) (c : Claim) → b ++ c ∷ r ≡ kept_claims image → (d : List Claim) × (s : List Claim) × (d ++ c ∷ s ≡ good_claims image) × (is_kept image d c ≡ true) × (b ≡ filter_after (is_kept image) [] d)
  unfolding kept_claims
  kept-split b r c e = split-filter_after (is_kept image) [] (good_claims image) b r c e

  -- a good claim, and so a kept one, is the first with its name
  pub good-first : (b r : List Claim) (c : Claim) → b ++ c ∷ r ≡ good_claims image → IsFirstClaim image c
  good-first b r c e =
      let t = good-split b r c e in
      let p = good_parts image t.0 c t.3 in
      record {
        first = ap (find (same_name c)) (sym t.2) ∙ find-split (same_name c) t.0 t.1 c p.first (same_name-itself c);
        legal = All-there HasLegal (claims image) t.0 t.1 c t.2 legal-claims;
        plain = p.plain;
        directory = p.directory;
        target = p.target;
        apart = eqb-false c.target c.directory p.apart;
        below = eqb-false c.target root p.below;
      }

  -- no good claim before has its name, and no kept one
  pub good-apart : (b r : List Claim) (c : Claim) → b ++ c ∷ r ≡ good_claims image → list_any (same_name c) b ≡ false
  good-apart b r c e =
      let t = good-split b r c e in
      ap (list_any (same_name c)) t.4 ∙ any-filter_after (same_name c) (is_good image) [] t.0 (good_parts image t.0 c t.3).first

  pub kept-apart : (b r : List Claim) (c : Claim) → b ++ c ∷ r ≡ kept_claims image → list_any (same_name c) b ≡ false
  kept-apart b r c e =
      let t = kept-split b r c e in
      ap (list_any (same_name c)) t.4 ∙ any-filter_after (same_name c) (is_kept image) [] t.0 (good-apart t.0 t.1 c t.2)

  pub kept-first : All (IsFirstClaim image) (kept_claims image)
  kept-first = All-splits (IsFirstClaim image) (kept_claims image) (λ b r c e. let t = kept-split b r c e in good-first t.0 t.1 c t.2)

-- the law
pub kept_are_first : KeptAreFirst
kept_are_first = kept-first
