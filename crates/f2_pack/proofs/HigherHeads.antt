-- The head that was found and the pack that counts.
use Rattle.std.proofs.Common.{◌≡◌, ℕ, Bool, true, false, cond, nat_le, not, ◌||◌, ◌&&◌, Option, Some, None, Result, Ok, Err, refl, sym, ap, ◌∙◌}
use Rattle.f2_bytes.specs.Bytes.{Block, Image}
use Rattle.f2_bytes.specs.declared.layout.Layout.{Layout}
use Rattle.f2_bytes.specs.Checkpoint.{Pack, pack_at, pack_head, checkpoint_ver, is_pack_valid, chosen_pack}
use Rattle.f2_pack.specs.Held.{Held}
use Rattle.f2_pack.specs.Valid.{head_in}
use Rattle.f2_pack.specs.Choice.{choice, choice_in, read_of, higher_of, below_limit, version_limit}
use Rattle.f2_pack.specs.declared.choosing.PackRefusal.{PackRefusal}
use Rattle.f2_pack.specs.declared.choosing.PackRefusal.TheVariants.{VersionLimit}

-- the head of the pack that counts, with its number
abbrev found_in : (ℕ → Pack) → Option ℕ → Option (Block × ℕ)
found_in packs None = None
found_in packs (Some number) = Some (pack_head (packs number), number)

higher_found : (l : Layout) (image : Image) → higher_of (head_in l (pack_at l image 0)) (head_in l (pack_at l image 1)) ≡ found_in (pack_at l image) (chosen_pack l image)
unfolding chosen_pack
higher_found l image = go (is_pack_valid l first) (is_pack_valid l second) (nat_le (checkpoint_ver (pack_head second)) (checkpoint_ver (pack_head first))) refl
  where
    first : Pack
    first = pack_at l image 0

    second : Pack
    second = pack_at l image 1

    later : Bool
    later = nat_le (checkpoint_ver (pack_head second)) (checkpoint_ver (pack_head first))

    go : (v w c : Bool) → later ≡ c → higher_of (cond v (Some (pack_head first)) None) (cond w (Some (pack_head second)) None) ≡ found_in (pack_at l image) (cond (v && (not w || c)) (Some 0) (cond w (Some 1) None))
    go true true true is = ap (λ t. cond t (Some (pack_head first, 0)) (Some (pack_head second, 1))) is
    go true true false is = ap (λ t. cond t (Some (pack_head first, 0)) (Some (pack_head second, 1))) is
    go true false c is = refl
    go false true c is = refl
    go false false c is = refl

-- what is refused of it is refused of the image
refused_in : (packs : ℕ → Pack) (found : Option ℕ) (e : PackRefusal) → Err e ≡ below_limit (found_in packs found) → Err e ≡ choice_in packs found
refused_in packs None e is = cc
refused_in packs (Some number) e is = go (nat_le version_limit (checkpoint_ver (pack_head (packs number)))) is
  where
    found_one : Block × ℕ
    found_one = (pack_head (packs number), number)

    go : (t : Bool) → Err e ≡ cond t (Err (VersionLimit (checkpoint_ver (pack_head (packs number))))) (Ok found_one)
        → Err e ≡ cond t (Err (VersionLimit (checkpoint_ver (pack_head (packs number))))) (read_of (packs number) number)
    go true is = cc
    go false is = absurd (cc is)

-- the pack of a head that is not refused
pub record Found (packs : ℕ → Pack) (answer : Result Held PackRefusal) (head : Block) (number : ℕ) : Type 0 where
  pub is_head : pack_head (packs number) ≡ head
  pub is_read : answer ≡ read_of (packs number) number

found_pack : (packs : ℕ → Pack) (found : Option ℕ) (x : Block × ℕ) → Ok x ≡ below_limit (found_in packs found) → Found packs (choice_in packs found) x.0 x.1
found_pack packs None x is = absurd (cc is)
found_pack packs (Some number) x is = go (nat_le version_limit (checkpoint_ver (pack_head (packs number)))) refl is
  where
    head : Block
    head = pack_head (packs number)

    found_one : Block × ℕ
    found_one = (head, number)

    go : (t : Bool) → nat_le version_limit (checkpoint_ver head) ≡ t → Ok x ≡ cond t (Err (VersionLimit (checkpoint_ver head))) (Ok found_one) → Found packs (choice_in packs (Some number)) x.0 x.1
    go true limit is = absurd (cc is)
    go false limit is =
        let same : x ≡ found_one = cc is in
        let first : x.0 ≡ head = ap (λ y. y.0) same in
        let second : x.1 ≡ number = ap (λ y. y.1) same in
        record {
          is_head = ap (λ n. pack_head (packs n)) second ∙ sym first;
          is_read = ap (λ t. cond t (Err (VersionLimit (checkpoint_ver head))) (read_of (packs number) number)) limit ∙ ap (λ n. read_of (packs n) n) (sym second);
        }

-- both heads that were read, where the disk tells its blocks
module _ (l : Layout) (image : Image) (first second : Option Block) (is_first : first ≡ head_in l (pack_at l image 0)) (is_second : second ≡ head_in l (pack_at l image 1)) where
  both : below_limit (higher_of first second) ≡ below_limit (found_in (pack_at l image) (chosen_pack l image))
  both = (λ i. below_limit (higher_of (is_first i) (is_second i))) ∙ ap below_limit (higher_found l image)

  pub refused_choice : (e : PackRefusal) → Err e ≡ below_limit (higher_of first second) → Err e ≡ choice l image
  refused_choice e is = refused_in (pack_at l image) (chosen_pack l image) e (is ∙ both)

  pub found_choice : (x : Block × ℕ) → Ok x ≡ below_limit (higher_of first second) → Found (pack_at l image) (choice l image) x.0 x.1
  found_choice x is = found_pack (pack_at l image) (chosen_pack l image) x (is ∙ both)
