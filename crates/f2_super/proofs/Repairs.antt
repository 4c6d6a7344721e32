-- What stands in a block that a repair writes, and what a crash leaves of it.
use Rattle.std.proofs.Common.{◌≡◌, ◌⊎◌, ◌≢◌, inl, inr, ℕ, ◌-◌, ◌<◌, ◌≤◌, Bool, true, false, cond, List, [], ◌++◌, length, set, take, drop, Option, Some, None, Ok, refl, sym, ◌∙◌, ap, subst, arith, get_or-set_same, get_or-set_other}
use Rattle.std.specs.Prelude.{◌&&◌, option_map}
use Rattle.std.proofs.lemmas.List.{drop_at, get_or_past}
use Rattle.f2_bytes.specs.Bytes.{Image, block_at, number_at}
use Rattle.f2_bytes.specs.Superblock.{passes, copy_passes, copy_of, has_known_form, super_of, has_twins, agree}
use Rattle.f2_disk.specs.Disk.{IsTorn, Lands}
use Rattle.f2_super.specs.Copy.{copy_in}
use Rattle.f2_super.specs.Load.{loaded, loaded_copy, unless, refusal_of, IsRepairing}
use Rattle.f2_super.specs.Choice.{found_of}
use Rattle.f2_super.specs.declared.loading.Found.{Found}
use Rattle.f2_super.specs.declared.loading.SuperRefusal.{SuperRefusal}
use Rattle.f2_super.proofs.Agree.{agree-self}

-- what both copies that were read say is what the image says
both_copies : (size : ℕ) (image : Image) (p q : Bool)
    → found_of size (cond p (Some (copy_of (block_at image 0))) None) (cond q (Some (copy_of (block_at image 1))) None)
    ≡ loaded_copy size image (cond p (Some 0) (cond q (Some 1) None)) (p && q && agree (copy_of (block_at image 0)) (copy_of (block_at image 1)))
both_copies size image true true = refl
both_copies size image true false = refl
both_copies size image false true = refl
both_copies size image false false = refl

pub found-loaded : (size : ℕ) (image : Image) → found_of size (copy_in (block_at image 0)) (copy_in (block_at image 1)) ≡ loaded size image
found-loaded size image = both_copies size image (passes (block_at image 0)) (passes (block_at image 1))

none_in_none : copy_in [] ≡ None
unfolding copy_of copy_passes has_known_form number_at
none_in_none = refl

-- past the end there is no copy
pub none_past : (img : Image) (k : ℕ) → length img ≤ k → copy_in (block_at img k) ≡ None
none_past img k le = ap copy_in (get_or_past img k [] le) ∙ none_in_none

pub copy_in_block : (front s : List ℕ) → length front ≡ 1024 → copy_passes s ≡ true → copy_in (front ++ s) ≡ Some s
unfolding copy_of
copy_in_block front s long pass =
    let is : drop 1024 (front ++ s) ≡ s = drop_at front s 1024 long in
    ap (λ (c : List ℕ). cond (copy_passes c) (Some c) None) is ∙ ap (λ t. cond t (Some s) None) pass

some_if : (t : Bool) (c s : List ℕ) → cond t (Some c) None ≡ Some s → (t ≡ true) × (c ≡ s)
some_if true c s is = (refl, cc)
some_if false c s is = cc

pub passes_if_some : (b s : List ℕ) → copy_in b ≡ Some s → copy_passes s ≡ true
passes_if_some b s is = let both = some_if (passes b) (copy_of b) s is in ap copy_passes (sym both.1) ∙ both.0

pub torn_has_none : (b : List ℕ) → IsTorn b → copy_in b ≡ None
torn_has_none b torn = ap (λ t. cond t (Some (copy_of b)) None) torn.fails

-- where the superblock was found
abbrev pub Place : Image → Found → Type 0
Place img f = ((f.copy ≡ 0) × (copy_in (block_at img 0) ≡ Some f.sup)) ⊎ ((f.copy ≡ 1) × (copy_in (block_at img 0) ≡ None) × (copy_in (block_at img 1) ≡ Some f.sup))

ok_unless : (r : Option SuperRefusal) (x f : Found) → unless r x ≡ Ok f → x ≡ f
ok_unless None x f is = cc
ok_unless (Some r) x f is = cc

place_of : (size : ℕ) (a b : Option (List ℕ)) (f : Found) → found_of size a b ≡ Ok f
    → ((f.copy ≡ 0) × (a ≡ Some f.sup)) ⊎ ((f.copy ≡ 1) × (a ≡ None) × (b ≡ Some f.sup))
place_of size (Some c) d f is = let same = ok_unless (refusal_of size c) _ f is in inl (ap (λ x. x.copy) (sym same), ap (λ x. Some x.sup) same)
place_of size None (Some d) f is = let same = ok_unless (refusal_of size d) _ f is in inr (ap (λ x. x.copy) (sym same), refl, ap (λ x. Some x.sup) same)
place_of size None None f is = cc

pub placed : (size : ℕ) (img : Image) (f : Found) → loaded size img ≡ Ok f → Place img f
placed size img f is = place_of size (copy_in (block_at img 0)) (copy_in (block_at img 1)) f (found-loaded size img ∙ is)

none_if : (t : Bool) (c : List ℕ) → cond t (Some c) None ≡ None → t ≡ false
none_if true c is = cc
none_if false c is = refl

-- the superblock of an image is the first of its copies that passes
super_first : (image : Image) (s : List ℕ) → copy_in (block_at image 0) ≡ Some s → super_of image ≡ Some s
super_first image s is =
    let both = some_if (passes (block_at image 0)) (copy_of (block_at image 0)) s is in
    ap (λ t. option_map (λ n. copy_of (block_at image n)) (cond t (Some 0) (cond (passes (block_at image 1)) (Some 1) None))) both.0 ∙ ap (λ (c : List ℕ). Some c) both.1

super_second : (image : Image) (s : List ℕ) → copy_in (block_at image 0) ≡ None → copy_in (block_at image 1) ≡ Some s → super_of image ≡ Some s
super_second image s none is =
    let fails = none_if (passes (block_at image 0)) (copy_of (block_at image 0)) none in
    let both = some_if (passes (block_at image 1)) (copy_of (block_at image 1)) s is in
    ap (λ t. option_map (λ n. copy_of (block_at image n)) (cond t (Some 0) (cond (passes (block_at image 1)) (Some 1) None))) fails
    ∙ ap (λ t. option_map (λ n. copy_of (block_at image n)) (cond t (Some 1) None)) both.0 ∙ ap (λ (c : List ℕ). Some c) both.1

-- where both copies are the same, they are twins
same_twins : (image : Image) (s : List ℕ) → copy_in (block_at image 0) ≡ Some s → copy_in (block_at image 1) ≡ Some s → has_twins image ≡ true
same_twins image s first second =
    let a = some_if (passes (block_at image 0)) (copy_of (block_at image 0)) s first in
    let b = some_if (passes (block_at image 1)) (copy_of (block_at image 1)) s second in
    (λ i. a.0 i && b.0 i && agree (a.1 i) (b.1 i)) ∙ agree-self s

pub super_at : (img : Image) (f : Found) → Place img f → super_of img ≡ Some f.sup
super_at img f (inl (_, first)) = super_first img f.sup first
super_at img f (inr (_, none, second)) = super_second img f.sup none second

block_set_same : (img c : Image) (k : ℕ) (b : List ℕ) → k < length img → c ≡ set img k b → block_at c k ≡ b
block_set_same img c k b lt is = ap (λ (i : Image). block_at i k) is ∙ get_or-set_same img k b [] lt

block_set_other : (img c : Image) (k j : ℕ) (b : List ℕ) → j ≢ k → c ≡ set img k b → block_at c j ≡ block_at img j
block_set_other img c k j b ne is = ap (λ (i : Image). block_at i j) is ∙ get_or-set_other img k j b [] ne

-- A write of the copy to the other block, done, not done or torn, leaves the same superblock.
landed_at : (img c : Image) (f : Found) (at : ℕ) (bytes : List ℕ) → copy_in bytes ≡ Some f.sup → 2 ≤ length img → Place img f → at ≡ 1 - f.copy → Lands at bytes img c → super_of c ≡ Some f.sup
landed_at img c f at bytes good two place other (inl same) = ap super_of same ∙ super_at img f place
landed_at img c f at bytes good two (inl (zeroth, first)) other (inr (inl wrote)) =
    let kept = block_set_other img c at 0 bytes (omega arith) wrote in
    super_first c f.sup (ap copy_in kept ∙ first)
landed_at img c f at bytes good two (inl (zeroth, first)) other (inr (inr (torn, is_torn, wrote))) =
    let kept = block_set_other img c at 0 torn (omega arith) wrote in
    super_first c f.sup (ap copy_in kept ∙ first)
landed_at img c f at bytes good two (inr (one, none, second)) other (inr (inl wrote)) =
    let zeroth : at ≡ 0 = omega arith in
    let is = block_set_same img c 0 bytes (omega arith) (wrote ∙ ap (λ (k : ℕ). set img k bytes) zeroth) in
    super_first c f.sup (ap copy_in is ∙ good)
landed_at img c f at bytes good two (inr (one, none, second)) other (inr (inr (torn, is_torn, wrote))) =
    let zeroth : at ≡ 0 = omega arith in
    let is = block_set_same img c 0 torn (omega arith) (wrote ∙ ap (λ (k : ℕ). set img k torn) zeroth) in
    let kept = block_set_other img c at 1 torn (omega arith) wrote in
    super_second c f.sup (ap copy_in is ∙ torn_has_none torn is_torn) (ap copy_in kept ∙ second)

copy_passes_at : (img : Image) (f : Found) → Place img f → copy_passes f.sup ≡ true
copy_passes_at img f (inl (_, first)) = passes_if_some (block_at img 0) f.sup first
copy_passes_at img f (inr (_, none, second)) = passes_if_some (block_at img 1) f.sup second

-- what a write of the copy over the other block leaves
pub repairing : (f : Found) (img c : Image) (copy : ℕ) (into bytes : List ℕ) → copy ≡ f.copy → into ≡ block_at img (1 - copy) → bytes ≡ take 1024 into ++ f.sup → Lands (1 - copy) bytes img c → IsRepairing f img c
repairing f img c copy into bytes is_copy is_read is_put lands =
    subst (λ (at : ℕ). Lands at (take 1024 (block_at img at) ++ f.sup) img c) (ap (λ (n : ℕ). 1 - n) is_copy)
    (subst (λ (b : List ℕ). Lands (1 - copy) b img c) (is_put ∙ ap (λ (b : List ℕ). take 1024 b ++ f.sup) is_read) lands)

-- what a repair is handed, and what it writes
module _ (img : Image) (f : Found) (size : ℕ) (found : loaded size img ≡ Ok f) (front bytes : List ℕ) (at : ℕ) (other : at ≡ 1 - f.copy) (is : bytes ≡ front ++ f.sup) (long : length front ≡ 1024) (two : 2 ≤ length img) where
  place : Place img f
  place = placed size img f found

  good : copy_in bytes ≡ Some f.sup
  good = ap copy_in is ∙ copy_in_block front f.sup long (copy_passes_at img f place)

  pub landed : (s : List ℕ) → super_of img ≡ Some s → (c : Image) → Lands at bytes img c → super_of c ≡ Some s
  landed s has c lands = landed_at img c f at bytes good two place other lands ∙ sym (super_at img f place) ∙ has

  -- and once it is done, both copies agree
  twins_at : (c : Image) → c ≡ set img at bytes → Place img f → has_twins c ≡ true
  twins_at c wrote (inl (zeroth, first)) =
      let one : at ≡ 1 = omega arith in
      let kept = block_set_other img c at 0 bytes (omega arith) wrote in
      let new = block_set_same img c 1 bytes (omega arith) (wrote ∙ ap (λ (k : ℕ). set img k bytes) one) in
      same_twins c f.sup (ap copy_in kept ∙ first) (ap copy_in new ∙ good)
  twins_at c wrote (inr (first, none, second)) =
      let zeroth : at ≡ 0 = omega arith in
      let kept = block_set_other img c at 1 bytes (omega arith) wrote in
      let new = block_set_same img c 0 bytes (omega arith) (wrote ∙ ap (λ (k : ℕ). set img k bytes) zeroth) in
      same_twins c f.sup (ap copy_in new ∙ good) (ap copy_in kept ∙ second)

  pub twins : (c : Image) → c ≡ set img at bytes → has_twins c ≡ true
  twins c wrote = twins_at c wrote place
