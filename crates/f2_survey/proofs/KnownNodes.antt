-- What is kept of the nodes is what the image says of them.
use Rattle.std.proofs.Common.{◌≡◌, ◌≢◌, ℕ, ◌-◌, ◌^◌, ◌≤◌, ◌<◌, Bool, true, false, cond, List, length, map, get_or, Option, Some, None, refl, sym, ap, subst, ◌∙◌, arith}
use Rattle.std.specs.Prelude.{◌&&◌, ◌==◌, not, nat_le, nat_lt, option_and_then, IfSome}
use Rattle.std.specs.Option.{option_map_or}
use Rattle.std.proofs.lemmas.Bool.{lt-leb, le-leb, le-ltb, lt-ltb, eq-eqb, ne_eqb}
use Rattle.std.proofs.lemmas.List.{length-map, get_or-map}
use Rattle.f2_bytes.proofs.Below.{length-numbers_below, get_or-numbers_below}
use Rattle.f2_bytes.specs.Bytes.{Block, Image, numbers_below}
use Rattle.f2_bytes.specs.Journal.{NatEntry}
use Rattle.f2_bytes.specs.Node.{node_offset}
use Rattle.f2_bytes.specs.NodeAddressTable.{nat, is_live, image_nat_entry}
use Rattle.f2_bytes.specs.Superblock.{layout}
use Rattle.f2_bytes.specs.Tree.{main_block, read_node, is_inode}
use Rattle.f2_bytes.specs.Check.{nids, inode_of, none_value, offset_of_node}
use Rattle.f2_survey.specs.Known.{Known, IsKnown, belongs_to, offset_said, kind_said}

-- the list of what a function gives for the numbers below a limit has it at each of them
pub at_number : {X : Type 0} (f : ℕ → X) (n k : ℕ) (d : X) → k < n → get_or (map f (numbers_below n)) k d ≡ f k
at_number f n k d low =
    get_or-map f (numbers_below n) k 0 d (omega (arith, length-numbers_below n, low))
    ∙ ap f (get_or-numbers_below n k 0 low)

pub many : {X : Type 0} (f : ℕ → X) (n : ℕ) → length (map f (numbers_below n)) ≡ n
many f n = length-map (numbers_below n) f ∙ length-numbers_below n

live_when : (p q z : Bool) → p ≡ true → q ≡ true → z ≡ false → (p && q && not z) ≡ true
live_when true true false a b c = refl
live_when false q z a b c = cc
live_when true false z a b c = cc
live_when true true true a b c = cc

not_first : (p q z : Bool) → p ≡ false → (p && q && not z) ≡ false
not_first false q z is = refl
not_first true q z is = cc

not_second : (p q z : Bool) → q ≡ false → (p && q && not z) ≡ false
not_second false q z is = refl
not_second true false z is = refl
not_second true true z is = cc

not_third : (p q z : Bool) → z ≡ true → (p && q && not z) ≡ false
not_third false q z is = refl
not_third true false z is = refl
not_third true true true is = refl
not_third true true false is = cc

module _ (image : Image) (nid : ℕ) where
  none_live : is_live (layout image) nid (image_nat_entry image nid) ≡ false → None ≡ nat image nid
  unfolding nat
  none_live is = sym (ap (λ b. cond b (Some (image_nat_entry image nid)) None) is)

  one_live : is_live (layout image) nid (image_nat_entry image nid) ≡ true → Some (image_nat_entry image nid) ≡ nat image nid
  unfolding nat
  one_live is = sym (ap (λ b. cond b (Some (image_nat_entry image nid)) None) is)

  pub no_low : nid < 3 → None ≡ nat image nid
  no_low low = none_live (not_first (nat_le 3 nid) (nat_lt nid (nids image)) ((image_nat_entry image nid).address == 0) (lt-leb 3 nid low))

  pub no_high : nids image ≤ nid → None ≡ nat image nid
  no_high high = none_live (not_second (nat_le 3 nid) (nat_lt nid (nids image)) ((image_nat_entry image nid).address == 0) (le-ltb nid (nids image) high))

  pub no_address : (image_nat_entry image nid).address ≡ 0 → None ≡ nat image nid
  no_address zero = none_live (not_third (nat_le 3 nid) (nat_lt nid (nids image)) ((image_nat_entry image nid).address == 0) (eq-eqb (image_nat_entry image nid).address 0 zero))

  pub a_node : 3 ≤ nid → nid < nids image → (image_nat_entry image nid).address ≢ 0 → Some (image_nat_entry image nid) ≡ nat image nid
  a_node low high some =
      one_live (live_when (nat_le 3 nid) (nat_lt nid (nids image)) ((image_nat_entry image nid).address == 0) (le-leb 3 nid low) (lt-ltb nid (nids image) high) (ne_eqb (image_nat_entry image nid).address 0 some))

  -- where there is no node, none is read, and there is no inode
  pub none_read : None ≡ nat image nid → None ≡ read_node image nid
  unfolding read_node
  none_read none = ap (option_and_then (λ (e : NatEntry). main_block image e.address)) none

  pub no_inode : None ≡ nat image nid → None ≡ inode_of image nid
  unfolding is_inode
  no_inode none = ap (λ o. cond (option_map_or (λ (e : NatEntry). e.ino == nid) o false) (read_node image nid) None) none

  -- the entry that is read of the list of all entries
  pub listed_entry : {E : Type 0} (f : E → NatEntry) (entries : List E) (d : E) → map f entries ≡ map (image_nat_entry image) (numbers_below (nids image)) → nid < length entries
      → f (get_or entries nid d) ≡ image_nat_entry image nid
  listed_entry f entries d are low =
      sym (get_or-map f entries nid d (f d) low)
      ∙ ap (λ l. get_or l nid (f d)) are
      ∙ at_number (image_nat_entry image) (nids image) nid (f d) (omega (arith, ap length are, length-map entries f, many (image_nat_entry image) (nids image), low))

-- what the lists that are kept say, which are seen as this
module _ (image : Image) {k self : Known} (seen : k ≡ self) (of : IsKnown image self) where
  known : IsKnown image k
  known = subst (λ (x : Known). IsKnown image x) (sym seen) of

  pub known_limit : length k.entries ≡ nids image
  known_limit = ap length known.entries ∙ many (image_nat_entry image) (nids image)

  module _ (nid : ℕ) where
    pub kept_entry : {E : Type 0} (f : E → NatEntry) (entries : List E) (e : E) → map f entries ≡ k.entries → nid < length entries → e ≡ get_or entries nid e → f e ≡ image_nat_entry image nid
    kept_entry f entries e are low is = ap f is ∙ listed_entry image nid f entries e (are ∙ known.entries) low

    pub known_offset : (d : ℕ) → nid < length k.offsets → get_or k.offsets nid d ≡ offset_said image nid
    known_offset d low =
        ap (λ l. get_or l nid d) known.offsets
        ∙ at_number (offset_said image) (nids image) nid d (omega (arith, ap length known.offsets, many (offset_said image) (nids image), low))

    pub known_kind : (d : ℕ) → nid < length k.kinds → get_or k.kinds nid d ≡ kind_said image nid
    known_kind d low =
        ap (λ l. get_or l nid d) known.kinds
        ∙ at_number (kind_said image) (nids image) nid d (omega (arith, ap length known.kinds, many (kind_said image) (nids image), low))

    pub past_offsets : length k.offsets ≤ nid → None ≡ read_node image nid
    past_offsets high = none_read image nid (no_high image nid (omega (arith, ap length known.offsets, many (offset_said image) (nids image), high)))

    pub past_kinds : length k.kinds ≤ nid → None ≡ inode_of image nid
    past_kinds high = no_inode image nid (no_high image nid (omega (arith, ap length known.kinds, many (kind_said image) (nids image), high)))

-- the offset that stands for none, and any other one
pub no_offset : (o : Option Block) → IfSome o (λ b. node_offset b < 2 ^ 29) → option_map_or node_offset o (2 ^ 32 - 1) ≡ 2 ^ 32 - 1 → none_value ≡ option_map_or node_offset o none_value
no_offset None small is = refl
no_offset (Some b) small is = absurd (omega (arith, small, is))

pub an_offset : (o : Option Block) → option_map_or node_offset o (2 ^ 32 - 1) ≢ 2 ^ 32 - 1 → option_map_or node_offset o (2 ^ 32 - 1) ≡ option_map_or node_offset o none_value
an_offset None other = absurd (other refl)
an_offset (Some b) other = refl

module _ (image : Image) (nid ino : ℕ) where
  pub of_another : false ≡ belongs_to image nid ino → none_value ≡ offset_of_node image nid ino
  unfolding offset_of_node
  of_another is = ap (λ b. cond b (option_map_or node_offset (read_node image nid) none_value) none_value) is

  pub of_this : true ≡ belongs_to image nid ino → option_map_or node_offset (read_node image nid) none_value ≡ offset_of_node image nid ino
  unfolding offset_of_node
  of_this is = ap (λ b. cond b (option_map_or node_offset (read_node image nid) none_value) none_value) is

pub inode_is : (image : Image) (nid : ℕ) → belongs_to image nid nid ≡ is_inode image nid
unfolding is_inode
inode_is image nid = refl
