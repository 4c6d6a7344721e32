-- The comparisons of rule 10 that are made for single items of a directory, and the defects that they give.
use Rattle.std.specs.Prelude.{◌≡◌, ℕ, ◌/◌, true, not, if◌then◌else◌, List, ◌++◌, find, filter_map, Option, Some, None}
use Rattle.std.specs.Option.{option_map_or}
use Rattle.f2_bytes.specs.Buckets.{bucket_of, bucket_of_block, level_of_block}
use Rattle.f2_bytes.specs.Directory.{Item, block_slots}
use Rattle.f2_bytes.specs.Names.{name_hash}
use Rattle.f2_bytes.specs.Check.{Comparison, Defect, defect_of, same, fails_where, where_true, of_value}
use Rattle.f2_defects.specs.Collected.{Collection, Collects, Compares}
use Rattle.f2_items.specs.FirstPlaces.{has_name}
use Rattle.f2_items.specs.declared.directory_block.InBlock.{InBlock}
use Rattle.f2_items.specs.declared.rule_10_items.ItemRules.{ItemRules}
use Rattle.f2_items.specs.declared.rule_10_items.LegalItem.{LegalItem}
use Rattle.f2_view.specs.Directories.{legal}

-- ---- one item

abbrev pub of_legal : Item → Option Comparison → Option Comparison
of_legal item comparison = if item.is_legal then comparison else None

abbrev pub illegal_comparison : Item → Option Comparison
illegal_comparison item = where_true (not item.is_legal) (fails_where true item.len 0)

-- the first of the legal items with this name is the item itself
abbrev pub twin_comparison : List Item → Item → Option Comparison
twin_comparison items item = of_legal item (same (option_map_or (λ first. first.place) (find (has_name item.name) items) 0) item.place)

abbrev pub hash_comparison : Item → Option Comparison
hash_comparison item = of_legal item (same item.hash (name_hash item.name))

-- in a directory of blocks whose levels begin with 2^depth buckets
abbrev pub bucket_comparison : Option ℕ → Item → Option Comparison
bucket_comparison depth item = of_value depth (λ d. of_legal item
    (same (bucket_of_block d (item.place / block_slots)) (bucket_of (level_of_block d (item.place / block_slots)) d (name_hash item.name))))

-- where the function gives the type of each file
abbrev pub kind_comparison : (ℕ → ℕ) → Item → Option Comparison
kind_comparison kind item = of_legal item (same item.kind (kind item.ino))

-- ---- the items of a directory

-- the defects of a part in these items of a directory
unfoldable pub item_defects : ℕ → ℕ → (Item → Option Comparison) → List Item → List Defect
item_defects part ino comparison items = filter_map (λ item. defect_of part ino item.place (comparison item)) items

-- the collection is of these defects of a part
pub record Finds (part : ℕ) (defects : List Defect) (c : Collection) : Type 0 where
  pub number : c.part ≡ part
  pub collects : Collects c defects

-- What is collected of the parts 1 to 5: the defects before a directory, and those of its items so far. The function gives the
-- type of each file, and the directory stands in blocks with this depth, or in its inode.
pub record ItemsCompared (before : ℕ → List Defect) (kind : ℕ → ℕ) (ino : ℕ) (depth : Option ℕ) (items : List Item) (r : ItemRules) : Type 0 where
  pub illegal : Finds 1 (before 1 ++ item_defects 1 ino illegal_comparison items) r.illegal
  pub twins : Finds 2 (before 2 ++ item_defects 2 ino (twin_comparison (legal items)) items) r.twins
  pub hashes : Finds 3 (before 3 ++ item_defects 3 ino hash_comparison items) r.hashes
  pub buckets : Finds 4 (before 4 ++ item_defects 4 ino (bucket_comparison depth) items) r.buckets
  pub kinds : Finds 5 (before 5 ++ item_defects 5 ino (kind_comparison kind) items) r.kinds

-- ---- what the code says of an item

pub record IsLegal (item : Item) (l : LegalItem) : Type 0 where
  pub is : item.is_legal ≡ true
  pub place : item.place ≡ l.place
  pub hash : item.hash ≡ l.hash
  pub ino : item.ino ≡ l.ino
  pub kind : item.kind ≡ l.kind
  pub name : item.name ≡ l.name.now

-- the block with this place, in a directory of this depth
pub record IsIn (depth place : ℕ) (b : InBlock) : Type 0 where
  pub depth_is : b.dir_level ≡ depth
  pub number : place / block_slots ≡ b.number
  pub level : b.level ≡ level_of_block depth (place / block_slots)
  pub bucket : b.bucket ≡ bucket_of_block depth (place / block_slots)

abbrev pub StandsIn : Option ℕ → ℕ → Option InBlock → Type 0
StandsIn None place None = Unit {0}
StandsIn None place (Some b) = ⊥
StandsIn (Some depth) place None = ⊥
StandsIn (Some depth) place (Some b) = IsIn depth place b

-- after the bucket of the block that an item stands in was compared with that of its hash
abbrev pub BucketCompared : Collection → Collection → ℕ → ℕ → ℕ → Option InBlock → Type 0
BucketCompared old new ino place hash None = new ≡ old
BucketCompared old new ino place hash (Some b) = Compares old new ino place (same b.bucket (bucket_of b.level b.dir_level hash))
