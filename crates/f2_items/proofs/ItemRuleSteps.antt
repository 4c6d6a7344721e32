-- One item more in the parts of rule 10 that look at items.
use Rattle.std.proofs.Common.{◌≡◌, ℕ, ◌/◌, List, [], ◌∷◌, ◌++◌, true, false, not, cond, filter, Option, Some, None, refl, sym, ap, subst, ◌∙◌}
use Rattle.std.specs.Prelude.{find, option_map}
use Rattle.std.specs.Option.{option_map_or}
use Rattle.f2_bytes.specs.Buckets.{bucket_of, bucket_of_block, level_of_block}
use Rattle.f2_bytes.specs.Directory.{Item, block_slots}
use Rattle.f2_bytes.specs.Names.{name_hash}
use Rattle.f2_bytes.specs.Check.{Comparison, Defect, same, fails_where, where_true}
use Rattle.f2_defects.specs.Collected.{Collection, Compares}
use Rattle.f2_items.specs.FirstPlaces.{has_name, first_place}
use Rattle.f2_items.specs.ItemComparisons.{Finds, item_defects, of_legal, illegal_comparison, twin_comparison, hash_comparison, bucket_comparison, kind_comparison, ItemsCompared, IsLegal, StandsIn, BucketCompared}
use Rattle.f2_items.specs.declared.directory_block.InBlock.{InBlock}
use Rattle.f2_items.specs.declared.rule_10_items.ItemRules.{ItemRules}
use Rattle.f2_items.specs.declared.rule_10_items.LegalItem.{LegalItem}
use Rattle.f2_items.proofs.ItemSteps.{compared, passed_over, twins_stay}
use Rattle.f2_view.specs.Directories.{legal}

-- an item that isn't legal, or is, has no comparison of the other kind
of_illegal : (x : Item) (c : Option Comparison) → x.is_legal ≡ false → of_legal x c ≡ None
of_illegal x c e = ap (λ b. cond b c None) e

of_a_legal : (x : Item) (c : Option Comparison) → x.is_legal ≡ true → of_legal x c ≡ c
of_a_legal x c e = ap (λ b. cond b c None) e

no_bucket : (depth : Option ℕ) (x : Item) → x.is_legal ≡ false → bucket_comparison depth x ≡ None
no_bucket None x e = refl
no_bucket (Some d) x e = of_illegal x (same (bucket_of_block d (x.place / block_slots)) (bucket_of (level_of_block d (x.place / block_slots)) d (name_hash x.name))) e

module _ (before : ℕ → List Defect) (kind : ℕ → ℕ) (ino : ℕ) (depth : Option ℕ) (items : List Item) (x : Item) where
  -- the defects of twins with one item more
  twins_more : (c : Collection) → Finds 2 (before 2 ++ item_defects 2 ino (twin_comparison (legal items)) items) c
      → Finds 2 (before 2 ++ item_defects 2 ino (twin_comparison (legal (items ++ x ∷ []))) items) c
  twins_more c finds = subst (λ (l : List Defect). Finds 2 (before 2 ++ l) c) (sym (twins_stay ino items (x ∷ []))) finds

  pub illegal_item : (old new : ItemRules) → ItemsCompared before kind ino depth items old → x.is_legal ≡ false
      → new.illegal.part ≡ old.illegal.part → (a b len : ℕ) → a ≡ ino → x.place ≡ b → x.len ≡ len → Compares old.illegal new.illegal a b (fails_where true len 0)
      → new ≡ record old { illegal = new.illegal }
      → ItemsCompared before kind ino depth (items ++ x ∷ []) new
  illegal_item old new is bad part a b len own at length compares others =
      let comparison : illegal_comparison x ≡ fails_where true len 0 = ap (λ t. where_true (not t) (fails_where true x.len 0)) bad ∙ ap (λ n. fails_where true n 0) length in
      let after : ItemRules = record old { illegal = new.illegal } in
      let is_after : ItemsCompared before kind ino depth (items ++ x ∷ []) after = record {
        illegal = compared 1 ino illegal_comparison (before 1) items x old.illegal new.illegal is.illegal part a b (fails_where true len 0) own at comparison compares;
        twins = passed_over 2 ino (twin_comparison (legal (items ++ x ∷ []))) (before 2) items x old.twins (twins_more old.twins is.twins)
            (of_illegal x (same (option_map_or (λ (first : Item). first.place) (find (has_name x.name) (legal (items ++ x ∷ []))) 0) x.place) bad);
        hashes = passed_over 3 ino hash_comparison (before 3) items x old.hashes is.hashes (of_illegal x (same x.hash (name_hash x.name)) bad);
        buckets = passed_over 4 ino (bucket_comparison depth) (before 4) items x old.buckets is.buckets (no_bucket depth x bad);
        kinds = passed_over 5 ino (kind_comparison kind) (before 5) items x old.kinds is.kinds (of_illegal x (same x.kind (kind x.ino)) bad);
      } in
      subst (ItemsCompared before kind ino depth (items ++ x ∷ [])) (sym others) is_after

  -- the bucket of a legal item
  bucket_item : (l : x.is_legal ≡ true) (old new : Collection) (block : Option InBlock) → StandsIn depth x.place block → Finds 4 (before 4 ++ item_defects 4 ino (bucket_comparison depth) items) old
      → new.part ≡ old.part → (a b hash : ℕ) → a ≡ ino → x.place ≡ b → hash ≡ name_hash x.name → BucketCompared old new a b hash block
      → Finds 4 (before 4 ++ item_defects 4 ino (bucket_comparison depth) (items ++ x ∷ [])) new
  bucket_item legal old new block stands finds part a b hash own at hashed compares = go depth block stands finds compares
    where
      go : (depth : Option ℕ) (block : Option InBlock) → StandsIn depth x.place block → Finds 4 (before 4 ++ item_defects 4 ino (bucket_comparison depth) items) old → BucketCompared old new a b hash block
          → Finds 4 (before 4 ++ item_defects 4 ino (bucket_comparison depth) (items ++ x ∷ [])) new
      go None None stands finds compares =
          subst (λ (c : Collection). Finds 4 (before 4 ++ item_defects 4 ino (bucket_comparison None) (items ++ x ∷ [])) c) (sym compares) (passed_over 4 ino (bucket_comparison None) (before 4) items x old finds refl)
      go None (Some k) stands finds compares = absurd stands
      go (Some d) None stands finds compares = absurd stands
      go (Some d) (Some k) stands finds compares =
          compared 4 ino (bucket_comparison (Some d)) (before 4) items x old new finds part a b (same k.bucket (bucket_of k.level k.dir_level hash)) own at
          (of_a_legal x (same (bucket_of_block d (x.place / block_slots)) (bucket_of (level_of_block d (x.place / block_slots)) d (name_hash x.name))) legal
          ∙ λ t. same (sym stands.bucket t) (bucket_of (sym stands.level t) (sym stands.depth_is t) (sym hashed t)))
          compares

  -- a legal item was compared so
  pub legal_item : (old new : ItemRules) → ItemsCompared before kind ino depth items old → (l : LegalItem) → IsLegal x l
      → (first wanted hash a : ℕ) (block : Option InBlock) → first_place x.name (legal (items ++ x ∷ [])) ≡ Some first → wanted ≡ kind x.ino → hash ≡ name_hash x.name → a ≡ ino → StandsIn depth x.place block
      → new.illegal ≡ old.illegal
      → new.twins.part ≡ old.twins.part → Compares old.twins new.twins a l.place (same first l.place)
      → new.hashes.part ≡ old.hashes.part → Compares old.hashes new.hashes a l.place (same l.hash hash)
      → new.buckets.part ≡ old.buckets.part → BucketCompared old.buckets new.buckets a l.place hash block
      → new.kinds.part ≡ old.kinds.part → Compares old.kinds new.kinds a l.place (same l.kind wanted)
      → ItemsCompared before kind ino depth (items ++ x ∷ []) new
  legal_item old new is l legal first wanted hash a block at_first types hashed own stands illegal twins_part twins hashes_part hashes buckets_part buckets kinds_part kinds = record {
    illegal = subst (λ (c : Collection). Finds 1 (before 1 ++ item_defects 1 ino illegal_comparison (items ++ x ∷ [])) c) (sym illegal)
        (passed_over 1 ino illegal_comparison (before 1) items x old.illegal is.illegal (ap (λ b. where_true (not b) (fails_where true x.len 0)) legal.is));
    twins = compared 2 ino (twin_comparison (legal_items)) (before 2) items x old.twins new.twins (twins_more old.twins is.twins) twins_part a l.place (same first l.place) own legal.place
        (of_a_legal x (same (option_map_or (λ (y : Item). y.place) (find (has_name x.name) legal_items) 0) x.place) legal.is ∙ λ t. same (place_of t) (legal.place t)) twins;
    hashes = compared 3 ino hash_comparison (before 3) items x old.hashes new.hashes is.hashes hashes_part a l.place (same l.hash hash) own legal.place
        (of_a_legal x (same x.hash (name_hash x.name)) legal.is ∙ λ t. same (legal.hash t) (sym hashed t)) hashes;
    buckets = bucket_item legal.is old.buckets new.buckets block stands is.buckets buckets_part a l.place hash own legal.place hashed buckets;
    kinds = compared 5 ino (kind_comparison kind) (before 5) items x old.kinds new.kinds is.kinds kinds_part a l.place (same l.kind wanted) own legal.place
        (of_a_legal x (same x.kind (kind x.ino)) legal.is ∙ λ t. same (legal.kind t) (sym types t)) kinds;
  }
    where
      legal_items : List Item
      legal_items = filter (λ (i : Item). i.is_legal) (items ++ x ∷ [])

      place_of : option_map_or (λ (y : Item). y.place) (find (has_name x.name) legal_items) 0 ≡ first
      place_of = go (find (has_name x.name) legal_items) at_first
        where
          go : (o : Option Item) → option_map (λ (y : Item). y.place) o ≡ Some first → option_map_or (λ (y : Item). y.place) o 0 ≡ first
          go None e = absurd (cc e)
          go (Some y) e = cc
