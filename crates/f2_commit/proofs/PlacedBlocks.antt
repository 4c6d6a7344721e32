-- The blocks, entries and summaries of a batch as they are put together, one after the other.
use Rattle.std.proofs.Common.{◌≡◌, ℕ, zero, suc, ◌+◌, ◌<◌, ⊎_elim, List, [], ◌∷◌, ◌++◌, true, false, map, take, drop, replicate, length, get_or, refl, sym, ap, subst, ◌∙◌, arith, append_assoc, length-append}
use Rattle.std.proofs.lemmas.Bool.{cases_lt, false≢true}
use Rattle.std.proofs.lemmas.List.{append-nil, drop_all, drop_at, length-replicate, take_more, take_all, map-append, length-map}
use Rattle.f2_bytes.specs.declared.layout.Layout.{Layout}
use Rattle.f2_bytes.specs.Bytes.{Block, Image, block_at, number_at, numbers_below, quotient_up}
use Rattle.f2_bytes.specs.Defragment.{target_block}
use Rattle.f2_bytes.specs.Summary.{Summary, summary_entry, entry_type}
use Rattle.f2_bytes.specs.Journal.{NatEntry}
use Rattle.f2_bytes.specs.Superblock.{layout, is_main}
use Rattle.f2_bytes.proofs.Numbers.{number_at-drop, number_at-byte}
use Rattle.f2_sum.specs.Records.{nat_entry}
use Rattle.f2_sum.specs.declared.records.NatEntry.{NatEntry as HeldNatEntry}
use Rattle.f2_view.specs.Mounted.{Mounted, layout_in, IsMountOf}
use Rattle.f2_change.specs.Change.{summary_end}
use Rattle.f2_commit.specs.Moves.{node_summary}
use Rattle.f2_commit.specs.Shifting.{IsShifted, AreShifted, HavePlaces, node_addresses, HasSums, AreSums}
use Rattle.f2_gather.proofs.GatheredSteps.{layout_is}
use Rattle.f2_free.proofs.NumbersBelow.{map-none, map-more}

-- ---- lists that grow by one

pub last_more : {X : Type 0} (start mid new done : List X) (x : X) → mid ≡ start ++ done → new ≡ mid ++ x ∷ [] → new ≡ start ++ (done ++ x ∷ [])
last_more start mid new done x before step = step ∙ ap (λ l. l ++ x ∷ []) before ∙ append_assoc start done (x ∷ [])

pub firsts_more : {X Y : Type 0} (f : X → Y) (done : List X) (x : X) (ys : List Y) (y : Y) → map f done ≡ ys → f x ≡ y → map f (done ++ x ∷ []) ≡ ys ++ y ∷ []
firsts_more f done x ys y before is = map-append f done (x ∷ []) ∙ λ i. before i ++ is i ∷ []

-- an element of a list that grew: one of before, or the new one
pub at_before : {X : Type 0} (xs : List X) (x d : X) (k : ℕ) → k < length xs → get_or (xs ++ x ∷ []) k d ≡ get_or xs k d
at_before [] x d k low = absurd (omega (arith, low))
at_before (y ∷ ys) x d zero low = refl
at_before (y ∷ ys) x d (suc k) low = at_before ys x d k (omega (arith, low))

pub at_end : {X : Type 0} (xs : List X) (x d : X) → get_or (xs ++ x ∷ []) (length xs) d ≡ x
at_end [] x d = refl
at_end (y ∷ ys) x d = at_end ys x d

pub length_more : {X : Type 0} (xs : List X) (x : X) → length (xs ++ x ∷ []) ≡ length xs + 1
length_more xs x = length-append xs (x ∷ [])

-- ---- the data

module _ (image : Image) (l : Layout) (targets addresses : List ℕ) where
  abbrev pub data_so_far : ℕ → List (ℕ × Block)
  data_so_far n = map (λ k. (target_block l targets k, block_at image (get_or addresses k 0))) (numbers_below n)

  pub data-none : (start : List (ℕ × Block)) → start ≡ start ++ data_so_far 0
  data-none start = sym (ap (λ l. start ++ l) (map-none (λ k. (target_block l targets k, block_at image (get_or addresses k 0)))) ∙ append-nil start)

  pub data-more : (start mid new : List (ℕ × Block)) (n place : ℕ) (b : Block) → mid ≡ start ++ data_so_far n → new ≡ mid ++ (place, b) ∷ [] → place ≡ target_block l targets n → b ≡ block_at image (get_or addresses n 0)
      → new ≡ start ++ data_so_far (n + 1)
  data-more start mid new n place b before step at is =
      last_more start mid new (data_so_far n) (place, b) before step
      ∙ ap (λ x. start ++ (data_so_far n ++ x ∷ [])) (λ i. (at i, is i))
      ∙ ap (λ l. start ++ l) (sym (map-more (λ k. (target_block l targets k, block_at image (get_or addresses k 0))) n))

-- ---- the nodes

-- the first nodes at their new places
pub record ShiftedSoFar (image : Image) (l : Layout) (targets addresses node_targets : List ℕ) (nodes : List (ℕ × HeldNatEntry)) (n : ℕ) (new : List (ℕ × Block)) : Type 0 where
  pub places : map (λ (w : ℕ × Block). w.0) new ≡ map (target_block l node_targets) (numbers_below n)
  pub size : length new ≡ n
  pub blocks : (k : ℕ) → k < n → IsShifted l targets addresses (block_at image (get_or (node_addresses nodes) k 0)) (get_or (map (λ (w : ℕ × Block). w.1) new) k (block_at image 0))

module _ (image : Image) (l : Layout) (targets addresses node_targets : List ℕ) (nodes : List (ℕ × HeldNatEntry)) where
  pub shifted-none : ShiftedSoFar image l targets addresses node_targets nodes 0 []
  shifted-none = record {
    places = sym (map-none (target_block l node_targets));
    size = refl;
    blocks = λ k low. absurd (omega (arith, low));
  }

  pub shifted-more : (n place : ℕ) (b : Block) (new : List (ℕ × Block)) → ShiftedSoFar image l targets addresses node_targets nodes n new → place ≡ target_block l node_targets n
      → IsShifted l targets addresses (block_at image (get_or (node_addresses nodes) n 0)) b → ShiftedSoFar image l targets addresses node_targets nodes (n + 1) (new ++ (place, b) ∷ [])
  shifted-more n place b new so_far at is = record {
    places = firsts_more (λ (w : ℕ × Block). w.0) new (place, b) (map (target_block l node_targets) (numbers_below n)) (target_block l node_targets n) so_far.places at ∙ sym (map-more (target_block l node_targets) n);
    size = length_more new (place, b) ∙ ap (λ m. m + 1) so_far.size;
    blocks = λ k low. ⊎_elim
        (λ before. subst (IsShifted l targets addresses (block_at image (get_or (node_addresses nodes) k 0)))
        (sym (ap (λ bs. get_or bs k (block_at image 0)) (map-append (λ (w : ℕ × Block). w.1) new ((place, b) ∷ []))
        ∙ at_before (map (λ (w : ℕ × Block). w.1) new) b (block_at image 0) k (omega (arith, before, so_far.size, length-map new (λ (w : ℕ × Block). w.1)))))
        (so_far.blocks k before))
        (λ behind. last k (omega (arith, behind, low)))
        (cases_lt k n);
  }
    where
      size : length (map (λ (w : ℕ × Block). w.1) new) ≡ n
      size = length-map new (λ (w : ℕ × Block). w.1) ∙ so_far.size

      last : (k : ℕ) → k ≡ n → IsShifted l targets addresses (block_at image (get_or (node_addresses nodes) k 0)) (get_or (map (λ (w : ℕ × Block). w.1) (new ++ (place, b) ∷ [])) k (block_at image 0))
      last k here =
          subst (λ m. IsShifted l targets addresses (block_at image (get_or (node_addresses nodes) m 0)) (get_or (map (λ (w : ℕ × Block). w.1) (new ++ (place, b) ∷ [])) m (block_at image 0))) (sym here)
          (subst (IsShifted l targets addresses (block_at image (get_or (node_addresses nodes) n 0)))
          (sym (ap (λ bs. get_or bs n (block_at image 0)) (map-append (λ (w : ℕ × Block). w.1) new ((place, b) ∷ []))
          ∙ ap (λ m. get_or (map (λ (w : ℕ × Block). w.1) new ++ b ∷ []) m (block_at image 0)) (sym size)
          ∙ at_end (map (λ (w : ℕ × Block). w.1) new) b (block_at image 0)))
          is)

  pub shifted-all : (n : ℕ) (new : List (ℕ × Block)) → length nodes ≡ n → ShiftedSoFar image l targets addresses node_targets nodes n new → AreShifted image l targets addresses node_targets nodes new
  shifted-all n new all so_far = record {
    places = so_far.places ∙ ap (λ m. map (target_block l node_targets) (numbers_below m)) (sym all);
    blocks = λ k low. so_far.blocks k (omega (arith, low, all));
  }

-- ---- the entries of nodes

-- the first nodes with their new places
pub record PlacedSoFar (l : Layout) (node_targets : List ℕ) (nodes : List (ℕ × HeldNatEntry)) (n : ℕ) (new : List (ℕ × HeldNatEntry)) : Type 0 where
  pub nids : map (λ (w : ℕ × HeldNatEntry). w.0) new ≡ map (λ (w : ℕ × HeldNatEntry). w.0) (take n nodes)
  pub versions : map (λ (w : ℕ × HeldNatEntry). (nat_entry w.1).version) new ≡ map (λ (w : ℕ × HeldNatEntry). (nat_entry w.1).version) (take n nodes)
  pub inodes : map (λ (w : ℕ × HeldNatEntry). (nat_entry w.1).ino) new ≡ map (λ (w : ℕ × HeldNatEntry). (nat_entry w.1).ino) (take n nodes)
  pub addresses : node_addresses new ≡ map (target_block l node_targets) (numbers_below n)

module _ (l : Layout) (node_targets : List ℕ) (nodes : List (ℕ × HeldNatEntry)) where
  pub placed-none : PlacedSoFar l node_targets nodes 0 []
  placed-none = record { nids = refl; versions = refl; inodes = refl; addresses = sym (map-none (target_block l node_targets)) }

  -- a part of an element that one more of the new list has too
  part_more : {Y : Type 0} (f : ℕ × HeldNatEntry → Y) (n : ℕ) (new : List (ℕ × HeldNatEntry)) (w d : ℕ × HeldNatEntry) → n < length nodes → map f new ≡ map f (take n nodes) → f w ≡ f (get_or nodes n d) → map f (new ++ w ∷ []) ≡ map f (take (n + 1) nodes)
  part_more f n new w d low before is =
      firsts_more f new w (map f (take n nodes)) (f (get_or nodes n d)) before is
      ∙ sym (map-append f (take n nodes) (get_or nodes n d ∷ []))
      ∙ ap (map f) (sym (take_more nodes n d low))

  pub placed-more : (n : ℕ) (new : List (ℕ × HeldNatEntry)) (w d : ℕ × HeldNatEntry) → n < length nodes → PlacedSoFar l node_targets nodes n new → w.0 ≡ (get_or nodes n d).0 → w.1.version ≡ (get_or nodes n d).1.version → w.1.ino ≡ (get_or nodes n d).1.ino
      → w.1.addr ≡ target_block l node_targets n → PlacedSoFar l node_targets nodes (n + 1) (new ++ w ∷ [])
  placed-more n new w d low so_far nid version ino at = record {
    nids = part_more (λ (w : ℕ × HeldNatEntry). w.0) n new w d low so_far.nids nid;
    versions = part_more (λ (w : ℕ × HeldNatEntry). (nat_entry w.1).version) n new w d low so_far.versions version;
    inodes = part_more (λ (w : ℕ × HeldNatEntry). (nat_entry w.1).ino) n new w d low so_far.inodes ino;
    addresses = firsts_more (λ (w : ℕ × HeldNatEntry). w.1.addr) new w (map (target_block l node_targets) (numbers_below n)) (target_block l node_targets n) so_far.addresses at ∙ sym (map-more (target_block l node_targets) n);
  }

  pub placed-all : (n : ℕ) (new : List (ℕ × HeldNatEntry)) → length nodes ≡ n → PlacedSoFar l node_targets nodes n new → HavePlaces l node_targets nodes new
  placed-all n new all so_far =
      let whole : take n nodes ≡ nodes = take_all n nodes (omega (arith, all)) in record {
        nids = so_far.nids ∙ ap (map (λ (w : ℕ × HeldNatEntry). w.0)) whole;
        versions = so_far.versions ∙ ap (map (λ (w : ℕ × HeldNatEntry). (nat_entry w.1).version)) whole;
        inodes = so_far.inodes ∙ ap (map (λ (w : ℕ × HeldNatEntry). (nat_entry w.1).ino)) whole;
        addresses = so_far.addresses ∙ ap (λ m. map (target_block l node_targets) (numbers_below m)) (sym all);
      }

-- ---- summary blocks

-- bytes that are put in place of all of a block
pub whole_put : (zeros bytes : List ℕ) → zeros ≡ replicate 4096 0 → length bytes ≡ 4096 → take 0 zeros ++ bytes ++ drop (0 + length bytes) zeros ≡ bytes
whole_put zeros bytes is long =
    let size : length zeros ≡ 4096 = ap (λ (l : List ℕ). length l) is ∙ length-replicate {A = ℕ} 4096 0 in
    ap (λ l. take 0 zeros ++ bytes ++ l) (drop_all (0 + length bytes) zeros (omega (arith, size, long))) ∙ append-nil (take 0 zeros ++ bytes)

-- the type of a summary block is said in its last bytes
pub end_type : (b : Block) (kind : ℕ) → drop 3584 b ≡ summary_end kind → entry_type b ≡ kind
end_type b kind is =
    sym (number_at-drop b 3584 507 1)
    ∙ ap (λ l. number_at l 507 1) is
    ∙ sym (number_at-drop (summary_end kind) 507 0 1)
    ∙ ap (λ l. number_at l 0 1) (drop_at (replicate 507 0) (kind ∷ replicate 4 0) 507 (length-replicate {A = ℕ} 507 0))
    ∙ number_at-byte (kind ∷ replicate 4 0) 0

-- the first summary blocks
pub record SumsSoFar (targets : List ℕ) (wanted : ℕ) (sums : List Summary) (n : ℕ) (new : List (ℕ × Block)) : Type 0 where
  pub segments : map (λ (w : ℕ × Block). w.0) new ≡ take n targets
  pub size : length new ≡ n
  pub blocks : (i : ℕ) (w : ℕ × Block) → i < n → get_or new i w ≡ w → HasSums wanted sums i w.1

module _ (targets : List ℕ) (wanted : ℕ) (sums : List Summary) where
  pub sums-none : SumsSoFar targets wanted sums 0 []
  sums-none = record { segments = refl; size = refl; blocks = λ i w low. absurd (omega (arith, low)) }

  pub sums-more : (n segment : ℕ) (b : Block) (new : List (ℕ × Block)) → n < length targets → SumsSoFar targets wanted sums n new → segment ≡ get_or targets n 0 → HasSums wanted sums n b
      → SumsSoFar targets wanted sums (n + 1) (new ++ (segment, b) ∷ [])
  sums-more n segment b new low so_far at has = record {
    segments = firsts_more (λ (w : ℕ × Block). w.0) new (segment, b) (take n targets) (get_or targets n 0) so_far.segments at ∙ sym (take_more targets n 0 low);
    size = length_more new (segment, b) ∙ ap (λ m. m + 1) so_far.size;
    blocks = λ i w under is. ⊎_elim
        (λ before. let size = so_far.size in so_far.blocks i w before (sym (at_before new (segment, b) w i (omega (arith, before, size))) ∙ is))
        (λ behind.
        let size = so_far.size in
        let here : i ≡ length new = omega (arith, behind, under, size) in
        let last : (segment, b) ≡ w = sym (at_end new (segment, b) w) ∙ ap (λ m. get_or (new ++ (segment, b) ∷ []) m w) (sym here) ∙ is in
        subst (λ (v : ℕ × Block). HasSums wanted sums i v.1) last (subst (λ m. HasSums wanted sums m b) (sym (here ∙ size)) has))
        (cases_lt i n);
  }

  pub sums-all : (n : ℕ) (new : List (ℕ × Block)) → n ≡ quotient_up (length sums) 512 → SumsSoFar targets wanted sums n new → AreSums targets wanted sums new
  sums-all n new all so_far = record {
    segments = so_far.segments ∙ ap (λ m. take m targets) all;
    blocks = λ i w low is. let size = so_far.size in so_far.blocks i w (omega (arith, low, size)) is;
  }

-- one more entry of a summary block
pub entries-more : (old new : Block) (sums : List Summary) (first n : ℕ) (s : Summary) → ((k : ℕ) → k < n → summary_entry old k ≡ get_or sums (first + k) (node_summary 0)) → summary_entry new n ≡ s
    → ((k : ℕ) → (k ≡ n → ⊥) → summary_entry new k ≡ summary_entry old k) → s ≡ get_or sums (first + n) (node_summary 0) → (k : ℕ) → k < n + 1 → summary_entry new k ≡ get_or sums (first + k) (node_summary 0)
entries-more old new sums first n s so_far read others is k low =
    ⊎_elim (λ before. others k (λ e. omega (arith, e, before)) ∙ so_far k before)
    (λ behind. here (omega (arith, behind, low)))
    (cases_lt k n)
  where
    here : k ≡ n → summary_entry new k ≡ get_or sums (first + k) (node_summary 0)
    here at = ap (summary_entry new) at ∙ read ∙ is ∙ ap (λ m. get_or sums (first + m) (node_summary 0)) (sym at)

-- an entry that says no address in main
pub not_main : (image : Image) (m : Mounted) (l : Layout) (held : HeldNatEntry) (e : NatEntry) → IsMountOf image m → l ≡ layout_in m → nat_entry held ≡ e → false ≡ is_main l held.addr → is_main (layout image) e.address ≡ true → ⊥
not_main image m l held e of own same away inside =
    let at : l ≡ layout image = own ∙ layout_is image m of in
    false≢true (away ∙ (λ i. is_main (at i) (same i).address) ∙ inside)
