-- What single steps add to what is gathered.
use Rattle.std.proofs.Common.{◌≡◌, ℕ, ◌+◌, ◌<◌, ◌≤◌, List, [], ◌∷◌, ◌++◌, Bool, true, false, nat_lt, cond, map, take, length, get_or, Option, Some, None, sym, ap, ◌∙◌, append_assoc}
use Rattle.std.specs.Prelude.{flat_map}
use Rattle.std.specs.Option.{option_map_or}
use Rattle.std.specs.List.{list_any}
use Rattle.std.proofs.lemmas.Bool.{le-ltb, lt-ltb, cond-true, cond-false, false_from_ne_true}
use Rattle.std.proofs.lemmas.List.{append-nil, take_more, map-append}
use Rattle.std.proofs.lemmas.List.Concat.{flat_map-append}
use Rattle.f2_bytes.specs.Bytes.{Block, Image}
use Rattle.f2_bytes.specs.Defragment.{regular_extent, is_covered}
use Rattle.f2_bytes.specs.NodeAddressTable.{nid_limit, image_nat_entry}
use Rattle.f2_bytes.specs.SegmentTable.{sit}
use Rattle.f2_bytes.specs.Summary.{summary, summary_entry}
use Rattle.f2_bytes.specs.Superblock.{layout, layout_of, segment_of, segment_start}
use Rattle.f2_bytes.specs.Tree.{read_node}
use Rattle.f2_sum.specs.Records.{summary_of}
use Rattle.f2_sum.specs.declared.records.Summary.{Summary as CodeSummary}
use Rattle.f2_view.specs.Mounted.{Mounted, layout_in, IsMountOf}
use Rattle.f2_gather.specs.declared.segments.Segment.{Segment}
use Rattle.f2_gather.specs.Gathering.{Shows, holds_data, moved_block, data_at, number_within, node_at, file_at, covering_at}
use Rattle.f2_gather.proofs.MovedNodes.{none_covers}

-- the layout of a mounted image
pub layout_is : (image : Image) (m : Mounted) → IsMountOf image m → layout_in m ≡ layout image
unfolding layout
layout_is image m of = ap layout_of of.sup

-- ---- lists that grow

pub adds_none : {A : Type 0} (xs ys : List A) → ys ≡ [] → xs ≡ xs ++ ys
adds_none xs ys none = sym (ap (λ l. xs ++ l) none ∙ append-nil xs)

pub grows : {X A : Type 0} (f : X → List A) (start mid new : List A) (xs : List X) (i : ℕ) (d : X) → i < length xs → mid ≡ start ++ flat_map f (take i xs) → new ≡ mid ++ f (get_or xs i d) → new ≡ start ++ flat_map f (take (i + 1) xs)
grows f start mid new xs i d low before step =
    step
    ∙ ap (λ l. l ++ f (get_or xs i d)) before
    ∙ append_assoc start (flat_map f (take i xs)) (f (get_or xs i d))
    ∙ ap (λ l. start ++ l) (sym (
    ap (flat_map f) (take_more xs i d low)
    ∙ flat_map-append f (take i xs) (get_or xs i d ∷ [])
    ∙ ap (λ l. flat_map f (take i xs) ++ l) (append-nil (f (get_or xs i d)))))

-- one element more of a map
pub maps : {X Y : Type 0} (f : X → Y) (xs : List X) (i : ℕ) (d : X) → i < length xs → (ys : List Y) → ys ≡ map f (take i xs) → ys ++ f (get_or xs i d) ∷ [] ≡ map f (take (i + 1) xs)
maps f xs i d low ys is =
    ap (λ l. l ++ f (get_or xs i d) ∷ []) is
    ∙ sym (ap (map f) (take_more xs i d low) ∙ map-append f (take i xs) (get_or xs i d ∷ []))

-- ---- a block

module _ (image : Image) (s : Segment) (shows : Shows image s) (k address : ℕ) (low : k < 512) (at : address ≡ segment_start (layout image) s.number + k) where
  says : (t : CodeSummary) → summary_of t ≡ summary_entry s.summaries k → summary_of t ≡ summary image address
  says t is = is ∙ shows.summaries k low ∙ ap (summary image) (sym at)

  module _ (number : s.number ≡ segment_of (layout image) address) where
    kind : s.is_data ≡ holds_data image address
    kind = shows.is_data ∙ ap (λ n. nat_lt (sit image n).kind 3) number

    pub data_found : (t : CodeSummary) → summary_of t ≡ summary_entry s.summaries k → s.is_data ≡ true → record { address = address; nid = t.nid; version = t.version; place = t.ofs } ∷ [] ≡ data_at image address
    unfolding data_at
    data_found t is yes_data =
        (λ i. record { address = address; nid = (says t is i).nid; version = (says t is i).version; place = (says t is i).place } ∷ [])
        ∙ sym (cond-true (holds_data image address) (moved_block image address ∷ []) [] (sym kind ∙ yes_data))

    pub data_none : s.is_data ≡ false → data_at image address ≡ []
    unfolding data_at
    data_none no_data = cond-false (holds_data image address) (moved_block image address ∷ []) [] (sym kind ∙ no_data)

  pub node_found : (t : CodeSummary) → summary_of t ≡ summary_entry s.summaries k → (limit : ℕ) → limit ≡ nid_limit (layout image) → number_within limit t.nid ≡ node_at image address
  unfolding node_at
  node_found t is limit same = λ i. number_within (same i) (says t is i).nid

-- ---- the file of a node

pub file_past : (image : Image) (nid : ℕ) → nid_limit (layout image) ≤ nid → [] ≡ file_at image nid
unfolding file_at
file_past image nid past = sym (cond-false (nat_lt nid (nid_limit (layout image))) (number_within (nid_limit (layout image)) (image_nat_entry image nid).ino) [] (le-ltb nid (nid_limit (layout image)) past))

pub file_found : (image : Image) (nid ino limit : ℕ) → limit ≡ nid_limit (layout image) → nid < nid_limit (layout image) → ino ≡ (image_nat_entry image nid).ino → number_within limit ino ≡ file_at image nid
unfolding file_at
file_found image nid ino limit same low is =
    (λ i. number_within (same i) (is i))
    ∙ sym (cond-true (nat_lt nid (nid_limit (layout image))) (number_within (nid_limit (layout image)) (image_nat_entry image nid).ino) [] (lt-ltb nid (nid_limit (layout image)) low))

-- ---- a file that covers blocks

pub covering_none : (image : Image) (xs : List ℕ) (file : ℕ) → read_node image file ≡ None → covering_at image xs file ≡ []
unfolding covering_at
covering_none image xs file none =
    ap (λ (o : Option Block). cond (list_any (is_covered (option_map_or regular_extent o (0, 0))) xs) (file ∷ []) []) none
    ∙ cond-false (list_any (is_covered (0, 0)) xs) (file ∷ []) [] (false_from_ne_true (list_any (is_covered (0, 0)) xs) (none_covers xs))

pub covering_found : (image : Image) (xs : List ℕ) (file : ℕ) (b : Block) (t : Bool) → read_node image file ≡ Some b → t ≡ list_any (is_covered (regular_extent b)) xs → cond t (file ∷ []) [] ≡ covering_at image xs file
unfolding covering_at
covering_found image xs file b t read is =
    ap (λ c. cond c (file ∷ []) []) is
    ∙ sym (ap (λ (o : Option Block). cond (list_any (is_covered (option_map_or regular_extent o (0, 0))) xs) (file ∷ []) []) read)

-- whether a node was read
pub read_as : (b : Bool) (x : Block) (o : Option Block) → o ≡ cond b (Some x) None → b ≡ true → o ≡ Some x
read_as b x o is found = is ∙ cond-true b (Some x) None found

pub read_none : (b : Bool) (x : Block) (o : Option Block) → o ≡ cond b (Some x) None → b ≡ false → o ≡ None
read_none b x o is none = is ∙ cond-false b (Some x) None none
