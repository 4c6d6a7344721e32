-- The places of a chain at which fsyncs end, step by step.
use Rattle.std.proofs.Common.{◌≡◌, ℕ, ◌+◌, ◌<◌, List, Bool, true, false, cond, length, get_or, Option, Some, None, refl, sym, ap, ◌∙◌, arith}
use Rattle.std.specs.Prelude.{◌&&◌, ◌||◌, ◌==◌, nat_le, is_some}
use Rattle.std.specs.BTreeMap.{BTreeMap, get}
use Rattle.std.specs.BTreeSet.{BTreeSet, contains}
use Rattle.std.specs.List.{list_any}
use Rattle.std.specs.Option.{option_map_or}
use Rattle.std.specs.Ordering.{nat_cmp}
use Rattle.std.proofs.lemmas.Bool.{and_parts, eqb-true, leb-true, leb-false, lt-ltb, false_from_ne_true}
use Rattle.f2_bytes.specs.Bytes.{Image, numbers_below}
use Rattle.f2_bytes.specs.Node.{footer_ino, has_fsync_mark}
use Rattle.f2_bytes.specs.NodeAddressTable.{nat}
use Rattle.f2_bytes.specs.RollForward.{chain_length, chain_node, is_marked_inode, ends_fsync, is_counting}
use Rattle.f2_bytes.proofs.Below.{found_below}
use Rattle.f2_free.specs.ChainNodes.{node_read, nodes_read, is_marked_by, ends_by, ends_from, HasEnds}
use Rattle.f2_free.specs.declared.chain_reading.ChainNode.{ChainNode}
use Rattle.f2_free.proofs.NumbersBelow.{any-none, any-more, at_number, many, or_false}

-- node n of those that were read
pub read-many : (image : Image) (nodes : List ChainNode) → nodes ≡ nodes_read image → length nodes ≡ chain_length image
read-many image nodes are = ap length are ∙ many (node_read image) (chain_length image)

pub read-node : (image : Image) (nodes : List ChainNode) (n : ℕ) (d : ChainNode) → nodes ≡ nodes_read image → n < length nodes → get_or nodes n d ≡ node_read image n
read-node image nodes n d are low =
    ap (λ l. get_or l n d) are ∙ at_number (node_read image) (chain_length image) n d (let all = read-many image nodes are in omega (arith, all, low))

-- the inodes with both marks
pub marked-more : (image : Image) (n : ℕ) (node : ChainNode) (old new : BTreeSet ℕ) (ino : ℕ) → node ≡ node_read image n
    → contains nat_cmp old ino ≡ list_any (is_marked_inode image ino) (numbers_below n)
    → contains nat_cmp new ino ≡ (contains nat_cmp old ino || is_marked_by node ino)
    → contains nat_cmp new ino ≡ list_any (is_marked_inode image ino) (numbers_below (n + 1))
marked-more image n node old new ino node_is before is =
    is ∙ (λ i. before i || is_marked_by (node_is i) ino) ∙ sym (any-more (is_marked_inode image ino) n)

-- a node ends an fsync
same_where : (a f x y : Bool) → (a ≡ true → x ≡ y) → (a && f && x) ≡ (a && f && y)
same_where true f x y same = ap (λ b. true && f && b) (same refl)
same_where false f x y same = refl

ends-is : (image : Image) (n : ℕ) (node : ChainNode) (marked : BTreeSet ℕ) (ino : ℕ) → node ≡ node_read image n
    → ((x : ℕ) → contains nat_cmp marked x ≡ list_any (is_marked_inode image x) (numbers_below (n + 1)))
    → ends_by marked node ino ≡ ends_fsync image ino n
ends-is image n node marked ino node_is has =
    ap (λ (x : ChainNode). ends_by marked x ino) node_is
    ∙ same_where (footer_ino (chain_node image n) == ino) (has_fsync_mark (chain_node image n))
    (is_some (nat image (footer_ino (chain_node image n))) || contains nat_cmp marked (footer_ino (chain_node image n)))
    (is_some (nat image ino) || list_any (is_marked_inode image ino) (numbers_below (n + 1)))
    (λ same.
    ap (λ x. is_some (nat image x) || contains nat_cmp marked x) (eqb-true (footer_ino (chain_node image n)) ino same)
    ∙ ap (λ b. is_some (nat image ino) || b) (has ino))

-- the last places
later-more : (image : Image) (n ino k : ℕ) → ends_fsync image ino n ≡ true → nat_le k n ≡ (ends_from image n ino k || (nat_le k n && true))
later-more image n ino k ends = go (nat_le k n) refl
  where
    go : (b : Bool) → nat_le k n ≡ b → b ≡ (ends_from image n ino k || (b && true))
    go true is = sym (or_true (ends_from image n ino k))
      where
        or_true : (b : Bool) → (b || true) ≡ true
        or_true true = refl
        or_true false = refl
    go false is =
        sym (or_false (ends_from image n ino k)
        ∙ false_from_ne_true (ends_from image n ino k) (λ some.
        let found = found_below (λ m. nat_le k m && ends_fsync image ino m) n some in
        let low = leb-true k found.0 (and_parts (nat_le k found.0) (ends_fsync image ino found.0) found.2).0 in
        let few = found.1 in
        let high = leb-false k n is in
        absurd (omega (arith, low, few, high))))

pub ends-none : (image : Image) (ino k : ℕ) (last : Option ℕ) → last ≡ None → option_map_or (nat_le k) last false ≡ ends_from image 0 ino k
ends-none image ino k last is = ap (λ o. option_map_or (nat_le k) o false) is ∙ sym (any-none (λ m. nat_le k m && ends_fsync image ino m))

pub ends-more : (image : Image) (n : ℕ) (node : ChainNode) (marked : BTreeSet ℕ) (old new : BTreeMap ℕ ℕ) → node ≡ node_read image n
    → ((x : ℕ) → contains nat_cmp marked x ≡ list_any (is_marked_inode image x) (numbers_below (n + 1)))
    → HasEnds image n old
    → ((ino : ℕ) → get nat_cmp new ino ≡ cond (ends_by marked node ino) (Some n) (get nat_cmp old ino))
    → HasEnds image (n + 1) new
ends-more image n node marked old new node_is has before is = λ ino k.
    ap (λ o. option_map_or (nat_le k) o false) (is ino)
    ∙ go ino k (ends_by marked node ino) (ends-is image n node marked ino node_is has)
    ∙ sym (any-more (λ m. nat_le k m && ends_fsync image ino m) n)
  where
    and_false : (a : Bool) → (a && false) ≡ false
    and_false true = refl
    and_false false = refl

    go : (ino k : ℕ) (b : Bool) → b ≡ ends_fsync image ino n
        → option_map_or (nat_le k) (cond b (Some n) (get nat_cmp old ino)) false ≡ (ends_from image n ino k || (nat_le k n && ends_fsync image ino n))
    go ino k true ends = later-more image n ino k (sym ends) ∙ ap (λ b. ends_from image n ino k || (nat_le k n && b)) ends
    go ino k false ends =
        before ino k
        ∙ sym (or_false (ends_from image n ino k))
        ∙ ap (λ b. ends_from image n ino k || b) (sym (and_false (nat_le k n)))
        ∙ ap (λ b. ends_from image n ino k || (nat_le k n && b)) ends

-- a node counts
pub counts-is : (image : Image) (n ino : ℕ) (b : Bool) → n < chain_length image → ino ≡ footer_ino (chain_node image n) → b ≡ ends_from image (chain_length image) ino n → b ≡ is_counting image n
unfolding is_counting
counts-is image n ino b low same is =
    is
    ∙ ap (λ x. ends_from image (chain_length image) x n) same
    ∙ ap (λ a. a && ends_from image (chain_length image) (footer_ino (chain_node image n)) n) (sym (lt-ltb n (chain_length image) low))
