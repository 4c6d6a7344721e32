-- The addresses that the blocks and the nodes of a batch leave.
use Rattle.std.proofs.Common.{◌≡◌, ℕ, ◌+◌, ◌<◌, List, [], ◌∷◌, ◌++◌, map, take, length, get_or, All, true, refl, sym, ap, ◌∙◌, append_assoc}
use Rattle.std.proofs.lemmas.List.{get_or_default}
use Rattle.std.proofs.lemmas.List.Elements.{All-append, All-map}
use Rattle.f2_bytes.specs.declared.layout.Layout.{Layout}
use Rattle.f2_bytes.specs.Defragment.{is_among}
use Rattle.f2_bytes.specs.Superblock.{is_main}
use Rattle.f2_sum.specs.declared.records.NatEntry.{NatEntry as HeldNatEntry}
use Rattle.f2_gather.specs.declared.gathering.MovedBlock.{MovedBlock}
use Rattle.f2_gather.specs.Gathering.{addresses_of, AllMain}
use Rattle.f2_commit.specs.Shifting.{node_addresses}
use Rattle.f2_gather.proofs.Ascending.{All-among, among_from}
use Rattle.f2_gather.proofs.GatheredSteps.{maps}

-- one element more of a map behind a list
pub appends : {X Y : Type 0} (f : X → Y) (start : List Y) (xs : List X) (i : ℕ) (d : X) → i < length xs → (ys : List Y) → ys ≡ start ++ map f (take i xs) → ys ++ f (get_or xs i d) ∷ [] ≡ start ++ map f (take (i + 1) xs)
appends f start xs i d low ys is =
    ap (λ l. l ++ f (get_or xs i d) ∷ []) is ∙ append_assoc start (map f (take i xs)) (f (get_or xs i d) ∷ []) ∙ ap (λ l. start ++ l) (maps f xs i d low (map f (take i xs)) refl)

-- all of them lie in main, where those of the blocks and of the nodes do
pub all_left : (l : Layout) (moved : List MovedBlock) (nodes : List (ℕ × HeldNatEntry)) (left : List ℕ) → ((a : ℕ) → is_among left a ≡ is_among (addresses_of moved ++ node_addresses nodes) a)
    → AllMain l moved → All (λ (w : ℕ × HeldNatEntry). is_main l w.1.addr ≡ true) nodes → All (λ a. is_main l a ≡ true) left
all_left l moved nodes left same mains node_mains = λ i d low.
    let x = get_or left i d in
    let each = All-append (λ a. is_main l a ≡ true) (addresses_of moved) (node_addresses nodes) (All-map (λ a. is_main l a ≡ true) (λ (b : MovedBlock). b.address) moved mains) (All-map (λ a. is_main l a ≡ true) (λ (w : ℕ × HeldNatEntry). w.1.addr) nodes node_mains) in
    All-among (λ a. is_main l a ≡ true) (addresses_of moved ++ node_addresses nodes) x each (sym (same x) ∙ among_from left x (i, low, get_or_default left i x d low))
