-- What lists give numbers, and what an image has where blocks were written.
use Rattle.std.proofs.Common.{◌≡◌, ℕ, suc, ◌+◌, ◌<◌, Bool, true, false, cond, List, [], ◌∷◌, ◌++◌, map, take, length, get_or, set, Option, Some, None, refl, sym, ap, subst, ◌∙◌, arith, length-set, get_or-set_same, get_or-set_other}
use Rattle.std.specs.Prelude.{◌==◌, ◌||◌, fold, unwrap_or, is_some}
use Rattle.std.specs.List.{list_any}
use Rattle.std.specs.Option.{option_or}
use Rattle.std.proofs.lemmas.Bool.{eq-eqb, eqb-true, or_parts, or_right, false≢true}
use Rattle.std.proofs.lemmas.List.Sums.{fold_more, fold-append}
use Rattle.f2_bytes.specs.Bytes.{Block, Image, block_at}
use Rattle.f2_change.specs.Change.{given}
use Rattle.f2_change.specs.TableBlocks.{AreEach}
use Rattle.f2_change.specs.Writes.{with_writes}

abbrev pub step : {T : Type 0} → ℕ → Option T → ℕ × T → Option T
step n found w = cond (w.0 == n) (Some w.1) found

pub given-none : {T : Type 0} (n : ℕ) → given {T = T} [] n ≡ None
unfolding given
given-none n = refl

pub given-more : {T : Type 0} (pairs : List (ℕ × T)) (n i : ℕ) (w : ℕ × T) → i < length pairs → w ≡ get_or pairs i w → given (take (i + 1) pairs) n ≡ cond (w.0 == n) (Some w.1) (given (take i pairs) n)
unfolding given
given-more {T} pairs n i w below is =
    fold_more (step {T = T} n) None pairs i w below ∙ ap (λ (x : ℕ × T). step n (given (take i pairs) n) x) (sym is)

or_assoc : {T : Type 0} (a b c : Option T) → option_or (option_or a b) c ≡ option_or a (option_or b c)
or_assoc None b c = refl
or_assoc (Some x) b c = refl

or_unwrap : {T : Type 0} (a b : Option T) (d : T) → unwrap_or (option_or a b) d ≡ unwrap_or a (unwrap_or b d)
or_unwrap None b d = refl
or_unwrap (Some x) b d = refl

hit_or : {T : Type 0} (hit : Bool) (v : T) (a : Option T) → cond hit (Some v) a ≡ option_or (cond hit (Some v) None) a
hit_or true v a = refl
hit_or false v a = refl

pub given_from : {T : Type 0} (n : ℕ) (a : Option T) (pairs : List (ℕ × T)) → fold (step n) a pairs ≡ option_or (given pairs n) a
unfolding given
given_from n a [] = refl
given_from {T} n a (w ∷ rest) =
    given_from n (step n a w) rest
    ∙ ap (λ (o : Option T). option_or (given rest n) o) (hit_or (w.0 == n) w.1 a)
    ∙ sym (or_assoc (given rest n) (step n None w) a)
    ∙ ap (λ (o : Option T). option_or o a) (sym (given_from n (step n None w) rest))

pub given-append : {T : Type 0} (xs ys : List (ℕ × T)) (n : ℕ) → given (xs ++ ys) n ≡ option_or (given ys n) (given xs n)
unfolding given
given-append {T} xs ys n = fold-append (step {T = T} n) None xs ys ∙ given_from n (given xs n) ys

pub given-first : {T : Type 0} (w : ℕ × T) (rest : List (ℕ × T)) (n : ℕ) → given (w ∷ rest) n ≡ option_or (given rest n) (step n None w)
unfolding given
given-first w rest n = given_from n (step n None w) rest

-- a number that the list doesn't name
pub given-absent : {T : Type 0} (pairs : List (ℕ × T)) (n : ℕ) → list_any (λ (w : ℕ × T). w.0 == n) pairs ≡ false → given pairs n ≡ None
given-absent [] n absent = given-none n
given-absent {T} (w ∷ rest) n absent =
    let parts = or_parts (w.0 == n) (list_any (λ (x : ℕ × T). x.0 == n) rest) absent in
    given-first w rest n ∙ λ i. option_or (given-absent rest n parts.1 i) (cond (parts.0 i) (Some w.1) None)

set_at : (image : Image) (w : ℕ × Block) (a : ℕ) → a < length image → block_at (set image w.0 w.1) a ≡ unwrap_or (step a None w) (block_at image a)
set_at image w a inside = go (w.0 == a) refl
  where
    go : (t : Bool) → (w.0 == a) ≡ t → block_at (set image w.0 w.1) a ≡ unwrap_or (cond t (Some w.1) None) (block_at image a)
    go true is =
        let same = eqb-true w.0 a is in
        ap (λ n. block_at (set image w.0 w.1) n) (sym same) ∙ get_or-set_same image w.0 w.1 [] (omega (arith, same, inside))
    go false is = get_or-set_other image w.0 a w.1 [] (λ e. false≢true (sym is ∙ eq-eqb w.0 a (sym e)))

-- where blocks were written in order, the last one for an address stands there
pub writes_at : (image : Image) (ws : List (ℕ × Block)) (a : ℕ) → a < length image → block_at (with_writes image ws) a ≡ unwrap_or (given ws a) (block_at image a)
unfolding with_writes given
writes_at image [] a inside = refl
writes_at image (w ∷ rest) a inside =
    writes_at (set image w.0 w.1) rest a (omega (arith, inside, length-set image w.0 w.1))
    ∙ ap (λ (b : Block). unwrap_or (given rest a) b) (set_at image w a inside)
    ∙ sym (or_unwrap (given rest a) (step a None w) (block_at image a))
    ∙ ap (λ (o : Option Block). unwrap_or o (block_at image a)) (sym (given_from a (step a None w) rest))

-- ---- blocks of which each has a number

abbrev has : List ℕ → ℕ → Bool
has ks k = list_any (λ m. m == k) ks

none_some : {T : Type 0} (b : T) → None ≡ Some b → ⊥
none_some b e = cc

some_same : {T : Type 0} (a b : T) → Some a ≡ Some b → a ≡ b
some_same a b e = cc

suc_none : {n : ℕ} → suc n ≡ 0 → ⊥
suc_none e = absurd (omega (arith, e))

tail : List ℕ → List ℕ
tail [] = []
tail (x ∷ xs) = xs

-- a block that is given is that of a number with this address
pub record Each (at : ℕ → ℕ) (is : ℕ → Block → Type 0) (ks : List ℕ) (a : ℕ) (b : Block) : Type 0 where
  pub number : ℕ
  pub address : at number ≡ a
  pub holds : is number b

pub each_given : (at : ℕ → ℕ) (is : ℕ → Block → Type 0) (ks : List ℕ) (ws : List (ℕ × Block)) (a : ℕ) (b : Block) → map (λ (w : ℕ × Block). w.0) ws ≡ map at ks → AreEach is ks ws → given ws a ≡ Some b → Each at is ks a b
unfolding tail
each_given at is ks [] a b same each found = absurd (none_some b (sym (given-none {T = Block} a) ∙ found))
each_given at is [] (w ∷ rest) a b same each found = absurd (suc_none (ap length same))
each_given at is (k ∷ ks) (w ∷ rest) a b same each found =
    go (λ later. each_given at is ks rest a b (ap (λ (l : List ℕ). tail l) same) each.1 later) (given rest a) refl (w.0 == a) refl
  where
    first : w.0 ≡ at k
    first = ap (λ (l : List ℕ). get_or l 0 0) same

    whole : option_or (given rest a) (step a None w) ≡ Some b
    whole = sym (given-first w rest a) ∙ found

    go : (given rest a ≡ Some b → Each at is ks a b) → (o : Option Block) → given rest a ≡ o → (t : Bool) → (w.0 == a) ≡ t → Each at is (k ∷ ks) a b
    go more (Some x) later t hit =
        let now : Some x ≡ Some b = ap (λ (o : Option Block). option_or o (step a None w)) (sym later) ∙ whole in
        let e = more (later ∙ now) in
        record { number = e.number; address = e.address; holds = e.holds }
    go more None later true hit =
        let now : Some w.1 ≡ Some b = (λ i. option_or (sym later i) (cond (sym hit i) (Some w.1) None)) ∙ whole in
        record { number = k; address = sym first ∙ eqb-true w.0 a hit; holds = subst (is k) (some_same w.1 b now) each.0 }
    go more None later false hit = absurd (none_some b ((λ i. option_or (sym later i) (cond (sym hit i) (Some w.1) None)) ∙ whole))

pub given_written : {T : Type 0} (ws : List (ℕ × T)) (a : ℕ) → list_any (λ (w : ℕ × T). w.0 == a) ws ≡ true → is_some (given ws a) ≡ true
given_written [] a written = absurd (false≢true written)
given_written {T} (w ∷ rest) a written = ap is_some (given-first w rest a) ∙ go (given_written rest a) (given rest a) refl (w.0 == a) refl
  where
    go : (list_any (λ (x : ℕ × T). x.0 == a) rest ≡ true → is_some (given rest a) ≡ true) → (o : Option T) → given rest a ≡ o → (t : Bool) → (w.0 == a) ≡ t → is_some (option_or o (cond t (Some w.1) None)) ≡ true
    go more (Some x) later t hit = refl
    go more None later true hit = refl
    go more None later false hit =
        let other : list_any (λ (x : ℕ × T). x.0 == a) rest ≡ true = ap (λ t. t || list_any (λ (x : ℕ × T). x.0 == a) rest) (sym hit) ∙ written in
        absurd (false≢true (ap is_some (sym later) ∙ more other))

any_mapped : (at : ℕ → ℕ) (ks : List ℕ) (k : ℕ) → has ks k ≡ true → list_any (λ m. m == at k) (map at ks) ≡ true
any_mapped at [] k is = absurd (false≢true is)
any_mapped at (n ∷ ks) k is = go (any_mapped at ks k) (n == k) refl
  where
    go : (has ks k ≡ true → list_any (λ m. m == at k) (map at ks) ≡ true) → (t : Bool) → (n == k) ≡ t → ((at n == at k) || list_any (λ m. m == at k) (map at ks)) ≡ true
    go more true hit = ap (λ t. t || list_any (λ m. m == at k) (map at ks)) (eq-eqb (at n) (at k) (ap at (eqb-true n k hit)))
    go more false hit = or_right (at n == at k) _ (more (ap (λ t. t || has ks k) (sym hit) ∙ is))

any_first : (ws : List (ℕ × Block)) (a : ℕ) → list_any (λ (w : ℕ × Block). w.0 == a) ws ≡ list_any (λ m. m == a) (map (λ (w : ℕ × Block). w.0) ws)
any_first [] a = refl
any_first (w ∷ rest) a = ap (λ t. (w.0 == a) || t) (any_first rest a)

-- the block at the address of a number among them, where no other number has that address
pub record Gives (is : ℕ → Block → Type 0) (k : ℕ) (found : Option Block) : Type 0 where
  pub block : Block
  pub some : found ≡ Some block
  pub holds : is k block

pub given_each : (at : ℕ → ℕ) (is : ℕ → Block → Type 0) (ks : List ℕ) (ws : List (ℕ × Block)) (k : ℕ) → map (λ (w : ℕ × Block). w.0) ws ≡ map at ks → AreEach is ks ws → has ks k ≡ true → ((n : ℕ) → at n ≡ at k → n ≡ k) → Gives is k (given ws (at k))
given_each at is ks ws k same each inside only = go (given ws (at k)) refl
  where
    written : is_some (given ws (at k)) ≡ true
    written = given_written ws (at k) (any_first ws (at k) ∙ ap (λ l. list_any (λ m. m == at k) l) same ∙ any_mapped at ks k inside)

    go : (o : Option Block) → given ws (at k) ≡ o → Gives is k (given ws (at k))
    go None none = absurd (false≢true (ap is_some (sym none) ∙ written))
    go (Some b) some =
        let e = each_given at is ks ws (at k) b same each some in
        record { block = b; some = some; holds = subst (λ n. is n b) (only e.number e.address) e.holds }
