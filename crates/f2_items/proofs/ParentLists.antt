-- A list of the least parents of numbers, 0 where there is none.
use Rattle.std.proofs.Common.{◌≡◌, ℕ, ◌<◌, List, Bool, false, cond, nat_lt, length, get_or, Option, Some, None, sym, ap, subst, ◌∙◌, arith}
use Rattle.std.specs.Prelude.{◌==◌}
use Rattle.std.proofs.lemmas.Bool.{lt-ltb, ne_eqb}
use Rattle.f2_bytes.specs.Bytes.{Image}
use Rattle.f2_bytes.specs.Check.{nids, least_parent}
use Rattle.f2_items.specs.Ancestors.{parent_in, is_own_ancestor}
use Rattle.f2_items.specs.EachFile.{TellsOwn, above}
use Rattle.f2_items.proofs.LeastAncestors.{is_least_ancestor-in}
use Rattle.f2_items.proofs.NameCounts.{parent_inside}

-- the parent that is kept of a number
pub above-least : (image : Image) (number up limit : ℕ) → Some up ≡ least_parent image number → limit ≡ nids image → above (cond (nat_lt up limit) up 0) ≡ least_parent image number
above-least image number up limit is all =
    let inside = parent_inside image number up (sym is) in
    let low : up < limit = subst (λ (n : ℕ). up < n) (sym all) inside.1 in
    let some : (up == 0) ≡ false = ne_eqb up 0 (λ e. let first = inside.0 in omega (arith, first, e)) in
    ap (λ b. above (cond b up 0)) (lt-ltb up limit low)
    ∙ ap (λ b. cond b None (Some up)) some
    ∙ is

pub parent_at : (parents : List ℕ) (k : ℕ) (o : Option ℕ) → above (get_or parents k 0) ≡ o → parent_in parents k ≡ o
unfolding parent_in
parent_at parents k o is = is

-- by such a list it is known which numbers are their own ancestors
pub tells_own : (image : Image) (parents : List ℕ) (limit : ℕ) → length parents ≡ limit → limit ≡ nids image → ((k : ℕ) → k < limit → get_or parents k 0 < limit)
    → ((k : ℕ) → k < limit → parent_in parents k ≡ least_parent image k) → (given : List ℕ) → given ≡ parents → (own : List Bool)
    → ((k : ℕ) → k < length given → get_or own k false ≡ is_own_ancestor (parent_in given) (length given) k) → TellsOwn image own
tells_own image parents limit long all low least given same own is k inside =
    let whole : length given ≡ limit = ap length same ∙ long in
    is k (omega (arith, whole, all, inside))
    ∙ is_least_ancestor-in image given (whole ∙ all)
    (λ j below. subst (λ (n : ℕ). get_or given j 0 < n) (sym whole) (subst (λ (l : List ℕ). get_or l j 0 < limit) (sym same) (low j (omega (arith, below, whole)))))
    (λ j below. ap (λ l. parent_in l j) same ∙ least j (omega (arith, below, all))) k inside
