-- Parts of the cross-checks without defect, from what each comparison says.
use Rattle.std.proofs.Common.{◌≡◌, ℕ, ◌+◌, ◌<◌, List, [], Bool, true, false, ◌==◌, length, Option, Some, None, refl, sym, ap, ◌∙◌, arith}
use Rattle.std.specs.Prelude.{flat_map}
use Rattle.std.specs.Option.{option_map_or}
use Rattle.std.proofs.lemmas.Bool.{eq-eqb, not_from_true}
use Rattle.f2_bytes.specs.Bytes.{Image}
use Rattle.f2_bytes.specs.Superblock.{layout, is_main, segment_of, segment_start}
use Rattle.f2_bytes.specs.Check.{Part, Comparison, part_defects, same, fails_where, where_true, of_value, part_by_one, single, block_part}
use Rattle.f2_bytes.proofs.CheckLaws.{clear_from}
use Rattle.f2_bytes.proofs.FrameBlocks.{segment_at, main_at}

-- the comparison, if it is made, does not fail
abbrev pub Holds : Option Comparison → Type 0
Holds o = (c : Comparison) → o ≡ Some c → c.fails ≡ false

fails_of : (o : Option Comparison) (c : Comparison) → o ≡ Some c → option_map_or (λ x. x.fails) o false ≡ c.fails
fails_of o c e = ap (λ p. option_map_or (λ x. x.fails) p false) e

pub same_holds : (found wanted : ℕ) → found ≡ wanted → Holds (same found wanted)
same_holds found wanted e c is = sym (fails_of (same found wanted) c is) ∙ not_from_true (found == wanted) (eq-eqb found wanted e)

pub fails_holds : (fails : Bool) (found wanted : ℕ) → fails ≡ false → Holds (fails_where fails found wanted)
fails_holds fails found wanted none c is = sym (fails_of (fails_where fails found wanted) c is) ∙ none

pub where_holds : (b : Bool) (o : Option Comparison) → (b ≡ true → Holds o) → Holds (where_true b o)
where_holds true o holds c is = holds refl c is
where_holds false o holds c is = absurd (cc is)

pub value_holds : {A : Type 0} (o : Option A) (f : A → Option Comparison) → ((x : A) → o ≡ Some x → Holds (f x)) → Holds (of_value o f)
value_holds None f holds c is = absurd (cc is)
value_holds (Some x) f holds c is = holds x refl c is

-- each kind of part
pub one_clear : (number limit : ℕ) (f : ℕ → Option Comparison) → ((a : ℕ) → a < limit → Holds (f a)) → part_defects (part_by_one number limit f) ≡ []
one_clear number limit f holds = clear_from (part_by_one number limit f) (λ a b low inside. holds a low)

pub single_clear : (number : ℕ) (o : Option Comparison) → Holds o → part_defects (single number o) ≡ []
single_clear number o holds = clear_from (single number o) (λ a b low inside. holds)

pub blocks_clear : (image other : Image) (number : ℕ) (f : ℕ → Option Comparison) → layout other ≡ layout image
    → ((address : ℕ) → is_main (layout image) address ≡ true → segment_of (layout image) address < (layout image).segments → Holds (f address))
    → part_defects (block_part other number f) ≡ []
blocks_clear image other number f same_layout holds =
    let moved : part_defects (block_part other number f) ≡ part_defects (block_part image number f)
    = λ i. part_defects (record { number = number; first_limit = (same_layout i).segments; second_limit = λ _. 512; comparison = λ segment k. f (segment_start (same_layout i) segment + k) }) in
    moved
    ∙ clear_from (block_part image number f) (λ segment k low inside.
    let at = segment_at (layout image) segment k inside in
    let below : segment_of (layout image) (segment_start (layout image) segment + k) < (layout image).segments = omega (arith, at, low) in
    holds (segment_start (layout image) segment + k) (main_at (layout image) segment k low inside) below)

-- a rule of parts without defect is met
pub met_of : (defects : List Part) → flat_map part_defects defects ≡ [] → (length (flat_map part_defects defects) == 0) ≡ true
met_of parts clear = ap (λ xs. length xs == 0) clear
