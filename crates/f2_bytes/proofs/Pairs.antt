-- Two optional blocks of which one is there just where the other is.
use Rattle.std.proofs.Common.{◌≡◌, Bool, true, false, cond, Option, Some, None, subst, refl, sym, ap, ◌∙◌}
use Rattle.std.specs.Prelude.{option_and_then, is_none, is_some}
use Rattle.std.specs.Option.{option_map_or}
use Rattle.f2_bytes.specs.Bytes.{Block}
use Rattle.f2_bytes.specs.Check.{Comparison, of_value}

-- the second is there just where the first is, and goes with it
pub record Paired (R : Block → Block → Type 0) (o p : Option Block) : Type 0 where
  pub none : o ≡ None → p ≡ None
  pub some : (b : Block) → o ≡ Some b → (c : Block) × (p ≡ Some c) × R b c

some_block : (b c : Block) → Some b ≡ Some c → b ≡ c
some_block b c e = ap (λ o. elim o [ Some z ↦ z | None ↦ b ]) e

module _ (R : Block → Block → Type 0) where
  pub paired_none : Paired R None None
  paired_none = record { none = λ e. e; some = λ b e. absurd (cc e) }

  pub paired_some : (b c : Block) → R b c → Paired R (Some b) (Some c)
  paired_some b c r = record {
    none = λ e. absurd (cc e);
    some = λ x e. (c, refl, subst (λ y. R y c) (some_block b x e) r);
  }

  -- under a condition
  pub paired_cond : (z : Bool) (x y p q : Option Block) → Paired R x p → Paired R y q → Paired R (cond z x y) (cond z p q)
  paired_cond true x y p q first second = first
  paired_cond false x y p q first second = second

  -- a value of the block, or one that stands for none
  pub paired_or : {A : Type 0} (o p : Option Block) (f g : Block → A) (d : A) → Paired R o p → ((b c : Block) → o ≡ Some b → R b c → g c ≡ f b) → option_map_or g p d ≡ option_map_or f o d
  paired_or None p f g d pair same = ap (λ x. option_map_or g x d) (pair.none refl)
  paired_or (Some b) p f g d pair same =
      let t = pair.some b refl in
      ap (λ x. option_map_or g x d) t.1 ∙ same b t.0 refl t.2

  -- one block twice, where it goes with itself
  pub paired_same : (o p : Option Block) → ((b : Block) → R b b) → p ≡ o → Paired R o p
  paired_same o p own same = record { none = λ e. same ∙ e; some = λ b e. (b, same ∙ e, own b) }

  pub paired_is_some : (o p : Option Block) → Paired R o p → is_some p ≡ is_some o
  paired_is_some None p pair = ap is_some (pair.none refl)
  paired_is_some (Some b) p pair = ap is_some (pair.some b refl).1

  pub paired_is_none : (o p : Option Block) → Paired R o p → is_none p ≡ is_none o
  paired_is_none None p pair = ap is_none (pair.none refl)
  paired_is_none (Some b) p pair = ap is_none (pair.some b refl).1

  -- a comparison of the block
  pub paired_value : (o p : Option Block) (f g : Block → Option Comparison) → Paired R o p → ((b c : Block) → o ≡ Some b → R b c → g c ≡ f b) → of_value p g ≡ of_value o f
  paired_value None p f g pair same = ap (λ x. of_value x g) (pair.none refl)
  paired_value (Some b) p f g pair same =
      let t = pair.some b refl in
      ap (λ x. of_value x g) t.1 ∙ same b t.0 refl t.2

-- the blocks that such two lead to
pub paired_then : (R S : Block → Block → Type 0) (o p : Option Block) (f g : Block → Option Block) → Paired R o p → ((b c : Block) → o ≡ Some b → R b c → Paired S (f b) (g c)) → Paired S (option_and_then f o) (option_and_then g p)
paired_then R S None p f g pair next = subst (λ x. Paired S None (option_and_then g x)) (sym (pair.none refl)) (paired_none S)
paired_then R S (Some b) p f g pair next =
    let t = pair.some b refl in
    subst (λ x. Paired S (f b) (option_and_then g x)) (sym t.1) (next b t.0 refl t.2)
