-- One item more among the first ones named `.` and `..`.
use Rattle.std.proofs.Common.{◌≡◌, ℕ, List, [], ◌∷◌, ◌++◌, Bool, true, false, cond, Option, Some, None, refl, sym, ap, ◌∙◌}
use Rattle.std.specs.Prelude.{find, option_map}
use Rattle.std.specs.Option.{option_or}
use Rattle.std.specs.Str.{bytes_eq}
use Rattle.std.specs.Cmp.Lexicographic.{bytes_decides}
use Rattle.std.proofs.lemmas.List.Folds.{find-append}
use Rattle.f2_bytes.specs.Directory.{Item}
use Rattle.f2_bytes.specs.Names.{dot, dot_dot}
use Rattle.f2_items.specs.FirstPlaces.{has_name}
use Rattle.f2_items.specs.OpenDirectories.{first_target, HoldsDots}
use Rattle.f2_items.specs.declared.open_directory.Dots.{Dots}

target_push : (name : List ℕ) (items : List Item) (x : Item) (b : Bool) → bytes_eq x.name name ≡ b → first_target name (items ++ x ∷ []) ≡ option_or (first_target name items) (cond b (Some x.ino) None)
target_push name items x b e =
    ap (option_map (λ (i : Item). i.ino)) (find-append (has_name name) items (x ∷ []) ∙ ap (λ t. option_or (find (has_name name) items) (cond t (Some x) None)) e)
    ∙ go (find (has_name name) items) b
  where
    go : (o : Option Item) (b : Bool) → option_map (λ (i : Item). i.ino) (option_or o (cond b (Some x) None)) ≡ option_or (option_map (λ (i : Item). i.ino) o) (cond b (Some x.ino) None)
    go None true = refl
    go None false = refl
    go (Some y) b = refl

or_none : (o : Option ℕ) → option_or o None ≡ o
or_none None = refl
or_none (Some n) = refl

module _ (items : List Item) (x : Item) (old : Dots) (holds : HoldsDots items old) where
  pub of_other : bytes_eq x.name dot ≡ false → bytes_eq x.name dot_dot ≡ false → HoldsDots (items ++ x ∷ []) old
  of_other one two = record {
    dot_is = holds.dot_is ∙ sym (or_none (first_target dot items)) ∙ sym (target_push dot items x false one);
    dot_dot_is = holds.dot_dot_is ∙ sym (or_none (first_target dot_dot items)) ∙ sym (target_push dot_dot items x false two);
  }

  pub of_dot : x.name ≡ dot → (new : Option ℕ) → new ≡ option_or old.dot (Some x.ino) → HoldsDots (items ++ x ∷ []) (record { dot = new; dot_dot = old.dot_dot })
  of_dot e new is = record {
    dot_is = is ∙ ap (λ o. option_or o (Some x.ino)) holds.dot_is ∙ sym (target_push dot items x true ((bytes_decides x.name dot).1 e));
    dot_dot_is = holds.dot_dot_is ∙ sym (or_none (first_target dot_dot items)) ∙ sym (target_push dot_dot items x false (ap (λ n. bytes_eq n dot_dot) e));
  }

  pub of_dot_dot : x.name ≡ dot_dot → (new : Option ℕ) → new ≡ option_or old.dot_dot (Some x.ino) → HoldsDots (items ++ x ∷ []) (record { dot = old.dot; dot_dot = new })
  of_dot_dot e new is = record {
    dot_is = holds.dot_is ∙ sym (or_none (first_target dot items)) ∙ sym (target_push dot items x false (ap (λ n. bytes_eq n dot) e));
    dot_dot_is = is ∙ ap (λ o. option_or o (Some x.ino)) holds.dot_dot_is ∙ sym (target_push dot_dot items x true ((bytes_decides x.name dot_dot).1 e));
  }
