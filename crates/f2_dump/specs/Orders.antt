-- Lists that are put in order.
use Rattle.std.specs.Prelude.{Bool, if◌then◌else◌, List, [], ◌∷◌}

-- the element goes before the first one that is not less
unfoldable pub put_in : {X : Type 0} → (X → X → Bool) → X → List X → List X
put_in lt x [] = x ∷ []
put_in lt x (y ∷ ys) = if lt y x then y ∷ put_in lt x ys else x ∷ y ∷ ys

-- the elements in order; where none of two is less, the first one stays first
unfoldable pub in_order : {X : Type 0} → (X → X → Bool) → List X → List X
in_order lt [] = []
in_order lt (x ∷ xs) = put_in lt x (in_order lt xs)
