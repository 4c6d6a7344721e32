-- Which numbers are their own ancestors, by a function from a number to its parent.
use Rattle.std.specs.Prelude.{◌≡◌, ℕ, zero, suc, ◌+◌, Bool, true, false, ◌==◌, ◌⊎◌, if◌then◌else◌, List, get_or, Option, Some, None, option_and_then}
use Rattle.std.specs.Option.{option_map_or}
use Rattle.std.specs.List.{list_any}
use Rattle.f2_bytes.specs.Bytes.{numbers_below}

-- the parent of a number in a list of parents, where 0 is no number
unfoldable pub parent_in : List ℕ → ℕ → Option ℕ
parent_in parents i = if get_or parents i 0 == 0 then None else Some (get_or parents i 0)

abbrev pub IsMarked : List Bool → ℕ → Type 0
IsMarked marks i = get_or marks i false ≡ true

module _ (parent : ℕ → Option ℕ) where
  -- the n-th step up
  unfoldable pub steps : ℕ → ℕ → Option ℕ
  steps zero i = Some i
  steps (suc n) i = option_and_then parent (steps n i)

  -- whether at most so many steps lead back
  unfoldable pub is_own_ancestor : ℕ → ℕ → Bool
  is_own_ancestor limit i = list_any (λ n. option_map_or (λ up. up == i) (steps (n + 1) i) false) (numbers_below limit)

  -- some steps lead from the one to the other; at least one step does
  abbrev pub Leads : ℕ → ℕ → Type 0
  Leads i j = (k : ℕ) × (steps k i ≡ Some j)

  abbrev pub LeadsUp : ℕ → ℕ → Type 0
  LeadsUp i j = (k : ℕ) × (steps (k + 1) i ≡ Some j)

  -- some steps lead to a number that has no parent
  abbrev pub Ends : ℕ → Type 0
  Ends i = (k : ℕ) × (last : ℕ) × (steps k i ≡ Some last) × (parent last ≡ None)

  -- the parents of marked numbers are marked
  abbrev pub IsClosed : List Bool → Type 0
  IsClosed marks = (i j : ℕ) → IsMarked marks i → parent i ≡ Some j → IsMarked marks j

  -- marks after all numbers to which a start leads were marked
  pub record Reached (old new : List Bool) (start : ℕ) : Type 0 where
    pub kept : (i : ℕ) → IsMarked old i → IsMarked new i
    pub starts : IsMarked new start
    pub reached : (i : ℕ) → IsMarked new i → IsMarked old i ⊎ Leads start i
    pub closed : IsClosed old → IsClosed new

  -- the same, by a climb that stopped at a number which was marked, or at 0 where there was no parent
  pub record Climbed (old new : List Bool) (start stop : ℕ) : Type 0 where
    pub marks : Reached old new start
    pub ends : stop ≡ 0 → (i : ℕ) → IsMarked new i → IsMarked old i ⊎ Ends i
    pub stops : (stop ≡ 0 → ⊥) → (i : ℕ) → IsMarked new i → IsMarked old i ⊎ LeadsUp i stop
    pub met : (stop ≡ 0 → ⊥) → IsMarked new stop

  -- a climb on its way: it is at a number, and has marked those before
  pub record Climbing (old now : List Bool) (start at : ℕ) : Type 0 where
    pub kept : (i : ℕ) → IsMarked old i → IsMarked now i
    pub here : Leads start at
    pub starts : IsMarked now start ⊎ (at ≡ start)
    pub reached : (i : ℕ) → IsMarked now i → IsMarked old i ⊎ (Leads start i × LeadsUp i at)
    pub closed : IsClosed old → (i j : ℕ) → IsMarked now i → parent i ≡ Some j → IsMarked now j ⊎ (j ≡ at)

  -- the marks of those who lead back to a stop, where the stop does so and is not settled
  pub record CycleMarked (settled old new : List Bool) (stop : ℕ) : Type 0 where
    pub none : (stop ≡ 0) ⊎ IsMarked settled stop → new ≡ old
    pub cycle : (stop ≡ 0 → ⊥) → get_or settled stop false ≡ false → Reached old new stop

  -- which of the settled numbers are their own ancestors is known, and each number seen is settled
  pub record AreSettled (seen settled own : List Bool) : Type 0 where
    pub within : (i : ℕ) → IsMarked seen i → IsMarked settled i
    pub seen_closed : IsClosed seen
    pub settled_closed : IsClosed settled
    pub own_closed : IsClosed own
    pub sound : (i : ℕ) → IsMarked own i → LeadsUp i i
    pub complete : (i : ℕ) → IsMarked settled i → LeadsUp i i → IsMarked own i
