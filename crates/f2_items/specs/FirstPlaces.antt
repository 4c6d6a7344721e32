-- The place of the first item with each name, and what the first items named `.` and `..` name.
use Rattle.std.specs.Prelude.{◌≡◌, ℕ, Bool, List, find, Option, option_map}
use Rattle.std.specs.BTreeMap.{get_by}
use Rattle.std.specs.Ordering.{nat_cmp}
use Rattle.std.specs.Cmp.Lexicographic.{slice_cmp}
use Rattle.std.specs.Str.{bytes_eq}
use Rattle.f2_bytes.specs.Directory.{Item}
use Rattle.f2_items.specs.declared.name_places.NamePlaces.{NamePlaces}

abbrev pub has_name : List ℕ → Item → Bool
has_name name item = bytes_eq item.name name

-- where the first of these items with a name stands
abbrev pub first_place : List ℕ → List Item → Option ℕ
first_place name items = option_map (λ item. item.place) (find (has_name name) items)

-- the first places of these items are kept
pub record HoldsFirst (items : List Item) (p : NamePlaces) : Type 0 where
  pub at : (name : List ℕ) → get_by (λ k. slice_cmp nat_cmp name k.items) p.places ≡ first_place name items
