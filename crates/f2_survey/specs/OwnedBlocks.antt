-- What the cross-checks compare at a block of the main area, by its owner.
use Rattle.std.specs.Prelude.{ℕ, Bool, true, false, ◌||◌, nat_lt, Option, None}
use Rattle.f2_bytes.specs.Check.{Comparison, none_value, same, fails_where}
use Rattle.f2_survey.specs.declared.owners.Owner.{Owner}
use Rattle.f2_survey.specs.declared.owners.Owner.TheVariants.{Nobody, Node, Slot}

-- whether some node has the block
abbrev pub is_somebody : Owner → Bool
is_somebody Nobody = false
is_somebody (Node nid) = true
is_somebody (Slot nid place) = true

-- the type of a segment of the table agrees with the block's owner: below 3 where it is in a slot, and 3 to 5 for a node
abbrev pub kind_comparison : ℕ → Owner → Option Comparison
kind_comparison kind Nobody = None
kind_comparison kind (Node nid) = fails_where (nat_lt kind 3 || nat_lt 5 kind) kind 3
kind_comparison kind (Slot nid place) = fails_where (nat_lt 2 kind) kind 0

-- the number of the node, none where there is no owner
abbrev pub nid_of_owner : Owner → ℕ
nid_of_owner Nobody = none_value
nid_of_owner (Node nid) = nid
nid_of_owner (Slot nid place) = nid

-- the place that a summary says is that of the slot
abbrev pub place_comparison : ℕ → Owner → Option Comparison
place_comparison place Nobody = None
place_comparison place (Node nid) = None
place_comparison place (Slot nid own) = same place own
