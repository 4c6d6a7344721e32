-- What is kept of the files of an image while they are visited one after the other.
use Rattle.std.specs.Prelude.{ℕ, List, ◌++◌, flat_map}
use Rattle.f2_bytes.specs.Bytes.{Image}
use Rattle.f2_files.specs.Kept.{KeptAfter, KeptInside}
use Rattle.f2_files.specs.Repeats.{HasClaims, HasRepeats}
use Rattle.f2_survey.specs.Slots.{Slot, Row, row_slots, slots_below}
use Rattle.f2_files.specs.declared.files.Files.{Files}
use Rattle.f2_files.specs.declared.files.Files.TheVariants as files

-- what is kept of the files: on the first tour for the rules on them, on two more to count how often addresses stand
abbrev pub Gathered : Type 0
Gathered = Files

-- every file with a number below n has been visited
unfoldable pub IsAfter : Image → ℕ → Gathered → Type 0
IsAfter image n (files.Kept k) = KeptAfter image n k
IsAfter image n (files.Claims c) = HasClaims image (slots_below image n) c
IsAfter image n (files.Repeats r) = HasRepeats image (slots_below image n) r

-- and so have these slots of the next one
unfoldable pub HasSlots : Image → ℕ → List Slot → Gathered → Type 0
HasSlots image ino slots (files.Kept k) = KeptInside image ino slots k
HasSlots image ino slots (files.Claims c) = HasClaims image (slots_below image ino ++ slots) c
HasSlots image ino slots (files.Repeats r) = HasRepeats image (slots_below image ino ++ slots) r

-- or these rows
abbrev pub IsInside : Image → ℕ → List Row → Gathered → Type 0
IsInside image ino rows g = HasSlots image ino (flat_map row_slots rows) g
