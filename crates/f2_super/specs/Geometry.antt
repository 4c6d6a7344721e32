-- The sizes of a new image, and its superblock.
use Rattle.std.specs.Prelude.{ℕ, ◌+◌, ◌*◌, ◌/◌, ◌^◌, nat_lt, if◌then◌else◌, Result, Ok, Err}
use Rattle.f2_bytes.specs.Format.{geometry_of, least_main, main_start}
use Rattle.f2_bytes.specs.Format.{Geometry as Sizes}
use Rattle.f2_bytes.specs.declared.layout.Layout.{Layout}
use Rattle.f2_super.specs.declared.sizes.Geometry.{Geometry}
use Rattle.f2_super.specs.declared.sizes.GeometryRefusal.{GeometryRefusal}
use Rattle.f2_super.specs.declared.sizes.GeometryRefusal.TheVariants.{TooLarge, TooSmall}

-- the sizes that a geometry says
abbrev pub sizes_of : Geometry → Sizes
sizes_of g = record { blocks = g.blocks; segments = g.segments; sit = g.sit; nat = g.nat; ssa = g.ssa; main = g.main }

abbrev pub geometry_with : Sizes → Geometry
geometry_with g = record { blocks = g.blocks; segments = g.segments; sit = g.sit; nat = g.nat; ssa = g.ssa; main = g.main }

-- the sizes of a new image of this many blocks: at most 2^28 blocks, with at least 24 main segments
unfoldable pub geometry_answer : ℕ → Result Geometry GeometryRefusal
geometry_answer blocks =
    if nat_lt (2 ^ 28) blocks then Err (TooLarge blocks)
    else (if nat_lt (geometry_of blocks).main least_main
    then Err (TooSmall (geometry_of blocks).main least_main)
    else Ok (geometry_with (geometry_of blocks)))

-- where the areas of a new image lie
abbrev pub new_layout : Geometry → Layout
new_layout g = record {
  blocks = g.blocks;
  cp = 512;
  sit = 1536;
  nat = 1536 + 512 * g.sit;
  ssa = 1536 + 512 * (g.sit + g.nat);
  main = main_start (sizes_of g);
  sit_half = 512 * (g.sit / 2);
  nat_half = 512 * (g.nat / 2);
  segments = g.main;
}
