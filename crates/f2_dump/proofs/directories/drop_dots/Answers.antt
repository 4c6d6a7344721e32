use Rattle.std.proofs.Common.{◌∙◌, ap, map, not, rules}
use Rattle.std.proofs.lemmas.List.Elements.{filter_from_retain}
use Rattle.f2_bytes.specs.Directory.{Item}
use Rattle.f2_bytes.specs.Names.{is_dots}
use Rattle.f2_view.specs.Directories.{item_of}
use Rattle.f2_view.specs.declared.directories.Named.{Named}
use Rattle.f2_dump.proofs.DirectoryNames.{filter_of_map}
use Rattle.f2_dump.proofs.directories.drop_dots.Goals as goal

pub returns : goal.returns
returns c =
    ap (map item_of) (filter_from_retain _ (λ (n : Named). not (is_dots n.name)) (λ p x b q k. search rules) _ _ _ c.retain.ensures.filtered)
    ∙ filter_of_map item_of (λ (item : Item). not (is_dots item.name)) c.args.names.now.items
