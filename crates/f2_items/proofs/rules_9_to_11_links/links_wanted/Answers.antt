use Rattle.std.proofs.Common.{sym, ◌∙◌}
use Rattle.f2_bytes.specs.Check.{nids}
use Rattle.f2_items.specs.Directories.{name_limit, namings_below}
use Rattle.f2_items.proofs.LinkParts.{links_wanted-plain, links_wanted-directory}
use Rattle.f2_items.proofs.NameCounts.{name_count-is, within_limit}
use Rattle.f2_items.proofs.rules_9_to_11_links.links_wanted.Goals as goal

pub returns-in-Plain : goal.returns-in-Plain
returns-in-Plain c = λ image inode names low there says.
    let file = c.args.file.now in
    c.names.ensures (name_limit image) (namings_below image (nids image)) names (within_limit image file.ino low)
    ∙ sym (name_count-is image file.ino)
    ∙ links_wanted-plain image file inode says c.in-Plain.is

pub returns-in-Directory : goal.returns-in-Directory
returns-in-Directory c = λ image inode names low there says.
    links_wanted-directory image c.args.file.now inode says c.in-Directory.closed there c.in-Directory.is
