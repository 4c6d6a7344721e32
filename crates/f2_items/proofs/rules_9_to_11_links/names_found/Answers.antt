use Rattle.std.proofs.Common.{sym, ap, ◌∙◌, cond, nat_lt}
use Rattle.f2_bytes.specs.Check.{nids, name_count, digit}
use Rattle.f2_items.specs.Directories.{name_limit, namings_below}
use Rattle.f2_survey.proofs.CountedTests.{counted-is}
use Rattle.f2_items.proofs.LinkParts.{is_plain, is_closed}
use Rattle.f2_items.proofs.NameCounts.{name_count-is, within_limit}
use Rattle.f2_items.proofs.rules_9_to_11_links.names_found.Goals as goal

pub returns-in-Plain : goal.returns-in-Plain
returns-in-Plain c = λ image inode names low says.
    let file = c.args.file.now in
    let counted = c.names-names.ensures (name_limit image) (namings_below image (nids image)) names (within_limit image file.ino low) ∙ sym (name_count-is image file.ino) in
    counted-is c.from.result (nat_lt 0 c.names-names.result) c.from.ensures
    ∙ ap (λ n. digit (nat_lt 0 n)) counted
    ∙ sym (ap (λ t. cond t (name_count image file.ino) (digit (nat_lt 0 (name_count image file.ino)))) (is_plain image file inode says c.in-Plain.is))

pub returns-in-Directory : goal.returns-in-Directory
returns-in-Directory c = λ image inode names low says.
    let file = c.args.file.now in
    let counted = c.names-names.ensures (name_limit image) (namings_below image (nids image)) names (within_limit image file.ino low) ∙ sym (name_count-is image file.ino) in
    counted
    ∙ sym (ap (λ t. cond t (name_count image file.ino) (digit (nat_lt 0 (name_count image file.ino)))) (is_closed image file inode says c.in-Directory.field-0 c.in-Directory.is).0)
