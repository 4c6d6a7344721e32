use Rattle.std.proofs.Common.{◌≡◌, cond, Some, None, sym, ap, ◌∙◌}
use Rattle.std.specs.Prelude.{unwrap_or}
use Rattle.std.proofs.lemmas.Bool.{ne_eqb}
use Rattle.f2_bytes.specs.Check.{nids, least_parent, none_value}
use Rattle.f2_items.specs.Directories.{name_limit, namings_below}
use Rattle.f2_items.proofs.NameCounts.{least_parent-is, within_limit}
use Rattle.f2_items.proofs.rules_9_to_11_links.up_wanted.Goals as goal

pub returns-in-Some : goal.returns-in-Some
returns-in-Some c = λ image names low.
    let ino = c.args.ino in
    let told : Some c.in-Some.up ≡ least_parent image c.args.ino =
    sym c.in-Some.is ∙ c.parent.ensures (name_limit image) (namings_below image (nids image)) names (within_limit image ino low) ∙ sym (least_parent-is image ino) in
    c.from.ensures
    ∙ ap (λ o. unwrap_or o none_value) told
    ∙ sym (ap (λ t. cond t 3 (unwrap_or (least_parent image ino) none_value)) (ne_eqb ino 3 c.if-ino-eq-ROOT.false))

pub returns-in-None : goal.returns-in-None
returns-in-None c = λ image names low.
    let ino = c.args.ino in
    let told : None ≡ least_parent image c.args.ino =
    sym c.in-None.is ∙ c.parent.ensures (name_limit image) (namings_below image (nids image)) names (within_limit image ino low) ∙ sym (least_parent-is image ino) in
    ap (λ o. unwrap_or o none_value) told
    ∙ sym (ap (λ t. cond t 3 (unwrap_or (least_parent image ino) none_value)) (ne_eqb ino 3 c.if-ino-eq-ROOT.false))
