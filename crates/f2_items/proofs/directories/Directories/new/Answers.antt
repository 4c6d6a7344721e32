use Rattle.std.proofs.Common.{◌≡◌, ℕ, [], None, ap, subst, ◌∙◌}
use Rattle.std.specs.Prelude.{max}
use Rattle.f2_bytes.specs.Check.{nids}
use Rattle.f2_items.specs.Directories.{kind_in, name_limit}
use Rattle.f2_items.specs.Namings.{IsTally}
use Rattle.f2_items.proofs.GatheredFiles.{gathered-none}
use Rattle.f2_items.proofs.directories.Directories.new.Goals as goal

pub returns : goal.returns
unfolding name_limit
returns c = λ image known.
    let limit : c.max-limit.result ≡ max (nids image) 4 = c.max-limit.ensures ∙ ap (λ n. max n 4) (c.limit.ensures image known) in
    gathered-none image _ (subst (λ (n : ℕ). IsTally n [] c.in_ok-tallies.tallies) limit c.in_ok-tallies.ensures) (c.new-2.ensures (kind_in image) 0 None) c.new-3.ensures c.new-4.ensures.items
