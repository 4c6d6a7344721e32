use Rattle.std.proofs.Common.{sym, ap, ◌≡◌, ◌∙◌, filter}
use Rattle.std.proofs.lemmas.Result.{IfOk-weaker}
use Rattle.f2_bytes.specs.Bytes.{numbers_below}
use Rattle.f2_bytes.specs.NodeAddressTable.{nid_limit}
use Rattle.f2_sum.specs.Records.{nat_entry}
use Rattle.f2_tables.specs.Tables.{NatTable, nat_dirty, is_dirty, value_at}
use Rattle.f2_tables.proofs.Marks.{dirty-as}
use Rattle.f2_tables.proofs.nat.Nat.dirty.Goals as goal

pub returns : goal.returns
unfolding nat_dirty
returns c =
    let newer = c.self.inside.newer in
    let half = c.self.inside.layout.nat_half in
    let limit : c.limit.result ≡ nid_limit c.self.inside.layout = c.limit.ensures.limit ∙ ap (λ (t : NatTable). nid_limit t.layout) (sym c.self.view_is) in
    IfOk-weaker c.blocks-2.result _ _ (λ v is.
    is ∙ (λ i. filter (is_dirty 455 (limit i) (value_at newer)) (numbers_below half)) ∙ dirty-as nat_entry 455 (nid_limit c.self.inside.layout) half newer ∙ ap nat_dirty c.self.view_is)
    c.blocks-2.ensures
