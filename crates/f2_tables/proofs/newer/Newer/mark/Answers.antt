use Rattle.std.proofs.Common.{◌≡◌, Bool, true, false, [], refl, sym, ap, ◌∙◌, get_or}
use Rattle.std.specs.Prelude.{◌||◌}
use Rattle.std.specs.List.{list_any}
use Rattle.std.specs.Map.Iter.{deref}
use Rattle.std.proofs.lemmas.Map.Iter.{rest_all}
use Rattle.f2_tables.specs.Tables.{value_at, is_dirty}
use Rattle.f2_tables.proofs.Marks.{marked_by, lies_in, marks-dirty}
use Rattle.f2_tables.proofs.newer.Newer.mark.Goals as goal

pub returns-clause-marks : goal.returns-clause-marks
returns-clause-marks g c = λ k.
    let entries = c.args.entries in
    let limit = c.args.limit in
    let keys = c.keys-n-items.result in
    let none : c.loop-n.n-iterator ≡ [] = rest_all deref _ _ _ c.in-None.is c.next.ensures.steps in
    let left : get_or c.loop-n.marks.items k false ≡ marked_by entries limit c.loop-n.marks.items c.loop-n.n-iterator k =
    sym (or_false (get_or c.loop-n.marks.items k false)) ∙ ap (λ l. marked_by entries limit c.loop-n.marks.items l k) (sym none) in
    let all : c.into_iter-n-iterator.result ≡ keys = c.into_iter-n-iterator.ensures.into_iter_gives in
    left ∙ c.loop-n.invariant.marked k
    ∙ ap (λ l. marked_by entries limit c.args.marks.now.items l k) all
    ∙ ap (λ b. b || list_any (lies_in entries limit k) keys) (c.requires.none k)
    ∙ marks-dirty entries limit k keys c.self.inside.entries.entries c.keys-n-items.ensures.has
    ∙ ap (λ m. is_dirty entries limit (value_at m) k) c.self.view_is
  where
    or_false : (b : Bool) → (b || false) ≡ b
    or_false true = refl
    or_false false = refl
