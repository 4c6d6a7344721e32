use Rattle.std.proofs.Common.{◌≡◌, ◌∙◌, ◌++◌, ℕ, List, [], ap, sym, append_assoc}
use Rattle.std.specs.Prelude.{decimal, codes}
use Rattle.std.proofs.lemmas.List.{append-nil}
use Rattle.f2_disk.proofs.SinkRuns.{puts_cut, puts_then}
use Rattle.f2_top.proofs.report.put_moved.Goals as goal

-- the line is its first part and the rest
first : ℕ → List ℕ
first blocks = codes "moved " ++ decimal blocks ++ []

rest : ℕ → List ℕ
rest batches = codes " blocks in " ++ decimal batches ++ codes " batches\n"

line_is : (blocks batches : ℕ) → codes "moved " ++ decimal blocks ++ codes " blocks in " ++ decimal batches ++ codes " batches\n" ≡ first blocks ++ rest batches
unfolding first rest
line_is blocks batches =
    let front = codes "moved " ++ decimal blocks in
    ap (λ (l : List ℕ). l ++ codes " batches\n") (append_assoc front (codes " blocks in ") (decimal batches)) ∙ append_assoc front (codes " blocks in " ++ decimal batches) (codes " batches\n")
    ∙ ap (λ (l : List ℕ). l ++ rest batches) (sym (append-nil front))

pub returns-in_err-put_number : goal.returns-in_err-put_number
unfolding first rest
returns-in_err-put_number g c =
    rw (line_is c.args.blocks c.args.batches)
    (puts_cut (first c.args.blocks) (rest c.args.batches) c.put_number.result c.in_err-put_number.field-0.0 c.from_residual.result c.in_err-put_number.was c.from_residual.ensures.0 c.put_number.ensures)

pub returns : goal.returns
unfolding first rest
returns g c =
    rw (line_is c.args.blocks c.args.batches)
    (puts_then (first c.args.blocks) (rest c.args.batches) c.put_number.result c.in_ok-put_number.field-0 c.put_number-2.result c.in_ok-put_number.was c.put_number.ensures c.put_number-2.ensures)
