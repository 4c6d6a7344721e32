use Rattle.std.proofs.Common.{◌≡◌, ◌++◌, ℕ, List, [], append_assoc}
use Rattle.std.specs.Prelude.{decimal, codes}
use Rattle.f2_disk.proofs.SinkRuns.{puts_cut, puts_then}
use Rattle.f2_top.proofs.report.put_pair.Goals as goal

-- the line is its first part and the rest
rest : ℕ → List ℕ
rest second = [] ++ decimal second ++ codes "\n"

line_is : (first : List ℕ) (second : ℕ) → first ++ decimal second ++ codes "\n" ≡ first ++ rest second
unfolding rest
line_is first second = append_assoc first (decimal second) (codes "\n")

pub returns-in_err-put_number : goal.returns-in_err-put_number
unfolding rest
returns-in_err-put_number g c =
    let first = c.args.before.now ++ decimal c.args.first ++ c.args.between.now in
    rw (line_is first c.args.second)
    (puts_cut first (rest c.args.second) c.put_number.result c.in_err-put_number.field-0.0 c.from_residual.result c.in_err-put_number.was c.from_residual.ensures.0 c.put_number.ensures)

pub returns : goal.returns
unfolding rest
returns g c =
    let first = c.args.before.now ++ decimal c.args.first ++ c.args.between.now in
    rw (line_is first c.args.second)
    (puts_then first (rest c.args.second) c.put_number.result c.in_ok-put_number.field-0 c.put_number-2.result c.in_ok-put_number.was c.put_number.ensures c.put_number-2.ensures)
