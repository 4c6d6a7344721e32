use Rattle.std.proofs.Common.{[], ◌∷◌, refl}
use Rattle.f2_commit.proofs.ShiftWhole.{in_order_logs, logs_inside}
use Rattle.f2_commit.proofs.shifting.six_logs.Goals as goal

pub returns-clause-logs : goal.returns-clause-logs
returns-clause-logs c =
    in_order_logs c.args.m.now.chosen.head c.log.result c.log-2.result c.log-3.result c.log-4.result c.log-5.result c.log-6.result
    c.log.ensures c.log-2.ensures c.log-3.ensures c.log-4.ensures c.log-5.ensures c.log-6.ensures

pub returns-clause-safe : goal.returns-clause-safe
returns-clause-safe c = λ kept.
    logs_inside c.args.m.now kept (c.log.result ∷ c.log-2.result ∷ c.log-3.result ∷ c.log-4.result ∷ c.log-5.result ∷ c.log-6.result ∷ []) refl
    (in_order_logs c.args.m.now.chosen.head c.log.result c.log-2.result c.log-3.result c.log-4.result c.log-5.result c.log-6.result
    c.log.ensures c.log-2.ensures c.log-3.ensures c.log-4.ensures c.log-5.ensures c.log-6.ensures)
