use Rattle.std.proofs.Common.{sym, ◌∙◌}
use Rattle.f2_files.specs.Addresses.{slot_of}
use Rattle.f2_files.proofs.RepeatCounts.{claims-push, claims-skip}
use Rattle.f2_files.proofs.repeated_claims.Claims.take.Goals as goal

pub returns-in_ok-push : goal.returns-in_ok-push
returns-in_ok-push c = λ image slots has. claims-push image slots (slot_of c.args.slot.now) c.args.self.now _ (sym c.is_address.ensures ∙ c.if-is_address.true) c.in_ok-push.ensures.items has

pub returns-else-is_address : goal.returns-else-is_address
returns-else-is_address c = λ image slots has. claims-skip image slots (slot_of c.args.slot.now) c.args.self.now (sym c.is_address.ensures ∙ c.if-is_address.false) has
