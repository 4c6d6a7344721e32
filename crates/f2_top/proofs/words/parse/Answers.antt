use Rattle.std.proofs.Common.{◌∙◌, sym, ap, subst, map, string_bytes}
use Rattle.clap.specs.Faults.{fault_of, is_simple_and_free}
use Rattle.clap.specs.Kinds.{HasKind}
use Rattle.clap.specs.Simple.{App, HasMatchesOf}
use Rattle.f2_top.proofs.Building.{simple_is}
use Rattle.f2_top.proofs.Parses.{parse_given, parse_refused, rest_utf8}
use Rattle.f2_top.proofs.words.parse.Goals as goal

pub returns-in-Ok : goal.returns-in-Ok
returns-in-Ok c = λ title g is app.
    let words = map string_bytes c.args.words.now in
    let kinds = c.in-Ok.ensures.kinds (ap is_simple_and_free app ∙ simple_is title g is) in
    parse_given title g is words (rest_utf8 c.args.words.now) c.in-Ok.matches (subst (λ (a : App). HasMatchesOf a words c.in-Ok.matches) app c.in-Ok.ensures.matches) (ap (λ (a : App). fault_of a words) (sym app) ∙ kinds)

pub returns-in-Err : goal.returns-in-Err
returns-in-Err c = λ title g is app usage.
    let words = map string_bytes c.args.words.now in
    let kinds = c.in-Err.ensures.kinds (ap is_simple_and_free app ∙ simple_is title g is) in
    parse_refused title g is words (rest_utf8 c.args.words.now) c.in-Err.error (subst (λ (a : App). HasKind (fault_of a words) c.in-Err.error) app kinds) (λ memory. c.refusal.ensures.usage usage (c.kind.ensures ∙ memory))
