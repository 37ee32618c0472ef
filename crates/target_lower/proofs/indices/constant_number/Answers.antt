use Rattle.std.proofs.Common.{◌≤◌, ◌^◌, IfSome, Ok, Err, subst}
use Rattle.std.specs.Prelude.{unsigned_abs}
use Rattle.known_indices.specs.declared.known.KnownIndex.{KnownIndex}
use Rattle.known_indices.specs.Known.{IndexGives}
use Rattle.target_lower.proofs.Constant.{variable-none, long-none, constant-number}
use Rattle.target_lower.proofs.indices.constant_number.Goals as goal

pub returns-in-None : goal.returns-in-None
returns-in-None c = variable-none c.args.functions.now c.args.i.now (subst (λ o. IndexGives (Ok o) c.args.functions.now c.args.i.now) c.in-None.is c.in-Ok.ensures.known)

pub returns-in-Some : goal.returns-in-Some
returns-in-Some c =
    constant-number c.args.functions.now c.args.i.now c.in-Some.known.number (subst (λ o. IndexGives (Ok o) c.args.functions.now c.args.i.now) c.in-Some.is c.in-Ok.ensures.known)
    (subst (λ o. IfSome o (λ (k : KnownIndex). IfSome k.number (λ n. unsigned_abs n ≤ 2 ^ 64))) c.in-Some.is c.in-Ok.ensures.small)

pub returns-in-TooLong : goal.returns-in-TooLong
returns-in-TooLong c = long-none c.args.functions.now c.args.i.now (subst (λ f. IndexGives (Err f) c.args.functions.now c.args.i.now) c.in-TooLong.is c.in-Err.ensures.known).long
