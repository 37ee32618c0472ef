use Rattle.std.proofs.Common.{◌≡◌, rules}
use Rattle.typing_paths.proofs.Words.{word-form}
use Rattle.typing_paths.proofs.asked_types.type_form.Goals as goal

pub returns-in-None : goal.returns-in-None
returns-in-None c =
    let same : c.as_slice.result.now ≡ c.in-Type.packed = search rules in
    word-form c.in-Type.of c.in-Type.packed c.as_slice.result.now c.in-Type.cast c.args.e.now c.in-Type.is c.in-None.is same
