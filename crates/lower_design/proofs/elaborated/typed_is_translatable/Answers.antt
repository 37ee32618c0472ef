use Rattle.lower_design.proofs.TypedDesigns.{typed-translatable}
use Rattle.lower_design.proofs.elaborated.typed_is_translatable.Goals as goal

pub returns : goal.returns
returns c = typed-translatable
