use Rattle.std.proofs.Common.{◌≡◌, drop}
use Rattle.type_texts.specs.Uniting.{first_other}
use Rattle.type_widths.specs.Limbs.{number}
use Rattle.type_texts.proofs.unions.first_other.Given as goal

abbrev pub invariant-loop-field : goal.invariant-loop-field
invariant-loop-field l = first_other (number l.width) (drop l.field-index l.fields) ≡ first_other (number l.width) l.fields
