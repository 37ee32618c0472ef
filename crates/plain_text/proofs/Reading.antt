-- What is read.
use Rattle.std.proofs.Common.{List, IfOk}
use Rattle.std.specs.Prelude.{Result, Ok, Err}
use Rattle.sv_source.specs.declared.token.Token.{Token}
use Rattle.sv_source.specs.declared.refusal.Fail.{Fail}
use Rattle.sv_tree.specs.declared.units.SourceTree.{SourceTree}
use Rattle.sv_build.specs.Reading.{Ends, ReadingGives}
use Rattle.plain_text.specs.Trees.{IsRead}

pub is-read : (tokens : List Token) (r : Result SourceTree Fail) → Ends tokens → ReadingGives tokens r → IfOk r IsRead
is-read tokens (Ok tree) e g = record { tokens = tokens; ends = e; reads = g }
is-read tokens (Err f) e g = tt
