-- Parts in a row that are looked at one after the other, each by what those before it are: how far a loop over them has come.
use Rattle.std.specs.Prelude.{⊤, List, Result, Ok, Err}
use Rattle.sv_types.specs.declared.statement.Function.{Function}
use Rattle.expr_type.specs.declared.halt.Halt.{Halt}
use Rattle.expr_type.specs.declared.halt.Halt.TheVariants as H
use Rattle.expr_type.specs.Typings.{Typed, Typing}
use Rattle.typing_steps.specs.Steps.{StopsBy, TypesTo}

-- what is made of what stands behind
abbrev pub mapped : {D E : Type 0} → (D → E) → Result D Halt → Result E Halt
mapped put (Ok e) = Ok (put e)
mapped put (Err h) = Err h

-- where something isn't whole, what stands behind is looked at for its breaks
abbrev pub halted : {D : Type 0} → Result D Halt → Halt
halted (Ok e) = H.Quiet
halted (Err h) = h

-- What stands before is whole: what the row gives is made of what its rest gives, where these functions are known.
abbrev pub AheadWhole : {D E : Type 0} → (D → E) → Typing D → Typed E → List Function → Type 0
AheadWhole {D = D} put rest row fs = (r : Result D Halt) (gs : List Function) → TypesTo r (rest fs) gs → TypesTo (mapped put r) row gs

-- it breaks nothing and isn't whole: what the row breaks is what its rest breaks
abbrev pub AheadQuiet : {D E : Type 0} → Typing D → Typed E → List Function → Type 0
AheadQuiet {D = D} {E = E} rest row fs = (r : Result D Halt) (gs : List Function) → TypesTo r (rest fs) gs → TypesTo {A = E} (Err (halted r)) row gs

-- how far a loop has come, by what it has made
abbrev pub Ahead : {S D E : Type 0} → Result S Halt → (D → E) → Typing D → Typed E → List Function → Type 0
Ahead (Ok s) put rest row fs = AheadWhole put rest row fs
Ahead (Err H.Quiet) put rest row fs = AheadQuiet rest row fs
Ahead (Err (H.Breaks at n)) put rest row fs = (gs : List Function) → StopsBy (H.Breaks at n) row gs
Ahead (Err H.Memory) put rest row fs = ⊤
