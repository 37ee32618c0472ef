-- Declarations that stand one behind the other, as the code has them.
use Rattle.std.specs.Prelude.{◌≡◌, ⊤, Bool, true, false, List, [], ◌∷◌, map, Result, Ok, Err}
use Rattle.sv_types.specs.declared.frame.ParamValue.{ParamValue}
use Rattle.expr_type.specs.declared.halt.Halt.{Halt}
use Rattle.expr_type.specs.declared.halt.Halt.TheVariants as H
use Rattle.expr_type.specs.Names.{Context}
use Rattle.expr_type.specs.Statements.{Declared, and_then, behind, nothing}
use Rattle.frame_things.specs.Finding.{local_id}
use Rattle.typing_scopes.specs.declared.level.Level.{out-Level}
use Rattle.typing_scopes.specs.Scopes.{context_of}
use Rattle.typing_declarations.specs.declared.block.Block.{Block}
use Rattle.typing_declarations.specs.declared.block.Part.{Part}
use Rattle.typing_declarations.specs.declared.block.Part.TheVariants as P

-- what one brings in
abbrev pub declares : Part → Declared
declares (P.Value v) = record nothing { values = v ∷ [] }
declares (P.Type t) = record nothing { types = t ∷ [] }
declares (P.Local n l) = record nothing { ids = local_id n ∷ []; locals = l ∷ [] }

-- the names of a type
abbrev pub named : List ParamValue → Declared
named vs = record nothing { values = vs }

-- what all of them bring in
abbrev pub declared : {B : Type 0} → Block B → Declared
declared b = record {
  values = (out-Level b.scope.level).values;
  types = (out-Level b.scope.level).types;
  ids = map local_id (out-Level b.scope.level).locals;
  locals = b.locals;
}

-- one more behind others: what it brings in stands behind them, and nothing changes where it isn't whole
pub record Adds {B : Type 0} (of : B → Context) (old new : Block B) (d : Declared) : Type 0 where
  pub context : context_of of new.scope ≡ behind (context_of of old.scope) d
  pub brings : declared new ≡ and_then (declared old) d

pub record Stays {B : Type 0} (of : B → Context) (old new : Block B) : Type 0 where
  pub context : context_of of new.scope ≡ context_of of old.scope
  pub brings : declared new ≡ declared old

abbrev pub Takes : {B : Type 0} → (B → Context) → Block B → Block B → Bool → Result Part Halt → Result Bool Halt → Type 0
Takes of old new whole (Ok p) (Ok w) = (w ≡ whole) × Adds of old new (declares p)
Takes of old new whole (Ok p) (Err h) = h ≡ H.Memory
Takes of old new whole (Err H.Quiet) (Ok w) = (w ≡ false) × Stays of old new
Takes of old new whole (Err H.Quiet) (Err h) = ⊥
Takes of old new whole (Err H.Memory) r = r ≡ Err H.Memory
Takes of old new whole (Err (H.Breaks at n)) r = r ≡ Err (H.Breaks at n)

-- at the end of them
abbrev pub ended : Bool → Declared → Result Declared Halt
ended true d = Ok d
ended false d = Err H.Quiet
