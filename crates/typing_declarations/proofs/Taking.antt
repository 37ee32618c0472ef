-- What one more declaration does to a row.
use Rattle.std.proofs.Common.{◌≡◌, ℕ, Bool, true, false, List, [], ◌∷◌, map, Option, Some, None, refl, sym, ap, ◌∙◌, subst}
use Rattle.std.specs.Prelude.{Result, Ok, Err}
use Rattle.sv_tree.specs.declared.declarations.Declarator.{Declarator}
use Rattle.sv_tree.specs.declared.declarations.ParameterBody.{ParameterBody}
use Rattle.sv_types.specs.declared.statement.Function.{Function}
use Rattle.sv_types.specs.declared.types.SvType.{SvType}
use Rattle.expr_type.specs.declared.halt.Halt.{Halt}
use Rattle.expr_type.specs.declared.halt.Halt.TheVariants as H
use Rattle.expr_type.specs.Names.{Context}
use Rattle.expr_type.specs.Statements as S
use Rattle.expr_type.specs.Statements.{Declared, and_then, behind, behind_if, in_turn, variable}
use Rattle.expr_type.specs.Typings.{Typed, Typing}
use Rattle.typing_steps.specs.Steps.{StopsBy, TypesTo}
use Rattle.typing_calls.specs.Lists.{as_meant}
use Rattle.typing_scopes.specs.Scopes.{context_of}
use Rattle.typing_declarations.specs.declared.block.Block.{Block}
use Rattle.typing_declarations.specs.declared.block.Part.{Part}
use Rattle.typing_declarations.specs.declared.bodies.Kind.{Kind}
use Rattle.typing_declarations.specs.declared.bodies.Kind.TheVariants as K
use Rattle.typing_declarations.specs.declared.bodies.Parameter.{Parameter}
use Rattle.typing_declarations.specs.Blocks.{Adds, Stays, Takes, declared, declares}
use Rattle.typing_declarations.specs.Kinds.{kind_of, parameter_of, parted}
use Rattle.typing_declarations.specs.Rows.{AheadBy, each_variable}
use Rattle.typing_declarations.proofs.Joining.{row-breaks, row-quiet, row-whole}

abbrev bool_ok : Bool → Result Bool Halt
bool_ok b = Ok b

abbrev bool_err : Halt → Result Bool Halt
bool_err h = Err h

module _ {B : Type 0} (of : B → Context) (old new : Block B) (row : Typed Declared) (fs gs : List Function) where
  abbrev before : Context
  before = context_of of old.scope

  abbrev after : Context
  after = context_of of new.scope

  -- what stands behind it, in the scope behind it
  added : (w v : Bool) (d : Declared) (rest : Context → Typing Declared) → v ≡ w → Adds of old new d → AheadBy w (and_then (declared old) d) (rest (behind before d)) row gs → AheadBy v (declared new) (rest after) row gs
  added w v d rest same a h =
      subst (λ (u : Bool). AheadBy u (declared new) (rest after) row gs) (sym same)
      (subst (λ (e : Declared). AheadBy w e (rest after) row gs) (sym a.brings) (subst (λ (k : Context). AheadBy w (and_then (declared old) d) (rest k) row gs) (sym a.context) h))

  stayed : (v : Bool) (rest : Context → Typing Declared) → v ≡ false → Stays of old new → AheadBy false (declared new) (rest before) row gs → AheadBy v (declared new) (rest after) row gs
  stayed v rest same s h =
      subst (λ (u : Bool). AheadBy u (declared new) (rest after) row gs) (sym same) (subst (λ (k : Context). AheadBy false (declared new) (rest k) row gs) (sym s.context) h)

  -- a variable
  abbrev rest_of : Option SvType → List Declarator → Option Declared → Typing Declared
  rest_of t ds o = in_turn (behind_if before o) (map (variable t) ds)

  pub variable-taken : (w v : Bool) (part : Result Part Halt) (t : Option SvType) (d : Declarator) (ds : List Declarator) → Takes of old new w part (Ok v) → AheadBy w (declared old) (each_variable before t (d ∷ ds)) row fs
      → TypesTo (as_meant declares part) (variable t d before fs) gs → AheadBy v (declared new) (each_variable after t ds) row gs
  variable-taken w v (Ok p) t d ds k so_far h =
      added w v (declares p) (λ j. each_variable j t ds) k.0 k.1 (row-whole (λ (e : Declared). e) (variable t d before) (rest_of t ds) row fs gs w (declared old) (declares p) so_far h)
  variable-taken w v (Err H.Quiet) t d ds k so_far h =
      stayed v (λ j. each_variable j t ds) k.0 k.1 (row-quiet (λ (e : Declared). e) (variable t d before) (rest_of t ds) row fs gs w (declared old) (declared new) so_far h)
  variable-taken w v (Err H.Memory) t d ds k so_far h = let e : bool_ok v ≡ Err H.Memory = k in absurd (cc)
  variable-taken w v (Err (H.Breaks at n)) t d ds k so_far h = let e : bool_ok v ≡ Err (H.Breaks at n) = k in absurd (cc)

  stops-as : (h g : Halt) → bool_err h ≡ Err g → StopsBy g row gs → StopsBy h row gs
  stops-as h g e s = let same : g ≡ h = cc in subst (λ (x : Halt). StopsBy x row gs) same s

  no-memory : (h : Halt) → h ≡ H.Memory → StopsBy h row gs
  no-memory h e = subst (λ (x : Halt). StopsBy x row gs) (sym e) tt

  pub variable-stops : (w : Bool) (h : Halt) (part : Result Part Halt) (t : Option SvType) (d : Declarator) (ds : List Declarator) → Takes of old new w part (Err h) → AheadBy w (declared old) (each_variable before t (d ∷ ds)) row fs
      → TypesTo (as_meant declares part) (variable t d before fs) gs → StopsBy h row gs
  variable-stops w h (Ok p) t d ds k so_far s = no-memory h k
  variable-stops w h (Err H.Quiet) t d ds k so_far s = elim k [ ]
  variable-stops w h (Err H.Memory) t d ds k so_far s = stops-as h H.Memory k tt
  variable-stops w h (Err (H.Breaks at n)) t d ds k so_far s =
      stops-as h (H.Breaks at n) k (row-breaks (λ (e : Declared). e) (variable t d before) (rest_of t ds) row fs gs w (declared old) at n so_far s gs)

  -- a parameter
  abbrev params_of : List ParameterBody → Option S.Parameter → Typing Declared
  params_of bs o = S.parameters (S.declared_if before o) (S.kind_if o) bs

  abbrev of_parameter : S.Parameter → Declared
  of_parameter p = p.declared

  pub parameter-taken : (w v : Bool) (p : Result Parameter Halt) (q : Kind × Result Part Halt) (was : Kind) (b : ParameterBody) (bs : List ParameterBody) → parted p q → Takes of old new w q.1 (Ok v)
      → AheadBy w (declared old) (S.parameters before (kind_of was) (b ∷ bs)) row fs → TypesTo (as_meant parameter_of p) (S.parameter before (kind_of was) b fs) gs
      → AheadBy v (declared new) (S.parameters after (kind_of q.0) bs) row gs
  parameter-taken w v (Ok p) q was b bs parts k so_far h =
      let took = subst (λ (r : Result Part Halt). Takes of old new w r (Ok v)) parts.1 k in
      subst (λ (x : Kind). AheadBy v (declared new) (S.parameters after (kind_of x) bs) row gs) (sym parts.0)
      (added w v (declares p.part) (λ j. S.parameters j (kind_of p.kind) bs) took.0 took.1
      (row-whole of_parameter (S.parameter before (kind_of was) b) (params_of bs) row fs gs w (declared old) (parameter_of p) so_far h))
  parameter-taken w v (Err H.Quiet) q was b bs parts k so_far h =
      let took = subst (λ (r : Result Part Halt). Takes of old new w r (Ok v)) parts.1 k in
      subst (λ (x : Kind). AheadBy v (declared new) (S.parameters after (kind_of x) bs) row gs) (sym parts.0)
      (stayed v (λ j. S.parameters j (S.IsValue (S.OfValue None)) bs) took.0 took.1
      (row-quiet of_parameter (S.parameter before (kind_of was) b) (params_of bs) row fs gs w (declared old) (declared new) so_far h))
  parameter-taken w v (Err H.Memory) q was b bs parts k so_far h =
      let e : bool_ok v ≡ Err H.Memory = subst (λ (r : Result Part Halt). Takes of old new w r (Ok v)) parts.1 k in absurd (cc)
  parameter-taken w v (Err (H.Breaks at n)) q was b bs parts k so_far h =
      let e : bool_ok v ≡ Err (H.Breaks at n) = subst (λ (r : Result Part Halt). Takes of old new w r (Ok v)) parts.1 k in absurd (cc)

  pub parameter-stops : (w : Bool) (h : Halt) (p : Result Parameter Halt) (q : Kind × Result Part Halt) (was : Kind) (b : ParameterBody) (bs : List ParameterBody) → parted p q → Takes of old new w q.1 (Err h)
      → AheadBy w (declared old) (S.parameters before (kind_of was) (b ∷ bs)) row fs → TypesTo (as_meant parameter_of p) (S.parameter before (kind_of was) b fs) gs → StopsBy h row gs
  parameter-stops w h (Ok p) q was b bs parts k so_far s = no-memory h (subst (λ (r : Result Part Halt). Takes of old new w r (Err h)) parts.1 k)
  parameter-stops w h (Err H.Quiet) q was b bs parts k so_far s = let bad : ⊥ = subst (λ (r : Result Part Halt). Takes of old new w r (Err h)) parts.1 k in absurd bad
  parameter-stops w h (Err H.Memory) q was b bs parts k so_far s = stops-as h H.Memory (subst (λ (r : Result Part Halt). Takes of old new w r (Err h)) parts.1 k) tt
  parameter-stops w h (Err (H.Breaks at n)) q was b bs parts k so_far s =
      stops-as h (H.Breaks at n) (subst (λ (r : Result Part Halt). Takes of old new w r (Err h)) parts.1 k)
      (row-breaks of_parameter (S.parameter before (kind_of was) b) (params_of bs) row fs gs w (declared old) at n so_far s gs)
