-- The scope behind one more declaration: what it stands around, and what the next parameter takes.
use Rattle.std.proofs.Common.{◌≡◌, ℕ, Bool, true, Option, List, sym, ap, subst}
use Rattle.std.specs.Prelude.{Result, Ok, Err}
use Rattle.sv_tree.specs.declared.declarations.Declarator.{Declarator}
use Rattle.sv_tree.specs.declared.declarations.ParameterBody.{ParameterBody}
use Rattle.sv_types.specs.declared.statement.Function.{Function}
use Rattle.sv_types.specs.declared.types.SvType.{SvType}
use Rattle.expr_type.specs.declared.halt.Halt.{Halt}
use Rattle.expr_type.specs.declared.halt.Halt.TheVariants as H
use Rattle.expr_type.specs.Names.{Called, Context}
use Rattle.expr_type.specs.Statements as S
use Rattle.expr_type.specs.Statements.{Declared, variable}
use Rattle.expr_type.specs.Typings.{Typed, Typing}
use Rattle.routine_fits.specs.Sound.{AllSoundFunctions}
use Rattle.typing_steps.specs.Steps.{TypesTo}
use Rattle.typing_calls.specs.Lists.{as_meant}
use Rattle.typing_scopes.specs.Scopes.{context_of}
use Rattle.typing_walks.specs.Keeps.{Surrounded}
use Rattle.stmt_laws.specs.Sound.{KindFull, PerhapsFull, SoundDeclared}
use Rattle.stmt_laws.specs.Written.{body_written, declarator_written}
use Rattle.stmt_laws.proofs.Declared.{behind-sound, parameter-keeps, variable-keeps}
use Rattle.typing_declarations.specs.declared.block.Block.{Block}
use Rattle.typing_declarations.specs.declared.block.Part.{Part}
use Rattle.typing_declarations.specs.declared.bodies.Kind.{Kind}
use Rattle.typing_declarations.specs.declared.bodies.Parameter.{Parameter}
use Rattle.typing_declarations.specs.Blocks.{Adds, Stays, Takes, declares}
use Rattle.typing_declarations.specs.Kinds.{kind_of, parameter_of, parted}

abbrev bool_ok : Bool → Result Bool Halt
bool_ok b = Ok b

module _ {B : Type 0} (of : B → Context) (old new : Block B) (fs gs : List Function) where
  abbrev before : Context
  before = context_of of old.scope

  abbrev after : Context
  after = context_of of new.scope

  pub added-around : (d : Declared) (hs : List Function) → Adds of old new d → Surrounded AllSoundFunctions before → SoundDeclared d hs → Surrounded AllSoundFunctions after
  added-around d hs a r s = subst (λ (k : Context). Surrounded AllSoundFunctions k) (sym a.context) (behind-sound AllSoundFunctions before d hs r s)

  pub stayed-around : Stays of old new → Surrounded AllSoundFunctions before → Surrounded AllSoundFunctions after
  stayed-around s r = subst (λ (k : Context). Surrounded AllSoundFunctions k) (sym s.context) r

  abbrev the_routine : Context → ℕ → Typing Called
  the_routine k = k.routine

  pub routine-taken : (w v : Bool) (part : Result Part Halt) → Takes of old new w part (Ok v) → after.routine ≡ before.routine
  routine-taken w v (Ok p) k = let a = k.1 in ap the_routine a.context
  routine-taken w v (Err H.Quiet) k = let s = k.1 in ap the_routine s.context
  routine-taken w v (Err H.Memory) k = let e : bool_ok v ≡ Err H.Memory = k in absurd (cc)
  routine-taken w v (Err (H.Breaks at n)) k = let e : bool_ok v ≡ Err (H.Breaks at n) = k in absurd (cc)

  pub variable-around : (w v : Bool) (part : Result Part Halt) (t : Option SvType) (d : Declarator) → Takes of old new w part (Ok v) → Surrounded AllSoundFunctions before → AllSoundFunctions fs → declarator_written d ≡ true → PerhapsFull t
      → TypesTo (as_meant declares part) (variable t d before fs) gs → Surrounded AllSoundFunctions after
  variable-around w v (Ok p) t d k r q written full h =
      let kept = variable-keeps AllSoundFunctions t d written full before r fs q in
      added-around (declares p) (variable t d before fs).functions k.1 r (kept.sound (declares p) (ap (λ (x : Typed Declared). x.result) h))
  variable-around w v (Err H.Quiet) t d k r q written full h = stayed-around k.1 r
  variable-around w v (Err H.Memory) t d k r q written full h = let e : bool_ok v ≡ Err H.Memory = k in absurd (cc)
  variable-around w v (Err (H.Breaks at n)) t d k r q written full h = let e : bool_ok v ≡ Err (H.Breaks at n) = k in absurd (cc)

  pub parameter-around : (w v : Bool) (p : Result Parameter Halt) (q : Kind × Result Part Halt) (was : Kind) (b : ParameterBody) → parted p q → Takes of old new w q.1 (Ok v) → Surrounded AllSoundFunctions before → AllSoundFunctions fs
      → body_written b ≡ true → KindFull (kind_of was) → TypesTo (as_meant parameter_of p) (S.parameter before (kind_of was) b fs) gs → Surrounded AllSoundFunctions after
  parameter-around w v (Ok p) q was b parts k r s written full h =
      let took = subst (λ (x : Result Part Halt). Takes of old new w x (Ok v)) parts.1 k in
      let kept = parameter-keeps AllSoundFunctions before (kind_of was) b r written full fs s in
      let sound = kept.sound (parameter_of p) (ap (λ (x : Typed S.Parameter). x.result) h) in
      added-around (declares p.part) (S.parameter before (kind_of was) b fs).functions took.1 r sound.declared
  parameter-around w v (Err H.Quiet) q was b parts k r s written full h =
      let took = subst (λ (x : Result Part Halt). Takes of old new w x (Ok v)) parts.1 k in stayed-around took.1 r
  parameter-around w v (Err H.Memory) q was b parts k r s written full h =
      let e : bool_ok v ≡ Err H.Memory = subst (λ (x : Result Part Halt). Takes of old new w x (Ok v)) parts.1 k in absurd (cc)
  parameter-around w v (Err (H.Breaks at n)) q was b parts k r s written full h =
      let e : bool_ok v ≡ Err (H.Breaks at n) = subst (λ (x : Result Part Halt). Takes of old new w x (Ok v)) parts.1 k in absurd (cc)

  pub parameter-kind : (p : Result Parameter Halt) (q : Kind × Result Part Halt) (was : Kind) (b : ParameterBody) → parted p q → Surrounded AllSoundFunctions before → AllSoundFunctions fs → body_written b ≡ true → KindFull (kind_of was)
      → TypesTo (as_meant parameter_of p) (S.parameter before (kind_of was) b fs) gs → KindFull (kind_of q.0)
  parameter-kind (Ok p) q was b parts r s written full h =
      let kept = parameter-keeps AllSoundFunctions before (kind_of was) b r written full fs s in
      let sound = kept.sound (parameter_of p) (ap (λ (x : Typed S.Parameter). x.result) h) in
      subst (λ (x : Kind). KindFull (kind_of x)) (sym parts.0) sound.kind
  parameter-kind (Err h) q was b parts r s written full t = subst (λ (x : Kind). KindFull (kind_of x)) (sym parts.0) tt
