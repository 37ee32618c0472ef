-- What expressions of a sound text are typed as is narrow, and can be valued.
use Rattle.std.proofs.Common.{◌≡◌, ◌≤◌, true, List, ap, subst}
use Rattle.std.specs.Prelude.{⊤, Result, Ok, Err}
use Rattle.sv_tree.specs.declared.expressions.Expr.{Expr}
use Rattle.sv_types.specs.declared.statement.Function.{Function}
use Rattle.sv_types.specs.Expressions as T
use Rattle.sv_types.specs.Layouts.{width_of}
use Rattle.eval_parts.specs.Limits.{FitsAlone}
use Rattle.eval_forms.specs.Callees.{formals_in}
use Rattle.expr_type.specs.declared.halt.Halt.{Halt}
use Rattle.expr_type.specs.Expressions.{operand}
use Rattle.expr_type.specs.Names.{Context, Source}
use Rattle.expr_type.specs.Operands.{Operand}
use Rattle.expr_type.specs.Typings.{Typed}
use Rattle.pattern_types.specs.declared.operand.Item.{Item, fold-Item}
use Rattle.pattern_types.specs.declared.operand.Operand as O
use Rattle.pattern_types.specs.declared.operand.Operand.{Operand-F, fold_out-Operand, map-Operand, out-Operand}
use Rattle.pattern_types.specs.Meaning.{Filled, item_step, operand_of, operand_step}
use Rattle.typing_steps.specs.Steps.{TypesTo}
use Rattle.typing_fits.specs.Operands.{SoundOperand}
use Rattle.typing_fits.proofs.Given.{sound-fits}
use Rattle.routine_fits.specs.Sound.{AllSoundFunctions}
use Rattle.typing_walks.specs.Keeps.{Surrounded}
use Rattle.typing_walks.specs.Written.{is_written}
use Rattle.typing_walks.proofs.Constants.{operand-kept}
use Rattle.typing_values.specs.TypingParts.{as_operand}
use Rattle.typing_values.specs.TypingParts.{FitsIfOk, NarrowIfOk}

abbrev narrow_layer : Operand-F O.Operand Item → Type 0
narrow_layer z = elim z [
  | Operand-F.Plain v ↦ width_of v.expr.of ≤ 4194304
  | Operand-F.Pattern tick times items ↦ ⊤
  | Operand-F.Stream v ↦ width_of v.expr.of ≤ 65536
]

abbrev fits_layer : List Function → Operand-F O.Operand Item → Type 0
fits_layer fs z = elim z [
  | Operand-F.Plain v ↦ FitsAlone (T.meaning v.expr) (formals_in fs)
  | Operand-F.Pattern tick times items ↦ ⊤
  | Operand-F.Stream v ↦ ⊤
]

abbrev meant : Source → Operand-F O.Operand Item → Operand
meant k z = operand_step k (map-Operand O.Operand Item Operand Filled (operand_of k) (fold-Item Operand Filled (operand_step k) item_step) z)

meant-is : (k : Source) (o : O.Operand) → operand_of k o ≡ meant k (out-Operand o)
meant-is k o = fold_out-Operand Operand Filled (operand_step k) item_step o

narrow-by : (k : Source) (z : Operand-F O.Operand Item) (gs : List Function) → SoundOperand (meant k z) gs → narrow_layer z
narrow-by k (Operand-F.Plain v) gs s = s.of.narrow
narrow-by k (Operand-F.Pattern tick times items) gs s = tt
narrow-by k (Operand-F.Stream v) gs s = s.short

fits-by : (k : Source) (z : Operand-F O.Operand Item) (gs : List Function) → SoundOperand (meant k z) gs → fits_layer gs z
fits-by k (Operand-F.Plain v) gs s = sound-fits v gs s
fits-by k (Operand-F.Pattern tick times items) gs s = tt
fits-by k (Operand-F.Stream v) gs s = tt

-- what is whole is sound
sound-there : (k : Context) (e : Expr) (fs gs : List Function) (o : O.Operand) → Surrounded AllSoundFunctions k → is_written e ≡ true → AllSoundFunctions fs
    → TypesTo (Ok (operand_of k.source o)) (operand k e fs) gs → SoundOperand (meant k.source (out-Operand o)) gs
sound-there k e fs gs o s w q h =
    let kept = operand-kept AllSoundFunctions k e fs s w q in
    let here : SoundOperand (operand_of k.source o) (operand k e fs).functions = kept.sound (operand_of k.source o) (ap (λ (t : Typed Operand). t.result) h) in
    let there : SoundOperand (operand_of k.source o) gs = subst (λ (hs : List Function). SoundOperand (operand_of k.source o) hs) (ap (λ (t : Typed Operand). t.functions) h) here in
    subst (λ (u : Operand). SoundOperand u gs) (meant-is k.source o) there

pub typed-narrow : (k : Context) (e : Expr) (fs gs : List Function) (r : Result O.Operand Halt) → Surrounded AllSoundFunctions k → is_written e ≡ true → AllSoundFunctions fs
    → TypesTo (as_operand k.source r) (operand k e fs) gs → NarrowIfOk r
typed-narrow k e fs gs (Ok o) s w q h = narrow-by k.source (out-Operand o) gs (sound-there k e fs gs o s w q h)
typed-narrow k e fs gs (Err g) s w q h = tt

pub typed-fits : (k : Context) (e : Expr) (fs gs : List Function) (r : Result O.Operand Halt) → Surrounded AllSoundFunctions k → is_written e ≡ true → AllSoundFunctions fs
    → TypesTo (as_operand k.source r) (operand k e fs) gs → FitsIfOk r gs
typed-fits k e fs gs (Ok o) s w q h = fits-by k.source (out-Operand o) gs (sound-there k e fs gs o s w q h)
typed-fits k e fs gs (Err g) s w q h = tt
