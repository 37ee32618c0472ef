-- What a walk over expressions of a sound text owes its parts: what is typed as a size can be valued.
use Rattle.std.proofs.Common.{◌≡◌, true, List, [], ◌∷◌, map, ap, subst}
use Rattle.std.specs.Prelude.{IfOk, Result, Ok, Err}
use Rattle.sv_tree.specs.declared.expressions.Expr.{Expr}
use Rattle.sv_tree.specs.declared.expressions.Select.{Select}
use Rattle.sv_tree.specs.declared.names.QualifiedName.{QualifiedName}
use Rattle.sv_types.specs.declared.statement.Function.{Function}
use Rattle.expr_type.specs.declared.halt.Halt.{Halt}
use Rattle.expr_type.specs.declared.operand.Valued.{Valued}
use Rattle.expr_type.specs.Expressions.{actuals, meaning, select_meaning}
use Rattle.expr_type.specs.Forms as F
use Rattle.expr_type.specs.Names.{Context}
use Rattle.expr_type.specs.Typings.{Typed, Typing}
use Rattle.typing_steps.specs.Steps.{TypesTo}
use Rattle.typing_fits.specs.Operands.{SoundOperand}
use Rattle.typing_fits.specs.Sound.{Sound}
use Rattle.typing_fits.proofs.Full.{and-left, and-right}
use Rattle.typing_fits.proofs.Given.{sound-fits}
use Rattle.routine_fits.specs.Sound.{AllSoundFunctions}
use Rattle.typing_walks.specs.Keeps.{AllKeep, Surrounded}
use Rattle.typing_walks.specs.Written as W
use Rattle.typing_walks.specs.Written.{select_written}
use Rattle.typing_walks.proofs.Casts as C
use Rattle.typing_walks.proofs.Operands as O
use Rattle.typing_walks.proofs.Paths as P
use Rattle.typing_walks.proofs.Paths.{SelectsSound}
use Rattle.typing_walks.proofs.Walk.{expr-sound, select-sound}
use Rattle.typing_values.specs.Numbers.{CanBeValued}
use Rattle.typing_operators.specs.Children.{AllWritten}

all-selects : (ss : List Select) → W.all (map select_written ss) ≡ true → SelectsSound AllSoundFunctions (map select_meaning ss)
all-selects [] w = tt
all-selects (s ∷ ss) w =
    (select-sound AllSoundFunctions s (and-left (select_written s) (W.all (map select_written ss)) w), all-selects ss (and-right (select_written s) (W.all (map select_written ss)) w))

valued-by : (x : Typing Valued) (v : Valued) (fs gs : List Function) → Sound v (x fs).functions → TypesTo (Ok v) (x fs) gs → CanBeValued gs v
valued-by x v fs gs s h = sound-fits v gs (subst (λ (hs : List Function). Sound v hs) (ap (λ (t : Typed Valued). t.functions) h) s)

pub path-fits : (k : Context) (of : QualifiedName) (ss : List Select) (fs : List Function) → Surrounded AllSoundFunctions k → W.all (map select_written ss) ≡ true → AllSoundFunctions fs
    → (v : Valued) (gs : List Function) → TypesTo (Ok v) (F.named k of (map select_meaning ss) fs) gs → CanBeValued gs v
path-fits k of ss fs r w q v gs h =
    let kept = P.named-keeps AllSoundFunctions k of (map select_meaning ss) r (all-selects ss w) fs q in
    valued-by (F.named k of (map select_meaning ss)) v fs gs (kept.sound v (ap (λ (t : Typed Valued). t.result) h)).sound h

actual-keep : (k : Context) (es : List Expr) → Surrounded AllSoundFunctions k → AllWritten es → AllKeep AllSoundFunctions SoundOperand (actuals k (map meaning es))
actual-keep k [] r w = tt
actual-keep k (e ∷ es) r w = (O.unstreamed-keeps AllSoundFunctions k.source ((meaning e).typed k) ((expr-sound AllSoundFunctions e w.0).typed k r), actual-keep k es r w.1)

pub call-fits : (k : Context) (of : QualifiedName) (es : List Expr) (fs gs : List Function) (r : Result Valued Halt) → Surrounded AllSoundFunctions k → AllWritten es → AllSoundFunctions fs
    → TypesTo r (F.call k of (actuals k (map meaning es)) fs) gs → IfOk r (CanBeValued gs)
call-fits k of es fs gs (Ok v) s w q h =
    let kept = C.call-keeps AllSoundFunctions k of (actuals k (map meaning es)) s (actual-keep k es s w) fs q in
    valued-by (F.call k of (actuals k (map meaning es))) v fs gs (kept.sound v (ap (λ (t : Typed Valued). t.result) h)) h
call-fits k of es fs gs (Err h) s w q p = tt
