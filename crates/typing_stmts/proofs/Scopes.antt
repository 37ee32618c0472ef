-- Texts behind declarations and in loops.
use Rattle.std.proofs.Common.{◌≡◌, ℕ, true, Option, Some, None, List, refl, sym, ap, ◌∙◌, subst}
use Rattle.std.specs.Prelude.{IfOk, Result, Ok, Err, Vec}
use Rattle.std.specs.declared.alloc.Global.{Global}
use Rattle.sv_tree.specs.declared.statements.LoopStart.{LoopStart}
use Rattle.sv_types.specs.declared.statement.Function.{Function}
use Rattle.expr_type.specs.declared.halt.Halt.{Halt}
use Rattle.expr_type.specs.declared.halt.Halt.TheVariants as H
use Rattle.expr_type.specs.Names.{Context, Called}
use Rattle.expr_type.specs.Statements as D
use Rattle.expr_type.specs.Typings.{Typed, Typing}
use Rattle.routine_fits.specs.Sound.{AllSoundFunctions}
use Rattle.stmt_laws.specs.Sound.{SoundDeclared}
use Rattle.stmt_laws.specs.Written.{start_written}
use Rattle.stmt_laws.proofs.Declared.{behind-sound}
use Rattle.stmt_laws.proofs.Parts.{SoundVariable, loop-behind, variable-keeps}
use Rattle.stmt_types.specs.declared.blocks.BlockPart.{BlockPart}
use Rattle.typing_calls.specs.Lists.{as_meant}
use Rattle.typing_declarations.specs.declared.turns.LoopVariable.{LoopVariable}
use Rattle.typing_declarations.specs.Loops.{variable_of}
use Rattle.typing_sides.specs.Sides.{known_of}
use Rattle.typing_fits.specs.Sound.{IsNarrowType}
use Rattle.typing_fits.proofs.Full.{and-left, and-right}
use Rattle.typing_scopes.specs.declared.declared.Declared.{Declared}
use Rattle.typing_scopes.specs.Scopes.{means}
use Rattle.typing_steps.specs.Steps.{TypesTo}
use Rattle.typing_walks.specs.Keeps.{Keeps, Surrounded}
use Rattle.typing_walks.specs.Written.{is_written}
use Rattle.typing_walks.specs.WrittenTypes.{type_written}
use Rattle.typing_stmt_parts.specs.declared.parts.Part.{Part}
use Rattle.typing_stmt_parts.specs.declared.parts.Part.TheVariants as P
use Rattle.typing_stmt_parts.specs.Parts.{Joins, SoundIn, part_meant}
use Rattle.typing_stmt_parts.proofs.Making.{declared-sound}

-- what is typed and keeps something
pub kept-by : {A : Type 0} (P : A → List Function → Type 0) (x : Typing A) (fs gs : List Function) (a : A) → Keeps AllSoundFunctions P x → AllSoundFunctions fs → TypesTo (Ok a) (x fs) gs → P a gs
kept-by {A = A} P x fs gs a keeps sound p =
    subst (λ (hs : List Function). P a hs) (ap (λ (t : Typed A). t.functions) p) ((keeps fs sound).sound a (ap (λ (t : Typed A). t.result) p))

-- declarations as items are sound
pub part-sound : (d : Result Declared Halt) (r : Result Part Halt) (x : Typing D.Declared) (fs gs : List Function) → r ≡ as_meant P.Declared d → TypesTo (as_meant means d) (x fs) gs → Keeps AllSoundFunctions SoundDeclared x → AllSoundFunctions fs
    → IfOk r (SoundIn gs)
part-sound d r x fs gs is t keeps sound =
    declared-sound d r gs is (λ e same. kept-by SoundDeclared x fs gs (means e) keeps sound (subst (λ (q : Result Declared Halt). TypesTo (as_meant means q) (x fs) gs) same t))

-- behind one more item of a block
surrounded-by : (k : Context) (fs : List Function) (p : Part) → Surrounded AllSoundFunctions k → SoundIn fs p → Surrounded AllSoundFunctions (D.behind_part k (Some (part_meant p)))
surrounded-by k fs (P.Statement s) r sound = r
surrounded-by k fs (P.Declared d) r sound = behind-sound AllSoundFunctions k (means d) fs r sound

routine-by : (k : Context) (p : Part) → (D.behind_part k (Some (part_meant p))).routine ≡ k.routine
routine-by k (P.Statement s) = refl
routine-by k (P.Declared d) = refl

pub joined-names : (made r : Option (Vec BlockPart Global)) (k j : Context) (part : Result Part Halt) (fs : List Function) → Joins made k j part (Ok r) → Surrounded AllSoundFunctions k → IfOk part (SoundIn fs) → Surrounded AllSoundFunctions j
joined-names made r k j (Ok p) fs s names sound = subst (λ (c : Context). Surrounded AllSoundFunctions c) (sym s.0) (surrounded-by k fs p names sound)
joined-names made r k j (Err H.Quiet) fs s names sound = subst (λ (c : Context). Surrounded AllSoundFunctions c) (sym s.0) names
joined-names made r k j (Err H.Memory) fs s names sound = absurd (cc)
joined-names made r k j (Err (H.Breaks at n)) fs s names sound = absurd (cc)

pub joined-routine : (made r : Option (Vec BlockPart Global)) (k j : Context) (part : Result Part Halt) (routine : ℕ → Typing Called) → Joins made k j part (Ok r) → k.routine ≡ routine → j.routine ≡ routine
joined-routine made r k j (Ok p) routine s e = ap (λ (c : Context). c.routine) s.0 ∙ routine-by k p ∙ e
joined-routine made r k j (Err H.Quiet) routine s e = ap (λ (c : Context). c.routine) s.0 ∙ e
joined-routine made r k j (Err H.Memory) routine s e = absurd (cc)
joined-routine made r k j (Err (H.Breaks at n)) routine s e = absurd (cc)

-- the variable of a loop that is whole
variable-sound : (k : Context) (l : LoopStart) (v : LoopVariable) (fs gs : List Function) → Surrounded AllSoundFunctions k → start_written l ≡ true → AllSoundFunctions fs
    → TypesTo (Ok (variable_of v)) (D.loop_variable k l fs) gs → SoundVariable (variable_of v) gs
variable-sound k l v fs gs names w sound p =
    let keeps = variable-keeps AllSoundFunctions k l names (and-left (type_written l.of) (is_written l.value) w) (and-right (type_written l.of) (is_written l.value) w) in
    kept-by SoundVariable (D.loop_variable k l) fs gs (variable_of v) keeps sound p

pub variable-narrow : (k : Context) (l : LoopStart) (v : Result LoopVariable Halt) (fs gs : List Function) → Surrounded AllSoundFunctions k → start_written l ≡ true → AllSoundFunctions fs
    → TypesTo (as_meant variable_of v) (D.loop_variable k l fs) gs → IfOk v (λ (x : LoopVariable). IsNarrowType x.local.of)
variable-narrow k l (Ok v) fs gs names w sound p = (variable-sound k l v fs gs names w sound p).of
variable-narrow k l (Err h) fs gs names w sound p = tt

behind-variable : (k : Context) (l : LoopStart) (v : Result LoopVariable Halt) (fs gs : List Function) → Surrounded AllSoundFunctions k → start_written l ≡ true → AllSoundFunctions fs
    → TypesTo (as_meant variable_of v) (D.loop_variable k l fs) gs → Surrounded AllSoundFunctions (D.in_loop k (known_of (as_meant variable_of v)))
behind-variable k l (Ok v) fs gs names w sound p = loop-behind AllSoundFunctions k (variable_of v) gs names (variable-sound k l v fs gs names w sound p)
behind-variable k l (Err h) fs gs names w sound p = names

-- in a loop
loop-routine : (k : Context) (o : Option D.LoopVariable) → (D.in_loop k o).routine ≡ k.routine
loop-routine k None = refl
loop-routine k (Some v) = refl

module _ (k j : Context) (v : Result LoopVariable Halt) (is : j ≡ D.in_loop k (known_of (as_meant variable_of v))) where
  pub entered-routine : j.routine ≡ k.routine
  entered-routine = ap (λ (c : Context). c.routine) is ∙ loop-routine k (known_of (as_meant variable_of v))

  pub entered-names : (l : LoopStart) (fs gs : List Function) → Surrounded AllSoundFunctions k → start_written l ≡ true → AllSoundFunctions fs → TypesTo (as_meant variable_of v) (D.loop_variable k l fs) gs → Surrounded AllSoundFunctions j
  entered-names l fs gs names w sound p = subst (λ (c : Context). Surrounded AllSoundFunctions c) (sym is) (behind-variable k l v fs gs names w sound p)
