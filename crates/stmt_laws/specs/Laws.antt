-- The laws: what types, declarations and statements of a sound text keep.
use Rattle.std.specs.Prelude.{◌≡◌, ℕ, true, List, Some, map}
use Rattle.sv_tree.specs.declared.declarations.Declarator.{Declarator}
use Rattle.sv_tree.specs.declared.declarations.ParameterBody.{ParameterBody}
use Rattle.sv_tree.specs.declared.expressions.Dimension.{Dimension}
use Rattle.sv_tree.specs.declared.expressions.Select.{Select}
use Rattle.sv_tree.specs.declared.statements.BlockItem.{BlockItem}
use Rattle.sv_tree.specs.declared.statements.Stmt.{Stmt}
use Rattle.sv_tree.specs.declared.types.TypeText.{TypeText}
use Rattle.sv_types.specs.declared.statement.Function.{Function}
use Rattle.sv_types.specs.declared.types.SvType.{SvType}
use Rattle.expr_type.specs.Typings.{Typing}
use Rattle.expr_type.specs.Names.{Context, with_values}
use Rattle.expr_type.specs.Types.{TypeFound, typed_text, declared_type}
use Rattle.expr_type.specs.Statements.{Declared, behind, variables_of, selected_type, Kind, parameters, block, item_meaning, typed_stmt}
use Rattle.typing_fits.specs.Types.{is_full}
use Rattle.typing_walks.specs.Keeps.{Keeps, FullType, Surrounded}
use Rattle.typing_walks.specs.WrittenTypes.{dims_written, type_written}
use Rattle.routine_fits.specs.Sound.{SoundStmt, AllSoundFunctions}
use Rattle.stmt_laws.specs.Written.{declarators_written, bodies_written, selects_written, stmt_written, items_written}
use Rattle.stmt_laws.specs.Sound.{SoundType, SoundDeclared, KindFull, AroundStatements}

-- types as they are written, with the names of the enums in them
pub record TypesAreSound : Type 0 where
  pub text : (k : Context) (of : TypeText) → Surrounded AllSoundFunctions k → type_written of ≡ true → Keeps AllSoundFunctions SoundType (typed_text of k)
  pub selected : (k : Context) (of : ℕ) (ss : List Select) → Surrounded AllSoundFunctions k → selects_written ss ≡ true → Keeps AllSoundFunctions SoundType (selected_type k of ss)
  pub declared : (k : Context) (t : SvType) (ds : List Dimension) → Surrounded AllSoundFunctions k → dims_written ds ≡ true → is_full t ≡ true → Keeps AllSoundFunctions FullType (declared_type k (Some t) ds)
  pub behind : (k : Context) (f : TypeFound) (gs : List Function) → Surrounded AllSoundFunctions k → SoundType f gs → Surrounded AllSoundFunctions (with_values f.names k)

-- declarations of a block, and the text behind them
pub record DeclarationsAreSound : Type 0 where
  pub variables : (k : Context) (x : Typing TypeFound) (ds : List Declarator) → Surrounded AllSoundFunctions k → declarators_written ds ≡ true → Keeps AllSoundFunctions SoundType x
      → Keeps AllSoundFunctions SoundDeclared (variables_of k x ds)
  pub parameters : (k : Context) (before : Kind) (bs : List ParameterBody) → Surrounded AllSoundFunctions k → bodies_written bs ≡ true → KindFull before
      → Keeps AllSoundFunctions SoundDeclared (parameters k before bs)
  pub behind : (k : Context) (d : Declared) (gs : List Function) → Surrounded AllSoundFunctions k → SoundDeclared d gs → Surrounded AllSoundFunctions (behind k d)

-- statements and blocks
pub record StatementsAreSound : Type 0 where
  pub statement : (k : Context) (s : Stmt) → AroundStatements AllSoundFunctions k → stmt_written s ≡ true → Keeps AllSoundFunctions SoundStmt (typed_stmt k s)
  pub block : (k : Context) (items : List BlockItem) → AroundStatements AllSoundFunctions k → items_written items ≡ true
      → Keeps AllSoundFunctions SoundStmt (block k (map item_meaning items))
