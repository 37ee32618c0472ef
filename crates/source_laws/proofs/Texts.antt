-- The texts of a source that is read, and of its frames.
use Rattle.std.proofs.Common.{◌≡◌, ℕ, true, List, length, Option, Some, None, refl}
use Rattle.std.specs.Prelude.{slice_get}
use Rattle.sv_source.specs.declared.token.Token.{Token}
use Rattle.sv_tree.specs.declared.units.SourceTree.{SourceTree}
use Rattle.sv_types.specs.declared.frame.Frame.{Frame}
use Rattle.sv_build.specs.Reading.{Reads}
use Rattle.package_scope.specs.declared.table.Declaration.{Declaration}
use Rattle.package_scope.specs.declared.table.Table.{Table}
use Rattle.expr_type.specs.Functions.{outside, routine}
use Rattle.expr_type.specs.Names.{Context, RoutineText}
use Rattle.expr_type.specs.Routines.{routines, named_at}
use Rattle.typing_fits.specs.Operands.{SoundContext}
use Rattle.typing_walks.specs.Keeps.{Surrounded}
use Rattle.routine_fits.specs.Sound.{AllSoundFunctions}
use Rattle.stmt_laws.specs.Sound.{AroundStatements}
use Rattle.routine_laws.specs.Names.{signals_of, is_no_signal}
use Rattle.routine_laws.specs.Texts.{SoundText, AllSoundTexts, items_of}
use Rattle.routine_laws.proofs.Routines.{surrounded}
use Rattle.written_laws.proofs.Texts.{head-written, items-written}
use Rattle.frame_texts.specs.Frames.{without_routines, without_signals, context}
use Rattle.source_laws.specs.Frames.{SoundFrame}
use Rattle.source_laws.proofs.Silent.{items-silent}

-- where there are no signals, no declaration is one
no-signal : (tree : SourceTree) (t : Table) (k : Context) (o : Option ℕ) → is_no_signal (signals_of (without_signals tree t k)) o ≡ true
no-signal tree t k None = refl
no-signal tree t k (Some n) = refl

-- a function or task that stands at a declaration
declared-sound : (tokens : List Token) (tree : SourceTree) (t : Table) (k : Context) (o : Option Declaration) (x : RoutineText) → Reads tokens tree
    → elim o [ None ↦ None | Some d ↦ named_at d.at (routines tree) ] ≡ Some x → SoundText (without_signals tree t k) x
declared-sound tokens tree t k None x r is = absurd (cc)
declared-sound tokens tree t k (Some d) x r is =
    record { head = head-written tokens tree d.at x r is; items = record { written = items-written tokens tree d.at x r is; locals = items-silent (signals_of (without_signals tree t k)) (no-signal tree t k) (items_of x) } }

pub texts-sound : (tokens : List Token) (tree : SourceTree) (t : Table) (f : Frame) (at : ℕ) → Reads tokens tree → AllSoundTexts (without_signals tree t (without_routines tree t f at))
texts-sound tokens tree t f at r = record { texts = λ n x is. declared-sound tokens tree t (without_routines tree t f at) (slice_get t.declared n) x r is }

-- contexts
pub context-sound : (tree : SourceTree) (t : Table) (f : Frame) (at : ℕ) → SoundFrame f → SoundContext (without_routines tree t f at)
context-sound tree t f at s = record { values = s.values; types = s.types; signals = s.signals; locals = tt }

pub functions-sound : (tree : SourceTree) (t : Table) (f : Frame) (at : ℕ) → SoundFrame f → SoundContext (without_signals tree t (without_routines tree t f at))
functions-sound tree t f at s = record { values = s.values; types = s.types; signals = tt; locals = tt }

-- functions that the texts call
called : (tokens : List Token) (tree : SourceTree) (t : Table) (f : Frame) (at depth : ℕ) → Reads tokens tree → SoundFrame f
    → let k = without_signals tree t (without_routines tree t f at) in Surrounded AllSoundFunctions (record k { routine = routine depth k })
called tokens tree t f at depth r s = surrounded depth (without_signals tree t (without_routines tree t f at)) (functions-sound tree t f at s) (texts-sound tokens tree t f at r)

pub text-around : (tokens : List Token) (tree : SourceTree) (t : Table) (f : Frame) (at : ℕ) → Reads tokens tree → SoundFrame f → AroundStatements AllSoundFunctions (context tree t f at)
text-around tokens tree t f at r s =
    record { around = record { context = record { values = s.values; types = s.types; signals = s.signals; locals = tt }; routines = (called tokens tree t f at (length t.declared) r s).routines }; result = tt }

pub behind-around : (tokens : List Token) (tree : SourceTree) (t : Table) (f : Frame) (at depth n : ℕ) → Reads tokens tree → SoundFrame f
    → let k = without_signals tree t (without_routines tree t f at) in Surrounded AllSoundFunctions (outside (record k { routine = routine depth k }) n)
behind-around tokens tree t f at depth n r s =
    record { context = record { values = s.values; types = s.types; signals = tt; locals = tt }; routines = (called tokens tree t f at depth r s).routines }
