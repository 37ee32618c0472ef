-- What functions of a frame's text stand in, and that they are sound there.
use Rattle.std.proofs.Common.{◌≡◌, ℕ, true, List, [], ◌∷◌, ◌++◌, length, Some, refl, sym, ap, ◌∙◌, subst}
use Rattle.std.specs.Prelude.{Ok, Result}
use Rattle.sv_tree.specs.declared.units.SourceTree.{SourceTree}
use Rattle.sv_types.specs.declared.frame.Frame.{Frame}
use Rattle.sv_types.specs.declared.statement.Function.{Function}
use Rattle.package_scope.specs.declared.table.Table.{Table}
use Rattle.expr_type.specs.declared.halt.Halt.{Halt}
use Rattle.expr_type.specs.Functions.{by_text, function_path, name_of, outside, routine}
use Rattle.expr_type.specs.Names.{Called, Context, Home, RoutineText, OfFunction, OfTask, word}
use Rattle.expr_type.specs.Typings.{Typed, Typing}
use Rattle.frame_texts.specs.Frames.{home_in}
use Rattle.routine_fits.specs.Sound.{AllSoundFunctions, SoundFunction}
use Rattle.routine_fits.proofs.Functions.{one-more}
use Rattle.routine_laws.specs.Texts.{SoundText, head_written, items_of}
use Rattle.routine_laws.proofs.Routines.{text-keeps}
use Rattle.stmt_laws.specs.Written.{items_written}
use Rattle.source_laws.proofs.Texts.{behind-around, text-around, texts-sound}
use Rattle.frame_texts.specs.Frames as frames
use Rattle.typing_fits.specs.Sound.{Extends}
use Rattle.typing_parts.specs.declared.known.Known.{Known}
use Rattle.typing_parts.specs.Typists.{CalledTo, IsReady, MakesKnown}
use Rattle.typing_stmts.specs.Routines.{routine_of}
use Rattle.typing_steps.specs.Steps.{TypesTo}
use Rattle.typing_walks.specs.Keeps.{Kept, Surrounded}
use Rattle.typing_stmts.specs.Around.{IsPlaced, SoundAround, around, text_behind, with_depth}

-- a function that is typed is sound
kept-sound : (x : Typing Function) (fs gs : List Function) (made : Function) → Kept Function AllSoundFunctions SoundFunction fs (x fs) → TypesTo (Ok made) (x fs) gs → SoundFunction made gs
kept-sound x fs gs made k e =
    let there : Kept Function AllSoundFunctions SoundFunction fs (record { result = Ok made; functions = gs }) = subst (λ (t : Typed Function). Kept Function AllSoundFunctions SoundFunction fs t) e k in
    there.sound made refl

-- a function's text where it is typed
text-is : (k : Context) (n : ℕ) (x : RoutineText) → routine_of (outside k n) (k.home n) x ≡ by_text k n x
text-is k n (OfFunction f) = refl
text-is k n (OfTask t) = refl

module _ (tree : SourceTree) (t : Table) (f : Frame) (at : ℕ) (a : SoundAround tree f) where
  -- the frame's text
  pub around-frame : Surrounded AllSoundFunctions (frames.context tree t f at)
  around-frame = (text-around a.tokens tree t f at a.reads a.frame).around

  -- the text of a function
  pub around-text : (depth n : ℕ) → Surrounded AllSoundFunctions (text_behind tree t f at depth n)
  around-text depth n = behind-around a.tokens tree t f at depth n a.reads a.frame

  around-depth : (depth n : ℕ) → Surrounded AllSoundFunctions (with_depth tree t f at depth)
  around-depth depth n =
      let r = around-text depth n in
      record { context = record { values = r.context.values; types = r.context.types; signals = r.context.signals; locals = tt }; routines = r.routines }

  text-sound : (n : ℕ) (x : RoutineText) → (around tree t f at).text n ≡ Some x → SoundText (around tree t f at) x
  text-sound n x is = (texts-sound a.tokens tree t f at a.reads).texts n x is

  pub written-head : (n : ℕ) (x : RoutineText) → (around tree t f at).text n ≡ Some x → head_written x ≡ true
  written-head n x is = (text-sound n x is).head

  pub written-items : (n : ℕ) (x : RoutineText) → (around tree t f at).text n ≡ Some x → items_written (items_of x) ≡ true
  written-items n x is = (text-sound n x is).items.written

  there-sound : (depth n : ℕ) (x : RoutineText) → (around tree t f at).text n ≡ Some x → SoundText (with_depth tree t f at depth) x
  there-sound depth n x is =
      let s = text-sound n x is in
      record { head = s.head; items = record { written = s.items.written; locals = s.items.locals } }

  -- it is sound behind those that are known
  pub one-sound : (depth n : ℕ) (x : RoutineText) (fs gs : List Function) (made : Function) → (around tree t f at).text n ≡ Some x → AllSoundFunctions fs → TypesTo (Ok made) (by_text (with_depth tree t f at depth) n x fs) gs → AllSoundFunctions gs
      → AllSoundFunctions (gs ++ made ∷ [])
  one-sound depth n x fs gs made is q p after =
      let k = with_depth tree t f at depth in
      one-more gs made after (kept-sound (by_text k n x) fs gs made (text-keeps AllSoundFunctions k n x (around-depth depth n) (there-sound depth n x is) fs q) p)

-- what is typed in such a text
pub typed-there : (tree : SourceTree) (t : Table) (f : Frame) (at depth n : ℕ) (x : RoutineText) (inside : ℕ) (under : List ℕ) (j : Context) (r : Result Function Halt) (fs gs : List Function) → IsPlaced tree t f n x inside under
    → j ≡ text_behind tree t f at depth n
    → ((h : Home) → h.instance ≡ inside → function_path h (word j.source (name_of x)) ≡ under → TypesTo r (routine_of j h x fs) gs) → TypesTo r (by_text (with_depth tree t f at depth) n x fs) gs
typed-there tree t f at depth n x inside under j r fs gs p e v =
    let typed = subst (λ (z : Context). (h : Home) → h.instance ≡ inside → function_path h (word z.source (name_of x)) ≡ under → TypesTo r (routine_of z h x fs) gs) e v in
    subst (λ (y : Typing Function). TypesTo r (y fs) gs) (text-is (with_depth tree t f at depth) n x) (typed (home_in tree t f n) p.instance p.path)

-- what calls make known
pub knows : (S : Type 0) (callable : Type 0) (held : S → Known) (post : ℕ → S → Result ℕ Halt → S → Type 0) (j k : Context) (depth : ℕ) → j.routine ≡ routine depth k → callable
    → ((n : ℕ) (s : S) (r : Result ℕ Halt) (u : S) → post n s r u → CalledTo r (routine depth k n (held s).functions) (held u).functions)
    → ((n : ℕ) (s : S) (r : Result ℕ Halt) (u : S) → post n s r u → IsReady (held u))
    → ((n : ℕ) (s : S) (r : Result ℕ Halt) (u : S) → post n s r u → Extends (held s).functions (held u).functions) → MakesKnown S callable held post j
knows S callable held post j k depth e always gives ready keeps = record {
  always = always;
  gives = λ n s r u is done. subst (λ (x : ℕ → Typing Called). CalledTo r (x n (held s).functions) (held u).functions) (sym e) (gives n s r u done);
  ready = λ n s r u is done. ready n s r u done;
  keeps = λ n s r u is done. keeps n s r u done;
}

-- functions in the frame's text
pub at-full-depth : (tree : SourceTree) (t : Table) (f : Frame) (at depth : ℕ) (j : Context) → j ≡ frames.context tree t f at → depth ≡ length t.declared → j.routine ≡ routine depth (around tree t f at)
at-full-depth tree t f at depth j e d = ap (λ (z : Context). z.routine) e ∙ ap (λ (m : ℕ). routine m (around tree t f at)) (sym d)
