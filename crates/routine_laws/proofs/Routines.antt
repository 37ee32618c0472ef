-- Functions and tasks of a sound text are sound where they are first needed.
use Rattle.std.proofs.Common.{◌≡◌, ℕ, zero, suc, ◌+◌, Bool, true, false, ◌&&◌, cond, List, [], ◌∷◌, ◌++◌, length, map, Option, Some, None, refl, arith, ap, sym, ◌∙◌, subst}
use Rattle.std.specs.Prelude.{slice_get, Ok}
use Rattle.sv_tree.specs.declared.functions.Formal as G
use Rattle.sv_tree.specs.declared.statements.BlockItem.{BlockItem}
use Rattle.sv_types.specs.declared.statement.Function.{Function}
use Rattle.sv_types.specs.declared.statement.FunctionKind.TheVariants as K
use Rattle.sv_types.specs.declared.statement.Stmt.{Stmt}
use Rattle.expr_type.specs.Breaks.{Quiet}
use Rattle.expr_type.specs.Typings.{Checked, Typing, whole, broken, checked}
use Rattle.expr_type.specs.Shapes.{one_bit}
use Rattle.expr_type.specs.Names.{Called, Context, Home, RoutineText, OfFunction, OfTask, word}
use Rattle.expr_type.specs.Statements.{block, item_meaning}
use Rattle.expr_type.specs.Functions.{formals_of, ResultFound, function_result, Head, head, behind_head, behind_formals, function_path, function_of, typed_routine, outside, by_text, is_it, known_from, name_of, appended, known_or, routine_text, routine}
use Rattle.typing_fits.specs.Operands.{KnownCall, SoundContext}
use Rattle.typing_fits.proofs.Full.{and-left, and-right}
use Rattle.typing_fits.proofs.Given.{extends-more}
use Rattle.typing_walks.specs.Keeps.{Kept, Keeps, Lasts, Surrounded}
use Rattle.typing_walks.specs.WrittenTypes.{dims_written}
use Rattle.typing_walks.proofs.Keeping as Y
use Rattle.typing_walks.proofs.Knowing as N
use Rattle.typing_walks.proofs.Knowing.{IfKnown}
use Rattle.routine_fits.specs.Sound.{SoundFunction, EachSound, AllSoundFunctions}
use Rattle.routine_fits.proofs.Functions.{function-sound, one-more}
use Rattle.stmt_laws.specs.Sound.{NarrowResult, AroundStatements}
use Rattle.stmt_laws.proofs.Parts.{stmt-lasts}
use Rattle.stmt_laws.proofs.Walk as S
use Rattle.routine_laws.specs.Names.{Signals, signals_of, items_local}
use Rattle.routine_laws.specs.Texts.{formals_written, result_written, SoundItems, SoundText, AllSoundTexts}
use Rattle.routine_laws.specs.Sound.{SoundBody, SoundResult, SoundHead}
use Rattle.routine_laws.proofs.Giving.{one-whole}
use Rattle.routine_laws.proofs.Held.{writes-last}
use Rattle.routine_laws.proofs.Heads as H
use Rattle.routine_laws.proofs.Heads.{formals-last, result-lasts, formals-full, formals-narrow}
use Rattle.routine_laws.proofs.LocalWalk.{block-writes}

-- where more functions are known
pub body-lasts : Lasts SoundBody
body-lasts s gs hs e x = record { sound = stmt-lasts s gs hs e x.sound; locals = writes-last s gs hs e x.locals }

pub head-lasts : Lasts SoundHead
head-lasts h gs hs e s = record { result = result-lasts h.result gs hs e s.result; formals = formals-last h.formals gs hs e s.formals }

-- a function by its head and its body
pub made-sound : (k : Context) (h : Home) (name : ℕ) (x : Head) (body : Stmt) (gs : List Function) → SoundHead x gs → SoundBody body gs → SoundFunction (function_of k h name x body) gs
made-sound k h name x body gs s b =
    let f : Function = function_of k h name x body in
    function-sound f gs (formals-narrow x.formals gs s.formals) (formals-full x.formals gs s.formals) s.result.of b.sound (record { locals = b.locals.held })

-- a text behind a head has the signals of the text before it
abbrev pub Sees : Signals → Context → Type 0
Sees s k = (signals_of k ≡ s)

sees-formals : (s : Signals) (k : Context) (fs : List _) → Sees s k → Sees s (behind_formals k fs)
sees-formals s k [] h = h
sees-formals s k (f ∷ fs) h = sees-formals s _ fs h

sees-head : (s : Signals) (k : Context) (name : ℕ) (h : Head) → Sees s k → Sees s (behind_head k name (Some h))
sees-head s k name h e = sees-formals s _ h.formals e

items-there : (k j : Context) (items : List BlockItem) → Sees (signals_of k) j → SoundItems k items → SoundItems j items
items-there k j items e s = record { written = s.written; locals = ap (λ n. items_local n items) e ∙ s.locals }

module _ (Q : List Function → Type 0) where
  pub body-keeps : (k : Context) (items : List BlockItem) → AroundStatements Q k → SoundItems k items → Keeps Q SoundBody (block k (map item_meaning items))
  body-keeps k items r s gs q =
      let a = S.block-sound Q k items r s.written gs q in
      let b = block-writes Q k items r s.written s.locals gs q in
      record { extends = a.extends; kept = a.kept; sound = λ x h. record { sound = a.sound x h; locals = b.sound x h } }

  body-behind : (k : Context) (name : ℕ) (items : List BlockItem) (o : Option Head) (gs : List Function) → Surrounded Q k → SoundItems k items → k.result ≡ None → Q gs → IfKnown SoundHead o gs
      → Kept Stmt Q SoundBody gs (block (behind_head k name o) (map item_meaning items) gs)
  body-behind k name items None gs r s none q x = body-keeps k items (record { around = r; result = subst NarrowResult (sym none) tt }) s gs q
  body-behind k name items (Some h) gs r s none q x =
      body-keeps (behind_head k name (Some h)) items (H.behind-sound Q k name h gs r x) (items-there k (behind_head k name (Some h)) items (sees-head (signals_of k) k name h refl) s) gs q

  pub typed-keeps : (k : Context) (h : Home) (name : ℕ) (x : Typing ResultFound) (gs : List G.Formal) (items : List BlockItem) → Surrounded Q k → k.result ≡ None → formals_written gs ≡ true → SoundItems k items → Keeps Q SoundResult x
      → Keeps Q SoundFunction (typed_routine k h name x gs items)
  typed-keeps k h name x gs items r none w s y =
      N.by-keeps Q SoundHead SoundBody SoundFunction (head k name x gs) (λ o. block (behind_head k name o) (map item_meaning items)) (λ z body. whole (function_of k h name z body)) head-lasts (H.head-keeps Q k name x gs r w y)
      (λ o hs q z. body-behind k name items o hs r s none q z) (λ z body js q a b. Y.whole-kept Q SoundFunction (function_of k h name z body) js q (made-sound k h name z body js a b))

  -- a text stands outside the locals of who calls it
  outside-sound : (k : Context) (n : ℕ) → Surrounded Q k → Surrounded Q (outside k n)
  outside-sound k n r = record { context = record { values = r.context.values; types = r.context.types; signals = r.context.signals; locals = tt }; routines = r.routines }

  outside-items : (k : Context) (n : ℕ) (items : List BlockItem) → SoundItems k items → SoundItems (outside k n) items
  outside-items k n items s = record { written = s.written; locals = s.locals }

  pub text-keeps : (k : Context) (n : ℕ) (t : RoutineText) → Surrounded Q k → SoundText k t → Keeps Q SoundFunction (by_text k n t)
  text-keeps k n (OfFunction f) r s =
      let j = outside k n in
      let around = outside-sound k n r in
      let front = and-left (result_written f.of && dims_written f.unpacked) (formals_written (formals_of f.formals)) s.head in
      typed-keeps j (k.home n) f.name (function_result j f.name f.unpacked f.of) (formals_of f.formals) f.items around refl (and-right (result_written f.of && dims_written f.unpacked) (formals_written (formals_of f.formals)) s.head)
      (outside-items k n f.items s.items) (H.result-keeps Q j f.name f.unpacked f.of around (and-left (result_written f.of) (dims_written f.unpacked) front) (and-right (result_written f.of) (dims_written f.unpacked) front))
  text-keeps k n (OfTask t) r s =
      let j = outside k n in
      typed-keeps j (k.home n) t.name (whole (record { kind = K.Routine; of = one_bit; names = [] })) (formals_of t.formals) t.items (outside-sound k n r) refl s.head (outside-items k n t.items s.items) (H.no-result Q K.Routine)

-- functions that are known
abbrev AtPlaces : ℕ → List Function → List Function → Type 0
AtPlaces n fs gs = (i : ℕ) (f : Function) → slice_get fs i ≡ Some f → slice_get gs (n + i) ≡ Some f

one-further : (n : ℕ) (f : Function) (fs gs : List Function) → AtPlaces n (f ∷ fs) gs → AtPlaces (suc n) fs gs
one-further n f fs gs there i x is = subst (λ m. slice_get gs m ≡ Some x) (omega arith) (there (suc i) x is)

at-itself : (gs : List Function) → AtPlaces 0 gs gs
at-itself gs i f is = subst (λ m. slice_get gs m ≡ Some f) (omega arith) is

abbrev some_call : Called → Option Called
some_call c = Some c

this-one : (n : ℕ) (f : Function) (fs gs : List Function) (c : Called) → some_call (record { place = n; of = f }) ≡ Some c → AtPlaces n (f ∷ fs) gs → SoundFunction f gs → KnownCall c gs
this-one n f fs gs c h there s =
    let is : record { place = n; of = f } ≡ c = cc in
    subst (λ (x : Called). KnownCall x gs) is (record { known = subst (λ m. slice_get gs m ≡ Some f) (omega arith) (there 0 f refl); result = s.result; formals = s.formals })

-- a part of a choice
chosen-call : (b : Bool) (o : Option Called) (d c : Called) (gs : List Function) → cond b (Some d) o ≡ Some c → (some_call d ≡ Some c → KnownCall c gs) → (o ≡ Some c → KnownCall c gs) → KnownCall c gs
chosen-call true o d c gs h this rest = this h
chosen-call false o d c gs h this rest = rest h

each-known : (fs gs : List Function) (n instance at : ℕ) (path : List ℕ) (c : Called) → known_from n instance at path fs ≡ Some c → EachSound fs gs → AtPlaces n fs gs → KnownCall c gs
each-known [] gs n instance at path c h s there = absurd (cc)
each-known (f ∷ fs) gs n instance at path c h s there =
    chosen-call (is_it instance at path f) (known_from (suc n) instance at path fs) (record { place = n; of = f }) c gs h (λ is. this-one n f fs gs c is there s.0)
    (λ is. each-known fs gs (suc n) instance at path c is s.1 (one-further n f fs gs there))

pub known-sound : (instance at : ℕ) (path : List ℕ) (gs : List Function) (c : Called) → known_from 0 instance at path gs ≡ Some c → AllSoundFunctions gs → KnownCall c gs
known-sound instance at path gs c h s = each-known gs gs 0 instance at path c h s (at-itself gs)

-- and one more
last-there : (gs : List Function) (f : Function) → slice_get (gs ++ f ∷ []) (length gs) ≡ Some f
last-there [] f = refl
last-there (g ∷ gs) f = last-there gs f

abbrev call_ok : Called → Checked Called
call_ok c = Ok c

appended-kept : (f : Function) (gs : List Function) → AllSoundFunctions gs → SoundFunction f gs → Kept Called AllSoundFunctions KnownCall gs (appended f gs)
appended-kept f gs q s =
    let hs = gs ++ f ∷ [] in
    let c : Called = record { place = length gs; of = f } in
    record {
      extends = extends-more gs (f ∷ []);
      kept = one-more gs f q s;
      sound = λ d h. one-whole (λ (x : Called). KnownCall x hs) c d h (record { known = last-there gs f; result = s.result; formals = s.formals });
    }

or-kept : (o : Option Called) (x : Typing Called) (gs : List Function) → AllSoundFunctions gs → ((c : Called) → o ≡ Some c → KnownCall c gs) → Kept Called AllSoundFunctions KnownCall gs (x gs) → Kept Called AllSoundFunctions KnownCall gs (known_or o x gs)
or-kept None x gs q known k = k
or-kept (Some c) x gs q known k = Y.whole-kept AllSoundFunctions KnownCall c gs q (known c refl)

text-known : (o : Option RoutineText) (k : Context) (n : ℕ) → Surrounded AllSoundFunctions k → ((t : RoutineText) → o ≡ Some t → SoundText k t) → Keeps AllSoundFunctions KnownCall (routine_text o k n)
text-known None k n r s = Y.broken-keeps AllSoundFunctions KnownCall Quiet
text-known (Some t) k n r s = λ gs q.
    let h = k.home n in
    let path = function_path h (word k.source (name_of t)) in
    or-kept (known_from 0 h.instance (name_of t) path gs) (checked (by_text k n t) appended) gs q (λ c is. known-sound h.instance (name_of t) path gs c is q)
    (Y.checked-keeps AllSoundFunctions SoundFunction KnownCall (by_text k n t) appended (text-keeps AllSoundFunctions k n t r (s t refl)) (λ f js p x. appended-kept f js p x) gs q)

-- functions whose calls go so deep
abbrev with_depth : Context → ℕ → Context
with_depth k depth = record k { routine = routine depth k }

no-depth : (k : Context) (n : ℕ) → routine 0 k n ≡ broken Quiet
unfolding routine
no-depth k n = refl

one-deeper : (depth : ℕ) (k : Context) (n : ℕ) → routine (suc depth) k n ≡ routine_text (k.text n) (with_depth k depth) n
unfolding routine
one-deeper depth k n = refl

around-text : (k : Context) (depth : ℕ) (t : RoutineText) → SoundText k t → SoundText (with_depth k depth) t
around-text k depth t s = record { head = s.head; items = record { written = s.items.written; locals = s.items.locals } }

surrounded-by : (k : Context) (depth : ℕ) → SoundContext k → ((n : ℕ) → Keeps AllSoundFunctions KnownCall (routine depth k n)) → Surrounded AllSoundFunctions (with_depth k depth)
surrounded-by k depth s h = record { context = record { values = s.values; types = s.types; signals = s.signals; locals = s.locals }; routines = h }

pub routine-keeps : (depth : ℕ) (k : Context) (n : ℕ) → SoundContext k → AllSoundTexts k → Keeps AllSoundFunctions KnownCall (routine depth k n)
routine-keeps zero k n s t = subst (λ x. Keeps AllSoundFunctions KnownCall x) (sym (no-depth k n)) (Y.broken-keeps AllSoundFunctions KnownCall Quiet)
routine-keeps (suc depth) k n s t =
    subst (λ x. Keeps AllSoundFunctions KnownCall x) (sym (one-deeper depth k n))
    (text-known (k.text n) (with_depth k depth) n (surrounded-by k depth s (λ m. routine-keeps depth k m s t)) (λ x is. around-text k depth x (t.texts n x is)))

pub surrounded : (depth : ℕ) (k : Context) → SoundContext k → AllSoundTexts k → Surrounded AllSoundFunctions (record k { routine = routine depth k })
surrounded depth k s t = surrounded-by k depth s (λ n. routine-keeps depth k n s t)
