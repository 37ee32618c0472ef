-- What a lowered expression promises (IEEE 1800-2017 clause 11.6, IEEE 1364-2005 clause 5.4).
use Rattle.std.specs.Prelude.{◌≡◌, ℕ, ◌+◌, ◌*◌, ◌<◌, Bool, true, false, ℤ, pos, ◌-ℤ◌, List, [], ◌∷◌, length, Some, None}
use Rattle.row_machine.specs.Valuation.{Valuation}
use Rattle.sv_types.specs.declared.expression.Expr.{Expr}
use Rattle.sv_types.specs.declared.statement.Function.{Function}
use Rattle.sv_types.specs.declared.expression.Form.{out-Form}
use Rattle.sv_types.specs.Layouts.{Layout, layout, count_of}
use Rattle.sv_types.specs.Windows.{rank}
use Rattle.sv_types.specs.Surroundings.{Around, Parameter, local_number}
use Rattle.sv_types.specs.Meanings as S
use Rattle.sv_types.specs.Expressions.{meaning}
use Rattle.v_tree.specs.Names.{Name}
use Rattle.v_tree.specs.declared.names.Helper.{Helper}
use Rattle.v_tree.specs.declared.names.NameMap.{NameMap}
use Rattle.v_meaning.specs.Scopes.{Scope, named}
use Rattle.v_meaning.specs.Values as T
use Rattle.eval_forms.specs.Callees.{formals_in}
use Rattle.eval_parts.specs.Limits.{Fits}
use Rattle.eval_parts.specs.Steps.{is_path}
use Rattle.eval_forms.specs.Asked.{Asked, width_asked, sign_asked, form_asked}
use Rattle.lowering_laws.specs.Agreeing.{Images, IsInOrder, Stands}
use Rattle.lowering_laws.specs.Held.{marked}
use Rattle.lowering_laws.specs.NamedImages.{SameNames}
use Rattle.lowering_laws.specs.Same.{Same}
use Rattle.lowering_laws.specs.Words.{lower}
use Rattle.path_flatten.specs.Helping.{EachHelps}
use Rattle.form_lower.specs.Places.{StandsForCallee}
use Rattle.expr_lower.specs.Leaves.{Leaf, Signals, Elements, Inside, Locals, Calls, Valued, Joined, Unlowered, leaves, Each}
use Rattle.name_maps.specs.Named.{signal_name, is_memory, local_name, function_name, OneSignal, OneLocal, OneFunction}

-- A name stands for the image of a signal or local of a type: it is a vector with the type's bits, and the images are told so.
pub record IsShown (name : Name) (im : Images) (sc : Scope) (n : ℕ) (of : Layout) : Type 0 where
  pub number : (named sc.names name).number ≡ im.number n
  pub vector : (named sc.names name).words ≡ None
  pub width : (named sc.names name).width ≡ length of.two_state
  pub in_order : IsInOrder im n
  pub image : im.width n ≡ length of.two_state
  pub marks : (j : ℕ) → im.two_state n j ≡ marked of.two_state j

-- A name stands for the image of a signal that is an array of a type: it is a memory with a word for each element, the images are
-- told so, and the element with an index stands in the word that is as far from the first one as the index is from the smaller
-- bound (IEEE 1364-2005 clause 4.9).
pub record IsShownInWords (name : Name) (im : Images) (sc : Scope) (n : ℕ) (of : Layout) : Type 0 where
  pub number : (named sc.names name).number ≡ im.number n
  pub words : (named sc.names name).words ≡ Some (count_of of.left of.right)
  pub width : (named sc.names name).width ≡ length of.element.two_state
  pub image : im.width n ≡ length of.two_state
  pub marks : (j : ℕ) → im.two_state n j ≡ marked of.two_state j
  pub in_words : (x q j : ℕ) (k : ℤ) → k -ℤ lower of ≡ pos x → x < count_of of.left of.right → rank of k ≡ pos q → j < length of.element.two_state
      → im.place n (q * length of.element.two_state + j) ≡ x * length of.element.two_state + j

-- a signal whose elements are read is a memory or not, as the names tell
abbrev pub ShowsElements : Bool → Name → Images → Scope → ℕ → Layout → Type 0
ShowsElements true name im sc n of = IsShownInWords name im sc n of
ShowsElements false name im sc n of = IsShown name im sc n of

-- A name stands for a function with these formals, which are so many, and whose result has the type's bits.
pub record IsCalled (name : Name) (formals : List Parameter) (a : Around) (sc : Scope) (f : ℕ) (of : Layout) (n : ℕ) : Type 0 where
  pub formals_are : (a.callee f).formals ≡ formals
  pub count : n ≡ length formals
  pub stands : StandsForCallee formals (a.callee f) (length of.two_state) (sc.callee name)

-- the map says one thing of a leaf of the expression (its name, and whether it is a memory), and the text has what the leaf needs
abbrev pub LeafStands : NameMap → List Function → Images → Around → Scope → Leaf → Type 0
LeafStands names fs im a sc (Signals n of) = OneSignal names.signals n × IsShown (signal_name names.signals n) im sc n of
LeafStands names fs im a sc (Elements n of) = OneSignal names.signals n × ShowsElements (is_memory names.signals n) (signal_name names.signals n) im sc n of
LeafStands names fs im a sc (Inside n of) = OneSignal names.signals n × IsShown (signal_name names.signals n) im sc n of
LeafStands names fs im a sc (Locals n of) = OneLocal names.locals n × IsShown (local_name names.locals n) im sc (local_number n) of
LeafStands names fs im a sc (Calls f of n) = OneFunction names.functions f × IsCalled (function_name names.functions f) (formals_in fs f) a sc f of n
LeafStands names fs im a sc Valued = Unit {0}
LeafStands names fs im a sc Joined = Unit {0}
LeafStands names fs im a sc Unlowered = ⊥

-- A target expression stands for an expression on all valuations that agree, and names the images of what that names, all of
-- them and no other.
pub record Stood (im : Images) (a : Around) (sc : Scope) (e : S.Meaning) (w : ℕ) (s : Bool) (m : T.Meaning) : Type 0 where
  pub stands : Stands im a sc e w s m
  pub names : SameNames im.number e m sc

-- so it is for an expression at a width and a sign, wherever the text has what the leaves need and these helpers
abbrev pub Lowers : NameMap → List Function → List Helper → Expr → ℕ → Bool → T.Meaning → Type 0
Lowers names fs hs e w s m = (im : Images) (a : Around) (sc : Scope) → Each (LeafStands names fs im a sc) (leaves e) → EachHelps hs sc → Stood im a sc (meaning e) w s m

-- what is asked, one by one
abbrev pub LowersEach : NameMap → List Function → List Helper → List Asked → List T.Meaning → Type 0
LowersEach names fs hs [] [] = Unit {0}
LowersEach names fs hs [] (m ∷ ms) = ⊥
LowersEach names fs hs (q ∷ qs) [] = ⊥
LowersEach names fs hs (q ∷ qs) (m ∷ ms) = Lowers names fs hs q.of (width_asked q.ask (meaning q.of)) (sign_asked q.ask (meaning q.of)) m × LowersEach names fs hs qs ms

-- the same for one valuation
abbrev pub SameEach : List Asked → Around → List T.Meaning → Scope → Valuation → Type 0
SameEach [] a [] sc v = Unit {0}
SameEach [] a (m ∷ ms) sc v = ⊥
SameEach (q ∷ qs) a [] sc v = ⊥
SameEach (q ∷ qs) a (m ∷ ms) sc v = Same (meaning q.of) (width_asked q.ask (meaning q.of)) (sign_asked q.ask (meaning q.of)) a m sc v × SameEach qs a ms sc v

-- the names of what is asked
abbrev pub NamesEach : (ℕ → ℕ) → List Asked → List T.Meaning → Scope → Type 0
NamesEach image [] [] sc = Unit {0}
NamesEach image [] (m ∷ ms) sc = ⊥
NamesEach image (q ∷ qs) [] sc = ⊥
NamesEach image (q ∷ qs) (m ∷ ms) sc = SameNames image (meaning q.of) m sc × NamesEach image qs ms sc

-- A target expression that is made of the target expressions of what an expression asks stands for the expression, if this is no
-- select path.
abbrev pub Combines : NameMap → List Function → List Helper → Expr → ℕ → Bool → List T.Meaning → T.Meaning → Type 0
Combines names fs hs e w s parts m = is_path (out-Form e.form) ≡ false → Fits (meaning e) (formals_in fs) w
    → LowersEach names fs hs (form_asked (layout e.of) (formals_in fs) w s (out-Form e.form)) parts → Lowers names fs hs e w s m

-- whatever the names, functions and helpers are
abbrev pub CombinesAll : Expr → ℕ → Bool → List T.Meaning → T.Meaning → Type 0
CombinesAll e w s parts m = (names : NameMap) (fs : List Function) (hs : List Helper) → Combines names fs hs e w s parts m

-- in each context, whatever the names and functions are
abbrev pub CombinesAnywhere : List Helper → Expr → List T.Meaning → T.Meaning → Type 0
CombinesAnywhere hs e parts m = (names : NameMap) (fs : List Function) (w : ℕ) (s : Bool) → Combines names fs hs e w s parts m

-- in one context
abbrev pub CombinesIn : List Helper → Expr → ℕ → Bool → List T.Meaning → T.Meaning → Type 0
CombinesIn hs e w s parts m = (names : NameMap) (fs : List Function) → Combines names fs hs e w s parts m

-- there are as many parts as the expression asks for
abbrev pub AreParts : Expr → ℕ → Bool → ℕ → Type 0
AreParts e w s n = (fs : ℕ → List Parameter) × (n ≡ length (form_asked (layout e.of) fs w s (out-Form e.form)))
