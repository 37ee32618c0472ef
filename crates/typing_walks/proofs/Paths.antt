-- Names with the selects behind them, as values and as targets.
use Rattle.std.proofs.Common.{◌≡◌, ℕ, Bool, true, false, ◌&&◌, ◌==◌, cond, not, List, [], ◌∷◌, Option, Some, None, refl, ap, sym, ◌∙◌, subst}
use Rattle.std.specs.Prelude.{pos, ◌-ℤ◌, unsigned_abs, Ok}
use Rattle.std.specs.Str.{bytes_eq}
use Rattle.sv_tree.specs.Extents.{qualified_first}
use Rattle.sv_tree.specs.declared.names.QualifiedName.{QualifiedName}
use Rattle.sv_types.specs.declared.expression.Form.TheVariants as F
use Rattle.sv_types.specs.declared.frame.SignalId.{SignalId}
use Rattle.sv_types.specs.declared.statement.Function.{Function}
use Rattle.sv_types.specs.declared.types.SvType.{SvType}
use Rattle.sv_types.specs.Layouts.{width_of}
use Rattle.expr_type.specs.Breaks.{At, Quiet}
use Rattle.expr_type.specs.declared.operand.Valued.{Valued}
use Rattle.expr_type.specs.declared.step.Step.{Step}
use Rattle.expr_type.specs.declared.step.Step.TheVariants as T
use Rattle.expr_type.specs.Typings.{Checked, Typing, whole, broken, rule, both, refused}
use Rattle.expr_type.specs.Names.{Context, Source, Thing, Signal, Local, Constant, TypeName, Interface, Other, Nothing, position, word, thing, member_in}
use Rattle.expr_type.specs.Shapes.{element_of, members_of, is_indexed, is_unpacked}
use Rattle.expr_type.specs.Operators.{by_itself, not_too_long}
use Rattle.expr_type.specs.Selects as S
use Rattle.expr_type.specs.Selects.{Place, part_type, goes_wrong, stepped, path}
use Rattle.expr_type.specs.Forms.{SelectMeaning, member_signal, steps, signal_or, of_interface, by_thing, named}
use Rattle.expr_type.specs.TargetNames as N
use Rattle.typing_fits.specs.Sound.{IsNarrowType}
use Rattle.typing_fits.specs.Operands.{SoundFixed, AllSignalsSound, SoundThing}
use Rattle.typing_fits.specs.Selects.{SoundStep}
use Rattle.typing_fits.specs.Types.{is_full}
use Rattle.typing_fits.proofs.Members.{narrow-if-whole, whole-if-narrow}
use Rattle.typing_fits.proofs.Contexts.{refused-then}
use Rattle.typing_fits.proofs.Operators.{ok-is}
use Rattle.typing_fits.proofs.Selects.{signal-sound, local-sound, stepped-sound, long-then}
use Rattle.typing_fits.proofs.Numbers.{constant-value}
use Rattle.typing_fits.proofs.Names.{thing-sound}
use Rattle.typing_walks.specs.Keeps.{Keeps, AllKeep, Surrounded, SoundSelect}
use Rattle.typing_walks.proofs.Keeping as K
use Rattle.typing_walks.proofs.Lasting.{fixed-lasts}

abbrev valued_ok : Valued → Checked Valued
valued_ok v = Ok v

-- what a select gives has no operators
no-operators : (a u : Valued) → valued_ok a ≡ Ok u → a.arithmetic ≡ [] → u.arithmetic ≡ []
no-operators a u h none = ap (λ (v : Valued). v.arithmetic) (sym (ok-is a u h)) ∙ none

member-none : (k : Source) (at : ℕ) (v u : Valued) (o : Option Place) → S.member_or k at v o ≡ Ok u → u.arithmetic ≡ []
member-none k at v u None h = absurd (cc)
member-none k at v u (Some m) h =
    let a = by_itself k v.first m.of (F.Member v.expr m.number) in
    no-operators a u (long-then k at (width_of m.of) (Ok a) u h) refl

stepped-none : (k : Source) (v u : Valued) (t : Step) → stepped k v t ≡ Ok u → u.arithmetic ≡ []
stepped-none k v u (T.Member name) h = member-none k name v u (S.named 0 (members_of v.expr.of) (word k name)) h
stepped-none k v u (T.Index opening i) h =
    let of = element_of v.expr.of in
    let a = by_itself k v.first of (F.Index v.expr i.expr) in
    no-operators a u (long-then k opening (width_of of) (Ok a) u (refused-then (not (is_indexed v.expr.of)) (position k opening) 508 (not_too_long k opening (width_of of) (Ok a)) u h)) refl
stepped-none k v u (T.Part opening left right) h =
    let of = part_type v.expr.of left.number right.number in
    let a = by_itself k v.first of (F.Part v.expr left.number right.number) in
    let inner = not_too_long k opening (width_of of) (Ok a) in
    let wrong = goes_wrong v.expr.of left.number right.number in
    no-operators a u
    (long-then k opening (width_of of) (Ok a) u
    (refused-then wrong (position k left.first) 411 inner u (refused-then (is_unpacked v.expr.of) (position k opening) 508 (refused wrong (position k left.first) 411 inner) u h)))
    refl
stepped-none k v u (T.Slide opening up i n) h =
    let of = part_type v.expr.of (n.number -ℤ pos 1) (pos 0) in
    let a = by_itself k v.first of (F.Slide v.expr i.expr (unsigned_abs n.number) up) in
    no-operators a u
    (long-then k opening (width_of of) (Ok a) u (refused-then (is_unpacked v.expr.of) (position k opening) 508 (not_too_long k opening (width_of of) (Ok a)) u h)) refl

pub stepped-fixed : (k : Source) (v u : Valued) (t : Step) (gs : List Function) → stepped k v t ≡ Ok u → SoundFixed v gs → SoundStep t gs → SoundFixed u gs
stepped-fixed k v u t gs h s x = record { none = stepped-none k v u t h; sound = stepped-sound k v u t gs h s.sound x }

-- members of interfaces, where they are whole
abbrev SignalIf : Option SignalId → Type 0
SignalIf None = Unit {0}
SignalIf (Some s) = is_full s.of ≡ true

signal-by : (b : Bool) (x : SignalId) (o : Option SignalId) → is_full x.of ≡ true → SignalIf o → SignalIf (cond b (Some x) o)
signal-by true x o s r = s
signal-by false x o s r = r

member-found : (n : ℕ) (name : List ℕ) (ss : List SignalId) → AllSignalsSound ss → SignalIf (member_in n name ss)
member-found n name [] s = tt
member-found n name (x ∷ ss) s = signal-by ((x.decl == n) && bytes_eq x.member name) x (member_in n name ss) s.0.full (member-found n name ss s.1)

fixed-signal : (k : Source) (first : ℕ) (t : SvType) (n : ℕ) (gs : List Function) → IsNarrowType t → SoundFixed (by_itself k first t (F.Signal n)) gs
fixed-signal k first t n gs h = record { none = refl; sound = signal-sound k first t n gs h }

as-fixed : (a v : Valued) (gs : List Function) → valued_ok a ≡ Ok v → SoundFixed a gs → SoundFixed v gs
as-fixed a v gs h s = subst (λ x. SoundFixed x gs) (ok-is a v h) s

member-signal : (k : Source) (first : ℕ) (x : SignalId) (v : Valued) (gs : List Function) → member_signal k first x ≡ Ok v → is_full x.of ≡ true → SoundFixed v gs
member-signal k first x v gs h full =
    let a = by_itself k first x.of (F.Signal x.signal) in
    as-fixed a v gs (whole-if-narrow x.of (valued_ok a) v h) (fixed-signal k first x.of x.signal gs (record { full = full; narrow = narrow-if-whole x.of (valued_ok a) v h }))

signal-or : (k : Source) (first at : ℕ) (o : Option SignalId) (v : Valued) (gs : List Function) → signal_or k first at o ≡ Ok v → SignalIf o → SoundFixed v gs
signal-or k first at None v gs h s = absurd (cc)
signal-or k first at (Some x) v gs h s = member-signal k first x v gs h s

member-target : (k : Context) (inside : Bool) (first n at : ℕ) (o : Option SignalId) (v : Valued) (gs : List Function) → N.member_target k inside first n at o ≡ Ok v → SignalIf o → SoundFixed v gs
member-target k inside first n at None v gs h s = absurd (cc)
member-target k inside first n at (Some x) v gs h s =
    let last = member_signal k.source first x in
    let rest = refused x.input (position k.source at) 410 last in
    member-signal k.source first x v gs (refused-then x.input (position k.source at) 410 last v (refused-then (inside && k.is_net_member n (word k.source at)) (position k.source at) 404 rest v h)) s

module _ (Q : List Function → Type 0) where
  abbrev pub SelectsSound : List SelectMeaning → Type 0
  SelectsSound [] = Unit {0}
  SelectsSound (s ∷ ss) = SoundSelect Q s × SelectsSound ss

  all-steps : (k : Context) (ss : List SelectMeaning) → Surrounded Q k → SelectsSound ss → AllKeep Q SoundStep (steps k ss)
  all-steps k [] r s = tt
  all-steps k (x ∷ ss) r s = (s.0.step k r, all-steps k ss r s.1)

  pub path-keeps : (k : Source) (x : Typing Valued) (ts : List (Typing Step)) → Keeps Q SoundFixed x → AllKeep Q SoundStep ts → Keeps Q SoundFixed (path k x ts)
  path-keeps k x [] h s = h
  path-keeps k x (t ∷ ts) h s =
      path-keeps k (both x t (λ v u. rule (stepped k v u))) ts
      (K.both-keeps Q SoundFixed SoundStep SoundFixed x t (λ v u. rule (stepped k v u)) fixed-lasts h s.0 (λ v u js q y z. K.rule-kept Q SoundFixed (stepped k v u) js q (λ w e. stepped-fixed k v w u js e y z))) s.1

  interface-by : (k : Context) (first n : ℕ) (ss : List (Typing Step)) (m : Option ℕ) → Surrounded Q k → AllKeep Q SoundStep ss
      → Keeps Q SoundFixed (elim m as (λ o. Typing Valued) [ None ↦ broken Quiet | Some at ↦ path k.source (rule (signal_or k.source first at (member_in n (word k.source at) k.signals))) ss ])
  interface-by k first n ss None r s = K.broken-keeps Q SoundFixed Quiet
  interface-by k first n ss (Some at) r s =
      let o = member_in n (word k.source at) k.signals in
      path-keeps k.source (rule (signal_or k.source first at o)) ss
      (K.rule-keeps Q SoundFixed (signal_or k.source first at o) (λ gs v e. signal-or k.source first at o v gs e (member-found n (word k.source at) k.signals r.context.signals))) s

  interface-keeps : (k : Context) (first n : ℕ) (ss : List SelectMeaning) → Surrounded Q k → SelectsSound ss → Keeps Q SoundFixed (of_interface k first n ss)
  interface-keeps k first n [] r s = K.broken-keeps Q SoundFixed Quiet
  interface-keeps k first n (x ∷ ss) r s = interface-by k first n (steps k ss) x.member r (all-steps k ss r s.1)

  thing-keeps : (k : Context) (first : ℕ) (ss : List SelectMeaning) (t : Thing) → Surrounded Q k → SelectsSound ss → SoundThing t → Keeps Q SoundFixed (by_thing k first ss t)
  thing-keeps k first ss (Signal n t) r s x =
      path-keeps k.source (whole (by_itself k.source first t (F.Signal n))) (steps k ss) (K.whole-keeps Q SoundFixed (by_itself k.source first t (F.Signal n)) (λ gs. fixed-signal k.source first t n gs x)) (all-steps k ss r s)
  thing-keeps k first ss (Local n t) r s x =
      path-keeps k.source (whole (by_itself k.source first t (F.Local n))) (steps k ss)
      (K.whole-keeps Q SoundFixed (by_itself k.source first t (F.Local n)) (λ gs. record { none = refl; sound = local-sound k.source first t n gs x })) (all-steps k ss r s)
  thing-keeps k first ss (Constant t v) r s x =
      path-keeps k.source (whole (by_itself k.source first t (F.Constant v))) (steps k ss)
      (K.whole-keeps Q SoundFixed (by_itself k.source first t (F.Constant v)) (λ gs. record { none = refl; sound = constant-value k.source first t v gs x })) (all-steps k ss r s)
  thing-keeps k first ss (TypeName t) r s x = K.broken-keeps Q SoundFixed Quiet
  thing-keeps k first ss (Interface n) r s x = interface-keeps k first n ss r s
  thing-keeps k first ss (Other n) r s x = K.broken-keeps Q SoundFixed Quiet
  thing-keeps k first ss Nothing r s x = K.broken-keeps Q SoundFixed Quiet

  pub named-keeps : (k : Context) (of : QualifiedName) (ss : List SelectMeaning) → Surrounded Q k → SelectsSound ss → Keeps Q SoundFixed (named k of ss)
  named-keeps k of ss r s = thing-keeps k (qualified_first of) ss (thing k of) r s (thing-sound k of r.context)

  -- targets
  target-by : (k : Context) (inside : Bool) (first n : ℕ) (ss : List (Typing Step)) (m : Option ℕ) → Surrounded Q k → AllKeep Q SoundStep ss
      → Keeps Q SoundFixed (elim m as (λ o. Typing Valued) [ None ↦ broken Quiet | Some at ↦ path k.source (rule (N.member_target k inside first n at (member_in n (word k.source at) k.signals))) ss ])
  target-by k inside first n ss None r s = K.broken-keeps Q SoundFixed Quiet
  target-by k inside first n ss (Some at) r s =
      let o = member_in n (word k.source at) k.signals in
      path-keeps k.source (rule (N.member_target k inside first n at o)) ss
      (K.rule-keeps Q SoundFixed (N.member_target k inside first n at o) (λ gs v e. member-target k inside first n at o v gs e (member-found n (word k.source at) k.signals r.context.signals))) s

  interface-target : (k : Context) (inside : Bool) (first n : ℕ) (ss : List SelectMeaning) → Surrounded Q k → SelectsSound ss → Keeps Q SoundFixed (N.interface_target k inside first n ss)
  interface-target k inside first n [] r s = K.broken-keeps Q SoundFixed Quiet
  interface-target k inside first n (x ∷ ss) r s = target-by k inside first n (steps k ss) x.member r (all-steps k ss r s.1)

  thing-target : (k : Context) (inside : Bool) (first : ℕ) (net : Bool) (ss : List SelectMeaning) (t : Thing) → Surrounded Q k → SelectsSound ss → SoundThing t → Keeps Q SoundFixed (N.thing_target k inside first net ss t)
  thing-target k inside first net ss (Signal n t) r s x =
      let a = by_itself k.source first t (F.Signal n) in
      let c = refused (inside && net) (position k.source first) 501 (Ok a) in
      path-keeps k.source (rule c) (steps k ss)
      (K.rule-keeps Q SoundFixed c (λ gs v e. as-fixed a v gs (refused-then (inside && net) (position k.source first) 501 (Ok a) v e) (fixed-signal k.source first t n gs x))) (all-steps k ss r s)
  thing-target k inside first net ss (Local n t) r s x =
      path-keeps k.source (whole (by_itself k.source first t (F.Local n))) (steps k ss)
      (K.whole-keeps Q SoundFixed (by_itself k.source first t (F.Local n)) (λ gs. record { none = refl; sound = local-sound k.source first t n gs x })) (all-steps k ss r s)
  thing-target k inside first net ss (Constant t v) r s x = K.broken-keeps Q SoundFixed (At (position k.source first) 501)
  thing-target k inside first net ss (TypeName t) r s x = K.broken-keeps Q SoundFixed Quiet
  thing-target k inside first net ss (Interface n) r s x = interface-target k inside first n ss r s
  thing-target k inside first net ss (Other n) r s x = K.broken-keeps Q SoundFixed Quiet
  thing-target k inside first net ss Nothing r s x = K.broken-keeps Q SoundFixed Quiet

  pub target-keeps : (k : Context) (inside : Bool) (of : QualifiedName) (ss : List SelectMeaning) → Surrounded Q k → SelectsSound ss → Keeps Q SoundFixed (N.named_target k inside of ss)
  target-keeps k inside of ss r s = thing-target k inside (qualified_first of) (N.is_net_found k (k.finds of)) ss (thing k of) r s (thing-sound k of r.context)

  actual-by : (k : Context) (of : QualifiedName) (ss : List SelectMeaning) (b : Bool) → Surrounded Q k → SelectsSound ss → Keeps Q SoundFixed (cond b (broken (At (position k.source (qualified_first of)) 501)) (N.named_target k true of ss))
  actual-by k of ss true r s = K.broken-keeps Q SoundFixed (At (position k.source (qualified_first of)) 501)
  actual-by k of ss false r s = target-keeps k true of ss r s

  pub actual-keeps : (k : Context) (of : QualifiedName) (ss : List SelectMeaning) → Surrounded Q k → SelectsSound ss → Keeps Q SoundFixed (N.actual_target k of ss)
  actual-keeps k of ss r s = actual-by k of ss (N.is_net_thing k ss (thing k of)) r s
