-- Names with selects, as targets and as values, are typed paths on what the names stand for.
use Rattle.std.proofs.Common.{◌≡◌, ℕ, Bool, true, false, ◌&&◌, ◌==◌, cond, List, [], ◌∷◌, map, Option, Some, None, refl, subst}
use Rattle.std.specs.Prelude.{⊤, Ok}
use Rattle.std.specs.Str.{bytes_eq}
use Rattle.sv_tree.specs.Extents.{qualified_first}
use Rattle.sv_tree.specs.declared.expressions.Select.{Select}
use Rattle.sv_tree.specs.declared.names.QualifiedName.{QualifiedName}
use Rattle.sv_types.specs.declared.expression.Expr.{Expr}
use Rattle.sv_types.specs.declared.expression.Form.TheVariants as F
use Rattle.sv_types.specs.declared.frame.ParamType.{ParamType}
use Rattle.sv_types.specs.declared.frame.ParamValue.{ParamValue}
use Rattle.sv_types.specs.declared.frame.SignalId.{SignalId}
use Rattle.sv_types.specs.declared.types.SvType.{SvType}
use Rattle.sv_types.specs.Surroundings.{local_number}
use Rattle.expr_type.specs.Breaks.{At, Quiet}
use Rattle.expr_type.specs.declared.operand.Valued.{Valued}
use Rattle.expr_type.specs.declared.step.Step.{Step}
use Rattle.expr_type.specs.Typings.{Typing, whole, broken, rule, both, refused}
use Rattle.expr_type.specs.Names.{Context, LocalId, Source, Thing, Signal, Local, Constant, TypeName, Interface, Other, Nothing, position, word, thing, thing_of, found, or_thing, local_in, value_in, type_in, signal_in, member_in, is_whole}
use Rattle.expr_type.specs.Operators.{by_itself}
use Rattle.expr_type.specs.Selects.{stepped, path}
use Rattle.expr_type.specs.Forms.{member_signal, steps, signal_or, of_interface, by_thing, named}
use Rattle.expr_type.specs.TargetNames as N
use Rattle.expr_type.specs.Expressions.{select_meaning}
use Rattle.typing_fits.proofs.Members.{whole-if-narrow}
use Rattle.typing_fits.proofs.Contexts.{refused-then}
use Rattle.typing_fits.proofs.Operators.{ok-is}
use Rattle.typed_paths.specs.Typed.{IsTyped}
use Rattle.path_laws.specs.Bases.{has_plain_bases}
use Rattle.path_laws.specs.Names.{AllSignalsPlain, AllLocalsPlain, PlainNames, IsPathOn, IsPathOf, IsConstant}
use Rattle.path_laws.proofs.Typings.{Gives, AllGive, whole-gives, broken-gives, rule-gives, both-gives}
use Rattle.path_laws.proofs.Steps.{OnPath, path-on, HasWidth, on-signal, on-local, stepped-on}
use Rattle.path_laws.proofs.Selects.{steps-give}

-- what names stand for
abbrev PlainThing : Thing → Type 0
PlainThing (Signal n t) = has_plain_bases t ≡ true
PlainThing (Local n t) = has_plain_bases t ≡ true
PlainThing (Constant t v) = ⊤
PlainThing (TypeName t) = ⊤
PlainThing (Interface n) = ⊤
PlainThing (Other n) = ⊤
PlainThing Nothing = ⊤

abbrev ThingIf : Option Thing → Type 0
ThingIf None = ⊤
ThingIf (Some t) = PlainThing t

chosen : (b : Bool) (t : Thing) (o : Option Thing) → PlainThing t → ThingIf o → ThingIf (cond b (Some t) o)
chosen true t o p r = p
chosen false t o p r = r

local-found : (n : ℕ) (ls : List LocalId) → AllLocalsPlain ls → ThingIf (local_in n ls)
local-found n [] p = tt
local-found n (l ∷ ls) p = chosen (l.decl == n) (Local l.number l.of) (local_in n ls) p.0 (local-found n ls p.1)

value-found : (n : ℕ) (vs : List ParamValue) → ThingIf (value_in n vs)
value-found n [] = tt
value-found n (v ∷ vs) = chosen (v.decl == n) (Constant v.of v.value) (value_in n vs) tt (value-found n vs)

type-found : (n : ℕ) (ts : List ParamType) → ThingIf (type_in n ts)
type-found n [] = tt
type-found n (t ∷ ts) = chosen (t.decl == n) (TypeName t.of) (type_in n ts) tt (type-found n ts)

signal-found : (n : ℕ) (ss : List SignalId) → AllSignalsPlain ss → ThingIf (signal_in n ss)
signal-found n [] p = tt
signal-found n (s ∷ ss) p = chosen ((s.decl == n) && is_whole s.member) (Signal s.signal s.of) (signal_in n ss) p.0 (signal-found n ss p.1)

or-plain : (o : Option Thing) (t : Thing) → ThingIf o → PlainThing t → PlainThing (or_thing o t)
or-plain None t p r = r
or-plain (Some u) t p r = p

last-plain : (b : Bool) (n : ℕ) → PlainThing (cond b (Interface n) (Other n))
last-plain true n = tt
last-plain false n = tt

of-plain : (k : Context) (n : ℕ) → PlainNames k → PlainThing (thing_of k n)
of-plain k n p =
    let last = cond (k.is_interface n) (Interface n) (Other n) in
    let by_signal = or_thing (signal_in n k.signals) last in
    let by_type = or_thing (type_in n k.types) by_signal in
    or-plain (local_in n k.locals) (or_thing (value_in n k.values) by_type) (local-found n k.locals p.locals)
    (or-plain (value_in n k.values) by_type (value-found n k.values)
    (or-plain (type_in n k.types) by_signal (type-found n k.types)
    (or-plain (signal_in n k.signals) last (signal-found n k.signals p.signals) (last-plain (k.is_interface n) n))))

found-plain : (k : Context) (o : Option ℕ) → PlainNames k → PlainThing (found k o)
found-plain k None p = tt
found-plain k (Some n) p = of-plain k n p

thing-plain : (k : Context) (of : QualifiedName) → PlainNames k → PlainThing (thing k of)
thing-plain k of p = found-plain k (k.finds of) p

-- members of interfaces
abbrev MemberIf : Option SignalId → Type 0
MemberIf None = ⊤
MemberIf (Some s) = has_plain_bases s.of ≡ true

member-by : (b : Bool) (x : SignalId) (o : Option SignalId) → has_plain_bases x.of ≡ true → MemberIf o → MemberIf (cond b (Some x) o)
member-by true x o p r = p
member-by false x o p r = r

member-found : (n : ℕ) (name : List ℕ) (ss : List SignalId) → AllSignalsPlain ss → MemberIf (member_in n name ss)
member-found n name [] p = tt
member-found n name (x ∷ ss) p = member-by ((x.decl == n) && bytes_eq x.member name) x (member_in n name ss) p.0 (member-found n name ss p.1)

-- what stays so behind each select, of a path
abbrev Stays : Source → (Valued → Type 0) → Type 0
Stays k P = (v u : Valued) (s : Step) → stepped k v s ≡ Ok u → HasWidth s → P v → P u

path-gives : (k : Source) (P : Valued → Type 0) (x : Typing Valued) (ss : List (Typing Step)) → Stays k P → Gives P x → AllGive HasWidth ss → Gives P (path k x ss)
path-gives k P x [] stays p w = p
path-gives k P x (s ∷ ss) stays p w =
    path-gives k P (both x s (λ v u. rule (stepped k v u))) ss stays
    (both-gives P HasWidth P x s (λ v u. rule (stepped k v u)) p w.0 (λ v u q r. rule-gives P (stepped k v u) (λ a h. stays v a u h r q))) w.1

on-stays : (number : ℕ) (t : SvType) (k : Source) → Stays k (OnPath number t)
on-stays number t k v u s h w p = stepped-on number t k v u s h w p

-- on a member of an interface
record OnMember (signals : List SignalId) (n : ℕ) (v : Valued) : Type 0 where
  pub name : List ℕ
  pub signal : SignalId
  pub is : member_in n name signals ≡ Some signal
  pub on : OnPath signal.signal signal.of v

member-stays : (signals : List SignalId) (n : ℕ) (k : Source) → Stays k (OnMember signals n)
member-stays signals n k v u s h w p = record { name = p.name; signal = p.signal; is = p.is; on = stepped-on p.signal.signal p.signal.of k v u s h w p.on }

-- paths, by what their names stand for
abbrev OnThing : List SignalId → Thing → Valued → Type 0
OnThing signals t v = IsPathOf signals t v.expr

weaker : {A : Type 0} (P Q : A → Type 0) (x : Typing A) → ((a : A) → P a → Q a) → Gives P x → Gives Q x
weaker P Q x f p fs a h = f a (p fs a h)

from-signal : (k : Source) (first n : ℕ) (t : SvType) (x : Typing Valued) (ss : List (Typing Step)) (signals : List SignalId) → Gives (OnPath n t) x → AllGive HasWidth ss → Gives (OnThing signals (Signal n t)) (path k x ss)
from-signal k first n t x ss signals p w = weaker (OnPath n t) (OnThing signals (Signal n t)) (path k x ss) (path-on n t) (path-gives k (OnPath n t) x ss (on-stays n t k) p w)

from-local : (k : Source) (first n : ℕ) (t : SvType) (ss : List (Typing Step)) (signals : List SignalId) → has_plain_bases t ≡ true → AllGive HasWidth ss
    → Gives (OnThing signals (Local n t)) (path k (whole (by_itself k first t (F.Local n))) ss)
from-local k first n t ss signals plain w =
    let P = OnPath (local_number n) t in
    let x = whole (by_itself k first t (F.Local n)) in
    weaker P (OnThing signals (Local n t)) (path k x ss) (path-on (local_number n) t) (path-gives k P x ss (on-stays (local_number n) t k) (whole-gives P (by_itself k first t (F.Local n)) (on-local k first n t plain)) w)

from-member : (k : Source) (signals : List SignalId) (n : ℕ) (x : Typing Valued) (ss : List (Typing Step)) → Gives (OnMember signals n) x → AllGive HasWidth ss → Gives (OnThing signals (Interface n)) (path k x ss)
from-member k signals n x ss p w =
    weaker (OnMember signals n) (OnThing signals (Interface n)) (path k x ss) (λ v q. record { name = q.name; signal = q.signal; is = q.is; on = path-on q.signal.signal q.signal.of v q.on })
    (path-gives k (OnMember signals n) x ss (member-stays signals n k) p w)

member-is : (k : Source) (first : ℕ) (signals : List SignalId) (n : ℕ) (name : List ℕ) (s : SignalId) (v : Valued) → member_in n name signals ≡ Some s → has_plain_bases s.of ≡ true → by_itself k first s.of (F.Signal s.signal) ≡ v
    → OnMember signals n v
member-is k first signals n name s v is plain same = record { name = name; signal = s; is = is; on = subst (OnPath s.signal s.of) same (on-signal k first s.signal s.of plain) }

signal-is : (k : Source) (first : ℕ) (s : SignalId) (v : Valued) → member_signal k first s ≡ Ok v → by_itself k first s.of (F.Signal s.signal) ≡ v
signal-is k first s v h = let a = by_itself k first s.of (F.Signal s.signal) in ok-is a v (whole-if-narrow s.of (Ok a) v h)

-- as values
signal-or : (k : Source) (first at : ℕ) (signals : List SignalId) (n : ℕ) (name : List ℕ) (o : Option SignalId) (v : Valued) → member_in n name signals ≡ o → MemberIf o → signal_or k first at o ≡ Ok v → OnMember signals n v
signal-or k first at signals n name None v is plain h = absurd (cc)
signal-or k first at signals n name (Some s) v is plain h = member-is k first signals n name s v is plain (signal-is k first s v h)

interface-by : (k : Context) (first n : ℕ) (ss : List (Typing Step)) (m : Option ℕ) → PlainNames k → AllGive HasWidth ss
    → Gives (OnThing k.signals (Interface n)) (elim m as (λ o. Typing Valued) [ None ↦ broken Quiet | Some at ↦ path k.source (rule (signal_or k.source first at (member_in n (word k.source at) k.signals))) ss ])
interface-by k first n ss None p w = broken-gives (OnThing k.signals (Interface n)) Quiet
interface-by k first n ss (Some at) p w =
    let name = word k.source at in
    let o = member_in n name k.signals in
    from-member k.source k.signals n (rule (signal_or k.source first at o)) ss
    (rule-gives (OnMember k.signals n) (signal_or k.source first at o) (λ v h. signal-or k.source first at k.signals n name o v refl (member-found n name k.signals p.signals) h)) w

interface-gives : (k : Context) (first n : ℕ) (ss : List Select) → PlainNames k → Gives (OnThing k.signals (Interface n)) (of_interface k first n (map select_meaning ss))
interface-gives k first n [] p = broken-gives (OnThing k.signals (Interface n)) Quiet
interface-gives k first n (s ∷ ss) p = interface-by k first n (steps k (map select_meaning ss)) (select_meaning s).member p (steps-give k ss)

by-thing : (k : Context) (first : ℕ) (ss : List Select) (t : Thing) → PlainNames k → PlainThing t → (IsConstant t → ⊥) → Gives (OnThing k.signals t) (by_thing k first (map select_meaning ss) t)
by-thing k first ss (Signal n t) p plain other =
    let a = by_itself k.source first t (F.Signal n) in
    from-signal k.source first n t (whole a) (steps k (map select_meaning ss)) k.signals (whole-gives (OnPath n t) a (on-signal k.source first n t plain)) (steps-give k ss)
by-thing k first ss (Local n t) p plain other = from-local k.source first n t (steps k (map select_meaning ss)) k.signals plain (steps-give k ss)
by-thing k first ss (Constant t v) p plain other = absurd (other tt)
by-thing k first ss (TypeName t) p plain other = broken-gives (OnThing k.signals (TypeName t)) Quiet
by-thing k first ss (Interface n) p plain other = interface-gives k first n ss p
by-thing k first ss (Other n) p plain other = broken-gives (OnThing k.signals (Other n)) Quiet
by-thing k first ss Nothing p plain other = broken-gives (OnThing k.signals Nothing) Quiet

pub value-gives : (k : Context) (of : QualifiedName) (ss : List Select) → PlainNames k → (IsConstant (thing k of) → ⊥) → Gives (OnThing k.signals (thing k of)) (named k of (map select_meaning ss))
value-gives k of ss p other = by-thing k (qualified_first of) ss (thing k of) p (thing-plain k of p) other

-- as targets
member-target : (k : Context) (inside : Bool) (first n at : ℕ) (o : Option SignalId) (v : Valued) → member_in n (word k.source at) k.signals ≡ o → MemberIf o → N.member_target k inside first n at o ≡ Ok v → OnMember k.signals n v
member-target k inside first n at None v is plain h = absurd (cc)
member-target k inside first n at (Some s) v is plain h =
    let last = member_signal k.source first s in
    let rest = refused s.input (position k.source at) 410 last in
    member-is k.source first k.signals n (word k.source at) s v is plain
    (signal-is k.source first s v (refused-then s.input (position k.source at) 410 last v (refused-then (inside && k.is_net_member n (word k.source at)) (position k.source at) 404 rest v h)))

target-by : (k : Context) (inside : Bool) (first n : ℕ) (ss : List (Typing Step)) (m : Option ℕ) → PlainNames k → AllGive HasWidth ss
    → Gives (OnThing k.signals (Interface n)) (elim m as (λ o. Typing Valued) [ None ↦ broken Quiet | Some at ↦ path k.source (rule (N.member_target k inside first n at (member_in n (word k.source at) k.signals))) ss ])
target-by k inside first n ss None p w = broken-gives (OnThing k.signals (Interface n)) Quiet
target-by k inside first n ss (Some at) p w =
    let name = word k.source at in
    let o = member_in n name k.signals in
    from-member k.source k.signals n (rule (N.member_target k inside first n at o)) ss
    (rule-gives (OnMember k.signals n) (N.member_target k inside first n at o) (λ v h. member-target k inside first n at o v refl (member-found n name k.signals p.signals) h)) w

interface-target : (k : Context) (inside : Bool) (first n : ℕ) (ss : List Select) → PlainNames k → Gives (OnThing k.signals (Interface n)) (N.interface_target k inside first n (map select_meaning ss))
interface-target k inside first n [] p = broken-gives (OnThing k.signals (Interface n)) Quiet
interface-target k inside first n (s ∷ ss) p = target-by k inside first n (steps k (map select_meaning ss)) (select_meaning s).member p (steps-give k ss)

thing-target : (k : Context) (inside : Bool) (first : ℕ) (net : Bool) (ss : List Select) (t : Thing) → PlainNames k → PlainThing t → Gives (OnThing k.signals t) (N.thing_target k inside first net (map select_meaning ss) t)
thing-target k inside first net ss (Signal n t) p plain =
    let a = by_itself k.source first t (F.Signal n) in
    let r = refused (inside && net) (position k.source first) 501 (Ok a) in
    from-signal k.source first n t (rule r) (steps k (map select_meaning ss)) k.signals
    (rule-gives (OnPath n t) r (λ v h. subst (OnPath n t) (ok-is a v (refused-then (inside && net) (position k.source first) 501 (Ok a) v h)) (on-signal k.source first n t plain))) (steps-give k ss)
thing-target k inside first net ss (Local n t) p plain = from-local k.source first n t (steps k (map select_meaning ss)) k.signals plain (steps-give k ss)
thing-target k inside first net ss (Constant t v) p plain = broken-gives (OnThing k.signals (Constant t v)) (At (position k.source first) 501)
thing-target k inside first net ss (TypeName t) p plain = broken-gives (OnThing k.signals (TypeName t)) Quiet
thing-target k inside first net ss (Interface n) p plain = interface-target k inside first n ss p
thing-target k inside first net ss (Other n) p plain = broken-gives (OnThing k.signals (Other n)) Quiet
thing-target k inside first net ss Nothing p plain = broken-gives (OnThing k.signals Nothing) Quiet

pub target-gives : (k : Context) (inside : Bool) (of : QualifiedName) (ss : List Select) → PlainNames k → Gives (OnThing k.signals (thing k of)) (N.named_target k inside of (map select_meaning ss))
target-gives k inside of ss p = thing-target k inside (qualified_first of) (N.is_net_found k (k.finds of)) ss (thing k of) p (thing-plain k of p)

actual-by : (k : Context) (of : QualifiedName) (ss : List Select) (b : Bool) → PlainNames k
    → Gives (OnThing k.signals (thing k of)) (cond b (broken (At (position k.source (qualified_first of)) 501)) (N.named_target k true of (map select_meaning ss)))
actual-by k of ss true p = broken-gives (OnThing k.signals (thing k of)) (At (position k.source (qualified_first of)) 501)
actual-by k of ss false p = target-gives k true of ss p

pub actual-gives : (k : Context) (of : QualifiedName) (ss : List Select) → PlainNames k → Gives (OnThing k.signals (thing k of)) (N.actual_target k of (map select_meaning ss))
actual-gives k of ss p = actual-by k of ss (N.is_net_thing k (map select_meaning ss) (thing k of)) p

-- whatever they stand on
typed-on : (number : ℕ) (t : SvType) (e : Expr) → IsPathOn number t e → IsTyped e
typed-on number t e p = record { number = number; of = t; indices = p.indices; part = p.part; path = p.path }

pub typed-of : (signals : List SignalId) (t : Thing) (e : Expr) → IsPathOf signals t e → IsTyped e
typed-of signals (Signal n t) e p = typed-on n t e p
typed-of signals (Local n t) e p = typed-on (local_number n) t e p
typed-of signals (Constant t v) e p = absurd p
typed-of signals (TypeName t) e p = absurd p
typed-of signals (Interface n) e p = typed-on p.signal.signal p.signal.of e p.on
typed-of signals (Other n) e p = absurd p
typed-of signals Nothing e p = absurd p
