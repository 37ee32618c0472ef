-- What names stand for in a sound text.
use Rattle.std.proofs.Common.{◌≡◌, ℕ, Bool, true, false, ◌&&◌, ◌==◌, cond, refl, List, [], ◌∷◌, ◌++◌, Option, Some, None}
use Rattle.std.specs.Prelude.{⊤}
use Rattle.sv_tree.specs.declared.names.QualifiedName.{QualifiedName}
use Rattle.sv_types.specs.declared.frame.ParamType.{ParamType}
use Rattle.sv_types.specs.declared.frame.ParamValue.{ParamValue}
use Rattle.sv_types.specs.declared.frame.SignalId.{SignalId}
use Rattle.expr_type.specs.Names.{Context, LocalId, Thing, Signal, Local, Constant, TypeName, Interface, Other, or_thing, local_in, value_in, type_in, is_whole, signal_in, thing_of, found, thing, with_values, with_types, with_locals}
use Rattle.typing_fits.specs.Operands.{SoundThing, AllValuesSound, AllTypesFull, AllSignalsSound, SoundSignal, AllLocalsNarrow, SoundContext}

abbrev ThingIf : Option Thing → Type 0
ThingIf None = ⊤
ThingIf (Some t) = SoundThing t

chosen : (b : Bool) (t : Thing) (o : Option Thing) → SoundThing t → ThingIf o → ThingIf (cond b (Some t) o)
chosen true t o s r = s
chosen false t o s r = r

local-found : (n : ℕ) (ls : List LocalId) → AllLocalsNarrow ls → ThingIf (local_in n ls)
local-found n [] s = tt
local-found n (l ∷ ls) s = chosen (l.decl == n) (Local l.number l.of) (local_in n ls) s.0 (local-found n ls s.1)

value-found : (n : ℕ) (vs : List ParamValue) → AllValuesSound vs → ThingIf (value_in n vs)
value-found n [] s = tt
value-found n (v ∷ vs) s = chosen (v.decl == n) (Constant v.of v.value) (value_in n vs) s.0 (value-found n vs s.1)

type-found : (n : ℕ) (ts : List ParamType) → AllTypesFull ts → ThingIf (type_in n ts)
type-found n [] s = tt
type-found n (t ∷ ts) s = chosen (t.decl == n) (TypeName t.of) (type_in n ts) s.0 (type-found n ts s.1)

signal-chosen : (a b : Bool) (x : SignalId) (o : Option Thing) → is_whole x.member ≡ b → SoundSignal x → ThingIf o → ThingIf (cond (a && b) (Some (Signal x.signal x.of)) o)
signal-chosen true true x o w s r = record { full = s.full; narrow = s.narrow w }
signal-chosen true false x o w s r = r
signal-chosen false b x o w s r = r

signal-found : (n : ℕ) (ss : List SignalId) → AllSignalsSound ss → ThingIf (signal_in n ss)
signal-found n [] s = tt
signal-found n (x ∷ ss) s = signal-chosen (x.decl == n) (is_whole x.member) x (signal_in n ss) refl s.0 (signal-found n ss s.1)

or-sound : (o : Option Thing) (t : Thing) → ThingIf o → SoundThing t → SoundThing (or_thing o t)
or-sound None t s r = r
or-sound (Some u) t s r = s

last-sound : (b : Bool) (n : ℕ) → SoundThing (cond b (Interface n) (Other n))
last-sound true n = tt
last-sound false n = tt

of-sound : (k : Context) (n : ℕ) → SoundContext k → SoundThing (thing_of k n)
of-sound k n s =
    let last = cond (k.is_interface n) (Interface n) (Other n) in
    let by_signal = or_thing (signal_in n k.signals) last in
    let by_type = or_thing (type_in n k.types) by_signal in
    or-sound (local_in n k.locals) (or_thing (value_in n k.values) by_type) (local-found n k.locals s.locals)
    (or-sound (value_in n k.values) by_type (value-found n k.values s.values)
    (or-sound (type_in n k.types) by_signal (type-found n k.types s.types)
    (or-sound (signal_in n k.signals) last (signal-found n k.signals s.signals) (last-sound (k.is_interface n) n))))

found-sound : (k : Context) (o : Option ℕ) → SoundContext k → SoundThing (found k o)
found-sound k None s = tt
found-sound k (Some n) s = of-sound k n s

pub thing-sound : (k : Context) (of : QualifiedName) → SoundContext k → SoundThing (thing k of)
thing-sound k of s = found-sound k (k.finds of) s

-- more names
more-values : (us vs : List ParamValue) → AllValuesSound us → AllValuesSound vs → AllValuesSound (us ++ vs)
more-values [] vs s r = r
more-values (u ∷ us) vs s r = (s.0, more-values us vs s.1 r)

more-types : (us vs : List ParamType) → AllTypesFull us → AllTypesFull vs → AllTypesFull (us ++ vs)
more-types [] vs s r = r
more-types (u ∷ us) vs s r = (s.0, more-types us vs s.1 r)

more-locals : (us vs : List LocalId) → AllLocalsNarrow us → AllLocalsNarrow vs → AllLocalsNarrow (us ++ vs)
more-locals [] vs s r = r
more-locals (u ∷ us) vs s r = (s.0, more-locals us vs s.1 r)

pub values-behind : (vs : List ParamValue) (k : Context) → AllValuesSound vs → SoundContext k → SoundContext (with_values vs k)
values-behind vs k s r = record { values = more-values vs k.values s r.values; types = r.types; signals = r.signals; locals = r.locals }

pub types-behind : (ts : List ParamType) (k : Context) → AllTypesFull ts → SoundContext k → SoundContext (with_types ts k)
types-behind ts k s r = record { values = r.values; types = more-types ts k.types s r.types; signals = r.signals; locals = r.locals }

pub locals-behind : (ls : List LocalId) (k : Context) → AllLocalsNarrow ls → SoundContext k → SoundContext (with_locals ls k)
locals-behind ls k s r = record { values = r.values; types = r.types; signals = r.signals; locals = more-locals ls k.locals s r.locals }
