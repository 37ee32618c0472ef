-- Heads: formals that are sound, and what they give back.
use Rattle.std.proofs.Common.{◌≡◌, ◌⊎◌, inl, inr, ◌<◌, ◌≤◌, ◌+◌, List, [], ◌∷◌, ◌++◌, map, filter, Option, Some, None, Bool, true, false, ◌&&◌, cond, min, nat_lt, if◌then◌else◌, ℕ, refl, sym, ap, ◌∙◌, subst, arith}
use Rattle.std.specs.Prelude.{Result, Ok, Err, IfOk}
use Rattle.std.proofs.lemmas.Bool.{cases_lt, le-ltb, lt-ltb}
use Rattle.sv_tree.specs.declared.expressions.Dimension.{Dimension}
use Rattle.sv_tree.specs.declared.functions.Formal as G
use Rattle.sv_tree.specs.declared.functions.FunctionResult.{FunctionResult}
use Rattle.sv_types.specs.declared.statement.Formal.{Formal}
use Rattle.sv_types.specs.declared.statement.Function.{Function}
use Rattle.sv_types.specs.declared.statement.Way.{Way}
use Rattle.sv_types.specs.declared.statement.Way.TheVariants as W
use Rattle.sv_types.specs.Layouts.{width_of}
use Rattle.sv_types.specs.Meanings.{total}
use Rattle.expr_type.specs.declared.halt.Halt.{Halt}
use Rattle.expr_type.specs.declared.halt.Halt.TheVariants as H
use Rattle.expr_type.specs.Functions.{Before, FormalFound, ResultFound, Head, at_first, before_if, behind_formal, behind_formals, formal_text, formals, function_result, head_of, is_output, output_bits}
use Rattle.expr_type.specs.Names.{Context, position}
use Rattle.expr_type.specs.Types.{TypeFound}
use Rattle.expr_type.specs.Typings.{Checked, Typed, Typing, checked, refused, rule}
use Rattle.routine_fits.specs.Sound.{AllFormalsNarrow, AllSoundFunctions}
use Rattle.routine_laws.specs.Sound.{AllSoundFormals, PerhapsType, SoundFormal, SoundResult}
use Rattle.routine_laws.specs.Texts.{formals_written, port_written, result_written}
use Rattle.routine_laws.proofs.Heads.{behind-one, first-type, formals-keep, formals-narrow, result-keeps}
use Rattle.typing_fits.proofs.Vectors.{narrow-one_bit}
use Rattle.typing_parts.specs.declared.known.Known.{Known}
use Rattle.typing_parts.specs.Typists.{MakesKnown}
use Rattle.typing_scopes.specs.Ahead.{mapped}
use Rattle.typing_scopes.proofs.Behind.{needs-alike}
use Rattle.typing_scopes.proofs.Turning.{whole-turn}
use Rattle.typing_steps.specs.Steps.{StopsBy, TypesTo}
use Rattle.typing_steps.proofs.Combining.{checked-fine, checked-stops, rule-types}
use Rattle.typing_walks.specs.Keeps.{Kept, Surrounded}
use Rattle.typing_walks.specs.WrittenTypes.{dims_written}
use Rattle.typing_declarations.specs.declared.results.ResultFound as C
use Rattle.typing_declarations.specs.Giving.{no_result, result_of}
use Rattle.typing_declarations.specs.FormalRows.{AreFormals, FormalsTo, IsFormal, IsHead, IsNoFormal, HeadsTo, PerhapsFormal, bits_back, bits_out, formal_in, head_rest}

-- what is whole keeps what is said of it
pub kept-sound : {A : Type 0} (P : A → List Function → Type 0) (x : Typing A) (gs hs : List Function) (a : A) → Kept A AllSoundFunctions P gs (x gs) → TypesTo (Ok a) (x gs) hs → P a hs
kept-sound {A = A} P x gs hs a k p = subst (λ (fs : List Function). P a fs) (ap (λ (t : Typed A). t.functions) p) (k.sound a (ap (λ (t : Typed A). t.result) p))

-- one formal
abbrev in_front : FormalFound → List FormalFound → List FormalFound
in_front x xs = x ∷ xs

one-written : (f : G.Formal) → port_written f.text ≡ true → formals_written (f ∷ []) ≡ true
one-written f w = ap (λ b. b && true) w

pub formal-sound : (k : Context) (b : Before) (f : G.Formal) (gs hs : List Function) (x : FormalFound) → Surrounded AllSoundFunctions k → port_written f.text ≡ true → ((fs : List Function) → PerhapsType b.of fs) → AllSoundFunctions gs
    → TypesTo (Ok x) (formal_text k b f.direction f.text gs) hs → SoundFormal x hs
formal-sound k b f gs hs x r w s q p =
    let row : TypesTo (Ok (x ∷ [])) (formals k b (f ∷ []) gs) hs =
    whole-turn (formal_text k b f.direction f.text) (λ o. formals (behind_formal k o) (before_if b.way f.direction o) []) in_front x (Ok []) gs hs hs p refl in
    let all : AllSoundFormals (x ∷ []) hs = kept-sound AllSoundFormals (formals k b (f ∷ [])) gs hs (x ∷ []) (formals-keep AllSoundFunctions k b (f ∷ []) r (one-written f w) s gs q) row in
    all.0

-- the text behind it, and what the next one takes
pub behind-sound : (k i : Context) (b c : Before) (f : G.Formal) (gs hs : List Function) (made : Formal) → Surrounded AllSoundFunctions k → port_written f.text ≡ true → ((fs : List Function) → PerhapsType b.of fs) → AllSoundFunctions gs
    → IsFormal made c i k (formal_text k b f.direction f.text gs) hs → Surrounded AllSoundFunctions i
behind-sound k i b c f gs hs made r w s q x =
    subst (λ (z : Context). Surrounded AllSoundFunctions z) (sym x.behind) (behind-one AllSoundFunctions k x.found hs r (formal-sound k b f gs hs x.found r w s q x.gives))

any-functions : (o : Option TypeFound) (gs : List Function) → PerhapsType o gs → (fs : List Function) → PerhapsType o fs
any-functions None gs s fs = tt
any-functions (Some t) gs s fs = record { full = s.full; names = s.names }

pub before-sound : (k i : Context) (b c : Before) (f : G.Formal) (gs hs : List Function) (made : Formal) → Surrounded AllSoundFunctions k → port_written f.text ≡ true → ((fs : List Function) → PerhapsType b.of fs) → AllSoundFunctions gs
    → IsFormal made c i k (formal_text k b f.direction f.text gs) hs → (fs : List Function) → PerhapsType c.of fs
before-sound k i b c f gs hs made r w s q x =
    any-functions c.of hs (subst (λ (z : Before). PerhapsType z.of hs) x.before (formal-sound k b f gs hs x.found r w s q x.gives).before)

pub none-sound : (i k : Context) (c : Before) (way : Way) (t : Typed FormalFound) (hs : List Function) → IsNoFormal c way i k t hs → (fs : List Function) → PerhapsType c.of fs
none-sound i k c way t hs x fs = subst (λ (z : Before). PerhapsType z.of fs) (sym x.before) tt

pub none-behind : (i k : Context) (c : Before) (way : Way) (t : Typed FormalFound) (hs : List Function) → IsNoFormal c way i k t hs → Surrounded AllSoundFunctions k → Surrounded AllSoundFunctions i
none-behind i k c way t hs x r = subst (λ (z : Context). Surrounded AllSoundFunctions z) (sym x.behind) r

-- the text behind one that may not be whole, and what the next one takes
pub next-around : (o : Option Formal) (k i : Context) (b c : Before) (way : Way) (f : G.Formal) (gs hs : List Function) → Surrounded AllSoundFunctions k → port_written f.text ≡ true → ((fs : List Function) → PerhapsType b.of fs) → AllSoundFunctions gs
    → PerhapsFormal o c way i k (formal_text k b f.direction f.text gs) hs → Surrounded AllSoundFunctions i
next-around (Some made) k i b c way f gs hs r w s q x = behind-sound k i b c f gs hs made r w s q x
next-around None k i b c way f gs hs r w s q x = none-behind i k c way (formal_text k b f.direction f.text gs) hs x r

pub next-before : (o : Option Formal) (k i : Context) (b c : Before) (way : Way) (f : G.Formal) (gs hs : List Function) → Surrounded AllSoundFunctions k → port_written f.text ≡ true → ((fs : List Function) → PerhapsType b.of fs) → AllSoundFunctions gs
    → PerhapsFormal o c way i k (formal_text k b f.direction f.text gs) hs → (fs : List Function) → PerhapsType c.of fs
next-before (Some made) k i b c way f gs hs r w s q x = before-sound k i b c f gs hs made r w s q x
next-before None k i b c way f gs hs r w s q x = none-sound i k c way (formal_text k b f.direction f.text gs) hs x

pub next-routine : (o : Option Formal) (k i : Context) (c : Before) (way : Way) (t : Typed FormalFound) (hs : List Function) → PerhapsFormal o c way i k t hs → i.routine ≡ k.routine
next-routine (Some made) k i c way t hs x = ap (λ (q : Context). q.routine) x.behind
next-routine None k i c way t hs x = ap (λ (q : Context). q.routine) x.behind

-- the first one is behind none
pub first-sound : (b : Before) → b ≡ at_first → (fs : List Function) → PerhapsType b.of fs
first-sound b e fs = subst (λ (z : Before). PerhapsType z.of fs) (sym e) (first-type fs)

-- all of them
pub narrow-all : (k j : Context) (gs : List G.Formal) (fs hs : List Function) (made : List Formal) → Surrounded AllSoundFunctions k → formals_written gs ≡ true → AllSoundFunctions fs → AreFormals made j k (formals k at_first gs fs) hs
    → AllFormalsNarrow made
narrow-all k j gs fs hs made r w q a =
    subst AllFormalsNarrow a.listed
    (formals-narrow a.found hs (kept-sound AllSoundFormals (formals k at_first gs) fs hs a.found (formals-keep AllSoundFunctions k at_first gs r w first-type fs q) a.gives))

-- the bits that they give back
abbrev wide : FormalFound → ℕ
wide f = width_of f.formal.local.of

out-by : (w : Way) (x : FormalFound) (rest : List FormalFound)
    → total (map wide (cond (elim w [ W.Input ↦ false | W.Output ↦ true | W.Inout ↦ true ]) (x ∷ rest) rest)) ≡ elim w [ W.Input ↦ 0 | W.Output ↦ wide x | W.Inout ↦ wide x ] + total (map wide rest)
out-by W.Input x rest = omega arith
out-by W.Output x rest = refl
out-by W.Inout x rest = refl

pub bits-are : (xs : List FormalFound) → output_bits xs ≡ bits_out (map formal_in xs)
bits-are [] = refl
bits-are (x ∷ xs) = out-by x.formal.way x (filter is_output xs) ∙ ap (λ n. bits_back x.formal + n) (bits-are xs)

more-bits : (s b r : ℕ) → min (min (s + b) 65537 + r) 65537 ≡ min (s + (b + r)) 65537
more-bits s b r = omega arith

pub bits-step : (s sum : ℕ) (f : Formal) (rest : List Formal) (all : ℕ) → sum ≡ min (s + bits_back f) 65537 → min (s + bits_out (f ∷ rest)) 65537 ≡ all → min (sum + bits_out rest) 65537 ≡ all
bits-step s sum f rest all is so = ap (λ n. min (n + bits_out rest) 65537) is ∙ more-bits s (bits_back f) (bits_out rest) ∙ so

pub bits-end : (s all : ℕ) → s ≤ 65537 → min (s + 0) 65537 ≡ all → s ≡ all
bits-end s all few so = omega (arith, few, so)

pub long-same : (b : ℕ) → nat_lt 65536 (min b 65537) ≡ nat_lt 65536 b
long-same b = by (cases_lt 65536 b)
  where
    by : (65536 < b) ⊎ (b ≤ 65536) → nat_lt 65536 (min b 65537) ≡ nat_lt 65536 b
    by (inl l) = lt-ltb 65536 (min b 65537) (omega arith) ∙ sym (lt-ltb 65536 b l)
    by (inr l) = le-ltb 65536 (min b 65537) (omega arith) ∙ sym (le-ltb 65536 b l)

-- a head
pub head-long : (k : Context) (gs : List G.Formal) (fs hs : List Function) (made : List Formal) (j : Context) (name : ℕ) → AreFormals made j k (formals k at_first gs fs) hs → nat_lt 65536 (bits_out made) ≡ true
    → (o : Context) (r : ResultFound) → StopsBy (H.Breaks name 701) (head_rest o k name r gs fs) hs
head-long k gs fs hs made j name a long o r =
    let test : nat_lt 65536 (output_bits a.found) ≡ true = ap (λ n. nat_lt 65536 n) (bits-are a.found ∙ ap bits_out a.listed) ∙ long in
    let head : Head = record { result = r; formals = a.found } in
    let is : head_of o name r a.found ≡ refused true (position o.source name) 701 (Ok head) = ap (λ (b : Bool). refused b (position o.source name) 701 (Ok head)) test in
    checked-fine (formals k at_first gs) (λ xs. rule (head_of o name r xs)) fs hs hs a.found (Err (H.Breaks name 701)) a.gives
    (subst (λ (c : Checked Head). TypesTo {A = Head} (Err (H.Breaks name 701)) (rule c hs) hs) (sym is) refl)

pub head-short : (k j : Context) (gs : List G.Formal) (fs hs : List Function) (made : List Formal) → AreFormals made j k (formals k at_first gs fs) hs → nat_lt 65536 (bits_out made) ≡ false → IsHead made j k (formals k at_first gs fs) hs
head-short k j gs fs hs made a short = record { are = a; short = ap (λ n. nat_lt 65536 n) (bits-are a.found ∙ ap bits_out a.listed) ∙ short }

pub head-stops : (k : Context) (gs : List G.Formal) (fs hs : List Function) (h : Halt) (name : ℕ) → StopsBy h (formals k at_first gs fs) hs → (o : Context) (r : ResultFound) → StopsBy h (head_rest o k name r gs fs) hs
head-stops k gs fs hs h name s o r = checked-stops (formals k at_first gs) (λ xs. rule (head_of o name r xs)) fs hs h s

-- a head of these parts
pub head-is : (o k j : Context) (gs : List G.Formal) (fs hs : List Function) (made : List Formal) (name : ℕ) (r : ResultFound) (x : IsHead made j k (formals k at_first gs fs) hs)
    → TypesTo (Ok (record { result = r; formals = x.are.found })) (head_rest o k name r gs fs) hs
head-is o k j gs fs hs made name r x =
    let head : Head = record { result = r; formals = x.are.found } in
    let is : head_of o name r x.are.found ≡ Ok head = ap (λ (b : Bool). refused b (position o.source name) 701 (Ok head)) x.short in
    checked-fine (formals k at_first gs) (λ xs. rule (head_of o name r xs)) fs hs hs x.are.found (Ok head) x.are.gives (rule-types (Ok head) (head_of o name r x.are.found) hs is)

-- the text behind a head
formals-routine : (k : Context) (fs : List FormalFound) → (behind_formals k fs).routine ≡ k.routine
formals-routine k [] = refl
formals-routine k (f ∷ fs) = formals-routine (behind_formal k (Some f)) fs

behind-all : (k : Context) (fs : List FormalFound) (gs : List Function) → Surrounded AllSoundFunctions k → AllSoundFormals fs gs → Surrounded AllSoundFunctions (behind_formals k fs)
behind-all k [] gs r s = r
behind-all k (f ∷ fs) gs r s = behind-all (behind_formal k (Some f)) fs gs (behind-one AllSoundFunctions k f gs r s.0) s.1

pub head-needs : (S : Type 0) (callable : Type 0) (held : S → Known) (post : ℕ → S → Result ℕ Halt → S → Type 0) (name : ℕ) (i j : Context) (gs : List G.Formal) (fs hs : List Function) (made : Result (List Formal) Halt)
    → HeadsTo made name j i gs fs hs → MakesKnown S callable held post i → IfOk made (λ m. MakesKnown S callable held post j)
head-needs S callable held post name i j gs fs hs (Ok m) a n = needs-alike S callable held post j i (ap (λ (x : Context). x.routine) a.are.behind ∙ formals-routine i a.are.found) n
head-needs S callable held post name i j gs fs hs (Err h) a n = tt

pub head-around : (name : ℕ) (i j : Context) (gs : List G.Formal) (fs hs : List Function) (made : Result (List Formal) Halt) → HeadsTo made name j i gs fs hs → Surrounded AllSoundFunctions i → formals_written gs ≡ true → AllSoundFunctions fs
    → IfOk made (λ m. Surrounded AllSoundFunctions j)
head-around name i j gs fs hs (Ok m) a r w q =
    subst (λ (z : Context). Surrounded AllSoundFunctions z) (sym a.are.behind)
    (behind-all i a.are.found hs r (kept-sound AllSoundFormals (formals i at_first gs) fs hs a.are.found (formals-keep AllSoundFunctions i at_first gs r w first-type fs q) a.are.gives))
head-around name i j gs fs hs (Err h) a r w q = tt

-- what stops the formals stops the head
pub head-stopped : (k j : Context) (gs : List G.Formal) (fs hs : List Function) (h : Halt) (name : ℕ) → FormalsTo (Err h) j k (formals k at_first gs fs) hs → HeadsTo (Err h) name j k gs fs hs
head-stopped k j gs fs hs h name s o r = head-stops k gs fs hs h name s o r

-- what a function gives
pub result-sound : (k : Context) (name : ℕ) (ds : List Dimension) (x : FunctionResult) (r : Result C.ResultFound Halt) (fs gs : List Function) → Surrounded AllSoundFunctions k → result_written x ≡ true → dims_written ds ≡ true → AllSoundFunctions fs
    → TypesTo (mapped result_of r) (function_result k name ds x fs) gs → IfOk r (λ (y : C.ResultFound). SoundResult (result_of y) gs)
result-sound k name ds x (Ok y) fs gs s w v q p = kept-sound SoundResult (function_result k name ds x) fs gs (result_of y) (result-keeps AllSoundFunctions k name ds x s w v fs q) p
result-sound k name ds x (Err h) fs gs s w v q p = tt

pub void-sound : (r : ResultFound) (gs : List Function) → r ≡ no_result → SoundResult r gs
void-sound r gs is = subst (λ (x : ResultFound). SoundResult x gs) (sym is) (record { of = narrow-one_bit; names = tt })
