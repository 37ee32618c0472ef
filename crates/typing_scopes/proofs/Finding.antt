-- What a declaration stands for, by what is declared in front of a text's own lists.
use Rattle.std.proofs.Common.{◌≡◌, ℕ, ◌<◌, Bool, true, false, ◌&&◌, nat_eq, if◌then◌else◌, cond, List, [], ◌∷◌, ◌++◌, Option, Some, None, refl, sym, ap, ◌∙◌, arith}
use Rattle.std.specs.Prelude.{⊤, map}
use Rattle.std.specs.Option.{option_map}
use Rattle.sv_types.specs.declared.frame.ParamType.{ParamType}
use Rattle.sv_types.specs.declared.frame.ParamValue.{ParamValue}
use Rattle.sv_types.specs.declared.frame.SignalId.{SignalId}
use Rattle.sv_types.specs.declared.types.SvType.{SvType}
use Rattle.expr_type.specs.Names.{Context, LocalId, Thing, Signal, Local, Constant, TypeName, Interface, Other, or_thing, local_in, value_in, type_in, signal_in, is_whole, thing_of}
use Rattle.frame_things.specs.Finding.{local_id}
use Rattle.frame_things.specs.Places.{first_by}
use Rattle.frame_things.specs.declared.things.NamedLocal.{NamedLocal}
use Rattle.typing_parts.specs.Things.{StandsFor}
use Rattle.typing_parts.specs.declared.names.Thing as C
use Rattle.typing_parts.specs.declared.names.Thing.TheVariants as V
use Rattle.typing_scopes.specs.Ranks.{rank, rank_of}
use Rattle.typing_scopes.specs.Scopes.{Lists, in_lists}
use Rattle.typing_scopes.proofs.Levels.{or_else}

abbrev local_thing : NamedLocal → Thing
local_thing l = Local l.number l.of

abbrev value_thing : ParamValue → Thing
value_thing v = Constant v.of v.value

abbrev type_thing : ParamType → Thing
type_thing t = TypeName t.of

-- what is declared in front is found first
front-step : {T : Type 0} (thing : T → Thing) (x : T) (b : Bool) (t u : Option Thing) (r : Option T) → t ≡ or_else (option_map thing r) u
    → cond b (Some (thing x)) t ≡ or_else (option_map thing (if b then Some x else r)) u
front-step thing x true t u r e = refl
front-step thing x false t u r e = e

local-front : (n : ℕ) (xs : List NamedLocal) (ls : List LocalId)
    → local_in n (map local_id xs ++ ls) ≡ or_else (option_map local_thing (first_by (λ (l : NamedLocal). nat_eq l.decl n) xs)) (local_in n ls)
local-front n [] ls = refl
local-front n (x ∷ xs) ls =
    front-step local_thing x (nat_eq x.decl n) (local_in n (map local_id xs ++ ls)) (local_in n ls) (first_by (λ (l : NamedLocal). nat_eq l.decl n) xs) (local-front n xs ls)

value-front : (n : ℕ) (xs vs : List ParamValue)
    → value_in n (xs ++ vs) ≡ or_else (option_map value_thing (first_by (λ (v : ParamValue). nat_eq v.decl n) xs)) (value_in n vs)
value-front n [] vs = refl
value-front n (x ∷ xs) vs =
    front-step value_thing x (nat_eq x.decl n) (value_in n (xs ++ vs)) (value_in n vs) (first_by (λ (v : ParamValue). nat_eq v.decl n) xs) (value-front n xs vs)

type-front : (n : ℕ) (xs ts : List ParamType)
    → type_in n (xs ++ ts) ≡ or_else (option_map type_thing (first_by (λ (t : ParamType). nat_eq t.decl n) xs)) (type_in n ts)
type-front n [] ts = refl
type-front n (x ∷ xs) ts =
    front-step type_thing x (nat_eq x.decl n) (type_in n (xs ++ ts)) (type_in n ts) (first_by (λ (t : ParamType). nat_eq t.decl n) xs) (type-front n xs ts)

-- the ranks of what is found in each list
abbrev Ranks : ℕ → Option Thing → Type 0
Ranks m None = ⊤
Ranks m (Some t) = rank t ≡ m

rank-step : (m : ℕ) (t : Thing) (b : Bool) (o : Option Thing) → rank t ≡ m → Ranks m o → Ranks m (cond b (Some t) o)
rank-step m t true o here rest = here
rank-step m t false o here rest = rest

local-rank : (n : ℕ) (ls : List LocalId) → Ranks 0 (local_in n ls)
local-rank n [] = tt
local-rank n (l ∷ ls) = rank-step 0 (Local l.number l.of) (nat_eq l.decl n) (local_in n ls) refl (local-rank n ls)

value-rank : (n : ℕ) (vs : List ParamValue) → Ranks 1 (value_in n vs)
value-rank n [] = tt
value-rank n (v ∷ vs) = rank-step 1 (Constant v.of v.value) (nat_eq v.decl n) (value_in n vs) refl (value-rank n vs)

type-rank : (n : ℕ) (ts : List ParamType) → Ranks 2 (type_in n ts)
type-rank n [] = tt
type-rank n (t ∷ ts) = rank-step 2 (TypeName t.of) (nat_eq t.decl n) (type_in n ts) refl (type-rank n ts)

-- what else a declaration stands for
abbrev rest_of : Context → ℕ → Thing
rest_of k n = or_thing (signal_in n k.signals) (cond (k.is_interface n) (Interface n) (Other n))

plain-rank : (n : ℕ) (b : Bool) → rank (cond b (Interface n) (Other n)) ≡ 3
plain-rank n true = refl
plain-rank n false = refl

signal-step : (m : ℕ) (t u : Thing) (b : Bool) (o : Option Thing) → rank t ≡ m → rank (or_thing o u) ≡ m → rank (or_thing (cond b (Some t) o) u) ≡ m
signal-step m t u true o here rest = here
signal-step m t u false o here rest = rest

signal-rank : (n : ℕ) (u : Thing) (ss : List SignalId) → rank u ≡ 3 → rank (or_thing (signal_in n ss) u) ≡ 3
signal-rank n u [] e = e
signal-rank n u (s ∷ ss) e = signal-step 3 (Signal s.signal s.of) u (nat_eq s.decl n && is_whole s.member) (signal_in n ss) refl (signal-rank n u ss e)

rest-rank : (k : Context) (n : ℕ) → rank (rest_of k n) ≡ 3
rest-rank k n = signal-rank n (cond (k.is_interface n) (Interface n) (Other n)) k.signals (plain-rank n (k.is_interface n))

pub rank-stands : (t : C.Thing) (x : Thing) → StandsFor t x → rank_of t ≡ rank x
rank-stands (V.Local n t) x e = sym (ap rank e)
rank-stands (V.Constant t v) x e = sym (ap rank e)
rank-stands (V.TypeName t) x e = sym (ap rank e)
rank-stands (V.Signal n t) x e = sym (ap rank e)
rank-stands (V.Interface n) x e = sym (ap rank e)
rank-stands (V.Other n) x e = sym (ap rank e)
rank-stands V.Nothing x e = sym (ap rank e)

-- locals before values, values before types, and types before the rest
abbrev in_turn : Option Thing → Option Thing → Option Thing → Thing → Thing
in_turn a b c r = or_thing a (or_thing b (or_thing c r))

behind-type : (m : ℕ) (c : Option Thing) (r : Thing) → m < 2 → Ranks 2 c → rank r ≡ 3 → rank (or_thing c r) ≡ m → ⊥
behind-type m None r low of_c of_r e = let same : 3 ≡ m = sym of_r ∙ e in absurd (omega arith)
behind-type m (Some t) r low of_c of_r e = let same : 2 ≡ m = sym of_c ∙ e in absurd (omega arith)

behind-value : (b c : Option Thing) (r : Thing) → Ranks 1 b → Ranks 2 c → rank r ≡ 3 → rank (or_thing b (or_thing c r)) ≡ 0 → ⊥
behind-value None c r of_b of_c of_r e = behind-type 0 c r (omega arith) of_c of_r e
behind-value (Some t) c r of_b of_c of_r e = let one : rank t ≡ 1 = of_b in let none : rank t ≡ 0 = e in absurd (omega arith)

local-stays : (a b c y z : Option Thing) (r : Thing) → Ranks 1 b → Ranks 2 c → rank r ≡ 3 → rank (in_turn a b c r) ≡ 0 → in_turn a b c r ≡ in_turn a y z r
local-stays None b c y z r of_b of_c of_r e = absurd (behind-value b c r of_b of_c of_r e)
local-stays (Some t) b c y z r of_b of_c of_r e = refl

value-stays : (a b c z : Option Thing) (r : Thing) → Ranks 2 c → rank r ≡ 3 → rank (in_turn a b c r) ≡ 1 → in_turn a b c r ≡ in_turn a b z r
value-stays (Some t) b c z r of_c of_r e = refl
value-stays None (Some t) c z r of_c of_r e = refl
value-stays None None c z r of_c of_r e = absurd (behind-type 1 c r (omega arith) of_c of_r e)

value-hides : (a b c z : Option Thing) (r v : Thing) → Ranks 0 a → (rank (in_turn a b c r) ≡ 0 → ⊥) → in_turn a (Some v) z r ≡ v
value-hides None b c z r v of_a other = refl
value-hides (Some t) b c z r v of_a other = absurd (other of_a)

type-hides : (a b c : Option Thing) (r t : Thing) → Ranks 0 a → Ranks 1 b → (rank (in_turn a b c r) ≡ 0 → ⊥) → (rank (in_turn a b c r) ≡ 1 → ⊥) → in_turn a b (Some t) r ≡ t
type-hides None None c r t of_a of_b no_local no_value = refl
type-hides None (Some u) c r t of_a of_b no_local no_value = absurd (no_value of_b)
type-hides (Some u) b c r t of_a of_b no_local no_value = absurd (no_local of_a)

-- what is found in front, and what stays
abbrev is_local : ℕ → NamedLocal → Bool
is_local n l = nat_eq l.decl n

abbrev is_value : ℕ → ParamValue → Bool
is_value n v = nat_eq v.decl n

abbrev is_type : ℕ → ParamType → Bool
is_type n t = nat_eq t.decl n

local-met : (n : ℕ) (xs : List NamedLocal) (ls : List LocalId) (o : Option NamedLocal) → o ≡ first_by (is_local n) xs
    → local_in n (map local_id xs ++ ls) ≡ or_else (option_map local_thing o) (local_in n ls)
local-met n xs ls o e = local-front n xs ls ∙ ap (λ o. or_else (option_map local_thing o) (local_in n ls)) (sym e)

value-met : (n : ℕ) (xs vs : List ParamValue) (o : Option ParamValue) → o ≡ first_by (is_value n) xs → value_in n (xs ++ vs) ≡ or_else (option_map value_thing o) (value_in n vs)
value-met n xs vs o e = value-front n xs vs ∙ ap (λ o. or_else (option_map value_thing o) (value_in n vs)) (sym e)

type-met : (n : ℕ) (xs ts : List ParamType) (o : Option ParamType) → o ≡ first_by (is_type n) xs → type_in n (xs ++ ts) ≡ or_else (option_map type_thing o) (type_in n ts)
type-met n xs ts o e = type-front n xs ts ∙ ap (λ o. or_else (option_map type_thing o) (type_in n ts)) (sym e)

-- a text behind declarations
abbrev pub behind_lists : Context → Lists → Option SvType → Context
behind_lists k l given = record (in_lists l k) { result = given }

module _ (k : Context) (l : Lists) (given : Option SvType) (n : ℕ) where
  of_level : (a b c : Option Thing) → local_in n (map local_id l.locals ++ k.locals) ≡ a → value_in n (l.values ++ k.values) ≡ b → type_in n (l.types ++ k.types) ≡ c
      → thing_of (behind_lists k l given) n ≡ in_turn a b c (rest_of k n)
  of_level a b c e f g =
      ap (λ x. in_turn x (value_in n (l.values ++ k.values)) (type_in n (l.types ++ k.types)) (rest_of k n)) e
      ∙ ap (λ x. in_turn a x (type_in n (l.types ++ k.types)) (rest_of k n)) f ∙ ap (λ x. in_turn a b x (rest_of k n)) g

  pub thing-local : (x : NamedLocal) → Some x ≡ first_by (is_local n) l.locals → thing_of (behind_lists k l given) n ≡ Local x.number x.of
  thing-local x e = of_level (Some (local_thing x)) _ _ (local-met n l.locals k.locals (Some x) e) refl refl

  pub local-kept : None ≡ first_by (is_local n) l.locals → rank (thing_of k n) ≡ 0 → thing_of k n ≡ thing_of (behind_lists k l given) n
  local-kept e is =
      local-stays (local_in n k.locals) (value_in n k.values) (type_in n k.types) (value_in n (l.values ++ k.values)) (type_in n (l.types ++ k.types)) (rest_of k n)
      (value-rank n k.values) (type-rank n k.types) (rest-rank k n) is
      ∙ sym (of_level (local_in n k.locals) _ _ (local-met n l.locals k.locals None e) refl refl)

  pub thing-value : (v : ParamValue) → None ≡ first_by (is_local n) l.locals → Some v ≡ first_by (is_value n) l.values → (rank (thing_of k n) ≡ 0 → ⊥)
      → thing_of (behind_lists k l given) n ≡ Constant v.of v.value
  thing-value v e f other =
      of_level (local_in n k.locals) (Some (value_thing v)) _ (local-met n l.locals k.locals None e) (value-met n l.values k.values (Some v) f) refl
      ∙ value-hides (local_in n k.locals) (value_in n k.values) (type_in n k.types) (type_in n (l.types ++ k.types)) (rest_of k n) (value_thing v) (local-rank n k.locals) other

  pub value-kept : None ≡ first_by (is_local n) l.locals → None ≡ first_by (is_value n) l.values → rank (thing_of k n) ≡ 1 → thing_of k n ≡ thing_of (behind_lists k l given) n
  value-kept e f is =
      value-stays (local_in n k.locals) (value_in n k.values) (type_in n k.types) (type_in n (l.types ++ k.types)) (rest_of k n) (type-rank n k.types) (rest-rank k n) is
      ∙ sym (of_level (local_in n k.locals) (value_in n k.values) _ (local-met n l.locals k.locals None e) (value-met n l.values k.values None f) refl)

  pub thing-type : (t : ParamType) → None ≡ first_by (is_local n) l.locals → None ≡ first_by (is_value n) l.values → Some t ≡ first_by (is_type n) l.types
      → (rank (thing_of k n) ≡ 0 → ⊥) → (rank (thing_of k n) ≡ 1 → ⊥) → thing_of (behind_lists k l given) n ≡ TypeName t.of
  thing-type t e f g no_local no_value =
      of_level (local_in n k.locals) (value_in n k.values) (Some (type_thing t)) (local-met n l.locals k.locals None e) (value-met n l.values k.values None f) (type-met n l.types k.types (Some t) g)
      ∙ type-hides (local_in n k.locals) (value_in n k.values) (type_in n k.types) (rest_of k n) (type_thing t) (local-rank n k.locals) (value-rank n k.values) no_local no_value

  pub rest-kept : None ≡ first_by (is_local n) l.locals → None ≡ first_by (is_value n) l.values → None ≡ first_by (is_type n) l.types → thing_of k n ≡ thing_of (behind_lists k l given) n
  rest-kept e f g =
      sym (of_level (local_in n k.locals) (value_in n k.values) (type_in n k.types) (local-met n l.locals k.locals None e) (value-met n l.values k.values None f) (type-met n l.types k.types None g))
