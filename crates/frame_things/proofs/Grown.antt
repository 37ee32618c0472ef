-- What is met behind the lists of a frame hides what stands in them.
use Rattle.std.proofs.Common.{◌≡◌, ℕ, Bool, true, false, nat_eq, if◌then◌else◌, cond, List, [], ◌∷◌, ◌++◌, Option, Some, None, refl, sym, ap, ◌∙◌}
use Rattle.std.specs.Prelude.{map}
use Rattle.std.specs.Option.{option_map}
use Rattle.sv_types.specs.declared.frame.ParamType.{ParamType}
use Rattle.sv_types.specs.declared.frame.ParamValue.{ParamValue}
use Rattle.expr_type.specs.Names.{Thing, Local, Constant, TypeName, local_in, value_in, type_in}
use Rattle.frame_things.specs.declared.things.NamedLocal.{NamedLocal}
use Rattle.frame_things.specs.Places.{first_by}
use Rattle.frame_things.specs.Finding.{IsLocal, local_id}

abbrev or_else : {T : Type 0} → Option T → Option T → Option T
or_else None o = o
or_else (Some x) o = Some x

abbrev value_thing : ParamValue → Thing
value_thing v = Constant v.of v.value

abbrev type_thing : ParamType → Thing
type_thing t = TypeName t.of

abbrev local_thing : NamedLocal → Thing
local_thing l = Local l.number l.of

value-step : (v : ParamValue) (b : Bool) (t u : Option Thing) (r : Option ParamValue) → t ≡ or_else (option_map value_thing r) u
    → cond b (Some (value_thing v)) t ≡ or_else (option_map value_thing (if b then Some v else r)) u
value-step v true t u r e = refl
value-step v false t u r e = e

value-append : (n : ℕ) (xs ys : List ParamValue) → value_in n (xs ++ ys) ≡ or_else (option_map value_thing (first_by (λ (v : ParamValue). nat_eq v.decl n) xs)) (value_in n ys)
value-append n [] ys = refl
value-append n (x ∷ xs) ys = value-step x (nat_eq x.decl n) (value_in n (xs ++ ys)) (value_in n ys) (first_by (λ (v : ParamValue). nat_eq v.decl n) xs) (value-append n xs ys)

type-step : (v : ParamType) (b : Bool) (t u : Option Thing) (r : Option ParamType) → t ≡ or_else (option_map type_thing r) u
    → cond b (Some (type_thing v)) t ≡ or_else (option_map type_thing (if b then Some v else r)) u
type-step v true t u r e = refl
type-step v false t u r e = e

type-append : (n : ℕ) (xs ys : List ParamType) → type_in n (xs ++ ys) ≡ or_else (option_map type_thing (first_by (λ (v : ParamType). nat_eq v.decl n) xs)) (type_in n ys)
type-append n [] ys = refl
type-append n (x ∷ xs) ys = type-step x (nat_eq x.decl n) (type_in n (xs ++ ys)) (type_in n ys) (first_by (λ (v : ParamType). nat_eq v.decl n) xs) (type-append n xs ys)

local-step : (l : NamedLocal) (b : Bool) (t : Option Thing) (r : Option NamedLocal) → t ≡ option_map local_thing r
    → cond b (Some (local_thing l)) t ≡ option_map local_thing (if b then Some l else r)
local-step l true t r e = refl
local-step l false t r e = e

local-first : (n : ℕ) (ls : List NamedLocal) → local_in n (map local_id ls) ≡ option_map local_thing (first_by (λ (l : NamedLocal). nat_eq l.decl n) ls)
local-first n [] = refl
local-first n (l ∷ ls) = local-step l (nat_eq l.decl n) (local_in n (map local_id ls)) (first_by (λ (l : NamedLocal). nat_eq l.decl n) ls) (local-first n ls)

local-is : {R : Type 0} (of : R → NamedLocal) (r : Option R) (t : Option Thing) → t ≡ option_map local_thing (option_map of r) → IsLocal of r t
local-is of None t e = e
local-is of (Some r) t e = e

pub local-found : {R : Type 0} (of : R → NamedLocal) (r : Option R) (n : ℕ) (ls : List NamedLocal) → option_map of r ≡ first_by (λ (l : NamedLocal). nat_eq l.decl n) ls
    → IsLocal of r (local_in n (map local_id ls))
local-found of r n ls e = local-is of r _ (local-first n ls ∙ ap (λ o. option_map local_thing o) (sym e))

-- a value that was met is what the declaration stands for, and else it is what stands in the frame
pub value-met : (n : ℕ) (xs ys : List ParamValue) (v : ParamValue) → Some v ≡ first_by (λ (v : ParamValue). nat_eq v.decl n) xs → value_in n (xs ++ ys) ≡ Some (Constant v.of v.value)
value-met n xs ys v e = value-append n xs ys ∙ ap (λ o. or_else (option_map value_thing o) (value_in n ys)) (sym e)

pub value-framed : (n : ℕ) (xs ys : List ParamValue) → None ≡ first_by (λ (v : ParamValue). nat_eq v.decl n) xs → value_in n (xs ++ ys) ≡ value_in n ys
value-framed n xs ys e = value-append n xs ys ∙ ap (λ o. or_else (option_map value_thing o) (value_in n ys)) (sym e)

pub type-met : (n : ℕ) (xs ys : List ParamType) (t : ParamType) → Some t ≡ first_by (λ (t : ParamType). nat_eq t.decl n) xs → type_in n (xs ++ ys) ≡ Some (TypeName t.of)
type-met n xs ys t e = type-append n xs ys ∙ ap (λ o. or_else (option_map type_thing o) (type_in n ys)) (sym e)

pub type-framed : (n : ℕ) (xs ys : List ParamType) → None ≡ first_by (λ (t : ParamType). nat_eq t.decl n) xs → type_in n (xs ++ ys) ≡ type_in n ys
type-framed n xs ys e = type-append n xs ys ∙ ap (λ o. or_else (option_map type_thing o) (type_in n ys)) (sym e)
