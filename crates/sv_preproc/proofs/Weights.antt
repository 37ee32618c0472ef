-- Each step leaves less to do.
use Rattle.std.proofs.Common.{◌≡◌, ℕ, suc, ◌+◌, ◌^◌, ◌<◌, ◌≤◌, Bool, true, false, cond, List, [], ◌∷◌, ◌++◌, length, drop, map, Option, Some, None, refl, ap, arith, length-append}
use Rattle.std.specs.Option.{option_map, option_and_then}
use Rattle.sv_source.specs.declared.token.Place.{Place}
use Rattle.sv_source.specs.declared.token.Token.{Token}
use Rattle.sv_macro.specs.Tokens.{moved}
use Rattle.sv_macro.specs.Macros.{replaced, part_count, placed_count, pasted, joined, with_part, with_parts, placed}
use Rattle.sv_macro.specs.Lines.{is_newline, behind_lines, first_by}
use Rattle.sv_preproc.specs.States.{State, Step, goes, gives, takes, looks, done, breaks}
use Rattle.sv_preproc.specs.Left.{weight, most_weight}
use Rattle.sv_macro.specs.declared.macros.Part.{Part}
use Rattle.sv_macro.specs.declared.macros.Part.TheVariants.{Plain, Formal, Join}
use Rattle.sv_macro.specs.declared.coming.Coming.{Coming}
use Rattle.sv_macro.specs.declared.coming.Coming.TheVariants.{Kept}
use Rattle.sv_macro.specs.declared.coming.Placing.{Placing}

-- in a step from a state of this weight, with so many calls
pub record Within (count c w : ℕ) (s : State) : Type 0 where
  pub spent : s.spent ≤ 2 ^ 22
  pub loaded : s.loaded ≤ 2 ^ 26
  pub less : weight count s + c < w
  pub uses : s.uses + w ≤ most_weight
  pub names : length s.names + w ≤ most_weight

-- behind that step
pub record Behind (count c w : ℕ) (s : State) : Type 0 where
  pub spent : s.spent ≤ 2 ^ 22
  pub loaded : s.loaded ≤ 2 ^ 26
  pub less : weight count s + c < w
  pub uses : s.uses + (weight count s + c) ≤ most_weight
  pub names : length s.names + (weight count s + c) ≤ most_weight

-- before a file is loaded, or a list is read
pub record Waits (count c w : ℕ) (s : State) : Type 0 where
  pub spent : s.spent ≤ 2 ^ 22
  pub loaded : s.loaded ≤ 2 ^ 26
  pub less : weight count s + c + 1 < w
  pub uses : s.uses + w ≤ most_weight
  pub names : length s.names + w ≤ most_weight

abbrev pub Falls : ℕ → ℕ → ℕ → Step → Type 0
Falls count c w (goes s) = Behind count c w s
Falls count c w (gives t s) = Within count c w s
Falls count c w (takes t s) = Waits count c w s
Falls count c w (looks search s) = Waits count c w s
Falls count c w (done s) = Unit {0}
Falls count c w (breaks r names) = Unit {0}

pub by_test : (count c w : ℕ) (b : Bool) (x y : Step) → (b ≡ true → Falls count c w x) → (b ≡ false → Falls count c w y) → Falls count c w (elim b [ true ↦ x | false ↦ y ])
by_test count c w true x y fx fy = fx refl
by_test count c w false x y fx fy = fy refl

-- a state that has no more to do than one within a step is behind it
pub settled : (count c w : ℕ) (s t : State) → Within count c w s → weight count t ≤ weight count s → t.spent ≤ 2 ^ 22 → t.loaded ≤ 2 ^ 26 → t.uses ≤ s.uses + 1 → length t.names ≤ length s.names → Behind count c w t
settled count c w s t i less spent loaded uses names = record {
  spent = spent;
  loaded = loaded;
  less = omega (arith, i.less);
  uses = omega (arith, i.less, i.uses);
  names = omega (arith, i.less, i.names);
}

-- the rest of a list, or the whole
pub shorter : (b : Bool) (item : Coming) (coming rest : List Coming) → length rest ≤ length coming → length (elim b as (λ _. List Coming) [ true ↦ rest | false ↦ item ∷ coming ]) ≤ length (item ∷ coming)
shorter true item coming rest l = omega arith
shorter false item coming rest l = omega arith

-- what is behind newlines is no more
pub lines_fall : (coming : List Coming) → length (behind_lines coming) ≤ length coming
lines_fall [] = omega arith
lines_fall (item ∷ coming) = shorter (is_newline item) item coming (behind_lines coming) (lines_fall coming)

-- and less if a token is taken there
pub next_falls : (token : Coming → Option Token) (coming : List Coming) (t : Token) → first_by token (behind_lines coming) ≡ Some t → length (drop 1 (behind_lines coming)) + 1 ≤ length coming
next_falls token coming t e = by_first (behind_lines coming) (lines_fall coming) e
  where
    by_first : (rest : List Coming) → length rest ≤ length coming → first_by token rest ≡ Some t → length (drop 1 rest) + 1 ≤ length coming
    by_first [] l e = absurd (let no : None ≡ Some t = e in cc)
    by_first (x ∷ xs) l e = omega (arith, l)

pub drop_one : (rest : List Coming) → length (drop 1 rest) ≤ length rest
drop_one [] = omega arith
drop_one (x ∷ xs) = omega arith

pub behind_falls : (coming : List Coming) → length (drop 1 (behind_lines coming)) ≤ length coming
behind_falls coming = omega (arith, drop_one (behind_lines coming), lines_fall coming)

-- no more is placed than is counted
count_mapped : (place : Place) (tokens : List Token) → length (map (λ t. Kept (moved place t)) tokens) ≡ length tokens
count_mapped place [] = refl
count_mapped place (t ∷ ts) = ap suc (count_mapped place ts)

pub count_replaced : (place : Place) (arguments : List (List Token)) (part : Part) → length (replaced place arguments part) ≡ part_count arguments part
count_replaced place arguments (Plain t) = refl
count_replaced place arguments (Formal i) = count_mapped place _
count_replaced place arguments Join = refl

mapped_some : {A B : Type 0} (f : A → B) (o : Option A) (y : B) → option_map f o ≡ Some y → (x : A) × (o ≡ Some x) × (y ≡ f x)
mapped_some f None y e = absurd (let no : None ≡ Some y = e in cc)
mapped_some f (Some x) y e = (x, refl, cc)

pub count_joined : (place : Place) (xs ys zs : List Coming) → joined place xs ys ≡ Some zs → length zs ≤ length xs + length ys
count_joined place xs [] zs e = (let same : xs ≡ zs = cc in omega (arith, ap length same))
count_joined place [] (y ∷ ys) zs e = (let same : y ∷ ys ≡ zs = cc in omega (arith, ap length same))
count_joined place (x ∷ []) (y ∷ ys) zs e =
    let m = mapped_some (λ t. t ∷ ys) (pasted place _) zs e in
    omega (arith, ap length m.2)
count_joined place (x ∷ z ∷ xs) (y ∷ ys) zs e =
    let m = mapped_some (λ rest. x ∷ rest) (joined place (z ∷ xs) (y ∷ ys)) zs e in
    omega (arith, ap length m.2, count_joined place (z ∷ xs) (y ∷ ys) m.0 m.1)

abbrev size : Placing → ℕ
size p = length p.complete + length p.chain

joining_count : (place : Place) (p q : Placing) (items : List Coming) → option_map (λ chain. record { complete = p.complete; chain = chain; pasting = false }) (joined place p.chain items) ≡ Some q → size q ≤ size p + length items
joining_count place p q items e =
    let m = mapped_some (λ (chain : List Coming). record { complete = p.complete; chain = chain; pasting = false }) (joined place p.chain items) q e in
    rw m.2 (omega (arith, count_joined place p.chain items m.0 m.1))

adding_count : (p q : Placing) (items : List Coming) → Some (record { complete = p.complete ++ p.chain; chain = items; pasting = false }) ≡ Some q → size q ≤ size p + length items
adding_count p q items e =
    let same : record { complete = p.complete ++ p.chain; chain = items; pasting = false } ≡ q = cc in
    rw (← same) (omega (arith, length-append p.complete p.chain))

with_items_count : (place : Place) (p q : Placing) (items : List Coming) (pasting : Bool) →
    (cond {A = Option Placing} pasting (option_map (λ chain. record { complete = p.complete; chain = chain; pasting = false }) (joined place p.chain items)) (Some (record { complete = p.complete ++ p.chain; chain = items; pasting = false }))) ≡ Some q →
    size q ≤ size p + length items
with_items_count place p q items true e = joining_count place p q items e
with_items_count place p q items false e = adding_count p q items e

part_falls : (place : Place) (arguments : List (List Token)) (p q : Placing) (part : Part) → with_part place arguments p part ≡ Some q → size q ≤ size p + part_count arguments part
part_falls place arguments p q Join e = (let same : record p { pasting = true } ≡ q = cc in rw (← same) (omega arith))
part_falls place arguments p q (Plain t) e = with_items_count place p q (replaced place arguments (Plain t)) p.pasting e
part_falls place arguments p q (Formal i) e = omega (arith, with_items_count place p q (replaced place arguments (Formal i)) p.pasting e, count_replaced place arguments (Formal i))

then_some : {A B : Type 0} (f : A → Option B) (o : Option A) (y : B) → option_and_then f o ≡ Some y → (x : A) × (o ≡ Some x) × (f x ≡ Some y)
then_some f None y e = absurd (let no : None ≡ Some y = e in cc)
then_some f (Some x) y e = (x, refl, e)

parts_fall : (place : Place) (arguments : List (List Token)) (parts : List Part) (p q : Placing) → with_parts place arguments parts p ≡ Some q → size q ≤ size p + placed_count arguments parts
parts_fall place arguments [] p q e = (let same : p ≡ q = cc in rw (← same) (omega arith))
parts_fall place arguments (part ∷ parts) p q e =
    let m = then_some (with_parts place arguments parts) (with_part place arguments p part) q e in
    omega (arith, part_falls place arguments p m.0 part m.1, parts_fall place arguments parts m.0 q m.2)

pub count_placed : (place : Place) (arguments : List (List Token)) (parts : List Part) (body : List Coming) → placed place arguments parts ≡ Some body → length body ≤ placed_count arguments parts
count_placed place arguments parts body e =
    let m = mapped_some (λ (p : Placing). p.complete ++ p.chain) (with_parts place arguments parts (record { complete = []; chain = []; pasting = false })) body e in
    omega (arith, ap length m.2, length-append m.0.complete m.0.chain, parts_fall place arguments parts _ m.0 m.1)
