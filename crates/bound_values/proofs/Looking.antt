-- What is seen of expressions, from what is seen of their parts.
use Rattle.std.proofs.Common.{◌≡◌, ℕ, Bool, true, false, ◌&&◌, cond, List, [], ◌∷◌, map, length, Option, Some, None, Result, Ok, Err, refl, ap, sym, ◌∙◌, arith}
use Rattle.std.specs.Prelude.{◌^◌, is_some, nat_le, max}
use Rattle.std.proofs.lemmas.Bool.{and_parts, leb-true}
use Rattle.std.proofs.lemmas.List.{length-map}
use Rattle.b4_core.specs.Bits.{is_one}
use Rattle.b4_core.specs.Bitwise.{truth_of}
use Rattle.b4_core.specs.declared.bit.Bit4.{Bit4}
use Rattle.sv_types.specs.declared.expression.Expr.{Expr}
use Rattle.sv_types.specs.Surroundings.{Around, Sight, Tally, Parameter}
use Rattle.sv_types.specs.Layouts.{stored}
use Rattle.sv_types.specs.Meanings.{Meaning, wide, signed, root_sure}
use Rattle.sv_types.specs.Operators.{assigned_to}
use Rattle.sv_types.specs.Runs as R
use Rattle.sv_types.specs.Functions.{callees}
use Rattle.sv_types.specs.Expressions.{meaning}
use Rattle.sv_types.proofs.Heads.{heads}
use Rattle.eval_parts.specs.declared.halt.Halt.{Halt}
use Rattle.eval_parts.specs.declared.halt.Halt.TheVariants as H
use Rattle.eval_parts.specs.Answers.{Gives}
use Rattle.eval_parts.specs.Steps.{is_held}
use Rattle.eval_parts.specs.Surroundings.{now_of}
use Rattle.expr_flows.specs.declared.known.Known.{Known}
use Rattle.expr_flows.specs.Known as K
use Rattle.eval_forms.specs.Assigned.{GivenBy}
use Rattle.eval_forms.specs.Asked.{Asked}
use Rattle.expr_flows.specs.Full.{is_full, every}
use Rattle.expr_flows.specs.Known.{sight, sure_of}
use Rattle.expr_flows.specs.Reads.{constant_asked}
use Rattle.expr_flows.proofs.FullLevels as U
use Rattle.expr_flows.proofs.Operands.{all_constant}
use Rattle.design_breaks.specs.Indices as I
use Rattle.design_breaks.specs.Indices.{said, index, first_of, lesser}
use Rattle.design_breaks.specs.Unrolling.{too_long_at}
use Rattle.loop_laws.specs.Operands.{long_asked, all_long, PassesFew}
use Rattle.loop_laws.proofs.Lesser.{lesser-assoc}
use Rattle.loop_laws.proofs.SaidLevels.{means-it}
use Rattle.bound_values.specs.declared.looks.Look.{Look}
use Rattle.bound_values.specs.Values.{ended_of, ValuedGives}
use Rattle.bound_values.specs.Looks.{SureAs, Looks, LooksAt, LookGives, LookBothGives, IndexLongGives, OwnLongGives, both_looks}

pub ended-gives : (r : Result (List Bit4) Halt) (e : Expr) (k : Known) (w : ℕ) (s : Bool) (new : Option ℕ) → Gives r (meaning e) w s (K.unheld k) (Some 1048576) new → ValuedGives (ended_of r) k e w s
ended-gives (Ok v) e k w s new g = (ap (λ (t : Tally). is_some t.stop) g.1, g.0)
ended-gives (Err H.Memory) e k w s new g = tt
ended-gives (Err (H.NotHeld n)) e k w s new g = ap is_some g
ended-gives (Err H.Turns) e k w s new g = ap is_some g

-- no signal is held
none-held : (n : ℕ) → false ≡ is_held [] n
none-held n = refl

pub unheld-same : (k : Known) → I.unheld (sight k).around ≡ K.unheld k
unheld-same k = λ i. record { now = now_of [] k.locals.now; holds = λ n. none-held n i; callee = callees k.functions.now }

pub long-same : (k : Known) (e : Expr) → I.takes_too_long (meaning e) (sight k) ≡ K.takes_too_long k e
long-same k e = ap (λ (a : Around). is_some ((meaning e).values a (record { left = Some (2 ^ 20); stop = None })).stop) (unheld-same k)

-- an index
index-is : (i : Expr) (h : Sight) → index (said i) h ≡ first_of ((said i).long h) (cond ((meaning i).constant h && I.takes_too_long (meaning i) h) (Some i.spot.at) None)
index-is i h =
    ap (λ (m : Meaning). first_of ((said i).long h) (cond (m.constant h && I.takes_too_long m h) (Some m.at) None)) (means-it i)
    ∙ ap (λ n. first_of ((said i).long h) (cond ((meaning i).constant h && I.takes_too_long (meaning i) h) (Some n) None)) (heads i).token

first-none : (o : Option ℕ) → first_of o None ≡ o
first-none None = refl
first-none (Some x) = refl

itself : (k : Known) → SureAs k.variables.now (sight k)
itself k q = refl

abbrev index_by : Option ℕ → Bool → Bool → ℕ → Option ℕ
index_by long constant takes at = first_of long (cond (constant && takes) (Some at) None)

pub not-constant : (l : Look) (k : Known) (i : Expr) → l.constant ≡ false → LooksAt l k i → l.long ≡ index (said i) (sight k)
not-constant l k i is g =
    let h = sight k in
    let takes = I.takes_too_long (meaning i) h in
    g.longest
    ∙ sym (index-is i h ∙ ap (λ b. index_by ((said i).long h) b takes i.spot.at) (sym (g.known h (itself k)) ∙ is) ∙ first-none ((said i).long h))

pub own-index : {E : Type 0} (r : Result (Option ℕ) E) (l : Look) (k : Known) (i : Expr) → l.constant ≡ true → l.long ≡ None → OwnLongGives r k i → IndexLongGives r k i l
own-index (Err x) l k i is none g = tt
own-index (Ok o) l k i is none g =
    let h = sight k in
    let takes = I.takes_too_long (meaning i) h in
    λ at. g ∙ sym (index-is i h ∙ ap (λ b. index_by ((said i).long h) b takes i.spot.at) (sym (at.known h (itself k)) ∙ is) ∙ ap (λ x. index_by x true takes i.spot.at) (sym at.longest ∙ none))

-- a value that was found, or one that takes too long
pub own-short : (k : Known) (e : Expr) → K.takes_too_long k e ≡ false → None ≡ cond (I.takes_too_long (meaning e) (sight k)) (Some e.spot.at) None
own-short k e is = sym (ap (λ b. cond b (Some e.spot.at) None) (long-same k e ∙ is))

pub own-long : (k : Known) (e : Expr) → K.takes_too_long k e ≡ true → Some e.spot.at ≡ cond (I.takes_too_long (meaning e) (sight k)) (Some e.spot.at) None
own-long k e is = sym (ap (λ b. cond b (Some e.spot.at) None) (long-same k e ∙ is))

-- paths
pub relook : {E : Type 0} (r : Result Look E) (k : Known) (x e : Expr) → ((h : Sight) → (meaning e).constant h ≡ (meaning x).constant h) → (said e).long ≡ (said x).long → LookGives r k x → LookGives r k e
relook (Ok l) k x e same long g = record { known = λ h s. g.known h s ∙ sym (same h); longest = g.longest ∙ sym (ap (λ (f : I.Long). f (sight k)) long) }
relook (Err y) k x e same long g = tt

pub relook-both : {E : Type 0} (r : Result Look E) (k : Known) (x i e : Expr) → ((h : Sight) → (meaning e).constant h ≡ ((meaning x).constant h && (meaning i).constant h)) → (said e).long ≡ I.both (said x).long (index (said i)) → LookBothGives r k x i → LookGives r k e
relook-both (Ok l) k x i e same long g = record { known = λ h s. g.known h s ∙ sym (same h); longest = g.longest ∙ sym (ap (λ (f : I.Long). f (sight k)) long) }
relook-both (Err y) k x i e same long g = tt

pub root-looks : (l : Look) (k : Known) (e : Expr) (n : ℕ) → l ≡ record { constant = sure_of k.variables.now (record { signal = n; bit = 0 }); long = None } → ((h : Sight) → (meaning e).constant h ≡ root_sure (Some n) h) → (said e).long ≡ I.none → LooksAt l k e
root-looks l k e n is same long = record {
  known = λ h s. ap (λ (x : Look). x.constant) is ∙ sym (s (record { signal = n; bit = 0 })) ∙ sym (same h);
  longest = ap (λ (x : Look). x.long) is ∙ sym (ap (λ (f : I.Long). f (sight k)) long);
}

pub indexed-looks : (one two l : Look) (long : Option ℕ) (k : Known) (x i : Expr) → LooksAt one k x → LooksAt two k i → long ≡ index (said i) (sight k) → l ≡ both_looks one (record { constant = two.constant; long = long })
    → Looks l k (λ h. (meaning x).constant h && (meaning i).constant h) (lesser ((said x).long (sight k)) (index (said i) (sight k)))
indexed-looks one two l long k x i first second at is = record {
  known = λ h s. ap (λ (y : Look). y.constant) is ∙ (λ j. first.known h s j && second.known h s j);
  longest = ap (λ (y : Look). y.long) is ∙ (λ j. lesser (first.longest j) (at j));
}

-- operands
row : (a b c : Bool) → ((a && b) && c) ≡ (a && (b && c))
row true b c = refl
row false b c = refl

pub known-next : (h : Sight) (q : Asked) (qs : List Asked) (seen one : Look) (all : Bool) → one.constant ≡ constant_asked h q → (seen.constant && all_constant h (q ∷ qs)) ≡ all → ((both_looks seen one).constant && all_constant h qs) ≡ all
known-next h q qs seen one all is g = ap (λ b. (seen.constant && b) && all_constant h qs) is ∙ row seen.constant (constant_asked h q) (all_constant h qs) ∙ g

pub longest-next : (h : Sight) (q : Asked) (qs : List Asked) (seen one : Look) (all : Option ℕ) → one.long ≡ long_asked h q → lesser seen.long (all_long h (q ∷ qs)) ≡ all → lesser (both_looks seen one).long (all_long h qs) ≡ all
longest-next h q qs seen one all is g = ap (λ o. lesser (lesser seen.long o) (all_long h qs)) is ∙ lesser-assoc seen.long (long_asked h q) (all_long h qs) ∙ g

pub few : (fs : ℕ → List Parameter) (e : Expr) → is_full fs e ≡ true → PassesFew fs e
few fs e full f es is =
    let p = and_parts (nat_le (length (map (is_full fs) es)) (length (fs f))) (every (map (is_full fs) es)) (sym (U.full-Call fs e f es is) ∙ full) in
    let le = leb-true (length (map (is_full fs) es)) (length (fs f)) p.0 in
    omega (arith, le, length-map es (is_full fs))

-- bounds
abbrev bound_by : Option ℕ → Bool → ℕ → Option ℕ
bound_by long takes at = first_of long (cond takes (Some at) None)

pub long-within : (l : Look) (k : Known) (e : Expr) (at : ℕ) → LooksAt l k e → l.long ≡ Some at → too_long_at e (sight k) ≡ Some at
long-within l k e at g is = ap (λ o. bound_by o (I.takes_too_long (meaning e) (sight k)) e.spot.at) (sym g.longest ∙ is)

pub long-itself : (l : Look) (k : Known) (e : Expr) → LooksAt l k e → l.long ≡ None → K.takes_too_long k e ≡ true → too_long_at e (sight k) ≡ Some e.spot.at
long-itself l k e g none is = ap (λ o. bound_by o (I.takes_too_long (meaning e) (sight k)) e.spot.at) (sym g.longest ∙ none) ∙ ap (λ b. bound_by None b e.spot.at) (long-same k e ∙ is)

pub not-long : (l : Look) (k : Known) (e : Expr) → LooksAt l k e → l.long ≡ None → K.takes_too_long k e ≡ false → too_long_at e (sight k) ≡ None
not-long l k e g none is = ap (λ o. bound_by o (I.takes_too_long (meaning e) (sight k)) e.spot.at) (sym g.longest ∙ none) ∙ ap (λ b. bound_by None b e.spot.at) (long-same k e ∙ is)

pub unheld-value : (k : Known) (e : Expr) (w : ℕ) (s : Bool) (v : List Bit4) → v ≡ (meaning e).value w s (K.unheld k) → v ≡ (meaning e).value w s (I.unheld (sight k).around)
unheld-value k e w s v is = is ∙ ap ((meaning e).value w s) (sym (unheld-same k))

pub assigned-is : (k : Known) (e : Expr) (marks : List Bool) (n w : ℕ) (s : Bool) (value given r : List Bit4) → n ≡ length marks → w ≡ max n (wide (meaning e)) → s ≡ signed (meaning e) → value ≡ (meaning e).value w s (I.unheld (sight k).around)
    → GivenBy (meaning e) n value given → r ≡ stored marks given → r ≡ assigned_to marks (meaning e) (I.unheld (sight k).around)
assigned-is k e marks n w s value given r width wider sign is by stores =
    let m = meaning e in
    let a = I.unheld (sight k).around in
    let valued : value ≡ m.value (max n (wide m)) (signed m) a = is ∙ ap (λ x. m.value x s a) wider ∙ ap (λ b. m.value (max n (wide m)) b a) sign in
    stores ∙ ap (stored marks) (by.value a valued ∙ ap (λ x. m.given x a) width)

pub truth-is : (k : Known) (e : Expr) (w : ℕ) (s : Bool) (v : List Bit4) (b : Bool) → w ≡ wide (meaning e) → s ≡ signed (meaning e) → v ≡ (meaning e).value w s (I.unheld (sight k).around) → b ≡ is_one (truth_of v) → R.is_true (meaning e) (I.unheld (sight k).around) ≡ b
truth-is k e w s v b width sign is one =
    let a = I.unheld (sight k).around in
    sym (one ∙ ap (λ x. is_one (truth_of x)) (is ∙ ap (λ n. (meaning e).value n s a) width ∙ ap (λ c. (meaning e).value (wide (meaning e)) c a) sign))
