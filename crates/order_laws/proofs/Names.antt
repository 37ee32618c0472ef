-- Names, and concatenations: as values, as types, as targets, and names alone.
use Rattle.std.proofs.Common.{ℕ, suc, ◌≤◌, ◌<◌, ◌++◌, Bool, true, false, cond, List, [], ◌∷◌, map, Option, Some, None, is_none, arith}
use Rattle.std.specs.Prelude.{Ok}
use Rattle.std.specs.Option.{option_map}
use Rattle.sv_tree.specs.Extents.{qualified_first, scoped_first}
use Rattle.sv_tree.specs.declared.expressions.Expr.{Expr-F}
use Rattle.sv_tree.specs.declared.names.PackageScope.{PackageScope}
use Rattle.sv_tree.specs.declared.names.QualifiedName.{QualifiedName}
use Rattle.sv_types.specs.declared.types.SvType.{SvType}
use Rattle.expr_type.specs.Breaks.{At}
use Rattle.expr_type.specs.Expressions.{Meaning, expr_step, if_all, name_alone, type_of_name}
use Rattle.expr_type.specs.Forms.{SelectMeaning}
use Rattle.expr_type.specs.Names.{Context, Source, position, thing}
use Rattle.expr_type.specs.Operators.{all_bits, concat_of, exprs}
use Rattle.expr_type.specs.Placed.{Ascend, RoutinesInOrder, Stands, StandsTyping}
use Rattle.expr_type.specs.Shapes.{is_unpacked}
use Rattle.expr_type.specs.TargetNames.{actual_target, is_net_thing, is_packed_target, named_target, packed_target}
use Rattle.expr_type.specs.Typings.{Typing, all, broken, checked, rule}
use Rattle.expr_type.specs.declared.operand.Valued.{Valued}
use Rattle.expr_type.proofs.Forms as E
use Rattle.expr_type.proofs.Forms.{leaf}
use Rattle.expr_type.proofs.Ordering.{place}
use Rattle.order_laws.specs.Meanings.{AloneIf, ExprInOrder, TargetIf, TypeIf}
use Rattle.order_laws.specs.Ordered.{scope_tokens}
use Rattle.order_laws.proofs.Forms.{all-in-order}
use Rattle.order_laws.proofs.Meant.{Anything, SelectStands}
use Rattle.order_laws.proofs.Operands.{as-stands, in-order-wider, placed-from, standing, too-long, typed-wider}
use Rattle.order_laws.proofs.Parts.{each-of}
use Rattle.order_laws.proofs.Selects.{selects-in-order, type-named}
use Rattle.order_laws.proofs.Targets.{IsPath, named-stands, stands-wider}
use Rattle.order_laws.proofs.Typings.{Each, IfThere, TypedAs, any-from, any-typing, as-all, as-checked, as-refused, as-wider}

-- where a name stands, and what stands behind it
pub record NameStands (low high : ℕ) (o : Option PackageScope) (name : ℕ) (rest : List ℕ) : Type 0 where
  pub from : low ≤ scoped_first o name
  pub inner : scoped_first o name ≤ name
  pub before : name < high
  pub behind : Ascend (suc name) high rest

pub name-stands : (o : Option PackageScope) (name : ℕ) (rest : List ℕ) (low high : ℕ) → Ascend low high ((scope_tokens o ++ (name ∷ [])) ++ rest) → NameStands low high o name rest
name-stands None name rest low high a = record { from = a.0; inner = omega arith; before = a.1; behind = a.2 }
name-stands (Some s) name rest low high a = record { from = a.0; inner = let b = a.2.0 in omega arith; before = a.2.1; behind = a.2.2 }

pub name-alone : (o : Option PackageScope) (name low high : ℕ) → Ascend low high (scope_tokens o ++ (name ∷ [])) → NameStands low high o name []
name-alone None name low high a = record { from = a.0; inner = omega arith; before = a.1; behind = tt }
name-alone (Some s) name low high a = record { from = a.0; inner = let b = a.2.0 in omega arith; before = a.2.1; behind = tt }

-- wider parts
type-wider : (i : ℕ) (o : Option (Typing SvType)) (low high low' high' : ℕ) → low' ≤ low → high ≤ high' → TypeIf i low high o → TypeIf i low' high' o
type-wider i None low high low' high' h m p = tt
type-wider i (Some t) low high low' high' h m p =
    placed-from i low' high' Anything t (typed-wider i Anything t low high low' high' h m (any-typing i t low high p))

standing-wider : (i : ℕ) (x : Typing Valued) (low high low' high' : ℕ) → low' ≤ low → high ≤ high' → StandsTyping i low high x → StandsTyping i low' high' x
standing-wider i x low high low' high' h m p =
    standing i low' high' x
    (λ fs. as-wider i (Stands low high) (Stands low' high') (x fs).result low high low' high' h m (λ v s. stands-wider v low high low' high' h m s) (as-stands i low high (x fs).result (p fs)))

target-wider : (i : ℕ) (o : Option (Typing Valued)) (low high low' high' : ℕ) → low' ≤ low → high ≤ high' → TargetIf i low high o → TargetIf i low' high' o
target-wider i None low high low' high' h m p = tt
target-wider i (Some t) low high low' high' h m p = standing-wider i t low high low' high' h m p

alone-wider : (o : Option QualifiedName) (low high low' high' : ℕ) → low' ≤ low → high ≤ high' → AloneIf low high o → AloneIf low' high' o
alone-wider None low high low' high' h m p = tt
alone-wider (Some q) low high low' high' h m p = (omega arith, let a = p.1 in omega arith)

pub expr-wider : (e : Meaning) (low high low' high' : ℕ) → low' ≤ low → high ≤ high' → ExprInOrder low high e → ExprInOrder low' high' e
expr-wider e low high low' high' h m p = record {
  typed = in-order-wider e low high low' high' h m p.typed;
  as_type = λ k rs. type-wider k.source.instance (e.as_type k) low high low' high' h m (p.as_type k rs);
  as_target = λ k rs. target-wider k.source.instance (e.as_target k) low high low' high' h m (p.as_target k rs);
  alone = alone-wider e.alone low high low' high' h m p.alone;
}

-- a name as a target
actual-target : (k : Context) (of : QualifiedName) (ss : List SelectMeaning) (low high : ℕ) → RoutinesInOrder k → low ≤ qualified_first of → qualified_first of ≤ of.name → of.name < high
    → Each SelectStands (suc of.name) high ss → StandsTyping k.source.instance low high (actual_target k of ss)
actual-target k of ss low high rs h m n p = standing k.source.instance low high (actual_target k of ss) (by (is_net_thing k ss (thing k of)))
  where
    by : (b : Bool) → TypedAs (Stands low high) k.source.instance low high (cond b (broken (At (position k.source (qualified_first of)) 501)) (named_target k true of ss))
    by true = λ fs. place k.source (qualified_first of) low high h (omega arith)
    by false = λ fs.
        as-wider k.source.instance (IsPath low high) (Stands low high) (named_target k true of ss fs).result low high low high (omega arith) (omega arith) (λ v s. s.0)
        (named-stands k true of ss low (suc of.name) high rs h (omega arith) (selects-in-order ss (suc of.name) high p) fs)

alone-by : (of : QualifiedName) (ss : List SelectMeaning) (low high : ℕ) → low ≤ qualified_first of → qualified_first of < high → AloneIf low high (name_alone of ss)
alone-by of [] low high h m = by (is_none of.scope)
  where
    by : (b : Bool) → AloneIf low high (cond b (Some of) None)
    by true = (h, m)
    by false = tt
alone-by of (s ∷ ss) low high h m = tt

pub name-form : (of : QualifiedName) (ss : List SelectMeaning) (low high : ℕ) → low ≤ qualified_first of → qualified_first of ≤ of.name → of.name < high
    → Each SelectStands (suc of.name) high ss → ExprInOrder low high (expr_step (Expr-F.«Expr::Name» of ss None))
name-form of ss low high h m n p = record {
  typed = in-order-wider (expr_step (Expr-F.«Expr::Name» of ss None)) (qualified_first of) high low high h (omega arith) (E.name of ss high m (selects-in-order ss (suc of.name) high p));
  as_type = λ k rs. type-wider k.source.instance (type_of_name k of ss) (suc of.name) high low high (omega arith) (omega arith) (type-named k of ss (suc of.name) high rs p);
  as_target = λ k rs. actual-target k of ss low high rs h m n p;
  alone = alone-by of ss low high h (omega arith);
}

-- a concatenation of targets
abbrev AllTargets : ℕ → ℕ → ℕ → List (Typing Valued) → Type 0
AllTargets i low high xs = Each (λ l h x. StandsTyping i l h x) low high xs

one-more : (i low between high : ℕ) → low ≤ between → between ≤ high → (x : Typing Valued) (o : Option (List (Typing Valued))) → StandsTyping i low between x → IfThere (AllTargets i between high) o
    → IfThere (AllTargets i low high) (option_map (λ ys. x ∷ ys) o)
one-more i low between high h m x None p q = tt
one-more i low between high h m x (Some ys) p q = (between, h, m, p, q)

all-targets : (k : Context) (es : List Meaning) (low high : ℕ) → RoutinesInOrder k → Each ExprInOrder low high es → IfThere (AllTargets k.source.instance low high) (if_all (map (λ (e : Meaning). e.as_target k) es))
all-targets k [] low high rs p = p
all-targets k (e ∷ es) low high rs p = by (e.as_target k) (p.3.as_target k rs) (all-targets k es p.0 high rs p.4)
  where
    by : (o : Option (Typing Valued)) → TargetIf k.source.instance low p.0 o → IfThere (AllTargets k.source.instance p.0 high) (if_all (map (λ (e : Meaning). e.as_target k) es))
        → IfThere (AllTargets k.source.instance low high) (if_all (o ∷ map (λ (e : Meaning). e.as_target k) es))
    by None s q = tt
    by (Some x) s q = one-more k.source.instance low p.0 high p.1 p.2 x (if_all (map (λ (e : Meaning). e.as_target k) es)) s q

packed-typing : (k : Source) (low high : ℕ) (x : Typing Valued) → StandsTyping k.instance low high x → TypedAs Anything k.instance low high (packed_target k x)
packed-typing k low high x p =
    as-checked k.instance (Stands low high) Anything x (λ v. rule (is_packed_target k v)) low high (λ fs. as-stands k.instance low high (x fs).result (p fs))
    (λ v s fs. as-refused k.instance Anything (is_unpacked v.expr.of) (position k v.first) 508 (Ok v) low high (place k v.first low high s.from s.before) tt)

joined-typing : (k : Source) (opening : ℕ) (xs : List (Typing Valued)) (low high : ℕ) → low ≤ opening → opening < high → AllTargets k.instance (suc opening) high xs
    → StandsTyping k.instance low high (checked (all (map (packed_target k) xs)) (λ vs. rule (concat_of k opening (exprs vs))))
joined-typing k opening xs low high h m p =
    standing k.instance low high (checked (all (map (packed_target k) xs)) (λ vs. rule (concat_of k opening (exprs vs))))
    (as-checked k.instance Anything (Stands low high) (all (map (packed_target k) xs)) (λ vs. rule (concat_of k opening (exprs vs))) low high
    (any-from k.instance (Each (λ l h x. Anything x) (suc opening) high) (all (map (packed_target k) xs)) (suc opening) high low high (omega arith) (omega arith)
    (as-all k.instance (λ l h x. Anything x) (map (packed_target k) xs) (suc opening) high
    (each-of (packed_target k) (λ l h x. StandsTyping k.instance l h x) (λ l h x. TypedAs Anything k.instance l h x) (λ l h x s. packed-typing k l h x s) xs (suc opening) high p)))
    (λ vs s fs. too-long k low high (Stands low high) opening (all_bits (exprs vs)) _ h m (leaf k opening low high _ _ h m)))

pub concatenation-form : (opening : ℕ) (es : List Meaning) (closing low high : ℕ) → low ≤ opening → opening < closing → closing < high → Each ExprInOrder (suc opening) closing es
    → ExprInOrder low high (expr_step (Expr-F.Concatenation opening es closing))
concatenation-form opening es closing low high h m n p = record {
  typed = in-order-wider (expr_step (Expr-F.Concatenation opening es closing)) opening (suc closing) low high h n (E.concatenation opening es closing m (all-in-order es (suc opening) closing p));
  as_type = λ k rs. tt;
  as_target = λ k rs. by k (if_all (map (λ (e : Meaning). e.as_target k) es)) (all-targets k es (suc opening) closing rs p);
  alone = tt;
}
  where
    by : (k : Context) (o : Option (List (Typing Valued))) → IfThere (AllTargets k.source.instance (suc opening) closing) o
        → TargetIf k.source.instance low high (option_map (λ xs. checked (all (map (packed_target k.source) xs)) (λ vs. rule (concat_of k.source opening (exprs vs)))) o)
    by k None q = tt
    by k (Some xs) q = standing-wider k.source.instance (checked (all (map (packed_target k.source) xs)) (λ vs. rule (concat_of k.source opening (exprs vs)))) low closing low high (omega arith) (omega arith) (joined-typing k.source opening xs low closing h m q)
